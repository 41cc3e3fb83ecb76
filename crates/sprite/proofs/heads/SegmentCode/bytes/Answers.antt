use Rattle.spec.specs.Basics.{if}
use Rattle.spec.proofs.Cases.{cases}
use Rattle.sprite.specs.Frames.{segment_bytes}
use Rattle.sprite.proofs.heads.SegmentCode.bytes.Goals as goal

pub returns-in-Clear : goal.returns-in-Clear
unfolding segment_bytes if
returns-in-Clear c = search cases

pub returns-in-Run : goal.returns-in-Run
unfolding segment_bytes if
returns-in-Run c = search cases

pub returns-in-Copy : goal.returns-in-Copy
unfolding segment_bytes if
returns-in-Copy c = search cases
