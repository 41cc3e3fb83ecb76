use native.Mathlib.Omega.{arith}
use Rattle.blocks.proofs.Rowwise.{row_of-word}
use Rattle.blocks.proofs.word.Goals as goal

pub returns : goal.returns
returns c = row_of-word _ _ _ _ _ (omega arith) (omega arith) (omega arith) (omega arith) (omega (arith, c.from_le_bytes.ensures))
