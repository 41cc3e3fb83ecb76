use native.Mathlib.Nat.{add-zero}
use Rattle.spec.specs.Pictures.{place}
use Rattle.blocks.proofs.place_of.Goals as goal

pub returns : goal.returns
unfolding place
returns c = simp add-zero
