-- Padding as the code looks for it: a few bytes, all zero. Assumes nothing.
use Prim.Native.Nat.{ℕ, ◌+◌, ◌-◌, ◌≤◌}
use mathlib.Core.Path.{◌≡◌, refl}
use mathlib.Core.List.{List, [], ◌∷◌}
use native.Mathlib.Omega.{arith}
use lib.Dec.{eqb}
use lib.ListN.{length, take, drop, replicate, length-drop}
use borrow.Author.Tests.{le-leb}
use Rattle.std.specs.List.{list_all}
use Rattle.std.proofs.lemmas.List.{take_all}
use Rattle.spec.specs.Basics.{same}
use Rattle.spec.specs.Chunks.{max_padding, padding}

all-zero : (bs : List ℕ) → list_all (λ x. eqb x 0) bs ≡ same bs (replicate (length bs) 0)
all-zero [] = refl
all-zero (b ∷ bs) = rw (all-zero bs)

pub padding-zeros : (s : List ℕ) (at : ℕ) → length s ≤ at + max_padding → list_all (λ x. eqb x 0) (take (length s - at) (drop at s)) ≡ padding (drop at s)
unfolding padding
padding-zeros s at h =
    let few : length (drop at s) ≤ max_padding = rw length-drop (omega arith) in
    rw (take_all (length s - at) (drop at s) (rw length-drop (omega arith)), le-leb (length (drop at s)) max_padding few, all-zero (drop at s))
