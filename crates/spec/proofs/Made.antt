-- What an opcode makes, block by block: as many blocks as it counts, and a run with one more. Assumes nothing.
use Prim.Native.Nat.{ℕ, zero, suc, ◌+◌, ◌-◌}
use mathlib.Core.Path.{◌≡◌, refl, ◌∙◌}
use mathlib.Core.List.{List, [], ◌∷◌, ◌++◌}
use native.Mathlib.Omega.{arith}
use lib.ListN.{length, get_or, length-append, length-map}
use Rattle.spec.specs.Pictures.{Origin, held}
use Rattle.spec.specs.Chunks.{Kind, skip, fill, whole, copy, store, named, State, copies, blocks_by, extend}
use Rattle.spec.proofs.Lists.{length_from}

pub length-copies : (d m : ℕ) (made : List Origin) → length (copies d m made) ≡ length made + m
length-copies d zero made = omega arith
length-copies d (suc m) made = length-copies d m _ ∙ rw length-append (omega arith)

pub length-extend : (k : Kind) (hs s : List ℕ) (at m : ℕ) (st : State) → length (extend k hs s at m st) ≡ length st.made + m
unfolding extend blocks_by
length-extend skip hs s at m st = simp (length-append, length-map, length_from)
length-extend fill hs s at m st = simp (length-append, length-map, length_from)
length-extend whole hs s at m st = simp (length-append, length-map, length_from)
length-extend (copy d) hs s at m st = length-copies d m st.made
length-extend (store b) hs s at m st = simp (length-append, length-map, length_from)
length-extend (named b) hs s at m st = simp (length-append, length-map, length_from)

-- one copy more, at the end
pub copies-more : (d m : ℕ) (made : List Origin)
    → copies d (suc m) made ≡ copies d m made ++ get_or (copies d m made) (length (copies d m made) - d) (held 0) ∷ []
copies-more d zero made = refl
copies-more d (suc m) made = copies-more d m (made ++ get_or made (length made - d) (held 0) ∷ [])
