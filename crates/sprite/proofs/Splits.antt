-- Case analysis that the proofs of this crate go by. Assumes nothing.
use Prim.Native.Nat.{ℕ, ◌<◌, ◌≤◌}
use mathlib.Core.Path.{◌≡◌, refl}
use mathlib.Core.Bool.{Bool, true, false}
use lib.Dec.{ltb}
use borrow.Author.Tests.{ltb-true, ltb-false}

-- of two cases one holds, and of three
pub split : {P : Type 0} (b : Bool) → (b ≡ true → P) → (b ≡ false → P) → P
split true f g = f refl
split false f g = g refl

pub split_at : {P : Type 0} (i n m : ℕ) → (i < n → P) → (n ≤ i → i < m → P) → (m ≤ i → P) → P
split_at i n m f g k =
    split (ltb i n) (λ t. f (ltb-true i n t)) (λ t.
    split (ltb i m) (λ u. g (ltb-false i n t) (ltb-true i m u)) (λ u. k (ltb-false i m u)))
