-- The few general notions that the definitions are written in. Assumes nothing.
use Rattle.std.specs.Prelude.{ℕ, zero, suc, List, [], ◌∷◌, Bool, true, false, ◌&&◌, eqb, take, drop}

-- a choice by a test. Shut, so that laws about it are found by unification (`by-test` of proofs/Lists)
unfoldable pub if {ℓ} : {A : Type ℓ} → Bool → A → A → A
if true x y = x
if false x y = y

-- turn after turn while the test holds, at most so many of them, and then `finish`. Where each turn leaves less to do, the fuel never
-- matters once there is enough (proofs/Fuel)
unfoldable pub fuelled : {S R : Type 0} → (S → Bool) → ((S → R) → S → R) → (S → R) → ℕ → S → R
fuelled test turn finish zero st = finish st
fuelled test turn finish (suc fuel) st =
    let next = turn (λ st'. fuelled test turn finish fuel st') st in
    if (test st) next (finish st)

-- the numbers a, a + 1, .., m of them
abbrev pub from : ℕ → ℕ → List ℕ
from a zero = []
from a (suc m) = a ∷ from (suc a) m

-- n elements of a list from a place on
abbrev pub part : List ℕ → ℕ → ℕ → List ℕ
part s at n = take n (drop at s)

-- whether two lists are the same, by a test of their elements; and of numbers
abbrev pub same_by : {A : Type 0} → (A → A → Bool) → List A → List A → Bool
same_by test [] [] = true
same_by test [] (y ∷ ys) = false
same_by test (x ∷ xs) [] = false
same_by test (x ∷ xs) (y ∷ ys) = test x y && same_by test xs ys

abbrev pub same : List ℕ → List ℕ → Bool
same xs ys = same_by eqb xs ys

-- every element has the property
pub data Every {ℓ} {A : Type ℓ} (P : A → Type 0) : List A → Type ℓ where
  none : Every P []
  also : {x : A} {xs : List A} → P x → Every P xs → Every P (x ∷ xs)

-- it is one of these
pub data Among {A : Type 0} (x : A) : List A → Type 0 where
  here : {xs : List A} → Among x (x ∷ xs)
  there : {y : A} {xs : List A} → Among x xs → Among x (y ∷ xs)
