-- Laws of choices, of lists, and of `from`, `Every` and `Among`. Assumes nothing.
use Prim.Native.Nat.{ℕ, zero, suc, ◌+◌, ◌<◌, ◌≤◌}
use mathlib.Core.Path.{◌≡◌, refl, sym, ap, ◌∙◌}
use mathlib.Core.Logic.{◌≢◌}
use mathlib.Core.List.{List, [], ◌∷◌, ◌++◌, map, map-append}
use mathlib.Core.Bool.{Bool, true, false, and-eq-true_iff, true≢false}
use native.Mathlib.Nat.{le_of_suc-le-suc, not-suc-le-zero, add-zero, zero-add, suc-add, add-suc}
use native.Mathlib.Decide.{dec_lt}
use native.Mathlib.Omega.{arith}
use lib.Dec.{eqb}
use lib.ListN.{length, get_or, set, take, drop, replicate}
use borrow.Author.Tests.{eq-eqb, eqb-true}
use Rattle.spec.specs.declared.Answer.{Answer}
use Rattle.spec.specs.Answers.{answer, checked}
use Rattle.spec.specs.Basics.{if, from, same, Every, none, also, Among, here, there}

-- a property of a choice: in each branch its test is known
pub by-test {ℓ} : {A : Type ℓ} (P : A → Type 0) (b : Bool) {x y : A} → (b ≡ true → P x) → (b ≡ false → P y) → P (if b x y)
unfolding if
by-test P true f g = f refl
by-test P false f g = g refl

-- one or none, by a test, either way round
pub one-or-none : (b : Bool) → if b 1 0 ≤ 1
one-or-none b = by-test (λ (n : ℕ). n ≤ 1) b (λ t. omega arith) (λ t. omega arith)

pub none-or-one : (b : Bool) → if b 0 1 ≤ 1
none-or-one b = by-test (λ (n : ℕ). n ≤ 1) b (λ t. omega arith) (λ t. omega arith)

-- a choice of what a function makes is what it makes of a choice
pub if-along {ℓ κ} : {A : Type ℓ} {B : Type κ} (f : A → B) (b : Bool) {x y : A} {u v : B} → u ≡ f x → v ≡ f y → if b u v ≡ f (if b x y)
unfolding if
if-along f true p q = p
if-along f false p q = q

pub if-apply {ℓ κ} : {A : Type ℓ} {B : Type κ} (f : A → B) (b : Bool) (x y : A) → f (if b x y) ≡ if b (f x) (f y)
if-apply f b x y = sym (if-along f b refl refl)

-- a property of what is done after 1 and 2 have been looked for: in each branch the number is known
pub by_number : {A : Type 0} (P : A → Type 0) (n : ℕ) (refuse : Answer → A) {go : A} → (n ≢ 0 → P (refuse (answer n 0))) → (n ≡ 0 → P go)
    → P (checked n refuse go)
unfolding checked
by_number P zero refuse f g = g refl
by_number P (suc n) refuse f g = f (λ e. omega (arith, e))

-- where it does not matter
pub by-checked : {A : Type 0} (P : A → Type 0) (n : ℕ) {refuse : Answer → A} {go : A} → ((a : Answer) → P (refuse a)) → P go → P (checked n refuse go)
by-checked P n {refuse} f g = by_number P n refuse (λ h. f (answer n 0)) (λ e. g)

-- the same check on both sides
pub checked-along : {A B : Type 0} (f : A → B) (n : ℕ) (refuse : Answer → A) (refuse' : Answer → B) {go : A} {go' : B}
    → (n ≢ 0 → refuse' (answer n 0) ≡ f (refuse (answer n 0))) → (n ≡ 0 → go' ≡ f go) → checked n refuse' go' ≡ f (checked n refuse go)
unfolding checked
checked-along f zero refuse refuse' p q = q refl
checked-along f (suc n) refuse refuse' p q = p (λ e. omega (arith, e))

-- where the number is known
pub checked-none : {A : Type 0} (n : ℕ) (refuse : Answer → A) (go : A) → n ≡ 0 → checked n refuse go ≡ go
unfolding checked
checked-none n refuse go e = rw e

pub checked_refused : {A : Type 0} (n : ℕ) (refuse : Answer → A) (go : A) → n ≢ 0 → checked n refuse go ≡ refuse (answer n 0)
unfolding checked
checked_refused zero refuse go h = absurd (h refl)
checked_refused (suc n) refuse go h = refl

module _ {ℓ} {A : Type ℓ} {P : A → Type 0} where
  pub every_append : {l l' : List A} → Every P l → Every P l' → Every P (l ++ l')
  every_append none e' = e'
  every_append (also h e) e' = also h (every_append e e')

  pub every-get_or : {l : List A} (i : ℕ) (d : A) → Every P l → P d → P (get_or l i d)
  every-get_or i d none h = h
  every-get_or zero d (also h e) h' = h
  every-get_or (suc i) d (also h e) h' = every-get_or i d e h'

  pub every_map {κ} : {B : Type κ} (f : B → A) {l : List B} → Every (λ b. P (f b)) l → Every P (map f l)
  every_map f none = none
  every_map f (also h e) = also h (every_map f e)

  pub every-all : (l : List A) → ((a : A) → P a) → Every P l
  every-all [] h = none
  every-all (x ∷ l) h = also (h x) (every-all l h)

  pub every-replicate : (n : ℕ) (a : A) → P a → Every P (replicate n a)
  every-replicate zero a h = none
  every-replicate (suc n) a h = also h (every-replicate n a h)

  pub every_take : (n : ℕ) {l : List A} → Every P l → Every P (take n l)
  every_take zero e = none
  every_take (suc n) none = none
  every_take (suc n) (also h e) = also h (every_take n e)

  pub every_drop : (n : ℕ) {l : List A} → Every P l → Every P (drop n l)
  every_drop zero e = e
  every_drop (suc n) none = none
  every_drop (suc n) (also h e) = every_drop n e

  -- within the list no default is needed
  pub every-at : (l : List A) (i : ℕ) (d : A) → Every P l → i < length l → P (get_or l i d)
  every-at l i d none h = absurd (omega arith)
  every-at l zero d (also p e) h = p
  every-at l (suc i) d (also {xs} p e) h = every-at xs i d e (omega arith)

pub every-weaken {ℓ} : {A : Type ℓ} {P Q : A → Type 0} {l : List A} → ((a : A) → P a → Q a) → Every P l → Every Q l
every-weaken h none = none
every-weaken h (also {x} p e) = also (h x p) (every-weaken h e)

pub length_from : (a m : ℕ) → length (from a m) ≡ m
length_from a zero = refl
length_from a (suc m) = ap suc (length_from (suc a) m)

pub get_or-from : (a m i d : ℕ) → i < m → get_or (from a m) i d ≡ a + i
get_or-from a zero i d h = absurd (not-suc-le-zero h)
get_or-from a (suc m) zero d h = sym (add-zero a)
get_or-from a (suc m) (suc i) d h = get_or-from (suc a) m i d (le_of_suc-le-suc h) ∙ omega arith

pub every-from : (a m n : ℕ) → a + m ≤ n → Every (λ (i : ℕ). i < n) (from a m)
every-from a zero n h = none
every-from a (suc m) n h = also {x = a} (omega arith) (every-from (suc a) m n (omega arith))

-- an element of a mapped list, in range: the defaults do not matter
pub get_d_map {ℓ κ} : {A : Type ℓ} {B : Type κ} (f : A → B) (l : List A) (i : ℕ) (d : B) (d' : A) → i < length l → get_or (map f l) i d ≡ f (get_or l i d')
get_d_map f [] i d d' h = absurd (not-suc-le-zero h)
get_d_map f (x ∷ l) zero d d' h = refl
get_d_map f (x ∷ l) (suc i) d d' h = get_d_map f l i d d' (le_of_suc-le-suc h)

pub map-congr {ℓ} : {A : Type ℓ} {B : Type 0} {f g : A → B} {l : List A} → Every (λ a. f a ≡ g a) l → map f l ≡ map g l
map-congr none = refl
map-congr (also h e) = let t = map-congr e in λ i. h i ∷ t i

-- an element of a list given by a rule
pub get_or-rule {ℓ} : {A : Type ℓ} (f : ℕ → A) (n p : ℕ) (d : A) → p < n → get_or (map f (from 0 n)) p d ≡ f p
get_or-rule f n p d h =
    get_d_map f (from 0 n) p d 0 (rw length_from h) ∙ ap f (get_or-from 0 n p 0 h ∙ zero-add p)

pub map-set : {A B : Type 0} (f : A → B) (l : List A) (i : ℕ) (a : A) → map f (set l i a) ≡ set (map f l) i (f a)
map-set f [] i a = refl
map-set f (x ∷ l) zero a = refl
map-set f (x ∷ l) (suc i) a = ap (λ t. f x ∷ t) (map-set f l i a)

pub every_set : {A : Type 0} {P : A → Type 0} {l : List A} (i : ℕ) (a : A) → Every P l → P a → Every P (set l i a)
every_set i a none h = none
every_set zero a (also p e) h = also h e
every_set (suc i) a (also p e) h = also p (every_set i a e h)

-- one number more, at the end
pub from_more : (a m : ℕ) → from a (suc m) ≡ from a m ++ (a + m) ∷ []
from_more a zero = rw add-zero
from_more a (suc m) = ap (λ (l : List ℕ). a ∷ l) (from_more (suc a) m ∙ rw (suc-add a m, add-suc a m))

pub from-zero-more : (m : ℕ) → from 0 (suc m) ≡ from 0 m ++ m ∷ []
from-zero-more m = from_more 0 m ∙ rw (zero-add m)

-- a list given by a rule, with one element more
pub rule-more {ℓ} : {A : Type ℓ} (f : ℕ → A) (m : ℕ) → map f (from 0 (suc m)) ≡ map f (from 0 m) ++ f m ∷ []
rule-more f m = ap (map f) (from-zero-more m) ∙ map-append f (from 0 m) (m ∷ [])

-- two lists that the test finds the same are equal
pub same_lists : (xs ys : List ℕ) → same xs ys ≡ true → xs ≡ ys
same_lists [] [] t = refl
same_lists [] (y ∷ ys) t = absurd (true≢false (sym t))
same_lists (x ∷ xs) [] t = absurd (true≢false (sym t))
same_lists (x ∷ xs) (y ∷ ys) t =
    let both = (and-eq-true_iff (eqb x y) (same xs ys)).0 t in
    let e = eqb-true x y both.0 in
    let r = same_lists xs ys both.1 in
    λ i. e i ∷ r i

pub same_self : (l : List ℕ) → same l l ≡ true
same_self [] = refl
same_self (x ∷ l) = rw (eq-eqb x x refl, same_self l)

-- a number in a range is one of the range's
pub among-from : (a m x : ℕ) → a ≤ x → x < a + m → Among x (from a m)
among-from a zero x l h = absurd (omega arith)
among-from a (suc m) x l h = by (dec_lt a x) (λ more. among-from (suc a) m x more (omega arith))
  where
    by : Dec (a < x) → (a < x → Among x (from (suc a) m)) → Among x (from a (suc m))
    by (yes more) f = there (f more)
    by (no same) f = let e : a ≡ x = omega arith in rw e here
