-- A block's colours: each pixel has its entry among those stored, so flags read back give the block. Assumes nothing.
use Prim.Native.Nat.{ℕ, suc, ◌^◌, ◌<◌, ◌≤◌}
use mathlib.Core.Path.{◌≡◌, refl, sym, ap, ◌∙◌}
use mathlib.Core.List.{List, [], ◌∷◌, ◌++◌, map}
use mathlib.Core.Bool.{true}
use native.Mathlib.Omega.{arith}
use lib.Dec.{eqb, ltb}
use lib.ListN.{length, get_or, replicate, length-append, length-replicate, length-map}
use borrow.Author.Tests.{eqb-true, eqb-false, leb-true}
use Rattle.spec.specs.Basics.{Every, none, also}
use Rattle.spec.specs.Flags.{chosen, flags, flag_bytes}
use Rattle.spec.specs.Writing.{insert, colours, entries, entry_of, plain}
use Rattle.spec.proofs.Lists.{by-test, every-weaken, every_map, every-at}
use Rattle.spec.proofs.Packing.{flags-back}

pub data Has (p : ℕ) : List ℕ → Type 0 where
  here : {x : ℕ} {l : List ℕ} → x ≡ p → Has p (x ∷ l)
  there : {x : ℕ} {l : List ℕ} → Has p l → Has p (x ∷ l)

has-append : {p : ℕ} {l : List ℕ} (more : List ℕ) → Has p l → Has p (l ++ more)
has-append more (here e) = here e
has-append more (there h) = there (has-append more h)

has_new : (p : ℕ) (ys : List ℕ) → Has p (insert p ys)
unfolding insert
has_new p [] = here refl
has_new p (y ∷ ys) =
    by-test (Has p) (eqb p y) (λ t. here (sym (eqb-true p y t))) (λ t.
    by-test (Has p) (ltb p y) (λ t. here refl) (λ t. there (has_new p ys)))

has-old : {p : ℕ} (x : ℕ) {ys : List ℕ} → Has p ys → Has p (insert x ys)
unfolding insert
has-old {p} x (here {x = y} e) =
    by-test (Has p) (eqb x y) (λ t. here e) (λ t. by-test (Has p) (ltb x y) (λ t. there (here e)) (λ t. here e))
has-old {p} x (there {x = y} h) =
    by-test (Has p) (eqb x y) (λ t. there h) (λ t. by-test (Has p) (ltb x y) (λ t. there (there h)) (λ t. there (has-old x h)))

-- every pixel is among the colours
pub has-colours : (px : List ℕ) → Every (λ p. Has p (colours px)) px
unfolding colours
has-colours [] = none
has-colours (x ∷ px) = also (has_new x (colours px)) (every-weaken (λ p h. has-old x h) (has-colours px))

has_some : {p : ℕ} {l : List ℕ} → Has p l → 1 ≤ length l
has_some (here e) = omega arith
has_some (there h) = omega arith

pub colours-some : (px : List ℕ) → 1 ≤ length px → 1 ≤ length (colours px)
colours-some px h = has_some (every-at px 0 0 (has-colours px) h)

-- the entry that a pixel names holds it, and is there
pub entry-fits : {p : ℕ} {cs : List ℕ} → Has p cs → get_or cs (entry_of cs p) 0 ≡ p
unfolding entry_of
entry-fits {p} (here {x} {l} e) = by-test (λ (i : ℕ). get_or (x ∷ l) i 0 ≡ p) (eqb x p) (λ t. e) (λ t. absurd (eqb-false x p t e))
entry-fits {p} (there {x} {l} h) = by-test (λ (i : ℕ). get_or (x ∷ l) i 0 ≡ p) (eqb x p) (λ t. eqb-true x p t) (λ t. entry-fits h)

pub entry-below : {p : ℕ} {cs : List ℕ} → Has p cs → entry_of cs p < length cs
unfolding entry_of
entry-below {p} (here {x} {l} e) = by-test (λ (i : ℕ). i < suc (length l)) (eqb x p) (λ t. omega arith) (λ t. absurd (eqb-false x p t e))
entry-below {p} (there {x} {l} h) =
    let b = entry-below h in
    by-test (λ (i : ℕ). i < suc (length l)) (eqb x p) (λ t. omega arith) (λ t. omega arith)

-- the stored colours are as many as the table asks for, and each pixel is among them
pub length-entries : (bits : ℕ) (cs : List ℕ) → length cs ≤ 2 ^ bits → length (entries bits cs) ≡ 2 ^ bits
unfolding entries
length-entries bits cs fits = simp (length-append, length-replicate) (omega arith)

pub has-entries : (bits : ℕ) (px : List ℕ) → Every (λ p. Has p (entries bits (colours px))) px
unfolding entries
has-entries bits px = every-weaken (λ p h. has-append _ h) (has-colours px)

named_back : (es : List ℕ) {px : List ℕ} → Every (λ p. Has p es) px → chosen (map (entry_of es) px) es ≡ px
named_back es none = refl
named_back es (also h e) = let t = named_back es e in λ i. entry-fits h i ∷ t i

-- the sixteen pixels, from the stored colours and the flags read back
pub pixels-back : (bits : ℕ) → bits ≤ 3 → (es px : List ℕ) → length es ≡ 2 ^ bits → length px ≡ 16 → Every (λ p. Has p es) px
    → chosen (flags bits (flag_bytes bits (map (entry_of es) px))) es ≡ px
pixels-back bits b es px l e h =
    let small : Every (λ (i : ℕ). i < 2 ^ bits) (map (entry_of es) px) =
    every_map (entry_of es) (every-weaken (λ p g. rw l at (entry-below {p = p} {cs = es} g)) h) in
    rw (flags-back bits b (map (entry_of es) px) (length-map px (entry_of es) ∙ e) small) (named_back es h)

-- a block of one colour
only_one : {p q : ℕ} {cs : List ℕ} → length cs ≤ 1 → Has p cs → Has q cs → p ≡ q
only_one l (here e) (here e') = sym e ∙ e'
only_one l (here e) (there h) = absurd (omega (arith, has_some h))
only_one l (there g) h = absurd (omega (arith, has_some g))

all_one : (c : ℕ) {px : List ℕ} → Every (λ (p : ℕ). p ≡ c) px → px ≡ replicate (length px) c
all_one c none = refl
all_one c (also h e) = let t = all_one c e in λ i. h i ∷ t i

pub plain-all : (px : List ℕ) → length px ≡ 16 → plain px ≡ true → px ≡ replicate 16 (get_or px 0 0)
unfolding plain
plain-all px l t =
    let has = has-colours px in
    let first = every-at px 0 0 has (omega arith) in
    all_one (get_or px 0 0) (every-weaken (λ p h. only_one (leb-true _ _ t) h first) has) ∙ ap (λ (n : ℕ). replicate n (get_or px 0 0)) l
