-- A pixel's entry among those that rise is how many of them are below it. Assumes nothing.
use Prim.Native.Nat.{ℕ, suc, ◌+◌, ◌-◌, ◌^◌, ◌<◌, ◌≤◌}
use mathlib.Core.Bool.{cond}
use mathlib.Core.Path.{◌≡◌, refl, ap, ◌∙◌}
use mathlib.Core.List.{List, ◌∷◌, ◌++◌}
use native.Mathlib.Nat.{le_trans}
use native.Mathlib.Omega.{arith}
use lib.Dec.{ltb}
use lib.ListN.{length, get_or, replicate}
use borrow.Author.Tests.{lt-ltb, le-ltb, eq-eqb, ne_eqb}
use Rattle.std.proofs.lemmas.List.Sums.{sum_by-cons}
use Rattle.spec.specs.Basics.{if, Every, none, also}
use Rattle.spec.specs.Writing.{colours, entries, entry_of}
use Rattle.spec.proofs.Lists.{every-weaken, every_append, every-replicate}
use Rattle.spec.proofs.Colours.{Has, here, there, has-colours}
use Rattle.smc_writer.specs.Colours.{Rising, nil, next}
use Rattle.smc_writer.specs.Flags.{under}
use Rattle.smc_writer.proofs.Rising.{rising-colours}

-- one entry more: below the colour, or not
module _ (p x : ℕ) (xs : List ℕ) where
  under-cons : under (x ∷ xs) p ≡ cond (ltb x p) 1 0 + under xs p
  under-cons = sum_by-cons (λ (y : ℕ). cond (ltb y p) 1 0) x xs

  under-below : x < p → under (x ∷ xs) p ≡ suc (under xs p)
  under-below h = under-cons ∙ rw (lt-ltb x p h) (omega arith)

  under-not : p ≤ x → under (x ∷ xs) p ≡ under xs p
  under-not h = under-cons ∙ rw (le-ltb x p h) (omega arith)

-- where none is below, and where the colour is among those that rise: those before it are below, and no others
under_none : (p : ℕ) {l : List ℕ} → Every (λ (x : ℕ). p ≤ x) l → under l p ≡ 0
under_none p none = refl
under_none p (also {x} {xs} h e) = under-not p x xs h ∙ under_none p e

has_above : {x p : ℕ} {l : List ℕ} → Every (λ (y : ℕ). x < y) l → Has p l → x < p
has_above {p = p} none x4 = elim x4 [ ]
has_above (also h e) (here q) = omega arith
has_above (also h e) (there g) = has_above e g

under-entry : {p : ℕ} {cs : List ℕ} (more : List ℕ) → Every (λ (y : ℕ). p ≤ y) more → Rising cs → Has p cs → under (cs ++ more) p ≡ entry_of (cs ++ more) p
unfolding entry_of if
under-entry {p = p} more m nil x5 = elim x5 [ ]
under-entry {p} more m (next {x} {xs} e r) (here q) =
    rw (eq-eqb x p q) (under-not p x (xs ++ more) (omega arith) ∙ under_none p (every_append (every-weaken (λ (y : ℕ) h. omega arith) e) m))
under-entry {p} more m (next {x} {xs} e r) (there h) =
    let l = has_above e h in
    rw (ne_eqb x p (omega arith)) (under-below p x (xs ++ more) l ∙ ap suc (under-entry more m r h))

-- no colour is above the last
last-past : (x y : ℕ) (l : List ℕ) → get_or (x ∷ y ∷ l) (length (x ∷ y ∷ l) - 1) 0 ≡ get_or (y ∷ l) (length (y ∷ l) - 1) 0
last-past x y l =
    let e : suc (suc (length l)) - 1 ≡ suc (suc (length l) - 1) = omega arith in
    ap (λ (i : ℕ). get_or (x ∷ y ∷ l) i 0) e

last-most : {p : ℕ} {cs : List ℕ} → Rising cs → Has p cs → p ≤ get_or cs (length cs - 1) 0
last-most {p = p} nil x3 = elim x3 [ ]
last-most (next none r) (here q) = omega arith
last-most {p = p} (next {x = x} none r) (there g) = elim g [ ]
last-most (next {x} (also {x = y} {xs} h e) r) (here q) = rw (last-past x y xs) (le_trans (omega arith) (last-most r (here {x = y} refl)))
last-most (next {x} (also {x = y} {xs} h e) r) (there g) = rw (last-past x y xs) (last-most r g)

pub under-entries : (bits : ℕ) (px : List ℕ) → Every (λ (p : ℕ). under (entries bits (colours px)) p ≡ entry_of (entries bits (colours px)) p) px
unfolding entries
under-entries bits px =
    let cs = colours px in
    let r = rising-colours px in
    let more = replicate (2 ^ bits - length cs) (get_or cs (length cs - 1) 0) in
    every-weaken (λ p h. under-entry more (every-replicate (2 ^ bits - length cs) (get_or cs (length cs - 1) 0) (last-most r h)) r h) (has-colours px)
