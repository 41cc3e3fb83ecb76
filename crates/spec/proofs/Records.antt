-- The kept count: how a map's count changes through origins, and a record that is true to its map. Assumes nothing.
use Prim.Native.Nat.{ℕ, zero, suc, ◌+◌, ◌≤◌, ◌<◌}
use mathlib.Core.Path.{◌≡◌, refl, sym, ◌∙◌}
use mathlib.Core.List.{List, [], ◌∷◌}
use mathlib.Core.Bool.{Bool, true, false, not, ◌&&◌}
use native.Mathlib.Omega.{arith}
use lib.Dec.{eqb}
use lib.ListN.{length}
use borrow.Author.Tests.{le-ltb, ne_eqb}
use Rattle.spec.specs.Basics.{if, from}
use Rattle.spec.specs.Pictures.{Origin}
use Rattle.spec.specs.Maps.{settled, remap, unsettled, newly_unsettled, newly_settled, recount, miscounts}
use Rattle.spec.specs.Chunks.{Outcome, refused, accepted}
use Rattle.spec.specs.Boards.{Board, TrueRecord, recounted}
use Rattle.spec.proofs.Lists.{one-or-none, none-or-one}
use Rattle.spec.proofs.Origins.{length-remap}
use Rattle.spec.proofs.Sound.{Sound, accepts}

-- one entry, settled or not before and after
one-changes : (x y : Bool) → ◌≡◌ {A = ℕ} (if y 0 1 + if (y && not x) 1 0) (if x 0 1 + if (x && not y) 1 0)
unfolding if
one-changes true true = refl
one-changes true false = refl
one-changes false true = refl
one-changes false false = refl

-- from one map to another of the same length
pub count-changes : (before after : List ℕ) → length before ≡ length after
    → unsettled after + newly_settled before after ≡ unsettled before + newly_unsettled before after
count-changes [] [] e = refl
count-changes [] (y ∷ after) e = absurd (omega (arith, e))
count-changes (x ∷ before) [] e = absurd (omega (arith, e))
count-changes (x ∷ before) (y ∷ after) e =
    let rest = count-changes before after (omega (arith, e)) in
    let one = one-changes (eqb x settled) (eqb y settled) in
    omega (arith, rest, one)

pub unsettled-most : (m : List ℕ) → unsettled m ≤ length m
unsettled-most [] = omega arith
unsettled-most (x ∷ m) = let one = none-or-one (eqb x settled) in let rest = unsettled-most m in omega (arith, one, rest)

-- no more are newly unsettled than there are
pub newly-most : (before after : List ℕ) → newly_unsettled before after ≤ length before
newly-most [] after = omega arith
newly-most (x ∷ before) [] = omega arith
newly-most (x ∷ before) (y ∷ after) =
    let one = one-or-none (eqb x settled && not (eqb y settled)) in
    let rest = newly-most before after in
    omega (arith, one, rest)

-- "it must always equal the count of 01": the new count of a true one is that of the new map
module _ (os : List Origin) (m : List ℕ) (e : length os ≡ length m) where
  changes : unsettled (remap os m) + newly_settled m (remap os m) ≡ unsettled m + newly_unsettled m (remap os m)
  changes = count-changes m (remap os m) (sym (length-remap os m ∙ e))

  pub recount-true : recount os m (unsettled m) ≡ unsettled (remap os m)
  unfolding recount
  recount-true = let c = changes in omega (arith, c)

  -- and is never below 0 or above the number of blocks
  pub never-miscounts : miscounts (length os) os m (unsettled m) ≡ false
  unfolding miscounts
  never-miscounts =
      let c = changes in
      let most = unsettled-most (remap os m) in
      let len = length-remap os m in
      simp (
        le-ltb (unsettled m + newly_unsettled m (remap os m)) (newly_settled m (remap os m)) (omega (arith, c)),
        recount-true,
        le-ltb (length os) (unsettled (remap os m)) (omega (arith, most, len)),
      )

-- a fresh map's count is the number of its entries
unsettled-from : (a n : ℕ) → a + n ≤ settled → unsettled (from a n) ≡ n
unfolding if
unsettled-from a zero h = refl
unsettled-from a (suc n) h = rw (ne_eqb a settled (λ e. omega (arith, e, h)), unsettled-from (suc a) n (omega (arith, h))) (omega arith)

pub fresh-true : (n : ℕ) → n < settled → unsettled (from 0 n) ≡ n
fresh-true n h = unsettled-from 0 n (omega (arith, h))

-- on a board whose record is true, 21 is never given: a chunk means what `decode` says
pub recounted-true : (n : ℕ) (b : Board) → TrueRecord b → length b.map ≡ n → (o : Outcome) → Sound n o → recounted n b o ≡ o
unfolding if
recounted-true n b t e (refused a) x = refl
recounted-true n b t e (accepted os) (accepts g) = rw (t, ← g.size) (rw (never-miscounts os b.map (g.size ∙ sym e)))
