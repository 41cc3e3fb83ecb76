-- A house number, group by group: what the loop that reads it keeps. Assumes nothing.
use Prim.Native.Nat.{ℕ, zero, suc, ◌+◌, ◌-◌, ◌*◌, ◌<◌, ◌≤◌}
use mathlib.Core.Path.{◌≡◌, refl, ◌∙◌}
use mathlib.Core.List.{List}
use native.Mathlib.Nat.{mul_assoc, mul-le-mul_right, mul-le-mul_left}
use native.Mathlib.Omega.{arith}
use lib.Dec.{leb}
use lib.ListN.{length, get_or}
use borrow.Author.Tests.{le-leb, lt-leb}
use Rattle.spec.specs.Feeds.Varint.{Bad}
use Rattle.spec.specs.Basics.{if}
use Rattle.spec.specs.Answers.{bad_varint, feed_cut}
use Rattle.spec.specs.Feeds.{last_group, groups, varint_at}

-- what so many groups are worth
abbrev worth : ℕ → ℕ
worth zero = 1
worth (suc more) = 128 * worth more

worth-some : (more : ℕ) → 1 ≤ worth more
worth-some zero = omega arith
worth-some (suc more) = let some = worth-some more in omega arith

-- the number at `at` is that of the groups from `place` on, so many of them, with `sum` from those before
pub record Grouping (s : List ℕ) (at more scale sum place : ℕ) : Type 0 where
  pub whole : scale * worth more ≡ worth 4
  pub sum-small : sum ≤ scale
  pub same : varint_at s at ≡ groups more scale sum s place

pub grouping-none : (s : List ℕ) (at : ℕ) → Grouping s at 4 1 0 at
unfolding varint_at
grouping-none s at = record { whole = refl; sum-small = omega arith; same = refl }

-- one group
turn : (more scale sum : ℕ) (s : List ℕ) (at : ℕ) → 0 < more
    → let b = get_or s at 0 in
    groups more scale sum s at
    ≡ if (leb (length s) at) (Bad feed_cut)
    (if (leb 128 b) (groups (more - 1) (scale * 128) (sum + (b - 128) * scale) s (at + 1)) (last_group scale b (sum + b * scale) (at + 1)))
unfolding groups
turn zero scale sum s at h = absurd (omega arith)
turn (suc more) scale sum s at h = let e : suc more - 1 ≡ more = omega arith in rw e

less-worth : (more scale : ℕ) → 0 < more → scale * 128 * worth (more - 1) ≡ scale * worth more
less-worth zero scale h = absurd (omega arith)
less-worth (suc more) scale h = let e : suc more - 1 ≡ more = omega arith in rw e (mul_assoc scale 128 (worth more))

module _ {s : List ℕ} {at more scale sum place : ℕ} (g : Grouping s at more scale sum place) where
  pub scale_small : scale ≤ worth 4
  scale_small = omega (arith, g.whole, mul-le-mul_left {m = 1} {n = worth more} scale (worth-some more))

  -- no product and no sum leaves 64 bits
  pub product-fits : (b : ℕ) → b < 128 → b * scale < 18446744073709551616
  product-fits b h = omega (arith, scale_small, mul-le-mul_right {m = b} {n = 127} scale (omega arith))

  pub sum_fits : (b : ℕ) → b < 128 → sum + b * scale < 18446744073709551616
  sum_fits b h = omega (arith, g.sum-small, scale_small, mul-le-mul_right {m = b} {n = 127} scale (omega arith))

  pub grouping-cut : 0 < more → length s ≤ place → varint_at s at ≡ Bad feed_cut
  unfolding if
  grouping-cut h l = g.same ∙ turn more scale sum s place h ∙ rw (le-leb (length s) place l)

  pub grouping-last : 0 < more → place < length s → get_or s place 0 < 128
      → varint_at s at ≡ last_group scale (get_or s place 0) (sum + get_or s place 0 * scale) (place + 1)
  unfolding if
  grouping-last h l m = g.same ∙ turn more scale sum s place h ∙ rw (lt-leb (length s) place l, lt-leb 128 (get_or s place 0) m)

  pub grouping-more : 0 < more → place < length s → 128 ≤ get_or s place 0 → get_or s place 0 < 256
      → Grouping s at (more - 1) (scale * 128) (sum + (get_or s place 0 - 128) * scale) (place + 1)
  unfolding if
  grouping-more h l m n =
      record {
        whole = less-worth more scale h ∙ g.whole;
        sum-small = omega (arith, g.sum-small, mul-le-mul_right {m = get_or s place 0 - 128} {n = 127} scale (omega arith));
        same = g.same ∙ turn more scale sum s place h ∙ rw (lt-leb (length s) place l, le-leb 128 (get_or s place 0) m);
      }

  pub grouping-end : more ≡ 0 → varint_at s at ≡ Bad bad_varint
  unfolding groups
  grouping-end h = g.same ∙ rw h
