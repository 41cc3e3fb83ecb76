-- Padding, as a walk over the bytes behind the last block comes to know it: at s[at]. Assumes nothing.
use Prim.Native.Nat.{ℕ, suc, ◌+◌, ◌<◌, ◌≤◌}
use mathlib.Core.Path.{◌≡◌}
use mathlib.Core.Logic.{◌≢◌}
use mathlib.Core.List.{List}
use mathlib.Core.Bool.{true, false, and-false}
use native.Mathlib.Numerals.{add-one}
use native.Mathlib.Omega.{arith}
use lib.ListN.{length, get_or, drop, length-drop, drop_of_length-le}
use lib.Seq.{drop-cons}
use borrow.Author.Tests.{le-leb, lt-leb, eq-eqb, ne_eqb}
use Rattle.spec.specs.Chunks.{max_padding, padding}

module _ (s : List ℕ) (at : ℕ) where
  pub padding-none : length s ≤ at → padding (drop at s) ≡ true
  unfolding padding
  padding-none h = rw (drop_of_length-le s h)

  pub padding-over : at + max_padding < length s → padding (drop at s) ≡ false
  unfolding padding
  padding-over h = rw (lt-leb (length (drop at s)) max_padding (rw length-drop (omega arith)))

  pub padding-other : at < length s → get_or s at 0 ≢ 0 → padding (drop at s) ≡ false
  unfolding padding
  padding-other h e = rw (drop-cons s at 0 h, ne_eqb (get_or s at 0) 0 e, and-false)

  pub padding-next : at < length s → length s ≤ at + max_padding → get_or s at 0 ≡ 0 → padding (drop at s) ≡ padding (drop (at + 1) s)
  unfolding padding
  padding-next h l e =
      rw (
        add-one,
        drop-cons s at 0 h,
        eq-eqb (get_or s at 0) 0 e,
        le-leb (suc (length (drop (suc at) s))) max_padding (rw length-drop (omega arith)),
        le-leb (length (drop (suc at) s)) max_padding (rw length-drop (omega arith)),
      )
