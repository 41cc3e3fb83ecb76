-- What stands at a place of a feed, by what the code has found there: the end, or a length number and whether its chunk is whole. Assumes nothing.
use Prim.Native.Nat.{ℕ, ◌+◌, ◌<◌, ◌≤◌}
use mathlib.Core.Path.{◌≡◌, refl}
use mathlib.Core.List.{List, [], ◌∷◌}
use lib.ListN.{length}
use borrow.Author.Tests.{lt-ltb, le-ltb}
use Rattle.spec.specs.Feeds.Varint.{Bad, Value}
use Rattle.spec.specs.Basics.{if}
use Rattle.spec.specs.declared.Refusal.{Refusal}
use Rattle.spec.specs.Answers.{ok, feed_cut, refusal_number}
use Rattle.spec.specs.Feeds.{varint_at, varint_says, whole, cut, chunk, end, next_at}
use Rattle.spec.proofs.Varints.{found_number, Got, varint-got}

module _ (s : List ℕ) (at : ℕ) where
  pub none-stands : length s ≤ at → next_at s at ≡ end (whole (length s))
  unfolding next_at if
  none-stands h = rw (le-ltb at (length s) h)

  -- a number that the code could not read, and one that it has read
  pub bad-read : (why : Refusal) → refusal_number why ∷ [] ≡ varint_says (varint_at s at) → varint_at s at ≡ Bad (refusal_number why)
  bad-read why says = found_number s at {x = Bad (refusal_number why)} says refl

  pub bad-stands : at < length s → (why : Refusal) → refusal_number why ∷ [] ≡ varint_says (varint_at s at)
      → next_at s at ≡ end (cut (refusal_number why) at)
  unfolding next_at if
  bad-stands more why says = rw (lt-ltb at (length s) more, bad-read why says)

  module _ {n first : ℕ} (says : ok ∷ n ∷ first ∷ [] ≡ varint_says (varint_at s at)) where
    pub value-read : varint_at s at ≡ Value n first
    value-read = found_number s at {x = Value n first} says refl

    pub number-got : Got s at n first
    number-got = varint-got s at value-read

    pub short-stands : at < length s → length s < first + n → next_at s at ≡ end (cut feed_cut first)
    unfolding next_at if
    short-stands more h = rw (lt-ltb at (length s) more, value-read, lt-ltb (length s) (first + n) h)

    pub chunk-stands : at < length s → first + n ≤ length s → next_at s at ≡ chunk first (first + n)
    unfolding next_at if
    chunk-stands more h = rw (lt-ltb at (length s) more, value-read, le-ltb (length s) (first + n) h)
