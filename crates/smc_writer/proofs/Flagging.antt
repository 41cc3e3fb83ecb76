-- The flags of kept blocks, one more at a time; and the origins that they stand for. Assumes nothing.
use Prim.Native.Nat.{ℕ, suc, ◌+◌, ◌<◌, ◌≤◌}
use mathlib.Core.Path.{◌≡◌, refl, ap, ◌∙◌}
use mathlib.Core.Bool.{Bool, true, false}
use mathlib.Core.List.{List, [], ◌∷◌, map}
use native.Mathlib.Decide.{ℕ_discrete}
use native.Mathlib.Omega.{arith}
use lib.ListN.{length, get_or, set, drop, length-map, drop_of_length-le}
use lib.Seq.{drop-cons, get_or-set_same, get_or-set_other}
use Rattle.spec.specs.Basics.{if, from, same}
use Rattle.spec.specs.Pictures.{Origin, given, held, block_at}
use Rattle.spec.specs.Writing.{Writable, keeps, gives, difference}
use Rattle.spec.proofs.Lists.{by-test, length_from, get_or-rule, every-from, every-weaken, map-congr}
use Rattle.spec.proofs.Blocks.{length-shown}
use Rattle.spec.proofs.Written.{writable-rule}
use Rattle.smc_writer.specs.Kept.{origin_at, origins, Flagged}

pub flagged-more : (c k : ℕ) (old new : List ℕ) (kept : List Bool) → k < length kept → Flagged c k old new kept
    → {v : Bool} → v ≡ same (block_at c old k) (block_at c new k) → Flagged c (k + 1) old new (set kept k v)
flagged-more c k old new kept h f {v} e j l = by (ℕ_discrete j k)
  where
    by : Dec (j ≡ k) → get_or (set kept k v) j false ≡ same (block_at c old j) (block_at c new j)
    by (yes q) = rw q (get_or-set_same kept k v false h ∙ e)
    by (no q) = get_or-set_other kept k j v false q ∙ f j (omega arith)

-- an origin by its flag
module _ (c : ℕ) (kept : List Bool) (new : List ℕ) (k : ℕ) where
  pub origin-kept : get_or kept k false ≡ true → origin_at c kept new k ≡ held k
  unfolding origin_at if
  origin-kept e = rw e

  pub origin-changed : get_or kept k false ≡ false → origin_at c kept new k ≡ given (block_at c new k)
  unfolding origin_at if
  origin-changed e = rw e

-- the origins of n blocks: from a block on, their number, and that they can be written
module _ (c n : ℕ) (kept : List Bool) (new : List ℕ) where
  pub length-origins : length (origins c n kept new) ≡ n
  unfolding origins
  length-origins = simp (length-map, length_from)

  pub origins-cons : (k : ℕ) → k < n → drop k (origins c n kept new) ≡ origin_at c kept new k ∷ drop (suc k) (origins c n kept new)
  unfolding origins
  origins-cons k h =
      drop-cons (map (origin_at c kept new) (from 0 n)) k (held 0) (simp (length-map, length_from) h)
      ∙ ap (λ (x : Origin). x ∷ drop (suc k) (map (origin_at c kept new) (from 0 n))) (get_or-rule (origin_at c kept new) n k (held 0) h)

  pub origins-end : (k : ℕ) → n ≤ k → drop k (origins c n kept new) ≡ []
  origins-end k h = drop_of_length-le (origins c n kept new) {i = k} (rw length-origins h)

  pub origins-writable : Writable 0 (origins c n kept new)
  unfolding origins origin_at
  origins-writable = writable-rule (origin_at c kept new) one 0 n
    where
      one : (k : ℕ) (os : List Origin) → Writable (suc k) os → Writable k (if (get_or kept k false) (held k) (given (block_at c new k)) ∷ os)
      one k os w = by-test (λ (o : Origin). Writable k (o ∷ os)) _ (λ t. keeps w) (λ t. gives (length-shown c new (held k)) w)

  -- flagged by the old picture, they are its difference to the new one
  pub origins-differ : (old : List ℕ) → Flagged c n old new kept
      → origins c n kept new ≡ map (λ k. difference (block_at c old k) (block_at c new k) k) (from 0 n)
  unfolding origins
  origins-differ old f = map-congr (every-weaken one (every-from 0 n n (omega arith)))
    where
      one : (k : ℕ) → k < n → origin_at c kept new k ≡ difference (block_at c old k) (block_at c new k) k
      one k h = by (same (block_at c old k) (block_at c new k)) refl
        where
          by : (t : Bool) → same (block_at c old k) (block_at c new k) ≡ t → origin_at c kept new k ≡ difference (block_at c old k) (block_at c new k) k
          by true e = unfold difference if in rw e (origin-kept c kept new k (f k h ∙ e))
          by false e = unfold difference if in rw e (origin-changed c kept new k (f k h ∙ e))
