-- Lists of origins that cover all blocks, and one after another. Assumes nothing.
use Prim.Native.Nat.{ℕ, ◌*◌, ◌<◌}
use mathlib.Core.Path.{◌≡◌, refl, sym, ap, ◌∙◌}
use mathlib.Core.List.{List, map-map, map-id}
use native.Mathlib.Nat.{zero-add}
use native.Mathlib.Omega.{arith}
use lib.ListN.{length, get_or, length-map}
use lib.Seq.{ext_get_or}
use Rattle.spec.specs.Basics.{from}
use Rattle.spec.specs.Pictures.{Origin, given, held, Below, Covers, shown, paint}
use Rattle.spec.specs.Maps.{entry, remap, fresh, through, compose, unchanged}
use Rattle.spec.proofs.Lists.{get_d_map, get_or-from, get_or-rule, every-get_or, every_map, every-weaken, every-from, length_from, map-congr}
use Rattle.spec.proofs.Blocks.{painted, length-paint, equal-by-blocks}

-- block k of a map through origins has the entry of its origin, and there are as many entries as origins
pub remap-at : (os : List Origin) (m : List ℕ) (k : ℕ) → k < length os → get_or (remap os m) k 0 ≡ entry m (get_or os k (held 0))
unfolding remap
remap-at os m k h = get_d_map (entry m) os k 0 (held 0) h

pub length-remap : (os : List Origin) (m : List ℕ) → length (remap os m) ≡ length os
unfolding remap
length-remap os m = length-map os (entry m)

pub covers-unchanged : (n : ℕ) → Covers n (unchanged n)
covers-unchanged n = record { size = simp (length-map, length_from); below = every_map held (every-from 0 n n (omega arith)) }

module _ (n : ℕ) (some : 0 < n) (first : List Origin) (g : Covers n first) where
  pub below_at : (k : ℕ) → Below n (get_or first k (held 0))
  below_at k = every-get_or k (held 0) g.below some

  below-through : (o : Origin) → Below n o → Below n (through first o)
  unfolding through
  below-through (given px) u = tt
  below-through (held j) u = below_at j

  pub covers-compose : (second : List Origin) → Covers n second → Covers n (compose first second)
  covers-compose second h =
      record { size = length-map second (through first) ∙ h.size; below = every_map (through first) (every-weaken below-through h.below) }

  entry-through : (m : List ℕ) (o : Origin) → Below n o → entry m (through first o) ≡ entry (remap first m) o
  unfolding through
  entry-through m (given px) u = refl
  entry-through m (held j) u = sym (remap-at first m j (rw g.size u))

  -- the map through both is the map through one after the other
  pub remap-compose : (second : List Origin) (m : List ℕ) → Covers n second → remap (compose first second) m ≡ remap second (remap first m)
  remap-compose second m h =
      let len : length (remap (compose first second) m) ≡ length second = length-remap (compose first second) m ∙ length-map second (through first) in
      ext_get_or 0 _ _ (len ∙ sym (length-remap second (remap first m))) (λ k hk.
      let l : k < length second = rw len at hk in
      let o = get_or second k (held 0) in
      remap-at (compose first second) m k (rw (length-map second (through first)) l)
      ∙ ap (entry m) (get_d_map (through first) second k (held 0) (held 0) l)
      ∙ entry-through m o (every-get_or k (held 0) h.below some)
      ∙ sym (remap-at second (remap first m) k l))

module _ (c r : ℕ) (wide : 0 < c) (some : 0 < c * r) (first second : List Origin) (g : Covers (c * r) first) (h : Covers (c * r) second) (pic : List ℕ) where
  seen : (o : Origin) → Below (c * r) o → shown c (paint c r first pic) o ≡ shown c pic (through first o)
  unfolding through shown
  seen (given px) u = refl
  seen (held j) u = painted c r wide first pic j u

  -- and so is the picture
  pub paint-compose : paint c r (compose first second) pic ≡ paint c r second (paint c r first pic)
  paint-compose =
      equal-by-blocks c r wide _ _ (length-paint c r (compose first second) pic) (length-paint c r second (paint c r first pic)) (λ k hk.
      painted c r wide (compose first second) pic k hk
      ∙ ap (shown c pic) (get_d_map (through first) second k (held 0) (held 0) (rw h.size hk))
      ∙ sym (painted c r wide second (paint c r first pic) k hk ∙ seen (get_or second k (held 0)) (below_at (c * r) some second h k)))

-- nothing happened to a map
pub remap-unchanged : (n : ℕ) (m : List ℕ) → length m ≡ n → remap (unchanged n) m ≡ m
remap-unchanged n m e =
    let len : length (remap (unchanged n) m) ≡ n = length-remap (unchanged n) m ∙ (covers-unchanged n).size in
    ext_get_or 0 _ _ (len ∙ sym e) (λ k hk.
    let h : k < n = rw len at hk in
    remap-at (unchanged n) m k (rw (covers-unchanged n).size h) ∙ ap (entry m) (get_or-rule held n k (held 0) h))

-- composition has `unchanged` on both sides, and does not mind how it is grouped
module _ (n : ℕ) (os : List Origin) (g : Covers n os) where
  pub unchanged-compose : compose (unchanged n) os ≡ os
  unfolding through
  unchanged-compose = map-congr (every-weaken one g.below) ∙ map-id os
    where
      one : (o : Origin) → Below n o → through (unchanged n) o ≡ o
      one (given px) u = refl
      one (held j) u = get_or-rule held n j (held 0) u

  pub compose-unchanged : compose os (unchanged n) ≡ os
  unfolding through
  compose-unchanged =
      ext_get_or (held 0) _ _ (simp (length-map, length_from) (sym g.size)) (λ k hk.
      let h : k < n = simp (length-map, length_from) at hk in
      ap (λ (l : List Origin). get_or l k (held 0)) (map-map (through os) held (from 0 n)) ∙ get_or-rule (λ j. get_or os j (held 0)) n k (held 0) h)

pub compose-assoc : (n : ℕ) (first second third : List Origin) → Covers n second → Covers n third
    → compose (compose first second) third ≡ compose first (compose second third)
unfolding through
compose-assoc n first second third g h = map-congr (every-weaken one h.below) ∙ sym (map-map (through first) (through second) third)
  where
    one : (o : Origin) → Below n o → through (compose first second) o ≡ through first (through second o)
    one (given px) u = refl
    one (held j) u = get_d_map (through first) second j (held 0) (held 0) (rw g.size u)

-- of a fresh map, a held block takes its own number
pub entry-held : (n j : ℕ) → j < n → entry (fresh n) (held j) ≡ j
entry-held n j h = get_or-from 0 n j 0 h ∙ zero-add j
