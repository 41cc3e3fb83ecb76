-- Picture and map that show what has been made so far, and a run of blocks more. Assumes nothing.
use Rattle.std.proofs.Common.{◌≡◌, ℕ, zero, suc, ◌+◌, ◌-◌, ◌*◌, ◌<◌, ◌≤◌, List, [], ◌∷◌, ◌++◌, map, length, get_or, set, sym, ap, ◌∙◌, subst, append_assoc, append-nil, arith, length-append}
use mathlib.Core.List.{map-append}
use lib.ListN.{length-map}
use Rattle.spec.specs.Basics.{from}
use Rattle.spec.specs.Pictures.{Origin, given, held, block_at, put_block}
use Rattle.spec.specs.Maps.{settled}
use Rattle.spec.specs.Chunks.{copies}
use Rattle.spec.proofs.Lists.{length_from, from_more, rule-more}
use Rattle.spec.proofs.Made.{length-copies, copies-more}
use Rattle.spec.proofs.SoFar.{so_far-skip, put-given, put_copy, mark-given, mark-copy}
use Rattle.smc.specs.Runs.{put_each, mark_each, puts, marks, copied, moved}
use Rattle.smc.specs.Shows.{Shows}

-- one block given, one copied, one skipped
module _ (c r : ℕ) (wide : 0 < c) (pic₀ map₀ : List ℕ) (made : List Origin) (pic m : List ℕ) (g : Shows c r pic₀ map₀ made pic m)
    (h : length made < c * r) where
  shows-given : (px : List ℕ) → Shows c r pic₀ map₀ (made ++ given px ∷ []) (put_block c (length made) px pic) (set m (length made) settled)
  shows-given px =
      record {
        picture = rw g.picture (put-given c r wide pic₀ made h px);
        map = rw g.map (mark-given (c * r) map₀ made h px);
      }

  shows-copy : (j : ℕ) → j < length made
      → Shows c r pic₀ map₀ (made ++ get_or made j (held 0) ∷ []) (put_block c (length made) (block_at c pic j) pic) (set m (length made) (get_or m j 0))
  shows-copy j l =
      record {
        picture = rw g.picture (put_copy c r wide pic₀ made h j l);
        map = rw g.map (mark-copy (c * r) map₀ made h j l);
      }

  shows-skip : Shows c r pic₀ map₀ (made ++ held (length made) ∷ []) pic m
  shows-skip =
      record {
        picture = rw (so_far-skip (c * r) made h) g.picture;
        map = rw (so_far-skip (c * r) made h) g.map;
      }

-- runs of them
module _ (c r : ℕ) (wide : 0 < c) (pic₀ map₀ : List ℕ) (made : List Origin) (pic m : List ℕ) (g : Shows c r pic₀ map₀ made pic m)
    (k : ℕ) (ek : k ≡ length made) where
  pub shows-puts : (f : ℕ → List ℕ) (n : ℕ) → k + n ≤ c * r
      → Shows c r pic₀ map₀ (made ++ map (λ i. given (f i)) (from 0 n)) (puts c k f n pic) (marks k n m)
  unfolding put_each mark_each
  shows-puts f zero h = rw (append-nil made) g
  shows-puts f (suc n) h =
      let ih = shows-puts f n (omega arith) in
      let l : length (made ++ map (λ i. given (f i)) (from 0 n)) ≡ k + n = length-append made _ ∙ rw (length-map, length_from, ek) in
      let s = rw l at (shows-given c r wide pic₀ map₀ _ _ _ ih (rw l (omega arith)) (f n)) in
      rw (rule-more (λ i. given (f i)) n, ← append_assoc made (map (λ i. given (f i)) (from 0 n)) (given (f n) ∷ [])) s

  pub shows-copied : (d n : ℕ) → 0 < d → d ≤ k → k + n ≤ c * r
      → Shows c r pic₀ map₀ (copies d n made) (copied c d k n pic) (moved d k n m)
  unfolding put_each mark_each
  shows-copied d zero p q h = g
  shows-copied d (suc n) p q h =
      let ih = shows-copied d n p q (omega arith) in
      let l : length (copies d n made) ≡ k + n = length-copies d n made ∙ rw ek in
      let s = rw l at (shows-copy c r wide pic₀ map₀ _ _ _ ih (rw l (omega arith)) (k + n - d) (rw l (omega arith))) in
      rw (copies-more d n made, l) s

  pub shows-skipped : (n : ℕ) → k + n ≤ c * r → Shows c r pic₀ map₀ (made ++ map held (from k n)) pic m
  shows-skipped zero h = rw (append-nil made) g
  shows-skipped (suc n) h =
      let ih = shows-skipped n (omega arith) in
      let l : length (made ++ map held (from k n)) ≡ k + n = length-append made _ ∙ rw (length-map, length_from, ek) in
      let s = rw l at (shows-skip c r wide pic₀ map₀ _ _ _ ih (rw l (omega arith))) in
      let q : made ++ map held (from k (suc n)) ≡ (made ++ map held (from k n)) ++ held (k + n) ∷ [] =
      ap (λ (l : List ℕ). made ++ map held l) (from_more k n)
      ∙ rw (map-append held (from k n) ((k + n) ∷ [])) (sym (append_assoc made (map held (from k n)) (held (k + n) ∷ []))) in
      subst (λ (l : List Origin). Shows c r pic₀ map₀ l pic m) (sym q) s
