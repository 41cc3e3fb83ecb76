-- Runs of blocks: they keep lengths, and have one block more. Assumes nothing.
use Rattle.std.proofs.Common.{◌≡◌, ℕ, zero, suc, ◌+◌, ◌-◌, ◌*◌, ◌<◌, ◌≤◌, List, length, get_or, set, refl, ap, ◌∙◌, add-one, arith, length-set}
use Rattle.spec.specs.Pictures.{block_at, put_block}
use Rattle.spec.specs.Maps.{settled}
use Rattle.spec.proofs.Blocks.{length-put_pixels}
use Rattle.blocks.specs.Blocks.{Canvas}
use Rattle.smc.specs.Runs.{put_each, mark_each}
use Rattle.blocks.proofs.Rowwise.{on}

pub length-put_each : (c k : ℕ) (f : ℕ → List ℕ → List ℕ) (i : ℕ) (pic : List ℕ) → length (put_each c k f i pic) ≡ length pic
unfolding put_each
length-put_each c k f zero pic = refl
length-put_each c k f (suc i) pic = length-put_pixels c (k + i) _ 16 (put_each c k f i pic) ∙ length-put_each c k f i pic

pub length-mark_each : (k : ℕ) (e : ℕ → List ℕ → ℕ) (i : ℕ) (m : List ℕ) → length (mark_each k e i m) ≡ length m
unfolding mark_each
length-mark_each k e zero m = refl
length-mark_each k e (suc i) m = length-set (mark_each k e i m) (k + i) _ ∙ length-mark_each k e i m

-- a run on the way: its first i blocks are put, and what the next one asks for still holds
pub record Running (c r k n : ℕ) (f : ℕ → List ℕ → List ℕ) (e : ℕ → List ℕ → ℕ) (pic₀ map₀ : List ℕ) (i : ℕ) (pic m : List ℕ) : Type 0 where
  pub most : i ≤ n
  pub picture : pic ≡ put_each c k f i pic₀
  pub map : m ≡ mark_each k e i map₀
  pub canvas : Canvas c r pic
  pub same : length pic ≡ length pic₀
  pub entries : length m ≡ c * r

-- of given blocks, and of copies
abbrev pub Putting : ℕ → ℕ → ℕ → ℕ → (ℕ → List ℕ) → List ℕ → List ℕ → ℕ → List ℕ → List ℕ → Type 0
Putting c r k n f = Running c r k n (λ i p. f i) (λ i p. settled)

abbrev pub Copying : ℕ → ℕ → ℕ → ℕ → ℕ → List ℕ → List ℕ → ℕ → List ℕ → List ℕ → Type 0
Copying c r d k n = Running c r k n (λ i p. block_at c p (k + i - d)) (λ i p. get_or p (k + i - d) 0)

module _ (c r k n : ℕ) (f : ℕ → List ℕ → List ℕ) (e : ℕ → List ℕ → ℕ) (pic₀ map₀ : List ℕ) where
  pub running_none : Canvas c r pic₀ → length map₀ ≡ c * r → Running c r k n f e pic₀ map₀ 0 pic₀ map₀
  unfolding put_each mark_each
  running_none g em = record { most = omega arith; picture = refl; map = refl; canvas = g; same = refl; entries = em }

  module _ (i : ℕ) (pic m : List ℕ) (g : Running c r k n f e pic₀ map₀ i pic m) where
    pub running_more : i < n → (px : List ℕ) → px ≡ f i pic → (pic' m' : List ℕ) → pic' ≡ put_block c (k + i) px pic → m' ≡ set m (k + i) (e i m)
        → Running c r k n f e pic₀ map₀ (i + 1) pic' m'
    unfolding put_each mark_each
    running_more l px ep pic' m' e' em =
        let same = ap length e' ∙ length-put_pixels c (k + i) px 16 pic in
        record {
          most = omega arith;
          picture = rw (add-one, ← g.picture, ← ep) e';
          map = rw (add-one, ← g.map) em;
          canvas = on c r pic pic' g.canvas same;
          same = same ∙ g.same;
          entries = ap length em ∙ length-set m (k + i) (e i m) ∙ g.entries;
        }

    pub running-all : i ≡ n → (pic ≡ put_each c k f n pic₀) × (m ≡ mark_each k e n map₀)
    running-all ei = (rw ei at g.picture, rw ei at g.map)
