-- Run after run: what has been written or counted so far. Assumes nothing.
use Prim.Native.Nat.{ℕ, suc, ◌+◌, ◌-◌, ◌*◌, ◌<◌, ◌≤◌}
use mathlib.Core.Path.{◌≡◌, refl, sym, ap, ◌∙◌}
use mathlib.Core.Bool.{Bool, true, false, cond}
use mathlib.Core.List.{List, [], ◌++◌, append_assoc, append-nil}
use native.Mathlib.Omega.{arith}
use lib.ListN.{length, get_or, take, drop, length-append}
use lib.Seq.{drop-drop}
use borrow.Rule.Slice.PartMut.{put_mid}
use Rattle.spec.specs.Sizes.{max_blocks}
use Rattle.spec.specs.Pictures.{held}
use Rattle.spec.specs.Writing.{alike, max_run, opcodes, onto}
use Rattle.spec.proofs.Lists.{by-test}
use Rattle.spec.proofs.Limits.{blocks-most}
use Rattle.spec.proofs.Blocks.{length-shown}
use Rattle.spec.proofs.Written.{Block, opcode-most, opcodes-drop, opcodes-most}
use Rattle.smc_writer.specs.declared.changes.Changes.{Changes}
use Rattle.smc_writer.specs.Changes.{blocks_of, origins_of}
use Rattle.smc_writer.specs.Kept.{origin_at, origins}
use Rattle.smc_writer.specs.Put.{over, needed}
use Rattle.smc_writer.specs.Runs.{run_at, bytes_at}
use Rattle.smc_writer.proofs.Flagging.{length-origins, origins-cons, origins-end, origins-writable}
use Rattle.smc_writer.proofs.Running.{ran}
use Rattle.smc_writer.proofs.Placing.{length_over, over-onto, lent, length-lent}

-- a run has at most 17 bytes, and a chunk at most 17 for each block
bytes_most : (c n : ℕ) (kept : List Bool) (new : List ℕ) (k : ℕ) → length (bytes_at c n kept new k) ≤ 17
unfolding bytes_at
bytes_most c n kept new k = opcode-most (origin_at c kept new k) block (run_at c n kept new k)
  where
    block : Block (origin_at c kept new k)
    block = unfold origin_at in by-test Block (get_or kept k false) (λ t. tt) (λ t. length-shown c new (held k))

pub opcodes-few : (c n : ℕ) (kept : List Bool) (new : List ℕ) → length (opcodes 0 (origins c n kept new)) ≤ 17 * n
opcodes-few c n kept new =
    let l = length-origins c n kept new in
    let m = opcodes-most (origins c n kept new) 0 0 (origins-writable c n kept new) (omega arith) in
    omega arith

-- a picture has so many blocks at most
pub few-blocks : (s : Changes) → blocks_of s ≤ max_blocks
few-blocks s = blocks-most s.grid.columns s.grid.lines s.grid.narrow s.grid.low

pub chunk-most : (s : Changes) → 4 + length (opcodes 0 (origins_of s)) ≤ 4 + 17 * max_blocks
chunk-most s = omega (arith, few-blocks s, opcodes-few s.grid.columns (blocks_of s) s.kept.now s.new.now)

-- the opcodes from a block on: its run, and those after it
opcodes-run : (c n : ℕ) (kept : List Bool) (new : List ℕ) (k : ℕ) → k < n
    → opcodes 0 (drop k (origins c n kept new)) ≡ bytes_at c n kept new k ++ opcodes 0 (drop (k + run_at c n kept new k) (origins c n kept new))
unfolding opcodes bytes_at run_at
opcodes-run c n kept new k h =
    let os = origins c n kept new in
    let more = alike (origin_at c kept new k) (max_run - 1) (drop (suc k) os) in
    let q : suc k + more ≡ k + suc more = omega arith in
    ap (opcodes 0) (origins-cons c n kept new k h)
    ∙ ap (λ (l : List ℕ). bytes_at c n kept new k ++ l) (opcodes-drop more (drop (suc k) os) ∙ rw (drop-drop more (suc k) os, q))

-- the runs before block k have `at` bytes
pub record Progress (c n : ℕ) (kept : List Bool) (new : List ℕ) (at k : ℕ) : Type 0 where
  pub done : List ℕ
  pub size : length done ≡ at
  pub within : k ≤ n
  pub so_far : done ++ opcodes 0 (drop k (origins c n kept new)) ≡ opcodes 0 (origins c n kept new)

progress-none : (c n : ℕ) (kept : List Bool) (new : List ℕ) → Progress c n kept new 0 0
progress-none c n kept new = record { done = []; size = refl; within = omega arith; so_far = refl }

module _ {c n : ℕ} {kept : List Bool} {new : List ℕ} {at k : ℕ} (p : Progress c n kept new at k) where
  progress-all : n ≤ k → p.done ≡ opcodes 0 (origins c n kept new)
  unfolding opcodes
  progress-all h = rw (origins-end c n kept new k h, append-nil p.done) at p.so_far

  pub progress-total : n ≤ k → at ≡ length (opcodes 0 (origins c n kept new))
  progress-total h = sym p.size ∙ ap length (progress-all h)

  -- what has been written, and the run at block k, are within the whole
  module _ (h : k < n) where
    pub progress-room : at + length (bytes_at c n kept new k) ≤ length (opcodes 0 (origins c n kept new))
    progress-room =
        let rest = opcodes 0 (drop (k + run_at c n kept new k) (origins c n kept new)) in
        let e = ap length p.so_far in
        let f = length-append p.done (opcodes 0 (drop k (origins c n kept new))) in
        let g = ap length (opcodes-run c n kept new k h) ∙ length-append (bytes_at c n kept new k) rest in
        let z = p.size in
        omega arith

    progress-on : {m size : ℕ} → m ≡ run_at c n kept new k → size ≡ length (bytes_at c n kept new k) → Progress c n kept new (at + size) (k + m)
    progress-on {m} {size} em es =
        let r = ran c n kept new k h in
        record {
          done = p.done ++ bytes_at c n kept new k;
          size = length-append p.done (bytes_at c n kept new k) ∙ rw (p.size, es);
          within = rw em r.within;
          so_far = append_assoc p.done (bytes_at c n kept new k) _ ∙ rw (em, ← opcodes-run c n kept new k h) p.so_far;
        }

-- the output on the way: there is room, and where runs go behind one another, those before block k stand in front of what was there
pub record Laid (behind : Bool) (c n : ℕ) (kept : List Bool) (new o out : List ℕ) (at k : ℕ) : Type 0 where
  pub progress : Progress c n kept new at k
  pub room : needed behind (opcodes 0 (origins c n kept new)) ≤ length o
  pub total : length out ≡ length o
  pub stands : behind ≡ true → out ≡ onto progress.done o

pub laid_none : (behind : Bool) (c n : ℕ) (kept : List Bool) (new o : List ℕ) → needed behind (opcodes 0 (origins c n kept new)) ≤ length o
    → Laid behind c n kept new o o 0 0
unfolding progress-none
laid_none behind c n kept new o room = record { progress = progress-none c n kept new; room = room; total = refl; stands = λ t. refl }

module _ {behind : Bool} {c n : ℕ} {kept : List Bool} {new o out : List ℕ} {at k : ℕ} (s : Laid behind c n kept new o out at k) where
  pub laid-all : n ≤ k → behind ≡ true → out ≡ onto (opcodes 0 (origins c n kept new)) o
  laid-all h t = s.stands t ∙ ap (λ (l : List ℕ). onto l o) (progress-all s.progress h)

  -- the next run's place, and that it fits there
  module _ (h : k < n) {place : ℕ} (e : place ≡ cond behind at 0) where
    run-room : place + length (bytes_at c n kept new k) ≤ length out
    run-room = by behind s.room e
      where
        by : (b : Bool) → needed b (opcodes 0 (origins c n kept new)) ≤ length o → place ≡ cond b at 0 → place + length (bytes_at c n kept new k) ≤ length out
        by true r q = omega (arith, progress-room s.progress h, s.total)
        by false r q = omega (arith, bytes_most c n kept new k, s.total)

    pub laid-place : place ≤ length out
    laid-place = omega (arith, run-room)

    pub laid-fits : length (bytes_at c n kept new k) ≤ length (take (length out - place) (drop place out))
    laid-fits = rw (length-lent out place laid-place) (omega (arith, run-room))

    pub laid_on : {m size : ℕ} → m ≡ run_at c n kept new k → size ≡ length (bytes_at c n kept new k)
        → {mid : List ℕ} → mid ≡ onto (bytes_at c n kept new k) (take (length out - place) (drop place out))
        → Laid behind c n kept new o (put_mid place (length out - place) out mid) (at + size) (k + m)
    unfolding progress-on
    laid_on em es {mid} w =
        let over-out = lent out place laid-place (bytes_at c n kept new k) mid w in
        record {
          progress = progress-on s.progress h em es;
          room = s.room;
          total = ap length over-out ∙ length_over place (bytes_at c n kept new k) out run-room ∙ s.total;
          stands = λ t. over-out
              ∙ ap (λ (i : ℕ). over i (bytes_at c n kept new k) out) (e ∙ behind-at t)
              ∙ ap (over at (bytes_at c n kept new k)) (s.stands t)
              ∙ over-onto s.progress.done (bytes_at c n kept new k) o at s.progress.size;
        }
      where
        behind-at : behind ≡ true → cond behind at 0 ≡ at
        behind-at t = rw t
