-- Demand 3 holds: every sequence has one list of origins, whatever the picture, and from a fresh map the map is that list written down.
-- Assumes nothing.
use Prim.Native.Nat.{ℕ, ◌<◌}
use mathlib.Core.Path.{◌≡◌, refl, sym, ap, ◌∙◌}
use mathlib.Core.Logic.{◌↔◌, ◌≢◌}
use mathlib.Core.List.{List, ◌++◌}
use mathlib.Core.Bool.{true}
use native.Mathlib.Omega.{arith}
use lib.Dec.{eqb}
use lib.ListN.{length, get_or, replicate, length-replicate}
use borrow.Author.Tests.{eq-eqb}
use Rattle.spec.specs.declared.Size.{Size}
use Rattle.spec.specs.Answers.{ok, answer}
use Rattle.spec.specs.Sizes.{allowed, pixels, columns, lines, blocks}
use Rattle.spec.specs.Pictures.{Origin, given, held, Below, shown, block_at}
use Rattle.spec.specs.Maps.{settled, entry, remap, fresh, unsettled, record_of, Fresh, map_left, map_fault, fresh_map, count_map}
use Rattle.spec.specs.Boards.{Board, board, left, Faithful}
use Rattle.spec.specs.Calls.{Call, call, run}
use Rattle.spec.proofs.Lists.{every-replicate, length_from}
use Rattle.spec.proofs.Limits.{allowed-size, area, blocks-below-mark, fault-none}
use Rattle.spec.proofs.Maps.{fresh-made, count-made}
use Rattle.spec.proofs.Blocks.{painted, shown-plain}
use Rattle.spec.proofs.Origins.{remap-at, below_at, entry-held}
use Rattle.spec.proofs.Records.{fresh-true}
use Rattle.spec.proofs.Boards.{in_turn-append, kept-paint}
use Rattle.trust.specs.Means.{Means}
use Rattle.trust.specs.Demand.{IsStart, StartsFresh, start_fresh, ran, shows, entry_at, Alike, Demand3, KeptTrue}
use Rattle.trust.proofs.Meanings.{run-means}

-- a sequence in two parts: the second goes on where the first ended, and the answers are appended
pub run-append : (z : Size) (xs ys : List Call) (b : Board)
    → let first = run z xs b in
    let second = run z ys first.board in
    run z (xs ++ ys) b ≡ left (first.said ++ second.said) second.board
run-append z = in_turn-append (call z)

-- where 1 and 2 are not given, `fresh_map` leaves a fresh map, and `count_map` gives the count of 01
module _ (z : Size) (a : allowed z ≡ true) (m : List ℕ) (e : length m ≡ blocks z) where
  no-map-fault : map_fault z m ≡ ok
  no-map-fault = fault-none z (eqb (length m) (blocks z)) a (eq-eqb (length m) (blocks z) e)

  fresh_start : fresh_map z m ≡ map_left (answer ok 0) (fresh (blocks z)) (record_of z (blocks z))
  fresh_start = fresh-made z m no-map-fault ∙ ap (λ (n : ℕ). map_left (answer ok 0) (fresh n) (record_of z n)) e

  pub counts-unsettled : count_map z m ≡ record { answer = answer ok 0; unsettled = unsettled m }
  counts-unsettled = count-made z m no-map-fault

-- map and record together
pub starts-fresh : StartsFresh
starts-fresh z fine m e =
    let start = fresh_start z fine m e in
    record { fine = fine; map = ap (λ l. l.map) start; kept = ap (λ l. l.kept) start }

module _ (z : Size) (fine : allowed z ≡ true) where
  -- a block's origin decides both its entry, from a fresh map, and what it shows
  plain_board : ℕ → Board
  plain_board x = board (replicate (pixels z) x) (fresh (blocks z)) (blocks z)

  plain : (x : ℕ) → x < 256 → IsStart z (plain_board x)
  unfolding plain_board
  plain x hx =
      record { exact = record { picture = length-replicate (pixels z) x; map = length_from 0 (blocks z) }; bytes = every-replicate (pixels z) x hx }

  -- a held block's first pixel is that of the starting picture
  first-pixel : (j x : ℕ) → j < blocks z → get_or (block_at (columns z) (replicate (pixels z) x) j) 0 0 ≡ x
  first-pixel j x h = rw (area z fine) at (shown-plain (columns z) (lines z) (allowed-size z fine).wide x j 0 h (omega arith))

  settle : (o : Origin) → Below (blocks z) o
      → (entry (fresh (blocks z)) o ≡ settled) ↔ ((r s : Board) → IsStart z r → IsStart z s → shown (columns z) r.picture o ≡ shown (columns z) s.picture o)
  unfolding shown plain_board
  settle (given px) u = ((λ e r s ir is. refl), (λ f. refl))
  settle (held j) u = (
    (λ e. absurd (omega (arith, entry-held (blocks z) j u, blocks-below-mark z fine))),
    (λ f.
        let e = f (plain_board 0) (plain_board 1) (plain 0 (omega arith)) (plain 1 (omega arith)) in
        absurd (omega (arith, first-pixel j 0 u, first-pixel j 1 u, ap (λ (l : List ℕ). get_or l 0 0) e))),
  )

  name : (o : Origin) → Below (blocks z) o → entry (fresh (blocks z)) o ≢ settled
      → (entry (fresh (blocks z)) o < blocks z) × ((s : List ℕ) → shown (columns z) s o ≡ block_at (columns z) s (entry (fresh (blocks z)) o))
  name (given px) u ne = absurd (ne refl)
  name (held j) u ne = let e = entry-held (blocks z) j u in rw e (u, (λ s. refl))

  module _ (calls : List Call) where
    means : Means z (run z calls)
    means = run-means z fine calls

    -- the origin of block k over the whole sequence
    origin : ℕ → Origin
    origin k = get_or means.origins k (held 0)

    below : (k : ℕ) → Below (blocks z) (origin k)
    unfolding origin
    below k = below_at (blocks z) (allowed-size z fine).some means.origins means.covers k

    module _ (p : Board) (i : IsStart z p) where
      started : Board
      started = start_fresh z p

      begun : Fresh z (fresh_map z p.map).map (fresh_map z p.map).kept
      begun = starts-fresh z fine p.map i.exact.map

      map-fresh : (fresh_map z p.map).map ≡ fresh (blocks z)
      map-fresh = begun.map

      lent : Faithful z started
      unfolding started
      lent =
          record {
            exact = record { picture = i.exact.picture; map = ap length map-fresh ∙ length_from 0 (blocks z) };
            kept = ap (λ r. r.unsettled) begun.kept ∙ sym (ap unsettled map-fresh ∙ fresh-true (blocks z) (blocks-below-mark z fine));
          }

      ran-said : (ran z calls p).said ≡ means.said
      unfolding started
      ran-said = means.says started lent

      ran-map : (ran z calls p).board.map ≡ remap means.origins (fresh (blocks z))
      unfolding started
      ran-map = ap (λ (b : Board). b.map) (means.leaves started lent) ∙ ap (remap means.origins) map-fresh

      -- the kept count is true
      pub ran-kept : (ran z calls p).board.kept ≡ unsettled (ran z calls p).board.map
      unfolding started
      ran-kept =
          ap (λ (b : Board). b.kept) (means.leaves started lent)
          ∙ kept-paint z means.origins started means.covers lent
          ∙ ap (λ (b : Board). unsettled b.map) (sym (means.leaves started lent))

      ran-entry : (k : ℕ) → k < blocks z → entry_at z calls p k ≡ entry (fresh (blocks z)) (origin k)
      unfolding origin
      ran-entry k h = ap (λ (m : List ℕ). get_or m k 0) ran-map ∙ remap-at means.origins (fresh (blocks z)) k (rw means.covers.size h)

      ran-shows : (k : ℕ) → k < blocks z → shows z calls p k ≡ shown (columns z) p.picture (origin k)
      unfolding origin started
      ran-shows k h =
          ap (λ (b : Board). block_at (columns z) b.picture k) (means.leaves started lent)
          ∙ painted (columns z) (lines z) (allowed-size z fine).wide means.origins p.picture k h

    alike : (p q : Board) → IsStart z p → IsStart z q → Alike z calls p q
    alike p q ip iq =
        let maps = ran-map p ip ∙ sym (ran-map q iq) in
        record {
          answers = ran-said p ip ∙ sym (ran-said q iq);
          maps = maps;
          records = ran-kept p ip ∙ ap unsettled maps ∙ sym (ran-kept q iq);
          counts = ap (count_map z) maps;
          settles = λ k h.
              let iff = settle (origin k) (below k) in (
                (λ e r s ir is. ran-shows r ir k h ∙ iff.0 (sym (ran-entry p ip k h) ∙ e) r s ir is ∙ sym (ran-shows s is k h)),
                (λ f. ran-entry p ip k h ∙ iff.1 (λ r s ir is. sym (ran-shows r ir k h) ∙ f r s ir is ∙ ran-shows s is k h)),
              );
          names = λ k h ne.
              let m = name (origin k) (below k) (λ e. ne (ran-entry p ip k h ∙ e)) in
              rw (ran-entry p ip k h) (m.0, ran-shows p ip k h ∙ m.1 p.picture, ran-shows q iq k h ∙ m.1 q.picture);
        }

pub demand3 : Demand3
demand3 z fine calls p q ip iq = alike z fine calls p q ip iq

pub kept-true : KeptTrue
kept-true z fine calls p i = ran-kept z fine calls p i
