-- Colour tables as the code holds them: emptied, with an entry stored, and an entry looked up. Assumes nothing.
use Rattle.std.proofs.Common.{◌≡◌, ℕ, ◌+◌, ◌*◌, ◌%◌, ◌^◌, ◌<◌, List, [], length, get_or, sym, refl, ◌∙◌, arith}
use native.Mathlib.Decide.{dec_lt}
use lib.Seq.{sets, length-sets}
use Rattle.spec.specs.Basics.{part}
use Rattle.spec.specs.Chunks.{Table, capacity, emptied, put}
use Rattle.spec.proofs.Cells.{cells_of, length-cells, cell_at, put_next, put_full}
use Rattle.smc.specs.Tables.{Holds}

pub holds-emptied : (b : ℕ) (l : List ℕ) → length l ≡ 2 ^ b * capacity → Holds b l 0 emptied
unfolding cells_of
holds-emptied b l e = record { filled = 0; same = refl; few = omega arith; byte = omega arith; first = λ h. refl; room = e }

module _ (b : ℕ) (l : List ℕ) (next : ℕ) (t : Table) (g : Holds b l next t) where
  -- an entry stored: the run of bytes holds the table with the entry put
  pub holds-put : (vs : List ℕ) → length vs ≡ 2 ^ b → Holds b (sets l (2 ^ b * next) vs) ((next + 1) % capacity) (put t vs)
  holds-put vs ev = by (dec_lt g.filled capacity)
    where
      by : Dec (g.filled < capacity) → Holds b (sets l (2 ^ b * next) vs) ((next + 1) % capacity) (put t vs)
      by (yes h) =
          let e = g.first h in
          record {
            filled = g.filled + 1;
            same = rw g.same (sym (put_next (2 ^ b) l vs g.filled next ev g.room g.byte h e));
            few = omega arith;
            byte = omega arith;
            first = λ z. omega arith;
            room = length-sets l (2 ^ b * next) vs ∙ g.room;
          }
      by (no h) =
          let f : g.filled ≡ capacity = omega (arith, g.few) in
          record {
            filled = g.filled;
            same = rw g.same (sym (put_full (2 ^ b) l vs g.filled next ev g.room g.byte f));
            few = g.few;
            byte = omega arith;
            first = λ z. absurd (omega arith);
            room = length-sets l (2 ^ b * next) vs ∙ g.room;
          }

  -- an entry named: its colours stand at its place
  pub holds-cell : (e : ℕ) → e < length t.cells → get_or t.cells e [] ≡ part l (2 ^ b * e) (2 ^ b)
  holds-cell e h =
      let k : e < g.filled = rw (length-cells (2 ^ b) l g.filled) at (rw g.same at h) in
      rw g.same (cell_at (2 ^ b) l g.filled e k)
