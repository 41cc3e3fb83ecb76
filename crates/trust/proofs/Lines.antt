-- The listing, step by step: what a step of the walk prints, and then the lines from where it has left off. Assumes nothing.
use Prim.Native.Nat.{ℕ, ◌+◌}
use mathlib.Core.Path.{◌≡◌, sym, ap, subst⁻¹, ◌∙◌}
use mathlib.Core.List.{List, ◌++◌, append_assoc, append-nil}
use mathlib.Core.Bool.{true}
use native.Mathlib.Nat.{le_refl}
use lib.ListN.{length}
use Rattle.spec.specs.declared.Size.{Size}
use Rattle.spec.specs.declared.Step.{Step}
use Rattle.spec.specs.Basics.{if}
use Rattle.spec.specs.Sizes.{allowed, blocks}
use Rattle.spec.specs.Boards.{Board, Left, Faithful, read}
use Rattle.spec.specs.Feeds.{ended, Next, chunk, end, between, next_at, Chunks, and_onward, chunks_from, step_by, walk_step}
use Rattle.spec.specs.Listing.{chunk_line, end_line, chunk_lines, lines_from, step_line}
use Rattle.spec.proofs.Lists.{checked-none}
use Rattle.spec.proofs.Feeds.{unroll-chunks}
use Rattle.spec.proofs.Boards.{no-fault, faithful-read}
use Rattle.trust.specs.Lines.{Listed, LinesByStep}

module _ (z : Size) (fine : allowed z ≡ true) (s : List ℕ) (i at : ℕ) (b : Board) (f : Faithful z b) where
  end_text : Chunks → List ℕ
  end_text cs = chunk_lines z i cs.list b ++ end_line (ended (blocks z) cs.ending)

  lines-by : (x : Next) → Listed z s i (end_text (and_onward (λ p. chunks_from (length s) s p) s at x)) (step_by z s at x b).said (step_by z s at x b).board
  unfolding chunk_lines step_line end_text if
  lines-by (end e) = record { lines = sym (append-nil (end_line (ended (blocks z) e))); faithful = f }
  lines-by (chunk first past) =
      let l = read z (between s first past) b in
      let true-after = faithful-read z fine (between s first past) b f in
      let rest = chunks_from (length s) s past in
      let more = chunk_lines z (i + 1) rest.list l.board in
      let last = end_line (ended (blocks z) rest.ending) in
      record {
        lines = append_assoc (chunk_line i l.said _) more last ∙ ap (λ (n : ℕ). chunk_line i l.said n ++ (more ++ last)) (sym true-after.kept);
        faithful = true-after;
      }

  lines-here : Listed z s i (lines_from z s i at b) (walk_step z s at b).said (walk_step z s at b).board
  unfolding walk_step end_text
  lines-here =
      let e = ap end_text (unroll-chunks s (length s) (le_refl (length s)) at) in
      let by = lines-by (next_at s at) in
      subst⁻¹ (λ (l : Left Step). Listed z s i (lines_from z s i at b) l.said l.board) (checked-none _ _ _ (no-fault z fine b f.exact))
      (record { lines = e ∙ by.lines; faithful = by.faithful })

pub lines_step : LinesByStep
lines_step z fine s i at b f = lines-here z fine s i at b f
