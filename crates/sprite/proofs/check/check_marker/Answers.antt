use Prim.Native.Nat.{◌-◌}
use mathlib.Core.List.{[], ◌∷◌}
use lib.ListN.{length, take, drop}
use mathlib.Core.Path.{sym, ◌∙◌}
use mathlib.Core.Bool.{true≢false}
use Rattle.std.proofs.lemmas.List.{take_rest}
use Rattle.std.proofs.lemmas.Bool.Decides.{Decides-eqb}
use Rattle.std.proofs.lemmas.Slice.Eq.{starts_is}
use Rattle.sprite.specs.Frames.{end_code}
use Rattle.sprite.proofs.RowHeads.{marker-ends, marker-else}
use Rattle.sprite.proofs.check.check_marker.Goals as goal

pub returns-then-starts_with : goal.returns-then-starts_with
returns-then-starts_with c =
    let s = c.args.s.now in
    let starts = starts_is Decides-eqb (take (length s - c.args.at) (drop c.args.at s)) (end_code ∷ 0 ∷ []) _ c.starts_with.ensures.value in
    sym (marker-ends s c.args.at _ (sym (take_rest s c.args.at) ∙ starts.0 c.if-starts_with.true))

pub returns : goal.returns
returns c =
    let s = c.args.s.now in
    let starts = starts_is Decides-eqb (take (length s - c.args.at) (drop c.args.at s)) (end_code ∷ 0 ∷ []) _ c.starts_with.ensures.value in
    sym (marker-else s c.args.at (λ rest e.
    true≢false (sym (starts.1 rest (take_rest s c.args.at ∙ e)) ∙ c.if-starts_with.false)))
