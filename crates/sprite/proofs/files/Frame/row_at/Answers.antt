use Prim.Native.Nat.{◌+◌, ◌≤◌, ◌<◌}
use mathlib.Core.Path.{◌≡◌, sym, ap, ◌∙◌}
use native.Mathlib.Omega.{arith}
use mathlib.Core.List.{[], ◌∷◌}
use Rattle.std.proofs.Common.{rules}
use lib.ListN.{length}
use borrow.Author.Tests.{ne_eqb}
use Rattle.spec.specs.Basics.{if}
use Rattle.spec.proofs.Cases.{cases}
use Rattle.sprite.specs.Frames.{row_at, code_at, blank_code, data_code}
use Rattle.sprite.specs.declared.heads.RowCode.TheVariants as At
use Rattle.spec.specs.Answers.{refusal_number}
use Rattle.sprite.specs.Read.{row_code, row_head_result}
use Rattle.sprite.proofs.files.Frame.row_at.Goals.{in_default-via-in-Blank+else-count-room, in_default-via-in-Data+then-count-ge4+else-count-s}
use Rattle.sprite.proofs.files.Frame.row_at.Goals.{in_default-via-in-Data+else-count-ge4}
use Rattle.sprite.proofs.files.Frame.row_at.Goals as goal

pub returns-then-s-at-lt2-clause-said : goal.returns-then-s-at-lt2-clause-said
unfolding row_at if
returns-then-s-at-lt2-clause-said c = let h : length c.args.self.now.s.now < c.args.at + 2 = omega arith in
    search cases

pub returns-in-Blank-clause-said : goal.returns-in-Blank-clause-said
unfolding row_at if
returns-in-Blank-clause-said c = let h : c.args.at + 2 ≤ length c.args.self.now.s.now = omega arith in
    let e : code_at c.args.self.now.s.now c.args.at ≡ blank_code = sym c.in_ok-try_from.ensures ∙ ap row_code c.in-Blank.is in
    rw (e, ← c.from-count.ensures, ← c.from.ensures) (search cases)

pub returns-in-Data-clause-said : goal.returns-in-Data-clause-said
unfolding row_at if
returns-in-Data-clause-said c = let h : c.args.at + 2 ≤ length c.args.self.now.s.now = omega arith in
    let g : c.args.at + c.from-count.result ≤ length c.args.self.now.s.now = omega arith in
    let e : code_at c.args.self.now.s.now c.args.at ≡ data_code = sym c.in_ok-try_from.ensures ∙ ap row_code c.in-Data.is in
    rw (e, ← c.from-count.ensures) (search cases)

pub returns-in_default-clause-said : goal.returns-in_default-clause-said
unfolding row_at if
returns-in_default-clause-said c =
    let h : c.args.at + 2 ≤ length c.args.self.now.s.now = omega arith in
    elim c.in_default.branch [
      | in_default-via-in-Blank+else-count-room w ↦
          (let e : code_at c.args.self.now.s.now c.args.at ≡ blank_code = sym c.in_ok-try_from.ensures ∙ ap row_code w.in-Blank.is in
          rw (e, ← c.from-count.ensures, ← c.from.ensures) (search cases))
      | in_default-via-in-Data+then-count-ge4+else-count-s w ↦
          (let g : length c.args.self.now.s.now < c.args.at + c.from-count.result = omega arith in
          let e : code_at c.args.self.now.s.now c.args.at ≡ data_code = sym c.in_ok-try_from.ensures ∙ ap row_code w.in-Data.is in
          rw (e, ← c.from-count.ensures) (search cases))
      | in_default-via-in-Data+else-count-ge4 w ↦
          (let e : code_at c.args.self.now.s.now c.args.at ≡ data_code = sym c.in_ok-try_from.ensures ∙ ap row_code w.in-Data.is in
          rw (e, ← c.from-count.ensures) (search cases))
    ]

pub returns-in_err-try_from-clause-said : goal.returns-in_err-try_from-clause-said
unfolding row_at if
returns-in_err-try_from-clause-said c =
    let h : c.args.at + 2 ≤ length c.args.self.now.s.now = omega arith in
    let f = c.in_err-try_from.ensures in
    let x : row_head_result c.from_residual.result ≡ refusal_number c.in_err-try_from.field-0.0 ∷ [] = search rules in
    x ∙ rw (f.0, ne_eqb _ _ (λ e. f.1 At.Blank (sym e)), ne_eqb _ _ (λ e. f.1 At.Data (sym e))) (search cases)
