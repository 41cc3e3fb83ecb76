use Prim.Native.Nat.{◌+◌, ◌-◌, ◌≤◌, ◌<◌}
use mathlib.Core.Path.{◌≡◌, sym, ap, ◌∙◌}
use native.Mathlib.Omega.{arith}
use mathlib.Core.List.{[], ◌∷◌}
use Rattle.std.proofs.Common.{rules}
use lib.ListN.{length-map, length-replicate}
use Rattle.spec.specs.Basics.{if}
use Rattle.spec.proofs.Cases.{cases}
use Rattle.spec.proofs.Parts.{length_part}
use Rattle.sprite.specs.Frames.{segment_at, segment_bytes, shades, code_at, count_at}
use Rattle.spec.specs.Answers.{refusal_number}
use Rattle.sprite.specs.Read.{segment_code, segment_result}
use Rattle.sprite.proofs.Segments.{bytes_run, bytes-copy, some-bytes, no-bytes, pixels-at}
use Rattle.sprite.proofs.files.Row.segment_at.Goals as goal

pub returns-then-self-at-lt2-clause-said : goal.returns-then-self-at-lt2-clause-said
unfolding segment_at if
returns-then-self-at-lt2-clause-said c = let h : c.args.self.now.end < c.args.at + 2 = omega arith in
    search cases

pub returns-in_err-code-clause-said : goal.returns-in_err-code-clause-said
unfolding segment_at if
returns-in_err-code-clause-said c =
    let r = c.args.self.now in
    let h : c.args.at + 2 ≤ r.end = omega arith in
    let f = c.in_err-code.ensures in
    let x : segment_result c.from_residual.result ≡ refusal_number c.in_err-code.field-0.0 ∷ [] = search rules in
    x ∙ rw (f.0, no-bytes (code_at r.s.now c.args.at) (count_at r.s.now c.args.at) f.1) (search cases)

pub returns-then-self-at-clause-said : goal.returns-then-self-at-clause-said
unfolding segment_at if
returns-then-self-at-clause-said c =
    let h : c.args.at + 2 ≤ c.args.self.now.end = omega arith in
    let g : c.args.self.now.end < c.args.at + c.bytes-size.result = omega arith in
    rw (← c.in_ok-code.ensures, ← c.bytes-size.ensures) (search cases)

pub returns-then-from-x-clause-said : goal.returns-then-from-x-clause-said
unfolding segment_at if
returns-then-from-x-clause-said c =
    let h : c.args.at + 2 ≤ c.args.self.now.end = omega arith in
    let g : c.args.at + c.bytes-size.result ≤ c.args.self.now.end = omega arith in
    rw (← c.in_ok-code.ensures, ← c.bytes-size.ensures, ← c.from-pixels.ensures, ← c.from.ensures) (search cases)

pub bounds-s-at-in-Run : goal.bounds-s-at-in-Run
bounds-s-at-in-Run c =
    let r = c.args.self.now in
    omega (arith, c.bytes-size.ensures, bytes_run (segment_code c.in_ok-code.code) (count_at r.s.now c.args.at) (ap segment_code c.in-Run.is), r.within)

pub slice_bounds-colours-end : goal.slice_bounds-colours-end
slice_bounds-colours-end c =
    let r = c.args.self.now in
    let b = bytes-copy (segment_code c.in_ok-code.code) (count_at r.s.now c.args.at) (ap segment_code c.in-Copy.is) in
    let f = c.from-pixels.ensures in
    omega (arith, c.bytes-size.ensures, r.within)

pub returns-in-Clear-clause-said : goal.returns-in-Clear-clause-said
returns-in-Clear-clause-said c =
    let r = c.args.self.now in
    let some : 2 ≤ c.bytes-size.result = rw c.bytes-size.ensures (some-bytes c.in_ok-code.code _) in
    let size : segment_bytes (code_at r.s.now c.args.at) c.from-pixels.result ≡ c.bytes-size.result =
    rw (← c.in_ok-code.ensures, c.from-pixels.ensures) (sym c.bytes-size.ensures) in
    let k = pixels-at r.s.now r.end (r.width - c.args.x) c.args.at c.from-pixels.result c.bytes-size.result
    (omega arith) (sym c.from-pixels.ensures) size (λ e. omega (arith, e)) (omega arith) (omega (arith, c.from.ensures)) in
    rw k rw (length-replicate)

pub returns-in-Clear-clause-shows : goal.returns-in-Clear-clause-shows
unfolding shades if
returns-in-Clear-clause-shows c = rw (← c.in_ok-code.ensures, c.in-Clear.is, ← c.from-pixels.ensures)

pub returns-in-Run-clause-said : goal.returns-in-Run-clause-said
returns-in-Run-clause-said c =
    let r = c.args.self.now in
    let some : 2 ≤ c.bytes-size.result = rw c.bytes-size.ensures (some-bytes c.in_ok-code.code _) in
    let size : segment_bytes (code_at r.s.now c.args.at) c.from-pixels.result ≡ c.bytes-size.result =
    rw (← c.in_ok-code.ensures, c.from-pixels.ensures) (sym c.bytes-size.ensures) in
    let k = pixels-at r.s.now r.end (r.width - c.args.x) c.args.at c.from-pixels.result c.bytes-size.result
    (omega arith) (sym c.from-pixels.ensures) size (λ e. omega (arith, e)) (omega arith) (omega (arith, c.from.ensures)) in
    rw k rw length-replicate

pub returns-in-Run-clause-shows : goal.returns-in-Run-clause-shows
unfolding shades if
returns-in-Run-clause-shows c = rw (← c.in_ok-code.ensures, c.in-Run.is, ← c.from-pixels.ensures)

pub returns-in-Copy-clause-said : goal.returns-in-Copy-clause-said
returns-in-Copy-clause-said c =
    let r = c.args.self.now in
    let some : 2 ≤ c.bytes-size.result = rw c.bytes-size.ensures (some-bytes c.in_ok-code.code _) in
    let size : segment_bytes (code_at r.s.now c.args.at) c.from-pixels.result ≡ c.bytes-size.result =
    rw (← c.in_ok-code.ensures, c.from-pixels.ensures) (sym c.bytes-size.ensures) in
    let k = pixels-at r.s.now r.end (r.width - c.args.x) c.args.at c.from-pixels.result c.bytes-size.result
    (omega arith) (sym c.from-pixels.ensures) size (λ e. omega (arith, e)) (omega arith) (omega (arith, c.from.ensures)) in
    let f = bytes-copy (segment_code c.in_ok-code.code) (count_at r.s.now c.args.at) (ap segment_code c.in-Copy.is) in
    let w : c.args.at + 2 + c.from-pixels.result - (c.args.at + 2) ≡ c.from-pixels.result = omega arith in
    rw (k, length-map, w, length_part r.s.now (c.args.at + 2) c.from-pixels.result (omega (arith, r.within, c.bytes-size.ensures, c.from-pixels.ensures)))

pub returns-in-Copy-clause-shows : goal.returns-in-Copy-clause-shows
unfolding shades if
returns-in-Copy-clause-shows c =
    let w : c.args.at + 2 + c.from-pixels.result - (c.args.at + 2) ≡ c.from-pixels.result = omega arith in
    rw (← c.in_ok-code.ensures, c.in-Copy.is, ← c.from-pixels.ensures, w)
