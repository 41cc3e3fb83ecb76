use mathlib.Core.Path.{refl, sym, ap, ◌∙◌}
use lib.Seq.{length-take-le}
use borrow.Author.Tests.{eqb-true, eqb-false}
use Rattle.std.proofs.Common.{rules}
use Rattle.spec.specs.declared.Count.{Count}
use Rattle.spec.proofs.Refusals.{refused-not-ok}
use Rattle.trust.proofs.Demand3.{counts-unsettled}
use Rattle.round_trip.specs.Trip.{lent_board}
use Rattle.round_trip.proofs.Trips.{told, trip-refused, trip-written, written-long, trip-bad-board, fine}
use Rattle.round_trip.proofs.write_and_read.Goals as goal

pub returns-in-Err-clause-value : goal.returns-in-Err-clause-value
returns-in-Err-clause-value c = let a = c.args in
    let lent = lent_board a.picture.now a.map.now in
    c.from.ensures ∙ (told (trip-bad-board a.size a.new.now lent a.out.now _ c.in-Err.ensures (refused-not-ok c.in-Err.why))).0

pub returns-in-Err-clause-picture_after : goal.returns-in-Err-clause-picture_after
returns-in-Err-clause-picture_after c = let a = c.args in
    let lent = lent_board a.picture.now a.map.now in
    (told (trip-bad-board a.size a.new.now lent a.out.now _ c.in-Err.ensures (refused-not-ok c.in-Err.why))).1.0

pub returns-in-Err-clause-map_after : goal.returns-in-Err-clause-map_after
returns-in-Err-clause-map_after c = let a = c.args in
    let lent = lent_board a.picture.now a.map.now in
    (told (trip-bad-board a.size a.new.now lent a.out.now _ c.in-Err.ensures (refused-not-ok c.in-Err.why))).1.1.0

pub returns-in-Err-clause-out_after : goal.returns-in-Err-clause-out_after
returns-in-Err-clause-out_after c = let a = c.args in
    let lent = lent_board a.picture.now a.map.now in
    (told (trip-bad-board a.size a.new.now lent a.out.now _ c.in-Err.ensures (refused-not-ok c.in-Err.why))).1.1.1

pub returns-then-not-is_ok-clause-value : goal.returns-then-not-is_ok-clause-value
returns-then-not-is_ok-clause-value c = let a = c.args in
    let lent = lent_board a.picture.now a.map.now in
    let e = (fine a.size a.new.now lent a.out.now _ c.in_default.ensures refl).1 in
    (told (trip-refused a.size a.new.now lent e a.out.now _ c.write_chunk-wrote.ensures.value _ c.write_chunk-wrote.ensures.out_after
    (eqb-false _ _ (search rules)))).0

pub returns-then-not-is_ok-clause-picture_after : goal.returns-then-not-is_ok-clause-picture_after
returns-then-not-is_ok-clause-picture_after c = let a = c.args in
    let lent = lent_board a.picture.now a.map.now in
    let e = (fine a.size a.new.now lent a.out.now _ c.in_default.ensures refl).1 in
    (told (trip-refused a.size a.new.now lent e a.out.now _ c.write_chunk-wrote.ensures.value _ c.write_chunk-wrote.ensures.out_after
    (eqb-false _ _ (search rules)))).1.0

pub returns-then-not-is_ok-clause-map_after : goal.returns-then-not-is_ok-clause-map_after
returns-then-not-is_ok-clause-map_after c = let a = c.args in
    let lent = lent_board a.picture.now a.map.now in
    let e = (fine a.size a.new.now lent a.out.now _ c.in_default.ensures refl).1 in
    (told (trip-refused a.size a.new.now lent e a.out.now _ c.write_chunk-wrote.ensures.value _ c.write_chunk-wrote.ensures.out_after
    (eqb-false _ _ (search rules)))).1.1.0

pub returns-then-not-is_ok-clause-out_after : goal.returns-then-not-is_ok-clause-out_after
returns-then-not-is_ok-clause-out_after c = let a = c.args in
    let lent = lent_board a.picture.now a.map.now in
    let e = (fine a.size a.new.now lent a.out.now _ c.in_default.ensures refl).1 in
    (told (trip-refused a.size a.new.now lent e a.out.now _ c.write_chunk-wrote.ensures.value _ c.write_chunk-wrote.ensures.out_after
    (eqb-false _ _ (search rules)))).1.1.1

pub slice_bounds-read_chunk-end : goal.slice_bounds-read_chunk-end
slice_bounds-read_chunk-end c = let a = c.args in
    let lent = lent_board a.picture.now a.map.now in
    let e = (fine a.size a.new.now lent a.out.now _ c.in_default.ensures refl).1 in
    written-long a.size a.new.now lent e a.out.now _ c.write_chunk-wrote.ensures.value _ c.write_chunk-wrote.ensures.out_after (eqb-true _ _ (search rules))

pub slice_bounds-read_chunk-end-2 : goal.slice_bounds-read_chunk-end-2
slice_bounds-read_chunk-end-2 c = let a = c.args in
    let lent = lent_board a.picture.now a.map.now in
    let e = (fine a.size a.new.now lent a.out.now _ c.in_default.ensures refl).1 in
    sym (length-take-le _ _ (written-long a.size a.new.now lent e a.out.now _ c.write_chunk-wrote.ensures.value _
    c.write_chunk-wrote.ensures.out_after (eqb-true _ _ (search rules))))

pub returns-clause-value : goal.returns-clause-value
returns-clause-value c = let a = c.args in
    let lent = lent_board a.picture.now a.map.now in
    let e = fine a.size a.new.now lent a.out.now _ c.in_default.ensures refl in
    let counted = c.count_unsettled-count.ensures
    ∙ counts-unsettled a.size e.0 a.map.now e.1.map in
    let r = rw (ap (λ (n : Count). n.unsettled) counted) at c.read_chunk-read.ensures in
    let t = told (trip-written a.size a.new.now lent e.1 a.out.now _ c.write_chunk-wrote.ensures.value _ c.write_chunk-wrote.ensures.out_after
    (eqb-true _ _ (search rules)) e.0) in
    r.answer_value ∙ t.0

pub returns-clause-picture_after : goal.returns-clause-picture_after
returns-clause-picture_after c = let a = c.args in
    let lent = lent_board a.picture.now a.map.now in
    let e = fine a.size a.new.now lent a.out.now _ c.in_default.ensures refl in
    let counted = c.count_unsettled-count.ensures
    ∙ counts-unsettled a.size e.0 a.map.now e.1.map in
    let r = rw (ap (λ (n : Count). n.unsettled) counted) at c.read_chunk-read.ensures in
    let t = told (trip-written a.size a.new.now lent e.1 a.out.now _ c.write_chunk-wrote.ensures.value _ c.write_chunk-wrote.ensures.out_after
    (eqb-true _ _ (search rules)) e.0) in
    r.picture_after ∙ t.1.0

pub returns-clause-map_after : goal.returns-clause-map_after
returns-clause-map_after c = let a = c.args in
    let lent = lent_board a.picture.now a.map.now in
    let e = fine a.size a.new.now lent a.out.now _ c.in_default.ensures refl in
    let counted = c.count_unsettled-count.ensures
    ∙ counts-unsettled a.size e.0 a.map.now e.1.map in
    let r = rw (ap (λ (n : Count). n.unsettled) counted) at c.read_chunk-read.ensures in
    let t = told (trip-written a.size a.new.now lent e.1 a.out.now _ c.write_chunk-wrote.ensures.value _ c.write_chunk-wrote.ensures.out_after
    (eqb-true _ _ (search rules)) e.0) in
    r.map_after ∙ t.1.1.0

pub returns-clause-out_after : goal.returns-clause-out_after
returns-clause-out_after c = let a = c.args in
    let lent = lent_board a.picture.now a.map.now in
    let e = fine a.size a.new.now lent a.out.now _ c.in_default.ensures refl in
    let t = told (trip-written a.size a.new.now lent e.1 a.out.now _ c.write_chunk-wrote.ensures.value _ c.write_chunk-wrote.ensures.out_after
    (eqb-true _ _ (search rules)) e.0) in
    t.1.1.1
