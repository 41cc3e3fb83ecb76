use Rattle.std.specs.Prelude.{nat_lt}
use Rattle.std.proofs.Common.{◌≡◌, ◌+◌, ◌-◌, ◌*◌, ◌≤◌, ◌||◌, true, false, sym, refl, ◌∙◌, arith}
use Rattle.spec.specs.Answers.{ok, answer, answer_at, refusal_number, bad_count}
use Rattle.spec.specs.Chunks.{decode}
use Rattle.spec.specs.Maps.{remap}
use Rattle.spec.specs.Pictures.{paint}
use Rattle.spec.specs.Sizes.{blocks, max_blocks, columns, lines}
use Rattle.spec.specs.Boards.{board, left, read}
use Rattle.spec.proofs.Limits.{allowed-size}
use Rattle.spec.proofs.Refusals.{refused-not-ok}
use Rattle.smc.specs.Painting.{origins_of}
use Rattle.smc.proofs.Reading.{
  fits-range,
  blocks-of,
  read-refused,
  size-allowed,
  map-of,
  lent,
  refused-by-chunk,
  accepted-chunk,
  now-within,
  refused-by-count,
  painted,
}
use Rattle.smc.proofs.read_chunk.Goals as goal
use Rattle.smc.proofs.read_chunk.Goals.{In-Ok, In-Err-check_and_count}

-- 1 or 2
module _ (c : goal.After-refused) where
  sized : read c.args.kept.size c.args.chunk.now (board c.args.picture.now c.args.map.now c.args.kept.unsettled)
      ≡ left (answer (refusal_number c.in-Err.why) 0) (board c.args.picture.now c.args.map.now c.args.kept.unsettled)
  sized = let a = c.args in
      read-refused a.kept.size a.chunk.now a.picture.now a.map.now a.kept.unsettled _ c.in-Err.ensures (refused-not-ok c.in-Err.why)

pub returns-in-Err-clause-answer_value : goal.returns-in-Err-clause-answer_value
returns-in-Err-clause-answer_value c = rw (c.refused.ensures, sized c) refl

pub returns-in-Err-clause-kept_value : goal.returns-in-Err-clause-kept_value
returns-in-Err-clause-kept_value c = rw (c.refused.ensures, sized c) refl

pub returns-in-Err-clause-picture_after : goal.returns-in-Err-clause-picture_after
returns-in-Err-clause-picture_after c = rw (sized c) refl

pub returns-in-Err-clause-map_after : goal.returns-in-Err-clause-map_after
returns-in-Err-clause-map_after c = rw (sized c) refl

-- neither: the check pass goes on
pub of-grid-requires : goal.of-grid-requires
of-grid-requires c = let a = c.args in
    size-allowed a.kept.size a.chunk.now a.picture.now a.map.now a.kept.unsettled _ c.in_default.ensures refl

pub check-requires : goal.check-requires
check-requires c = let a = c.args in
    let q = c.in_default.ensures in
    let n = blocks-of c.of-grid.result a.kept.size c.of-grid.ensures.columns_value c.of-grid.ensures.lines_value c.blocks-blocks.ensures in
    let few = (allowed-size a.kept.size (size-allowed a.kept.size a.chunk.now a.picture.now a.map.now a.kept.unsettled _ q refl)).few in
    (map-of a.kept.size a.chunk.now a.picture.now a.map.now a.kept.unsettled _ q refl _ n, omega (arith, few, n))

-- 3 to 11
module _ (c : In-Err-check_and_count) where
  refused : read c.args.kept.size c.args.chunk.now (board c.args.picture.now c.args.map.now c.args.kept.unsettled)
      ≡ left c.in-Err-check_and_count.answer (board c.args.picture.now c.args.map.now c.args.kept.unsettled)
  refused =
      let a = c.args in
      let n = blocks-of c.of-grid.result a.kept.size c.of-grid.ensures.columns_value c.of-grid.ensures.lines_value c.blocks-blocks.ensures in
      let e = c.in-Err-check_and_count.ensures in
      refused-by-chunk a.kept.size a.chunk.now a.picture.now a.map.now a.kept.unsettled _ c.in_default.ensures refl _ n _ e.answer_value e.refused

pub returns-in-Err-check_and_count-clause-answer_value : goal.returns-in-Err-check_and_count-clause-answer_value
returns-in-Err-check_and_count-clause-answer_value c = rw (refused c) refl

pub returns-in-Err-check_and_count-clause-kept_value : goal.returns-in-Err-check_and_count-clause-kept_value
returns-in-Err-check_and_count-clause-kept_value c = rw (refused c) refl

pub returns-in-Err-check_and_count-clause-picture_after : goal.returns-in-Err-check_and_count-clause-picture_after
returns-in-Err-check_and_count-clause-picture_after c = rw (refused c) refl

pub returns-in-Err-check_and_count-clause-map_after : goal.returns-in-Err-check_and_count-clause-map_after
returns-in-Err-check_and_count-clause-map_after c = rw (refused c) refl

-- an accepted chunk, and then 21 or none
module _ (c : In-Ok) where
  whole : c.blocks-blocks.result ≡ blocks c.args.kept.size
  whole = blocks-of c.of-grid.result c.args.kept.size c.of-grid.ensures.columns_value c.of-grid.ensures.lines_value c.blocks-blocks.ensures

  few : c.blocks-blocks.result ≤ max_blocks
  few =
      let a = c.args in
      let z = allowed-size a.kept.size (size-allowed a.kept.size a.chunk.now a.picture.now a.map.now a.kept.unsettled _ c.in_default.ensures refl) in
      omega (arith, z.few, whole)

  uncounted : (nat_lt (c.args.kept.unsettled + c.in-Ok.changed.now) c.blocks-blocks.result
      || nat_lt (2 * c.blocks-blocks.result) (c.args.kept.unsettled + c.in-Ok.changed.now)) ≡ true
      → read c.args.kept.size c.args.chunk.now (board c.args.picture.now c.args.map.now c.args.kept.unsettled)
      ≡ left (answer bad_count 0) (board c.args.picture.now c.args.map.now c.args.kept.unsettled)
  uncounted t =
      let a = c.args in
      let e = c.in-Ok.ensures in
      refused-by-count a.kept.size a.chunk.now a.picture.now a.map.now a.kept.unsettled _ c.in_default.ensures refl _ whole _ e.answer_value refl
      _ e.balanced t

  counted : (nat_lt (c.args.kept.unsettled + c.in-Ok.changed.now) c.blocks-blocks.result
      || nat_lt (2 * c.blocks-blocks.result) (c.args.kept.unsettled + c.in-Ok.changed.now)) ≡ false
      → let os = origins_of (decode c.blocks-blocks.result c.args.chunk.now) in
      read c.args.kept.size c.args.chunk.now (board c.args.picture.now c.args.map.now c.args.kept.unsettled)
      ≡ left (answer_at ok c.in-Ok.changed.length c.blocks-blocks.result)
      (board (paint (columns c.args.kept.size) (lines c.args.kept.size) os c.args.picture.now) (remap os c.args.map.now)
      (c.args.kept.unsettled + c.in-Ok.changed.now - c.blocks-blocks.result))
  counted t =
      let a = c.args in
      let e = c.in-Ok.ensures in
      painted a.kept.size a.chunk.now a.picture.now a.map.now a.kept.unsettled _ c.in_default.ensures refl _ whole _ e.answer_value refl _ e.balanced t

pub miscounts-requires : goal.miscounts-requires
miscounts-requires c =
    let a = c.args in
    let e = c.in-Ok.ensures in
    let least = now-within a.kept.size a.chunk.now a.picture.now a.map.now a.kept.unsettled _ c.in_default.ensures refl _ (whole c) _ e.answer_value in
    (few c, least refl _ e.balanced)

pub returns-then-miscounts-clause-answer_value : goal.returns-then-miscounts-clause-answer_value
returns-then-miscounts-clause-answer_value c =
    let from = (goal.at.returns-then-miscounts-clause-answer_value c).In-Ok in
    rw (c.refused-then-miscounts.ensures, uncounted from (sym c.miscounts.ensures ∙ c.if-miscounts.true)) refl

pub returns-then-miscounts-clause-kept_value : goal.returns-then-miscounts-clause-kept_value
returns-then-miscounts-clause-kept_value c =
    let from = (goal.at.returns-then-miscounts-clause-kept_value c).In-Ok in
    rw (c.refused-then-miscounts.ensures, uncounted from (sym c.miscounts.ensures ∙ c.if-miscounts.true)) refl

pub returns-then-miscounts-clause-picture_after : goal.returns-then-miscounts-clause-picture_after
returns-then-miscounts-clause-picture_after c =
    let from = (goal.at.returns-then-miscounts-clause-picture_after c).In-Ok in
    rw (uncounted from (sym c.miscounts.ensures ∙ c.if-miscounts.true)) refl

pub returns-then-miscounts-clause-map_after : goal.returns-then-miscounts-clause-map_after
returns-then-miscounts-clause-map_after c =
    let from = (goal.at.returns-then-miscounts-clause-map_after c).In-Ok in
    rw (uncounted from (sym c.miscounts.ensures ∙ c.if-miscounts.true)) refl

pub paint-requires-clause-lent : goal.paint-requires-clause-lent
paint-requires-clause-lent c = let a = c.args in
    rw (c.of-grid.ensures.columns_value, c.of-grid.ensures.lines_value)
    (lent a.kept.size a.chunk.now a.picture.now a.map.now a.kept.unsettled _ c.in_default.ensures refl)

pub paint-requires-clause-accepts : goal.paint-requires-clause-accepts
paint-requires-clause-accepts c =
    let a = c.args in
    let n = whole (goal.at.paint-requires-clause-accepts c).In-Ok in
    let e = c.in-Ok.ensures in
    rw (← c.blocks-blocks.ensures)
    (accepted-chunk a.kept.size a.chunk.now a.picture.now a.map.now a.kept.unsettled _ c.in_default.ensures refl _ n _ e.answer_value refl)

pub overflow_add-result : goal.overflow_add-result
overflow_add-result c =
    let r = fits-range (c.args.kept.unsettled + c.in-Ok.changed.now) _ _ (sym c.miscounts.ensures ∙ c.if-miscounts.false) in
    omega (arith, r.1, few (goal.at.overflow_add-result c).In-Ok)

pub returns-clause-answer_value : goal.returns-clause-answer_value
returns-clause-answer_value c =
    rw (counted (goal.at.returns-clause-answer_value c).In-Ok (sym c.miscounts.ensures ∙ c.if-miscounts.false)) c.accepted.ensures

pub returns-clause-kept_value : goal.returns-clause-kept_value
returns-clause-kept_value c = rw (counted (goal.at.returns-clause-kept_value c).In-Ok (sym c.miscounts.ensures ∙ c.if-miscounts.false)) refl

pub returns-clause-picture_after : goal.returns-clause-picture_after
returns-clause-picture_after c =
    let e = counted (goal.at.returns-clause-picture_after c).In-Ok (sym c.miscounts.ensures ∙ c.if-miscounts.false) in
    rw (e, ← c.of-grid.ensures.columns_value, ← c.of-grid.ensures.lines_value, c.blocks-blocks.ensures) c.paint.ensures.pic_after

pub returns-clause-map_after : goal.returns-clause-map_after
returns-clause-map_after c =
    let e = counted (goal.at.returns-clause-map_after c).In-Ok (sym c.miscounts.ensures ∙ c.if-miscounts.false) in
    rw (e, c.blocks-blocks.ensures) c.paint.ensures.map_after
