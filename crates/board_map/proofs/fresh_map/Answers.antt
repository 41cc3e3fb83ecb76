use mathlib.Core.Path.{◌≡◌, sym, ◌∙◌, ap}
use Prim.Native.Nat.{ℕ}
use Rattle.spec.specs.Answers.{answer, refusal_number}
use Rattle.spec.specs.Maps.{map_left, record_of, fresh_map}
use Rattle.spec.proofs.Maps.{map-below-mark, fresh-made, fresh-refused}
use Rattle.spec.proofs.Refusals.{refused-not-ok}
use Rattle.std.proofs.Common.{rules}
use Rattle.board_map.proofs.fresh_map.Goals as goal

module _ (c : goal.After-from) where
  left : fresh_map c.args.size c.args.map.now ≡ map_left (answer (refusal_number c.in-Err.why) 0) c.args.map.now (record_of c.args.size 0)
  left = let e = c.in-Err.ensures in
      fresh-refused c.args.size c.args.map.now (λ o. refused-not-ok _ (e ∙ o))
      ∙ ap (λ (n : ℕ). map_left (answer n 0) c.args.map.now (record_of c.args.size 0)) (sym e)

pub returns-in-Err-clause-answer_value : goal.returns-in-Err-clause-answer_value
returns-in-Err-clause-answer_value c = rw (left c, c.from.ensures)

pub returns-in-Err-clause-kept_value : goal.returns-in-Err-clause-kept_value
returns-in-Err-clause-kept_value c = rw (left c)

pub returns-in-Err-clause-map_after : goal.returns-in-Err-clause-map_after
returns-in-Err-clause-map_after c = rw (left c)

pub number_entries-requires : goal.number_entries-requires
number_entries-requires c = map-below-mark c.args.size c.args.map.now (sym c.in_default.ensures)

pub returns-clause-answer_value : goal.returns-clause-answer_value
returns-clause-answer_value c = rw (fresh-made c.args.size c.args.map.now (sym c.in_default.ensures), c.accepted.ensures)

pub returns-clause-kept_value : goal.returns-clause-kept_value
returns-clause-kept_value c = rw (fresh-made c.args.size c.args.map.now (sym c.in_default.ensures)) (search rules)

pub returns-clause-map_after : goal.returns-clause-map_after
returns-clause-map_after c = rw (fresh-made c.args.size c.args.map.now (sym c.in_default.ensures)) c.number_entries.ensures
