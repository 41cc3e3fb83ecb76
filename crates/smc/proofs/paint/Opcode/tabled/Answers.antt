use Rattle.std.proofs.Common.{◌≡◌, ◌≤◌, ◌<◌, ◌+◌, ◌*◌, ℕ, List, true, eqb, length, ap, subst, ◌∙◌, eqb-true, arith}
use Rattle.spec.specs.Basics.{part}
use Rattle.spec.specs.Flags.{flags, chosen}
use Rattle.spec.proofs.Parts.{length_part}
use Rattle.smc.specs.Runs.{puts}
use Rattle.smc.specs.Tables.{colours, size}
use Rattle.smc.proofs.Entering.{entered-as, few-colours, entry_whole, entry_first, entry-stored, entry-room-left, entry-inside, entry-tabled}
use Rattle.smc.proofs.paint.Opcode.tabled.Goals as goal

pub entry_of-entry-requires : goal.entry_of-entry-requires
entry_of-entry-requires g c =
    let st = g.met.P.Packing.stores in
    let room = c.args.self.now.room in
    let el = c.lead_at-lead.ensures in
    let few = few-colours st in
    let q : c.lead_at-lead.result.body < length c.args.self.now.s.now = entry_first st _ _ room el c.requires.bound in
    let w : eqb c.lead_at-lead.result.upper c.STORING.result ≡ true → c.lead_at-lead.result.body + g.row.COLOURS ≤ length c.args.self.now.s.now
    = λ t. rw c.requires.table_of (entry_whole st _ _ room el c.requires.bound (eqb-true _ _ t ∙ c.STORING.ensures)) in
    (omega (arith, few, c.requires.table_of, c.args.table.now.all), (q, w))

pub colours_at-requires : goal.colours_at-requires
colours_at-requires g c =
    let st = g.met.P.Packing.stores in
    let el = c.lead_at-lead.ensures in
    let few = few-colours st in
    let en = entered-as _ c.requires.table_of (ap (eqb c.lead_at-lead.result.upper) c.STORING.ensures) c.entry_of-entry.ensures in
    let all : length c.args.table.now.colours ≡ size g.P.Packing.bits = omega (arith, c.requires.table_of, c.args.table.now.all) in (
      omega (arith, few, c.requires.table_of, c.args.table.now.all),
      (
        rw c.requires.table_of en.room,
        λ t.
            rw c.requires.table_of (entry-stored st _ _ c.args.self.now.room el c.requires.bound en all (omega arith) (rw c.STORING.ensures at t)),
      ),
    )

pub invariant_of-run-clause-exact : goal.invariant_of-run-clause-exact
invariant_of-run-clause-exact g c =
    let st = g.met.P.Packing.stores in
    let el = c.lead_at-lead.ensures in
    let en = entered-as _ c.requires.table_of (ap (eqb c.lead_at-lead.result.upper) c.STORING.ensures) c.entry_of-entry.ensures in
    let all : length c.args.table.now.colours ≡ size g.P.Packing.bits = omega (arith, c.requires.table_of, c.args.table.now.all) in
    let l = c.entry_of-entry.new.self.colours in
    let at = c.entry_of-entry.result.at in
    let inside = entry-room-left st _ _ c.args.self.now.room el c.requires.bound en all in
    ap length (c.colours_at.ensures ∙ ap (λ (w : ℕ). part l at w) c.requires.table_of) ∙ length_part l at (colours g.P.Packing.bits) inside

pub invariant_of-run-clause-inside : goal.invariant_of-run-clause-inside
invariant_of-run-clause-inside g c =
    let st = g.met.P.Packing.stores in
    let el = c.lead_at-lead.ensures in
    let en = entered-as _ c.requires.table_of (ap (eqb c.lead_at-lead.result.upper) c.STORING.ensures) c.entry_of-entry.ensures in
    rw g.met.P.Packing.flags_are (entry-inside st _ _ c.args.self.now.room el c.requires.bound en)

pub returns : goal.returns
returns g c =
    let st = g.met.P.Packing.stores in
    let el = c.lead_at-lead.ensures in
    let en = entered-as _ c.requires.table_of (ap (eqb c.lead_at-lead.result.upper) c.STORING.ensures) c.entry_of-entry.ensures in
    let all : length c.args.table.now.colours ≡ size g.P.Packing.bits = omega (arith, c.requires.table_of, c.args.table.now.all) in
    let per = c.FLAGS.ensures ∙ g.met.P.Packing.flags_are in
    let o = c.args.self.now in
    let l = c.entry_of-entry.new.self.colours in
    let e = c.entry_of-entry.result in
    let blocks = c.lead_at-lead.result.count in
    let shown : ℕ → List ℕ → Type 0
    = λ f cs. c.put_run.new.pic ≡ puts o.grid.columns o.k (λ i. chosen (flags g.P.Packing.bits (part o.s.now (e.rest + f * i) f)) cs) blocks c.args.pic.now in
    let cs = c.colours_at.ensures ∙ ap (λ (w : ℕ). part l e.at w) c.requires.table_of in
    let by-flags = subst (λ (l : List ℕ). shown g.P.Packing.FLAGS l) cs c.put_run.ensures.pic_after in
    let by-bits = subst (λ (f : ℕ). shown f (part l e.at (colours g.P.Packing.bits))) g.met.P.Packing.flags_are by-flags in
    rw per
    (entry-tabled st _ _ o.room el c.requires.bound en c.requires.lent.canvas.wide all (omega arith) _ _ _ _ by-bits c.put_run.ensures.map_after)
