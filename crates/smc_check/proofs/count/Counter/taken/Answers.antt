use mathlib.Core.Path.{◌≡◌, ◌∙◌}
use lib.ListN.{get_or}
use native.Mathlib.Omega.{arith}
use Rattle.smc_check.specs.Tallying.{is_open}
use Rattle.smc_check.proofs.Tallies.{owing-few, owing-least, taken-few, taken-on, taken-anew, byte-bit, bit-open, open_in-part}
use Rattle.smc_check.proofs.count.Counter.taken.Goals as goal

pub overflow_sub-result : goal.overflow_sub-result
overflow_sub-result c = let a = c.args in
    let m = a.self.map.now in
    let few = owing-few m a.k a.touched a.self.t c.requires.owing (omega (arith, c.if-touched-lt2.true)) in
    let one : c.from.result ≡ is_open (get_or m a.k 0) = c.from.ensures ∙ byte-bit _ ∙ bit-open _ in
    rw one few

pub returns-then-touched-lt2 : goal.returns-then-touched-lt2
returns-then-touched-lt2 c = let a = c.args in
    let m = a.self.map.now in
    let one : c.from.result ≡ is_open (get_or m a.k 0) = c.from.ensures ∙ byte-bit _ ∙ bit-open _ in
    rw one (taken-few m a.k a.touched a.self.t (omega (arith, c.if-touched-lt2.true)))

pub returns-then-t-k : goal.returns-then-t-k
returns-then-t-k c = let a = c.args in
    taken-on a.self.map.now a.k a.touched a.self.t c.if-t-k.true

pub overflow_sub-result-2 : goal.overflow_sub-result-2
overflow_sub-result-2 c = let a = c.args in
    let m = a.self.map.now in
    let t = a.self.t in
    let o = c.requires.owing in
    let e = c.unsettled_in.ensures ∙ open_in-part m t.lo t.hi o.tally.begin (omega (arith, o.tally.past, o.most)) in
    omega (arith, owing-least m a.k a.touched t o)

pub returns : goal.returns
returns c = let a = c.args in
    let m = a.self.map.now in
    let t = a.self.t in
    let o = c.requires.owing in
    let e = c.unsettled_in.ensures ∙ open_in-part m t.lo t.hi o.tally.begin (omega (arith, o.tally.past, o.most)) in
    rw e (taken-anew m a.k a.touched t)
