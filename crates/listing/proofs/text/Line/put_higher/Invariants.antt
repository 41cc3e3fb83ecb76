use lib.ListN.{drop}
use Rattle.listing.proofs.Texts.{Spelling}
use Rattle.listing.proofs.text.Line.put_higher.Given as goal

abbrev pub invariant-loop-left : goal.invariant-loop-left
invariant-loop-left l =
    let before = l.initial.self in
    Spelling l.n (drop before.start before.text) before.start l.self.start l.left (drop l.self.start l.self.text)

abbrev pub decreases-loop-left : goal.decreases-loop-left
decreases-loop-left l = l.left
