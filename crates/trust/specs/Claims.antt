-- The page of claims: every theorem that the README names, in one record, and each of them closed. A reader of the proofs starts here: what is
-- stated below is all that is claimed, `claims` (proofs/Claims) proves all of it, and a must-fail edit guards each. Assumes nothing.
use Rattle.std.specs.Prelude.{◌≡◌, ◌++◌, true}
use Rattle.spec.specs.Octets.{OctetStep}
use Rattle.spec.specs.Rows.{hold}
use Rattle.spec.specs.Examples.{fifteen, further}
use Rattle.sprite.specs.Examples.{seven}
use Rattle.sprite.specs.Examples as Symbols
use Rattle.trust.specs.Numbers.{Numbers}
use Rattle.trust.specs.Refusals.{Refusals}
use Rattle.trust.specs.Stops.{Stops}
use Rattle.trust.specs.Waiting.{FirstWaiting}
use Rattle.trust.specs.RoundTrip.{WrittenReadsBack}
use Rattle.trust.specs.Demand.{EveryFeed, StartsFresh, Demand3, KeptTrue}
use Rattle.trust.specs.Kept.{TrueStays}
use Rattle.trust.specs.Lines.{LinesByStep}
use Rattle.trust.specs.Runs.{HandedSingly, SizeThenRun, OtherSize, UsedUp, StepByStep}

pub record Claims : Type 0 where
  -- demand 1: the numbers of every call, these and no others; what is refused leaves every lent buffer as it was; the block of every answer, and
  -- that with 5 to 10 it is the first still waiting
  pub numbers : Numbers
  pub refusals : Refusals
  pub all-stop : Stops
  pub first-waiting : FirstWaiting
  -- demand 2: what was written reads back; the octet step by bytes is 01's by 24-bit numbers; 01's examples, and those beside them, and of symbols
  pub reads-back : WrittenReadsBack
  pub octet-step : OctetStep
  pub examples-hold : hold (fifteen ++ further) ≡ true
  pub symbols-hold : Symbols.hold (seven ++ Symbols.further) ≡ true
  -- demand 3, over every whole sequence of calls: what it starts from, that it needs no hypothesis on feeds, and the kept count
  pub demand3 : Demand3
  pub starts-fresh : StartsFresh
  pub every-feed : EveryFeed
  pub kept-true : KeptTrue
  pub true-stays : TrueStays
  -- walks: a run and its chunks handed over singly; a feed's size numbers and the run behind them; a walk and its steps; what 0 says
  pub handed-singly : HandedSingly
  pub size-then-run : SizeThenRun
  pub other-size : OtherSize
  pub step-by-step : StepByStep
  pub used_all : UsedUp
  -- the board program's listing is the lines of the steps
  pub lines_step : LinesByStep
