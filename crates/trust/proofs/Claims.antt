-- The page of claims, proved. Assumes nothing.
use Rattle.spec.specs.Examples.{examples-hold}
use Rattle.sprite.specs.Examples as Symbols
use Rattle.spec.proofs.Octets.{octet-step}
use Rattle.trust.specs.Claims.{Claims}
use Rattle.trust.proofs.Numbers.{numbers}
use Rattle.trust.proofs.Refusals.{refusals}
use Rattle.trust.proofs.Stops.{all-stop}
use Rattle.trust.proofs.Waiting.{first-waiting}
use Rattle.trust.proofs.RoundTrip.{reads-back}
use Rattle.trust.proofs.Demand3.{demand3, starts-fresh, kept-true}
use Rattle.trust.proofs.Kept.{every-feed, true-stays}
use Rattle.trust.proofs.Lines.{lines_step}
use Rattle.trust.proofs.Runs.{handed-singly, size-then-run, other-size, used_all, step-by-step}

pub claims : Claims
claims =
    record {
      numbers = numbers;
      refusals = refusals;
      all-stop = all-stop;
      first-waiting = first-waiting;
      reads-back = reads-back;
      octet-step = octet-step;
      examples-hold = examples-hold;
      symbols-hold = Symbols.examples-hold;
      demand3 = demand3;
      starts-fresh = starts-fresh;
      every-feed = every-feed;
      kept-true = kept-true;
      true-stays = true-stays;
      handed-singly = handed-singly;
      size-then-run = size-then-run;
      other-size = other-size;
      step-by-step = step-by-step;
      used_all = used_all;
      lines_step = lines_step;
    }
