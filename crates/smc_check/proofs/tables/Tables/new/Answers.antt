use mathlib.Core.Path.{refl}
use lib.ListN.{get_or}
use mathlib.Core.Bool.{not}
use Rattle.spec.specs.Basics.{if}
use Rattle.spec.specs.Chunks.{kind_of, times, reach, once}
use Rattle.spec.proofs.Computed.{test_at, agree_at}
use Rattle.smc_check.specs.declared.tables.TheConstants.{ROWS}
use Rattle.smc_check.specs.Tables.{span_of, touches, no_row}
use Rattle.smc_check.proofs.Filling.{same_test}
use Rattle.smc_check.proofs.tables.Tables.new.Goals as goal

pub invariant_of-result-clause-rows_hold : goal.invariant_of-result-clause-rows_hold
unfolding if
invariant_of-result-clause-rows_hold c = λ u h.
    record {
      times = agree_at (λ u. (get_or ROWS u no_row).times) (λ u. times (kind_of u)) 16 refl u h;
      reach = agree_at (λ u. (get_or ROWS u no_row).reach) (λ u. reach (kind_of u)) 16 refl u h;
      once = agree_at (λ u. (get_or ROWS u no_row).once) (λ u. once (kind_of u)) 16 refl u h;
      touches = same_test _ _ (test_at (λ u. if (get_or ROWS u no_row).touches (touches u) (not (touches u))) 16 refl u h);
    }

pub invariant_of-result-clause-spans_hold : goal.invariant_of-result-clause-spans_hold
unfolding span_of if
invariant_of-result-clause-spans_hold c = agree_at _ span_of 256 refl
