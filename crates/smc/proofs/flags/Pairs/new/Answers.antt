use Rattle.std.proofs.Common.{refl}
use Rattle.spec.proofs.Computed.{agree_at}
use Rattle.smc.specs.Factors.{factor_of}
use Rattle.smc.proofs.flags.Pairs.new.Goals as goal

pub invariant_of-result : goal.invariant_of-result
unfolding factor_of
invariant_of-result c = record { are = agree_at _ factor_of 16 refl }
