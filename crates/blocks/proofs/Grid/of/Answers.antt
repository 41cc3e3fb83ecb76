use Rattle.spec.proofs.Limits.{allowed-size}
use Rattle.blocks.proofs.Grid.of.Goals as goal

pub invariant_of-result-clause-wide : goal.invariant_of-result-clause-wide
invariant_of-result-clause-wide c = (allowed-size c.args.size c.requires).wide

pub invariant_of-result-clause-narrow : goal.invariant_of-result-clause-narrow
invariant_of-result-clause-narrow c = (allowed-size c.args.size c.requires).narrow

pub invariant_of-result-clause-low : goal.invariant_of-result-clause-low
invariant_of-result-clause-low c = (allowed-size c.args.size c.requires).low
