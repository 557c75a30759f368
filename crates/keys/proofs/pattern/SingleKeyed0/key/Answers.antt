use Rattle.pattern_kinds.specs.PatternKind.{single_pattern}
use Rattle.keys.proofs.Orders.{missing_proper, lacking_missing, pattern_order}
use Rattle.keys.proofs.pattern.SingleKeyed0.key.Goals as goal

pub returns-clause-proper : goal.returns-clause-proper
returns-clause-proper c = missing_proper c.args.x

pub returns-clause-same : goal.returns-clause-same
returns-clause-same c = lacking_missing c.args.x c.ranges.x.fits

pub returns-clause-order : goal.returns-clause-order
returns-clause-order c = pattern_order (single_pattern c.args.self.now)
