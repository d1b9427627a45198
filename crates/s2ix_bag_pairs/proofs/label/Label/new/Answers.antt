use Rattle.s2ix_bag_pairs.proofs.Labels.{label_numbered-in_range, label_numbered-above}
use Rattle.s2ix_bag_pairs.proofs.label.Label.new.Goals as goal

pub returns-then-value-le2147483647-clause-label : goal.returns-then-value-le2147483647-clause-label
returns-then-value-le2147483647-clause-label c = label_numbered-in_range c.args.value _

pub returns-else-value-le2147483647-clause-label : goal.returns-else-value-le2147483647-clause-label
returns-else-value-le2147483647-clause-label c = label_numbered-above c.args.value c.if-value-le2147483647.false
