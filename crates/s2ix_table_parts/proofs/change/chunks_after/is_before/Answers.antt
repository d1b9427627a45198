use Rattle.s2id_core.specs.CellId.{raw_of}
use Rattle.s2ix_bag_pairs.specs.Label.{value_of}
use Rattle.s2ix_table_parts.proofs.ChunksChanged.{label_tells, number_tells}
use Rattle.s2ix_table_parts.proofs.change.chunks_after.is_before.Goals as goal

pub returns-then-own-number : goal.returns-then-own-number
returns-then-own-number c =
    label_tells c.raw-own.result (raw_of c.args.pair.cell) c.args.number c.get.result (value_of c.args.pair.label) c.args.label c.raw-own.ensures
    c.if-own-number.true c.get.ensures

pub returns-else-own-number : goal.returns-else-own-number
returns-else-own-number c =
    number_tells c.raw-own.result (raw_of c.args.pair.cell) c.args.number (value_of c.args.pair.label) c.args.label c.raw-own.ensures
    c.if-own-number.false c.args.pair.label.in_range c.requires
