use Rattle.std.proofs.Common.{arith}
use Rattle.s2ix_table_parts.proofs.Cutting.{begins_count}
use Rattle.s2ix_table_parts.proofs.change.parts_changed.Span.front_cut.Goals as goal

pub bounds-begins-0 : goal.bounds-begins-0
bounds-begins-0 c = let many = begins_count c.args.self.entries.now c.args.begins.now c.requires.begins in omega arith
