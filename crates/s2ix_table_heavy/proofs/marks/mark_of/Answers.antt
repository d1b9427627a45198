use Rattle.std.proofs.Common.{arith}
use Rattle.s2ix_table_spans.proofs.Passing.{contains_at}
use Rattle.s2ix_table_heavy.proofs.marks.mark_of.Goals as goal

pub returns : goal.returns
returns c =
    let label = c.in-Some.ensures.value in
    let within_limit = c.requires.within_limit in
    record {
      cell = λ h i. c.requires.one_cell h c.at.result i (contains_at c.args.chunk.now 0 c.at.result c.at.ensures);
      label = omega arith;
      count = omega arith;
    }
