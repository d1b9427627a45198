use Rattle.std.proofs.Common.{◌-◌, arith, rules}
use Rattle.s2id_core.specs.CellId.{raw_of, first_of, end_of}
use Rattle.s2id_core.proofs.Nested.{span}
use Rattle.s2ix_table_spans.proofs.Exchanges.{all_from, all_to}
use Rattle.s2ix_table_spans.proofs.block.are_within.Goals as goal

pub overflow_sub-result : goal.overflow_sub-result
overflow_sub-result c =
    let s = span (raw_of c.args.cell) c.args.cell.valid in
    let a = s.begins in
    let b = s.from in
    let t = s.to in
    let e = c.span_end.ensures in
    omega arith

pub returns-then-span_start-raw-clause-from : goal.returns-then-span_start-raw-clause-from
returns-then-span_start-raw-clause-from c t =
    all_from c.args.pairs.now c.index-pairs-0.result (first_of c.args.cell) c.requires.rises (search rules)

pub returns-then-span_start-raw-clause-to : goal.returns-then-span_start-raw-clause-to
returns-then-span_start-raw-clause-to c t h i =
    let lt = all_to c.args.pairs.now c.index-pairs-pairs.result (end_of c.args.cell - 1) c.requires.rises (search rules) h i in
    omega arith
