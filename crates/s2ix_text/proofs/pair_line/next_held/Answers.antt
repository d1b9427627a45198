-- The tests of a line of a pair, in the order of the table.
use Rattle.std.proofs.Common.{arith, sym, ◌∙◌}
use Rattle.std.proofs.lemmas.Result.{err_from_is_err_and}
use Rattle.s2ix_text_write.specs.Version.{dump_header}
use Rattle.s2ix_text.proofs.PairTexts.{read_under}
use Rattle.s2ix_text.proofs.DumpRows.{copies_fault, held_fault, next_is, pairs_fault, unsorted_fault}
use Rattle.s2ix_text.proofs.pair_line.next_held.Goals as goal

pub returns-in_err-next-clause-fault : goal.returns-in_err-next-clause-fault
returns-in_err-next-clause-fault c =
    let p = err_from_is_err_and c.from_residual.result c.from_residual.ensures.1 in
    rw (p.1, p.2) (held_fault c.args.limits (dump_header c.args.version) c.args.before.now c.args.line.now c.in_err-next.field-0.0
    c.requires.dumped c.requires.pair
    (read_under c.args.version c.args.line.now _ _ c.greatest_count.ensures c.held_written.ensures ∙ c.in_err-next.was))

pub returns-then-not-comes_after_pairs-clause-fault : goal.returns-then-not-comes_after_pairs-clause-fault
returns-then-not-comes_after_pairs-clause-fault c =
    unsorted_fault c.args.limits (dump_header c.args.version) c.args.before.now c.args.line.now c.in_ok-next.next c.requires.dumped
    c.requires.pair (read_under c.args.version c.args.line.now _ _ c.greatest_count.ensures c.held_written.ensures ∙ c.in_ok-next.was)
    (sym c.comes_after_pairs.ensures ∙ c.if-not-comes_after_pairs.true)

pub returns-then-next-count-clause-fault : goal.returns-then-next-count-clause-fault
returns-then-next-count-clause-fault c =
    copies_fault c.args.limits (dump_header c.args.version) c.args.before.now c.args.line.now c.in_ok-next.next c.requires.dumped
    c.requires.pair (read_under c.args.version c.args.line.now _ _ c.greatest_count.ensures c.held_written.ensures ∙ c.in_ok-next.was)
    (sym c.comes_after_pairs.ensures ∙ c.if-not-comes_after_pairs.false) (omega arith)

pub returns-then-before-pairs-clause-fault : goal.returns-then-before-pairs-clause-fault
returns-then-before-pairs-clause-fault c =
    pairs_fault c.args.limits (dump_header c.args.version) c.args.before.now c.args.line.now c.in_ok-next.next c.requires.dumped
    c.requires.pair (read_under c.args.version c.args.line.now _ _ c.greatest_count.ensures c.held_written.ensures ∙ c.in_ok-next.was)
    (sym c.comes_after_pairs.ensures ∙ c.if-not-comes_after_pairs.false) (omega arith) (omega arith)

pub returns-clause-next : goal.returns-clause-next
returns-clause-next c =
    next_is c.args.limits (dump_header c.args.version) c.args.before.now c.args.line.now c.in_ok-next.next c.requires.dumped c.requires.pair
    (read_under c.args.version c.args.line.now _ _ c.greatest_count.ensures c.held_written.ensures ∙ c.in_ok-next.was)
    (sym c.comes_after_pairs.ensures ∙ c.if-not-comes_after_pairs.false) (omega arith) (omega arith)
