-- The tests of a line, in the order of the table.
use Rattle.std.proofs.Common.{◌≡◌, ◌+◌, [], None, length, true, ◌∙◌, arith}
use Rattle.std.proofs.lemmas.Bool.{iff_false}
use Rattle.s2ix_text_write.specs.Dump.{end_line}
use Rattle.s2ix_text_write.specs.Version.{dump_header}
use Rattle.s2ix_text.specs.declared.dump_error.DumpFault.TheVariants.{TrailingBytes}
use Rattle.s2ix_text.specs.DumpFaults.{is_end}
use Rattle.s2ix_text_parts.specs.Lines.{lines_of}
use Rattle.s2ix_text_parts.proofs.Rests.{none_test, some_test}
use Rattle.s2ix_text.proofs.NextDumpLines.{at_line, bad_end, end_agrees, fault_left, read_to_end, row_fault, trailing, truncated}
use Rattle.s2ix_text.proofs.dump.next_line.Goals.{After-is_empty, After-is_end_of}
use Rattle.s2ix_text.proofs.dump.next_line.Goals as goal

pub returns-in_default-cut_line-clause-refused : goal.returns-in_default-cut_line-clause-refused
returns-in_default-cut_line-clause-refused c =
    truncated c.args.limits (dump_header c.args.version) c.args.before.now c.args.text.now c.requires.dumped
    c.in_default-cut_line.ensures.none

pub returns-in-Err-clause-refused : goal.returns-in-Err-clause-refused
returns-in-Err-clause-refused c =
    row_fault c.args.limits (dump_header c.args.version) c.args.before.now c.args.text.now c.in-Some-cut_line.line.now
    c.in-Some-cut_line.below.now c.in-Err.fault c.in-Some-cut_line.ensures.line c.in-Err.ensures.fault

-- a line with the first part of an end line
begins_as_end : (c : After-is_end_of) → is_end c.in-Some-cut_line.line.now ≡ true
begins_as_end c =
    end_agrees c.in-Some-cut_line.line.now c.first_part.result.now c.as_slice.result.now c.ne.result c.ne.ensures c.first_part.ensures
    c.as_slice.ensures c.if-ne.false

pub returns-then-not-is_end_of-clause-refused : goal.returns-then-not-is_end_of-clause-refused
returns-then-not-is_end_of-clause-refused c =
    let a = (goal.at-returns-then-not-is_end_of-clause-refused c).After-is_end_of in
    bad_end c.args.limits (dump_header c.args.version) c.args.before.now c.args.copies c.args.text.now c.in-Some-cut_line.line.now
    c.in-Some-cut_line.below.now c.requires.dumped c.requires.sum c.in-Some-cut_line.ensures.line (begins_as_end a)
    (iff_false c.is_end_of.ensures c.if-not-is_end_of.true)

pub returns-then-not-is_empty-clause-refused : goal.returns-then-not-is_empty-clause-refused
returns-then-not-is_empty-clause-refused c =
    let a = (goal.at-returns-then-not-is_empty-clause-refused c).After-is_end_of in
    let number : length c.args.before.now + 3 ≡ length c.args.before.now + 2 + 1 = omega arith in
    trailing c.args.limits (dump_header c.args.version) c.args.before.now c.args.copies c.args.text.now c.in-Some-cut_line.line.now
    c.in-Some-cut_line.below.now c.requires.dumped c.requires.sum c.in-Some-cut_line.ensures.line (begins_as_end a)
    (c.is_end_of.ensures.0 c.if-not-is_end_of.false)
    (some_test c.in-Some-cut_line.below.now c.is_empty.result c.is_empty.ensures c.if-not-is_empty.true)
    ∙ at_line _ _ TrailingBytes number

-- the text is the end line, if nothing is below it
ends : (c : After-is_empty) → is_end c.in-Some-cut_line.line.now ≡ true → c.in-Some-cut_line.below.now ≡ []
    → (c.args.text.now ≡ end_line c.args.before.now)
    × (fault_left c.args.limits (dump_header c.args.version) c.args.before.now (lines_of c.args.text.now) ≡ None)
ends c end nothing_below =
    read_to_end c.args.limits (dump_header c.args.version) c.args.before.now c.args.copies c.args.text.now c.in-Some-cut_line.line.now
    c.in-Some-cut_line.below.now c.requires.dumped c.requires.sum c.in-Some-cut_line.ensures.cut c.in-Some-cut_line.ensures.line
    end (c.is_end_of.ensures.0 c.if-not-is_end_of.false) nothing_below

pub returns-clause-end : goal.returns-clause-end
returns-clause-end c =
    let at = goal.at-returns-clause-end c in
    (ends at.After-is_empty (begins_as_end at.After-is_end_of)
    (none_test c.in-Some-cut_line.below.now c.is_empty.result c.is_empty.ensures c.if-not-is_empty.false)).0

pub returns-clause-accepted : goal.returns-clause-accepted
returns-clause-accepted c =
    let at = goal.at-returns-clause-accepted c in
    (ends at.After-is_empty (begins_as_end at.After-is_end_of)
    (none_test c.in-Some-cut_line.below.now c.is_empty.result c.is_empty.ensures c.if-not-is_empty.false)).1
