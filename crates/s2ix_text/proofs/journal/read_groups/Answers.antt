-- One group more, the end line, or the fault of a line.
use Rattle.std.proofs.Common.{◌≡◌, ℕ, ◌+◌, List, ◌∷◌, ◌++◌, [], length, true, false, Option, refl, sym, ap, ◌∙◌, subst, arith}
use Rattle.std.proofs.lemmas.Bool.{iff_false}
use Rattle.std.proofs.lemmas.Result.{err_from_is_err_and}
use Rattle.std.specs.Prelude.{codes}
use Rattle.s2ix_bag_pairs.specs.declared.pair.Entry.{Entry}
use Rattle.s2ix_text_parts.specs.Lines.{lines_of}
use Rattle.s2ix_text_parts.proofs.Rests.{first_test, none_test, some_test}
use Rattle.s2ix_text.specs.declared.journal_error.JournalFault.{JournalFault}
use Rattle.s2ix_text.specs.JournalFaults.{IsJournalError, is_end}
use Rattle.s2ix_text.specs.JournalLines.{lines_down_to}
use Rattle.s2ix_text.proofs.Reading.{IsJournalSoFar, group_begins, group_sized, journal_bad_end, journal_ends, journal_more, journal_trailing, journal_truncated, size_fault, wants_memory}
use Rattle.s2ix_text.proofs.journal.read_groups.Goals as goal

pub returns-then-not-is_end_of-clause-refused : goal.returns-then-not-is_end_of-clause-refused
returns-then-not-is_end_of-clause-refused c =
    let end : is_end c.in-Some.line.now ≡ true =
    sym (first_test c.in-Some.line.now c.first_part.result.now c.as_slice.result.now (codes "end") c.eq.result c.eq.ensures
    c.first_part.ensures c.as_slice.ensures) ∙ c.if-eq.true in
    λ header own. journal_bad_end c.args.greatest c.ranges.greatest.fits c.args.limits header own c.args.text.now c.loop-line.changes.items
    c.loop-line.number c.len.result c.loop-line.rest.now c.in-Some.line.now c.in-Some.below.now c.loop-line.invariant c.in-Some.ensures.line
    end (omega arith)
    (λ is. iff_false c.is_end_of.ensures c.if-not-is_end_of.true is)

pub returns-then-not-is_empty-clause-refused : goal.returns-then-not-is_empty-clause-refused
returns-then-not-is_empty-clause-refused c =
    let end : is_end c.in-Some.line.now ≡ true =
    sym (first_test c.in-Some.line.now c.first_part.result.now c.as_slice.result.now (codes "end") c.eq.result c.eq.ensures
    c.first_part.ensures c.as_slice.ensures) ∙ c.if-eq.true in
    λ header own. journal_trailing c.args.greatest c.ranges.greatest.fits c.args.limits header own c.args.text.now c.loop-line.changes.items
    c.loop-line.number c.len.result c.loop-line.rest.now c.in-Some.line.now c.in-Some.below.now c.loop-line.invariant c.in-Some.ensures.line
    end (omega arith)
    (c.is_end_of.ensures.0 c.if-not-is_end_of.false)
    (some_test c.in-Some.below.now c.is_empty.result c.is_empty.ensures c.if-not-is_empty.true)

pub returns-then-eq-clause-text : goal.returns-then-eq-clause-text
returns-then-eq-clause-text c =
    journal_ends c.args.greatest c.args.limits c.args.text.now c.loop-line.changes.items c.loop-line.number c.len.result c.loop-line.rest.now
    c.in-Some.line.now c.in-Some.below.now c.loop-line.invariant c.in-Some.ensures.cut (omega arith)
    (c.is_end_of.ensures.0 c.if-not-is_end_of.false)
    (none_test c.in-Some.below.now c.is_empty.result c.is_empty.ensures c.if-not-is_empty.false)

pub returns-in_err-entries-in-Ok-clause-refused : goal.returns-in_err-entries-in-Ok-clause-refused
returns-in_err-entries-in-Ok-clause-refused c =
    let p = err_from_is_err_and c.from_residual.result c.from_residual.ensures.1 in
    let no_end : is_end c.in-Some.line.now ≡ false =
    sym (first_test c.in-Some.line.now c.first_part.result.now c.as_slice.result.now (codes "end") c.eq.result c.eq.ensures
    c.first_part.ensures c.as_slice.ensures) ∙ c.if-eq.false in
    λ header own.
    let begun =
    group_begins c.args.greatest c.ranges.greatest.fits c.args.limits header own c.args.text.now c.loop-line.changes.items c.loop-line.number
    c.len-in-Some.result c.in-Ok.size c.loop-line.rest.now c.in-Some.line.now c.in-Some.below.now c.loop-line.invariant
    c.in-Some.ensures.line no_end (omega arith) (sym c.next_size.ensures ∙ c.in-Ok.is) in
    rw (p.1, p.2)
    (subst (λ (found : Option (ℕ × JournalFault)). IsJournalError c.in_err-entries-in-Ok.field-0.0 found) (sym begun.fault)
    (c.in_err-entries-in-Ok.ensures.refused (lines_down_to header c.loop-line.changes.items ++ c.in-Some.line.now ∷ [])
    (length c.loop-line.changes.items + 1) begun.some begun.place begun.so_far own))

pub returns-in_err-push-in-Ok-clause-refused : goal.returns-in_err-push-in-Ok-clause-refused
returns-in_err-push-in-Ok-clause-refused c =
    let p = err_from_is_err_and c.from_residual-in_err-push-in-Ok.result c.from_residual-in_err-push-in-Ok.ensures.1 in
    λ header own. rw (p.1, p.2) (wants_memory c.args.limits (lines_down_to header []) (lines_of c.args.text.now) refl)

pub loop-line-preserved : goal.loop-line-preserved
loop-line-preserved c =
    let cs = c.loop-line.changes.items in
    let writes =
    group_sized c.args.limits cs c.len-in-Some.result c.in-Ok.size c.in-Some.line.now (omega arith)
    (sym c.next_size.ensures ∙ c.in-Ok.is) in
    let more =
    journal_more c.args.greatest c.args.limits c.args.text.now cs c.loop-line.number c.in-Ok.size c.loop-line.rest.now c.in-Some.line.now
    c.in-Some.below.now c.in_ok-entries-in-Ok.after.now c.in_ok-entries-in-Ok.entries.items c.loop-line.invariant writes
    c.in-Some.ensures.cut c.in_ok-entries-in-Ok.ensures.entries c.in_ok-entries-in-Ok.ensures.size c.in_ok-entries-in-Ok.ensures.text in
    let pushed : c.push.new.list.items ≡ cs ++ c.in_ok-entries-in-Ok.entries.items ∷ [] =
    c.in_ok-push-in-Ok.ensures ∙ ap (λ (es : List Entry). cs ++ es ∷ []) c.from_vec.ensures in
    subst (λ (xs : List (List Entry)). IsJournalSoFar c.args.greatest c.args.limits c.args.text.now xs (c.loop-line.number + (1 + c.in-Ok.size))
    c.in_ok-entries-in-Ok.after.now) (sym pushed) more

pub returns-in-Err-clause-refused : goal.returns-in-Err-clause-refused
returns-in-Err-clause-refused c =
    let no_end : is_end c.in-Some.line.now ≡ false =
    sym (first_test c.in-Some.line.now c.first_part.result.now c.as_slice.result.now (codes "end") c.eq.result c.eq.ensures
    c.first_part.ensures c.as_slice.ensures) ∙ c.if-eq.false in
    λ header own. size_fault c.args.greatest c.ranges.greatest.fits c.args.limits header own c.args.text.now c.loop-line.changes.items
    c.loop-line.number c.len-in-Some.result c.loop-line.rest.now c.in-Some.line.now c.in-Some.below.now c.in-Err.fault c.loop-line.invariant
    c.in-Some.ensures.line no_end (omega arith) (sym c.next_size.ensures ∙ c.in-Err.is)

pub returns-clause-refused : goal.returns-clause-refused
returns-clause-refused c =
    λ header own. journal_truncated c.args.greatest c.ranges.greatest.fits c.args.limits header own c.args.text.now c.loop-line.changes.items
    c.loop-line.number c.loop-line.rest.now c.loop-line.invariant c.in_default.ensures.none
