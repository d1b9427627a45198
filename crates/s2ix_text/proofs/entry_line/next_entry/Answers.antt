-- The tests of an entry, in the order of the table.
use Rattle.std.proofs.Common.{arith, true, false, refl, sym, ◌∙◌, lt-ltb}
use Rattle.std.proofs.lemmas.Bool.{eq-eqb, ne_eqb, or_left, or_right}
use Rattle.std.proofs.lemmas.Result.{err_from_is_err_and}
use Rattle.s2ix_bag_pairs.specs.Limits.{count_limit}
use Rattle.s2ix_text.specs.JournalLines.{last_pair}
use Rattle.s2ix_text.proofs.NextEntries.{above_test, next_by, next_unless}
use Rattle.s2ix_text.proofs.entry_line.next_entry.Goals as goal
use Rattle.s2ix_text.proofs.entry_line.next_entry.Goals.{then-next-count-via-then-next-count, then-next-count-via-else-next-count+then-next-count-2}

pub returns-in_err-next : goal.returns-in_err-next
returns-in_err-next c =
    let p = err_from_is_err_and c.from_residual.result c.from_residual.ensures.1 in
    rw (p.1, p.2)
    (sym (next_unless c.args.greatest c.args.limits (last_pair c.args.before.now) c.args.line.now c.in_err-next.field-0.0
    (sym c.entry_written.ensures ∙ c.in_err-next.was)))

pub returns-then-next : goal.returns-then-next
returns-then-next c =
    sym (next_by c.args.greatest c.args.limits (last_pair c.args.before.now) c.args.line.now c.in_ok-next.next true _ _
    (sym c.entry_written.ensures ∙ c.in_ok-next.was) (eq-eqb _ _ c.if-next.true) refl refl)

pub returns-then-not-comes_after_entries : goal.returns-then-not-comes_after_entries
returns-then-not-comes_after_entries c =
    sym (next_by c.args.greatest c.args.limits (last_pair c.args.before.now) c.args.line.now c.in_ok-next.next false false _
    (sym c.entry_written.ensures ∙ c.in_ok-next.was) (ne_eqb _ _ c.if-next.false)
    (sym c.comes_after_entries.ensures ∙ c.if-not-comes_after_entries.true) refl)

pub returns-then-next-count : goal.returns-then-next-count
returns-then-next-count c =
    sym (next_by c.args.greatest c.args.limits (last_pair c.args.before.now) c.args.line.now c.in_ok-next.next false true true
    (sym c.entry_written.ensures ∙ c.in_ok-next.was) (ne_eqb _ _ c.if-next.false)
    (sym c.comes_after_entries.ensures ∙ c.if-not-comes_after_entries.false)
    (elim c.then-next-count.branch [
      | then-next-count-via-then-next-count w ↦ or_left _ _
          (lt-ltb (count_limit c.args.limits) c.in_ok-next.next.before (omega (arith, w.if-next-count, c.count.ensures)))
      | then-next-count-via-else-next-count+then-next-count-2 w ↦ or_right _ _
          (lt-ltb (count_limit c.args.limits) c.in_ok-next.next.after (omega (arith, w.if-next-count-2, w.count-else-next-count.ensures)))
    ]))

pub returns : goal.returns
returns c =
    sym (next_by c.args.greatest c.args.limits (last_pair c.args.before.now) c.args.line.now c.in_ok-next.next false true false
    (sym c.entry_written.ensures ∙ c.in_ok-next.was) (ne_eqb _ _ c.if-next.false)
    (sym c.comes_after_entries.ensures ∙ c.if-not-comes_after_entries.false)
    (above_test (count_limit c.args.limits) c.in_ok-next.next.before c.in_ok-next.next.after (λ more. omega (arith, more))
    (λ more. omega (arith, more))))
