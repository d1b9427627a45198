-- One entry more, or the fault of its line.
use Rattle.std.proofs.Common.{◌≡◌, suc, ◌+◌, ◌-◌, List, length, Err, Ok, sym, ap, ◌∙◌, subst, arith}
use Rattle.std.proofs.lemmas.Result.{err_from_is_err_and}
use Rattle.s2ix_bag_pairs.specs.declared.pair.Entry.{Entry}
use Rattle.s2ix_text_parts.specs.Lines.{lines_of}
use Rattle.s2ix_text.specs.JournalLines.{last_pair, next_entry}
use Rattle.s2ix_text.proofs.Reading.{IsGroupSoFar, group_fault, group_more, group_truncated, wants_memory}
use Rattle.s2ix_text.proofs.group.read_group.Goals as goal

pub returns-in_err-entries-clause-refused : goal.returns-in_err-entries-clause-refused
returns-in_err-entries-clause-refused c =
    let p = err_from_is_err_and c.from_residual.result c.from_residual.ensures.1 in
    λ above groups some number so_far own. rw (p.1, p.2) (wants_memory c.args.limits above (lines_of c.args.text.now) some)

pub returns-in_default-clause-refused : goal.returns-in_default-clause-refused
returns-in_default-clause-refused c =
    let es = c.loop-limits.entries.items in
    λ above groups some number so_far own.
    let left : length es + (c.args.size - length es) ≡ c.args.size = omega (arith, c.loop-limits.invariant.within_limit) in
    let at : c.args.number + c.len-in-loop-limits.result ≡ c.args.number + length es = omega arith in
    group_truncated c.args.greatest c.ranges.greatest.fits c.args.limits above groups c.args.size (c.args.size - length es) c.args.number
    (c.args.number + c.len-in-loop-limits.result) c.args.text.now es c.loop-limits.rest.now some number own so_far left at
    c.loop-limits.invariant c.in_default.ensures.none

pub returns-in_err-push-in-Ok-clause-refused : goal.returns-in_err-push-in-Ok-clause-refused
returns-in_err-push-in-Ok-clause-refused c =
    let p = err_from_is_err_and c.from_residual-in_err-push-in-Ok.result c.from_residual-in_err-push-in-Ok.ensures.1 in
    λ above groups some number so_far own. rw (p.1, p.2) (wants_memory c.args.limits above (lines_of c.args.text.now) some)

pub returns-in-Err-clause-refused : goal.returns-in-Err-clause-refused
returns-in-Err-clause-refused c =
    let es = c.loop-limits.entries.items in
    let more : length es + suc (c.args.size - length es - 1) ≡ c.args.size = omega arith in
    let at : c.args.number + c.len-in-loop-limits.result ≡ c.args.number + length es = omega arith in
    let fault : next_entry c.args.greatest c.args.limits (last_pair es) c.in-Some.line.now ≡ Err c.in-Err.fault =
    ap (λ (xs : List Entry). next_entry c.args.greatest c.args.limits (last_pair xs) c.in-Some.line.now) (sym c.as_slice.ensures.value)
    ∙ sym c.next_entry.ensures ∙ c.in-Err.is in
    λ above groups some number so_far own.
    group_fault c.args.greatest c.ranges.greatest.fits c.args.limits above groups c.args.size (c.args.size - length es - 1) c.args.number
    (c.args.number + c.len-in-loop-limits.result) c.args.text.now es c.loop-limits.rest.now c.in-Some.line.now c.in-Some.below.now
    c.in-Err.fault some number own so_far more at c.loop-limits.invariant c.in-Some.ensures.line fault

pub loop-limits-preserved : goal.loop-limits-preserved
loop-limits-preserved c =
    let es = c.loop-limits.entries.items in
    let next : next_entry c.args.greatest c.args.limits (last_pair es) c.in-Some.line.now ≡ Ok c.in-Ok.next =
    ap (λ (xs : List Entry). next_entry c.args.greatest c.args.limits (last_pair xs) c.in-Some.line.now) (sym c.as_slice.ensures.value)
    ∙ sym c.next_entry.ensures ∙ c.in-Ok.is in
    let more =
    group_more c.args.greatest c.ranges.greatest.fits c.args.limits c.args.text.now c.args.size es c.loop-limits.rest.now c.in-Some.line.now
    c.in-Some.below.now c.in-Ok.next c.loop-limits.invariant (omega arith) c.in-Some.ensures.cut next in
    subst (λ (xs : List Entry). IsGroupSoFar c.args.greatest c.args.limits c.args.text.now c.args.size xs c.in-Some.below.now)
    (sym c.in_ok-push-in-Ok.ensures) more
