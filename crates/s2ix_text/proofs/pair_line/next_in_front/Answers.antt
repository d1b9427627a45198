-- The line of a held pair has no line feed, and reads as that pair; if a test fails, it is not the next.
use Rattle.std.proofs.Common.{ℕ, arith, subst, sym, ◌∙◌}
use Rattle.std.proofs.lemmas.Bool.{both_ways}
use Rattle.s2ix_text_write.specs.Version.{dump_header}
use Rattle.s2ix_text.proofs.FrontReads.{next_passes}
use Rattle.s2ix_text.proofs.PairTexts.{HasCount, greatest_known, held_of_line, line_cut, line_is_no_end}
use Rattle.s2ix_text.proofs.DumpRows.{next_is}
use Rattle.s2ix_text.specs.PairLines.{IsCommonFront, line_text}
use Rattle.s2ix_text.proofs.pair_line.next_in_front.Goals.{then-not-comes_after_pairs-via-then-not-comes_after_pairs, then-not-comes_after_pairs-via-else-not-comes_after_pairs+then-next-count}
use Rattle.s2ix_text.proofs.pair_line.next_in_front.Goals as goal

pub returns-then-not-comes_after_pairs-clause-none : goal.returns-then-not-comes_after_pairs-clause-none
returns-then-not-comes_after_pairs-clause-none c =
    let read = c.in_ok-next.ensures in
    λ h rest common next.
    let passes =
    next_passes c.args.limits (dump_header c.args.version) c.args.before.now c.args.text.now c.in_ok-next.after.now rest
    c.in_ok-next.next h (read.some, omega (arith, read.within_limit, c.greatest_count.ensures, greatest_known c.args.version)) read.line
    (subst (λ (m : ℕ). IsCommonFront m c.args.text.now h rest) (sym (greatest_known c.args.version)) common) next in
    elim c.then-not-comes_after_pairs.branch [
      | then-not-comes_after_pairs-via-then-not-comes_after_pairs w ↦ both_ways _ (sym c.comes_after_pairs.ensures ∙ w.if-not-comes_after_pairs.true)
          passes.before
      | then-not-comes_after_pairs-via-else-not-comes_after_pairs+then-next-count w
          ↦ omega (arith, w.if-next-count.true, w.count.ensures, passes.small)
    ]

pub returns-then-before-pairs-clause-none : goal.returns-then-before-pairs-clause-none
returns-then-before-pairs-clause-none c =
    let read = c.in_ok-next.ensures in
    λ h rest common next.
    let passes =
    next_passes c.args.limits (dump_header c.args.version) c.args.before.now c.args.text.now c.in_ok-next.after.now rest
    c.in_ok-next.next h (read.some, omega (arith, read.within_limit, c.greatest_count.ensures, greatest_known c.args.version)) read.line
    (subst (λ (m : ℕ). IsCommonFront m c.args.text.now h rest) (sym (greatest_known c.args.version)) common) next in
    omega (arith, passes.within_limit)

pub returns-clause-line : goal.returns-clause-line
returns-clause-line c =
    line_cut (dump_header c.args.version) c.in_ok-next.next c.args.text.now c.in_ok-next.after.now
    (c.in_ok-next.ensures.some, omega (arith, c.in_ok-next.ensures.within_limit, c.greatest_count.ensures, greatest_known c.args.version))
    c.in_ok-next.ensures.line

pub returns-clause-next : goal.returns-clause-next
returns-clause-next c =
    let next = c.in_ok-next.next in
    let counted : HasCount (dump_header c.args.version) next =
    (c.in_ok-next.ensures.some, omega (arith, c.in_ok-next.ensures.within_limit, c.greatest_count.ensures, greatest_known c.args.version)) in
    next_is c.args.limits (dump_header c.args.version) c.args.before.now (line_text next) next c.requires.dumped
    (line_is_no_end (dump_header c.args.version) next counted) (held_of_line (dump_header c.args.version) next counted)
    (sym c.comes_after_pairs.ensures ∙ c.if-not-comes_after_pairs.false) (omega arith) (omega arith)
