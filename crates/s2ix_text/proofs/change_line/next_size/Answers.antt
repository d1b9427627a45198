-- The tests of a line that begins a group, in the order of the table.
use Rattle.std.proofs.Common.{arith, None, Some, sym, ap, ◌∙◌, List, ℕ, []}
use Rattle.std.specs.Prelude.{slice_index_or}
use Rattle.std.proofs.lemmas.Bool.{cond-false, cond-true, le-leb, lt-leb}
use Rattle.s2ix_bag_pairs.specs.Limits.{changes_limit}
use Rattle.s2ix_text.specs.Numbers.{size_written}
use Rattle.s2ix_text.proofs.ChangeTexts.{change_from_word, no_change_word, no_change_parts, size_by, size_unless}
use Rattle.s2ix_text_parts.proofs.Rests.{agrees, differs}
use Rattle.s2ix_text.proofs.change_line.next_size.Goals as goal

pub returns-in_default : goal.returns-in_default
returns-in_default c =
    sym (size_unless c.args.limits c.args.groups c.args.line.now (no_change_parts c.args.line.now c.in_default.ensures.none))

pub returns-then-ne : goal.returns-then-ne
returns-then-ne c =
    sym (size_unless c.args.limits c.args.groups c.args.line.now
    (no_change_word c.args.line.now c.in-Some.word.now c.in-Some.number.now c.in-Some.ensures.parts
    (λ is. differs c.in-Some.word.now c.as_slice.result.now c.ne.result c.ne.ensures c.if-ne.true (is ∙ sym c.as_slice.ensures))))

pub returns-in_default-size_written : goal.returns-in_default-size_written
returns-in_default-size_written c =
    sym (size_by c.args.limits c.args.groups c.args.line.now None
    (change_from_word c.args.line.now c.in-Some.word.now c.in-Some.number.now c.in-Some.ensures.some c.in-Some.ensures.parts
    (agrees c.in-Some.word.now c.as_slice.result.now c.ne.result c.ne.ensures c.if-ne.false ∙ c.as_slice.ensures))
    (ap (λ (ps : List (List ℕ)). size_written (slice_index_or ps 1 [])) c.in-Some.ensures.parts ∙ sym c.size_written.ensures
    ∙ c.in_default-size_written.is))

pub returns-then-groups-changes : goal.returns-then-groups-changes
returns-then-groups-changes c =
    sym (size_by c.args.limits c.args.groups c.args.line.now (Some c.in-Some-size_written.size)
    (change_from_word c.args.line.now c.in-Some.word.now c.in-Some.number.now c.in-Some.ensures.some c.in-Some.ensures.parts
    (agrees c.in-Some.word.now c.as_slice.result.now c.ne.result c.ne.ensures c.if-ne.false ∙ c.as_slice.ensures))
    (ap (λ (ps : List (List ℕ)). size_written (slice_index_or ps 1 [])) c.in-Some.ensures.parts ∙ sym c.size_written.ensures
    ∙ c.in-Some-size_written.is)
    ∙ cond-true _ _ _ (le-leb (changes_limit c.args.limits) c.args.groups (omega arith)))

pub returns : goal.returns
returns c =
    sym (size_by c.args.limits c.args.groups c.args.line.now (Some c.in-Some-size_written.size)
    (change_from_word c.args.line.now c.in-Some.word.now c.in-Some.number.now c.in-Some.ensures.some c.in-Some.ensures.parts
    (agrees c.in-Some.word.now c.as_slice.result.now c.ne.result c.ne.ensures c.if-ne.false ∙ c.as_slice.ensures))
    (ap (λ (ps : List (List ℕ)). size_written (slice_index_or ps 1 [])) c.in-Some.ensures.parts ∙ sym c.size_written.ensures
    ∙ c.in-Some-size_written.is)
    ∙ cond-false _ _ _ (lt-leb (changes_limit c.args.limits) c.args.groups (omega arith)))
