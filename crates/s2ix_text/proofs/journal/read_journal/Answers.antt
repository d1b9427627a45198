-- The header tells the version, and what is below it is read.
use Rattle.std.proofs.Common.{◌≡◌, ℕ, Option, None, refl, sym, ◌∙◌, subst}
use Rattle.std.specs.Prelude.{IfErr}
use Rattle.std.proofs.lemmas.Result.{IfErr-weaker, IfOk-weaker, MatchResult-from_both}
use Rattle.s2ix_text_write.specs.Journal.{IsJournalText}
use Rattle.s2ix_text_write.proofs.Journals.{one_journal}
use Rattle.s2ix_text.specs.declared.journal_error.JournalError.TheVariants.{At, OutOfMemory}
use Rattle.s2ix_text.specs.declared.journal_error.JournalFault.{JournalFault}
use Rattle.s2ix_text.specs.declared.journal_error.JournalFault.TheVariants.{BadHeader}
use Rattle.s2ix_text.specs.JournalFaults.{IsJournalError, journal_fault}
use Rattle.s2ix_text.proofs.Answered.{IsJournalIn, never_refused, no_fault, only_memory, read_below}
use Rattle.s2ix_text.proofs.WholeJournals.{bad_header, below_header, greatest_of_version, no_header}
use Rattle.s2ix_text.proofs.JournalTold.{Answers, answers, answers_error}
use Rattle.s2ix_text.proofs.journal.read_journal.Goals.{After-read_groups}
use Rattle.s2ix_text.proofs.journal.read_journal.Goals as goal

pub returns-in_default-clause-refused : goal.returns-in_default-clause-refused
returns-in_default-clause-refused c = no_header c.args.limits c.args.text.now c.in_default.ensures.none

pub returns-in_default-clause-every : goal.returns-in_default-clause-every
returns-in_default-clause-every c =
    λ cs is same. absurd (never_refused c.args.limits c.args.text.now cs _ is same (returns-in_default-clause-refused c))

pub returns-in_default-of_journal-clause-refused : goal.returns-in_default-of_journal-clause-refused
returns-in_default-of_journal-clause-refused c =
    bad_header c.args.limits c.args.text.now c.in-Some.header.now c.in-Some.below.now c.in-Some.ensures.line
    (sym c.of_journal.ensures ∙ c.in_default-of_journal.is)

pub returns-in_default-of_journal-clause-every : goal.returns-in_default-of_journal-clause-every
returns-in_default-of_journal-clause-every c =
    λ cs is same. absurd (never_refused c.args.limits c.args.text.now cs _ is same (returns-in_default-of_journal-clause-refused c))

pub returns-clause-text : goal.returns-clause-text
returns-clause-text c =
    let named = sym c.of_journal.ensures ∙ c.in-Some-of_journal.is in
    IfOk-weaker c.read_groups.result (λ changes. IsJournalIn c.args.limits c.args.text.now changes.items)
    (λ changes. IsJournalText c.args.text.now changes.items) (λ changes read. read.1)
    (read_below c.read_groups.result (λ changes. changes.items) c.in-Some-of_journal.version c.greatest_count.result c.args.limits
    c.args.text.now c.in-Some.header.now c.in-Some.below.now named c.greatest_count.ensures c.in-Some.ensures.cut
    c.read_groups.ensures.groups c.read_groups.ensures.text)

pub returns-clause-accepted : goal.returns-clause-accepted
returns-clause-accepted c =
    let named = sym c.of_journal.ensures ∙ c.in-Some-of_journal.is in
    IfOk-weaker c.read_groups.result (λ changes. IsJournalIn c.args.limits c.args.text.now changes.items)
    (λ _. journal_fault c.args.limits c.args.text.now ≡ None)
    (λ changes read. no_fault c.args.limits c.args.text.now changes.items read.0 read.1)
    (read_below c.read_groups.result (λ changes. changes.items) c.in-Some-of_journal.version c.greatest_count.result c.args.limits
    c.args.text.now c.in-Some.header.now c.in-Some.below.now named c.greatest_count.ensures c.in-Some.ensures.cut
    c.read_groups.ensures.groups c.read_groups.ensures.text)

pub returns-clause-refused : goal.returns-clause-refused
returns-clause-refused c =
    let named = sym c.of_journal.ensures ∙ c.in-Some-of_journal.is in
    let below =
    below_header c.args.limits c.args.text.now c.in-Some.header.now c.in-Some.below.now c.in-Some-of_journal.version
    c.in-Some.ensures.line named in
    subst (λ (found : Option (ℕ × JournalFault)). IfErr c.read_groups.result (λ error. IsJournalError error found)) (sym below)
    (c.read_groups.ensures.refused c.in-Some.header.now
    (greatest_of_version c.in-Some.header.now c.in-Some-of_journal.version named ∙ sym c.greatest_count.ensures))

pub returns-clause-every : goal.returns-clause-every
returns-clause-every c =
    λ cs is same.
    MatchResult-from_both c.read_groups.result (λ changes. changes.items ≡ cs) (λ error. error ≡ OutOfMemory)
    (IfOk-weaker c.read_groups.result (λ changes. IsJournalText c.args.text.now changes.items) (λ changes. changes.items ≡ cs)
    (λ changes own. one_journal c.args.text.now changes.items cs own same) (returns-clause-text c))
    (IfErr-weaker c.read_groups.result (λ error. IsJournalError error (journal_fault c.args.limits c.args.text.now))
    (λ error. error ≡ OutOfMemory)
    (λ error found. only_memory c.args.limits c.args.text.now cs error is same found) (returns-clause-refused c))

-- ---- each refusal by itself

pub returns-in_default-of_journal-clause-no_feed : goal.returns-in_default-of_journal-clause-no_feed
returns-in_default-of_journal-clause-no_feed c =
    (answers_error c.args.limits c.args.text.now _ (At 1 BadHeader) refl
    (bad_header c.args.limits c.args.text.now c.in-Some.header.now c.in-Some.below.now c.in-Some.ensures.line
    (sym c.of_journal.ensures ∙ c.in_default-of_journal.is))).no_feed

pub returns-in_default-of_journal-clause-bad_header : goal.returns-in_default-of_journal-clause-bad_header
returns-in_default-of_journal-clause-bad_header c =
    (answers_error c.args.limits c.args.text.now _ (At 1 BadHeader) refl
    (bad_header c.args.limits c.args.text.now c.in-Some.header.now c.in-Some.below.now c.in-Some.ensures.line
    (sym c.of_journal.ensures ∙ c.in_default-of_journal.is))).bad_header

-- what is answered below a header
told_below : (c : After-read_groups) → Answers c.args.limits c.args.text.now c.read_groups.result
told_below c =
    let named = sym c.of_journal.ensures ∙ c.in-Some-of_journal.is in
    let below =
    below_header c.args.limits c.args.text.now c.in-Some.header.now c.in-Some.below.now c.in-Some-of_journal.version
    c.in-Some.ensures.line named in
    answers c.args.limits c.args.text.now c.read_groups.result
    (IfOk-weaker c.read_groups.result (λ changes. IsJournalIn c.args.limits c.args.text.now changes.items)
    (λ _. journal_fault c.args.limits c.args.text.now ≡ None)
    (λ changes read. no_fault c.args.limits c.args.text.now changes.items read.0 read.1)
    (read_below c.read_groups.result (λ changes. changes.items) c.in-Some-of_journal.version c.greatest_count.result c.args.limits
    c.args.text.now c.in-Some.header.now c.in-Some.below.now named c.greatest_count.ensures c.in-Some.ensures.cut
    c.read_groups.ensures.groups c.read_groups.ensures.text))
    (subst (λ (found : Option (ℕ × JournalFault)). IfErr c.read_groups.result (λ error. IsJournalError error found)) (sym below)
    (c.read_groups.ensures.refused c.in-Some.header.now
    (greatest_of_version c.in-Some.header.now c.in-Some-of_journal.version named ∙ sym c.greatest_count.ensures)))

pub returns-clause-no_feed : goal.returns-clause-no_feed
returns-clause-no_feed c = (told_below (goal.at-returns-clause-no_feed c).After-read_groups).no_feed

pub returns-clause-bad_header : goal.returns-clause-bad_header
returns-clause-bad_header c = (told_below (goal.at-returns-clause-bad_header c).After-read_groups).bad_header

pub returns-clause-memory : goal.returns-clause-memory
returns-clause-memory c = (told_below (goal.at-returns-clause-memory c).After-read_groups).memory

pub returns-clause-truncated : goal.returns-clause-truncated
returns-clause-truncated c = (told_below (goal.at-returns-clause-truncated c).After-read_groups).truncated

pub returns-clause-bad_end : goal.returns-clause-bad_end
returns-clause-bad_end c = (told_below (goal.at-returns-clause-bad_end c).After-read_groups).bad_end

pub returns-clause-bad_line : goal.returns-clause-bad_line
returns-clause-bad_line c = (told_below (goal.at-returns-clause-bad_line c).After-read_groups).bad_line

pub returns-clause-bad_token : goal.returns-clause-bad_token
returns-clause-bad_token c = (told_below (goal.at-returns-clause-bad_token c).After-read_groups).bad_token

pub returns-clause-bad_label : goal.returns-clause-bad_label
returns-clause-bad_label c = (told_below (goal.at-returns-clause-bad_label c).After-read_groups).bad_label

pub returns-clause-bad_count : goal.returns-clause-bad_count
returns-clause-bad_count c = (told_below (goal.at-returns-clause-bad_count c).After-read_groups).bad_count

pub returns-clause-no_difference : goal.returns-clause-no_difference
returns-clause-no_difference c = (told_below (goal.at-returns-clause-no_difference c).After-read_groups).no_difference

pub returns-clause-unsorted : goal.returns-clause-unsorted
returns-clause-unsorted c = (told_below (goal.at-returns-clause-unsorted c).After-read_groups).unsorted

pub returns-clause-too_many_copies : goal.returns-clause-too_many_copies
returns-clause-too_many_copies c = (told_below (goal.at-returns-clause-too_many_copies c).After-read_groups).too_many_copies

pub returns-clause-too_many_changes : goal.returns-clause-too_many_changes
returns-clause-too_many_changes c = (told_below (goal.at-returns-clause-too_many_changes c).After-read_groups).too_many_changes

pub returns-clause-trailing : goal.returns-clause-trailing
returns-clause-trailing c = (told_below (goal.at-returns-clause-trailing c).After-read_groups).trailing
