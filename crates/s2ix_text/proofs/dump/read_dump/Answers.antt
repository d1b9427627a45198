-- The header tells the version, and what is below it is read.
use Rattle.std.proofs.Common.{◌≡◌, ℕ, Option, Result, Err, refl, sym, ap, ◌∙◌, subst}
use Rattle.std.proofs.lemmas.Result.{err_from_is_err_and}
use Rattle.s2ix_bag_pairs.specs.Collection.{Collection, LimitedCollection}
use Rattle.s2ix_text_write.specs.Dump.{IsDump}
use Rattle.s2ix_text_write.specs.Version.{dump_header}
use Rattle.s2ix_text_write.proofs.Dumps.{one_dump}
use Rattle.s2ix_text_write.proofs.Versions.{named_by_dump_header}
use Rattle.s2ix_text.specs.declared.dump_error.DumpError.{DumpError}
use Rattle.s2ix_text.specs.declared.dump_error.DumpError.TheVariants.{At}
use Rattle.s2ix_text.specs.declared.dump_error.DumpFault.{DumpFault}
use Rattle.s2ix_text.specs.declared.dump_error.DumpFault.TheVariants.{BadHeader}
use Rattle.s2ix_text.specs.DumpFaults.{IsDumpError, dump_fault}
use Rattle.s2ix_text_parts.specs.LineFaults.{IsFromLine}
use Rattle.s2ix_text.proofs.Appended.{held_in}
use Rattle.s2ix_text.proofs.NextDumpLines.{bad_header, below_header, no_header, wants_below}
use Rattle.s2ix_text.proofs.WholeDumps.{dump_put_together, never_refused, only_memory}
use Rattle.s2ix_text.proofs.DumpTold.{Answers, answers_error, answers_read}
use Rattle.s2ix_text.proofs.dump.read_dump.Goals.{In_err-held}
use Rattle.s2ix_text.proofs.dump.read_dump.Goals as goal

pub returns-in_default-clause-refused : goal.returns-in_default-clause-refused
returns-in_default-clause-refused c = no_header c.args.limits c.args.text.now c.in_default.ensures.none

pub returns-in_default-clause-every : goal.returns-in_default-clause-every
returns-in_default-clause-every c =
    λ hs is dump. absurd (never_refused c.args.limits c.args.text.now hs _ is dump
    (no_header c.args.limits c.args.text.now c.in_default.ensures.none))

pub returns-in_default-of_dump-clause-refused : goal.returns-in_default-of_dump-clause-refused
returns-in_default-of_dump-clause-refused c =
    bad_header c.args.limits c.args.text.now c.in-Some.header.now c.in-Some.below.now c.in-Some.ensures.line
    (sym c.of_dump.ensures ∙ c.in_default-of_dump.is)

pub returns-in_default-of_dump-clause-every : goal.returns-in_default-of_dump-clause-every
returns-in_default-of_dump-clause-every c =
    λ hs is dump. absurd (never_refused c.args.limits c.args.text.now hs _ is dump
    (bad_header c.args.limits c.args.text.now c.in-Some.header.now c.in-Some.below.now c.in-Some.ensures.line
    (sym c.of_dump.ensures ∙ c.in_default-of_dump.is)))

pub returns-in_err-room-clause-refused : goal.returns-in_err-room-clause-refused
returns-in_err-room-clause-refused c =
    let p = err_from_is_err_and c.from_residual.result c.from_residual.ensures.1 in
    let below =
    below_header c.args.limits c.in-Some-of_dump.version c.args.text.now c.in-Some.header.now c.in-Some.below.now c.in-Some.ensures.line
    (sym c.of_dump.ensures ∙ c.in-Some-of_dump.is) in
    rw (p.1, p.2) (subst (λ (d : Option (ℕ × DumpFault)). IsFromLine 2 d) (sym below)
    (wants_below c.args.limits (dump_header c.in-Some-of_dump.version) c.in-Some.below.now))

pub returns-in_err-held-clause-refused : goal.returns-in_err-held-clause-refused
returns-in_err-held-clause-refused c =
    let p = err_from_is_err_and c.from_residual-in_err-held.result c.from_residual-in_err-held.ensures.1 in
    let below =
    below_header c.args.limits c.in-Some-of_dump.version c.args.text.now c.in-Some.header.now c.in-Some.below.now c.in-Some.ensures.line
    (sym c.of_dump.ensures ∙ c.in-Some-of_dump.is) in
    rw (p.1, p.2) (subst (λ (d : Option (ℕ × DumpFault)). IsDumpError c.in_err-held.field-0.0 d) (sym below) c.in_err-held.ensures.refused)

pub returns-in_err-held-clause-every : goal.returns-in_err-held-clause-every
returns-in_err-held-clause-every c =
    let p = err_from_is_err_and c.from_residual-in_err-held.result c.from_residual-in_err-held.ensures.1 in
    let below =
    below_header c.args.limits c.in-Some-of_dump.version c.args.text.now c.in-Some.header.now c.in-Some.below.now c.in-Some.ensures.line
    (sym c.of_dump.ensures ∙ c.in-Some-of_dump.is) in
    let refused = subst (λ (d : Option (ℕ × DumpFault)). IsDumpError c.in_err-held.field-0.0 d) (sym below) c.in_err-held.ensures.refused in
    λ hs is dump. rw (p.1, p.2) (only_memory c.args.limits c.args.text.now hs c.in_err-held.field-0.0 is dump refused)

pub returns-clause-text : goal.returns-clause-text
returns-clause-text c =
    let text = c.args.text.now in
    let version = c.in-Some-of_dump.version in
    let holds =
    held_in c.args.limits (dump_header version) version c.in_ok-held.held.items (named_by_dump_header version)
    c.in_ok-held.ensures.dumped in
    let own =
    dump_put_together version text c.in-Some.header.now c.in-Some.below.now c.in_ok-held.held.items c.in-Some.ensures.cut
    (sym c.of_dump.ensures ∙ c.in-Some-of_dump.is) holds c.in_ok-held.ensures.text in
    subst (λ (bag : LimitedCollection). IsDump text bag.held) (sym c.in_ok-from_held.ensures)
    (subst (λ (hs : Collection). IsDump text hs) (sym c.as_slice.ensures.value) own)

pub returns-clause-every : goal.returns-clause-every
returns-clause-every c =
    let text = c.args.text.now in
    let held = c.in_ok-held.held.items in
    let version = c.in-Some-of_dump.version in
    let holds = held_in c.args.limits (dump_header version) version held (named_by_dump_header version) c.in_ok-held.ensures.dumped in
    let own =
    dump_put_together version text c.in-Some.header.now c.in-Some.below.now held c.in-Some.ensures.cut
    (sym c.of_dump.ensures ∙ c.in-Some-of_dump.is) holds c.in_ok-held.ensures.text in
    λ hs is dump. ap (λ (bag : LimitedCollection). bag.held) c.in_ok-from_held.ensures ∙ c.as_slice.ensures.value
    ∙ one_dump text held hs own dump

pub returns-clause-accepted : goal.returns-clause-accepted
returns-clause-accepted c =
    below_header c.args.limits c.in-Some-of_dump.version c.args.text.now c.in-Some.header.now c.in-Some.below.now c.in-Some.ensures.line
    (sym c.of_dump.ensures ∙ c.in-Some-of_dump.is) ∙ c.in_ok-held.ensures.accepted

pub returns-in_err-from_held-clause-refused : goal.returns-in_err-from_held-clause-refused
returns-in_err-from_held-clause-refused c =
    let p = err_from_is_err_and c.from_residual-in_err-from_held.result c.from_residual-in_err-from_held.ensures.1 in
    let none =
    below_header c.args.limits c.in-Some-of_dump.version c.args.text.now c.in-Some.header.now c.in-Some.below.now c.in-Some.ensures.line
    (sym c.of_dump.ensures ∙ c.in-Some-of_dump.is) ∙ c.in_ok-held.ensures.accepted in
    rw (p.1, p.2) (subst (λ (d : Option (ℕ × DumpFault)). IsFromLine 2 d) (sym none) tt)

-- ---- each refusal by itself

pub returns-in_default-of_dump-clause-no_feed : goal.returns-in_default-of_dump-clause-no_feed
returns-in_default-of_dump-clause-no_feed c =
    (answers_error c.args.limits c.args.text.now _ (At 1 BadHeader) refl
    (bad_header c.args.limits c.args.text.now c.in-Some.header.now c.in-Some.below.now c.in-Some.ensures.line
    (sym c.of_dump.ensures ∙ c.in_default-of_dump.is))).no_feed

pub returns-in_default-of_dump-clause-bad_header : goal.returns-in_default-of_dump-clause-bad_header
returns-in_default-of_dump-clause-bad_header c =
    (answers_error c.args.limits c.args.text.now _ (At 1 BadHeader) refl
    (bad_header c.args.limits c.args.text.now c.in-Some.header.now c.in-Some.below.now c.in-Some.ensures.line
    (sym c.of_dump.ensures ∙ c.in_default-of_dump.is))).bad_header

pub returns-in_err-room-clause-no_feed : goal.returns-in_err-room-clause-no_feed
returns-in_err-room-clause-no_feed c =
    let p = err_from_is_err_and c.from_residual.result c.from_residual.ensures.1 in
    let below =
    below_header c.args.limits c.in-Some-of_dump.version c.args.text.now c.in-Some.header.now c.in-Some.below.now c.in-Some.ensures.line
    (sym c.of_dump.ensures ∙ c.in-Some-of_dump.is) in
    let wants =
    subst (λ (d : Option (ℕ × DumpFault)). IsFromLine 2 d) (sym below)
    (wants_below c.args.limits (dump_header c.in-Some-of_dump.version) c.in-Some.below.now) in
    (answers_error c.args.limits c.args.text.now c.from_residual.result p.0 p.1
    (subst (λ (error : DumpError). IsDumpError error (dump_fault c.args.limits c.args.text.now)) (sym p.2) wants)).no_feed

pub returns-in_err-from_held-clause-no_feed : goal.returns-in_err-from_held-clause-no_feed
returns-in_err-from_held-clause-no_feed c =
    let p = err_from_is_err_and c.from_residual-in_err-from_held.result c.from_residual-in_err-from_held.ensures.1 in
    let none =
    below_header c.args.limits c.in-Some-of_dump.version c.args.text.now c.in-Some.header.now c.in-Some.below.now c.in-Some.ensures.line
    (sym c.of_dump.ensures ∙ c.in-Some-of_dump.is) ∙ c.in_ok-held.ensures.accepted in
    let wants = subst (λ (d : Option (ℕ × DumpFault)). IsFromLine 2 d) (sym none) tt in
    (answers_error c.args.limits c.args.text.now c.from_residual-in_err-from_held.result p.0 p.1
    (subst (λ (error : DumpError). IsDumpError error (dump_fault c.args.limits c.args.text.now)) (sym p.2) wants)).no_feed

pub returns-clause-no_feed : goal.returns-clause-no_feed
returns-clause-no_feed c =
    (answers_read c.args.limits c.args.text.now _
    (below_header c.args.limits c.in-Some-of_dump.version c.args.text.now c.in-Some.header.now c.in-Some.below.now c.in-Some.ensures.line
    (sym c.of_dump.ensures ∙ c.in-Some-of_dump.is) ∙ c.in_ok-held.ensures.accepted)).no_feed

-- what is answered below a header
told_below : {X : Type 0} (c : In_err-held) (r : Result X DumpError) (error : DumpError) → r ≡ Err error → error ≡ c.in_err-held.field-0.0
    → Answers c.args.limits c.args.text.now r
told_below c r error is same =
    let below =
    below_header c.args.limits c.in-Some-of_dump.version c.args.text.now c.in-Some.header.now c.in-Some.below.now c.in-Some.ensures.line
    (sym c.of_dump.ensures ∙ c.in-Some-of_dump.is) in
    let refused = subst (λ (d : Option (ℕ × DumpFault)). IsDumpError c.in_err-held.field-0.0 d) (sym below) c.in_err-held.ensures.refused in
    answers_error c.args.limits c.args.text.now r error is
    (subst (λ (e : DumpError). IsDumpError e (dump_fault c.args.limits c.args.text.now)) (sym same) refused)

pub returns-in_err-held-clause-no_feed : goal.returns-in_err-held-clause-no_feed
returns-in_err-held-clause-no_feed c =
    let p = err_from_is_err_and c.from_residual-in_err-held.result c.from_residual-in_err-held.ensures.1 in
    (told_below (goal.at-returns-in_err-held-clause-no_feed c).In_err-held c.from_residual-in_err-held.result p.0 p.1 p.2).no_feed

pub returns-in_err-held-clause-bad_header : goal.returns-in_err-held-clause-bad_header
returns-in_err-held-clause-bad_header c =
    let p = err_from_is_err_and c.from_residual-in_err-held.result c.from_residual-in_err-held.ensures.1 in
    (told_below (goal.at-returns-in_err-held-clause-bad_header c).In_err-held c.from_residual-in_err-held.result p.0 p.1 p.2).bad_header

pub returns-in_err-held-clause-truncated : goal.returns-in_err-held-clause-truncated
returns-in_err-held-clause-truncated c =
    let p = err_from_is_err_and c.from_residual-in_err-held.result c.from_residual-in_err-held.ensures.1 in
    (told_below (goal.at-returns-in_err-held-clause-truncated c).In_err-held c.from_residual-in_err-held.result p.0 p.1 p.2).truncated

pub returns-in_err-held-clause-bad_end : goal.returns-in_err-held-clause-bad_end
returns-in_err-held-clause-bad_end c =
    let p = err_from_is_err_and c.from_residual-in_err-held.result c.from_residual-in_err-held.ensures.1 in
    (told_below (goal.at-returns-in_err-held-clause-bad_end c).In_err-held c.from_residual-in_err-held.result p.0 p.1 p.2).bad_end

pub returns-in_err-held-clause-bad_line : goal.returns-in_err-held-clause-bad_line
returns-in_err-held-clause-bad_line c =
    let p = err_from_is_err_and c.from_residual-in_err-held.result c.from_residual-in_err-held.ensures.1 in
    (told_below (goal.at-returns-in_err-held-clause-bad_line c).In_err-held c.from_residual-in_err-held.result p.0 p.1 p.2).bad_line

pub returns-in_err-held-clause-bad_token : goal.returns-in_err-held-clause-bad_token
returns-in_err-held-clause-bad_token c =
    let p = err_from_is_err_and c.from_residual-in_err-held.result c.from_residual-in_err-held.ensures.1 in
    (told_below (goal.at-returns-in_err-held-clause-bad_token c).In_err-held c.from_residual-in_err-held.result p.0 p.1 p.2).bad_token

pub returns-in_err-held-clause-bad_label : goal.returns-in_err-held-clause-bad_label
returns-in_err-held-clause-bad_label c =
    let p = err_from_is_err_and c.from_residual-in_err-held.result c.from_residual-in_err-held.ensures.1 in
    (told_below (goal.at-returns-in_err-held-clause-bad_label c).In_err-held c.from_residual-in_err-held.result p.0 p.1 p.2).bad_label

pub returns-in_err-held-clause-bad_count : goal.returns-in_err-held-clause-bad_count
returns-in_err-held-clause-bad_count c =
    let p = err_from_is_err_and c.from_residual-in_err-held.result c.from_residual-in_err-held.ensures.1 in
    (told_below (goal.at-returns-in_err-held-clause-bad_count c).In_err-held c.from_residual-in_err-held.result p.0 p.1 p.2).bad_count

pub returns-in_err-held-clause-unsorted : goal.returns-in_err-held-clause-unsorted
returns-in_err-held-clause-unsorted c =
    let p = err_from_is_err_and c.from_residual-in_err-held.result c.from_residual-in_err-held.ensures.1 in
    (told_below (goal.at-returns-in_err-held-clause-unsorted c).In_err-held c.from_residual-in_err-held.result p.0 p.1 p.2).unsorted

pub returns-in_err-held-clause-too_many_copies : goal.returns-in_err-held-clause-too_many_copies
returns-in_err-held-clause-too_many_copies c =
    let p = err_from_is_err_and c.from_residual-in_err-held.result c.from_residual-in_err-held.ensures.1 in
    (told_below (goal.at-returns-in_err-held-clause-too_many_copies c).In_err-held c.from_residual-in_err-held.result p.0 p.1
    p.2).too_many_copies

pub returns-in_err-held-clause-too_many_pairs : goal.returns-in_err-held-clause-too_many_pairs
returns-in_err-held-clause-too_many_pairs c =
    let p = err_from_is_err_and c.from_residual-in_err-held.result c.from_residual-in_err-held.ensures.1 in
    (told_below (goal.at-returns-in_err-held-clause-too_many_pairs c).In_err-held c.from_residual-in_err-held.result p.0 p.1
    p.2).too_many_pairs

pub returns-in_err-held-clause-trailing : goal.returns-in_err-held-clause-trailing
returns-in_err-held-clause-trailing c =
    let p = err_from_is_err_and c.from_residual-in_err-held.result c.from_residual-in_err-held.ensures.1 in
    (told_below (goal.at-returns-in_err-held-clause-trailing c).In_err-held c.from_residual-in_err-held.result p.0 p.1 p.2).trailing
