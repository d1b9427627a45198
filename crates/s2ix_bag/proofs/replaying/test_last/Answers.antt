use Rattle.std.proofs.Common.{sym, ◌∙◌, ap, Some}
use Rattle.s2ix_bag.proofs.Last.{last_refused, last_taken}
use Rattle.s2ix_bag.proofs.replaying.test_last.Goals as goal

pub returns-in-Some-refusal_back-clause-refused : goal.returns-in-Some-refusal_back-clause-refused
returns-in-Some-refusal_back-clause-refused c =
    last_refused c.args.bag.now c.args.changes.now c.in-Some.field-0-1.now c.in-Some.last.now c.in-Some-refusal_back.refusal
    c.in-Some.ensures.cases.0 (sym c.refusal_back.ensures ∙ c.in-Some-refusal_back.is)
    ∙ ap (λ e. Some e) (sym c.numbered.ensures)

pub returns-in-None-clause-taken : goal.returns-in-None-clause-taken
returns-in-None-clause-taken c =
    last_taken c.args.bag.now c.args.changes.now c.in-Some.field-0-1.now c.in-Some.last.now c.in-Some.ensures.cases.0
    (sym c.refusal_back.ensures ∙ c.in-None.is)
