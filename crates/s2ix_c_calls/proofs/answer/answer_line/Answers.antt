-- A blank line leaves the store, and its answer is empty.
use Rattle.std.proofs.Common.{Ok, None, refl, ap, ◌∙◌}
use Rattle.s2ix_c_calls.proofs.Answered.{answers_by}
use Rattle.s2ix_c_calls.proofs.answer.answer_line.Goals as goal

pub returns-in-Ok-None-clause-answers : goal.returns-in-Ok-None-clause-answers
returns-in-Ok-None-clause-answers c =
    answers_by c.args.store.now c.args.line.now (Ok None) (c.in-Ok-None.ensures ∙ ap Ok c.in-Ok-None.field-0-is) c.args.store.now
    c.args.out.now c.args.out.now (Ok 0) (refl, record { long = refl; front = refl; after = refl })
