use Rattle.std.proofs.Common.{◌≡◌, ap, ◌∙◌, arith}
use Rattle.std.proofs.lemmas.Grind.{common_steps}
use Rattle.s2ix_edit_plan.specs.State.{State, history_of}
use Rattle.s2ix_edit_store.specs.Steps.{after_forget}
use Rattle.s2ix_edit_store.proofs.Followed.{history_after_forget}
use Rattle.s2ix_edit_store.proofs.store.Store.forget.Goals as goal

pub returns-clause-history : goal.returns-clause-history
returns-clause-history g c =
    let emptied : ◌≡◌ {A = State}
    (record {
      bag = c.self.inside.bag;
      done = c.clear.new.self.items;
      undone = c.clear-2.new.self.items;
      faces_rebuilt = c.self.inside.faces_rebuilt;
    })
    (after_forget c.args.self.now) =
    grind (arith, common_steps) in
    ap history_of emptied ∙ history_after_forget c.args.self.now
