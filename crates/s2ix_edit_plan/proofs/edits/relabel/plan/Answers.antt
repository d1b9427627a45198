use Rattle.std.proofs.Common.{List, refl, sym, ◌∙◌, subst}
use Rattle.s2ix_bag_pairs.specs.declared.pair.Entry.{Entry}
use Rattle.s2ix_edit_plan.specs.declared.edit.Edit.TheVariants.{Relabel}
use Rattle.s2ix_edit_plan.specs.Plan.{Plans}
use Rattle.s2ix_edit_plan.proofs.Relabel.{moved_to_itself}
use Rattle.s2ix_edit_plan.proofs.edits.relabel.plan.Goals as goal

pub returns-then-get-clause-plan : goal.returns-then-get-clause-plan
returns-then-get-clause-plan c =
    λ changes.
    let Planned : List Entry → Type 0 = λ es. Plans c.args.bag.now changes (Relabel c.args.source c.args.target) es in
    let one = sym c.get.ensures ∙ c.if-get.true ∙ c.get-2.ensures in
    subst Planned (sym (c.from_vec.ensures ∙ c.new.ensures.items))
    (record {
      known = sym c.lacks_label.ensures.lacks ∙ c.if-lacks_label.false;
      allowed = refl;
      fits = refl;
      stood = refl;
      above = refl;
      rises = tt;
      matches = refl;
      result = sym (moved_to_itself c.args.source c.args.target c.args.bag.now.held c.lacks_label.ensures.within.rises one);
    })
