use Rattle.std.proofs.Common.{◌≡◌, true, List, ◌++◌, ◌∷◌, [], refl, sym, ap, ◌∙◌, subst, arith}
use Rattle.std.proofs.lemmas.List.{append_assoc, append-nil}
use Rattle.s2ix_bag_pairs.specs.declared.pair.Held.{Held}
use Rattle.s2ix_bag_pairs.specs.declared.pair.Entry.{Entry}
use Rattle.s2ix_bag_pairs.specs.Change.{IsChangeList}
use Rattle.s2ix_bag_pairs.specs.OfLabel.{held_of}
use Rattle.s2ix_edit_plan.specs.declared.edit.Edit.TheVariants.{Relabel}
use Rattle.s2ix_edit_plan.specs.Edit.{with_all_moved}
use Rattle.s2ix_edit_plan.specs.Plan.{Plans}
use Rattle.s2ix_edit_plan.specs.Refusals.{has_count_above_every_limit}
use Rattle.s2ix_edit_plan.proofs.Above.{above_own}
use Rattle.s2ix_edit_plan.proofs.Plans.{plans_from_makes}
use Rattle.s2ix_edit_plan.proofs.Refused.{too_high}
use Rattle.s2ix_edit_plan.proofs.Relabel.{moves, moves_make, moves_more, sum_above}
use Rattle.s2ix_edit_plan.proofs.edits.relabel.plan_moves.Goals.{In_default}
use Rattle.s2ix_edit_plan.proofs.edits.relabel.plan_moves.Goals as goal

pub loop-held-init : goal.loop-held-init
loop-held-init c = (
  c.new-entries.ensures.items,
  c.into_iter-held-iterator.ensures.into_iter_gives ∙ c.of_label-held-items.ensures.list,
)

above : (c : In_default)
    → has_count_above_every_limit (with_all_moved c.args.target (held_of c.args.source c.args.bag.now.held) c.args.bag.now.held) ≡ true
above c =
    sum_above c.args.bag.now.held c.args.source c.args.target c.loop-held.yielded c.in-Some.held c.next.new.self
    c.of_label-held-items.ensures.within.rises c.requires.apart
    (ap (λ (ks : List Held). c.loop-held.yielded ++ ks) (sym c.in-Some.ensures.steps) ∙ c.loop-held.invariant.1)
    (omega (arith, c.count-before.ensures.count, c.in_default.ensures))

pub returns-in_default-clause-copies : goal.returns-in_default-clause-copies
returns-in_default-clause-copies c = λ is. above (goal.at-returns-in_default-clause-copies c).In_default

pub returns-in_default-clause-refused : goal.returns-in_default-clause-refused
returns-in_default-clause-refused c =
    λ changes.
    let bag = c.args.bag.now in
    let new = with_all_moved c.args.target (held_of c.args.source bag.held) bag.held in
    too_high bag changes (Relabel c.args.source c.args.target) c.of_label-held-items.ensures.within c.requires.held refl refl refl refl
    (above_own bag new (above (goal.at-returns-in_default-clause-refused c).In_default))

pub loop-held-preserved : goal.loop-held-preserved
loop-held-preserved c = (
  moves_more c.args.bag.now.held c.args.target c.loop-held.yielded c.in-Some.held _ _ _ _ c.loop-held.invariant.0
      c.count-before.ensures.count (omega (arith, c.in-Some-checked_add.ensures)) c.in_ok-push_move.ensures,
  append_assoc c.loop-held.yielded (c.in-Some.held ∷ []) c.next.new.self
      ∙ ap (λ (ks : List Held). c.loop-held.yielded ++ ks) (sym c.in-Some.ensures.steps)
      ∙ c.loop-held.invariant.1,
)

pub from_vec-requires : goal.from_vec-requires
from_vec-requires c =
    let Rises : List Entry → Type 0 = λ es. IsChangeList es in
    let all = sym (append-nil c.loop-held.yielded) ∙ ap (λ (ks : List Held). c.loop-held.yielded ++ ks) (sym c.in-None.ensures.steps.0)
    ∙ c.loop-held.invariant.1 in
    subst Rises (sym (c.loop-held.invariant.0 ∙ ap (λ ks. moves c.args.bag.now.held c.args.target ks) all))
    (moves_make c.args.bag.now c.args.source c.args.target c.of_label-held-items.ensures.within.rises c.requires.apart).rises

pub returns-clause-plan : goal.returns-clause-plan
returns-clause-plan c =
    λ changes.
    let edit = Relabel c.args.source c.args.target in
    let Planned : List Entry → Type 0 = λ es. Plans c.args.bag.now changes edit es in
    let all = sym (append-nil c.loop-held.yielded) ∙ ap (λ (ks : List Held). c.loop-held.yielded ++ ks) (sym c.in-None.ensures.steps.0)
    ∙ c.loop-held.invariant.1 in
    subst Planned (sym (c.from_vec.ensures ∙ c.loop-held.invariant.0 ∙ ap (λ ks. moves c.args.bag.now.held c.args.target ks) all))
    (plans_from_makes c.args.bag.now changes edit _ c.requires.held refl refl refl refl
    (moves_make c.args.bag.now c.args.source c.args.target c.of_label-held-items.ensures.within.rises c.requires.apart))
