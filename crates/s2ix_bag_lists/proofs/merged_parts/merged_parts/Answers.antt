-- Each step changes the part that the first of the entries that are left falls into.
use Rattle.std.proofs.Common.{◌≡◌, ◌++◌, [], List, take, get_or, sym, ap, ap₂, ◌∙◌, subst, subst₂}
use Rattle.s2ix_bag_pairs.specs.Change.{changed}
use Rattle.s2ix_bag_pairs.specs.Collection.{Collection}
use Rattle.s2ix_bag_pairs.specs.Pair.{rank_of}
use Rattle.s2ix_bag_pairs.specs.declared.pair.Entry.{Entry}
use Rattle.s2ix_bag_lists.specs.Faces.{all_of}
use Rattle.s2ix_bag_lists.specs.Parts.{AreFilled}
use Rattle.s2ix_bag_lists.specs.View.{lists_in}
use Rattle.s2ix_bag_lists.proofs.FaceByFace.{IsOwnChange}
use Rattle.s2ix_bag_lists.proofs.Joins.{filled_take}
use Rattle.s2ix_bag_lists.proofs.Making.{Making, IsNext, begins_from, making_own, making_step}
use Rattle.s2ix_bag_lists.proofs.merged_parts.merged_parts.Goals.{After-entries_up_to_part}
use Rattle.s2ix_bag_lists.proofs.merged_parts.merged_parts.Goals as goal

pub add_lists-requires-clause-some : goal.add_lists-requires-clause-some
add_lists-requires-clause-some c =
    subst (λ (x : List Collection). AreFilled x) (sym c.split_at.ensures.front)
    (filled_take c.part_of-place.result (lists_in c.loop-first.ahead) c.loop-first.invariant.filled)

-- the part of the first entry that is left
is_next : (c : After-entries_up_to_part) → IsNext (lists_in c.loop-first.ahead) c.loop-first.rest.now (rank_of c.in-Some.first.now.pair)
    c.part_of-place.result c.entries_up_to_part.result
is_next c = record {
  within = c.part_of-place.ensures.within;
  below = c.part_of-place.ensures.below;
  from = begins_from c.loop-first.rest.now c.in-Some.first.now c.loop-first.invariant.entries_rise (sym c.in-Some.ensures.value);
  cut = c.entries_up_to_part.ensures.cut;
  within_limit = c.entries_up_to_part.ensures.within;
  last = c.entries_up_to_part.ensures.last;
}

pub add_changed-requires : goal.add_changed-requires
add_changed-requires c =
    let all = all_of (lists_in c.args.parts) in
    let es = c.args.entries.now in
    let out = c.loop-first.after.items in
    let ahead = lists_in c.loop-first.ahead in
    let rest = c.loop-first.rest.now in
    let i = c.part_of-place.result in
    let k = c.entries_up_to_part.result in
    let rank = rank_of c.in-Some.first.now.pair in
    let was = c.loop-first.invariant in
    let next = is_next (goal.at-add_changed-requires c).After-entries_up_to_part in
    let part = c.at.ensures in
    let own = making_own all es out ahead rest rank i k was next in
    let is = subst₂ IsOwnChange (sym part) (sym c.split_at-in-Some.ensures.front) own in
    record {
      filled = c.in_ok-add_lists.ensures.filled;
      held_rise = is.held_rise;
      entries_rise = is.entries_rise;
      before = is.before;
    }

pub loop-first-preserved : goal.loop-first-preserved
loop-first-preserved c =
    let all = all_of (lists_in c.args.parts) in
    let es = c.args.entries.now in
    let out = c.loop-first.after.items in
    let ahead = lists_in c.loop-first.ahead in
    let rest = c.loop-first.rest.now in
    let i = c.part_of-place.result in
    let k = c.entries_up_to_part.result in
    let rank = rank_of c.in-Some.first.now.pair in
    let was = c.loop-first.invariant in
    let next = is_next (goal.at-loop-first-preserved c).After-entries_up_to_part in
    let part = c.at.ensures in
    let new = c.add_changed.new.out.items in
    let made : all_of new ≡ (all_of out ++ all_of (take i ahead)) ++ changed (get_or ahead i []) (take k rest) =
    c.in_ok-add_changed.ensures.made
    ∙ ap (λ (hs : Collection). hs ++ changed c.at.result.now c.split_at-in-Some.result.0.now)
    (c.in_ok-add_lists.ensures.made ∙ ap (λ (x : List Collection). all_of out ++ all_of x) c.split_at.ensures.front)
    ∙ ap₂ (λ (hs : Collection) (xs : List Entry). (all_of out ++ all_of (take i ahead)) ++ changed hs xs) part
    c.split_at-in-Some.ensures.front in
    let step = making_step all es out ahead new rest rank i k was next c.in_ok-add_changed.ensures.filled made in
    subst₂ (λ (x : List Collection) (xs : List Entry). Making all es new x xs) (sym c.split_at-in-Some-2.ensures.back)
    (sym c.split_at-in-Some.ensures.back) step
