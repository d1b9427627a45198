-- Each step compares the entries that fall into the part of the first one that is left.
use Rattle.std.proofs.Common.{◌≡◌, ◌+◌, List, drop, length, position, Some, None, sym, ap, ◌∙◌, subst, subst₂, arith}
use Rattle.std.proofs.lemmas.List.{length-drop}
use Rattle.s2ix_bag_pairs.specs.Change.{IsChangeList}
use Rattle.s2ix_bag_pairs.specs.Collection.{Collection, IsCollection}
use Rattle.s2ix_bag_pairs.specs.Pair.{rank_of}
use Rattle.s2ix_bag_pairs.specs.declared.pair.Entry.{Entry}
use Rattle.s2ix_bag_lists.specs.Faces.{all_of}
use Rattle.s2ix_bag_lists.specs.View.{lists_in}
use Rattle.s2ix_bag_lists.proofs.Making.{IsNext, begins_from}
use Rattle.s2ix_bag_lists.proofs.Mismatches.{PartsCompared, parts_compared_found, parts_compared_own, parts_compared_step}
use Rattle.s2ix_bag_lists.proofs.Refusals.{is_mismatch}
use Rattle.s2ix_bag_lists.proofs.parts_mismatch.mismatch_in_parts.Goals.{After-entries_up_to_part}
use Rattle.s2ix_bag_lists.proofs.parts_mismatch.mismatch_in_parts.Goals as goal

-- the part of the first entry that is left
is_next : (c : After-entries_up_to_part) → IsNext (lists_in c.loop-first.ahead) c.loop-first.rest.now (rank_of c.in-Some.first.now.pair)
    c.part_of-part.result c.entries_up_to_part.result
is_next c = record {
  within = c.part_of-part.ensures.within;
  below = c.part_of-part.ensures.below;
  from = begins_from c.loop-first.rest.now c.in-Some.first.now c.loop-first.invariant.1.entries_rise (sym c.in-Some.ensures.value);
  cut = c.entries_up_to_part.ensures.cut;
  within_limit = c.entries_up_to_part.ensures.within;
  last = c.entries_up_to_part.ensures.last;
}

pub first_mismatch-requires : goal.first_mismatch-requires
first_mismatch-requires c =
    let ahead = lists_in c.loop-first.ahead in
    let rest = c.loop-first.rest.now in
    let i = c.part_of-part.result in
    let k = c.entries_up_to_part.result in
    let was = c.loop-first.invariant.1 in
    let next = is_next (goal.at-first_mismatch-requires c).After-entries_up_to_part in
    let rank = rank_of c.in-Some.first.now.pair in
    let all = all_of (lists_in c.args.parts) in
    let es = c.args.entries.now in
    let passed = c.loop-first.passed in
    let part = c.as_slice.ensures ∙ c.at.ensures in
    let own = parts_compared_own all es ahead rest passed rank i k was next in
    record {
      held_rise = subst (λ (hs : Collection). IsCollection hs) (sym part) own.held_rise;
      entries_rise = subst (λ (xs : List Entry). IsChangeList xs) (sym c.split_at.ensures.front) own.entries_rise;
    }

pub returns-in-Some-first_mismatch : goal.returns-in-Some-first_mismatch
returns-in-Some-first_mismatch c =
    let ahead = lists_in c.loop-first.ahead in
    let rest = c.loop-first.rest.now in
    let i = c.part_of-part.result in
    let k = c.entries_up_to_part.result in
    let was = c.loop-first.invariant.1 in
    let next = is_next (goal.at-returns-in-Some-first_mismatch c).After-entries_up_to_part in
    let rank = rank_of c.in-Some.first.now.pair in
    let all = all_of (lists_in c.args.parts) in
    let es = c.args.entries.now in
    let passed = c.loop-first.passed in
    let part = c.as_slice.ensures ∙ c.at.ensures in
    let Found : Collection → List Entry → Type 0 =
    λ hs xs. Some c.in-Some-first_mismatch.place ≡ position (is_mismatch hs) xs in
    let found = subst₂ Found part c.split_at.ensures.front c.in-Some-first_mismatch.ensures in
    sym (parts_compared_found all es ahead rest passed rank i k c.in-Some-first_mismatch.place was next (sym found))

pub loop-first-preserved : goal.loop-first-preserved
loop-first-preserved c =
    let ahead = lists_in c.loop-first.ahead in
    let rest = c.loop-first.rest.now in
    let i = c.part_of-part.result in
    let k = c.entries_up_to_part.result in
    let was = c.loop-first.invariant.1 in
    let next = is_next (goal.at-loop-first-preserved c).After-entries_up_to_part in
    let rank = rank_of c.in-Some.first.now.pair in
    let all = all_of (lists_in c.args.parts) in
    let es = c.args.entries.now in
    let passed = c.loop-first.passed in
    let part = c.as_slice.ensures ∙ c.at.ensures in
    let Absent : Collection → List Entry → Type 0 = λ hs xs. None ≡ position (is_mismatch hs) xs in
    let none = subst₂ Absent part c.split_at.ensures.front c.in_default-first_mismatch.ensures in
    let step = parts_compared_step all es ahead rest passed rank i k was next (sym none) in
    let Next : List Entry → List Entry → Type 0 =
    λ own later. PartsCompared all es (drop (i + 1) ahead) later (passed + length own) in
    let moved = subst₂ Next (sym c.split_at.ensures.front) (sym c.split_at.ensures.back) step in
    let shorter = length-drop (i + 1) ahead in
    let kept = ap (λ (x : List Collection). length x) c.split_at-in-Some.ensures.back in (
      omega (arith, c.loop-first.invariant.0, shorter, kept),
      subst
          (λ (x : List Collection). PartsCompared all es x c.split_at.result.1.now (passed + length c.split_at.result.0.now))
          (sym c.split_at-in-Some.ensures.back) moved,
    )
