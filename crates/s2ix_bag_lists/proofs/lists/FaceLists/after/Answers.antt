-- Each face's entries change its own list.
use Rattle.std.proofs.Common.{◌+◌, ◌<◌, List, [], set, length, sym, ap, ap₂, ◌∙◌, subst₂, arith}
use Rattle.std.proofs.lemmas.List.{get_or_default}
use Rattle.s2ix_bag_pairs.specs.Change.{changed}
use Rattle.s2ix_bag_pairs.specs.Collection.{Collection}
use Rattle.s2ix_bag_pairs.specs.declared.pair.Entry.{Entry}
use Rattle.s2ix_bag_pairs.proofs.Changes.{change_lower}
use Rattle.s2ix_bag_lists.specs.Faces.{face_start}
use Rattle.s2ix_bag_lists.proofs.FaceByFace.{Changing, IsOwnChange, changing_own, changing_step, changing_end}
use Rattle.s2ix_bag_lists.proofs.FaceParts.{own_few}
use Rattle.s2ix_bag_lists.proofs.lists.FaceLists.after.Goals as goal

pub entries_up_to-requires : goal.entries_up_to-requires
entries_up_to-requires c = change_lower 0 (face_start c.loop-face.face) c.loop-face.rest.now (omega arith) c.loop-face.invariant.rises

pub after-requires : goal.after-requires
after-requires c =
    let ls = c.loop-face.lists in
    let face = c.loop-face.face in
    let rest = c.loop-face.rest.now in
    let k = c.entries_up_to.result in
    let was = c.loop-face.invariant in
    let below = c.entries_up_to.ensures.below in
    let short : face < length ls = omega (arith, was.six) in
    let held = sym (get_or_default ls face [] c.index-lists-face.result short) in
    let own = changing_own c.args.self.now c.args.entries.now face ls rest k (omega arith) was below in
    let is = subst₂ IsOwnChange (sym held) (sym c.split_at.ensures.front) own in
    let few = own_few c.args.self.now c.args.entries.now face ls rest k (omega arith) was below c.entries_up_to.ensures.rest in
    let same = ap₂ (λ (hs : Collection) (es : List Entry). length (changed hs es)) held c.split_at.ensures.front in
    record {
      entries_rise = is.entries_rise;
      before = is.before;
      within_limit = omega (arith, few, same, c.requires.within_limit);
    }

pub loop-face-preserved : goal.loop-face-preserved
loop-face-preserved c =
    let ls = c.loop-face.lists in
    let face = c.loop-face.face in
    let next =
    changing_step c.args.self.now c.args.entries.now face ls c.loop-face.rest.now c.entries_up_to.result (omega arith)
    c.loop-face.invariant c.entries_up_to.ensures.below c.entries_up_to.ensures.rest in
    let short : face < length ls = omega (arith, c.loop-face.invariant.six) in
    let held = sym (get_or_default ls face [] c.index-lists-face.result short) in
    let own = c.in_ok-lists-2.ensures ∙ ap₂ (λ hs es. changed hs es) held c.split_at.ensures.front in
    let Next : Collection → List Entry → Type 0 = λ new later. Changing c.args.self.now c.args.entries.now (face + 1) (set ls face new) later in
    subst₂ Next (sym own) (sym c.split_at.ensures.back) next

pub invariant_of-result : goal.invariant_of-result
invariant_of-result c =
    let was = c.loop-face.invariant in
    let all = changing_end c.args.self.now c.args.entries.now c.loop-face.face c.loop-face.lists c.loop-face.rest.now (omega arith) was in
    let counted = c.len_after-len.ensures ∙ ap (λ (hs : Collection). length hs) (sym all) in
    record { six = was.six; apart = was.apart; counted = counted; within_limit = omega (arith, c.requires.within_limit, c.len_after-len.ensures) }

pub returns : goal.returns
returns c =
    changing_end c.args.self.now c.args.entries.now c.loop-face.face c.loop-face.lists c.loop-face.rest.now (omega arith)
    c.loop-face.invariant
