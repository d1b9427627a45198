-- The place lies in the list at hand, or after it.
use Rattle.std.proofs.Common.{[], get_or, sym, subst, arith}
use Rattle.std.proofs.lemmas.List.{get_or_default}
use Rattle.s2ix_bag_pairs.specs.Collection.{Collection}
use Rattle.s2ix_bag_lists.specs.Faces.{IsFaceAt}
use Rattle.s2ix_bag_lists.proofs.FaceAt.{face_found}
use Rattle.s2ix_bag_lists.proofs.lists.FaceLists.face_at.Goals as goal

pub returns-then-place-before : goal.returns-then-place-before
returns-then-place-before c =
    let ls = c.self.inside.lists in
    let place = c.args.place in
    let i = c.loop-list.list-index in
    let before = c.loop-list.before in
    let found = get_or ls i c.list-item.result in
    let own = sym (get_or_default ls i [] c.list-item.result (omega arith)) in
    let len = c.len-len.ensures.number in
    subst (λ (hs : Collection). IsFaceAt place hs before found) c.self.view_is
    (face_found ls place i before found (omega arith) own c.self.invariant.apart c.loop-list.invariant (omega arith))
