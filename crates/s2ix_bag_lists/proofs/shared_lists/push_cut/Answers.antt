-- The bundles come back in their order.
use Rattle.std.proofs.Common.{[], ◌∷◌, ◌++◌, Some}
use Rattle.std.proofs.lemmas.List.Elements.{All-pop, All-push, All-same}
use Rattle.s2ix_bag_lists.specs.Bundles.{HasList, lists_of}
use Rattle.s2ix_bag_lists.proofs.Bundles.{put_back}
use Rattle.s2ix_bag_lists.proofs.shared_lists.push_cut.Goals as goal

pub loop-bundle-preserved : goal.loop-bundle-preserved
loop-bundle-preserved c =
    let l = c.loop-bundle in
    let bundle = c.in-Some.bundle in
    let left = c.pop.new.self.items in
    let popped = All-pop HasList l.cut.items left (Some bundle) c.in-Some.ensures.items l.invariant.2 in (
      put_back l.bundles.items c.push.new.self.items l.cut.items left (lists_of c.args.bundles.now.items ++ c.args.lists.items) bundle
          l.invariant.0 c.in-Some.ensures.items c.in_ok-push.ensures.items,
      All-same HasList c.push.new.self.items (l.bundles.items ++ bundle ∷ []) c.in_ok-push.ensures.items
          (All-push HasList l.bundles.items bundle l.invariant.1 popped.1),
      popped.0,
    )
