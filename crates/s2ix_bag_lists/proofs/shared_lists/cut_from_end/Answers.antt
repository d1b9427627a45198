-- The lists that are cut off come before those that were cut off earlier.
use Rattle.std.proofs.Common.{◌≡◌, ◌<◌, [], ◌∷◌, ◌++◌, List, length, ap, ◌∙◌, arith}
use Rattle.std.proofs.lemmas.List.Elements.{All-push, All-same}
use Rattle.s2ix_bag_pairs.specs.Collection.{Collection}
use Rattle.s2ix_bag_lists.specs.Bundles.{HasList}
use Rattle.s2ix_bag_lists.proofs.Bundles.{cut_more}
use Rattle.s2ix_bag_lists.proofs.shared_lists.cut_from_end.Goals as goal

pub loop-alloc-preserved : goal.loop-alloc-preserved
loop-alloc-preserved c =
    let cut = c.loop-alloc.cut.items in
    let own = c.in_ok-own.own.items in
    let was = c.loop-alloc.invariant in
    let pushed : c.push.new.self.items ≡ cut ++ own ∷ [] =
    c.in_ok-push.ensures.items ∙ ap (λ (g : List Collection). cut ++ g ∷ []) c.in_ok-new.ensures in
    let some : 0 < length own =
    omega (
      arith,
      c.in_ok-own.ensures.tail_len,
      c.in_ok-own.own.ok.0,
      c.bundle_len.ensures.some,
      c.bundle_len.ensures.within,
      c.len.ensures,
      c.len-in-loop-alloc.ensures,
    ) in (
      cut_more cut c.push.new.self.items c.args.lists.items c.loop-alloc.rest.items c.split_off.new.self.items own _ was.0
          c.in_ok-own.ensures.items c.in_ok-own.ensures.tail pushed,
      All-same HasList c.push.new.self.items (cut ++ own ∷ []) pushed (All-push HasList cut own was.1 some),
    )
