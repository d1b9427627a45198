-- The page has one block more.
use Rattle.std.proofs.Common.{◌≡◌, ◌≤◌, ◌+◌, ◌-◌, ◌∙◌, length, map, take, drop, ap, refl, sym, subst, arith, length-drop}
use Rattle.std.proofs.lemmas.List.{length-take-le}
use Rattle.s2ix_bag_lists.specs.Parts.{IsPartAt}
use Rattle.s2ix_bag_pairs.specs.Collection.{Collection}
use Rattle.s2ix_c_calls.specs.Lists.{row_of}
use Rattle.s2ix_c_calls.proofs.Blocks.{after_more, block_after, block_front, block_long, page_more}
use Rattle.s2ix_c_calls.proofs.listing.write_page.Goals as goal

pub loop-put-preserved : goal.loop-put-preserved
loop-put-preserved c =
    let l = c.loop-put in
    let hs = c.args.bag.now.held in
    let before = c.part_at-before.result.0 in
    let part = c.as_slice-part.result.now in
    let at = subst (λ (own : Collection). IsPartAt (c.args.from + l.put) hs before own) (sym c.as_slice-part.ensures) c.part_at-before.ensures in
    let begins = at.begins in
    let ends = at.ends in
    let a = c.args.from + l.put - before in
    let end = c.min.result in
    let block = take (end - a) (drop a part) in
    let low = c.loop-put-test.true in
    let within : end ≤ length part = omega (arith, c.min.ensures) in
    let starts : c.args.from + l.put ≤ before + end = omega (arith, c.min.ensures) in
    let fits : before + end ≤ c.args.from + c.min-count.result = omega (arith, c.min.ensures) in
    let n : length block ≡ end - a = length-take-le (end - a) (drop a part) (omega (arith, length-drop a part)) in
    let room : length block ≤ length l.out - l.put = omega (arith, c.min-count.ensures, l.auto.out) in
    let here : l.put ≤ length l.out = omega (arith, c.min-count.ensures, l.auto.out) in
    let was = l.invariant in
    let w = c.write_rows in (
      omega arith,
      block_front l.out w.new.out _ l.put (length block) here w.auto.out room refl
          ∙ page_more row_of hs part _ _ c.args.from l.put before end begins starts within at.part was.1 w.ensures.front
          ∙ ap (λ k. map row_of (take (l.put + k) (drop c.args.from hs))) (sym n),
      block_after l.out w.new.out _ l.put (length block) here w.auto.out room refl w.ensures.after
          ∙ after_more l.out c.args.out.now l.put (length block) was.2,
      block_long l.out w.new.out _ l.put (length block) here w.auto.out room refl ∙ was.3,
    )
