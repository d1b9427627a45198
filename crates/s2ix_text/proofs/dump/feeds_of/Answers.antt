-- One block more.
use Rattle.std.proofs.Common.{◌+◌, cond, ap, ◌∙◌, arith}
use Rattle.std.specs.List.{count_by}
use Rattle.std.specs.Slice.Iter.{chunks_rest}
use Rattle.std.proofs.lemmas.List.Sums.{sum_by-append}
use Rattle.std.proofs.Math.Nat.{min-le_left}
use Rattle.s2ix_text.specs.Feeds.{is_feed}
use Rattle.s2ix_text.proofs.dump.feeds_of.Goals as goal

pub loop-block-preserved : goal.loop-block-preserved
loop-block-preserved c =
    let sum =
    ap (count_by is_feed) c.in-Some.ensures.steps.1.0
    ∙ sum_by-append (λ byte. cond (is_feed byte) 1 0) c.in-Some.block.now (chunks_rest c.next.new.self) in
    let most = min-le_left (c.loop-block.feeds + c.feeds_in.result) 18446744073709551615 in
    omega (arith, sum, most, c.saturating_add-feeds.ensures, c.feeds_in.ensures, c.loop-block.invariant)

pub returns : goal.returns
returns c = omega (arith, c.loop-block.invariant)
