-- The neighbours come along.
use Rattle.std.proofs.Common.{◌+◌, ◌-◌, length, get_or, arith}
use Rattle.s2ix_bag_pairs.specs.Pair.{rank_of}
use Rattle.s2ix_bag_lists.specs.View.{lists_in}
use Rattle.s2ix_bag_lists.proofs.Windows.{fewer_below, fewer_from, first_rank, last_rank}
use Rattle.s2ix_bag_lists.proofs.window.window.Goals as goal

pub returns : goal.returns
returns c =
    let ps = lists_in c.args.parts in
    let es = c.args.entries.now in
    let first = c.index-entries-0.result in
    let last = c.index-entries-entries.result in
    let low = rank_of (get_or es 0 first).pair in
    let high = rank_of (get_or es (length es - 1) last).pair + 1 in
    let some = c.requires.some in
    let some_entry = c.requires.some_entry in
    let begin = c.saturating_sub.ensures in
    let greatest = c.max-last.ensures in
    let two = c.saturating_add.ensures in
    let end = c.min.ensures in
    let count = c.len.ensures.number in
    let first_within = c.part_of-first.ensures.within in
    let last_within = c.part_of.ensures.within in
    record {
      some = omega arith;
      within = omega arith;
      low = low;
      high = high;
      front = fewer_below low c.part_of-first.result c.saturating_sub.result ps (omega arith) c.part_of-first.ensures.below;
      back = fewer_from high (c.part_of.result + 1) c.min.result ps (omega arith) c.part_of.ensures.rest;
      entries_from = first_rank es first c.requires.entries_rise some_entry;
      entries_below = last_rank 0 (length es - 1) es last c.requires.entries_rise (omega arith);
    }
