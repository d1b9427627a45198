-- The page has one range more.
use Rattle.std.proofs.Common.{rules, ◌≡◌, ◌≢◌, ◌↔◌, ◌<◌, ◌+◌, [], IsTrue, drop, length, slice_set}
use Rattle.std.proofs.lemmas.Grind.{drop_more_same}
use Rattle.std.proofs.lemmas.List.{drop-set-lt}
use Rattle.std.proofs.lemmas.Option.{slice_get-get_or}
use Rattle.s2ix_table_walk.specs.Table.{range_at}
use Rattle.s2ix_c_calls.specs.Ranges.{leaf_range_of}
use Rattle.s2ix_c_calls.proofs.OfRanges.{empty_test, same_range}
use Rattle.s2ix_c_calls.proofs.Paging.{put_next}
use Rattle.s2ix_c_calls.proofs.ranges.write_ranges.Goals as goal

pub loop-place-preserved : goal.loop-place-preserved
loop-place-preserved g c =
    let l = c.loop-place in
    let ranges = g.T.RangeTable.ranges c.args.table.now in
    let range = range_at ranges (c.args.from + l.place) in
    let read = c.read_near-first in
    let less : l.place < length l.out = search rules in
    let within : c.args.from + l.place < length ranges = search rules in
    let empty : IsTrue c.is_none.result ↔ (range.contents ≡ []) = search rules in
    let same = same_range read.result.0.start read.result.0.limit c.is_none.result range read.ensures.start read.ensures.limit
    (empty_test c.is_none.result range.contents empty) in
    let put = slice_set l.out l.place (record { start = read.result.0.start; limit = read.result.0.limit; is_empty = c.is_none.result }) in
    let after : drop (l.place + 1) put ≡ drop (l.place + 1) c.args.out.now = search (rules, drop-set-lt, drop_more_same) in
    let long : length put ≡ length c.args.out.now = search rules in (
      put_next leaf_range_of l.out ranges c.args.from l.place range _ less (slice_get-get_or ranges (c.args.from + l.place) _ within) same
          l.invariant.0,
      after,
      long,
    )
