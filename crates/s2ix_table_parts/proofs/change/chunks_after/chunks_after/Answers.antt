-- What is known of the next chunk.
use Rattle.std.proofs.Common.{◌≤◌, ◌∙◌, drop, length, rules, subst, sym}
use Rattle.s2ix_bag_lists.specs.Faces.{all_of}
use Rattle.s2ix_bag_pairs.specs.Change.{changed}
use Rattle.s2ix_bag_pairs.specs.Collection.{Collection, IsCollection}
use Rattle.s2ix_bag_pairs.proofs.Changes.{changed_keeps}
use Rattle.s2ix_table_parts.proofs.ChunksChanged.{chunk_made, next_chunk, rest_made}
use Rattle.s2ix_table_parts.proofs.change.chunks_after.chunks_after.Goals as goal

pub put_changed-requires-clause-held_rise : goal.put_changed-requires-clause-held_rise
put_changed-requires-clause-held_rise c =
    (next_chunk (changed (all_of c.args.chunks.now) c.args.entries.now) c.loop-ahead.made.items c.loop-ahead.ahead.now
    c.index-ahead-0.result c.loop-ahead.rest.now c.split_at.result.0.now c.split_at.result.1.now c.own_count.result
    c.loop-ahead.invariant (changed_keeps (all_of c.args.chunks.now) c.args.entries.now c.requires.chunks.rises c.requires.entries_rise)
    c.requires.within_limit (search rules) c.index-ahead-0.is c.own_count.ensures.cut c.split_at.ensures.front c.split_at.ensures.back).held_rise

pub put_changed-requires-clause-entries_rise : goal.put_changed-requires-clause-entries_rise
put_changed-requires-clause-entries_rise c =
    (next_chunk (changed (all_of c.args.chunks.now) c.args.entries.now) c.loop-ahead.made.items c.loop-ahead.ahead.now
    c.index-ahead-0.result c.loop-ahead.rest.now c.split_at.result.0.now c.split_at.result.1.now c.own_count.result
    c.loop-ahead.invariant (changed_keeps (all_of c.args.chunks.now) c.args.entries.now c.requires.chunks.rises c.requires.entries_rise)
    c.requires.within_limit (search rules) c.index-ahead-0.is c.own_count.ensures.cut c.split_at.ensures.front c.split_at.ensures.back).own_rise

pub put_changed-requires-clause-rises : goal.put_changed-requires-clause-rises
put_changed-requires-clause-rises c =
    (next_chunk (changed (all_of c.args.chunks.now) c.args.entries.now) c.loop-ahead.made.items c.loop-ahead.ahead.now
    c.index-ahead-0.result c.loop-ahead.rest.now c.split_at.result.0.now c.split_at.result.1.now c.own_count.result
    c.loop-ahead.invariant (changed_keeps (all_of c.args.chunks.now) c.args.entries.now c.requires.chunks.rises c.requires.entries_rise)
    c.requires.within_limit (search rules) c.index-ahead-0.is c.own_count.ensures.cut c.split_at.ensures.front c.split_at.ensures.back).rises

pub put_changed-requires-clause-within_limit : goal.put_changed-requires-clause-within_limit
put_changed-requires-clause-within_limit c =
    (next_chunk (changed (all_of c.args.chunks.now) c.args.entries.now) c.loop-ahead.made.items c.loop-ahead.ahead.now
    c.index-ahead-0.result c.loop-ahead.rest.now c.split_at.result.0.now c.split_at.result.1.now c.own_count.result
    c.loop-ahead.invariant (changed_keeps (all_of c.args.chunks.now) c.args.entries.now c.requires.chunks.rises c.requires.entries_rise)
    c.requires.within_limit (search rules) c.index-ahead-0.is c.own_count.ensures.cut c.split_at.ensures.front c.split_at.ensures.back).within_limit

pub put_changed-requires-clause-one_cell : goal.put_changed-requires-clause-one_cell
put_changed-requires-clause-one_cell c =
    (next_chunk (changed (all_of c.args.chunks.now) c.args.entries.now) c.loop-ahead.made.items c.loop-ahead.ahead.now
    c.index-ahead-0.result c.loop-ahead.rest.now c.split_at.result.0.now c.split_at.result.1.now c.own_count.result
    c.loop-ahead.invariant (changed_keeps (all_of c.args.chunks.now) c.args.entries.now c.requires.chunks.rises c.requires.entries_rise)
    c.requires.within_limit (search rules) c.index-ahead-0.is c.own_count.ensures.cut c.split_at.ensures.front c.split_at.ensures.back).one_cell

pub loop-ahead-preserved : goal.loop-ahead-preserved
loop-ahead-preserved c =
    chunk_made (changed (all_of c.args.chunks.now) c.args.entries.now) c.loop-ahead.made.items c.put_changed.new.chunks.items
    (drop 1 c.loop-ahead.ahead.now) c.split_at-in-loop-ahead.result.1.now c.index-ahead-0.result c.split_at.result.0.now
    c.split_at.result.1.now
    (next_chunk (changed (all_of c.args.chunks.now) c.args.entries.now) c.loop-ahead.made.items c.loop-ahead.ahead.now
    c.index-ahead-0.result c.loop-ahead.rest.now c.split_at.result.0.now c.split_at.result.1.now c.own_count.result
    c.loop-ahead.invariant (changed_keeps (all_of c.args.chunks.now) c.args.entries.now c.requires.chunks.rises c.requires.entries_rise)
    c.requires.within_limit (search rules) c.index-ahead-0.is c.own_count.ensures.cut c.split_at.ensures.front c.split_at.ensures.back)
    c.in_ok-put_changed.ensures.chunks c.in_ok-put_changed.ensures.pairs c.split_at-in-loop-ahead.ensures.back

pub put_cut-requires-clause-rises : goal.put_cut-requires-clause-rises
put_cut-requires-clause-rises c =
    subst IsCollection (sym (rest_made (changed (all_of c.args.chunks.now) c.args.entries.now) c.loop-ahead.made.items c.loop-ahead.ahead.now
    c.loop-ahead.rest.now c.loop-ahead.invariant (search rules)))
    (changed_keeps (all_of c.args.chunks.now) c.args.entries.now c.requires.chunks.rises c.requires.entries_rise)

pub put_cut-requires-clause-within_limit : goal.put_cut-requires-clause-within_limit
put_cut-requires-clause-within_limit c =
    subst (λ (hs : Collection). length hs ≤ 1000000) (sym (rest_made (changed (all_of c.args.chunks.now) c.args.entries.now) c.loop-ahead.made.items
    c.loop-ahead.ahead.now c.loop-ahead.rest.now c.loop-ahead.invariant (search rules)))
    c.requires.within_limit

pub returns-clause-pairs : goal.returns-clause-pairs
returns-clause-pairs c =
    c.in_ok-put_cut.ensures.pairs
    ∙ rest_made (changed (all_of c.args.chunks.now) c.args.entries.now) c.loop-ahead.made.items c.loop-ahead.ahead.now c.loop-ahead.rest.now
    c.loop-ahead.invariant (search rules)
