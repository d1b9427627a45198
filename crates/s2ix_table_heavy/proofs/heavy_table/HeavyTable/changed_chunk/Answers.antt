-- All entries fall into the chunk, so the change makes only of this chunk other pairs.
use Rattle.std.proofs.Common.{[], ◌≡◌, ◌<◌, ◌≤◌, List, get_or, length, set, sym, ap, ◌∙◌, arith, subst, rules}
use Rattle.std.proofs.lemmas.List.{get_or_default}
use Rattle.s2ix_bag_lists.specs.Faces.{all_of}
use Rattle.s2ix_bag_lists.proofs.Places.{part_rises}
use Rattle.s2ix_bag_pairs.specs.Change.{changed}
use Rattle.s2ix_bag_pairs.specs.Collection.{Collection, IsCollection}
use Rattle.s2ix_table_spans.specs.Blocks.{HoldsCell}
use Rattle.s2ix_table_heavy.specs.ChangedChunk.{FitsChunk, LieAlike}
use Rattle.s2ix_table_heavy.proofs.Alike.{lie_alike}
use Rattle.s2ix_table_heavy.proofs.ChangingChunk.{AreEntriesOf, changed_whole, entry_cell, fits_chunk, fits_marked}
use Rattle.s2ix_table_heavy.proofs.Kept.{marked}
use Rattle.s2ix_table_heavy.proofs.heavy_table.HeavyTable.changed_chunk.Goals as goal

pub merge-requires-clause-held_rise : goal.merge-requires-clause-held_rise
merge-requires-clause-held_rise c =
    let chunks = c.self.inside.chunks.items in
    let k = c.chunk_near-number.result in
    let lt : k < length chunks = let less = c.if-number-len.false in let len = c.len.ensures in omega arith in
    let own = c.as_slice.ensures ∙ c.index.ensures ∙ get_or_default chunks k c.index.result.now [] lt in
    subst (λ (hs : Collection). IsCollection hs) (sym own) (part_rises chunks k lt c.self.invariant.are_chunks.rises)

pub returns-clause-fits : goal.returns-clause-fits
returns-clause-fits c = λ within_limit.
    let chunks = c.self.inside.chunks.items in
    let k = c.chunk_near-number.result in
    let es = c.args.entries.now in
    let lt : k < length chunks = let less = c.if-number-len.false in let len = c.len.ensures in omega arith in
    let own = c.as_slice.ensures ∙ c.index.ensures ∙ get_or_default chunks k c.index.result.now [] lt in
    let of = subst (λ (cs : List Collection). AreEntriesOf cs k es) (sym c.self.view_is) (c.takes_all.ensures c.if-not-takes_all.false) in
    let new : c.in_ok-held-2.held ≡ changed (get_or chunks k []) es =
    c.in_ok-held-2.ensures ∙ c.in_ok-held.ensures ∙ ap (λ (hs : Collection). changed hs es) own in
    let more : 0 < length c.in_ok-held.held.items = search rules in
    let some = subst (λ (hs : Collection). 0 < length hs) (sym c.in_ok-held-2.ensures) more in
    let few = subst (λ (cs : List Collection). length (changed (all_of cs) es) ≤ 1000000) (sym c.self.view_is) within_limit in
    subst (λ (cs : List Collection). FitsChunk cs k c.in_ok-held-2.held) c.self.view_is
    (fits_chunk chunks k c.in_ok-held-2.held es c.self.invariant.are_chunks c.requires lt of new some few)

pub returns-clause-pairs : goal.returns-clause-pairs
returns-clause-pairs c =
    let chunks = c.self.inside.chunks.items in
    let k = c.chunk_near-number.result in
    let es = c.args.entries.now in
    let lt : k < length chunks = let less = c.if-number-len.false in let len = c.len.ensures in omega arith in
    let own = c.as_slice.ensures ∙ c.index.ensures ∙ get_or_default chunks k c.index.result.now [] lt in
    let of = subst (λ (cs : List Collection). AreEntriesOf cs k es) (sym c.self.view_is) (c.takes_all.ensures c.if-not-takes_all.false) in
    let new : c.in_ok-held-2.held ≡ changed (get_or chunks k []) es =
    c.in_ok-held-2.ensures ∙ c.in_ok-held.ensures ∙ ap (λ (hs : Collection). changed hs es) own in
    subst (λ (cs : List Collection). all_of (set cs k c.in_ok-held-2.held) ≡ changed (all_of cs) es) c.self.view_is
    (ap (λ (hs : Collection). all_of (set chunks k hs)) new
    ∙ changed_whole chunks k es c.self.invariant.are_chunks c.requires lt of)

pub returns-clause-alike : goal.returns-clause-alike
returns-clause-alike c = λ within_limit.
    let chunks = c.self.inside.chunks.items in
    let k = c.chunk_near-number.result in
    let held = c.in_ok-held-2.held in
    let marks = c.self.inside.marks in
    let all = marked chunks marks c.self.invariant in
    let fits = subst (λ (cs : List Collection). FitsChunk cs k held) (sym c.self.view_is) (returns-clause-fits c within_limit) in
    subst (λ (cs : List Collection). LieAlike cs (set cs k held)) c.self.view_is
    (lie_alike chunks (set chunks k held) marks.held all (fits_marked chunks marks.held k held all fits))

pub returns-clause-cells : goal.returns-clause-cells
returns-clause-cells c = λ e i.
    let chunks = c.self.inside.chunks.items in
    let k = c.chunk_near-number.result in
    let es = c.args.entries.now in
    let lt : k < length chunks = let less = c.if-number-len.false in let len = c.len.ensures in omega arith in
    let of = subst (λ (cs : List Collection). AreEntriesOf cs k es) (sym c.self.view_is) (c.takes_all.ensures c.if-not-takes_all.false) in
    subst (λ (cs : List Collection). HoldsCell (all_of cs) e.pair.cell) c.self.view_is
    (entry_cell chunks k es e c.self.invariant.are_chunks lt of i)
