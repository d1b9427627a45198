use Rattle.std.proofs.Common.{◌≡◌, ◌≢◌, ℕ, ◌%◌, ◌∙◌, List, Option, sym, ap, arith, subst, subst₂}
use Rattle.s2ix_bag_lists.specs.Faces.{all_of}
use Rattle.s2ix_bag_pairs.specs.Collection.{Collection}
use Rattle.s2ix_table_walk.specs.Contents.{contents_at}
use Rattle.s2ix_table_walk.specs.Places.{LeadsTo}
use Rattle.s2ix_table_walk.specs.Table.{range_at, IsFound}
use Rattle.s2ix_table_heavy.specs.HeavyChains.{heavy_chain}
use Rattle.s2ix_table_heavy.specs.declared.heavy_place.HeavyPlace.{HeavyPlace}
use Rattle.s2ix_table_heavy.proofs.Marked.{chunks_of}
use Rattle.s2ix_table_heavy.proofs.HeavyWay.{leads_by_marks}
use Rattle.s2ix_table_heavy.proofs.Kept.{marked, over_range, range_ends, same_until, differs_after}
use Rattle.s2ix_table_heavy.proofs.heavy_table.HeavyTable.first_over.Goals as goal

pub returns-clause-first : goal.returns-clause-first
returns-clause-first c =
    let chunks = c.self.inside.chunks.items in
    let marks = c.self.inside.marks in
    let k = c.find-k.result in
    let found = subst (IsFound marks.ranges k) c.leaf_numbered.ensures c.find-k.ensures in
    let all = marked chunks marks c.self.invariant in
    let way = leads_by_marks chunks marks.held c.first.result (range_at marks.ranges k).contents all c.first.ensures in
    let over = over_range chunks marks c.self.invariant k c.args.leaf c.requires.odd found in
    let pairs = chunks_of chunks (range_at marks.ranges k).contents in
    let told = subst (λ (o : Option HeavyPlace). LeadsTo (heavy_chain chunks) o pairs) (sym c.first_in_chunk.ensures) way in
    let leads = subst (LeadsTo (heavy_chain chunks) c.first_in_chunk.result) (sym over) told in
    let To = λ (cs : List Collection). LeadsTo (heavy_chain cs) c.first_in_chunk.result (contents_at c.args.leaf (all_of cs)) in
    subst To c.self.view_is leads

pub returns-clause-until : goal.returns-clause-until
returns-clause-until c =
    λ q odd from to.
    let chunks = c.self.inside.chunks.items in
    let marks = c.self.inside.marks in
    let k = c.find-k.result in
    let found = subst (IsFound marks.ranges k) c.leaf_numbered.ensures c.find-k.ensures in
    let limit = c.range-until.ensures.limit in
    subst (λ (chunks : List Collection). contents_at q (all_of chunks) ≡ contents_at c.args.leaf (all_of chunks)) c.self.view_is
    (same_until chunks marks c.self.invariant k c.args.leaf c.requires.odd found q odd from (omega arith))

pub returns-clause-furthest : goal.returns-clause-furthest
returns-clause-furthest c =
    λ before_end.
    let chunks = c.self.inside.chunks.items in
    let marks = c.self.inside.marks in
    let k = c.find-k.result in
    let found = subst (IsFound marks.ranges k) c.leaf_numbered.ensures c.find-k.ensures in
    let limit = c.range-until.ensures.limit in
    let differs = differs_after chunks marks c.self.invariant k c.args.leaf c.requires.odd found (omega arith) in
    subst₂ (λ (n : ℕ) (chunks : List Collection). contents_at n (all_of chunks) ≢ contents_at c.args.leaf (all_of chunks)) (sym limit)
    c.self.view_is differs

pub returns-clause-odd : goal.returns-clause-odd
returns-clause-odd c =
    let ends = range_ends c.self.inside.chunks.items c.self.inside.marks c.self.invariant c.find-k.result c.find-k.ensures.within in
    let limit = c.range-until.ensures.limit in
    ap (λ n. n % 2) limit ∙ ends.0

pub returns-clause-ends : goal.returns-clause-ends
returns-clause-ends c =
    let ends = range_ends c.self.inside.chunks.items c.self.inside.marks c.self.invariant c.find-k.result c.find-k.ensures.within in
    let le = ends.1 in
    let limit = c.range-until.ensures.limit in
    omega arith
