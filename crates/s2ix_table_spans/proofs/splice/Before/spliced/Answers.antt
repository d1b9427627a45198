use Rattle.std.proofs.Common.{ℕ, ◌+◌, ◌-◌, ◌≡◌, ◌++◌, List, Result, Ok, Err, IfOk, take, drop, arith, ap, sym, ◌∙◌, subst}
use Rattle.s2id_core.specs.CellId.{first_of, end_of}
use Rattle.s2ix_bag_pairs.specs.Collection.{Collection}
use Rattle.s2ix_bag_pairs.proofs.CutAtRank.{collection_take, collection_drop}
use Rattle.s2ix_table_spans.specs.Blocks.{moved, joined_places}
use Rattle.s2ix_table_spans.specs.Chains.{chain_of}
use Rattle.s2ix_table_spans.specs.Nodes.{AreNodes}
use Rattle.s2ix_table_spans.specs.SpanTable.{IsInSpan}
use Rattle.s2ix_table_spans.proofs.Bases.{some_in_block, block_in_span}
use Rattle.s2ix_table_spans.proofs.Ranges.{as_many_firsts}
use Rattle.s2ix_table_spans.proofs.Spliced.{AreSpliced, nodes_spliced, base_moved}
use Rattle.s2ix_table_spans.proofs.splice.Before.spliced.Goals as goal

part_is : (start n : ℕ) → start + n - start ≡ n
part_is start n = omega arith

pub with_room-requires-clause-rises : goal.with_room-requires-clause-rises
with_room-requires-clause-rises c =
    let b = c.args.block in
    collection_take _ 0 (drop b.start c.args.next.now) (collection_drop b.start 0 c.args.next.now c.requires.rises)

pub with_room-requires-clause-span : goal.with_room-requires-clause-span
with_room-requires-clause-span c =
    let b = c.args.block in
    let next = c.args.next.now in
    let own =
    block_in_span b.cell (take b.start next) (take b.new (drop b.start next)) (drop (b.start + b.new) next) c.requires.block.new_block in
    subst (λ (k : ℕ). IsInSpan (take k (drop b.start next)) c.span_start.result c.span_end.result) (sym (part_is b.start b.new))
    (subst (λ (k : ℕ). IsInSpan (take b.new (drop b.start next)) k c.span_end.result) (sym c.span_start.ensures)
    (subst (λ (k : ℕ). IsInSpan (take b.new (drop b.start next)) (first_of b.cell) k) (sym c.span_end.ensures) own))

pub base-requires-clause-some : goal.base-requires-clause-some
base-requires-clause-some c =
    let b = c.args.block in
    some_in_block c.args.self.held.now b.cell b.start b.old c.requires.block.old_block c.requires.block.old_own

pub joined-requires-clause-firsts : goal.joined-requires-clause-firsts
joined-requires-clause-firsts c =
    let t = c.args.self in
    as_many_firsts t.held.now t.starts.now t.firsts.now c.requires.nodes.leads

same_nodes : (held : Collection) (from to : ℕ) (outer starts firsts o s f : List ℕ) → o ≡ outer → s ≡ starts → f ≡ firsts
    → AreNodes held from to outer starts firsts → AreNodes held from to o s f
same_nodes held from to outer starts firsts o s f one two three nodes =
    subst (λ xs. AreNodes held from to xs s f) (sym one)
    (subst (λ xs. AreNodes held from to outer xs f) (sym two) (subst (λ xs. AreNodes held from to outer starts xs) (sym three) nodes))

-- what three clauses tell of a result
all_ok : {X E : Type 0} (r : Result X E) (P Q R S : X → Type 0) → ((x : X) → P x → Q x → R x → S x) → IfOk r P → IfOk r Q → IfOk r R → IfOk r S
all_ok (Ok x) P Q R S all p q r = all x p q r
all_ok (Err e) P Q R S all p q r = tt

pub returns : goal.returns
returns c =
    let t = c.args.self in
    let b = c.args.block in
    let next = c.args.next.now in
    let base = c.moved-base.result in
    let own = c.in_ok-own.own in
    let ranges = c.ranges_over-ranges.result in
    let block = subst (λ (k : ℕ). AreNodes (take b.new (drop b.start next)) k (end_of b.cell) own.outer.items own.starts.items own.firsts.items)
    c.span_start.ensures
    (subst (λ (k : ℕ). AreNodes (take b.new (drop b.start next)) c.span_start.result k own.outer.items own.starts.items own.firsts.items)
    c.span_end.ensures
    (subst (λ (k : ℕ). AreNodes (take k (drop b.start next)) c.span_start.result c.span_end.result own.outer.items own.starts.items own.firsts.items)
    (part_is b.start b.new) c.in_ok-own.ensures)) in
    let at = c.moved-base.ensures ∙ ap (λ n. moved b.start b.old b.new n c.base.result) c.requires.count in
    let on_base = ap (chain_of next) at ∙ base_moved t.held.now next b.cell b.start b.old b.new c.base.result c.requires.block c.base.ensures.beside
    c.base.ensures.around in
    let all = nodes_spliced t.held.now next b.cell b.start b.old b.new t.from t.to t.outer.now t.starts.now t.firsts.now own.outer.items
    own.starts.items own.firsts.items base ranges.first ranges.last c.requires.block c.requires.nodes block c.ranges_over-ranges.ensures c.requires.rises
    c.requires.within_limit c.requires.span on_base in
    let all_is = subst (λ n. AreSpliced next b.start b.old b.new n base t.from t.to t.outer.now t.starts.now t.firsts.now own.outer.items
    own.starts.items own.firsts.items ranges.first ranges.last) (sym c.requires.count) all in
    all_ok c.joined.result
    (λ nodes. nodes.outer.items ≡ joined_places b.start b.old b.new b.count base (take b.start t.outer.now) own.outer.items (drop (b.start + b.old) t.outer.now))
    (λ nodes. nodes.starts.items ≡ take ranges.first t.starts.now ++ (own.starts.items ++ drop ranges.last t.starts.now))
    (λ nodes. nodes.firsts.items ≡ joined_places b.start b.old b.new b.count base (take ranges.first t.firsts.now) own.firsts.items (drop ranges.last t.firsts.now))
    (λ nodes. AreNodes next t.from t.to nodes.outer.items nodes.starts.items nodes.firsts.items)
    (λ nodes o s f.
    same_nodes next t.from t.to _ _ _ nodes.outer.items nodes.starts.items nodes.firsts.items o s f all_is)
    c.joined.ensures.outer c.joined.ensures.starts c.joined.ensures.firsts
