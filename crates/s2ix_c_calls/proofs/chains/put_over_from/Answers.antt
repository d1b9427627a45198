-- What is left of the chain in lists goes out, and then what is left of the one behind it.
use Rattle.std.proofs.Common.{◌≡◌, ◌∙◌, ◌++◌, map, take, drop, ap, sym, arith}
use Rattle.std.proofs.lemmas.List.{take_rest}
use Rattle.s2id_core.specs.CellId.{raw_of}
use Rattle.s2ix_bag_pairs.specs.Collection.{Collection}
use Rattle.s2ix_table_walk.specs.Contents.{contents_at}
use Rattle.s2ix_table_walk.specs.Places.{from_place}
use Rattle.s2ix_table_queries.proofs.Linking.{over_leaf}
use Rattle.s2ix_c_calls.specs.Lists.{row_of}
use Rattle.s2ix_c_calls.proofs.Begun.{front_all}
use Rattle.s2ix_c_calls.proofs.Behind.{left_of_both, page_of_all, to_the_end}
use Rattle.s2ix_c_calls.proofs.chains.put_over_from.Goals as goal

pub returns : goal.returns
returns g c =
    let chain = g.T.RangeTable.chain c.args.table.now in
    let over = c.contents_near-over.ensures in
    let are = over.contents in
    let p = c.pass_linked-first in
    let w = c.write_linked-next in
    let b = c.write_begun-rest in
    let front = are.listed p.result in
    let behind = from_place chain c.place_after-outer.result in
    let rest = from_place chain b.result in
    let page : drop c.args.from (contents_at (raw_of c.args.leaf) (g.T.RangeTable.pairs c.args.table.now)) ≡ front ++ behind =
    ap (drop c.args.from) (over_leaf c.args.leaf are c.requires over.from over.limit)
    ∙ left_of_both (are.listed c.contents_near-over.result.innermost) (from_place chain c.contents_near-over.result.rest) front behind c.args.from
    p.new.passed p.ensures.at_most (p.ensures.within are.listed are.linked) (λ less. are.linked.ends p.result (p.ensures.all less))
    (p.ensures.rest are.listed are.linked) c.place_after-outer.ensures.pairs in
    page_of_all row_of front (are.listed w.result) behind rest w.new.count c.args.out.now w.new.out _ _ b.new.out b.new.count
    (w.ensures.rows are.listed are.linked) w.ensures.after w.auto.out w.ensures.room (λ less. are.linked.ends w.result (w.ensures.full less))
    (take_rest w.new.out w.new.count ∙ w.ensures.after)
    (ap (λ (l : Collection). take b.new.count b.new.out ++ map row_of l) (sym (front_all 0 rest (omega arith))) ∙ b.ensures.rows
    ∙ ap (map row_of) (front_all 0 behind (omega arith)))
    b.ensures.after b.auto.out b.ensures.room (λ less. ap (from_place chain) (b.ensures.full less)) (to_the_end w.new.count w.new.out b.new.out)
    (drop c.args.from (contents_at (raw_of c.args.leaf) (g.T.RangeTable.pairs c.args.table.now))) page
