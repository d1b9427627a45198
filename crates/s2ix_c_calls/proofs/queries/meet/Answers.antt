-- No cells meet nothing, a leaf meets what lies over it, and the cells of a target meet what their union does.
use Rattle.std.proofs.Common.{◌∙◌, length, map, subst, sym}
use Rattle.std.proofs.lemmas.Bool.{eqb-true}
use Rattle.s2id_core.specs.CellId.{raw_of}
use Rattle.s2ix_bag_pairs.specs.Collection.{Collection}
use Rattle.s2ix_table_walk.specs.Contents.{contents_at}
use Rattle.s2ix_c_calls.specs.Lists.{IsFilled, row_of, rows_met}
use Rattle.s2ix_c_calls.proofs.MeetsLeaf.{meets_leaf}
use Rattle.s2ix_c_calls.proofs.MeetsTarget.{fills_met}
use Rattle.s2ix_c_calls.proofs.NoCells.{fills_nothing, no_rows_met}
use Rattle.s2ix_c_calls.proofs.queries.meet.Goals as goal

pub returns-then-is_empty-clause-list : goal.returns-then-is_empty-clause-list
returns-then-is_empty-clause-list c =
    let none = eqb-true (length c.args.ids.now) 0 (sym c.is_empty.ensures ∙ c.if-is_empty.true) in
    fills_nothing c.args.out.now (λ cells. rows_met cells c.args.store.now) c.args.ids.now none (no_rows_met c.args.store.now)

pub returns-in-Some-clause-list : goal.returns-in-Some-clause-list
returns-in-Some-clause-list c =
    let leaf = c.in-Some.leaf in
    let put = c.put_over in
    meets_leaf c.args.ids.now leaf c.args.store.now c.in-Some.ensures.leaf.0 c.in-Some.ensures.leaf.1 put.result put.new.number c.args.out.now put.new.out
    (subst
    (λ (hs : Collection). IsFilled (map row_of (contents_at (raw_of leaf) hs)) put.result put.new.number c.args.out.now put.new.out)
    c.table.ensures.pairs put.ensures)

pub returns-clause-list : goal.returns-clause-list
returns-clause-list c =
    let ask = c.ask in
    fills_met c.args.ids.now c.args.store.now ask.result ask.new.number c.args.out.now ask.new.out ask.ensures
