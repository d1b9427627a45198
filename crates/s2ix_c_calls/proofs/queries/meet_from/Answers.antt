-- No cells meet nothing, no room takes nothing, a leaf meets what lies over it, and the cells of a target meet what their union does.
use Rattle.std.proofs.Common.{◌∙◌, ap, drop, length, map, subst, sym, take}
use Rattle.std.proofs.lemmas.Bool.{eqb-true}
use Rattle.s2id_core.specs.CellId.{raw_of}
use Rattle.s2id_union.specs.NormalForm.{normal_form}
use Rattle.s2ix_bag_pairs.specs.Collection.{Collection}
use Rattle.s2ix_table_walk.specs.Contents.{contents_at}
use Rattle.s2ix_table_walk.specs.Meeting.{meeting_of}
use Rattle.s2ix_c_calls.specs.Lists.{IsPut, row_of, rows_met_from}
use Rattle.s2ix_c_calls.specs.Status.{done}
use Rattle.s2ix_c_calls.proofs.MeetsLeaf.{meets_leaf_from}
use Rattle.s2ix_c_calls.proofs.MeetsTarget.{lists_met}
use Rattle.s2ix_c_calls.proofs.NoCells.{lists_checked, lists_nothing, no_rows_met_from}
use Rattle.s2ix_c_calls.proofs.queries.meet_from.Goals as goal

pub returns-then-is_empty-clause-list : goal.returns-then-is_empty-clause-list
returns-then-is_empty-clause-list c =
    let none = eqb-true (length c.args.ids.now) 0 (sym c.is_empty.ensures ∙ c.if-is_empty.true) in
    let s = c.args.store.now in
    lists_nothing c.args.out.now (λ cells. rows_met_from c.args.from (length c.args.out.now) cells s) c.args.ids.now none
    (no_rows_met_from c.args.from (length c.args.out.now) s)

pub returns-then-is_empty-2-clause-list : goal.returns-then-is_empty-2-clause-list
returns-then-is_empty-2-clause-list c =
    let none = eqb-true (length c.args.out.now) 0 (sym c.is_empty-2.ensures ∙ c.if-is_empty-2.true) in
    let s = c.args.store.now in
    lists_checked c.args.out.now (λ cells. rows_met_from c.args.from (length c.args.out.now) cells s) c.args.ids.now c.check_cells.result
    c.check_cells.new.number c.check_cells.ensures.right c.check_cells.ensures.wrong
    (λ cells. ap (λ n. map row_of (take n (drop c.args.from (meeting_of (normal_form cells) s.bag.held)))) none)

pub returns-in-Some-clause-list : goal.returns-in-Some-clause-list
returns-in-Some-clause-list c =
    let leaf = c.in-Some.leaf in
    let put = c.put_over_from in
    meets_leaf_from c.args.ids.now leaf c.args.store.now c.in-Some.ensures.leaf.0 c.in-Some.ensures.leaf.1 c.args.from put.result c.args.out.now put.new.out
    (subst
    (λ (hs : Collection). IsPut (map row_of (take (length c.args.out.now) (drop c.args.from (contents_at (raw_of leaf) hs)))) done put.result c.args.out.now put.new.out)
    c.table.ensures.pairs put.ensures)

pub returns-clause-list : goal.returns-clause-list
returns-clause-list c =
    let ask = c.ask in
    lists_met c.args.ids.now c.args.store.now ask.result ask.new.number c.args.out.now ask.new.out c.args.from ask.ensures
