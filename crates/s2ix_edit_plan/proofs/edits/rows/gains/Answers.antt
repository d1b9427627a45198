use Rattle.std.proofs.Common.{rules, ◌≡◌, ◌≢◌, ◌+◌, ◌≤◌, ◌++◌, ◌∷◌, List, drop, sym, ap, ◌∙◌, subst, arith}
use Rattle.std.proofs.lemmas.List.{drop_more}
use Rattle.std.proofs.lemmas.Result.{err_from_is_err_and}
use Rattle.s2ix_bag_pairs.specs.declared.pair.Entry.{Entry}
use Rattle.s2ix_bag_pairs.specs.declared.pair.Held.{Held}
use Rattle.s2ix_bag_pairs.specs.Pair.{rank_of}
use Rattle.s2ix_edit_plan.specs.Rows.{copies_at, gain_of}
use Rattle.s2ix_edit_plan.proofs.Rows.{Walks, pending_error, rest_copies, sum_error, walks_other, walks_same}
use Rattle.s2ix_edit_plan.proofs.edits.rows.gains.Goals.{After-is_same, then-is_same+in-Some-checked_add, else-is_same+in_ok-push_gain}
use Rattle.s2ix_edit_plan.proofs.edits.rows.gains.Goals as goal

-- the rows that are left begin with the row that the walk has come to
left : (c : After-is_same)
    → drop c.loop-row.row-index c.in-Some.rest.now ≡ c.row-item.result ∷ drop (c.loop-row.row-index + 1) c.in-Some.rest.now
left c =
    drop_more c.in-Some.rest.now c.loop-row.row-index c.row-item.result c.loop-row-test.true
    ∙ ap (λ (row : Held). row ∷ drop (c.loop-row.row-index + 1) c.in-Some.rest.now) (sym c.row-item.is)

walks : (c : After-is_same)
    → Walks c.args.bag.now.held c.args.rows.now c.loop-row.entries.items c.loop-row.pending
    (c.row-item.result ∷ drop (c.loop-row.row-index + 1) c.in-Some.rest.now)
walks c =
    let Left : List Held → Type 0 = λ rows. Walks c.args.bag.now.held c.args.rows.now c.loop-row.entries.items c.loop-row.pending rows in
    subst Left (left c) c.loop-row.invariant

least : (c : After-is_same)
    → copies_at (c.row-item.result ∷ drop (c.loop-row.row-index + 1) c.in-Some.rest.now) (rank_of c.row-item.result.pair)
    ≤ copies_at c.args.rows.now (rank_of c.row-item.result.pair)
least c =
    let k = rank_of c.row-item.result.pair in
    let Least : List Held → Type 0 = λ rows. copies_at rows k ≤ copies_at c.args.rows.now k in
    subst Least (left c)
    (rest_copies c.args.rows.now c.in-Some.rest.now c.in-Some.first.now c.loop-row.row-index k c.in-Some.ensures.cases.0)

pub returns-in_default-checked_add-clause-refused : goal.returns-in_default-checked_add-clause-refused
returns-in_default-checked_add-clause-refused c =
    let a = (goal.at-returns-in_default-checked_add-clause-refused c).After-is_same in
    let same : rank_of c.row-item.result.pair ≡ rank_of c.loop-row.pending.pair = search rules in
    sum_error c.args.bag.now.held c.loop-row.pending c.row-item.result (drop (c.loop-row.row-index + 1) c.in-Some.rest.now) c.args.rows.now
    same (walks a).1
    (omega (arith, c.in_default-checked_add.ensures))

pub returns-in_err-push_gain-clause-refused : goal.returns-in_err-push_gain-clause-refused
returns-in_err-push_gain-clause-refused c =
    let a = (goal.at-returns-in_err-push_gain-clause-refused c).After-is_same in
    let p = err_from_is_err_and c.from_residual.result c.from_residual.ensures.1 in
    rw (p.1, p.2)
    (pending_error c.args.bag.now.held c.loop-row.pending c.args.rows.now c.in_err-push_gain.field-0.0 (omega (arith, (walks a).1))
    c.in_err-push_gain.ensures.refused)

pub loop-row-preserved : goal.loop-row-preserved
loop-row-preserved c =
    let a = (goal.at-loop-row-preserved c).After-is_same in
    let hs = c.args.bag.now.held in
    let rows = c.args.rows.now in
    let next = c.row-item.result in
    let rest = drop (c.loop-row.row-index + 1) c.in-Some.rest.now in
    let Walked : List Entry → Type 0 = λ es. Walks hs rows es c.if-is_same.pending rest in
    elim c.if-is_same.branch [
      | then-is_same+in-Some-checked_add w ↦
          let same : rank_of next.pair ≡ rank_of c.loop-row.pending.pair = search rules in
          let Pending : Held → Type 0 = λ row. Walks hs rows c.loop-row.entries.items row rest in
          let sum : record { pair = c.loop-row.pending.pair; count = c.loop-row.pending.count + next.count } ≡ c.if-is_same.pending =
          search rules in
          let es : c.loop-row.entries.items ≡ c.if-is_same.entries.items = search rules in
          subst Walked es (subst Pending sum (walks_same hs rows c.loop-row.entries.items c.loop-row.pending next rest same (walks a)))
      | else-is_same+in_ok-push_gain w ↦
          let differs : rank_of next.pair ≢ rank_of c.loop-row.pending.pair = search rules in
          let Pending : Held → Type 0 = λ row. Walks hs rows (c.loop-row.entries.items ++ gain_of hs c.loop-row.pending) row rest in
          let is : next ≡ c.if-is_same.pending = search rules in
          let es : c.loop-row.entries.items ++ gain_of hs c.loop-row.pending ≡ c.if-is_same.entries.items = search rules in
          subst Walked es
          (subst Pending is
          (walks_other hs rows c.loop-row.entries.items c.loop-row.pending next rest differs (least a) (walks a)))
    ]

pub returns-in_err-push_gain-2-clause-refused : goal.returns-in_err-push_gain-2-clause-refused
returns-in_err-push_gain-2-clause-refused c =
    let p = err_from_is_err_and c.from_residual-in_err-push_gain-2.result c.from_residual-in_err-push_gain-2.ensures.1 in
    rw (p.1, p.2)
    (pending_error c.args.bag.now.held c.loop-row.pending c.args.rows.now c.in_err-push_gain-2.field-0.0 (omega (arith, c.loop-row.invariant.1))
    c.in_err-push_gain-2.ensures.refused)
