-- The chain in lists is put, and then the one behind it.
use Rattle.std.proofs.Common.{◌≡◌, ◌≤◌, length, take, sym, ◌∙◌, ap, arith}
use Rattle.std.proofs.lemmas.List.{length-append, take-take}
use Rattle.s2ix_table_walk.specs.Places.{from_place}
use Rattle.s2ix_table_queries.proofs.Linking.{ends_behind, over_leaf, put_behind}
use Rattle.s2ix_table_queries.proofs.each.put_leaf.Goals as goal

pub returns-in_err-at-clause-short : goal.returns-in_err-at-clause-short
returns-in_err-at-clause-short g c = λ none.
    let are = c.requires.contents in
    let all = over_leaf c.args.leaf are c.requires.leaf c.requires.from c.requires.limit in
    let rest = from_place (g.T.RangeTable.chain c.args.table.now) c.args.contents.now.rest in
    omega (
      arith,
      ap length all,
      length-append (are.listed c.args.contents.now.innermost) rest,
      c.put_linked.ensures.short are.listed are.linked c.in_err-at.was,
    )

pub returns-clause-end : goal.returns-clause-end
returns-clause-end g c =
    let are = c.requires.contents in
    let all = over_leaf c.args.leaf are c.requires.leaf c.requires.from c.requires.limit in
    ends_behind c.put_chain.result c.in_ok-at.at c.args.from _ _ _ all (c.in_ok-at.ensures.end are.listed are.linked) c.put_chain.ensures.end

pub returns-clause-put : goal.returns-clause-put
returns-clause-put g c =
    let are = c.requires.contents in
    let all = over_leaf c.args.leaf are c.requires.leaf c.requires.from c.requires.limit in
    put_behind g.R.OfHeld.of c.put_chain.result (take c.args.from c.args.out.now) _ c.put_chain.new.out _ _ _ all
    (c.in_ok-at.ensures.put are.listed are.linked) c.put_chain.ensures.put

pub returns-clause-short : goal.returns-clause-short
returns-clause-short g c = λ none.
    let are = c.requires.contents in
    let all = over_leaf c.args.leaf are c.requires.leaf c.requires.from c.requires.limit in
    let rest = from_place (g.T.RangeTable.chain c.args.table.now) c.args.contents.now.rest in
    let long : length c.put_linked.new.out ≡ length c.args.out.now = c.put_linked.ensures.same in
    omega (
      arith,
      ap length all,
      length-append (are.listed c.args.contents.now.innermost) rest,
      long,
      c.in_ok-at.ensures.end are.listed are.linked,
      c.put_chain.ensures.short none,
    )

pub returns-clause-before : goal.returns-clause-before
returns-clause-before g c =
    let are = c.requires.contents in
    let from : c.args.from ≤ c.in_ok-at.at = omega (arith, c.in_ok-at.ensures.end are.listed are.linked) in
    sym (take-take c.args.from c.in_ok-at.at c.put_chain.new.out from)
    ∙ ap (take c.args.from) c.put_chain.ensures.before
    ∙ take-take c.args.from c.in_ok-at.at c.put_linked.new.out from
    ∙ c.put_linked.ensures.before
