-- No place leads to no pairs.
use Rattle.std.proofs.Common.{rules, ◌≡◌, ◌∙◌, None, ap, map}
use Rattle.s2ix_table_walk.specs.Places.{from_place}
use Rattle.s2ix_table_walk.specs.Walking.{front_from}
use Rattle.s2ix_c_calls.specs.Lists.{row_of}
use Rattle.s2ix_c_calls.proofs.Begun.{front_none}
use Rattle.s2ix_c_calls.proofs.NoCells.{fill_nothing}
use Rattle.s2ix_c_calls.proofs.chains.put_chain.Goals as goal

pub returns-then-is_none : goal.returns-then-is_none
returns-then-is_none g c =
    let none : c.args.first ≡ None = search rules in
    let chain = g.T.RangeTable.chain c.args.table.now in
    fill_nothing c.args.out.now (map row_of (front_from c.args.from (from_place chain c.args.first)))
    (ap (λ p. map row_of (front_from c.args.from (from_place chain p))) none ∙ ap (map row_of) (front_none c.args.from))
