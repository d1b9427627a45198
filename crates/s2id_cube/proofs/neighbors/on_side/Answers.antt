use Rattle.std.proofs.Common.{◌≡◌, ℕ, sym, ap, arith}
use Rattle.s2id_cube.specs.Grid.{column_on, row_on}
use Rattle.s2id_cube.proofs.neighbors.on_side.Goals as goal

-- a place along a side that goes by two names
at_side : (along last m side : ℕ) → m ≡ side
    → record { column : column_on m along last ≡ column_on side along last; row : row_on m along last ≡ row_on side along last }
at_side along last m side e = record { column = ap (λ x. column_on x along last) e; row = ap (λ x. row_on x along last) e }

pub returns-in-0 : goal.returns-in-0
unfolding column_on row_on
returns-in-0 c = at_side c.args.along c.args.last 0 c.args.side (sym c.in-0.is)

pub returns-in-1 : goal.returns-in-1
unfolding column_on row_on
returns-in-1 c = at_side c.args.along c.args.last 1 c.args.side (sym c.in-1.is)

pub returns-in-2 : goal.returns-in-2
unfolding column_on row_on
returns-in-2 c = at_side c.args.along c.args.last 2 c.args.side (sym c.in-2.is)

pub returns-in_default : goal.returns-in_default
unfolding column_on row_on
returns-in_default c = at_side c.args.along c.args.last 3 c.args.side (omega arith)
