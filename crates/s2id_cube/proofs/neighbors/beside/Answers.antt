use Rattle.std.proofs.Common.{refl, sym, arith}
use Rattle.s2id_cube.specs.Grid.{column_on, row_on}
use Rattle.s2id_cube.proofs.Beside.{beside_step, beside_moved}
use Rattle.s2id_cube.proofs.neighbors.beside.Goals as goal

pub returns-then-j-gt0 : goal.returns-then-j-gt0
returns-then-j-gt0 c = beside_step (omega arith)

pub returns-else-j-gt0 : goal.returns-else-j-gt0
unfolding column_on row_on
returns-else-j-gt0 c = beside_moved refl (sym c.if-side-eq0.true) refl refl (omega arith) refl refl refl c.over_edge.ensures

pub returns-then-i-last : goal.returns-then-i-last
returns-then-i-last c = beside_step (omega arith)

pub returns-else-i-last : goal.returns-else-i-last
unfolding column_on row_on
returns-else-i-last c = beside_moved refl (sym c.if-side-eq1.true) refl (omega arith) refl refl refl refl c.over_edge-else-i-last.ensures

pub returns-then-j-last : goal.returns-then-j-last
returns-then-j-last c = beside_step (omega arith)

pub returns-else-j-last : goal.returns-else-j-last
unfolding column_on row_on
returns-else-j-last c = beside_moved refl (sym c.if-side-eq2.true) refl refl (omega arith) refl refl refl c.over_edge-else-j-last.ensures

pub returns-then-i-gt0 : goal.returns-then-i-gt0
returns-then-i-gt0 c = beside_step (omega arith)

pub returns-else-i-gt0 : goal.returns-else-i-gt0
unfolding column_on row_on
returns-else-i-gt0 c = beside_moved refl (omega arith) refl (omega arith) refl refl refl refl c.over_edge-else-i-gt0.ensures
