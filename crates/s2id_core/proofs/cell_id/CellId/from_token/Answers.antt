use Rattle.std.proofs.Common.{sym, subst, arith, IfOk, rules}
use Rattle.s2id_core.specs.CellId.{raw_of}
use Rattle.s2id_core.specs.Token.{Spells}
use Rattle.s2id_core.proofs.Spelled.{cell_spelled-none, result_ok-cell_spelled}
use Rattle.s2id_core.proofs.Reading.{IsAnswer, answered, faulted, no_fault}
use Rattle.s2id_core.proofs.cell_id.CellId.from_token.Goals as goal

of_cell : (c : goal.After-ok_or) → IsAnswer c.args.text.now c.ok_or.result
of_cell c =
    let text = c.args.text.now in
    let found = c.from_raw.ensures in
    subst (λ r. IsAnswer text r) (sym c.ok_or.ensures.value) (answered text c.in-Ok.number c.from_raw.result c.in-Ok.ensures.spelled found.found found.number)

pub returns-in-Ok-clause-accepted : goal.returns-in-Ok-clause-accepted
returns-in-Ok-clause-accepted c = (of_cell c).accepted

pub returns-in-Ok-clause-not_hex : goal.returns-in-Ok-clause-not_hex
returns-in-Ok-clause-not_hex c = (of_cell c).not_hex

pub returns-in-Ok-clause-not_a_cell : goal.returns-in-Ok-clause-not_a_cell
returns-in-Ok-clause-not_a_cell c = (of_cell c).not_a_cell

pub returns-in-Err-clause-accepted : goal.returns-in-Err-clause-accepted
returns-in-Err-clause-accepted c = (faulted c.args.text.now c.in-Err.place (omega arith) c.in-Err.ensures.fault).accepted

pub returns-in-Err-clause-not_hex : goal.returns-in-Err-clause-not_hex
returns-in-Err-clause-not_hex c = (faulted c.args.text.now c.in-Err.place (omega arith) c.in-Err.ensures.fault).not_hex

pub returns-in-Err-clause-not_a_cell : goal.returns-in-Err-clause-not_a_cell
returns-in-Err-clause-not_a_cell c = (faulted c.args.text.now c.in-Err.place (omega arith) c.in-Err.ensures.fault).not_a_cell

pub returns-then-is_empty-clause-cell : goal.returns-then-is_empty-clause-cell
returns-then-is_empty-clause-cell c = sym (cell_spelled-none c.args.text.now (λ cell h. let some = h.some in search rules))

pub returns-then-text-gt16-clause-cell : goal.returns-then-text-gt16-clause-cell
returns-then-text-gt16-clause-cell c = sym (cell_spelled-none c.args.text.now (λ cell h. let few = h.at_most in omega arith))

pub returns-in-Ok-clause-cell : goal.returns-in-Ok-clause-cell
returns-in-Ok-clause-cell c =
    let spelled : IfOk c.ok_or.result (λ cell. Spells c.args.text.now (raw_of cell)) = search rules in
    result_ok-cell_spelled c.args.text.now c.ok_or.result spelled (of_cell c).accepted

pub returns-in-Err-clause-cell : goal.returns-in-Err-clause-cell
returns-in-Err-clause-cell c = sym (cell_spelled-none c.args.text.now (λ cell h. no_fault c.args.text.now (raw_of cell) c.in-Err.place h c.in-Err.ensures.fault))
