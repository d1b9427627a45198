use Rattle.std.proofs.Common.{◌-◌, ◌/◌, arith, ap, sym, take, ◌∙◌}
use Rattle.std.specs.Int.{trailing_zeros, w64}
use Rattle.s2id_core.specs.Token.{canonical_token}
use Rattle.s2id_core.proofs.Printing.{canonical_by_zeros}
use Rattle.s2id_core.proofs.cell_id.CellId.token.Goals as goal

pub returns : goal.returns
returns c =
    let raw = c.raw-raw in
    ap (take (16 - trailing_zeros w64 raw.result / 4)) c.sixteen_digits.ensures ∙ sym (canonical_by_zeros raw.result (omega arith) (omega arith)) ∙ ap canonical_token raw.ensures
