use Rattle.std.proofs.Common.{bit_and, ap, ◌∙◌}
use Rattle.s2id_core.specs.Path.{path_at}
use Rattle.s2id_core.proofs.Numbers.{path_of_cell}
use Rattle.s2id_core.proofs.Ancestry.{digit_by_place}
use Rattle.s2id_core.proofs.cell_id.CellId.digit.Goals as goal

pub returns-clause-value : goal.returns-clause-value
returns-clause-value c =
    let n = c.args.self in
    ap (λ x. bit_and x 3) c.place_at.ensures.place ∙ digit_by_place c.args.level (path_at n.raw) c.requires.below_face c.requires.fine (path_of_cell n.raw n.valid)
