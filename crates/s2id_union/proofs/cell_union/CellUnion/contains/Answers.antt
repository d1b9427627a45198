use Rattle.std.proofs.Common.{◌↔◌, IsTrue, ◌∙◌, subst}
use Rattle.s2id_core.specs.CellId.{path_of}
use Rattle.s2id_union.specs.Region.{HasAllOf}
use Rattle.s2id_union.proofs.cell_union.CellUnion.contains.Goals as goal

pub returns : goal.returns
returns c =
    subst (λ xs. IsTrue c.has_all.result ↔ HasAllOf xs (path_of c.args.cell)) (c.as_slice.ensures.value ∙ c.self.view_is) c.has_all.ensures
