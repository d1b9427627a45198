-- A union has the leaves of the cells that it is made of, and its cells follow one another.
use Rattle.std.proofs.Common.{◌∙◌, List, inl, refl, subst, sym}
use Rattle.s2id_core.specs.declared.cell_id.CellId.{CellId}
use Rattle.s2id_union.specs.Region.{HaveSameRegion, IsNormal}
use Rattle.s2id_union.proofs.NormalForm.{form_same_region}
use Rattle.s2id_union.proofs.Searching.{follow_from_normal}
use Rattle.s2ix_c_calls.proofs.question.ask.Goals as goal

pub answer-requires : goal.answer-requires
answer-requires g c = follow_from_normal c.cells.result.now (subst IsNormal (sym c.cells.ensures.list) c.cells.ensures.normal)

pub returns-in-Ok : goal.returns-in-Ok
returns-in-Ok g c =
    let union = c.in-Ok.ensures.union in
    inl (
      c.cells.result.now,
      (
        union.0,
        union.1,
        subst (λ (cells : List CellId). HaveSameRegion cells union.0) (sym (c.cells.ensures.list ∙ union.2)) (form_same_region union.0),
      ),
      subst
          (λ (out : List g.row.Q-Item.Denot). g.Q.Question.answers c.args.question.now c.cells.result.now c.args.store.now.bag.held c.answer.result c.answer.new.number out c.answer.new.out)
          (c.in_default.ensures.same refl) c.answer.ensures,
    )
