-- The store's collection is its bag's.
use Rattle.std.proofs.Common.{subst}
use Rattle.std.proofs.lemmas.Result.{IfOk-weaker}
use Rattle.s2id_union.specs.Region.{HaveSameRegion}
use Rattle.s2ix_edit_plan.specs.Region.{cells_of}
use Rattle.s2ix_edit_plan.specs.State.{State}
use Rattle.s2ix_edit_store.proofs.store.Store.region.Goals as goal

pub returns-clause-region : goal.returns-clause-region
returns-clause-region g c =
    IfOk-weaker c.region_of.result _ _
    (λ union same.
    let Same : State → Type 0 = λ s. HaveSameRegion union (cells_of c.args.label s.bag.held) in
    subst Same c.self.view_is same)
    c.region_of.ensures.region
