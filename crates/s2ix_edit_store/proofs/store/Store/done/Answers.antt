use Rattle.std.proofs.Common.{rules, All, reverse}
use Rattle.s2ix_edit_store.specs.Recorded.{IsRecorded}
use Rattle.s2ix_edit_store.specs.Store.{CanGoBack}
use Rattle.s2ix_edit_store.proofs.Recorded.{done_recorded, of_listed}
use Rattle.s2ix_edit_store.proofs.store.Store.done.Goals as goal

pub returns-clause-done : goal.returns-clause-done
returns-clause-done g c = search rules

pub returns-clause-store : goal.returns-clause-store
returns-clause-store g c = search rules

pub returns-clause-led : goal.returns-clause-led
returns-clause-led g c =
    of_listed (λ s ess. CanGoBack s.bag (reverse ess)) (λ s. s.done) (λ s st. st.can_go_back)
    _ _ _ c.self.invariant.0 c.self.view_is c.as_slice.ensures.value

pub returns-clause-within : goal.returns-clause-within
returns-clause-within g c =
    of_listed (λ s ess. All (IsRecorded s.bag.limits) ess) (λ s. s.done) done_recorded
    _ _ _ c.self.invariant.0 c.self.view_is c.as_slice.ensures.value
