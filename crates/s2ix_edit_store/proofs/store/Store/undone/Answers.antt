use Rattle.std.proofs.Common.{rules, All, reverse}
use Rattle.s2ix_edit_store.specs.Recorded.{IsRecorded}
use Rattle.s2ix_edit_store.specs.Store.{CanGoOn}
use Rattle.s2ix_edit_store.proofs.Recorded.{undone_recorded, of_listed}
use Rattle.s2ix_edit_store.proofs.store.Store.undone.Goals as goal

pub returns-clause-undone : goal.returns-clause-undone
returns-clause-undone g c = search rules

pub returns-clause-led : goal.returns-clause-led
returns-clause-led g c =
    of_listed (λ s ess. CanGoOn s.bag (reverse ess)) (λ s. s.undone) (λ s st. st.can_go_on)
    _ _ _ c.self.invariant.0 c.self.view_is c.as_slice.ensures.value

pub returns-clause-within : goal.returns-clause-within
returns-clause-within g c =
    of_listed (λ s ess. All (IsRecorded s.bag.limits) ess) (λ s. s.undone) undone_recorded
    _ _ _ c.self.invariant.0 c.self.view_is c.as_slice.ensures.value
