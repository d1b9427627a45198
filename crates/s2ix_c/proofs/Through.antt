-- A call on a handle, by what it took out of it and what it put back.
use Rattle.std.proofs.Common.{◌≡◌, refl, sym, subst}
use Rattle.std.specs.Prelude.{Option, Some, None}
use Rattle.s2ix_edit_plan.specs.State.{State}
use Rattle.s2ix_c.specs.Calls.{Through}

module _ (P : State → State → Type 0) (C : Type 0) where
  pub through_open : (old new : Option State) (s t : State) → old ≡ Some s → new ≡ Some t → P s t → Through P C old new
  through_open old new s t was is holds = subst (λ (o : Option State). Through P C o new) (sym was) (t, is, holds)

  pub through_closed : (old new : Option State) → old ≡ None → new ≡ None → C → Through P C old new
  through_closed old new was is holds = subst (λ (o : Option State). Through P C o new) (sym was) (is, holds)

-- a query puts the store back as it was
pub through_query : (P : State → Type 0) (C : Type 0) (old new : Option State) (s : State) → old ≡ Some s → new ≡ Some s → P s
    → Through (λ s t. (t ≡ s) × P s) C old new
through_query P C old new s was is holds = through_open (λ s t. (t ≡ s) × P s) C old new s s was is (refl, holds)
