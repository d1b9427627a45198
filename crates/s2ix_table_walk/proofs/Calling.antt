-- Calls and costs at equal arguments.
use Rattle.std.proofs.Common.{◌≡◌, ◌-◌, ◌≤◌, ℕ, Bool, List, length, refl, ap, ◌∙◌, subst}
use Rattle.s2id_core.specs.declared.cell_id.CellId.{CellId}
use Rattle.s2ix_bag_pairs.specs.Collection.{Collection}
use Rattle.s2ix_bag_pairs.specs.declared.pair.Held.{Held}
use Rattle.s2ix_table_walk.specs.Calls.{CallsOn}
use Rattle.s2ix_table_walk.specs.Meeting.{meeting_of}
use Rattle.s2ix_table_walk.specs.Costs.{ranges_met, IsWalkCost}
use Rattle.s2ix_table_walk.specs.Shown.{Shown}
use Rattle.s2ix_table_walk.specs.Walking.{left_of, HasPaid, IsWalk}
use Rattle.s2ix_table_walk.specs.declared.cost.Cost.{Cost}
use Rattle.s2ix_table_walk.specs.declared.walk_state.WalkState.{WalkState}
use Rattle.s2ix_table_walk.proofs.Paying.{paid_costs}

pub calls_same : {F : Type 0} (step : F → Held → Bool → F → Type 0) (f last : F) (xs ys : Collection) (j k : ℕ) (whole : Bool) → xs ≡ ys
    → j ≡ k → CallsOn step f xs j whole last → CallsOn step f ys k whole last
calls_same {F} step f last xs ys j k whole e n calls =
    subst (λ (zs : Collection). CallsOn step f zs k whole last) e (subst (λ (m : ℕ). CallsOn step f xs m whole last) n calls)

cost_same : {P : Type 0} (xs ys : List CellId) (shown other : Shown P) (j k : ℕ) (a b : Cost) → xs ≡ ys → shown ≡ other → j ≡ k → a ≡ b
    → IsWalkCost xs shown.pairs shown.ranges j a → IsWalkCost ys other.pairs other.ranges k b
cost_same {P} xs ys shown other j k a b cells same n cost is =
    subst (λ (zs : List CellId). IsWalkCost zs other.pairs other.ranges k b) cells
    (subst (λ (s : Shown P). IsWalkCost xs s.pairs s.ranges k b) same
    (subst (λ (m : ℕ). IsWalkCost xs shown.pairs shown.ranges m b) n
    (subst (λ (c : Cost). IsWalkCost xs shown.pairs shown.ranges j c) cost is)))

pub meeting_same : {P : Type 0} (xs ys : List CellId) (shown other : Shown P) → xs ≡ ys → shown ≡ other
    → meeting_of xs shown.pairs ≡ meeting_of ys other.pairs
meeting_same {P} xs ys shown other cells same =
    subst (λ (zs : List CellId). meeting_of xs shown.pairs ≡ meeting_of zs other.pairs) cells
    (subst (λ (s : Shown P). meeting_of xs shown.pairs ≡ meeting_of xs s.pairs) same refl)

-- calls have cost what a walk has paid for them
pub paid_same : {P : Type 0} (xs ys : List CellId) (shown other : Shown P) (walk : WalkState P) (calls : ℕ) (a b : Cost) → xs ≡ ys
    → shown ≡ other → a ≡ b → IsWalk shown xs walk → HasPaid shown xs walk a
    → length (meeting_of ys other.pairs) - length (left_of shown xs walk) ≡ calls → IsWalkCost ys other.pairs other.ranges calls b
paid_same {P} xs ys shown other walk calls a b cells same cost is paid n =
    let all = ap length (meeting_same xs ys shown other cells same) in
    let left : ℕ = length (left_of shown xs walk) in
    cost_same xs ys shown other (length (meeting_of xs shown.pairs) - left) calls a b cells same (ap (λ m. m - left) all ∙ n) cost
    (paid_costs shown xs walk a is paid)

pub read_same : {P : Type 0} (xs ys : List CellId) (shown other : Shown P) (j k : ℕ) → xs ≡ ys → shown ≡ other → j ≡ k
    → ranges_met xs shown.ranges ≤ j → ranges_met ys other.ranges ≤ k
read_same {P} xs ys shown other j k cells same n read =
    subst (λ (zs : List CellId). ranges_met zs other.ranges ≤ k) cells
    (subst (λ (s : Shown P). ranges_met xs s.ranges ≤ k) same (subst (λ (m : ℕ). ranges_met xs shown.ranges ≤ m) n read))
