use Rattle.std.proofs.Common.{◌-◌, ◌/◌, ◌≤◌, subst, arith}
use Rattle.std.specs.Prelude.{bit_xor}
use Rattle.std.specs.Int.{w64, leading_zeros}
use Rattle.std.proofs.lemmas.Nat.{xor_lt}
use Rattle.s2id_core.specs.Path.{place_of, path_at, ancestor}
use Rattle.s2id_core.proofs.Numbers.{path_of_cell}
use Rattle.s2id_core.proofs.Ancestry.{DifferBelow, differ_below, enough_levels, common_by_places}
use Rattle.s2id_core.proofs.cell_id.CellId.common_level.Goals as goal

differ : (c : goal.After-place_at-2)
    → DifferBelow (place_of (ancestor c.min-level.result (path_at c.args.self.raw))) (place_of (ancestor c.min-level.result (path_at c.args.other.raw))) ((65 - leading_zeros w64 (bit_xor c.place_at.result c.place_at-2.result)) / 2)
differ c =
    let a = c.place_at.result in
    let b = c.place_at-2.result in
    let k = c.min-level.result in
    let h = (65 - leading_zeros w64 (bit_xor a b)) / 2 in
    let both = differ_below a b (xor_lt 64 a b (omega arith) (omega arith)) in
    let first = subst (λ x. DifferBelow x b h) c.place_at.ensures.place both in
    subst (λ x. DifferBelow (place_of (ancestor k (path_at c.args.self.raw))) x h) c.place_at-2.ensures.place first

enough : (c : goal.After-place_at-2) → (65 - leading_zeros w64 (bit_xor c.place_at.result c.place_at-2.result)) / 2 ≤ c.min-level.result
enough c =
    let p = c.args.self in
    let q = c.args.other in
    enough_levels (path_at p.raw) (path_at q.raw) c.min-level.result ((65 - leading_zeros w64 (bit_xor c.place_at.result c.place_at-2.result)) / 2) (path_of_cell p.raw p.valid) (path_of_cell q.raw q.valid) (omega arith) (omega arith) (omega arith) (differ c)

pub overflow_sub-result-2 : goal.overflow_sub-result-2
overflow_sub-result-2 c = enough c

pub returns-clause-value : goal.returns-clause-value
returns-clause-value c =
    let p = c.args.self in
    let q = c.args.other in
    common_by_places (path_at p.raw) (path_at q.raw) c.min-level.result ((65 - leading_zeros w64 (bit_xor c.place_at.result c.place_at-2.result)) / 2) (path_of_cell p.raw p.valid) (path_of_cell q.raw q.valid) (omega arith) (omega arith) (λ j in_p in_q. omega arith) (enough c) (differ c)
