-- The number that comes out is that of the place after the cell's own.
use Rattle.std.proofs.Common.{◌≡◌, ℕ, ◌-◌, ◌*◌, ◌^◌, ◌≤◌, length, ◌∙◌, arith}
use Rattle.std.proofs.Math.Nat.{le-mul_of_pos_right}
use Rattle.s2id_core.specs.Cell.{IsCellNumber}
use Rattle.s2id_core.specs.Path.{path_at}
use Rattle.s2id_core.proofs.Bits.{cell_at_place, level_at_place, place_at_place}
use Rattle.s2id_core.proofs.Next.{next_below, next_form, next_stays, next_wraps}
use Rattle.s2id_core.proofs.Numbers.{path_of_cell}
use Rattle.s2id_core.proofs.Powers.{four_pos, four_split}
use Rattle.s2id_core.proofs.cell_id.CellId.next_wrap.Goals as goal
use Rattle.s2id_core.proofs.cell_id.CellId.next_wrap.Goals.{then-next-lt-CURVE_END, else-next-lt-CURVE_END}

small : (n lowest : ℕ) → IsCellNumber n → lowest ≡ 4 ^ (30 - length (path_at n).digits) → lowest ≤ 2 ^ 60
small n lowest cell low =
    let k = length (path_at n).digits in
    let split = four_split 30 k (path_of_cell n cell).at_most in
    let grow : 4 ^ (30 - k) ≤ 4 ^ (30 - k) * 4 ^ k = le-mul_of_pos_right (4 ^ (30 - k)) (four_pos k) in
    omega arith

pub overflow_mul-next : goal.overflow_mul-next
overflow_mul-next c = let low = small c.args.self.raw c.lsb.result c.args.self.valid c.lsb.ensures in omega arith

pub overflow_add-next : goal.overflow_add-next
overflow_add-next c =
    let low = small c.args.self.raw c.lsb.result c.args.self.valid c.lsb.ensures in
    let below = c.args.self.valid.0 in
    omega arith

form : (c : goal.Joined-next-lt-CURVE_END) → c.if-next-lt-CURVE_END.result ≡ next_form c.args.self.raw
form c =
    elim c.if-next-lt-CURVE_END.branch [
      | then-next-lt-CURVE_END w ↦ w.result-is ∙ next_stays c.args.self.raw c.lsb.result c.args.self.valid c.lsb.ensures (omega (arith, w.if-next-lt-CURVE_END))
      | else-next-lt-CURVE_END w ↦ w.result-is ∙ next_wraps c.args.self.raw c.lsb.result c.args.self.valid c.lsb.ensures (omega (arith, w.if-next-lt-CURVE_END))
    ]

pub invariant_of-result : goal.invariant_of-result
invariant_of-result c = record {
  valid =
      cell_at_place (length (path_at c.args.self.raw).digits) _ _ (path_of_cell c.args.self.raw c.args.self.valid).at_most (next_below c.args.self.raw c.args.self.valid) (form c);
}

form_after : (c : goal.After-result-1) → c.if-next-lt-CURVE_END.result ≡ next_form c.args.self.raw
form_after c =
    elim c.if-next-lt-CURVE_END.branch [
      | then-next-lt-CURVE_END w ↦ w.result-is ∙ next_stays c.args.self.raw c.lsb.result c.args.self.valid c.lsb.ensures (omega (arith, w.if-next-lt-CURVE_END))
      | else-next-lt-CURVE_END w ↦ w.result-is ∙ next_wraps c.args.self.raw c.lsb.result c.args.self.valid c.lsb.ensures (omega (arith, w.if-next-lt-CURVE_END))
    ]

pub returns-clause-level : goal.returns-clause-level
returns-clause-level c =
    level_at_place (length (path_at c.args.self.raw).digits) _ _ (path_of_cell c.args.self.raw c.args.self.valid).at_most (form_after c)

pub returns-clause-place : goal.returns-clause-place
returns-clause-place c =
    place_at_place (length (path_at c.args.self.raw).digits) _ _ (path_of_cell c.args.self.raw c.args.self.valid).at_most (form_after c)
