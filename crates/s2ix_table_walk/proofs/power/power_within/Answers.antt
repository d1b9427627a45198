use Rattle.std.proofs.Common.{◌≡◌, ◌-◌, ◌*◌, ◌^◌, ◌%◌, ℕ, ◌∙◌, ap, arith}
use Rattle.std.proofs.Math.Nat.{pow-suc}
use Rattle.std.proofs.lemmas.Nat.{leading_top, one_shl}
use Rattle.std.specs.Int.Count.{count_leading_zeros}
use Rattle.s2ix_table_walk.proofs.power.power_within.Goals as goal

pub returns : goal.returns
returns c =
    let top = leading_top 64 c.args.number c.requires (omega arith) in
    let k = top.0 in
    let places = top.1 in
    let is : 63 - count_leading_zeros 64 c.args.number ≡ k = omega arith in
    let twice = pow-suc 2 k in
    let below = top.3 in
    (k, ap (λ (j : ℕ). 1 * 2 ^ j % 2 ^ 64) is ∙ one_shl k 64 (omega arith), top.2, omega arith)
