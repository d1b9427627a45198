use Rattle.std.proofs.Common.{◌≡◌, ◌+◌, ◌-◌, Contains, take, arith, subst}
use Rattle.s2ix_bag_lists.specs.Faces.{all_of}
use Rattle.s2ix_table_heavy.proofs.heavy_table.HeavyTable.follows_front.Goals as goal

pub returns-else-number-eq0 : goal.returns-else-number-eq0
returns-else-number-eq0 c = λ t h i.
    let k = c.args.number in
    let ne = c.if-number-eq0.false in
    let same : k ≡ k - 1 + 1 = omega arith in
    let le = c.last_held.ensures h (subst (λ n. Contains (all_of (take n c.args.self.now)) h) same i) in
    let lt = c.is_before.ensures.0 t in
    omega arith
