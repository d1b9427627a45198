use Rattle.std.proofs.Common.{◌≡◌, ◌+◌, ◌/◌, ◌^◌, ◌<◌, ◌≤◌, ℕ, zero, suc, length, slice_index_or, refl, ◌∙◌, ap, rules, arith}
use Rattle.std.proofs.Math.Nat.{pow-suc, one-le-pow}
use Rattle.std.proofs.lemmas.List.{get_or_default}
use Rattle.s2id_core.specs.declared.cell_id.CellId.{CellId}
use Rattle.s2id_core.specs.CellId.{raw_of, end_of}
use Rattle.s2id_core.proofs.Nested.{span}
use Rattle.s2ix_table_walk.proofs.along_ranges.last_begun.Goals as goal

-- half of a power of two above 1
half : (j n : ℕ) → n ≡ 2 ^ j → 1 < n → (k : ℕ) × (n / 2 ≡ 2 ^ k) × (n / 2 + n / 2 ≡ n)
half zero n is some = absurd (omega arith)
half (suc k) n is some = let twice = pow-suc 2 k in (k, omega arith, omega arith)

pub loop-last-preserved : goal.loop-last-preserved
loop-last-preserved c =
    let i = c.loop-last.invariant in
    let e = c.loop-last-test.ensures in
    let within = e.within refl in
    let short : length c.args.cells.now < 2 ^ 63 = search rules in
    let twice = pow-suc 2 i.0.0 in
    let is = i.0.1 in
    let double = c.saturating_mul-step.ensures in
    ((suc i.0.0, omega arith), omega (arith, i.1), within, λ d. e.begins d refl)

pub loop-step-preserved-then-is_before : goal.loop-step-preserved-then-is_before
loop-step-preserved-then-is_before c =
    let i = c.loop-step.invariant in
    let e = c.if-is_before.ensures in
    let h = half i.0.0 c.loop-step.step i.0.1 c.loop-step-test.true in
    let same : c.loop-step.last + c.loop-step.step / 2 + c.loop-step.step / 2 ≡ c.loop-step.last + c.loop-step.step =
    omega (arith, h.2) in (
      (h.0, h.1),
      omega (arith, i.1),
      e.within refl,
      λ d. e.begins d refl,
      λ d within. let b = i.4 d (omega arith) in let f = ap (λ (k : ℕ). raw_of (slice_index_or c.args.cells.now k d)) same in omega arith,
    )

pub loop-step-preserved : goal.loop-step-preserved
loop-step-preserved c =
    let i = c.loop-step.invariant in
    let h = half i.0.0 c.loop-step.step i.0.1 c.loop-step-test.true in
    ((h.0, h.1), i.1, i.2, i.3, λ d within. c.if-is_before.ensures.after d refl within)

pub returns-then-span_start-limit-clause-last : goal.returns-then-span_start-limit-clause-last
returns-then-span_start-limit-clause-last c d within =
    let i = c.loop-step.invariant in
    let one : c.loop-step.step ≡ 1 = power_is i.0.0 c.loop-step.step i.0.1 (omega (arith, c.loop-step-test.false)) in
    let x = c.index-cells-last.result in
    let is = c.index-cells-last.is ∙ get_or_default c.args.cells.now (c.loop-step.last + 1) x d (omega arith) in
    let s = span (raw_of x) x.valid in
    let s1 = s.from in
    let s2 = s.to in
    let e : c.loop-step.last + c.loop-step.step ≡ c.loop-step.last + 1 = omega arith in
    let after = i.4 d (omega arith) in
    let at = ap (λ (k : ℕ). raw_of (slice_index_or c.args.cells.now k d)) e in
    let raw = ap (λ (y : CellId). raw_of y) is in
    let end = ap (λ (y : CellId). end_of y) is in
    let next = c.requires.follow (c.loop-step.last + 1) (c.loop-step.last + 1 + 1) d (omega arith) within in
    omega arith
  where
    power_is : (j n : ℕ) → n ≡ 2 ^ j → n ≤ 1 → n ≡ 1
    power_is zero n is le = is
    power_is (suc k) n is le = let twice = pow-suc 2 k in absurd (omega (arith, is, one-le-pow k 2 (omega arith)))
