use Rattle.std.proofs.Common.{◌≡◌, ℕ, suc, ◌+◌, ◌<◌, List, ◌++◌, [], ◌∷◌, get_or, length, take, sym, ◌∙◌, ap, ap₂, arith}
use Rattle.std.proofs.Math.Seq.{take-suc}
use Rattle.std.proofs.lemmas.List.{get_or-map, length-map}
use Rattle.s2ix_table_spans.specs.SpanTable.{SpanRanges}
use Rattle.s2ix_table_parts.specs.FaceSpans.{no_table, spans_of, starts_of}
use Rattle.s2ix_table_parts.proofs.Shared.{many_shared, seen_at}
use Rattle.s2ix_table_faced.proofs.part_begins.begin_at.Goals as goal

-- one start more is alike
alike_next : (xs ys : List ℕ) (n : ℕ) → take n xs ≡ take n ys → n < length xs → n < length ys → get_or xs n 0 ≡ get_or ys n 0
    → take (n + 1) xs ≡ take (n + 1) ys
alike_next xs ys n was lt less same =
    let next : n + 1 ≡ suc n = omega arith in
    ap (λ k. take k xs) next ∙ take-suc xs n 0 lt ∙ ap₂ (λ (zs : List ℕ) (z : ℕ). zs ++ z ∷ []) was same ∙ sym (take-suc ys n 0 less)
    ∙ ap (λ k. take k ys) (sym next)

pub loop-part-preserved : goal.loop-part-preserved
loop-part-preserved c =
    let parts = c.args.parts.now in
    let n = c.loop-part.part in
    let within : n < length parts = omega (arith, c.loop-part-test.true) in
    let many = many_shared parts in
    let all = length-map (spans_of parts) (λ (t : SpanRanges). t.from) in
    let one = seen_at parts n c.index-parts-part.result c.table.result.now within (c.table.ensures ∙ ap (λ x. x.table) c.index-parts-part.is) in
    let begins = get_or-map (λ (t : SpanRanges). t.from) (spans_of parts) n no_table 0 (omega arith) in
    let from = c.from.ensures.from in
    let seen = ap (λ (t : SpanRanges). t.from) one in
    let test = c.if-from-starts.false in (
      omega arith,
      alike_next (starts_of (spans_of parts)) c.args.starts.now n c.loop-part.invariant.1 (omega arith)
          (omega (arith, c.if-parts-starts.false)) (omega arith),
    )
