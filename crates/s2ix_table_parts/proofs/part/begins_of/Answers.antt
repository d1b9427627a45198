use Rattle.std.proofs.Common.{◌≡◌, ℕ, suc, ◌+◌, ◌<◌, List, [], ◌∷◌, ◌++◌, length, take, sym, ap, ap₂, ◌∙◌, arith}
use Rattle.std.proofs.Math.Seq.{take-suc}
use Rattle.std.proofs.lemmas.List.{get_or-map, length-map}
use Rattle.s2ix_table_spans.specs.SpanTable.{SpanRanges}
use Rattle.s2ix_table_parts.specs.FaceSpans.{no_table, spans_of, starts_of}
use Rattle.s2ix_table_parts.proofs.Shared.{many_shared, seen_at}
use Rattle.s2ix_table_parts.proofs.part.begins_of.Goals as goal

pub loop-part-preserved : goal.loop-part-preserved
loop-part-preserved c =
    let parts = c.args.parts.now in
    let spans = spans_of parts in
    let i = c.loop-part.part-index in
    let test = c.loop-part-test.true in
    let within : i < length parts = omega (arith, test) in
    let many = many_shared parts in
    let many_starts = length-map spans (λ (t : SpanRanges). t.from) in
    let next : suc i ≡ i + 1 = omega arith in
    let span = seen_at parts i c.part-item.result c.table.result.now within (c.table.ensures ∙ ap (λ x. x.table) c.part-item.is) in
    let begins = c.from.ensures.from ∙ ap (λ (t : SpanRanges). t.from) span
    ∙ sym (get_or-map (λ (t : SpanRanges). t.from) spans i no_table 0 (omega arith)) in
    c.in_ok-push.ensures.items
    ∙ ap₂ (λ (ns : List ℕ) (k : ℕ). ns ++ k ∷ []) c.loop-part.invariant begins
    ∙ sym (take-suc (starts_of spans) i 0 (omega arith))
    ∙ ap (λ k. take k (starts_of spans)) next
