-- What tables over neighbouring spans hold.
use Rattle.std.proofs.Common.{ℕ, zero, suc, ◌<◌, inl, inr, List, [], ◌∷◌, length, get_or, arith}
use Rattle.std.proofs.lemmas.List.Elements.{Contains-append_cases}
use Rattle.s2id_core.proofs.Lists.{none_in_nil}
use Rattle.s2ix_bag_pairs.specs.Collection.{IsCollection}
use Rattle.s2ix_table_spans.specs.SpanTable.{SpanRanges, IsSpanTable}
use Rattle.s2ix_table_parts.specs.Neighbours.{held_in, AreNeighbours}
use Rattle.s2ix_table_parts.specs.Parts.{BeginsFrom}
use Rattle.s2ix_table_parts.proofs.Appended.{both_rise}

pub all_begin : (from : ℕ) (tables : List SpanRanges) (to : ℕ) → AreNeighbours from tables to → BeginsFrom (held_in tables) from
all_begin from [] to are h held = absurd (none_in_nil h held)
all_begin from (t ∷ ts) to are h held =
    let e = are.0 in
    let within = are.1.within in
    elim (Contains-append_cases t.held (held_in ts) h held) [
      | inl own ↦ (let le = within.begins h own in omega arith)
      | inr other ↦
          (let le = all_begin t.to ts to are.2 h other in
          let some = within.some in
          omega arith)
    ]

pub all_rise : (from : ℕ) (tables : List SpanRanges) (to : ℕ) → AreNeighbours from tables to → IsCollection (held_in tables)
all_rise from [] to are = tt
all_rise from (t ∷ ts) to are =
    both_rise t.to t.held (held_in ts) are.1.within.ends (all_begin t.to ts to are.2) are.1.rises (all_rise t.to ts to are.2)

-- each of them has its ranges
pub span_known : (from : ℕ) (tables : List SpanRanges) (to i : ℕ) (d : SpanRanges) → AreNeighbours from tables to → i < length tables
    → IsSpanTable (get_or tables i d)
span_known from [] to i d are lt = absurd (omega arith)
span_known from (t ∷ ts) to zero d are lt = are.1
span_known from (t ∷ ts) to (suc i) d are lt = span_known t.to ts to i d are.2 (omega arith)
