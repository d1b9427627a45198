-- Parts under heavy pairs are a table of all pairs.
use Rattle.std.proofs.Common.{◌≡◌, ℕ, zero, suc, ◌%◌, ◌<◌, ◌≤◌, List, [], ◌∷◌, ◌++◌, length, get_or, refl, sym, ◌∙◌, ap, arith, Contains, subst}
use Rattle.std.proofs.lemmas.List.{append_assoc}
use Rattle.std.proofs.lemmas.List.Elements.{Contains-append_left, Contains-append_right}
use Rattle.s2id_core.proofs.Lists.{none_in_nil}
use Rattle.s2ix_bag_pairs.specs.Collection.{Collection, IsCollection}
use Rattle.s2ix_bag_pairs.specs.declared.pair.Held.{Held}
use Rattle.s2ix_table_walk.specs.Contents.{contents_at}
use Rattle.s2ix_table_walk.specs.Table.{IsTableOver}
use Rattle.s2ix_table_walk.proofs.Over.{IsOver, in_contents, contents_has}
use Rattle.s2ix_table_walk.proofs.Tables.{table_from_places, places_from_table}
use Rattle.s2ix_table_spans.specs.SpanTable.{SpanRanges, IsSpanTable}
use Rattle.s2ix_table_parts.specs.Neighbours.{held_in, AreNeighbours}
use Rattle.s2ix_table_faced.specs.Joined.{joined_ranges}
use Rattle.s2ix_table_parts.specs.Layers.{joined_layers, ShareNoCell, AreUnder}
use Rattle.s2ix_table_parts.specs.Parts.{EndsBy}
use Rattle.s2ix_table_faced.specs.Layout.{with_over, AreAllUnder, cover, covered}
use Rattle.s2ix_table_parts.proofs.Appended.{contents_front, contents_back}
use Rattle.s2ix_table_parts.proofs.Layers.{cells_part_pairs}
use Rattle.s2ix_table_faced.proofs.LayersOver.{AreDeeper, deeper_in_span, joined_layers_contents, table_with}
use Rattle.s2ix_table_faced.proofs.Joining.{AreOverSpans, IsOverSpan, end_later, same_over, table_over_spans}
use Rattle.s2ix_table_parts.proofs.Neighbours.{all_begin, all_rise}

-- ---- one part

-- what both layers hold over a leaf of a part
both_contents : (light heavy : Collection) (t : SpanRanges) (q : ℕ) → IsCollection light → IsCollection heavy → IsSpanTable t
    → ((h : Held) → Contains t.held h → Contains light h) → contents_at q light ≡ contents_at q t.held
    → AreUnder heavy t.from t.to (contents_at t.from heavy) → ShareNoCell light heavy → q % 2 ≡ 1 → t.from ≤ q → q < t.to
    → contents_at q (joined_layers light heavy) ≡ contents_at q light ++ contents_at t.from heavy
both_contents light heavy t q c d is own same under apart odd ge lt =
    let in_own : (l : Held) → Contains light l → IsOver l q → Contains t.held l = λ l held over.
    (in_contents q t.held l (subst (λ cs. Contains cs l) same (contents_has q light l held over))).0 in
    let below = deeper_in_span q t.from t.to t.held heavy (contents_at t.from heavy) is.within under (λ l h held there. apart l h (own l held) there) odd ge lt in
    let deeper : AreDeeper q light heavy = record { each = λ l h held there over_l over_h. below.each l h (in_own l held over_l) there over_l over_h } in
    joined_layers_contents q light heavy c d (cells_part_pairs light heavy apart) deeper odd
    ∙ ap (λ cs. contents_at q light ++ cs) (under.same q odd ge lt)

over_part : (light heavy : Collection) (t : SpanRanges) → IsCollection light → IsCollection heavy → IsSpanTable t
    → ((h : Held) → Contains t.held h → Contains light h)
    → ((q : ℕ) → q % 2 ≡ 1 → t.from ≤ q → q < t.to → contents_at q light ≡ contents_at q t.held)
    → AreUnder heavy t.from t.to (contents_at t.from heavy) → ShareNoCell light heavy → IsOverSpan (joined_layers light heavy) (cover heavy t)
over_part light heavy t c d is own same under apart =
    let some = is.within.some in
    let ranges = same_over t.held light t.from t.ranges t.to same (table_from_places t.held t.from t.to t.ranges is.table) in
    record {
      some = some;
      table = places_from_table (joined_layers light heavy) t.from t.to (with_over (contents_at t.from heavy) t.ranges) some
          (table_with light (joined_layers light heavy) (contents_at t.from heavy) t.from t.to t.from t.ranges
          (λ q odd ge lt. both_contents light heavy t q c d is own (same q odd ge lt) under apart odd ge lt) (omega arith) ranges);
    }

-- ---- all parts

over_after : (hs heavy : Collection) (from : ℕ) (tables : List SpanRanges) (to : ℕ) → EndsBy hs from → AreNeighbours from tables to
    → IsCollection (hs ++ held_in tables) → IsCollection heavy → AreAllUnder heavy tables → ShareNoCell (hs ++ held_in tables) heavy
    → AreOverSpans (joined_layers (hs ++ held_in tables) heavy) from (covered heavy tables) to
over_after hs heavy from [] to end are c d under apart = are
over_after hs heavy from (t ∷ ts) to end are c d under apart =
    let e = are.0 in
    let some = are.1.within.some in
    let here : EndsBy hs t.from = λ h held. let by = end h held in omega arith in
    let all : Collection = hs ++ (t.held ++ held_in ts) in
    let same = append_assoc hs t.held (held_in ts) in
    let begin = all_begin t.to ts to are.2 in
    let rest = over_after (hs ++ t.held) heavy t.to ts to (end_later hs t.held from t.to (omega arith) end are.1.within.ends) are.2
    (subst IsCollection (sym same) c) d under.1 (subst (λ ks. ShareNoCell ks heavy) (sym same) apart) in (
      are.0,
      over_part all heavy t c d are.1
          (λ h held. Contains-append_right hs (t.held ++ held_in ts) h (Contains-append_left t.held (held_in ts) h held))
          (λ q odd ge lt. contents_back q t.from hs (t.held ++ held_in ts) ge here ∙ contents_front q t.to t.held (held_in ts) lt begin) under.0 apart,
      subst (λ ks. AreOverSpans (joined_layers ks heavy) t.to (covered heavy ts) to) same rest,
    )

pub covered_over : (heavy : Collection) (from : ℕ) (tables : List SpanRanges) (to : ℕ) → AreNeighbours from tables to → IsCollection heavy
    → AreAllUnder heavy tables → ShareNoCell (held_in tables) heavy
    → AreOverSpans (joined_layers (held_in tables) heavy) from (covered heavy tables) to
covered_over heavy from tables to are d under apart =
    over_after [] heavy from tables to (λ h held. absurd (none_in_nil h held)) are (all_rise from tables to are) d under apart

-- their joined ranges are a table of all pairs
pub covered_table : (heavy : Collection) (from : ℕ) (tables : List SpanRanges) (to : ℕ) → from < to → AreNeighbours from tables to → IsCollection heavy
    → AreAllUnder heavy tables → ShareNoCell (held_in tables) heavy
    → IsTableOver (joined_layers (held_in tables) heavy) from to (joined_ranges (covered heavy tables))
covered_table heavy from tables to lt are d under apart =
    table_over_spans (joined_layers (held_in tables) heavy) from (covered heavy tables) to lt (covered_over heavy from tables to are d under apart)

pub covered_at : (heavy : Collection) (parts : List SpanRanges) (i : ℕ) (d e : SpanRanges) → i < length parts
    → get_or (covered heavy parts) i d ≡ cover heavy (get_or parts i e)
covered_at heavy [] i d e lt = absurd (omega arith)
covered_at heavy (t ∷ ts) zero d e lt = refl
covered_at heavy (t ∷ ts) (suc i) d e lt = covered_at heavy ts i d e (omega arith)
