-- Ranges that meet a target have a leaf of it.
use Rattle.std.proofs.Common.{◌≡◌, ◌<◌, true, ltb, max, inl, inr, List, ap, ◌∙◌, arith, Contains, lt-ltb}
use Rattle.std.proofs.lemmas.Bool.{and_parts, and_from, ltb-true, cases_lt}
use Rattle.std.proofs.lemmas.List.{get_or_default}
use Rattle.std.proofs.lemmas.List.Folds.{Any-from_list_any, list_any-from_Any}
use Rattle.s2id_core.specs.declared.cell_id.CellId.{CellId}
use Rattle.s2id_core.specs.CellId.{raw_of, first_of, end_of}
use Rattle.s2id_core.proofs.Nested.{span}
use Rattle.s2ix_bag_pairs.specs.Collection.{Collection}
use Rattle.s2ix_table_walk.specs.Table.{Range, range_at, IsRangeTable}
use Rattle.s2ix_table_walk.specs.Costs.{is_met}
use Rattle.s2ix_table_walk.specs.WalkLaws.{SharesLeaf}

pub met_from : (target : List CellId) (x : CellId) (r : Range) → Contains target x → r.start < end_of x → first_of x < r.limit
    → is_met target r ≡ true
met_from target x r held a b =
    list_any-from_Any _ target (held.0, x, held.1, held.2, and_from _ _ (lt-ltb _ _ a) (lt-ltb _ _ b))

pub leaf_of_met : (target : List CellId) (held : Collection) (ranges : List Range) (range : Range) → IsRangeTable held ranges
    → Contains ranges range → is_met target range ≡ true → SharesLeaf target range
leaf_of_met target held ranges range t in_ranges e =
    let any = Any-from_list_any _ target e in
    let x : CellId = any.1 in
    let both = and_parts (ltb range.start (end_of x)) (ltb (first_of x) range.limit) any.4 in
    let a : range.start < end_of x = ltb-true range.start (end_of x) both.0 in
    let b : first_of x < range.limit = ltb-true (first_of x) range.limit both.1 in
    let s = span (raw_of x) x.valid in
    let s1 = s.odd in
    let s2 = s.from in
    let s3 = s.to in
    let k = in_ranges.0 in
    let same : range_at ranges k ≡ range = get_or_default ranges k _ range in_ranges.1 ∙ in_ranges.2 in
    let odd = t.odd k in_ranges.1 in
    let rises = t.rises k in_ranges.1 in
    let start = ap (λ (r : Range). r.start) same in
    let limit = ap (λ (r : Range). r.limit) same in
    record {
      leaf = max range.start (first_of x);
      odd = elim (cases_lt range.start (first_of x)) [ inl lt ↦ omega arith | inr ge ↦ omega arith ];
      from = omega arith;
      to = omega arith;
      covered = record { cell = x; held = (any.0, any.2, any.3); from = omega arith; to = omega arith };
    }

pub met_of_leaf : (target : List CellId) (range : Range) → SharesLeaf target range → is_met target range ≡ true
met_of_leaf target range s =
    let a = s.from in
    let b = s.to in
    let c = s.covered.from in
    let d = s.covered.to in
    met_from target s.covered.cell range s.covered.held (omega arith) (omega arith)
