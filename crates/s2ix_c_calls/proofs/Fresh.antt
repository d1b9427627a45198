-- What is new over a range: the pairs that begin at the limit of an earlier one or later.
use Rattle.std.proofs.Common.{◌≡◌, ◌↔◌, ℕ, zero, suc, ◌+◌, ◌-◌, ◌%◌, ◌<◌, ◌≤◌, inl, inr, List, length, sym, subst, arith, true, Contains, le-leb}
use Rattle.std.specs.Prelude.{nat_le, filter}
use Rattle.std.proofs.lemmas.Bool.{cases_lt, leb-true}
use Rattle.std.proofs.lemmas.List.Elements.{All-contains, All-filter, Contains-get_or, filter_passes}
use Rattle.s2id_core.specs.CellId.{first_of, end_of}
use Rattle.s2id_union.proofs.Largest.{kept}
use Rattle.s2ix_bag_pairs.specs.Collection.{Collection}
use Rattle.s2ix_bag_pairs.specs.declared.pair.Held.{Held}
use Rattle.s2ix_table_walk.specs.Contents.{contents_at}
use Rattle.s2ix_table_walk.specs.RangeList.{range_table}
use Rattle.s2ix_table_walk.specs.Table.{IsFound, IsRangeTable, Range, leaf_end, range_at}
use Rattle.s2ix_table_walk.proofs.Over.{IsOver, contents_has, in_contents, span_of}
use Rattle.s2ix_table_walk.proofs.RangeList.{range_table_is}
use Rattle.s2ix_table_walk.proofs.Tables.{limits_rise}
use Rattle.s2ix_c_calls.specs.Laws.{BeginsOver, EachPairBeginsOnce, LiesOver, NewFromALimit}
use Rattle.s2ix_c_calls.specs.Ranges.{begun_from}

in_begun : (from : ℕ) (hs : Collection) (h : Held) → Contains (begun_from from hs) h → Contains hs h × (from ≤ first_of h.pair.cell)
in_begun from hs h held =
    let test : Held → _ = λ (a : Held). nat_le from (first_of a.pair.cell) in (
      All-contains (λ a. Contains hs a) (filter test hs) h (All-filter test (λ a. Contains hs a) hs (λ i d less. Contains-get_or hs i d less)) held,
      leb-true from (first_of h.pair.cell) (All-contains (λ a. test a ≡ true) (filter test hs) h (filter_passes test hs) held),
    )

has_begun : (from : ℕ) (hs : Collection) (h : Held) → Contains hs h → from ≤ first_of h.pair.cell → Contains (begun_from from hs) h
has_begun from hs h held late = kept (λ a. nat_le from (first_of a.pair.cell)) hs h held (le-leb from (first_of h.pair.cell) late)

module _ (held : Collection) (ranges : List Range) (table : IsRangeTable held ranges) where
  -- a pair lies over a range exactly if its cell has a leaf of the range
  lies_over : (place q : ℕ) (h : Held) → IsFound ranges place q → q % 2 ≡ 1 → Contains held h → IsOver h q → LiesOver ranges place h
  lies_over place q h found odd there over =
      subst (λ (cs : Collection). Contains cs h) (table.shared place q found.within odd found.start found.limit) (contents_has q held h there over)

  is_over : (place q : ℕ) (h : Held) → IsFound ranges place q → q % 2 ≡ 1 → LiesOver ranges place h → Contains held h × IsOver h q
  is_over place q h found odd lies =
      in_contents q held h (subst (λ (cs : Collection). Contains cs h) (sym (table.shared place q found.within odd found.start found.limit)) lies)

  -- the first leaf of a range, and its last
  first_leaf : (place : ℕ) → place < length ranges → IsFound ranges place (range_at ranges place).start
  first_leaf place within = let rises = table.rises place within in record { within = within; start = omega arith; limit = rises }

  record IsLastLeaf (place q : ℕ) : Type 0 where
    pub found : IsFound ranges place q
    pub odd : q % 2 ≡ 1
    pub last : q + 2 ≡ (range_at ranges place).limit

  last_leaf : (place next : ℕ) → place + 1 ≡ next → next < length ranges → IsLastLeaf place ((range_at ranges place).limit - 2)
  last_leaf place next one within =
      let rises = table.rises place (omega arith) in
      let odd = table.odd place (omega arith) in
      let odd_next = table.odd next within in
      let same = table.next place next one within in
      record {
        found = record { within = omega arith; start = omega arith; limit = omega arith };
        odd = omega arith;
        last = omega arith;
      }

  earlier_ends : (earlier place : ℕ) → earlier < place → place < length ranges → (range_at ranges earlier).limit ≤ (range_at ranges place).start
  earlier_ends earlier zero less within = absurd (omega arith)
  earlier_ends earlier (suc before) less within =
      let rise = limits_rise held 1 leaf_end ranges table earlier before (omega arith) (omega arith) in
      let same = table.next before (suc before) (omega arith) within in
      omega arith

  new_from_a_limit : (earlier place : ℕ) (h : Held) → earlier < place → place < length ranges
      → BeginsOver ranges place (range_at ranges earlier).limit h ↔ (LiesOver ranges place h × (LiesOver ranges earlier h → ⊥))
  new_from_a_limit earlier place h less within =
      let limit = (range_at ranges earlier).limit in
      let contents = (range_at ranges place).contents in
      let odd_start = table.odd place within in
      let ends = earlier_ends earlier place less within in
      let before = first_leaf earlier (omega arith) in
      let odd_before = table.odd earlier (omega arith) in (
        λ begun.
            let both = in_begun limit contents h begun in (
              both.0,
              λ lies.
                  let over = (is_over earlier (range_at ranges earlier).start h before odd_before lies).1 in
                  let from = over.from in
                  let rises = before.limit in
                  let late = both.1 in
                  omega arith,
            ),
        λ new.
            has_begun limit contents h new.0
            (elim (cases_lt (first_of h.pair.cell) limit) [
              | inl early ↦
                  let here = is_over place (range_at ranges place).start h (first_leaf place within) odd_start new.0 in
                  let last = last_leaf earlier (earlier + 1) (omega arith) (omega arith) in
                  let odd = (span_of h).odd in
                  let odd_last = last.odd in
                  let two = last.last in
                  let to = here.1.to in
                  absurd (new.1 (lies_over earlier (limit - 2) h last.found last.odd here.0 (record { from = omega arith; to = omega arith })))
              | inr late ↦ late
            ]),
      )

  -- ---- the one range over which a pair's cell begins

  found_by : (place q : ℕ) → place < length ranges → 1 ≤ q → q < (range_at ranges place).limit → (at : ℕ) × IsFound ranges at q
  found_by zero q within from to = let first = table.first in (zero, record { within = within; start = omega arith; limit = to })
  found_by (suc before) q within from to =
      elim (cases_lt q (range_at ranges before).limit) [
        | inl less ↦ found_by before q (omega arith) from less
        | inr not_less ↦
            let same = table.next before (suc before) (omega arith) within in
            (suc before, record { within = within; start = omega arith; limit = to })
      ]

  found_of : (q : ℕ) → 1 ≤ q → q < leaf_end → (at : ℕ) × IsFound ranges at q
  found_of q from to =
      let some = table.some in
      let last = table.last (length ranges - 1) (omega arith) in
      found_by (length ranges - 1) q (omega arith) from (omega arith)

  begins_at : (place other : ℕ) (h : Held) → IsFound ranges place (first_of h.pair.cell) → other < length ranges
      → BeginsOver ranges other (range_at ranges other).start h → other ≡ place
  begins_at place other h found within begun =
      let both = in_begun (range_at ranges other).start (range_at ranges other).contents h begun in
      let late = both.1 in
      let over = (is_over other (range_at ranges other).start h (first_leaf other within) (table.odd other within) both.0).1 in
      let from = over.from in
      let rises = table.rises other within in
      let start = found.start in
      let limit = found.limit in
      elim (cases_lt other place) [
        | inl less ↦ let ends = earlier_ends other place less found.within in absurd (omega arith)
        | inr not_less ↦
            elim (cases_lt place other) [
              | inl more ↦ let ends = earlier_ends place other more within in absurd (omega arith)
              | inr same ↦ omega arith
            ]
      ]

  begins_once : (h : Held) → Contains held h
      → (place : ℕ) × (place < length ranges) × BeginsOver ranges place (range_at ranges place).start h
      × ((other : ℕ) → other < length ranges → BeginsOver ranges other (range_at ranges other).start h → other ≡ place)
  begins_once h there =
      let s = span_of h in
      let starts = s.begins in
      let rises = s.rises in
      let ends = s.ends in
      let one = found_of (first_of h.pair.cell) starts (omega arith) in
      let found = one.1 in
      let lies = lies_over one.0 (first_of h.pair.cell) h found s.odd there (record { from = omega arith; to = omega arith }) in (
        one.0,
        found.within,
        has_begun (range_at ranges one.0).start (range_at ranges one.0).contents h lies found.start,
        λ other within begun. begins_at one.0 other h found within begun,
      )

pub new_from_limits : NewFromALimit
new_from_limits held earlier place h less within =
    new_from_a_limit held (range_table held) (range_table_is held) earlier place h less within

pub each_begins_once : EachPairBeginsOnce
each_begins_once held h there = begins_once held (range_table held) (range_table_is held) h there
