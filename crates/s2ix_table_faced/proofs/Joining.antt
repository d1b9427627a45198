-- Tables over neighbouring spans, of what one collection has over them, joined to one.
use Rattle.std.proofs.Common.{◌≡◌, ◌≢◌, ◌&&◌, ◌==◌, ℕ, inl, inr, true, false, cond, List, [], ◌∷◌, refl, sym, ◌∙◌, ap₂, arith, subst, ◌%◌, ◌<◌, ◌≤◌, ◌++◌, Contains}
use Rattle.std.proofs.lemmas.Bool.{cases_Bool, cases_lt, and_parts, and_from, false≢true, cond-true, cond-false}
use Rattle.std.proofs.lemmas.Bool.Decides.{nat_tests}
use Rattle.std.proofs.lemmas.List.Elements.{Contains-append_cases}
use Rattle.s2ix_bag_pairs.specs.Collection.{Collection}
use Rattle.s2ix_bag_pairs.specs.Pair.{rank_of}
use Rattle.s2ix_bag_pairs.specs.declared.pair.Held.{Held}
use Rattle.s2ix_bag_pairs.proofs.Pairs.{same_held}
use Rattle.s2ix_table_walk.specs.Table.{Range, IsTableOver}
use Rattle.s2ix_table_walk.proofs.Tables.{IsRangeFrom, Changes, IsTable, table_rises, table_from_places, places_from_table}
use Rattle.s2ix_table_walk.specs.Contents.{contents_at}
use Rattle.s2ix_table_faced.specs.Joined.{is_same, put_first, put_before, joined_ranges}
use Rattle.s2id_core.specs.CellId.{end_of}
use Rattle.s2ix_table_spans.specs.SpanTable.{SpanRanges}
use Rattle.s2ix_table_parts.specs.Parts.{EndsBy}

-- ---- the same contents

equal : (a b : ℕ) → (a == b) ≡ true → a ≡ b
equal a b e = grind (arith, nat_tests)

one_number : (n : ℕ) → (n == n) ≡ true
one_number n = grind (arith, nat_tests)

-- what `is_same` says
pub same_is : (hs ks : Collection) → is_same hs ks ≡ true → hs ≡ ks
same_is [] [] e = refl
same_is [] (k ∷ ks) e = absurd (false≢true e)
same_is (h ∷ hs) [] e = absurd (false≢true e)
same_is (h ∷ hs) (k ∷ ks) e =
    let all = and_parts (rank_of h.pair == rank_of k.pair && h.count == k.count) (is_same hs ks) e in
    let own = and_parts (rank_of h.pair == rank_of k.pair) (h.count == k.count) all.0 in
    let one = same_held h k (equal (rank_of h.pair) (rank_of k.pair) own.0) (equal h.count k.count own.1) in
    ap₂ (λ (x : Held) (xs : Collection). x ∷ xs) one (same_is hs ks all.1)

pub is_same_as : (hs ks : Collection) → hs ≡ ks → is_same hs ks ≡ true
is_same_as hs ks e = subst (λ xs. is_same hs xs ≡ true) e (itself hs)
  where
    itself : (hs : Collection) → is_same hs hs ≡ true
    itself [] = refl
    itself (h ∷ hs) =
        and_from (rank_of h.pair == rank_of h.pair && h.count == h.count) (is_same hs hs)
        (and_from (rank_of h.pair == rank_of h.pair) (h.count == h.count) (one_number (rank_of h.pair)) (one_number h.count))
        (itself hs)

-- ---- at the cut

changes_same : (r s : Range) (rs : List Range) → r.contents ≡ s.contents → Changes s rs → Changes r rs
changes_same r s [] same c = tt
changes_same r s (u ∷ us) same c = λ e. c (sym same ∙ e)

changes_joined : (r s : Range) (rs ss : List Range) → Changes r (s ∷ rs) → Changes r (put_before (s ∷ rs) ss)
changes_joined r s [] [] c = c
changes_joined r s [] (u ∷ us) c =
    elim (is_same s.contents u.contents) as (λ b. Changes r (cond b (record { start = s.start; limit = u.limit; contents = s.contents } ∷ us) (s ∷ u ∷ us))) [
      | true ↦ c
      | false ↦ c
    ]
changes_joined r s (t ∷ rs) ss c = c

join_first : (hs : Collection) (from b to : ℕ) (r : Range) (ss : List Range) → IsTable hs from (r ∷ []) b → IsTable hs b ss to
    → IsTable hs from (put_first r ss) to
join_first hs from b to r [] t u = (t.0, tt, t.2 ∙ u)
join_first hs from b to r (s ∷ ss) t u =
    let e = t.2 in
    elim (cases_Bool (is_same r.contents s.contents)) [
      | inl both ↦
          (let one : Range = record { start = r.start; limit = s.limit; contents = r.contents } in
          let same = same_is r.contents s.contents both in
          let rises = t.0.rises in
          let more = u.0.rises in
          let whole : IsRangeFrom hs from one = record {
            start = t.0.start;
            odd = t.0.odd;
            rises = omega arith;
            shared = λ q odd ge lt. elim (cases_lt q b) [
              | inl less ↦ t.0.shared q odd ge (omega arith)
              | inr past ↦ u.0.shared q odd past lt ∙ sym same
            ];
          } in
          let table : IsTable hs from (one ∷ ss) to = (whole, changes_same one s ss same u.1, u.2) in
          subst (λ rs. IsTable hs from rs to) (sym (cond-true _ (one ∷ ss) (r ∷ s ∷ ss) both)) table)
      | inr apart ↦
          (let differs : r.contents ≢ s.contents = λ same.
          false≢true (sym apart ∙ is_same_as r.contents s.contents same) in
          let rest : IsTable hs r.limit (s ∷ ss) to = subst (λ n. IsTable hs n (s ∷ ss) to) (sym e) u in
          let table : IsTable hs from (r ∷ s ∷ ss) to = (t.0, differs, rest) in
          subst (λ rs. IsTable hs from rs to) (sym (cond-false _ (record { start = r.start; limit = s.limit; contents = r.contents } ∷ ss) (r ∷ s ∷ ss) apart)) table)
    ]

-- tables over neighbouring spans, joined, are a table over both
pub join_tables : (hs : Collection) (from b to : ℕ) (rs ss : List Range) → IsTable hs from rs b → IsTable hs b ss to
    → IsTable hs from (put_before rs ss) to
join_tables hs from b to [] ss t u = subst (λ n. IsTable hs n ss to) (sym t) u
join_tables hs from b to (r ∷ []) ss t u = join_first hs from b to r ss t u
join_tables hs from b to (r ∷ s ∷ rs) ss t u = (t.0, changes_joined r s rs ss t.1, join_tables hs r.limit b to (s ∷ rs) ss t.2 u)

-- ---- tables of what one collection has over their spans

-- the ranges of what a collection has over a span
pub record IsOverSpan (held : Collection) (span : SpanRanges) : Type 0 where
  pub some : span.from < span.to
  pub table : IsTableOver held span.from span.to span.ranges

-- the same of spans that follow one another, from one leaf number up to another
abbrev pub AreOverSpans : Collection → ℕ → List SpanRanges → ℕ → Type 0
AreOverSpans held from [] to = from ≡ to
AreOverSpans held from (t ∷ ts) to = (t.from ≡ from) × IsOverSpan held t × AreOverSpans held t.to ts to

pub all_joined : (held : Collection) (from : ℕ) (tables : List SpanRanges) (to : ℕ) → AreOverSpans held from tables to
    → IsTable held from (joined_ranges tables) to
unfolding joined_ranges
all_joined held from [] to are = are
all_joined held from (t ∷ ts) to are =
    let own = subst (λ n. IsTable held n t.ranges t.to) are.0 (table_from_places held t.from t.to t.ranges are.1.table) in
    join_tables held from t.to to t.ranges (joined_ranges ts) own (all_joined held t.to ts to are.2)

-- their joined ranges are a table over them all
pub table_over_spans : (held : Collection) (from : ℕ) (tables : List SpanRanges) (to : ℕ) → from < to → AreOverSpans held from tables to
    → IsTableOver held from to (joined_ranges tables)
table_over_spans held from tables to lt are =
    places_from_table held from to (joined_ranges tables) lt (all_joined held from tables to are)

-- a table of one collection is that of another one that has the same over its span
pub same_over : (hs ks : Collection) (from : ℕ) (ranges : List Range) (to : ℕ)
    → ((q : ℕ) → q % 2 ≡ 1 → from ≤ q → q < to → contents_at q ks ≡ contents_at q hs) → IsTable hs from ranges to → IsTable ks from ranges to
same_over hs ks from [] to same t = t
same_over hs ks from (r ∷ rs) to same t =
    let le = table_rises hs r.limit rs to t.2 in
    let rises = t.0.rises in (
      record { start = t.0.start; odd = t.0.odd; rises = t.0.rises; shared = λ q odd ge lt. same q odd ge (omega arith) ∙ t.0.shared q odd ge lt },
      t.1,
      same_over hs ks r.limit rs to (λ q odd ge lt. same q odd (omega arith) lt) t.2,
    )

pub end_later : (hs own : Collection) (from to : ℕ) → from ≤ to → EndsBy hs from → ((h : Held) → Contains own h → end_of h.pair.cell ≤ to)
    → EndsBy (hs ++ own) to
end_later hs own from to le end ends h held =
    elim (Contains-append_cases hs own h held) [
      | inl before ↦ (let by = end h before in omega arith)
      | inr in_own ↦ ends h in_own
    ]
