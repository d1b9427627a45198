-- A range table has few ranges.
use Rattle.std.proofs.Common.{◌≡◌, ◌≢◌, ℕ, ◌+◌, ◌-◌, ◌*◌, ◌%◌, ◌<◌, ◌≤◌, inl, inr, ◌&&◌, leb, ltb, nat_eq, false, List, [], ◌∷◌, length, map, sym, ◌∙◌, ap, arith, Contains}
use Rattle.std.specs.List.{AllByRecursion, IsDistinct}
use Rattle.std.specs.Set.{is_member}
use Rattle.std.proofs.lemmas.Bool.{cases_Bool, both_ways, ne_eqb}
use Rattle.std.proofs.lemmas.Bool.Decides.{Decides-eqb, nat_tests}
use Rattle.std.proofs.lemmas.Cmp.{nat_eq_equiv}
use Rattle.std.proofs.lemmas.List.{length-map}
use Rattle.std.proofs.lemmas.Map.Made.{is_member-Decides, length-le_from_is_member}
use Rattle.s2id_core.specs.CellId.{first_of, end_of}
use Rattle.s2id_core.proofs.Lists.{cons_cases, in_tail, none_in_nil}
use Rattle.s2ix_bag_pairs.specs.declared.pair.Held.{Held}
use Rattle.s2ix_bag_pairs.specs.Collection.{Collection}
use Rattle.s2ix_table_walk.specs.Contents.{covers, depth_key, contents_at}
use Rattle.s2ix_table_walk.specs.Bounds.{IsBound}
use Rattle.s2ix_table_walk.specs.Table.{Range, IsTableOver}
use Rattle.s2ix_table_walk.proofs.InOrder.{choice_agree}
use Rattle.s2ix_table_walk.proofs.Over.{span_of}
use Rattle.s2ix_table_walk.proofs.Tables.{IsTable, table_from_places}

-- where held cells begin and end
abbrev edges : Collection → List ℕ
edges [] = []
edges (h ∷ hs) = first_of h.pair.cell ∷ end_of h.pair.cell ∷ edges hs

two_edges : (hs : Collection) → length (edges hs) ≡ 2 * length hs
two_edges [] = omega arith
two_edges (h ∷ hs) = let rest = two_edges hs in omega arith

bound_is_edge : (hs : Collection) (b : ℕ) → IsBound hs b → Contains (edges hs) b
bound_is_edge [] b (h, held, is) = absurd (none_in_nil h held)
bound_is_edge (x ∷ xs) b (h, held, is) =
    elim (cons_cases x xs h held) [
      | inl same ↦
          elim is [
            | inl e ↦ (0, omega arith, ap (λ (y : Held). first_of y.pair.cell) same ∙ e)
            | inr e ↦ (1, omega arith, ap (λ (y : Held). end_of y.pair.cell) same ∙ e)
          ]
      | inr there ↦
          in_tail (first_of x.pair.cell) (end_of x.pair.cell ∷ edges xs) b
          (in_tail (end_of x.pair.cell) (edges xs) b (bound_is_edge xs b (h, there, is)))
    ]

-- contents change only where a held cell begins or ends
change_at_edge : (hs : Collection) (q b : ℕ) → q % 2 ≡ 1 → q + 2 ≡ b → contents_at q hs ≢ contents_at b hs → Contains (edges hs) b
unfolding contents_at
change_at_edge hs q b odd next differ =
    let decides = is_member-Decides Decides-eqb (edges hs) b in
    elim (cases_Bool (is_member nat_eq (edges hs) b)) [
      | inl is ↦ decides.0 is
      | inr none ↦
          absurd (differ (choice_agree (covers q) (covers b) depth_key hs (λ h held.
          let s = span_of h in
          tests (first_of h.pair.cell) (end_of h.pair.cell) s.odd s.odd_end
          (λ e. both_ways _ none (decides.1 (bound_is_edge hs b (h, held, inl e))))
          (λ e. both_ways _ none (decides.1 (bound_is_edge hs b (h, held, inr e)))))))
    ]
  where
    tests : (f e : ℕ) → f % 2 ≡ 1 → e % 2 ≡ 1 → f ≢ b → e ≢ b → (leb f q && ltb q e) ≡ (leb f b && ltb b e)
    tests f e odd_first odd_end no_first no_end = grind (arith, nat_tests)

-- ---- the starts of a table

abbrev starts_of : List Range → List ℕ
starts_of ranges = map (λ (r : Range). r.start) ranges

starts_above : (hs : Collection) (x from : ℕ) (ranges : List Range) (to : ℕ) → x < from → IsTable hs from ranges to
    → AllByRecursion (λ y. nat_eq x y ≡ false) (starts_of ranges)
starts_above hs x from [] to lt t = tt
starts_above hs x from (r ∷ rs) to lt t =
    let start = t.0.start in
    let rises = t.0.rises in
    (ne_eqb x r.start (λ e. omega arith), starts_above hs x r.limit rs to (omega arith) t.2)

starts_differ : (hs : Collection) (from : ℕ) (ranges : List Range) (to : ℕ) → IsTable hs from ranges to
    → IsDistinct nat_eq (starts_of ranges)
unfolding IsDistinct
starts_differ hs from [] to t = tt
starts_differ hs from (r ∷ rs) to t =
    let start = t.0.start in
    let rises = t.0.rises in
    (starts_above hs r.start r.limit rs to (omega arith) t.2, starts_differ hs r.limit rs to t.2)

-- each start but the first is an edge
starts_are_edges : (hs : Collection) (from : ℕ) (r : Range) (rs : List Range) (to : ℕ) → IsTable hs from (r ∷ rs) to → (b : ℕ)
    → Contains (starts_of rs) b → Contains (edges hs) b
starts_are_edges hs from r [] to t b is = absurd (none_in_nil b is)
starts_are_edges hs from r (s ∷ ss) to t b is =
    elim (cons_cases s.start (starts_of ss) b is) [
      | inr there ↦ starts_are_edges hs r.limit s ss to t.2 b there
      | inl e ↦
          (let odd = t.0.odd in
          let rises = t.0.rises in
          let start = t.2.0.start in
          let odd_too = t.2.0.odd in
          let rises_too = t.2.0.rises in
          let last : ℕ = b - 2 in
          let two : last + 2 ≡ b = omega arith in
          change_at_edge hs last b (omega arith) two (λ same.
          t.1
          (sym (t.0.shared last (omega arith) (omega arith) (omega arith)) ∙ same ∙ t.2.0.shared b (omega arith) (omega arith) (omega arith))))
    ]

-- at most twice as many as pairs, and one more
pub few_ranges : (hs : Collection) (from to : ℕ) (ranges : List Range) → IsTableOver hs from to ranges
    → length ranges ≤ 2 * length hs + 1
few_ranges hs from to [] t = omega arith
few_ranges hs from to (r ∷ rs) t =
    let table = table_from_places hs from to (r ∷ rs) t in
    let starts = is_member-Decides Decides-eqb (starts_of rs) in
    let cells = is_member-Decides Decides-eqb (edges hs) in
    let fewer = length-le_from_is_member nat_eq_equiv (starts_of rs) (edges hs) (starts_differ hs r.limit rs to table.2) (λ b is.
    (cells b).1 (starts_are_edges hs from r rs to table b ((starts b).0 is))) in
    let many = length-map rs (λ (x : Range). x.start) in
    let two = two_edges hs in
    omega arith
