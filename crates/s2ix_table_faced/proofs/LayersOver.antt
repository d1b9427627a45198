-- What two layers hold over a leaf.
use Rattle.std.proofs.Common.{◌≡◌, ℕ, zero, suc, ◌-◌, ◌%◌, ◌<◌, ◌≤◌, inl, inr, List, [], ◌∷◌, ◌++◌, get_or, refl, sym, ◌∙◌, ap, ap₂, arith, AllPairs, Contains, subst}
use Rattle.std.proofs.lemmas.Bool.{cases_lt}
use Rattle.std.proofs.lemmas.List.{append_cancel_right}
use Rattle.std.proofs.lemmas.List.Elements.{Contains-get_or, Contains-append_left, Contains-append_right, Contains-append_cases}
use Rattle.s2id_core.specs.CellId.{raw_of, first_of, end_of}
use Rattle.s2id_core.specs.Path.{number_of, path_at}
use Rattle.s2id_core.proofs.Lists.{head_pairs, tail_pairs, in_tail, at_head}
use Rattle.s2id_core.proofs.Nested.{leaf_of_odd, same_span}
use Rattle.s2ix_bag_pairs.specs.Collection.{Collection, IsCollection}
use Rattle.s2ix_bag_pairs.specs.declared.pair.Held.{Held}
use Rattle.s2ix_table_walk.specs.Contents.{IsDeeper, IsContents, depth_key, contents_at}
use Rattle.s2ix_table_walk.specs.Table.{Range, leaf_end}
use Rattle.s2ix_table_walk.proofs.Lists.{deeper_from_key, contents_of_leaf, same_contents}
use Rattle.s2ix_table_walk.proofs.Over.{IsOver, span_of, in_contents, contents_has, nested_over}
use Rattle.s2ix_table_walk.proofs.Tables.{IsRangeFrom, Changes, IsTable, table_rises}
use Rattle.s2ix_table_spans.specs.SpanTable.{IsInSpan}
use Rattle.s2ix_table_parts.specs.Layers.{joined_layers, ShareNoPair, ShareNoCell, AreUnder}
use Rattle.s2ix_table_faced.specs.Layout.{with_over}
use Rattle.s2ix_table_parts.proofs.Layers.{joined_layers_rise, in_joined_layers, heavy_in_joined_layers, light_in_joined_layers}

-- two lists in order, of which each element of the first comes before each of the second
ordered_append : {X : Type 0} (R : X → X → Type 0) (xs ys : List X) → AllPairs R xs → AllPairs R ys
    → ((a b : X) → Contains xs a → Contains ys b → R a b) → AllPairs R (xs ++ ys)
ordered_append R [] ys one other across i j d lt within = other i j d lt within
ordered_append R (x ∷ xs) ys one other across i zero d lt within = absurd (omega arith)
ordered_append R (x ∷ xs) ys one other across zero (suc j) d lt within =
    let later = get_or (xs ++ ys) j d in
    elim (Contains-append_cases xs ys later (Contains-get_or (xs ++ ys) j d (omega arith))) [
      | inl own ↦ head_pairs R x xs one later own
      | inr there ↦ across x later (at_head x xs) there
    ]
ordered_append R (x ∷ xs) ys one other across (suc i) (suc j) d lt within =
    ordered_append R xs ys (tail_pairs R x xs one) other (λ a b held there. across a b (in_tail x xs a held) there) i j d (omega arith)
    (omega arith)

-- ---- one leaf

-- over a leaf each light pair is deeper than each heavy one
pub record AreDeeper (q : ℕ) (light heavy : Collection) : Type 0 where
  pub each : (l h : Held) → Contains light l → Contains heavy h → IsOver l q → IsOver h q → depth_key l < depth_key h

-- no cell has a number from the end of the leaves on
none_past : (q : ℕ) (hs : Collection) → leaf_end ≤ q → contents_at q hs ≡ []
none_past q hs past = none (contents_at q hs) refl
  where
    none : (cs : Collection) → contents_at q hs ≡ cs → contents_at q hs ≡ []
    none [] is = is
    none (c ∷ cs) is =
        let over = (in_contents q hs c (subst (λ xs. Contains xs c) (sym is) (at_head c cs))).1 in
        let to = over.to in
        let ends = (span_of c).ends in
        absurd (omega arith)

-- the contents of a leaf in both layers are its contents in each
appended_contents : (q : ℕ) (light heavy : Collection) → IsCollection light → IsCollection heavy → ShareNoPair light heavy
    → AreDeeper q light heavy → q % 2 ≡ 1 → q < leaf_end
    → IsContents (path_at q) (joined_layers light heavy) (contents_at q light ++ contents_at q heavy)
appended_contents q light heavy c d apart deeper odd lt =
    let leaf = leaf_of_odd q odd lt in
    let is : number_of (path_at q) ≡ q = leaf.0.2 in
    let At : Collection → ℕ → Type 0 = λ hs n. IsContents (path_at q) hs (contents_at n hs) in
    let own : IsContents (path_at q) light (contents_at q light) = subst (At light) is (contents_of_leaf light (path_at q) c leaf.1) in
    let other : IsContents (path_at q) heavy (contents_at q heavy) = subst (At heavy) is (contents_of_leaf heavy (path_at q) d leaf.1) in
    record {
      rises = ordered_append IsDeeper (contents_at q light) (contents_at q heavy) own.rises other.rises (λ a b held there.
          let over_a = in_contents q light a held in
          let over_b = in_contents q heavy b there in
          deeper_from_key a b (deeper.each a b over_a.0 over_b.0 over_a.1 over_b.1));
      each = λ x. (
        λ held. elim (Contains-append_cases (contents_at q light) (contents_at q heavy) x held) [
          | inl one ↦ (let r = (own.each x).0 one in (light_in_joined_layers light heavy x c d apart r.0, r.1))
          | inr one ↦ (let r = (other.each x).0 one in (heavy_in_joined_layers light heavy x c d r.0, r.1))
        ],
        λ r. elim (in_joined_layers light heavy x c d r.0) [
          | inl one ↦
              Contains-append_left (contents_at q light) (contents_at q heavy) x ((own.each x).1 (one, r.1))
          | inr one ↦
              Contains-append_right (contents_at q light) (contents_at q heavy) x ((other.each x).1 (one, r.1))
        ],
      );
    }

-- if over a leaf each light pair is deeper than each heavy one, both together have the light contents and then the heavy ones there
pub joined_layers_contents : (q : ℕ) (light heavy : Collection) → IsCollection light → IsCollection heavy → ShareNoPair light heavy
    → AreDeeper q light heavy → q % 2 ≡ 1 → contents_at q (joined_layers light heavy) ≡ contents_at q light ++ contents_at q heavy
joined_layers_contents q light heavy c d apart deeper odd =
    elim (cases_lt q leaf_end) [
      | inl lt ↦
          (let leaf = leaf_of_odd q odd lt in
          let all = joined_layers light heavy in
          let own : IsContents (path_at q) all (contents_at q all) =
          subst (λ n. IsContents (path_at q) all (contents_at n all)) leaf.0.2
          (contents_of_leaf all (path_at q) (joined_layers_rise light heavy c) leaf.1) in
          same_contents all (path_at q) (contents_at q all) (contents_at q light ++ contents_at q heavy) own
          (appended_contents q light heavy c d apart deeper odd lt))
      | inr past ↦
          none_past q (joined_layers light heavy) past
          ∙ sym (ap₂ (λ (one other : Collection). one ++ other) (none_past q light past) (none_past q heavy past))
    ]

-- ---- a span of leaves

-- a heavy cell over a leaf of a span with the same heavy pairs all over it covers the span
covers_span : (q from to : ℕ) (heavy over : Collection) (h : Held) → AreUnder heavy from to over → from % 2 ≡ 1 → to % 2 ≡ 1 → q % 2 ≡ 1
    → from ≤ q → q < to → Contains heavy h → IsOver h q → (first_of h.pair.cell ≤ from) × (to ≤ end_of h.pair.cell)
covers_span q from to heavy over h under odd_from odd_to odd ge lt held is_over =
    let there : Contains over h = subst (λ cs. Contains cs h) (under.same q odd ge lt) (contents_has q heavy h held is_over) in
    let at : (p : ℕ) → p % 2 ≡ 1 → from ≤ p → p < to → IsOver h p = λ p odd_p ge_p lt_p.
    (in_contents p heavy h (subst (λ cs. Contains cs h) (sym (under.same p odd_p ge_p lt_p)) there)).1 in
    let last : ℕ = to - 2 in
    let first_over = (at from odd_from (omega arith) (omega arith)).from in
    let last_over = (at last (omega arith) (omega arith) (omega arith)).to in
    let odd_end = (span_of h).odd_end in
    (first_over, omega arith)

-- over a span with the same heavy pairs all over it, the light pairs in it are deeper than the heavy ones
pub deeper_in_span : (q from to : ℕ) (light heavy over : Collection) → IsInSpan light from to → AreUnder heavy from to over
    → ShareNoCell light heavy → q % 2 ≡ 1 → from ≤ q → q < to → AreDeeper q light heavy
deeper_in_span q from to light heavy over within under apart odd ge lt = record {
  each = λ l h in_light in_heavy over_l over_h. elim (cases_lt (depth_key l) (depth_key h)) [
    | inl less ↦ less
    | inr le ↦
        (let wide = covers_span q from to heavy over h under within.odd within.odd_end odd ge lt in_heavy over_h in
        let nested = nested_over q h l over_h over_l le in
        let begins = within.begins l in_light in
        let ends = within.ends l in_light in
        let first = nested.from in
        let last = nested.to in
        absurd (apart l h in_light in_heavy
        (same_span (raw_of l.pair.cell) (raw_of h.pair.cell) l.pair.cell.valid h.pair.cell.valid (omega (arith, wide.0))
        (omega (arith, wide.1)))))
  ];
}

-- ---- the table over a span

with_one : Collection → Range → Range
with_one over r = record { start = r.start; limit = r.limit; contents = r.contents ++ over }

changes_with : (over : Collection) (r : Range) (rs : List Range) → Changes r rs → Changes (with_one over r) (with_over over rs)
unfolding with_one
changes_with over r [] c = tt
changes_with over r (s ∷ rs) c = λ same. c (append_cancel_right r.contents s.contents over same)

-- a table of the light pairs is one of all pairs, if the same heavy ones follow them over each of its leaves
pub table_with : (light all over : Collection) (from to at : ℕ) (rs : List Range)
    → ((q : ℕ) → q % 2 ≡ 1 → from ≤ q → q < to → contents_at q all ≡ contents_at q light ++ over)
    → from ≤ at → IsTable light at rs to → IsTable all at (with_over over rs) to
unfolding with_one
table_with light all over from to at [] is le t = t
table_with light all over from to at (r ∷ rs) is le t =
    let begin = t.0.start in
    let rises = t.0.rises in
    let end = table_rises light r.limit rs to t.2 in
    let range : IsRangeFrom all at (with_one over r) = record {
      start = begin;
      odd = t.0.odd;
      rises = rises;
      shared = λ q odd ge lt. is q odd (omega arith) (omega arith) ∙ ap (λ cs. cs ++ over) (t.0.shared q odd ge lt);
    } in
    (range, changes_with over r rs t.1, table_with light all over from to r.limit rs is (omega arith) t.2)
