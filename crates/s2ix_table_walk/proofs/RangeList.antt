-- The range table that is computed is the table of its collection.
use Rattle.std.proofs.Common.{◌≡◌, ℕ, ◌+◌, ◌-◌, ◌%◌, ◌<◌, ◌≤◌, ◌⊎◌, inl, inr, List, [], ◌∷◌, sym, ◌∙◌, ap, refl, arith, Contains, subst}
use Rattle.std.proofs.lemmas.Bool.{cases_lt}
use Rattle.s2id_core.specs.CellId.{first_of, end_of}
use Rattle.s2id_core.proofs.Lists.{cons_cases, in_tail, at_head, none_in_nil}
use Rattle.s2ix_bag_pairs.specs.declared.pair.Held.{Held}
use Rattle.s2ix_bag_pairs.specs.Collection.{Collection}
use Rattle.s2ix_table_walk.specs.Contents.{contents_at}
use Rattle.s2ix_table_walk.specs.Once.{put_once}
use Rattle.s2ix_table_walk.specs.RangeList.{bounds_of, ranges_between, range_table}
use Rattle.s2ix_table_walk.specs.Table.{Range, leaf_end, IsRangeTable}
use Rattle.s2ix_table_walk.specs.Bounds.{IsBound, IsNextBound}
use Rattle.s2ix_table_walk.proofs.Once.{RisesOnce, in_put, put_has, rises_put}
use Rattle.s2ix_table_walk.proofs.Over.{span_of}
use Rattle.s2ix_table_walk.proofs.Tables.{IsTable, Changes, changes_at, stays_between, places_from_table, table_from_places, same_table}

-- ---- the bounds

abbrev itself : ℕ → ℕ
itself b = b

-- the first leaf number, the end of the leaves, or a bound of a held cell
abbrev IsCut : Collection → ℕ → Type 0
IsCut hs b = (b ≡ 1) ⊎ ((b ≡ leaf_end) ⊎ IsBound hs b)

record FitsCut (b : ℕ) : Type 0 where
  odd : b % 2 ≡ 1
  from : 1 ≤ b
  to : b ≤ leaf_end

fits_cut : (hs : Collection) (b : ℕ) → IsCut hs b → FitsCut b
fits_cut hs b (inl e) = record { odd = omega arith; from = omega arith; to = omega arith }
fits_cut hs b (inr (inl e)) = record { odd = omega arith; from = omega arith; to = omega arith }
fits_cut hs b (inr (inr (h, held, is))) =
    let s = span_of h in
    elim is [
      | inl e ↦ subst FitsCut e (record { odd = s.odd; from = s.begins; to = omega (arith, s.rises, s.ends) })
      | inr e ↦ subst FitsCut e (record { odd = s.odd_end; from = omega (arith, s.begins, s.rises); to = s.ends })
    ]

cut_more : (h : Held) (hs : Collection) (b : ℕ) → IsCut hs b → IsCut (h ∷ hs) b
cut_more h hs b (inl e) = inl e
cut_more h hs b (inr (inl e)) = inr (inl e)
cut_more h hs b (inr (inr (x, held, is))) = inr (inr (x, in_tail h hs x held, is))

in_bounds : (hs : Collection) (b : ℕ) → Contains (bounds_of hs) b → IsCut hs b
unfolding bounds_of
in_bounds [] b c =
    elim (cons_cases 1 (leaf_end ∷ []) b c) [
      | inl e ↦ inl (sym e)
      | inr t ↦ elim (cons_cases leaf_end [] b t) [ inl e ↦ inr (inl (sym e)) | inr u ↦ absurd (none_in_nil b u) ]
    ]
in_bounds (h ∷ hs) b c =
    elim (in_put itself (first_of h.pair.cell) (put_once itself (end_of h.pair.cell) (bounds_of hs)) b c) [
      | inl e ↦ inr (inr (h, at_head h hs, inl e))
      | inr t ↦
          elim (in_put itself (end_of h.pair.cell) (bounds_of hs) b t) [
            | inl e ↦ inr (inr (h, at_head h hs, inr e))
            | inr u ↦ cut_more h hs b (in_bounds hs b u)
          ]
    ]

bounds_more : (h : Held) (hs : Collection) (b : ℕ) → ((first_of h.pair.cell ≡ b) ⊎ ((end_of h.pair.cell ≡ b) ⊎ Contains (bounds_of hs) b))
    → Contains (bounds_of (h ∷ hs)) b
unfolding bounds_of
bounds_more h hs b is =
    let ends = put_once itself (end_of h.pair.cell) (bounds_of hs) in
    let one : (m n : ℕ) → m ≡ n → m ≡ n = λ m n e. e in
    put_has itself one (first_of h.pair.cell) ends b (elim is [
      | inl e ↦ inl e
      | inr other ↦ inr (put_has itself one (end_of h.pair.cell) (bounds_of hs) b other)
    ])

bounds_have : (hs : Collection) (b : ℕ) → IsCut hs b → Contains (bounds_of hs) b
unfolding bounds_of
bounds_have [] b (inl e) = (0, omega arith, sym e)
bounds_have [] b (inr (inl e)) = (1, omega arith, sym e)
bounds_have [] b (inr (inr (x, held, is))) = absurd (none_in_nil x held)
bounds_have (h ∷ hs) b (inl e) = bounds_more h hs b (inr (inr (bounds_have hs b (inl e))))
bounds_have (h ∷ hs) b (inr (inl e)) = bounds_more h hs b (inr (inr (bounds_have hs b (inr (inl e)))))
bounds_have (h ∷ hs) b (inr (inr (x, held, is))) =
    bounds_more h hs b (elim (cons_cases h hs x held) [
      | inl same ↦
          elim is [
            | inl e ↦ inl (ap (λ (y : Held). first_of y.pair.cell) same ∙ e)
            | inr e ↦ inr (inl (ap (λ (y : Held). end_of y.pair.cell) same ∙ e))
          ]
      | inr t ↦ inr (inr (bounds_have hs b (inr (inr (x, t, is)))))
    ])

bounds_rise : (hs : Collection) → RisesOnce itself (bounds_of hs)
unfolding bounds_of
bounds_rise [] = (
  λ y c. elim (cons_cases leaf_end [] y c) [ inl e ↦ omega arith | inr t ↦ absurd (none_in_nil y t) ],
  (λ y c. absurd (none_in_nil y c), tt),
)
bounds_rise (h ∷ hs) =
    rises_put itself (first_of h.pair.cell) (put_once itself (end_of h.pair.cell) (bounds_of hs))
    (rises_put itself (end_of h.pair.cell) (bounds_of hs) (bounds_rise hs))

-- ---- the ranges between them

-- the bounds from one on
record AreBoundsFrom (hs : Collection) (b : ℕ) (bs : List ℕ) : Type 0 where
  rises : RisesOnce itself (b ∷ bs)
  cut : IsCut hs b
  cuts : (x : ℕ) → Contains bs x → IsCut hs x
  all : (x : ℕ) → IsCut hs x → b < x → Contains bs x

bounds_next : (hs : Collection) (b c : ℕ) (bs : List ℕ) → AreBoundsFrom hs b (c ∷ bs) → AreBoundsFrom hs c bs
bounds_next hs b c bs from =
    let lt = from.rises.0 c (at_head c bs) in
    record {
      rises = from.rises.1;
      cut = from.cuts c (at_head c bs);
      cuts = λ x held. from.cuts x (in_tail c bs x held);
      all = λ x is less. elim (cons_cases c bs x (from.all x is (omega arith))) [ inl e ↦ absurd (omega arith) | inr t ↦ t ];
    }

-- no bound above `b` is below the one that comes next
none_nearer : (hs : Collection) (b c : ℕ) (bs : List ℕ) → AreBoundsFrom hs b (c ∷ bs) → (x : ℕ) → IsBound hs x → b < x → c ≤ x
none_nearer hs b c bs from x is lt =
    elim (cons_cases c bs x (from.all x (inr (inr is)) lt)) [
      | inl e ↦ omega arith
      | inr t ↦ let less = from.rises.1.0 x t in omega arith
    ]

next_bound : (hs : Collection) (b c : ℕ) (bs : List ℕ) → AreBoundsFrom hs b (c ∷ bs) → IsNextBound hs b c
next_bound hs b c bs from =
    let cut = from.cuts c (at_head c bs) in
    let fits = fits_cut hs c cut in
    let begins = (fits_cut hs b from.cut).from in
    let above = from.rises.0 c (at_head c bs) in
    record {
      above = above;
      within = fits.to;
      odd = fits.odd;
      no_first = λ h held lt. none_nearer hs b c bs from (first_of h.pair.cell) (h, held, inl refl) lt;
      no_end = λ h held lt. none_nearer hs b c bs from (end_of h.pair.cell) (h, held, inr refl) lt;
      is_bound = λ lt. elim cut [
        | inl e ↦ absurd (omega arith)
        | inr other ↦ elim other [ inl e ↦ absurd (omega arith) | inr is ↦ is ]
      ];
    }

changes_next : (hs : Collection) (b c : ℕ) (bs : List ℕ) → AreBoundsFrom hs b (c ∷ bs)
    → Changes (record { start = b; limit = c; contents = contents_at b hs }) (ranges_between hs (c ∷ bs))
unfolding ranges_between
changes_next hs b c [] from = tt
changes_next hs b c (d ∷ ds) from =
    let next = next_bound hs b c (d ∷ ds) from in
    let after = next_bound hs c d ds (bounds_next hs b c (d ∷ ds) from) in
    let odd = (fits_cut hs b from.cut).odd in
    let a1 = next.above in
    let a2 = next.odd in
    let a3 = after.above in
    let a4 = after.within in
    let q : ℕ = c - 2 in
    let two : q + 2 ≡ c = omega arith in
    λ same.
    changes_at hs q c (omega arith) two (next.is_bound (omega arith)) (stays_between hs b c q next (omega arith) (omega arith) ∙ same)

table_between : (hs : Collection) (b : ℕ) (bs : List ℕ) → AreBoundsFrom hs b bs → IsTable hs b (ranges_between hs (b ∷ bs)) leaf_end
unfolding ranges_between
table_between hs b [] from =
    let to = (fits_cut hs b from.cut).to in
    elim (cases_lt b leaf_end) [
      | inl lt ↦ absurd (none_in_nil leaf_end (from.all leaf_end (inr (inl refl)) lt))
      | inr le ↦ omega arith
    ]
table_between hs b (c ∷ bs) from =
    let next = next_bound hs b c bs from in (
      record {
        start = refl;
        odd = (fits_cut hs b from.cut).odd;
        rises = next.above;
        shared = λ q odd le lt. stays_between hs b c q next le lt;
      },
      changes_next hs b c bs from,
      table_between hs c bs (bounds_next hs b c bs from),
    )

table_of_bounds : (hs : Collection) (bs : List ℕ) → RisesOnce itself bs → ((x : ℕ) → Contains bs x → IsCut hs x)
    → ((x : ℕ) → IsCut hs x → Contains bs x) → IsRangeTable hs (ranges_between hs bs)
table_of_bounds hs [] rises cuts all = absurd (none_in_nil 1 (all 1 (inl refl)))
table_of_bounds hs (b ∷ bs) rises cuts all =
    let cut = cuts b (at_head b bs) in
    let from = (fits_cut hs b cut).from in
    let e : b ≡ 1 = elim (cons_cases b bs 1 (all 1 (inl refl))) [
      | inl e ↦ e
      | inr t ↦ absurd (let less = rises.0 1 t in omega arith)
    ] in
    let later : (x : ℕ) → IsCut hs x → b < x → Contains bs x = λ x is lt.
    elim (cons_cases b bs x (all x is)) [ inl f ↦ absurd (omega arith) | inr t ↦ t ] in
    places_from_table hs 1 leaf_end (ranges_between hs (b ∷ bs)) (omega arith)
    (subst (λ n. IsTable hs n (ranges_between hs (b ∷ bs)) leaf_end) e (table_between hs b bs (record {
      rises = rises;
      cut = cut;
      cuts = λ x c. cuts x (in_tail b bs x c);
      all = later;
    })))

-- ---- the range table

-- the list that is computed is a range table of the collection
pub range_table_is : (hs : Collection) → IsRangeTable hs (range_table hs)
unfolding range_table
range_table_is hs = table_of_bounds hs (bounds_of hs) (bounds_rise hs) (in_bounds hs) (bounds_have hs)

-- and the only one
pub is_range_table : (hs : Collection) (ranges : List Range) → IsRangeTable hs ranges → ranges ≡ range_table hs
is_range_table hs ranges t =
    same_table hs 1 ranges (range_table hs) leaf_end (table_from_places hs 1 leaf_end ranges t)
    (table_from_places hs 1 leaf_end (range_table hs) (range_table_is hs))
