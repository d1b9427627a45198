-- The steps by which a table is built of all that is held.
use Rattle.std.proofs.Common.{◌≡◌, ℕ, zero, suc, ◌+◌, ◌-◌, ◌%◌, ◌≢◌, ◌<◌, ◌≤◌, ◌⊎◌, inl, inr, List, [], ◌∷◌, ◌++◌, length, get_or, drop, refl, sym, ◌∙◌, ap, arith, subst, leb, true, false, Contains}
use Rattle.std.proofs.lemmas.Bool.{cases_lt, leb-true, leb-false}
use Rattle.std.specs.List.Sorted.{IsNonDecreasingBy}
use Rattle.std.proofs.lemmas.List.{map-append, length-map, length-drop, get_or-map, get_or_past}
use Rattle.std.proofs.lemmas.List.Elements.{Contains-append_left, Contains-push, Contains-push_cases}
use Rattle.s2id_core.specs.CellId.{first_of, end_of}
use Rattle.s2ix_bag_pairs.specs.declared.pair.Held.{Held}
use Rattle.s2ix_bag_pairs.specs.Collection.{Collection}
use Rattle.s2ix_table.specs.declared.copied_range.CopiedRange.{CopiedRange}
use Rattle.s2ix_table_walk.specs.Contents.{contents_at}
use Rattle.s2ix_table.specs.Copied.{range_of, ranges_of}
use Rattle.s2ix_table_walk.specs.Table.{Range, range_at, leaf_end, IsRangeTable, IsFound}
use Rattle.s2ix_table_walk.specs.Bounds.{IsNextBound, IsBound}
use Rattle.s2ix_table_walk.proofs.Over.{span_of}
use Rattle.s2ix_table_walk.proofs.Tables.{IsTable, IsRangeFrom, changes_at, stays_between, table_push, places_from_table, limits_rise}

-- ---- the next bound

-- the lesser of a limit and a bound above a leaf
pub record IsNearer (at limit bound result : ℕ) : Type 0 where
  pub within : result ≤ limit
  pub past : at < bound → result ≤ bound
  pub is : (result ≡ limit) ⊎ ((result ≡ bound) × (at < bound) × (bound < limit))

-- what holds of the limit and of a bound above a leaf holds of the lesser
nearer_has : (P : ℕ → Type 0) (at limit bound result : ℕ) → IsNearer at limit bound result → P limit → (at < bound → P bound) → P result
nearer_has P at limit bound result n of_limit of_bound =
    elim n.is [ inl e ↦ subst P (sym e) of_limit | inr e ↦ subst P (sym e.0) (of_bound e.1) ]

-- no bound of one kind is passed, with one more pair either
none_passed : (bound : Held → ℕ) (hs : Collection) (h : Held) (at limit new : ℕ) → new ≤ limit
    → ((x : Held) → Contains hs x → at < bound x → limit ≤ bound x) → (at < bound h → new ≤ bound h) → (x : Held)
    → Contains (hs ++ h ∷ []) x → at < bound x → new ≤ bound x
none_passed bound hs h at limit new le before own x held lt =
    elim (Contains-push_cases hs h x held) [
      | inl c ↦ let p = before x c lt in omega arith
      | inr e ↦ subst (λ (y : Held). at < bound y → new ≤ bound y) e own lt
    ]

pub next_more : (hs : Collection) (h : Held) (at limit mid new : ℕ) → IsNextBound hs at limit → IsNearer at limit (first_of h.pair.cell) mid
    → IsNearer at mid (end_of h.pair.cell) new → IsNextBound (hs ++ h ∷ []) at new
next_more hs h at limit mid new next first last =
    let s = span_of h in
    let le : new ≤ limit = omega (arith, first.within, last.within) in
    let Fits : ℕ → Type 0 = λ b. (at < b) × (b % 2 ≡ 1) × (b < leaf_end → IsBound (hs ++ h ∷ []) b) in
    let old : Fits limit =
    (next.above, next.odd, λ lt. let is = next.is_bound lt in (is.0, Contains-append_left hs (h ∷ []) is.0 is.1, is.2)) in
    let both = nearer_has Fits at limit _ mid first old (λ lt. (lt, s.odd, λ _. (h, Contains-push hs h, inl refl))) in
    let fits = nearer_has Fits at mid _ new last both (λ lt. (lt, s.odd_end, λ _. (h, Contains-push hs h, inr refl))) in
    record {
      above = fits.0;
      within = omega (arith, next.within);
      odd = fits.1;
      no_first =
          none_passed (λ (x : Held). first_of x.pair.cell) hs h at limit new le next.no_first
          (λ lt. omega (arith, first.past lt, last.within));
      no_end = none_passed (λ (x : Held). end_of x.pair.cell) hs h at limit new le next.no_end last.past;
      is_bound = fits.2;
    }

-- ---- ranges

range_at_place : (ranges : List CopiedRange) (k : ℕ) (d : CopiedRange) → k < length ranges
    → range_at (ranges_of ranges) k ≡ range_of (get_or ranges k d)
range_at_place ranges k d lt = get_or-map range_of ranges k d _ lt

-- what stands while a table is built: the ranges up to a leaf at which contents change
pub record IsBuilt (hs : Collection) (ranges : List CopiedRange) (at : ℕ) : Type 0 where
  pub table : IsTable hs 1 (ranges_of ranges) at
  pub begins : 1 ≤ at
  pub within : at ≤ leaf_end
  pub odd : at % 2 ≡ 1
  pub changes : (q : ℕ) → 1 ≤ q → q + 2 ≡ at → at < leaf_end → contents_at q hs ≢ contents_at at hs

pub built_none : (hs : Collection) → IsBuilt hs [] 1
built_none hs = record { table = refl; begins = omega arith; within = omega arith; odd = refl; changes = λ q a b. absurd (omega arith) }

-- a range from a leaf on, as long as the contents stay
pub record IsWholeRange (hs : Collection) (at : ℕ) (range : CopiedRange) : Type 0 where
  pub start : range.start ≡ at
  pub rises : at < range.limit
  pub within : range.limit ≤ leaf_end
  pub odd : range.limit % 2 ≡ 1
  pub shared : (q : ℕ) → at ≤ q → q < range.limit → contents_at q hs ≡ range.contents.items
  pub maximal : range.limit < leaf_end → contents_at range.limit hs ≢ range.contents.items

pub built_more : (hs : Collection) (ranges : List CopiedRange) (at : ℕ) (range : CopiedRange) → IsBuilt hs ranges at → at < leaf_end
    → IsWholeRange hs at range → IsBuilt hs (ranges ++ range ∷ []) range.limit
built_more hs ranges at range built lt whole =
    let a = built.begins in
    let o = built.odd in
    let b = whole.rises in
    let p = whole.odd in
    let is_range : IsRangeFrom hs at (range_of range) =
    record { start = whole.start; odd = o; rises = b; shared = λ q odd le l. whole.shared q le l } in
    let table = table_push hs 1 (ranges_of ranges) at (range_of range) built.table is_range (λ q le two. built.changes q le two lt) in
    record {
      table = subst (λ rs. IsTable hs 1 rs range.limit) (sym (map-append range_of ranges (range ∷ []))) table;
      begins = omega arith;
      within = whole.within;
      odd = p;
      changes = λ q le two below same. whole.maximal below (sym same ∙ whole.shared q (omega arith) (omega arith));
    }

-- up to the next bound contents stay, and there they change
pub bound_changes : (hs : Collection) (at limit : ℕ) → at % 2 ≡ 1 → IsNextBound hs at limit → limit < leaf_end
    → contents_at limit hs ≢ contents_at at hs
bound_changes hs at limit odd next below same =
    let a = next.above in
    let o = next.odd in
    let last : ℕ = limit - 2 in
    let two : last + 2 ≡ limit = omega arith in
    changes_at hs last limit (omega arith) two (next.is_bound below)
    (stays_between hs at limit last next (omega arith) (omega arith) ∙ sym same)

pub built_end : (hs : Collection) (ranges : List CopiedRange) (at : ℕ) → IsBuilt hs ranges at → leaf_end ≤ at
    → IsRangeTable hs (ranges_of ranges)
built_end hs ranges at built le =
    let w = built.within in
    let e : at ≡ leaf_end = omega arith in
    places_from_table hs 1 leaf_end (ranges_of ranges) (omega arith) (subst (IsTable hs 1 (ranges_of ranges)) e built.table)

-- ---- the range that has a leaf

pub found : (hs : Collection) (ranges : List Range) (k q : ℕ) → IsRangeTable hs ranges → 1 ≤ q → q < leaf_end → k ≤ length ranges
    → ((j : ℕ) → j < k → (range_at ranges j).limit ≤ q) → ((j : ℕ) → k ≤ j → j < length ranges → q < (range_at ranges j).limit)
    → IsFound ranges k q
found hs ranges zero q t from to le low high =
    let some = t.some in
    let first = t.first in
    record { within = some; start = omega arith; limit = high 0 (omega arith) some }
found hs ranges (suc k) q t from to le low high =
    let here : suc k < length ranges =
    elim (cases_lt (suc k) (length ranges)) [
      | inl lt ↦ lt
      | inr ge ↦ absurd (let last = t.last k (omega arith) in let l = low k (omega arith) in omega arith)
    ] in
    let next = t.next k (suc k) (omega arith) here in
    let l = low k (omega arith) in
    record { within = here; start = omega arith; limit = high (suc k) (omega arith) here }

limit_at : (ranges : List CopiedRange) (k : ℕ) (d : CopiedRange) → k < length ranges
    → (range_at (ranges_of ranges) k).limit ≡ (get_or ranges k d).limit
limit_at ranges k d lt = ap (λ (r : Range). r.limit) (range_at_place ranges k d lt)

pub ranges_rise : (hs : Collection) (ranges : List CopiedRange) → IsRangeTable hs (ranges_of ranges)
    → IsNonDecreasingBy (λ (r : CopiedRange). r.limit) ranges
ranges_rise hs ranges t i j d le lt =
    let n = length-map ranges range_of in
    let r = limits_rise hs 1 leaf_end (ranges_of ranges) t i j le (omega arith) in
    let a = limit_at ranges i d (omega arith) in
    let b = limit_at ranges j d lt in
    omega arith

pub found_range : (hs : Collection) (ranges : List CopiedRange) (k q : ℕ) → IsRangeTable hs (ranges_of ranges) → 1 ≤ q → q < leaf_end
    → k ≤ length ranges → ((j : ℕ) (e : CopiedRange) → 0 ≤ j → j < k → leb (get_or ranges j e).limit q ≡ true)
    → ((j : ℕ) (e : CopiedRange) → k ≤ j → j < length ranges → leb (get_or ranges j e).limit q ≡ false) → IsFound (ranges_of ranges) k q
found_range hs [] k q t from to le low high = absurd (let some = t.some in omega arith)
found_range hs (range ∷ ranges) k q t from to le low high =
    let n = length-map (range ∷ ranges) range_of in
    found hs (ranges_of (range ∷ ranges)) k q t from to (omega arith)
    (λ j lt.
    let a = limit_at (range ∷ ranges) j range (omega arith) in
    let b = leb-true (get_or (range ∷ ranges) j range).limit q (low j range (omega arith) lt) in
    omega arith)
    (λ j ge lt.
    let a = limit_at (range ∷ ranges) j range (omega arith) in
    let b = leb-false (get_or (range ∷ ranges) j range).limit q (high j range ge (omega arith)) in
    omega arith)

-- ---- a place's chain

pub contents_of_place : (ranges : List CopiedRange) (k : ℕ) (range : CopiedRange) → k < length ranges → range ≡ get_or ranges k range
    → (range_at (ranges_of ranges) k).contents ≡ range.contents.items
contents_of_place ranges k range lt is =
    ap (λ (r : Range). r.contents) (range_at_place ranges k range lt) ∙ ap (λ (r : CopiedRange). r.contents.items) (sym is)

-- a place with a chain is one of a range
pub place_in_ranges : (ranges : List CopiedRange) (k at : ℕ) → 0 < length (drop at (range_at (ranges_of ranges) k).contents)
    → k < length ranges
place_in_ranges ranges k at lt =
    elim (cases_lt k (length ranges)) [
      | inl less ↦ less
      | inr le ↦
          (let none : Collection = [] in
          let past : length (drop at (range_at (ranges_of ranges) k).contents) ≡ length (drop at none) =
          ap (λ (r : Range). length (drop at r.contents))
          (get_or_past (ranges_of ranges) k _ (omega (arith, length-map ranges range_of))) in
          absurd (omega (arith, length-drop at none)))
    ]
