-- Range tables, range by range.
use Rattle.std.proofs.Common.{◌≡◌, ◌≢◌, ℕ, zero, suc, ◌+◌, ◌-◌, ◌*◌, ◌%◌, ◌<◌, ◌≤◌, inl, inr, ◌&&◌, leb, ltb, List, [], ◌∷◌, ◌++◌, length, refl, sym, ◌∙◌, ap, ap₂, arith, Contains, subst}
use Rattle.std.proofs.lemmas.Bool.{cases_lt, cases_order}
use Rattle.std.proofs.lemmas.Bool.Decides.{nat_tests}
use Rattle.s2id_core.specs.CellId.{first_of, end_of}
use Rattle.s2ix_bag_pairs.specs.Collection.{Collection}
use Rattle.s2ix_table_walk.specs.Contents.{covers, depth_key, contents_at}
use Rattle.s2ix_table_walk.specs.Table.{Range, range_at, IsTableOver}
use Rattle.s2ix_table_walk.specs.Bounds.{IsNextBound, IsBound}
use Rattle.s2ix_table_walk.proofs.InOrder.{choice_agree}
use Rattle.s2ix_table_walk.proofs.Over.{span_of, in_contents, contents_has}

-- ---- where contents change

-- at each bound of a held cell the contents change
pub changes_at : (hs : Collection) (q b : ℕ) → q % 2 ≡ 1 → q + 2 ≡ b → IsBound hs b → contents_at q hs ≡ contents_at b hs → ⊥
changes_at hs q b odd next (h, held, inl e) same =
    let s = span_of h in
    let a = s.rises in
    let over = contents_has b hs h held (record { from = omega arith; to = omega arith }) in
    let before = (in_contents q hs h (subst (λ cs. Contains cs h) (sym same) over)).1.from in
    omega arith
changes_at hs q b odd next (h, held, inr e) same =
    let s = span_of h in
    let a = s.rises in
    let over = contents_has q hs h held (record { from = omega arith; to = omega arith }) in
    let after = (in_contents b hs h (subst (λ cs. Contains cs h) same over)).1.to in
    omega arith

-- and between two neighbouring bounds they stay
pub stays_between : (hs : Collection) (at limit q : ℕ) → IsNextBound hs at limit → at ≤ q → q < limit → contents_at q hs ≡ contents_at at hs
unfolding contents_at
stays_between hs at limit q next from to =
    choice_agree (covers q) (covers at) depth_key hs (λ h held.
    let no_first = next.no_first h held in
    let no_end = next.no_end h held in
    tests (first_of h.pair.cell) (end_of h.pair.cell) at limit q from to no_first no_end)
  where
    tests : (f e at limit q : ℕ) → at ≤ q → q < limit → (at < f → limit ≤ f) → (at < e → limit ≤ e)
        → (leb f q && ltb q e) ≡ (leb f at && ltb at e)
    tests f e at limit q from to no_first no_end = grind (arith, nat_tests)

-- ---- tables by recursion

pub record IsRangeFrom (hs : Collection) (from : ℕ) (r : Range) : Type 0 where
  pub start : r.start ≡ from
  pub odd : from % 2 ≡ 1
  pub rises : from < r.limit
  pub shared : (q : ℕ) → q % 2 ≡ 1 → from ≤ q → q < r.limit → contents_at q hs ≡ r.contents

abbrev pub Changes : Range → List Range → Type 0
Changes r [] = Unit {0}
Changes r (s ∷ rs) = r.contents ≢ s.contents

abbrev pub IsTable : Collection → ℕ → List Range → ℕ → Type 0
IsTable hs from [] to = from ≡ to
IsTable hs from (r ∷ rs) to = IsRangeFrom hs from r × Changes r rs × IsTable hs r.limit rs to

pub table_rises : (hs : Collection) (from : ℕ) (ranges : List Range) (to : ℕ) → IsTable hs from ranges to → from ≤ to
table_rises hs from [] to t = omega arith
table_rises hs from (r ∷ rs) to t =
    let le = table_rises hs r.limit rs to t.2 in
    let lt = t.0.rises in
    omega arith

-- at each bound contents change, whatever leaf comes before it
pub changes_by : (hs : Collection) (b : ℕ) → IsBound hs b → (q : ℕ) → q + 2 ≡ b → contents_at q hs ≢ contents_at b hs
changes_by hs b (h, held, inl e) q next =
    let odd = (span_of h).odd in
    changes_at hs q b (omega arith) next (h, held, inl e)
changes_by hs b (h, held, inr e) q next =
    let odd = (span_of h).odd_end in
    changes_at hs q b (omega arith) next (h, held, inr e)

-- two tables that meet where contents change are one
pub table_join : (hs : Collection) (from : ℕ) (rs : List Range) (mid : ℕ) (ss : List Range) (to : ℕ) → IsTable hs from rs mid
    → IsTable hs mid ss to → ((q : ℕ) → from ≤ q → q + 2 ≡ mid → contents_at q hs ≢ contents_at mid hs) → IsTable hs from (rs ++ ss) to
table_join hs from [] mid ss to t u changes = subst (λ n. IsTable hs n ss to) (sym t) u
table_join hs from (r ∷ []) mid [] to t u changes = (t.0, tt, t.2 ∙ u)
table_join hs from (r ∷ []) mid (s ∷ ss) to t u changes =
    let a = t.0.odd in
    let b = t.0.rises in
    let c = u.0.odd in
    let d = u.0.rises in
    let e = t.2 in
    let last : ℕ = mid - 2 in
    let two : last + 2 ≡ mid = omega arith in (
      t.0,
      λ same.
          changes last (omega arith) two
          (t.0.shared last (omega arith) (omega arith) (omega arith) ∙ same ∙ sym (u.0.shared mid c (omega arith) d)),
      subst (λ n. IsTable hs n (s ∷ ss) to) (sym e) u,
    )
table_join hs from (r ∷ s ∷ rs) mid ss to t u changes =
    let a = t.0.rises in
    (t.0, t.1, table_join hs r.limit (s ∷ rs) mid ss to t.2 u (λ q le f. changes q (omega arith) f))

-- one more range at the end
pub table_push : (hs : Collection) (from : ℕ) (ranges : List Range) (mid : ℕ) (r : Range) → IsTable hs from ranges mid
    → IsRangeFrom hs mid r → ((q : ℕ) → from ≤ q → q + 2 ≡ mid → contents_at q hs ≢ contents_at mid hs)
    → IsTable hs from (ranges ++ r ∷ []) r.limit
table_push hs from ranges mid r t range changes = table_join hs from ranges mid (r ∷ []) r.limit t (range, tt, refl) changes

-- ---- and by places

first_range : (hs : Collection) (from to : ℕ) (r : Range) (rs : List Range) → IsTableOver hs from to (r ∷ rs) → IsRangeFrom hs from r
first_range hs from to r rs t =
    let first = t.first in
    let odd = t.odd 0 (omega arith) in
    let rises = t.rises 0 (omega arith) in
    record { start = first; odd = omega arith; rises = omega arith; shared = λ q o le lt. t.shared 0 q (omega arith) o (omega arith) lt }

pub table_from_places : (hs : Collection) (from to : ℕ) (ranges : List Range) → IsTableOver hs from to ranges → IsTable hs from ranges to
table_from_places hs from to [] t = absurd (let some = t.some in omega arith)
table_from_places hs from to (r ∷ []) t = (first_range hs from to r [] t, tt, t.last 0 (omega arith))
table_from_places hs from to (r ∷ s ∷ rs) t = (
  first_range hs from to r (s ∷ rs) t,
  t.maximal 0 1 (omega arith) (omega arith),
  table_from_places hs r.limit to (s ∷ rs) (record {
    some = omega arith;
    first = sym (t.next 0 1 (omega arith) (omega arith));
    last = λ k e. t.last (suc k) (omega arith);
    next = λ j k e lt. t.next (suc j) (suc k) (omega arith) (omega arith);
    odd = λ k lt. t.odd (suc k) (omega arith);
    rises = λ k lt. t.rises (suc k) (omega arith);
    shared = λ k q lt o le l. t.shared (suc k) q (omega arith) o le l;
    maximal = λ j k e lt. t.maximal (suc j) (suc k) (omega arith) (omega arith);
  }),
)

table_last : (hs : Collection) (from : ℕ) (ranges : List Range) (to : ℕ) → IsTable hs from ranges to → (k : ℕ) → k + 1 ≡ length ranges
    → (range_at ranges k).limit ≡ to
table_last hs from [] to t k e = absurd (omega arith)
table_last hs from (r ∷ []) to t zero e = t.2
table_last hs from (r ∷ []) to t (suc k) e = absurd (omega arith)
table_last hs from (r ∷ s ∷ rs) to t zero e = absurd (omega arith)
table_last hs from (r ∷ s ∷ rs) to t (suc k) e = table_last hs r.limit (s ∷ rs) to t.2 k (omega arith)

-- one range ends where the next begins, with other contents
record Meet (r s : Range) : Type 0 where
  next : r.limit ≡ s.start
  maximal : r.contents ≢ s.contents

table_meets : (hs : Collection) (from : ℕ) (ranges : List Range) (to : ℕ) → IsTable hs from ranges to → (j k : ℕ) → j + 1 ≡ k
    → k < length ranges → Meet (range_at ranges j) (range_at ranges k)
table_meets hs from [] to t j k e lt = absurd (omega arith)
table_meets hs from (r ∷ []) to t j k e lt = absurd (omega arith)
table_meets hs from (r ∷ s ∷ rs) to t zero zero e lt = absurd (omega arith)
table_meets hs from (r ∷ s ∷ rs) to t zero (suc zero) e lt = record { next = sym t.2.0.start; maximal = t.1 }
table_meets hs from (r ∷ s ∷ rs) to t zero (suc (suc k)) e lt = absurd (omega arith)
table_meets hs from (r ∷ s ∷ rs) to t (suc j) zero e lt = absurd (omega arith)
table_meets hs from (r ∷ s ∷ rs) to t (suc j) (suc k) e lt = table_meets hs r.limit (s ∷ rs) to t.2 j k (omega arith) (omega arith)

table_range : (hs : Collection) (from : ℕ) (ranges : List Range) (to : ℕ) → IsTable hs from ranges to → (k : ℕ) → k < length ranges
    → IsRangeFrom hs (range_at ranges k).start (range_at ranges k)
table_range hs from [] to t k lt = absurd (omega arith)
table_range hs from (r ∷ rs) to t zero lt = subst (λ n. IsRangeFrom hs n r) (sym t.0.start) t.0
table_range hs from (r ∷ rs) to t (suc k) lt = table_range hs r.limit rs to t.2 k (omega arith)

pub places_from_table : (hs : Collection) (from to : ℕ) (ranges : List Range) → from < to → IsTable hs from ranges to
    → IsTableOver hs from to ranges
places_from_table hs from to [] lt t = absurd (omega arith)
places_from_table hs from to (r ∷ rs) lt t = record {
  some = omega arith;
  first = t.0.start;
  last = table_last hs from (r ∷ rs) to t;
  next = λ j k e l. (table_meets hs from (r ∷ rs) to t j k e l).next;
  odd = λ k l. (table_range hs from (r ∷ rs) to t k l).odd;
  rises = λ k l. (table_range hs from (r ∷ rs) to t k l).rises;
  shared = λ k q l o le u. (table_range hs from (r ∷ rs) to t k l).shared q o le u;
  maximal = λ j k e l. (table_meets hs from (r ∷ rs) to t j k e l).maximal;
}

-- ---- a collection has one table

-- no range of a table ends before that of another with the same start
no_shorter : (hs : Collection) (from : ℕ) (r s : Range) (rs ss : List Range) (to : ℕ) → IsTable hs from (r ∷ rs) to
    → IsTable hs from (s ∷ ss) to → r.limit < s.limit → ⊥
no_shorter hs from r s [] ss to t u lt =
    let e = t.2 in
    let le = table_rises hs s.limit ss to u.2 in
    omega arith
no_shorter hs from r s (v ∷ vs) ss to t u lt =
    let a = t.0.rises in
    let o = t.2.0.odd in
    let l = t.2.0.rises in
    let mine = t.0.shared from t.0.odd (omega arith) (omega arith) in
    let yours = u.0.shared from t.0.odd (omega arith) (omega arith) in
    let there = u.0.shared r.limit o (omega arith) lt in
    let next = t.2.0.shared r.limit o (omega arith) l in
    t.1 (sym mine ∙ yours ∙ sym there ∙ next)

range_with : ℕ → ℕ → Collection → Range
range_with start limit contents = record { start = start; limit = limit; contents = contents }

same_range : (r s : Range) → r.start ≡ s.start → r.limit ≡ s.limit → r.contents ≡ s.contents → r ≡ s
unfolding range_with
same_range r s a b c =
    let e : range_with r.start r.limit r.contents ≡ range_with s.start s.limit s.contents = cc in e

pub same_table : (hs : Collection) (from : ℕ) (xs ys : List Range) (to : ℕ) → IsTable hs from xs to → IsTable hs from ys to → xs ≡ ys
same_table hs from [] [] to t u = refl
same_table hs from [] (s ∷ ss) to t u =
    absurd (let le = table_rises hs s.limit ss to u.2 in let lt = u.0.rises in omega arith)
same_table hs from (r ∷ rs) [] to t u =
    absurd (let le = table_rises hs r.limit rs to t.2 in let lt = t.0.rises in omega arith)
same_table hs from (r ∷ rs) (s ∷ ss) to t u =
    let limits : r.limit ≡ s.limit =
    elim (cases_order r.limit s.limit) [
      | inl e ↦ e
      | inr o ↦
          elim o [
            | inl lt ↦ absurd (no_shorter hs from r s rs ss to t u lt)
            | inr gt ↦ absurd (no_shorter hs from s r ss rs to u t gt)
          ]
    ] in
    let a = t.0.rises in
    let b = u.0.rises in
    let contents = sym (t.0.shared from t.0.odd (omega arith) a) ∙ u.0.shared from t.0.odd (omega arith) b in
    ap₂ (λ (x : Range) (xs : List Range). x ∷ xs) (same_range r s (t.0.start ∙ sym u.0.start) limits contents)
    (same_table hs r.limit rs ss to t.2 (subst (λ n. IsTable hs n ss to) (sym limits) u.2))

-- ---- places and numbers

-- the ranges of a table begin at odd numbers one above the other
pub places_fit : (hs : Collection) (from to : ℕ) (ranges : List Range) → IsTableOver hs from to ranges → (k : ℕ) → k < length ranges
    → from + 2 * k ≤ (range_at ranges k).start
places_fit hs from to ranges t zero lt = let e = t.first in omega arith
places_fit hs from to ranges t (suc k) lt =
    let le = places_fit hs from to ranges t k (omega arith) in
    let e = t.next k (suc k) (omega arith) lt in
    let r = t.rises k (omega arith) in
    let a = t.odd k (omega arith) in
    let b = t.odd (suc k) lt in
    omega arith

-- limits rise with the places
pub limits_rise : (hs : Collection) (from to : ℕ) (ranges : List Range) → IsTableOver hs from to ranges → (i j : ℕ) → i ≤ j
    → j < length ranges → (range_at ranges i).limit ≤ (range_at ranges j).limit
limits_rise hs from to ranges t i zero le lt = let e : i ≡ 0 = omega arith in let f = ap (λ k. (range_at ranges k).limit) e in omega arith
limits_rise hs from to ranges t i (suc j) le lt =
    elim (cases_lt i (suc j)) [
      | inl less ↦
          (let before = limits_rise hs from to ranges t i j (omega arith) (omega arith) in
          let next = t.next j (suc j) (omega arith) lt in
          let rises = t.rises (suc j) lt in
          omega arith)
      | inr ge ↦ let e : i ≡ suc j = omega arith in let f = ap (λ k. (range_at ranges k).limit) e in omega arith
    ]
