-- A range table of which one stretch was written anew.
use Rattle.std.proofs.Common.{◌≡◌, ℕ, ◌+◌, ◌-◌, ◌%◌, ◌<◌, ◌≤◌, ◌⊎◌, inl, inr, List, [], ◌∷◌, ◌++◌, length, take, drop, slice_index_or, refl, sym, ◌∙◌, ap, arith, Contains, subst}
use Rattle.std.proofs.lemmas.Bool.{cases_lt}
use Rattle.std.proofs.lemmas.List.{append_cancel_right, get_or_default, get_or-take, get_or-drop, length-take, length-drop}
use Rattle.s2ix_bag_pairs.specs.Collection.{Collection}
use Rattle.s2ix_table_walk.specs.Contents.{contents_at}
use Rattle.s2ix_table_walk.specs.Bounds.{IsBound}
use Rattle.s2ix_table_walk.specs.Table.{Range, range_at, IsTableOver}
use Rattle.s2ix_table_walk.proofs.Tables.{IsTable, IsRangeFrom, table_rises, table_join, table_from_places, places_from_table, places_fit, limits_rise, changes_by}
use Rattle.s2ix_table_spans.specs.Starts.{ranges_from, IsLastStart}
use Rattle.s2ix_table_spans.proofs.Ranges.{length_ranges, row_from, ranges_append, range_start}
use Rattle.s2ix_table_spans.proofs.Windows.{starts_rise, found_start}

-- ---- parts of a table

-- the ranges before a start are a table, and those from there on
pub record AreParts (held : Collection) (from mid to : ℕ) (front rest : List ℕ) : Type 0 where
  pub before : IsTable held from (ranges_from held front mid) mid
  pub after : IsTable held mid (ranges_from held rest to) to

pub table_parts : (held : Collection) (from : ℕ) (front rest : List ℕ) (to : ℕ) → IsTable held from (ranges_from held (front ++ rest) to) to
    → AreParts held from (slice_index_or rest 0 to) to front rest
table_parts held from [] [] to t = record { before = t; after = refl }
table_parts held from [] (s ∷ ss) to t =
    let e = t.0.start in
    record { before = sym e; after = subst (λ n. IsTable held n (ranges_from held (s ∷ ss) to) to) (sym e) t }
table_parts held from (s ∷ []) rest to t = record { before = (t.0, tt, refl); after = t.2 }
table_parts held from (s ∷ u ∷ us) rest to t =
    let parts = table_parts held u (u ∷ us) rest to t.2 in
    record { before = (t.0, t.1, parts.before); after = parts.after }

begins_at : (held : Collection) (from : ℕ) (starts : List ℕ) (to : ℕ) → IsTable held from (ranges_from held starts to) to
    → slice_index_or starts 0 to ≡ from
begins_at held from [] to t = sym t
begins_at held from (s ∷ ss) to t = t.0.start

-- tables over neighbouring spans are one, if a held cell begins or ends between them
pub tables_meet : (held : Collection) (from mid to : ℕ) (front rest : List ℕ) → IsBound held mid
    → IsTable held from (ranges_from held front mid) mid → IsTable held mid (ranges_from held rest to) to
    → IsTable held from (ranges_from held (front ++ rest) to) to
tables_meet held from mid to front rest bound t u =
    let first = begins_at held mid rest to u in
    let joined = table_join held from (ranges_from held front mid) mid (ranges_from held rest to) to t u (λ q le next. changes_by held mid bound q next) in
    subst (λ rs. IsTable held from rs to)
    (sym (ranges_append held front rest to ∙ ap (λ n. ranges_from held front n ++ ranges_from held rest to) first)) joined

-- ---- the ranges of another collection

-- over each leaf of a span lies what lies over it in another collection, changed in one way
abbrev AgreeBy : (Collection → Collection) → Collection → Collection → ℕ → ℕ → Type 0
AgreeBy f held other from to = (q : ℕ) → q % 2 ≡ 1 → from ≤ q → q < to → contents_at q other ≡ f (contents_at q held)

range_agrees : (f : Collection → Collection) (held other : Collection) (from s limit to : ℕ) → AgreeBy f held other from to → limit ≤ to
    → IsRangeFrom held from (row_from held s limit) → IsRangeFrom other from (row_from other s limit)
range_agrees f held other from s limit to agree le r =
    let start = r.start in
    let odd = r.odd in
    let rises = r.rises in
    record {
      start = start;
      odd = odd;
      rises = rises;
      shared = λ q o ge lt.
          agree q o ge (omega arith) ∙ ap f (r.shared q o ge lt) ∙ sym (agree s (omega arith) (omega arith) (omega arith));
    }

-- if the change keeps different contents apart, the ranges stay
pub table_agrees : (f : Collection → Collection) (held other : Collection) (from : ℕ) (starts : List ℕ) (to : ℕ)
    → ((xs ys : Collection) → f xs ≡ f ys → xs ≡ ys) → AgreeBy f held other from to → IsTable held from (ranges_from held starts to) to
    → IsTable other from (ranges_from other starts to) to
table_agrees f held other from [] to one agree t = t
table_agrees f held other from (s ∷ []) to one agree t = (range_agrees f held other from s to to agree (omega arith) t.0, tt, refl)
table_agrees f held other from (s ∷ u ∷ us) to one agree t =
    let start = t.0.start in
    let odd = t.0.odd in
    let rises = t.0.rises in
    let odd_too = t.2.0.odd in
    let rises_too = t.2.0.rises in
    let le = table_rises held u (ranges_from held (u ∷ us) to) to t.2 in
    let more = table_rises held _ (ranges_from held us to) to t.2.2 in (
      range_agrees f held other from s u to agree le t.0,
      λ same.
          t.1
          (one (contents_at s held) (contents_at u held)
          (sym (agree s (omega arith) (omega arith) (omega arith)) ∙ same ∙ agree u odd_too (omega arith) (omega arith))),
      table_agrees f held other u (u ∷ us) to one (λ q o ge lt. agree q o (omega arith) lt) t.2,
    )

-- ---- a part in place of another

table_some : (held : Collection) (from to : ℕ) (ranges : List Range) → IsTableOver held from to ranges → from < to
table_some held from to ranges t =
    let some = t.some in
    let k : ℕ = length ranges - 1 in
    let first = t.first in
    let rises = t.rises 0 some in
    let up = limits_rise held from to ranges t 0 k (omega arith) (omega arith) in
    let last = t.last k (omega arith) in
    omega arith

-- between two bounds the ranges are those of the pairs there, with what lies over all leaves between them after each; beside them they stay
pub table_spliced : (old new held over : Collection) (from a b to : ℕ) (s1 s2 s3 starts : List ℕ)
    → IsTableOver old from to (ranges_from old (s1 ++ (s2 ++ s3)) to) → IsTableOver new a b (ranges_from new starts b) → from ≤ a → b ≤ to
    → slice_index_or (s2 ++ s3) 0 to ≡ a → slice_index_or s3 0 to ≡ b
    → ((q : ℕ) → q % 2 ≡ 1 → from ≤ q → q < a → contents_at q held ≡ contents_at q old)
    → ((q : ℕ) → q % 2 ≡ 1 → b ≤ q → q < to → contents_at q held ≡ contents_at q old)
    → ((q : ℕ) → q % 2 ≡ 1 → a ≤ q → q < b → contents_at q held ≡ contents_at q new ++ over) → IsBound held a → IsBound held b
    → IsTableOver held from to (ranges_from held (s1 ++ (starts ++ s3)) to)
table_spliced old new held over from a b to s1 s2 s3 starts t u le ge at_a at_b before after between bound_a bound_b =
    let some = table_some new a b (ranges_from new starts b) u in
    let itself : Collection → Collection = λ cs. cs in
    let parts = subst (λ n. AreParts old from n to s1 (s2 ++ s3)) at_a
    (table_parts old from s1 (s2 ++ s3) to (table_from_places old from to (ranges_from old (s1 ++ (s2 ++ s3)) to) t)) in
    let more = subst (λ n. AreParts old a n to s2 s3) at_b (table_parts old a s2 s3 to parts.after) in
    let front = table_agrees itself old held from s1 a (λ xs ys e. e) before parts.before in
    let rest = table_agrees itself old held b s3 to (λ xs ys e. e) after more.after in
    let block = table_agrees (λ cs. cs ++ over) new held a starts b (λ xs ys e. append_cancel_right xs ys over e) between
    (table_from_places new a b (ranges_from new starts b) u) in
    places_from_table held from to (ranges_from held (s1 ++ (starts ++ s3)) to) (omega arith)
    (tables_meet held from a to s1 (starts ++ s3) bound_a front (tables_meet held a b to starts s3 bound_b block rest))

-- ---- the start at a bound

-- the last start by a leaf at which a held cell begins or ends is that leaf, and so is that by the first leaf
pub start_at_bound : (held : Collection) (from to : ℕ) (starts : List ℕ) (a k : ℕ) → IsTableOver held from to (ranges_from held starts to)
    → a % 2 ≡ 1 → from ≤ a → a < to → (IsBound held a) ⊎ (a ≡ from) → IsLastStart starts a k → slice_index_or starts k 0 ≡ a
start_at_bound held from to starts a k t odd ge lt is last =
    let ranges = ranges_from held starts to in
    let found = found_start held from to starts a k t lt last in
    let within = found.within in
    let by = found.start in
    let limit = found.limit in
    let start_odd = t.odd k within in
    let fits = places_fit held from to ranges t k within in
    let same = range_start held starts to k 0 last.within in
    elim is [
      | inr e ↦ omega arith
      | inl bound ↦
          elim (cases_lt (range_at ranges k).start a) [
            | inr le ↦ omega arith
            | inl less ↦
                (let before : ℕ = a - 2 in
                let two : before + 2 ≡ a = omega arith in
                absurd (changes_by held a bound before two
                (t.shared k before within (omega arith) (omega arith) (omega arith) ∙ sym (t.shared k a within odd (omega arith) limit))))
          ]
    ]

-- ---- starts before a place, and from there on

-- a leaf number in a span, at which a range may start
pub record IsStart (span_from span_to s : ℕ) : Type 0 where
  pub odd : s % 2 ≡ 1
  pub from : span_from ≤ s
  pub to : s < span_to

pub start_within : (held : Collection) (from to : ℕ) (starts : List ℕ) (s : ℕ) → IsTableOver held from to (ranges_from held starts to)
    → Contains starts s → IsStart from to s
start_within held from to starts s t (k, lt, is) =
    let ranges = ranges_from held starts to in
    let many = length_ranges held starts to in
    let within : k < length ranges = omega arith in
    let same = range_start held starts to k s lt in
    let odd = t.odd k within in
    let fits = places_fit held from to ranges t k within in
    let rises = t.rises k within in
    let j : ℕ = length ranges - 1 in
    let up = limits_rise held from to ranges t k j (omega arith) (omega arith) in
    let last = t.last j (omega arith) in
    let here : s ≡ (range_at ranges k).start = omega arith in
    record { odd = ap (λ n. n % 2) here ∙ odd; from = omega arith; to = omega arith }

-- the starts before a place are below the one there, and those from there on are not
pub record IsSplitAt (starts : List ℕ) (k : ℕ) : Type 0 where
  pub before : (s : ℕ) → Contains (take k starts) s → s < slice_index_or starts k 0
  pub after : (s : ℕ) → Contains (drop k starts) s → slice_index_or starts k 0 ≤ s

pub starts_split : (held : Collection) (from to : ℕ) (starts : List ℕ) (k : ℕ) → IsTableOver held from to (ranges_from held starts to)
    → k < length starts → IsSplitAt starts k
starts_split held from to starts k t lt =
    let rise = starts_rise held from to starts t in
    record {
      before = λ s is.
          let i = is.0 in
          let short = is.1 in
          let many = length-take k starts in
          let less : i < k = omega arith in
          let here = sym (get_or-take k starts i s less) ∙ is.2 in
          let zero = get_or_default starts i s 0 (omega arith) in
          let r = rise i k 0 less lt in
          omega arith;
      after = λ s is.
          let i = is.0 in
          let short = is.1 in
          let many = length-drop k starts in
          let here = sym (get_or-drop k starts i s) ∙ is.2 in
          let zero = get_or_default starts (k + i) s 0 (omega arith) in
          elim (cases_lt 0 i) [
            | inl some ↦ (let r = rise k (k + i) 0 (omega arith) (omega arith) in omega arith)
            | inr none ↦ (let same : k + i ≡ k = omega arith in let e = ap (λ n. slice_index_or starts n 0) same in omega arith)
          ];
    }

-- ---- starts in place of those from one place up to another
