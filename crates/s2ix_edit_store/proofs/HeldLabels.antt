-- What each label's totals are before any pair is counted, after each, and after all.
use Rattle.std.proofs.Common.{◌≡◌, ◌↔◌, ◌<◌, ◌≤◌, ◌+◌, ◌∙◌, ℕ, inl, inr, Ordering, nat_eq, All, AllPairs, zero, suc, true, false, not, List, [], ◌∷◌, ◌++◌, length, map, get_or, set, refl, sym, ap, subst, arith, Contains}
use Rattle.std.specs.Prelude.{◌==◌}
use Rattle.std.specs.List.{HoldsAt}
use Rattle.std.specs.List.Retain.{IsFiltered, DiffersFromLast}
use Rattle.std.specs.List.Sorted.{IsNonDecreasingBy, IsPartitionPoint, IsPermutation, IsSorted}
use Rattle.std.specs.Ordering.{nat_cmp, on, ordering_index}
use Rattle.std.proofs.lemmas.Bool.{cases_eq, cases_lt, cond-false, cond-true}
use Rattle.std.proofs.lemmas.Bool.Decides.{nat_tests}
use Rattle.std.proofs.lemmas.List.{append-nil, append_assoc, get_or-map, length-append, map-id}
use Rattle.std.proofs.lemmas.Simd.{map-map}
use Rattle.std.proofs.lemmas.List.Elements.{All-map, filter-append}
use Rattle.std.proofs.lemmas.List.Filters.{length-filter_both, sum_by-filter_both}
use Rattle.std.proofs.lemmas.List.Sums.{sum_by-append, sum_by-cons}
use Rattle.s2id_core.proofs.Lists.{at_head, cons_cases, head_pairs, in_tail, none_in_nil, tail_pairs}
use Rattle.s2id_core.proofs.Sorted.{rising_by, same_members}
use Rattle.s2ix_bag_pairs.specs.declared.label.Label.{Label}
use Rattle.s2ix_bag_pairs.specs.declared.pair.Held.{Held}
use Rattle.s2ix_bag_pairs.specs.Collection.{Collection, copies_in}
use Rattle.s2ix_bag_pairs.specs.Label.{value_of}
use Rattle.s2ix_bag_pairs.specs.OfLabel.{held_of}
use Rattle.s2ix_bag_pairs.proofs.Pairs.{same_label}
use Rattle.s2ix_table_walk.specs.LabelList.{label_list}
use Rattle.s2ix_table_walk.proofs.LabelList.{is_label_list, label_list_is}
use Rattle.s2ix_table_queries.proofs.Labelling.{label_list_from_rising}
use Rattle.s2ix_edit_store.specs.declared.held_labels.HeldLabel.{HeldLabel}
use Rattle.s2ix_edit_store.specs.HeldLabels.{counted_with, held_labels, label_in, name_of, total_of}

-- ---- a search in rising labels finds each of them

ordered : (m n k : ℕ) → m ≤ n → ordering_index (nat_cmp m k) ≤ ordering_index (nat_cmp n k)
ordered m n k le = grind (arith, nat_tests)

not_less : (n : ℕ) → nat_cmp n n ≡ Ordering.Less → ⊥
not_less n is = grind (arith, nat_tests)

not_greater : (n : ℕ) → nat_cmp n n ≡ Ordering.Greater → ⊥
not_greater n is = grind (arith, nat_tests)

equal_number : (m n : ℕ) → nat_cmp m n ≡ Ordering.Equal → m ≡ n
equal_number m n is = grind (arith, nat_tests)

module _ (labels : List Label) (label : Label) where
  pub not_missing : AllPairs (λ l m. value_of l < value_of m) labels → Contains labels label → (place : ℕ)
      → (IsNonDecreasingBy (λ l. ordering_index (nat_cmp (value_of l) (value_of label))) labels
      → IsPartitionPoint (λ l. nat_cmp (value_of l) (value_of label) ≡ Ordering.Less) (λ l. nat_cmp (value_of l) (value_of label) ≡ Ordering.Greater)
      labels place) → ⊥
  not_missing rise has place parts =
      let up : (i j : ℕ) (d : Label) → i ≤ j → j < length labels → value_of (get_or labels i d) ≤ value_of (get_or labels j d) =
      λ i j d le within.
      elim (cases_eq i j) [
        | inl same ↦ let equal = ap (λ k. value_of (get_or labels k d)) same in omega arith
        | inr other ↦ let less = rise i j d (omega arith) within in omega arith
      ] in
      let both = parts (λ i j d le within. ordered (value_of (get_or labels i d)) (value_of (get_or labels j d)) (value_of label) (up i j d le within)) in
      elim (cases_lt has.0 place) [
        | inl before ↦
            not_less (value_of label)
            (subst (λ (l : Label). nat_cmp (value_of l) (value_of label) ≡ Ordering.Less) has.2 (both.0 has.0 label (omega arith) before))
        | inr after ↦
            not_greater (value_of label)
            (subst (λ (l : Label). nat_cmp (value_of l) (value_of label) ≡ Ordering.Greater) has.2 (both.1 has.0 label after has.1))
      ]

  pub is_found : (place : ℕ) → place < length labels → HoldsAt (λ l. nat_cmp (value_of l) (value_of label) ≡ Ordering.Equal) labels place
      → get_or labels place label ≡ label
  is_found place within equal = same_label (get_or labels place label) label (equal_number _ _ (equal label))

-- ---- the labels of pairs

pub label_in_map : (hs : Collection) (l : Label) → Contains (map label_in hs) l ↔ ((h : Held) × Contains hs h × (h.pair.label ≡ l))
label_in_map [] l = (λ c. absurd (none_in_nil l c), λ r. absurd (none_in_nil r.0 r.1))
label_in_map (h ∷ hs) l = (
  λ c.
      elim (cons_cases h.pair.label (map label_in hs) l c) [
        | inl is ↦ (h, at_head h hs, is)
        | inr later ↦ let r = (label_in_map hs l).0 later in (r.0, in_tail h hs r.0 r.1, r.2)
      ],
  λ r.
      elim (cons_cases h hs r.0 r.1) [
        | inl same ↦
            subst (Contains (map label_in (h ∷ hs))) (ap (λ (k : Held). k.pair.label) same ∙ r.2) (at_head h.pair.label (map label_in hs))
        | inr later ↦ in_tail h.pair.label (map label_in hs) l ((label_in_map hs l).1 (r.0, later, r.2))
      ],
)

pub sorted_labels : (hs : Collection) (xs ys zs : List Label) → xs ≡ map label_in hs → IsPermutation xs ys → IsSorted (on value_of nat_cmp) ys
    → IsFiltered (DiffersFromLast (on value_of nat_eq)) [] ys zs → zs ≡ label_list hs
sorted_labels hs xs ys zs are permutes sorted filtered =
    is_label_list hs zs
    (label_list_from_rising hs xs zs
    (λ l. subst (λ (ls : List Label). Contains ls l ↔ ((h : Held) × Contains hs h × (h.pair.label ≡ l))) (sym are) (label_in_map hs l))
    (rising_by value_of ys zs sorted filtered)
    (λ l. let same = same_members value_of same_label xs ys zs permutes filtered l in (same.1, same.0)))

-- ---- the totals of a part are no greater than those of the whole

module _ (label : Label) (hs : Collection) where
  pub few_with : length (held_of label hs) ≤ length hs
  few_with =
      omega (
        arith,
        length-filter_both (λ (h : Held). value_of h.pair.label == value_of label) (λ (h : Held). not (value_of h.pair.label == value_of label))
            (λ _. refl) hs,
      )

  pub copies_with : copies_in (held_of label hs) ≤ copies_in hs
  copies_with =
      omega (
        arith,
        sum_by-filter_both (λ (h : Held). value_of h.pair.label == value_of label) (λ (h : Held). not (value_of h.pair.label == value_of label))
            (λ _. refl) (λ (h : Held). h.count) hs,
      )

-- ---- a pair more

module _ (hs : Collection) (h : Held) where
  abbrev totals : Label → Collection → HeldLabel
  totals label ks = record { label = label; pairs = length ks; copies = copies_in ks }

  more : (label : Label) → held_of label (hs ++ h ∷ []) ≡ held_of label hs ++ held_of label (h ∷ [])
  more label = filter-append (λ (k : Held). value_of k.pair.label == value_of label) hs (h ∷ [])

  other_total : (label : Label) → (value_of h.pair.label == value_of label) ≡ false → total_of hs label ≡ total_of (hs ++ h ∷ []) label
  other_total label other =
      let none : held_of label (h ∷ []) ≡ [] = cond-false _ _ _ other in
      sym (ap (totals label) (more label ∙ ap (λ ks. held_of label hs ++ ks) none ∙ append-nil (held_of label hs)))

  own_total : counted_with (total_of hs h.pair.label) h ≡ total_of (hs ++ h ∷ []) h.pair.label
  own_total =
      let label = h.pair.label in
      let ks = held_of label hs in
      let own : (value_of label == value_of label) ≡ true = grind arith in
      let one : held_of label (h ∷ []) ≡ h ∷ [] = cond-true _ _ _ own in
      let pairs : length (ks ++ h ∷ []) ≡ length ks + 1 = length-append ks (h ∷ []) in
      let copies : copies_in (ks ++ h ∷ []) ≡ copies_in ks + h.count = omega (arith, sum_by-append (λ (k : Held). k.count) ks (h ∷ [])) in
      let same : total_of (hs ++ h ∷ []) label ≡ totals label (ks ++ h ∷ []) = ap (totals label) (more label ∙ ap (λ js. ks ++ js) one) in
      let counts : totals label (ks ++ h ∷ []) ≡ counted_with (total_of hs label) h =
      ap (λ (n : ℕ). record { label = label; pairs = n; copies = copies_in (ks ++ h ∷ []) }) pairs
      ∙ ap (λ (n : ℕ). record { label = label; pairs = length ks + 1; copies = n }) copies in
      sym (same ∙ counts)

  other_totals : (labels : List Label) → ((l : Label) → Contains labels l → value_of h.pair.label < value_of l)
      → map (total_of hs) labels ≡ map (total_of (hs ++ h ∷ [])) labels
  other_totals [] above = refl
  other_totals (l ∷ ls) above =
      let here = above l (at_head l ls) in
      let other : (value_of h.pair.label == value_of l) ≡ false = grind arith in
      ap (λ (t : HeldLabel). t ∷ map (total_of hs) ls) (other_total l other)
      ∙ ap (λ ts. total_of (hs ++ h ∷ []) l ∷ ts) (other_totals ls (λ k c. above k (in_tail l ls k c)))

  -- if labels rise and have the pair's, only its totals change
  counted : (labels : List Label) (place : ℕ) → AllPairs (λ l m. value_of l < value_of m) labels → place < length labels
      → get_or labels place h.pair.label ≡ h.pair.label
      → set (map (total_of hs) labels) place (counted_with (total_of hs h.pair.label) h) ≡ map (total_of (hs ++ h ∷ [])) labels
  counted [] place rises within is = absurd (omega arith)
  counted (l ∷ ls) zero rises within is =
      ap (λ (t : HeldLabel). t ∷ map (total_of hs) ls) (own_total ∙ ap (total_of (hs ++ h ∷ [])) (sym is))
      ∙ ap (λ ts. total_of (hs ++ h ∷ []) l ∷ ts)
      (other_totals ls (λ k c. subst (λ (x : Label). value_of x < value_of k) is (head_pairs (λ a b. value_of a < value_of b) l ls rises k c)))
  counted (l ∷ ls) (suc place) rises within is =
      let above = head_pairs (λ a b. value_of a < value_of b) l ls rises h.pair.label (place, omega arith, is) in
      let other : (value_of h.pair.label == value_of l) ≡ false = grind arith in
      ap (λ (t : HeldLabel). t ∷ set (map (total_of hs) ls) place (counted_with (total_of hs h.pair.label) h)) (other_total l other)
      ∙ ap (λ ts. total_of (hs ++ h ∷ []) l ∷ ts) (counted ls place (tail_pairs (λ a b. value_of a < value_of b) l ls rises) (omega arith) is)

-- ---- one step of the count, and what comes to it

is_among : (ks : Collection) (h : Held) (rest : Collection) → Contains (ks ++ h ∷ rest) h
is_among [] h rest = at_head h rest
is_among (k ∷ ks) h rest = in_tail k (ks ++ h ∷ rest) h (is_among ks h rest)

module _ (hs : Collection) (labels : List Label) (are : labels ≡ label_list hs) where
  pub labels_rise : AllPairs (λ l m. value_of l < value_of m) labels
  labels_rise = subst (λ (ls : List Label). AllPairs (λ l m. value_of l < value_of m) ls) (sym are) (label_list_is hs).rises

  module _ (before after rest : Collection) (h : Held) (whole : before ++ after ≡ hs) (next : after ≡ h ∷ rest) where
    parts : before ++ h ∷ rest ≡ hs
    parts = ap (λ ks. before ++ ks) (sym next) ∙ whole

    pub one_moved : (before ++ h ∷ []) ++ rest ≡ hs
    one_moved = append_assoc before (h ∷ []) rest ∙ parts

    pub label_is_held : Contains labels h.pair.label
    label_is_held =
        subst (λ (ls : List Label). Contains ls h.pair.label) (sym are)
        (((label_list_is hs).each h.pair.label).1 (h, subst (λ (ks : Collection). Contains ks h) parts (is_among before h rest), refl))

    module _ (all : List HeldLabel) (place : ℕ) (counts : all ≡ map (total_of before) labels) (within : place < length labels)
        (found : get_or labels place h.pair.label ≡ h.pair.label) (old : HeldLabel) (was : old ≡ get_or all place old) where
      was_total : old ≡ total_of before h.pair.label
      was_total =
          was ∙ ap (λ (ts : List HeldLabel). get_or ts place old) counts ∙ get_or-map (total_of before) labels place h.pair.label old within
          ∙ ap (total_of before) found

      pub fewer : old.pairs < length hs
      fewer =
          let within_limit = few_with h.pair.label before in
          let is : old.pairs ≡ length (held_of h.pair.label before) = ap (λ (t : HeldLabel). t.pairs) was_total in
          let long = ap length parts in
          omega (arith, within_limit, is, long, length-append before (h ∷ rest))

      pub lesser : old.copies + h.count ≤ copies_in hs
      lesser =
          let within_limit = copies_with h.pair.label before in
          let is : old.copies ≡ copies_in (held_of h.pair.label before) = ap (λ (t : HeldLabel). t.copies) was_total in
          let sum = ap copies_in parts in
          omega (arith, within_limit, is, sum, sum_by-append (λ (k : Held). k.count) before (h ∷ rest), sum_by-cons (λ (k : Held). k.count) h rest)

      pub next_totals : set all place (counted_with old h) ≡ map (total_of (before ++ h ∷ [])) labels
      next_totals =
          ap (λ (t : HeldLabel). set all place (counted_with t h)) was_total
          ∙ ap (λ (ts : List HeldLabel). set ts place (counted_with (total_of before h.pair.label) h)) counts
          ∙ counted before h labels place labels_rise within found

-- ---- no pairs

pub none_held : (hs : Collection) → length hs ≡ 0 → held_labels hs ≡ []
unfolding label_list
none_held [] none = refl
none_held (h ∷ hs) none = absurd (omega (arith, none))

-- ---- what is told of the list

module _ (hs : Collection) (list : List HeldLabel) (is : list ≡ held_labels hs) where
  pub all_labels : map name_of list ≡ label_list hs
  all_labels = ap (map name_of) is ∙ map-map name_of (total_of hs) (label_list hs) ∙ map-id (label_list hs)

  of_each : (P : HeldLabel → Type 0) → ((label : Label) → P (total_of hs label)) → All P list
  of_each P each = subst (All P) (sym is) (All-map P (total_of hs) (label_list hs) (λ k d within. each (get_or (label_list hs) k d)))

  pub all_pairs : All (λ total. total.pairs ≡ length (held_of total.label hs)) list
  all_pairs = of_each (λ (t : HeldLabel). t.pairs ≡ length (held_of t.label hs)) (λ label. refl)

  pub all_copies : All (λ total. total.copies ≡ copies_in (held_of total.label hs)) list
  all_copies = of_each (λ (t : HeldLabel). t.copies ≡ copies_in (held_of t.label hs)) (λ label. refl)

  pub all_few : (most : ℕ) → length hs ≤ most → All (λ total. total.pairs ≤ most) list
  all_few most within_limit = of_each (λ (t : HeldLabel). t.pairs ≤ most) (λ label. let within = few_with label hs in omega arith)

-- ---- totals are the same if their parts are

pub same_totals : (a b : HeldLabel) → value_of a.label ≡ value_of b.label → a.pairs ≡ b.pairs → a.copies ≡ b.copies → a ≡ b
same_totals a b label pairs copies =
    ap (λ (l : Label). record { label = l; pairs = a.pairs; copies = a.copies }) (same_label a.label b.label label)
    ∙ ap (λ (n : ℕ). record { label = b.label; pairs = n; copies = a.copies }) pairs
    ∙ ap (λ (n : ℕ). record { label = b.label; pairs = b.pairs; copies = n }) copies
