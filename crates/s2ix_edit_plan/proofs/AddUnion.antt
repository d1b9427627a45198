-- One copy more for each cell of a rising list.
use Rattle.std.proofs.Common.{◌≡◌, ◌≢◌, ℕ, zero, suc, ◌+◌, ◌*◌, ◌<◌, ◌≤◌, true, List, [], ◌∷◌, length, AllPairs, Contains, map, get_or, refl, sym, ap, ◌∙◌, subst, arith}
use Rattle.s2id_core.specs.declared.cell_id.CellId.{CellId}
use Rattle.s2id_core.specs.CellId.{raw_of}
use Rattle.s2ix_bag_pairs.specs.declared.label.Label.{Label}
use Rattle.s2ix_bag_pairs.specs.declared.pair.Entry.{Entry}
use Rattle.s2ix_bag_lists.specs.Apply.{AreBefore}
use Rattle.s2ix_bag_pairs.specs.Change.{changed, IsChangeListFrom}
use Rattle.s2ix_bag_pairs.specs.Collection.{Collection, LimitedCollection, IsCollection, count_at, count_in, set_count}
use Rattle.s2ix_bag_pairs.specs.Pair.{rank_of}
use Rattle.s2ix_bag_pairs.proofs.Changes.{change_lower}
use Rattle.s2ix_bag_pairs.proofs.Collections.{count_set_other, count_set_same, set_keeps}
use Rattle.s2ix_bag_lists.proofs.Refusals.{no_mismatch}
use Rattle.s2ix_edit_plan.specs.Edit.{pair_of, with_each, with_more}
use Rattle.s2ix_edit_plan.proofs.Plans.{Makes}
use Rattle.s2ix_edit_plan.specs.Refusals.{has_count_above_every_limit}
use Rattle.s2ix_edit_plan.proofs.Above.{above_from_count}

-- the entry that gives one cell a copy more
abbrev pub addition : Collection → Label → CellId → Entry
addition hs label c = record { pair = pair_of c label; before = count_in hs (pair_of c label); after = count_in hs (pair_of c label) + 1 }

-- cells that rise strictly from a number on
abbrev pub RiseFrom : ℕ → List CellId → Type 0
RiseFrom n [] = Unit {0}
RiseFrom n (c ∷ cs) = (n ≤ raw_of c) × RiseFrom (raw_of c + 1) cs

rise_from : (n : ℕ) (cs : List CellId) → AllPairs (λ a b. raw_of a < raw_of b) cs
    → ((k : ℕ) (d : CellId) → k < length cs → n ≤ raw_of (get_or cs k d)) → RiseFrom n cs
rise_from n [] pairs low = tt
rise_from n (c ∷ cs) pairs low = (
  low 0 c (omega arith),
  rise_from (raw_of c + 1) cs (λ i j d lt within. pairs (suc i) (suc j) d (omega arith) (omega arith))
      (λ k d within. omega (arith, pairs 0 (suc k) d (omega arith) (omega arith))),
)

pub rises_from_zero : (cs : List CellId) → AllPairs (λ a b. raw_of a < raw_of b) cs → RiseFrom 0 cs
rises_from_zero cs pairs = rise_from 0 cs pairs (λ k d within. omega arith)

additions_rise : (n : ℕ) (hs : Collection) (label : Label) (cs : List CellId) → RiseFrom n cs
    → IsChangeListFrom (n * 2147483648) (map (addition hs label) cs)
additions_rise n hs label [] rise = tt
additions_rise n hs label (c ∷ cs) rise = (
  omega (arith, rise.0),
  (λ e. omega (arith, e)),
  change_lower (rank_of (pair_of c label) + 1) ((raw_of c + 1) * 2147483648) (map (addition hs label) cs)
      (let range = label.in_range in omega (arith, range))
      (additions_rise (raw_of c + 1) hs label cs rise.1),
)

additions_before : (hs : Collection) (label : Label) (cs : List CellId) → AreBefore hs (map (addition hs label) cs)
additions_before hs label [] = tt
additions_before hs label (c ∷ cs) = (refl, additions_before hs label cs)

additions_change : (n : ℕ) (hs ks : Collection) (label : Label) (cs : List CellId) → RiseFrom n cs
    → ((k : ℕ) → n * 2147483648 ≤ k → count_at hs k ≡ count_at ks k) → changed ks (map (addition hs label) cs) ≡ with_each label cs ks
additions_change n hs ks label [] rise same = refl
additions_change n hs ks label (c ∷ cs) rise same =
    let range = label.in_range in
    let p = pair_of c label in
    let here : count_in hs p ≡ count_in ks p = same (rank_of p) (omega (arith, rise.0)) in
    ap (λ m. changed (set_count p (m + 1) ks) (map (addition hs label) cs)) here
    ∙ additions_change (raw_of c + 1) hs (with_more p 1 ks) label cs rise.1
    (λ k le. same k (omega (arith, rise.0, le)) ∙ sym (count_set_other p (count_in ks p + 1) ks k (λ e. omega (arith, e, le, range))))

-- the entries of the cells make the collection with one copy more for each
pub additions_make : (bag : LimitedCollection) (label : Label) (cs : List CellId) → AllPairs (λ a b. raw_of a < raw_of b) cs
    → Makes bag (with_each label cs bag.held) (map (addition bag.held label) cs)
additions_make bag label cs pairs =
    let rise = rises_from_zero cs pairs in
    record {
      rises = change_lower 0 (0 * 2147483648) (map (addition bag.held label) cs) (omega arith) (additions_rise 0 bag.held label cs rise);
      matches = no_mismatch bag.held (map (addition bag.held label) cs) (additions_before bag.held label cs);
      result = additions_change 0 bag.held bag.held label cs rise (λ k le. refl);
    }

-- ---- the counts

pub with_each_keeps : (label : Label) (cs : List CellId) (hs : Collection) → IsCollection hs → IsCollection (with_each label cs hs)
with_each_keeps label [] hs is = is
with_each_keeps label (c ∷ cs) hs is =
    with_each_keeps label cs (with_more (pair_of c label) 1 hs) (set_keeps (pair_of c label) (count_in hs (pair_of c label) + 1) hs is)

-- a pair that is none of the cells' under the label keeps its count
pub with_each_other : (label : Label) (cs : List CellId) (hs : Collection) (k : ℕ)
    → ((c : CellId) → Contains cs c → rank_of (pair_of c label) ≢ k) → count_at (with_each label cs hs) k ≡ count_at hs k
with_each_other label [] hs k apart = refl
with_each_other label (c ∷ cs) hs k apart =
    with_each_other label cs (with_more (pair_of c label) 1 hs) k (λ d has. apart d (suc has.0, omega (arith, has.1), has.2))
    ∙ count_set_other (pair_of c label) (count_in hs (pair_of c label) + 1) hs k (apart c (0, omega arith, refl))

-- none of them is before that number
pub rise_contains : (n : ℕ) (cs : List CellId) (c : CellId) (k : ℕ) → RiseFrom n cs → k < length cs → get_or cs k c ≡ c → n ≤ raw_of c
rise_contains n [] c k rise within is = absurd (omega arith)
rise_contains n (b ∷ cs) c zero rise within is = omega (arith, rise.0, ap raw_of is)
rise_contains n (b ∷ cs) c (suc k) rise within is = omega (arith, rise.0, rise_contains (raw_of b + 1) cs c k rise.1 (omega arith) is)

each_at : (n : ℕ) (label : Label) (cs : List CellId) (hs : Collection) (c : CellId) (k : ℕ) → IsCollection hs → RiseFrom n cs
    → k < length cs → get_or cs k c ≡ c → count_in (with_each label cs hs) (pair_of c label) ≡ count_in hs (pair_of c label) + 1
each_at n label [] hs c k is rise within found = absurd (omega arith)
each_at n label (b ∷ cs) hs c zero is rise within found =
    let Raised : CellId → Type 0 = λ x. count_in (with_each label (b ∷ cs) hs) (pair_of x label) ≡ count_in hs (pair_of x label) + 1 in
    let range = label.in_range in
    subst Raised found
    (with_each_other label cs (with_more (pair_of b label) 1 hs) (rank_of (pair_of b label))
    (λ d has e. omega (arith, e, rise_contains (raw_of b + 1) cs d has.0 rise.1 has.1 has.2))
    ∙ count_set_same 0 (pair_of b label) (count_in hs (pair_of b label) + 1) hs is)
each_at n label (b ∷ cs) hs c (suc k) is rise within found =
    let later = rise_contains (raw_of b + 1) cs c k rise.1 (omega arith) found in
    each_at (raw_of b + 1) label cs (with_more (pair_of b label) 1 hs) c k
    (set_keeps (pair_of b label) (count_in hs (pair_of b label) + 1) hs is) rise.1 (omega arith) found
    ∙ ap (λ m. m + 1)
    (count_set_other (pair_of b label) (count_in hs (pair_of b label) + 1) hs (rank_of (pair_of c label)) (λ e. omega (arith, e, later)))

-- a cell's pair under the label has one copy more
pub with_each_same : (label : Label) (cs : List CellId) (hs : Collection) (c : CellId) → IsCollection hs
    → AllPairs (λ a b. raw_of a < raw_of b) cs → Contains cs c
    → count_in (with_each label cs hs) (pair_of c label) ≡ count_in hs (pair_of c label) + 1
with_each_same label cs hs c is pairs has = each_at 0 label cs hs c has.0 is (rises_from_zero cs pairs) has.1 has.2

-- a sum that no `u32` holds is a count above every limit
pub addition_above : (label : Label) (cs : List CellId) (hs : Collection) (c : CellId) → IsCollection hs
    → AllPairs (λ a b. raw_of a < raw_of b) cs → Contains cs c → 4294967296 ≤ count_in hs (pair_of c label) + 1
    → has_count_above_every_limit (with_each label cs hs) ≡ true
addition_above label cs hs c is pairs has high =
    let sum = with_each_same label cs hs c is pairs has in
    above_from_count 4294967295 (with_each label cs hs) (rank_of (pair_of c label)) (omega (arith, sum, high))
