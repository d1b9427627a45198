-- Edits that pass no limit: a removal, a label that is dropped, one that is normalised, the copies of one that grows, and the pairs of one
-- that is moved.
use Rattle.std.proofs.Common.{◌≡◌, ◌≢◌, ℕ, suc, ◌+◌, ◌-◌, ◌*◌, ◌≤◌, ◌||◌, ltb, nat_lt, if◌then◌else◌, Bool, true, false, not, List, [], ◌∷◌, Contains, filter, length, refl, sym, ap, ◌∙◌, ⊎_elim, arith, le-ltb, lt-ltb, ◌==◌, eq-eqb, ne_eqb}
use Rattle.std.proofs.lemmas.Bool.{cases_Bool, cases_eq, cases_lt, cond-false, cond-true, or_parts}
use Rattle.std.proofs.lemmas.List.{length-map}
use Rattle.std.proofs.lemmas.List.Filters.{length-filter_both}
use Rattle.s2id_core.specs.declared.cell_id.CellId.{CellId}
use Rattle.s2id_core.specs.CellId.{raw_of}
use Rattle.s2ix_bag_pairs.specs.declared.label.Label.{Label}
use Rattle.s2ix_bag_pairs.specs.declared.pair.Held.{Held}
use Rattle.s2ix_bag_pairs.specs.declared.pair.Pair.{Pair}
use Rattle.s2ix_bag_pairs.specs.Collection.{Collection, LimitedCollection, IsBag, IsCollection, IsCollectionFrom, count_at, count_in, held_with, set_count}
use Rattle.s2ix_bag_pairs.specs.Label.{value_of}
use Rattle.s2ix_bag_pairs.specs.Limits.{count_limit}
use Rattle.s2ix_bag_pairs.specs.OfLabel.{held_of}
use Rattle.s2ix_bag_pairs.specs.Pair.{rank_of}
use Rattle.s2ix_bag_pairs.proofs.Collections.{count_set_other, count_set_same, set_keeps}
use Rattle.s2ix_bag_pairs.proofs.Counts.{count_below, count_head, count_tail}
use Rattle.s2ix_edit_plan.specs.Edit.{is_of, pair_of, with_all_moved, with_each, with_more, with_moved, without_label}
use Rattle.s2ix_edit_plan.specs.Grow.{grown_cells}
use Rattle.s2ix_edit_plan.specs.Refusals.{has_count_above, holds_none}
use Rattle.s2ix_edit_plan.specs.Region.{cell_of, cells_of, region_of}
use Rattle.s2ix_edit_plan.proofs.Above.{count_within, none_above}
use Rattle.s2ix_edit_plan.proofs.AddUnion.{RiseFrom, rise_contains, rises_from_zero, with_each_keeps}
use Rattle.s2ix_edit_plan.proofs.DropLabel.{without_keeps, without_own}
use Rattle.s2ix_edit_plan.proofs.Fewest.{fewest_cells}
use Rattle.s2ix_edit_plan.proofs.Grow.{grown_is_new, grown_rise, in_grown}
use Rattle.s2ix_edit_plan.proofs.LabelCells.{region_normal}
use Rattle.s2ix_edit_plan.proofs.Relabel.{ArePart, part_of, with_moved_keeps, with_moved_other}
use Rattle.s2ix_edit_plan.proofs.Sizes.{length_each, length_held, length_set}

-- ---- counts within a limit

-- a collection each of whose counts is within the limit has none above it
pub small_from_counts : (c n : ℕ) (hs : Collection) → IsCollectionFrom n hs → ((k : ℕ) → count_at hs k ≤ c) → has_count_above c hs ≡ false
small_from_counts c n [] is small = refl
small_from_counts c n (h ∷ hs) is small =
    let own : h.count ≤ c = omega (arith, count_head h hs (rank_of h.pair) refl, small (rank_of h.pair)) in
    let rest = small_from_counts c (rank_of h.pair + 1) hs is.2
    (λ k. ⊎_elim
    (λ here. omega (arith, count_below (rank_of h.pair + 1) hs k is.2 (omega (arith, here))))
    (λ other. omega (arith, count_tail h hs k other, small k))
    (cases_eq (rank_of h.pair) k)) in
    ap (λ t. t || has_count_above c hs) (le-ltb c h.count own) ∙ rest

pub bag_small : (bag : LimitedCollection) (k : ℕ) → IsBag bag → count_at bag.held k ≤ count_limit bag.limits
bag_small bag k b = count_within (count_limit bag.limits) bag.held k (none_above (count_limit bag.limits) bag.held b.small)

-- one copy for each of cells that are held with none
each_small : (c n : ℕ) (label : Label) (cs : List CellId) (hs : Collection) → IsCollection hs → RiseFrom n cs
    → ((x : CellId) → Contains cs x → count_in hs (pair_of x label) ≡ 0) → 1 ≤ c → ((k : ℕ) → count_at hs k ≤ c) → (k : ℕ)
    → count_at (with_each label cs hs) k ≤ c
each_small c n label [] hs is rise none one small k = small k
each_small c n label (x ∷ cs) hs is rise none one small k =
    let p = pair_of x label in
    let first : count_in hs p ≡ 0 = none x (0, omega arith, refl) in
    each_small c (raw_of x + 1) label cs (with_more p 1 hs) (set_keeps p (count_in hs p + 1) hs is) rise.1
    (λ y has.
    count_set_other p (count_in hs p + 1) hs (rank_of (pair_of y label))
    (λ e. let range = label.in_range in omega (arith, e, rise_contains (raw_of x + 1) cs y has.0 rise.1 has.1 has.2))
    ∙ none y (suc has.0, omega (arith, has.1), has.2))
    one
    (λ j. ⊎_elim
    (λ here. omega (arith, one, first, ap (λ i. count_at (with_more p 1 hs) i) here, count_set_same 0 p (count_in hs p + 1) hs is))
    (λ other. omega (arith, small j, count_set_other p (count_in hs p + 1) hs j other))
    (cases_eq (rank_of p) j))
    k

-- ---- a part of a collection

above_part : (c : ℕ) (test : Held → Bool) (hs : Collection) → has_count_above c hs ≡ false → has_count_above c (filter test hs) ≡ false
above_part c test [] none = refl
above_part c test (h ∷ hs) none =
    let parts = or_parts (ltb c h.count) (has_count_above c hs) none in
    let rest = above_part c test hs parts.1 in
    ⊎_elim
    (λ yes.
    ap (λ ks. has_count_above c ks) (cond-true (test h) (h ∷ filter test hs) (filter test hs) yes)
    ∙ ap (λ t. t || has_count_above c (filter test hs)) parts.0 ∙ rest)
    (λ no. ap (λ ks. has_count_above c ks) (cond-false (test h) (h ∷ filter test hs) (filter test hs) no) ∙ rest)
    (cases_Bool (test h))

-- the pairs of a label and those without it
two_parts : (label : Label) (hs : Collection) → length (held_of label hs) + length (without_label label hs) ≡ length hs
two_parts label hs = length-filter_both (is_of label) (λ h. not (is_of label h)) (λ h. refl) hs

-- ---- a removal

-- a count that is set makes no pair more if the pair is held, or stays unheld
pub no_more_set : (m : ℕ) (p : Pair) (n : ℕ) (hs : Collection) → IsCollectionFrom m hs → (count_in hs p ≡ 0 → n ≡ 0)
    → length (set_count p n hs) ≤ length hs
no_more_set m p n [] is none = let zero = ap (λ k. length (held_with p k [])) (none refl) in omega (arith, zero)
no_more_set m p n (h ∷ hs) is none =
    let at_front = held_with p n (h ∷ hs) in
    let after : Collection = if rank_of p == rank_of h.pair then held_with p n hs else h ∷ set_count p n hs in
    ⊎_elim
    (λ lt.
    let absent = count_tail h hs (rank_of p) (λ e. omega (arith, e, lt))
    ∙ count_below (rank_of h.pair + 1) hs (rank_of p) is.2 (omega (arith, lt)) in
    let before = ap length (cond-true (nat_lt (rank_of p) (rank_of h.pair)) at_front after (lt-ltb (rank_of p) (rank_of h.pair) lt)) in
    omega (arith, before, ap (λ k. length (held_with p k (h ∷ hs))) (none absent)))
    (λ le.
    let past = ap length (cond-false (nat_lt (rank_of p) (rank_of h.pair)) at_front after (le-ltb (rank_of p) (rank_of h.pair) le)) in
    ⊎_elim
    (λ same.
    let here = ap length
    (cond-true (rank_of p == rank_of h.pair) (held_with p n hs) (h ∷ set_count p n hs) (eq-eqb (rank_of p) (rank_of h.pair) same)) in
    omega (arith, past, here, length_held p n hs))
    (λ other.
    let rest = ap length
    (cond-false (rank_of p == rank_of h.pair) (held_with p n hs) (h ∷ set_count p n hs) (ne_eqb (rank_of p) (rank_of h.pair) other)) in
    let fewer = no_more_set (rank_of h.pair + 1) p n hs is.2 (λ e. none (count_tail h hs (rank_of p) (λ same. other (sym same)) ∙ e)) in
    omega (arith, past, rest, fewer))
    (cases_eq (rank_of p) (rank_of h.pair)))
    (cases_lt (rank_of p) (rank_of h.pair))

pub removal_small : (bag : LimitedCollection) (p : Pair) (copies : ℕ) → IsBag bag
    → has_count_above (count_limit bag.limits) (set_count p (count_in bag.held p - copies) bag.held) ≡ false
removal_small bag p copies b =
    let n = count_in bag.held p - copies in
    small_from_counts (count_limit bag.limits) 0 (set_count p n bag.held) (set_keeps p n bag.held b.rises)
    (λ k. ⊎_elim
    (λ here.
    omega (arith, ap (λ i. count_at (set_count p n bag.held) i) here, count_set_same 0 p n bag.held b.rises, bag_small bag (rank_of p) b))
    (λ other. omega (arith, count_set_other p n bag.held k other, bag_small bag k b))
    (cases_eq (rank_of p) k))

pub removal_few : (bag : LimitedCollection) (p : Pair) (copies : ℕ) → IsBag bag
    → length (set_count p (count_in bag.held p - copies) bag.held) ≤ length bag.held
removal_few bag p copies b = no_more_set 0 p (count_in bag.held p - copies) bag.held b.rises (λ none. omega (arith, none))

-- ---- a label that is dropped

pub drop_small : (bag : LimitedCollection) (label : Label) → IsBag bag
    → has_count_above (count_limit bag.limits) (without_label label bag.held) ≡ false
drop_small bag label b =
    above_part (count_limit bag.limits) (λ h. not (is_of label h)) bag.held (none_above (count_limit bag.limits) bag.held b.small)

pub drop_few : (bag : LimitedCollection) (label : Label) → length (without_label label bag.held) ≤ length bag.held
drop_few bag label = omega (arith, two_parts label bag.held)

-- if that leaves the collection as it is, no pair of the label is held
pub drop_changes : (label : Label) (hs : Collection) → without_label label hs ≡ hs → holds_none label hs ≡ true
drop_changes label hs same =
    let parts = two_parts label hs in
    let left = ap length same in
    eq-eqb (length (held_of label hs)) 0 (omega (arith, parts, left))

-- ---- one that is moved to another

-- a pair that is held goes if its count is set to 0
one_gone : (m : ℕ) (p : Pair) (hs : Collection) → IsCollectionFrom m hs → count_in hs p ≢ 0 → length (set_count p 0 hs) + 1 ≤ length hs
one_gone m p [] is some = absurd (some refl)
one_gone m p (h ∷ hs) is some =
    let after : Collection = if rank_of p == rank_of h.pair then hs else h ∷ set_count p 0 hs in
    ⊎_elim
    (λ lt.
    let absent = count_tail h hs (rank_of p) (λ e. omega (arith, e, lt))
    ∙ count_below (rank_of h.pair + 1) hs (rank_of p) is.2 (omega (arith, lt)) in
    absurd (some absent))
    (λ le.
    let past = ap length (cond-false (nat_lt (rank_of p) (rank_of h.pair)) (h ∷ hs) after (le-ltb (rank_of p) (rank_of h.pair) le)) in
    ⊎_elim
    (λ same.
    let here = ap length (cond-true (rank_of p == rank_of h.pair) hs (h ∷ set_count p 0 hs) (eq-eqb (rank_of p) (rank_of h.pair) same)) in
    omega (arith, past, here))
    (λ other.
    let rest = ap length (cond-false (rank_of p == rank_of h.pair) hs (h ∷ set_count p 0 hs) (ne_eqb (rank_of p) (rank_of h.pair) other)) in
    let fewer = one_gone (rank_of h.pair + 1) p hs is.2 (λ e. some (count_tail h hs (rank_of p) (λ same. other (sym same)) ∙ e)) in
    omega (arith, past, rest, fewer))
    (cases_eq (rank_of p) (rank_of h.pair)))
    (cases_lt (rank_of p) (rank_of h.pair))

-- each held pair of the label goes, and at most one comes in its place
all_moved_few : (hs ks : Collection) (v m : ℕ) (target : Label) (rest : List Held) → ArePart hs v m rest → IsCollection ks
    → ((k : ℕ) → m * 2147483648 ≤ k → count_at hs k ≡ count_at ks k) → length (with_all_moved target rest ks) ≤ length ks
all_moved_few hs ks v m target [] part is same = omega arith
all_moved_few hs ks v m target (h ∷ rest) part is same =
    let own_range = h.pair.label.in_range in
    let range = target.in_range in
    let p = h.pair in
    let q = pair_of h.pair.cell target in
    let less = set_count p 0 ks in
    let here : count_in ks p ≡ h.count = sym (same (rank_of p) (omega (arith, part.0))) ∙ part.3 in
    let gone = one_gone 0 p ks is (λ e. omega (arith, e, here, part.2)) in
    let come = length_set q (count_in less q + h.count) less in
    let later = all_moved_few hs (with_moved target h ks) v (raw_of h.pair.cell + 1) target rest part.4 (with_moved_keeps target h ks is)
    (λ k le.
    same k (omega (arith, le, part.0))
    ∙ sym (with_moved_other target h ks k (λ e. omega (arith, e, le, own_range)) (λ e. omega (arith, e, le, range)))) in
    omega (arith, gone, come, later)

pub moved_few : (bag : LimitedCollection) (source target : Label) → IsBag bag
    → length (with_all_moved target (held_of source bag.held) bag.held) ≤ length bag.held
moved_few bag source target b =
    all_moved_few bag.held bag.held (value_of source) 0 target (held_of source bag.held) (part_of bag.held source b.rises) b.rises
    (λ k le. refl)

-- ---- one that is normalised

pub normal_small : (bag : LimitedCollection) (label : Label) → IsBag bag
    → has_count_above (count_limit bag.limits) (with_each label (region_of label bag.held) (without_label label bag.held)) ≡ false
normal_small bag label b =
    let cs = region_of label bag.held in
    let rest = without_label label bag.held in
    let rest_is = without_keeps label bag.held b.rises in
    let one : 1 ≤ count_limit bag.limits = bag.limits.in_range.2 in
    small_from_counts (count_limit bag.limits) 0 (with_each label cs rest) (with_each_keeps label cs rest rest_is)
    (each_small (count_limit bag.limits) 0 label cs rest rest_is (rises_from_zero cs (region_normal label bag.held).rises)
    (λ x has. without_own label bag.held (pair_of x label) refl)
    one
    (λ k. count_within (count_limit bag.limits) rest k (drop_small bag label b)))

pub normal_few : (bag : LimitedCollection) (label : Label)
    → length (with_each label (region_of label bag.held) (without_label label bag.held)) ≤ length bag.held
normal_few bag label =
    let hs = bag.held in
    omega (
      arith,
      length_each label (region_of label hs) (without_label label hs),
      fewest_cells (cells_of label hs),
      length-map (held_of label hs) cell_of,
      two_parts label hs,
    )

-- ---- one that grows

pub grown_small : (bag : LimitedCollection) (label : Label) (level : ℕ) → IsBag bag
    → has_count_above (count_limit bag.limits) (with_each label (grown_cells label level bag.held) bag.held) ≡ false
grown_small bag label level b =
    let cs = grown_cells label level bag.held in
    let one : 1 ≤ count_limit bag.limits = bag.limits.in_range.2 in
    small_from_counts (count_limit bag.limits) 0 (with_each label cs bag.held) (with_each_keeps label cs bag.held b.rises)
    (each_small (count_limit bag.limits) 0 label cs bag.held b.rises (rises_from_zero cs (grown_rise label level bag.held))
    (λ x has. grown_is_new label level bag.held x ((in_grown label level bag.held x).0 has))
    one
    (λ k. bag_small bag k b))
