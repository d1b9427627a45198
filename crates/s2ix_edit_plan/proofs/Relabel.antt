-- The copies of one label's pairs moved to another label.
use Rattle.std.proofs.Common.{◌≡◌, ◌≢◌, ℕ, ◌+◌, ◌*◌, ◌<◌, ◌≤◌, ltb, true, List, [], ◌∷◌, ◌++◌, refl, sym, ap, ap₂, ◌∙◌, subst, ⊎_elim, arith, lt-ltb, le-ltb}
use Rattle.std.specs.List.{flat_map}
use Rattle.std.proofs.lemmas.Bool.{cases_eq, cases_lt, cond-true, cond-false}
use Rattle.std.proofs.lemmas.Grind.{flat_map-append}
use Rattle.std.proofs.lemmas.List.{append-nil}
use Rattle.s2id_core.specs.declared.cell_id.CellId.{CellId}
use Rattle.s2id_core.specs.CellId.{raw_of}
use Rattle.s2ix_bag_pairs.specs.declared.label.Label.{Label}
use Rattle.s2ix_bag_pairs.specs.declared.pair.Pair.{Pair}
use Rattle.s2ix_bag_pairs.specs.declared.pair.Held.{Held}
use Rattle.s2ix_bag_pairs.specs.declared.pair.Entry.{Entry}
use Rattle.s2ix_bag_lists.specs.Apply.{AreBefore}
use Rattle.s2ix_bag_pairs.specs.Change.{changed, removal_of, IsChangeListFrom}
use Rattle.s2ix_bag_pairs.specs.Collection.{Collection, LimitedCollection, IsCollection, IsCollectionFrom, count_at, count_in, set_count}
use Rattle.s2ix_bag_pairs.specs.Label.{value_of}
use Rattle.s2ix_bag_pairs.specs.OfLabel.{held_of}
use Rattle.s2ix_bag_pairs.specs.Pair.{rank_of}
use Rattle.s2ix_bag_pairs.proofs.Changes.{change_lower}
use Rattle.s2ix_bag_pairs.proofs.Collections.{count_set_other, count_set_same, same_collection, set_keeps}
use Rattle.s2ix_bag_pairs.proofs.Counts.{count_head, count_tail}
use Rattle.s2ix_bag_pairs.proofs.OfLabel.{count_of_own, held_of_head, held_of_tail, same_label_at}
use Rattle.s2ix_bag_lists.proofs.Refusals.{no_mismatch}
use Rattle.s2ix_edit_plan.specs.Edit.{with_all_moved, with_moved, pair_of}
use Rattle.s2ix_edit_plan.specs.Plan.{move_entries}
use Rattle.s2ix_edit_plan.proofs.Plans.{Makes}
use Rattle.s2ix_edit_plan.specs.Refusals.{has_count_above_every_limit}
use Rattle.s2ix_edit_plan.proofs.Above.{above_from_count}

-- ---- the counts of two pairs set

-- in either order
set_commutes : (p q : Pair) (m n : ℕ) (hs : Collection) → IsCollection hs → rank_of p ≢ rank_of q
    → set_count p m (set_count q n hs) ≡ set_count q n (set_count p m hs)
set_commutes p q m n hs is apart =
    let one = set_count q n hs in
    let other = set_count p m hs in
    let one_is = set_keeps q n hs is in
    let other_is = set_keeps p m hs is in
    same_collection (set_count p m one) (set_count q n other) (set_keeps p m one one_is) (set_keeps q n other other_is)
    (λ r. ⊎_elim
    (λ at_p.
    ap (λ k. count_at (set_count p m one) k) (sym at_p) ∙ count_set_same 0 p m one one_is
    ∙ sym (count_set_other q n other (rank_of r) (λ e. apart (at_p ∙ sym e)) ∙ ap (λ k. count_at other k) (sym at_p)
    ∙ count_set_same 0 p m hs is))
    (λ not_p. ⊎_elim
    (λ at_q.
    count_set_other p m one (rank_of r) not_p ∙ ap (λ k. count_at one k) (sym at_q) ∙ count_set_same 0 q n hs is
    ∙ sym (ap (λ k. count_at (set_count q n other) k) (sym at_q) ∙ count_set_same 0 q n other other_is))
    (λ not_q.
    count_set_other p m one (rank_of r) not_p ∙ count_set_other q n hs (rank_of r) not_q
    ∙ sym (count_set_other q n other (rank_of r) not_q ∙ count_set_other p m hs (rank_of r) not_p))
    (cases_eq (rank_of q) (rank_of r)))
    (cases_eq (rank_of p) (rank_of r)))

-- ---- the held pairs of one label

-- held pairs of the label with a number, at cells that rise strictly from a number on, with their counts in a collection
abbrev pub ArePart : Collection → ℕ → ℕ → List Held → Type 0
ArePart hs v m [] = Unit {0}
ArePart hs v m (h ∷ rest) =
    (m ≤ raw_of h.pair.cell) × (value_of h.pair.label ≡ v) × (0 < h.count) × (count_in hs h.pair ≡ h.count)
    × ArePart hs v (raw_of h.pair.cell + 1) rest

part_from : (all : Collection) (label : Label) (b m : ℕ) (hs : Collection) → IsCollectionFrom b hs
    → m * 2147483648 + value_of label < b + 2147483648 → ((k : ℕ) → b ≤ k → count_at all k ≡ count_at hs k)
    → ArePart all (value_of label) m (held_of label hs)
part_from all label b m [] is low same = tt
part_from all label b m (h ∷ hs) is low same =
    let Part : List Held → Type 0 = λ ks. ArePart all (value_of label) m ks in
    let range = label.in_range in
    let later : (k : ℕ) → rank_of h.pair + 1 ≤ k → count_at all k ≡ count_at hs k =
    λ k le. same k (omega (arith, le, is.0)) ∙ count_tail h hs k (λ e. omega (arith, e, le)) in
    ⊎_elim
    (λ own. subst Part (sym (held_of_head label h hs own)) (
      omega (arith, is.0, low, own, range),
      own,
      is.1,
      same (rank_of h.pair) is.0 ∙ count_head h hs (rank_of h.pair) refl,
      part_from all label (rank_of h.pair + 1) (raw_of h.pair.cell + 1) hs is.2 (omega (arith, own)) later,
    ))
    (λ other. subst Part (sym (held_of_tail label h hs other))
    (part_from all label (rank_of h.pair + 1) m hs is.2 (omega (arith, low, is.0)) later))
    (cases_eq (value_of h.pair.label) (value_of label))

pub part_of : (hs : Collection) (label : Label) → IsCollection hs → ArePart hs (value_of label) 0 (held_of label hs)
part_of hs label is =
    let range = label.in_range in
    part_from hs label 0 0 hs is (omega (arith, range)) (λ k le. refl)

-- one of them is of the label, and has its count
pub part_at : (hs : Collection) (v m : ℕ) (front : List Held) (h : Held) (rest : List Held) → ArePart hs v m (front ++ h ∷ rest)
    → (value_of h.pair.label ≡ v) × (count_in hs h.pair ≡ h.count)
part_at hs v m [] h rest part = (part.1, part.3)
part_at hs v m (f ∷ front) h rest part = part_at hs v (raw_of f.pair.cell + 1) front h rest part.4

-- a pair at a cell before theirs is not among them
part_below : (hs : Collection) (v m : ℕ) (rest : List Held) (k : ℕ) → ArePart hs v m rest → k < m * 2147483648 → count_at rest k ≡ 0
part_below hs v m [] k part lt = refl
part_below hs v m (h ∷ rest) k part lt =
    count_tail h rest k (λ e. omega (arith, e, lt, part.0))
    ∙ part_below hs v (raw_of h.pair.cell + 1) rest k part.4 (omega (arith, lt, part.0))

-- ---- the entries

-- the entry of the target's pair at a held pair's cell
abbrev pub gains : Collection → Label → Held → Entry
gains hs target h =
    record {
      pair = pair_of h.pair.cell target;
      before = count_in hs (pair_of h.pair.cell target);
      after = count_in hs (pair_of h.pair.cell target) + h.count;
    }

abbrev pub move_of : Collection → Label → Held → List Entry
move_of hs target h = move_entries h (gains hs target h)

source_first : (hs : Collection) (target : Label) (h : Held) → value_of h.pair.label < value_of target
    → move_of hs target h ≡ removal_of h ∷ gains hs target h ∷ []
source_first hs target h lt =
    cond-true (ltb (value_of h.pair.label) (value_of target)) (removal_of h ∷ gains hs target h ∷ [])
    (gains hs target h ∷ removal_of h ∷ []) (lt-ltb _ _ lt)

target_first : (hs : Collection) (target : Label) (h : Held) → value_of target ≤ value_of h.pair.label
    → move_of hs target h ≡ gains hs target h ∷ removal_of h ∷ []
target_first hs target h le =
    cond-false (ltb (value_of h.pair.label) (value_of target)) (removal_of h ∷ gains hs target h ∷ [])
    (gains hs target h ∷ removal_of h ∷ []) (le-ltb _ _ le)

abbrev pub moves : Collection → Label → List Held → List Entry
moves hs target rest = flat_map (move_of hs target) rest

moves_rise : (hs : Collection) (v : ℕ) (target : Label) (m : ℕ) (rest : List Held) → ArePart hs v m rest → v ≢ value_of target
    → IsChangeListFrom (m * 2147483648) (moves hs target rest)
moves_rise hs v target m [] part apart = tt
moves_rise hs v target m (h ∷ rest) part apart =
    let Rises : List Entry → Type 0 = λ es. IsChangeListFrom (m * 2147483648) (es ++ moves hs target rest) in
    let later = moves_rise hs v target (raw_of h.pair.cell + 1) rest part.4 apart in
    let own_range = h.pair.label.in_range in
    let range = target.in_range in
    let own_left : h.count ≢ 0 = λ e. omega (arith, e, part.2) in
    let gained : count_in hs (pair_of h.pair.cell target) ≢ count_in hs (pair_of h.pair.cell target) + h.count = λ e.
    omega (arith, e, part.2) in
    ⊎_elim
    (λ lt. subst Rises (sym (source_first hs target h lt)) (
      omega (arith, part.0),
      own_left,
      (
        omega (arith, lt),
        gained,
        change_lower (rank_of (pair_of h.pair.cell target) + 1) ((raw_of h.pair.cell + 1) * 2147483648) (moves hs target rest)
            (omega (arith, range)) later,
      ),
    ))
    (λ le. subst Rises (sym (target_first hs target h le)) (
      omega (arith, part.0),
      gained,
      (
        omega (arith, le, part.1, apart),
        own_left,
        change_lower (rank_of h.pair + 1) ((raw_of h.pair.cell + 1) * 2147483648) (moves hs target rest) (omega (arith, own_range)) later,
      ),
    ))
    (cases_lt (value_of h.pair.label) (value_of target))

moves_before : (hs : Collection) (v : ℕ) (target : Label) (m : ℕ) (rest : List Held) → ArePart hs v m rest
    → AreBefore hs (moves hs target rest)
moves_before hs v target m [] part = tt
moves_before hs v target m (h ∷ rest) part =
    let Right : List Entry → Type 0 = λ es. AreBefore hs (es ++ moves hs target rest) in
    let later = moves_before hs v target (raw_of h.pair.cell + 1) rest part.4 in
    ⊎_elim
    (λ lt. subst Right (sym (source_first hs target h lt)) (sym part.3, (refl, later)))
    (λ le. subst Right (sym (target_first hs target h le)) (refl, (sym part.3, later)))
    (cases_lt (value_of h.pair.label) (value_of target))

pub with_moved_keeps : (target : Label) (h : Held) (hs : Collection) → IsCollection hs → IsCollection (with_moved target h hs)
with_moved_keeps target h hs is =
    set_keeps (pair_of h.pair.cell target) (count_in (set_count h.pair 0 hs) (pair_of h.pair.cell target) + h.count) (set_count h.pair 0 hs)
    (set_keeps h.pair 0 hs is)

-- a pair that is neither the one nor the other keeps its count
pub with_moved_other : (target : Label) (h : Held) (hs : Collection) (k : ℕ) → rank_of h.pair ≢ k → rank_of (pair_of h.pair.cell target) ≢ k
    → count_at (with_moved target h hs) k ≡ count_at hs k
with_moved_other target h hs k not_source not_target =
    count_set_other (pair_of h.pair.cell target) (count_in (set_count h.pair 0 hs) (pair_of h.pair.cell target) + h.count)
    (set_count h.pair 0 hs) k not_target
    ∙ count_set_other h.pair 0 hs k not_source

moves_change : (hs ks : Collection) (v : ℕ) (target : Label) (m : ℕ) (rest : List Held) → ArePart hs v m rest → v ≢ value_of target
    → IsCollection ks → ((k : ℕ) → m * 2147483648 ≤ k → count_at hs k ≡ count_at ks k)
    → changed ks (moves hs target rest) ≡ with_all_moved target rest ks
moves_change hs ks v target m [] part apart is same = refl
moves_change hs ks v target m (h ∷ rest) part apart is same =
    let own_range = h.pair.label.in_range in
    let range = target.in_range in
    let p = h.pair in
    let q = pair_of h.pair.cell target in
    let n = count_in hs q + h.count in
    let two : rank_of p ≢ rank_of q = λ e. apart (sym part.1 ∙ same_label_at p q e) in
    let here : count_in hs q ≡ count_in ks q = same (rank_of q) (omega (arith, part.0)) in
    let step : set_count q n (set_count p 0 ks) ≡ with_moved target h ks =
    ap (λ x. set_count q (x + h.count) (set_count p 0 ks)) (here ∙ sym (count_set_other p 0 ks (rank_of q) two)) in
    let later = moves_change hs (with_moved target h ks) v target (raw_of h.pair.cell + 1) rest part.4 apart
    (with_moved_keeps target h ks is)
    (λ k le.
    same k (omega (arith, le, part.0))
    ∙ sym (with_moved_other target h ks k (λ e. omega (arith, e, le, own_range)) (λ e. omega (arith, e, le, range)))) in
    ⊎_elim
    (λ lt. ap (λ es. changed ks (es ++ moves hs target rest)) (source_first hs target h lt)
    ∙ ap (λ xs. changed xs (moves hs target rest)) step ∙ later)
    (λ le. ap (λ es. changed ks (es ++ moves hs target rest)) (target_first hs target h le)
    ∙ ap (λ xs. changed xs (moves hs target rest)) (set_commutes p q 0 n ks is two ∙ step) ∙ later)
    (cases_lt (value_of h.pair.label) (value_of target))

-- the entries of all moves make the collection with the copies moved
pub moves_make : (bag : LimitedCollection) (source target : Label) → IsCollection bag.held → value_of source ≢ value_of target
    → Makes bag (with_all_moved target (held_of source bag.held) bag.held) (moves bag.held target (held_of source bag.held))
moves_make bag source target is apart =
    let hs = bag.held in
    let part = part_of hs source is in
    let es = moves hs target (held_of source hs) in
    record {
      rises = change_lower 0 (0 * 2147483648) es (omega arith) (moves_rise hs (value_of source) target 0 (held_of source hs) part apart);
      matches = no_mismatch hs es (moves_before hs (value_of source) target 0 (held_of source hs) part);
      result = moves_change hs hs (value_of source) target 0 (held_of source hs) part apart is (λ k le. refl);
    }

-- ---- moved to the label itself

moved_to_own : (target : Label) (h : Held) (hs : Collection) → IsCollection hs → value_of h.pair.label ≡ value_of target
    → count_in hs h.pair ≡ h.count → with_moved target h hs ≡ hs
moved_to_own target h hs is own counted =
    let p = h.pair in
    let q = pair_of h.pair.cell target in
    let less = set_count p 0 hs in
    let less_is = set_keeps p 0 hs is in
    let one : rank_of p ≡ rank_of q = omega (arith, own) in
    let none : count_in less q ≡ 0 = ap (λ k. count_at less k) (sym one) ∙ count_set_same 0 p 0 hs is in
    same_collection (with_moved target h hs) hs (with_moved_keeps target h hs is) is
    (λ r. ⊎_elim
    (λ at.
    let put = ap (λ k. count_at (with_moved target h hs) k) (sym at) ∙ count_set_same 0 q (count_in less q + h.count) less less_is in
    let was = ap (λ k. count_at hs k) (one ∙ at) in
    omega (arith, put, none, counted, was))
    (λ other. with_moved_other target h hs (rank_of r) (λ e. other (sym one ∙ e)) other)
    (cases_eq (rank_of q) (rank_of r)))

all_to_own : (target : Label) (m : ℕ) (rest : List Held) (hs : Collection) → IsCollection hs → ArePart hs (value_of target) m rest
    → with_all_moved target rest hs ≡ hs
all_to_own target m [] hs is part = refl
all_to_own target m (h ∷ rest) hs is part =
    ap (λ ks. with_all_moved target rest ks) (moved_to_own target h hs is part.1 part.3)
    ∙ all_to_own target (raw_of h.pair.cell + 1) rest hs is part.4

-- the copies of a label moved to the label itself stay
pub moved_to_itself : (source target : Label) (hs : Collection) → IsCollection hs → value_of source ≡ value_of target
    → with_all_moved target (held_of source hs) hs ≡ hs
moved_to_itself source target hs is own =
    let Part : ℕ → Type 0 = λ v. ArePart hs v 0 (held_of source hs) in
    all_to_own target 0 (held_of source hs) hs is (subst Part own (part_of hs source is))

-- ---- the counts

pub with_all_moved_keeps : (target : Label) (rest : List Held) (hs : Collection) → IsCollection hs
    → IsCollection (with_all_moved target rest hs)
with_all_moved_keeps target [] hs is = is
with_all_moved_keeps target (h ∷ rest) hs is = with_all_moved_keeps target rest (with_moved target h hs) (with_moved_keeps target h hs is)

others_stay : (hs : Collection) (v : ℕ) (target : Label) (m : ℕ) (rest : List Held) (ks : Collection) (p : Pair) → ArePart hs v m rest
    → value_of p.label ≢ v → value_of p.label ≢ value_of target → count_in (with_all_moved target rest ks) p ≡ count_in ks p
others_stay hs v target m [] ks p part not_source not_target = refl
others_stay hs v target m (h ∷ rest) ks p part not_source not_target =
    others_stay hs v target (raw_of h.pair.cell + 1) rest (with_moved target h ks) p part.4 not_source not_target
    ∙ with_moved_other target h ks (rank_of p) (λ e. not_source (sym (same_label_at h.pair p e) ∙ part.1))
    (λ e. not_target (sym (same_label_at (pair_of h.pair.cell target) p e)))

source_goes : (hs : Collection) (v : ℕ) (target : Label) (m : ℕ) (rest : List Held) (ks : Collection) (p : Pair) → ArePart hs v m rest
    → IsCollection ks → v ≢ value_of target → value_of p.label ≡ v → count_at rest (rank_of p) ≡ count_in ks p
    → count_in (with_all_moved target rest ks) p ≡ 0
source_goes hs v target m [] ks p part is apart own counted = sym counted
source_goes hs v target m (h ∷ rest) ks p part is apart own counted =
    let q = pair_of h.pair.cell target in
    let range = p.label.in_range in
    let not_q : rank_of q ≢ rank_of p = λ e. apart (sym own ∙ sym (same_label_at q p e)) in
    source_goes hs v target (raw_of h.pair.cell + 1) rest (with_moved target h ks) p part.4 (with_moved_keeps target h ks is) apart own
    (⊎_elim
    (λ here.
    part_below hs v (raw_of h.pair.cell + 1) rest (rank_of p) part.4
    (let own_range = h.pair.label.in_range in omega (arith, here, own_range))
    ∙ sym (count_set_other q (count_in (set_count h.pair 0 ks) q + h.count) (set_count h.pair 0 ks) (rank_of p) not_q
    ∙ ap (λ k. count_at (set_count h.pair 0 ks) k) (sym here) ∙ count_set_same 0 h.pair 0 ks is))
    (λ other. sym (count_tail h rest (rank_of p) other) ∙ counted ∙ sym (with_moved_other target h ks (rank_of p) other not_q))
    (cases_eq (rank_of h.pair) (rank_of p)))

target_gains : (hs : Collection) (source target : Label) (m : ℕ) (rest : List Held) (ks : Collection) (c : CellId)
    → ArePart hs (value_of source) m rest → IsCollection ks → value_of source ≢ value_of target
    → count_in (with_all_moved target rest ks) (pair_of c target)
    ≡ count_in ks (pair_of c target) + count_at rest (rank_of (pair_of c source))
target_gains hs source target m [] ks c part is apart = omega arith
target_gains hs source target m (h ∷ rest) ks c part is apart =
    let p = pair_of c source in
    let q = pair_of c target in
    let r = pair_of h.pair.cell target in
    let range = source.in_range in
    let less = set_count h.pair 0 ks in
    let later = target_gains hs source target (raw_of h.pair.cell + 1) rest (with_moved target h ks) c part.4
    (with_moved_keeps target h ks is) apart in
    let not_q : rank_of h.pair ≢ rank_of q = λ e. apart (sym part.1 ∙ same_label_at h.pair q e) in
    ⊎_elim
    (λ here.
    let at_q : rank_of r ≡ rank_of q = omega (arith, here, part.1) in
    let none = part_below hs (value_of source) (raw_of h.pair.cell + 1) rest (rank_of p) part.4 (omega (arith, here, part.1, range)) in
    let first : count_in (with_moved target h ks) q ≡ count_in less r + h.count =
    ap (λ k. count_at (with_moved target h ks) k) (sym at_q)
    ∙ count_set_same 0 r (count_in less r + h.count) less (set_keeps h.pair 0 ks is) in
    let second : count_in less r ≡ count_in ks q = ap (λ k. count_at less k) at_q ∙ count_set_other h.pair 0 ks (rank_of q) not_q in
    omega (arith, later, none, first, second, count_head h rest (rank_of p) here))
    (λ other.
    let kept = with_moved_other target h ks (rank_of q) not_q (λ e. other (omega (arith, e, part.1))) in
    omega (arith, later, kept, count_tail h rest (rank_of p) other))
    (cases_eq (rank_of h.pair) (rank_of p))

-- a pair of neither label keeps its count
pub relabelled_other : (source target : Label) (hs : Collection) (p : Pair) → IsCollection hs → value_of p.label ≢ value_of source
    → value_of p.label ≢ value_of target → count_in (with_all_moved target (held_of source hs) hs) p ≡ count_in hs p
relabelled_other source target hs p is not_source not_target =
    others_stay hs (value_of source) target 0 (held_of source hs) hs p (part_of hs source is) not_source not_target

-- the source's pairs have none
pub relabelled_source : (source target : Label) (hs : Collection) (p : Pair) → IsCollection hs → value_of source ≢ value_of target
    → value_of p.label ≡ value_of source → count_in (with_all_moved target (held_of source hs) hs) p ≡ 0
relabelled_source source target hs p is apart own =
    source_goes hs (value_of source) target 0 (held_of source hs) hs p (part_of hs source is) is apart own (count_of_own source hs p own)

-- the target's pairs have the sums
pub relabelled_target : (source target : Label) (hs : Collection) (c : CellId) → IsCollection hs → value_of source ≢ value_of target
    → count_in (with_all_moved target (held_of source hs) hs) (pair_of c target)
    ≡ count_in hs (pair_of c target) + count_in hs (pair_of c source)
relabelled_target source target hs c is apart =
    target_gains hs source target 0 (held_of source hs) hs c (part_of hs source is) is apart
    ∙ ap (λ n. count_in hs (pair_of c target) + n) (count_of_own source hs (pair_of c source) refl)

-- ---- one held pair more

-- with the entries of one held pair more
pub moves_more : (hs : Collection) (target : Label) (front : List Held) (h : Held) (before after : ℕ) (es new : List Entry)
    → es ≡ moves hs target front → before ≡ count_in hs (pair_of h.pair.cell target) → before + h.count ≡ after
    → new ≡ es ++ move_entries h (record { pair = pair_of h.pair.cell target; before = before; after = after })
    → new ≡ moves hs target (front ++ h ∷ [])
moves_more hs target front h before after es new es_is is_before is_after is =
    let entry : Entry → List Entry = λ e. move_entries h e in
    let own : record { pair = pair_of h.pair.cell target; before = before; after = after } ≡ gains hs target h =
    ap₂ (λ (b a : ℕ). let e : Entry = record { pair = pair_of h.pair.cell target; before = b; after = a } in e) is_before
    (omega (arith, is_before, is_after)) in
    is ∙ ap₂ (λ (xs ys : List Entry). xs ++ ys) es_is (ap entry own ∙ sym (append-nil (move_of hs target h)))
    ∙ sym (flat_map-append (move_of hs target) front (h ∷ []))

-- a sum that no `u32` holds is a count above every limit
pub sum_above : (hs : Collection) (source target : Label) (front : List Held) (h : Held) (rest : List Held) → IsCollection hs
    → value_of source ≢ value_of target → front ++ h ∷ rest ≡ held_of source hs
    → 4294967296 ≤ count_in hs (pair_of h.pair.cell target) + h.count
    → has_count_above_every_limit (with_all_moved target (held_of source hs) hs) ≡ true
sum_above hs source target front h rest c apart is high =
    let Part : List Held → Type 0 = λ ks. ArePart hs (value_of source) 0 ks in
    let own = part_at hs (value_of source) 0 front h rest (subst Part (sym is) (part_of hs source c)) in
    let one : rank_of h.pair ≡ rank_of (pair_of h.pair.cell source) = omega (arith, own.0) in
    let counted = ap (λ k. count_at hs k) one in
    let sum = relabelled_target source target hs h.pair.cell c apart in
    above_from_count 4294967295 (with_all_moved target (held_of source hs) hs) (rank_of (pair_of h.pair.cell target))
    (omega (arith, sum, counted, own.1, high))
