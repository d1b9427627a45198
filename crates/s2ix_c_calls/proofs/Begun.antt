-- The pairs of a range whose cells begin at a leaf or later are the front of its chain.
use Rattle.std.proofs.Common.{◌≡◌, ℕ, suc, ◌<◌, ◌≤◌, inl, inr, [], ◌∷◌, ◌+◌, List, length, map, take, drop, refl, sym, ◌∙◌, ap, arith, subst, le-leb}
use Rattle.std.specs.List.{AllByRecursion}
use Rattle.std.proofs.lemmas.Bool.{lt-leb, cases_lt, cond_both, cond-true, cond-false}
use Rattle.s2id_core.specs.CellId.{first_of}
use Rattle.s2ix_bag_pairs.specs.declared.pair.Held.{Held}
use Rattle.s2ix_bag_pairs.specs.Collection.{Collection}
use Rattle.s2ix_bag_pairs.specs.Label.{value_of}
use Rattle.s2ix_bag_pairs.specs.OfLabel.{held_of}
use Rattle.s2ix_bag_pairs.specs.declared.label.Label.{Label}
use Rattle.std.specs.Prelude.{◌==◌}
use Rattle.s2id_core.specs.declared.cell_id.CellId.{CellId}
use Rattle.s2ix_table_walk.specs.InOrder.{Rises}
use Rattle.s2ix_table_walk.specs.Meeting.{is_met_from, meeting_from, meeting_key, meeting_of}
use Rattle.s2ix_table_walk.proofs.InOrder.{length_choice}
use Rattle.s2ix_table_walk.specs.Contents.{contents_at, depth_key}
use Rattle.s2ix_table_walk.specs.Table.{Range, range_at, IsRangeTable}
use Rattle.s2ix_table_walk.proofs.Over.{IsOver, every_content, contents_rise, length_contents, nested_over, span_of}
use Rattle.s2ix_table_walk.specs.Walking.{front_from}
use Rattle.s2ix_table_walk.proofs.Meetings.{front_here, front_stops}
use Rattle.s2ix_c_calls.specs.Lists.{row_of}
use Rattle.s2ix_c_calls.specs.Ranges.{begun_from}

-- of pairs over one leaf, those further out than one that begins before a leaf begin before it too
none_begun : (q from : ℕ) (h : Held) (hs : Collection) → IsOver h q → AllByRecursion (λ a. IsOver a q) hs
    → AllByRecursion (λ a. depth_key h ≤ depth_key a) hs → first_of h.pair.cell < from → begun_from from hs ≡ []
none_begun q from h [] over all deeper early = refl
none_begun q from h (y ∷ ys) over all deeper early =
    let order = (nested_over q h y over all.0 deeper.0).from in
    let too : first_of y.pair.cell < from = omega arith in
    cond-false _ _ _ (lt-leb _ _ too) ∙ none_begun q from h ys over all.1 deeper.1 early

front_is_begun : (q from : ℕ) (hs : Collection) → AllByRecursion (λ a. IsOver a q) hs → Rises depth_key hs
    → front_from from hs ≡ begun_from from hs
unfolding front_from
front_is_begun q from [] all rises = refl
front_is_begun q from (h ∷ hs) all rises =
    elim (cases_lt (first_of h.pair.cell) from) [
      | inl early ↦
          front_stops from h hs early ∙ sym (cond-false _ _ _ (lt-leb _ _ early) ∙ none_begun q from h hs all.0 all.1 rises.0 early)
      | inr late ↦
          front_here from h hs late ∙ ap (λ zs. h ∷ zs) (front_is_begun q from hs all.1 rises.1) ∙ sym (cond-true _ _ _ (le-leb _ _ late))
    ]

pub front_of_range : (held : Collection) (ranges : List Range) (place from : ℕ) → IsRangeTable held ranges → place < length ranges
    → front_from from (range_at ranges place).contents ≡ begun_from from (range_at ranges place).contents
front_of_range held ranges place from table within =
    let start = (range_at ranges place).start in
    let same = table.shared place start within (table.odd place within) (omega arith) (table.rises place within) in
    subst (λ (cs : Collection). front_from from cs ≡ begun_from from cs) same
    (front_is_begun start from (contents_at start held) (every_content (λ a. IsOver a start) start held (λ h c over. over)) (contents_rise start held))

-- no more pairs lie over a range than there are
pub in_range_at_most : (held : Collection) (ranges : List Range) (place : ℕ) → IsRangeTable held ranges → place < length ranges
    → length (range_at ranges place).contents ≤ length held
in_range_at_most held ranges place table within =
    let start = (range_at ranges place).start in
    let same = table.shared place start within (table.odd place within) (omega arith) (table.rises place within) in
    subst (λ (cs : Collection). length cs ≤ length held) same (length_contents start held)

-- no more pairs meet a target than there are
pub met_at_most : (target : List CellId) (held : Collection) → length (meeting_of target held) ≤ length held
unfolding meeting_from
met_at_most target held = length_choice (is_met_from target 1) (meeting_key target) held

-- no more pairs have a label than there are
pub of_label_at_most : (label : Label) (hs : Collection) → length (held_of label hs) ≤ length hs
of_label_at_most label [] = omega arith
of_label_at_most label (h ∷ hs) =
    let rest = of_label_at_most label hs in
    cond_both (value_of h.pair.label == value_of label) (h ∷ held_of label hs) (held_of label hs) (λ ks. length ks ≤ suc (length hs)) (λ _. omega arith) (λ _. omega arith)

-- ---- how many are counted of a chain, and how many are still to be: one more, one that begins before, and none left

pub count_grows : (from count whole : ℕ) (chain rest outer : Collection) (h : Held) → chain ≡ h ∷ rest → outer ≡ rest → from ≤ first_of h.pair.cell
    → count + length (front_from from chain) ≡ whole → count + 1 + length (front_from from outer) ≡ whole
count_grows from count whole chain rest outer h is same late all =
    let here = ap length (ap (front_from from) is ∙ front_here from h rest late) in
    let left = ap (λ r. length (front_from from r)) same in
    omega (arith, here, left, all)

pub count_ends : (from count whole : ℕ) (chain rest : Collection) (h : Held) → chain ≡ h ∷ rest → first_of h.pair.cell < from
    → count + length (front_from from chain) ≡ whole → count ≡ whole
count_ends from count whole chain rest h is early all =
    let none = ap length (ap (front_from from) is ∙ front_stops from h rest early) in
    omega (arith, none, all)

pub count_is_whole : (from count whole : ℕ) (chain : Collection) → chain ≡ [] → count + length (front_from from chain) ≡ whole → count ≡ whole
unfolding front_from
count_is_whole from count whole chain none all =
    let left : length (front_from from chain) ≡ 0 = ap (λ c. length (front_from from c)) none in
    omega (arith, left, all)

pub front_short : (from : ℕ) (hs : Collection) → length (front_from from hs) ≤ length hs
unfolding front_from
front_short from [] = omega arith
front_short from (h ∷ hs) =
    elim (cases_lt (first_of h.pair.cell) from) [
      | inl early ↦ let none = ap length (front_stops from h hs early) in omega (arith, none)
      | inr late ↦ let here = ap length (front_here from h hs late) in let rest = front_short from hs in omega (arith, here, rest)
    ]

-- no pair begins before the first leaf
pub front_all : (from : ℕ) (hs : Collection) → from ≤ 1 → front_from from hs ≡ hs
unfolding front_from
front_all from [] first = refl
front_all from (h ∷ hs) first =
    let begins = (span_of h).begins in front_here from h hs (omega arith) ∙ ap (λ l. h ∷ l) (front_all from hs first)

pub front_none : (from : ℕ) → front_from from [] ≡ []
unfolding front_from
front_none from = refl

-- ---- the rows of a chain go out: one more, one that begins before, and none left

pub chain_goes_on : (from : ℕ) (chain rest outer : Collection) (h : Held) → chain ≡ h ∷ rest → outer ≡ rest → from ≤ first_of h.pair.cell
    → map row_of (front_from from chain) ≡ row_of h ∷ map row_of (front_from from outer)
chain_goes_on from chain rest outer h is same late =
    ap (map row_of) (ap (front_from from) is ∙ front_here from h rest late) ∙ ap (λ r. row_of h ∷ map row_of (front_from from r)) (sym same)

pub chain_stops : (from : ℕ) (chain rest : Collection) (h : Held) → chain ≡ h ∷ rest → first_of h.pair.cell < from
    → front_from from chain ≡ front_from from []
chain_stops from chain rest h is early = ap (front_from from) is ∙ front_stops from h rest early ∙ sym (front_none from)

pub shorter_chain : (chain rest outer : Collection) (h : Held) (limit : ℕ) → chain ≡ h ∷ rest → outer ≡ rest → length chain ≤ limit → length outer ≤ limit
shorter_chain chain rest outer h limit is same short = omega (arith, ap length is, ap length same)
