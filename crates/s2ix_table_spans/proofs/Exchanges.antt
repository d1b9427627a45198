-- The block in which two lists of pairs differ, found by the numbers of their cells.
use Rattle.std.proofs.Common.{◌≡◌, ℕ, ◌+◌, ◌-◌, ◌<◌, ◌≤◌, inl, inr, take, drop, get_or, length, sym, ◌∙◌, ap, subst, arith, Contains, le_of_eq}
use Rattle.std.proofs.lemmas.Bool.{cases_eq}
use Rattle.std.proofs.lemmas.List.{get_or-take, get_or-drop, get_or_default, length-take, length-drop, take-take, drop-drop}
use Rattle.std.specs.List.Sorted.{IsNonDecreasingBy}
use Rattle.s2id_core.specs.CellId.{raw_of, first_of, end_of}
use Rattle.s2id_core.specs.declared.cell_id.CellId.{CellId}
use Rattle.s2ix_bag_pairs.specs.Collection.{Collection, IsCollection}
use Rattle.s2ix_bag_pairs.specs.declared.pair.Held.{Held}
use Rattle.s2ix_bag_pairs.proofs.CutAtRank.{collection_drop, collection_take, ranks_rise}
use Rattle.s2ix_table_spans.specs.Blocks.{IsExchange, HoldsCell}
use Rattle.s2ix_table_spans.proofs.Numbers.{raw_by_rank}

-- a part of a rising list rises
pub part_rises : (n m : ℕ) (hs : Collection) → IsCollection hs → IsCollection (take n (drop m hs))
part_rises n m hs rises = collection_take n 0 (drop m hs) (collection_drop m 0 hs rises)

-- ---- numbers of cells by places

pub numbers_rise : (hs : Collection) → IsCollection hs → IsNonDecreasingBy (λ (h : Held). raw_of h.pair.cell) hs
numbers_rise hs rises =
    λ i j d le within.
    elim (cases_eq i j) [
      | inl same ↦ le_of_eq (ap (λ k. raw_of (get_or hs k d).pair.cell) same)
      | inr ne ↦ (let lt : i < j = omega (arith, ne, le) in raw_by_rank (get_or hs i d) (get_or hs j d) (ranks_rise 0 hs i j d rises lt within))
    ]

-- a pair is at a place from one on, and before another
pub record IsBetween (hs : Collection) (from to : ℕ) (h : Held) : Type 0 where
  pub place : ℕ
  pub not_before : from ≤ place
  pub not_after : place < to
  pub within : place < length hs
  pub is : get_or hs place h ≡ h

pub in_take : (n : ℕ) (hs : Collection) (h : Held) → Contains (take n hs) h → IsBetween hs 0 n h
in_take n hs h (k, lt, is) =
    let len = length-take n hs in
    let less : k < n = omega arith in
    record { place = k; not_before = omega arith; not_after = less; within = omega arith; is = sym (get_or-take n hs k h less) ∙ is }

pub in_drop : (n : ℕ) (hs : Collection) (h : Held) → Contains (drop n hs) h → IsBetween hs n (length hs) h
in_drop n hs h (k, lt, is) =
    let len = length-drop n hs in
    record { place = n + k; not_before = omega arith; not_after = omega arith; within = omega arith; is = sym (get_or-drop n hs k h) ∙ is }

-- ---- pairs within a cell

raw_at : Collection → ℕ → Held → ℕ
raw_at hs k d = raw_of (get_or hs k d).pair.cell

raw_of_member : (hs : Collection) (h d : Held) (k : ℕ) → k < length hs → get_or hs k h ≡ h → raw_at hs k d ≡ raw_of h.pair.cell
unfolding raw_at
raw_of_member hs h d k lt is = ap (λ (x : Held). raw_of x.pair.cell) (get_or_default hs k d h lt ∙ is)

raws_rise : (hs : Collection) (i j : ℕ) (d : Held) → IsCollection hs → i ≤ j → j < length hs → raw_at hs i d ≤ raw_at hs j d
unfolding raw_at
raws_rise hs i j d rises le lt = numbers_rise hs rises i j d le lt

-- the first of rising pairs tells that none has a lesser number, and the last that none has a greater one
pub all_from : (hs : Collection) (d : Held) (number : ℕ) → IsCollection hs → number ≤ raw_of (get_or hs 0 d).pair.cell
    → (h : Held) → Contains hs h → number ≤ raw_of h.pair.cell
unfolding raw_at
all_from hs d number rises le h (k, lt, is) =
    let first = raws_rise hs 0 k d rises (omega arith) lt in
    let same = raw_of_member hs h d k lt is in
    omega arith

pub all_to : (hs : Collection) (d : Held) (number : ℕ) → IsCollection hs → raw_of (get_or hs (length hs - 1) d).pair.cell < number
    → (h : Held) → Contains hs h → raw_of h.pair.cell < number
unfolding raw_at
all_to hs d number rises lt h (k, within, is) =
    let last = raws_rise hs k (length hs - 1) d rises (omega arith) (omega arith) in
    let same = raw_of_member hs h d k within is in
    omega arith

-- the numbers below a bound stand in front
pub all_lesser : (hs : Collection) (n number : ℕ) → ((k : ℕ) (d : Held) → k < length hs → k < n → raw_of (get_or hs k d).pair.cell < number)
    → (h : Held) → Contains (take n hs) h → raw_of h.pair.cell < number
all_lesser hs n number each h is =
    let b = in_take n hs h is in
    subst (λ (x : Held). raw_of x.pair.cell < number) b.is (each b.place h b.within b.not_after)

pub all_rest : (hs : Collection) (n number : ℕ) → ((k : ℕ) (d : Held) → k < length hs → n ≤ k → number ≤ raw_of (get_or hs k d).pair.cell)
    → (h : Held) → Contains (drop n hs) h → number ≤ raw_of h.pair.cell
all_rest hs n number each h is =
    let b = in_drop n hs h is in
    subst (λ (x : Held). number ≤ raw_of x.pair.cell) b.is (each b.place h b.within b.not_before)

-- ---- the exchange

-- what two lists have in common: as many pairs in front, and as many at the end
pub record HaveCommon (held next : Collection) (front end : ℕ) : Type 0 where
  pub old : front + end ≤ length held
  pub new : front + end ≤ length next
  pub fronts : take front next ≡ take front held
  pub ends : drop (length next - end) next ≡ drop (length held - end) held

shorter_front : (held next : Collection) (front start : ℕ) → start ≤ front → take front next ≡ take front held → take start next ≡ take start held
shorter_front held next front start le same =
    let cut : (hs : Collection) → take start (take front hs) ≡ take start hs = λ hs. take-take start front hs le in
    sym (cut next) ∙ ap (take start) same ∙ cut held

-- of the common end all but the first ones
later_end : (hs : Collection) (end skip at : ℕ) → skip ≤ end → end ≤ length hs → at ≡ length hs - (end - skip)
    → drop at hs ≡ drop skip (drop (length hs - end) hs)
later_end hs end skip at le within is =
    ap (λ n. drop n hs) (let e : at ≡ length hs - end + skip = omega arith in e) ∙ sym (drop-drop skip (length hs - end) hs)

pub exchange : (held next : Collection) (cell : CellId) (front end start skip : ℕ) → HaveCommon held next front end → start ≤ front → skip ≤ end
    → ((h : Held) → Contains (take start held) h → raw_of h.pair.cell < first_of cell)
    → ((h : Held) → Contains (drop skip (drop (length held - end) held)) h → end_of cell ≤ raw_of h.pair.cell + 1)
    → ((h : Held) → Contains (take (length held - (end - skip) - start) (drop start held)) h → (first_of cell ≤ raw_of h.pair.cell) × (raw_of h.pair.cell + 1 < end_of cell))
    → ((h : Held) → Contains (take (length next - (end - skip) - start) (drop start next)) h → (first_of cell ≤ raw_of h.pair.cell) × (raw_of h.pair.cell + 1 < end_of cell))
    → HoldsCell held cell → HoldsCell next cell
    → IsExchange held next cell start (length held - (end - skip) - start) (length next - (end - skip) - start)
exchange held next cell front end start skip common by skips lesser greater old_in new_in old_own new_own =
    let a = common.old in
    let b = common.new in
    let old_rest = later_end held end skip (start + (length held - (end - skip) - start)) skips (omega arith) (omega arith) in
    let new_rest = later_end next end skip (start + (length next - (end - skip) - start)) skips (omega arith) (omega arith) in
    let fronts = shorter_front held next front start by common.fronts in
    let rests = new_rest ∙ ap (drop skip) common.ends ∙ sym old_rest in
    record {
      old_fits = omega arith;
      new_fits = omega arith;
      front = fronts;
      rest = rests;
      old_block = record {
        lesser = lesser;
        from = λ h is. (old_in h is).0;
        to = λ h is. (old_in h is).1;
        greater = λ h is. greater h (subst (λ hs. Contains hs h) old_rest is);
      };
      new_block = record {
        lesser = λ h is. lesser h (subst (λ hs. Contains hs h) fronts is);
        from = λ h is. (new_in h is).0;
        to = λ h is. (new_in h is).1;
        greater = λ h is. greater h (subst (λ hs. Contains hs h) (rests ∙ old_rest) is);
      };
      old_own = old_own;
      new_own = new_own;
    }
