-- A change, cut at a seam between neighbouring tables.
use Rattle.std.proofs.Common.{◌≡◌, ℕ, zero, suc, ◌+◌, ◌-◌, ◌*◌, ◌%◌, ◌<◌, ◌≤◌, List, [], ◌∷◌, ◌++◌, take, drop, get_or, length, refl, sym, ap, ap₂, ◌∙◌, subst, arith, append_assoc}
use Rattle.std.proofs.lemmas.List.{length-append, take-append-drop, drop_more}
use Rattle.s2id_core.specs.CellId.{raw_of, first_of, end_of}
use Rattle.s2id_core.specs.declared.cell_id.CellId.{CellId}
use Rattle.s2id_core.proofs.Lists.{none_in_nil, at_head, in_tail}
use Rattle.s2id_core.proofs.Nested.{span}
use Rattle.s2ix_bag_lists.specs.Faces.{AreEntriesBelow, all_of}
use Rattle.s2ix_bag_lists.proofs.Cuts.{changed_apart}
use Rattle.s2ix_bag_lists.proofs.Joined.{changed_below, rise_in_front}
use Rattle.s2ix_bag_lists.proofs.Joins.{back_rises, front_rises}
use Rattle.s2ix_bag_pairs.specs.Change.{IsChangeListFrom, changed}
use Rattle.s2ix_bag_pairs.specs.Collection.{Collection, IsCollection, IsCollectionFrom, AreBelow}
use Rattle.s2ix_bag_pairs.specs.Label.{value_of}
use Rattle.s2ix_bag_pairs.specs.Pair.{rank_of}
use Rattle.s2ix_bag_pairs.specs.declared.pair.Entry.{Entry}
use Rattle.s2ix_bag_pairs.specs.declared.pair.Held.{Held}
use Rattle.s2ix_bag_pairs.proofs.Changes.{changed_keeps_from, change_lower}
use Rattle.s2ix_table_spans.specs.SpanTable.{SpanRanges, IsInSpan}
use Rattle.s2ix_table_heavy.proofs.ChangedCells.{changed_cells}
use Rattle.s2ix_table_parts.specs.FaceSpans.{spans_of, TablePart}
use Rattle.s2ix_table_parts.specs.Neighbours.{held_in, AreNeighbours}
use Rattle.s2ix_table_parts.specs.Parts.{EndsBy, BeginsFrom, EntriesEndBy, EntriesBeginFrom, AreBegins, IsChangedSpan, IsCut}
use Rattle.s2ix_table_parts.proofs.Appended.{below_cut, from_cut, rank_before}
use Rattle.s2ix_table_parts.proofs.Cuts.{all_end}
use Rattle.s2ix_table_parts.proofs.Neighbours.{all_begin, all_rise}
use Rattle.s2ix_table_parts.proofs.Parting.{split_lists, one_more, own_rises, none_after, begins_front, ends_back}

-- ---- entries beside a seam

rank_after : (raw label b : ℕ) → b ≤ raw → b * 2147483648 ≤ raw * 2147483648 + label
rank_after raw label b le = omega arith

pub entries_below : (b : ℕ) (es : List Entry) → EntriesEndBy es b → AreEntriesBelow (b * 2147483648) es
entries_below b [] end = tt
entries_below b (e ∷ es) end =
    let to = (span (raw_of e.pair.cell) e.pair.cell.valid).to in
    let by = end e (at_head e es) in (
      rank_before (raw_of e.pair.cell) (value_of e.pair.label) b e.pair.label.in_range (omega arith),
      entries_below b es (λ x i. end x (in_tail e es x i)),
    )

pub entries_from : (b n : ℕ) (es : List Entry) → IsChangeListFrom n es → EntriesBeginFrom es b → IsChangeListFrom (b * 2147483648) es
entries_from b n [] rise begin = tt
entries_from b n (e ∷ es) rise begin =
    let from = (span (raw_of e.pair.cell) e.pair.cell.valid).from in
    let le = begin e (at_head e es) in
    (rank_after (raw_of e.pair.cell) (value_of e.pair.label) b (omega arith), rise.1, rise.2)

rise_at_end : (n : ℕ) (es fs : List Entry) → IsChangeListFrom n (es ++ fs) → IsChangeListFrom n fs
rise_at_end n [] fs rise = rise
rise_at_end n (e ∷ es) fs rise =
    let le = rise.0 in
    change_lower n (rank_of e.pair + 1) fs (omega arith) (rise_at_end (rank_of e.pair + 1) es fs rise.2)

-- ---- one list, cut at a rank

-- a list is cut at a rank in one way
pub one_cut : (r : ℕ) (hs ks xs ys : Collection) → AreBelow r hs → IsCollectionFrom r ks → AreBelow r xs → IsCollectionFrom r ys
    → hs ++ ks ≡ xs ++ ys → (hs ≡ xs) × (ks ≡ ys)
one_cut r [] ks [] ys below from low high same = (refl, same)
one_cut r [] ks (x ∷ xs) ys below from low high same =
    let first : IsCollectionFrom r (x ∷ (xs ++ ys)) = subst (λ zs. IsCollectionFrom r zs) same from in
    let le = first.0 in
    let lt = low.0 in
    absurd (omega arith)
one_cut r (h ∷ hs) ks [] ys below from low high same =
    let first : IsCollectionFrom r (h ∷ (hs ++ ks)) = subst (λ zs. IsCollectionFrom r zs) (sym same) high in
    let le = first.0 in
    let lt = below.0 in
    absurd (omega arith)
one_cut r (h ∷ hs) ks (x ∷ xs) ys below from low high same =
    let head : h ≡ x = ap (λ (zs : Collection). get_or zs 0 h) same in
    let tail : hs ++ ks ≡ xs ++ ys = ap (λ (zs : Collection). drop 1 zs) same in
    let rest = one_cut r hs ks xs ys below.1 from low.1 high tail in
    let put : Held → Collection → Collection = λ z zs. z ∷ zs in
    (ap₂ put head rest.0, rest.1)

-- ---- neighbouring tables on both sides of a seam

pub tables_before : (from : ℕ) (ts : List SpanRanges) (to k : ℕ) (d : SpanRanges) → AreNeighbours from ts to → k < length ts
    → AreNeighbours from (take k ts) (get_or ts k d).from
tables_before from [] to k d are within = absurd (omega arith)
tables_before from (t ∷ ts) to zero d are within = sym are.0
tables_before from (t ∷ ts) to (suc k) d are within = (are.0, are.1, tables_before t.to ts to k d are.2 (omega arith))

pub tables_after : (from : ℕ) (ts : List SpanRanges) (to k : ℕ) (d : SpanRanges) → AreNeighbours from ts to → k < length ts
    → AreNeighbours (get_or ts k d).from (drop k ts) to
tables_after from [] to k d are within = absurd (omega arith)
tables_after from (t ∷ ts) to zero d are within = (refl, are.1, are.2)
tables_after from (t ∷ ts) to (suc k) d are within = tables_after t.to ts to k d are.2 (omega arith)

pub held_split : (k : ℕ) (ts : List SpanRanges) → held_in (take k ts) ++ held_in (drop k ts) ≡ held_in ts
held_split zero ts = refl
held_split (suc k) [] = refl
held_split (suc k) (t ∷ ts) = append_assoc t.held (held_in (take k ts)) (held_in (drop k ts)) ∙ ap (λ hs. t.held ++ hs) (held_split k ts)

-- ---- a change on both sides of a seam

-- what both sides hold then, if lists are cut at the same rank
pub made_apart : (b from to k l e : ℕ) (d : SpanRanges) (ts : List SpanRanges) (ls : List Collection) (es : List Entry) → k < length ts
    → b ≡ (get_or ts k d).from → IsChangedSpan ts ls es from to → EntriesEndBy (take e es) b → EntriesBeginFrom (drop e es) b
    → AreBelow (b * 2147483648) (all_of (take l ls)) → IsCollectionFrom (b * 2147483648) (all_of (drop l ls))
    → (changed (held_in (take k ts)) (take e es) ≡ all_of (take l ls)) × (changed (held_in (drop k ts)) (drop e es) ≡ all_of (drop l ls))
made_apart b from to k l e d ts ls es within at was end begin below high =
    let front = subst (λ n. AreNeighbours from (take k ts) n) (sym at) (tables_before from ts to k d was.neighbours within) in
    let back = subst (λ n. AreNeighbours n (drop k ts) to) (sym at) (tables_after from ts to k d was.neighbours within) in
    let low = below_cut b (held_in (take k ts)) (all_end from (take k ts) b front) in
    let rest = from_cut b (held_in (drop k ts)) (all_rise b (drop k ts) to back) (all_begin b (drop k ts) to back) in
    let own = entries_below b (take e es) end in
    let split = take-append-drop e es in
    let rise : IsChangeListFrom 0 (drop e es) = rise_at_end 0 (take e es) (drop e es) (subst (λ xs. IsChangeListFrom 0 xs) (sym split) was.entries_rise) in
    let later = entries_from b 0 (drop e es) rise begin in
    let r : ℕ = b * 2147483648 in
    let same : changed (held_in (take k ts)) (take e es) ++ changed (held_in (drop k ts)) (drop e es) ≡ all_of (take l ls) ++ all_of (drop l ls) =
    sym (changed_apart r (held_in (take k ts)) (held_in (drop k ts)) (take e es) (drop e es) low rest own later)
    ∙ ap (λ hs. changed hs (take e es ++ drop e es)) (held_split k ts)
    ∙ ap (λ xs. changed (held_in ts) xs) split
    ∙ was.made
    ∙ sym (split_lists l ls) in
    one_cut r (changed (held_in (take k ts)) (take e es)) (changed (held_in (drop k ts)) (drop e es)) (all_of (take l ls)) (all_of (drop l ls))
    (changed_below r (held_in (take k ts)) (take e es) own low) (changed_keeps_from r (held_in (drop k ts)) (drop e es) rest later) below high same

-- a seam that no entry's cell crosses cuts a change in two, if lists are cut there
pub clean_cut : (b from to k l e : ℕ) (d : SpanRanges) (ts : List SpanRanges) (ls : List Collection) (es : List Entry) → k < length ts
    → l ≤ length ls → e ≤ length es → b ≡ (get_or ts k d).from → IsChangedSpan ts ls es from to → EntriesEndBy (take e es) b
    → EntriesBeginFrom (drop e es) b → AreBelow (b * 2147483648) (all_of (take l ls)) → IsCollectionFrom (b * 2147483648) (all_of (drop l ls))
    → IsCut ts ls es from to k l e b
clean_cut b from to k l e d ts ls es within lists_fit entries_fit at was end begin below high =
    let front = subst (λ n. AreNeighbours from (take k ts) n) (sym at) (tables_before from ts to k d was.neighbours within) in
    let back = subst (λ n. AreNeighbours n (drop k ts) to) (sym at) (tables_after from ts to k d was.neighbours within) in
    let made = made_apart b from to k l e d ts ls es within at was end begin below high in
    let split = split_lists l ls in
    let entries = take-append-drop e es in
    let count = sym (length-append (all_of (take l ls)) (all_of (drop l ls))) ∙ ap (λ (hs : Collection). length hs) split in
    let within_limit = was.within_limit in
    let rise : IsChangeListFrom 0 (take e es ++ drop e es) = subst (λ xs. IsChangeListFrom 0 xs) (sym entries) was.entries_rise in
    let lists : IsCollectionFrom 0 (all_of (take l ls) ++ all_of (drop l ls)) = subst (λ hs. IsCollectionFrom 0 hs) (sym split) was.rises in
    record {
      tables_fit = omega arith;
      lists_fit = lists_fit;
      entries_fit = entries_fit;
      own = record {
        neighbours = front;
        made = made.0;
        entries_rise = rise_in_front 0 (take e es) (drop e es) rise;
        rises = front_rises 0 (all_of (take l ls)) (all_of (drop l ls)) lists;
        within_limit = omega arith;
        begins = begins_front from (all_of (take l ls)) (all_of (drop l ls)) (subst (λ hs. BeginsFrom hs from) (sym split) was.begins);
        ends = subst (λ hs. EndsBy hs b) made.0
            (changed_cells (λ (c : CellId). end_of c ≤ b) (held_in (take k ts)) (take e es) (all_end from (take k ts) b front) end);
      };
      later = record {
        neighbours = back;
        made = made.1;
        entries_rise = rise_at_end 0 (take e es) (drop e es) rise;
        rises = back_rises 0 (all_of (take l ls)) (all_of (drop l ls)) lists;
        within_limit = omega arith;
        begins = subst (λ hs. BeginsFrom hs b) made.1
            (changed_cells (λ (c : CellId). b ≤ first_of c) (held_in (drop k ts)) (drop e es) (all_begin b (drop k ts) to back) begin);
        ends = ends_back to (all_of (take l ls)) (all_of (drop l ls)) (subst (λ hs. EndsBy hs to) (sym split) was.ends);
      };
    }

-- ---- nothing

pub none_held : (ts : List SpanRanges) → length ts ≡ 0 → held_in ts ≡ []
none_held [] none = refl
none_held (t ∷ ts) none = absurd (omega arith)

-- nothing is left after all tables
pub none_left : (from to : ℕ) (ts : List SpanRanges) (ls : List Collection) (es : List Entry) → length ts ≡ 0 → IsChangedSpan ts ls es from to
    → (from ≡ to) × (all_of ls ≡ [])
none_left from to [] ls es none was =
    let last = was.neighbours in
    (last, none_after to (all_of ls) (subst (λ n. BeginsFrom (all_of ls) n) last was.begins) was.ends)
none_left from to (t ∷ ts) ls es none was = absurd (omega arith)

-- ---- where entries begin

pub begins_count : (es : List Entry) (bs : List ℕ) → AreBegins es bs → length es < length bs
begins_count [] bs are = are
begins_count (e ∷ es) [] are = absurd are
begins_count (e ∷ es) (b ∷ bs) are = let more = begins_count es bs are.1 in omega arith

pub begin_at : (k : ℕ) (es : List Entry) (bs : List ℕ) (d : ℕ) → k ≤ length es → AreBegins es bs → EntriesBeginFrom (drop k es) (get_or bs k d)
begin_at zero [] bs d within are e is = absurd (none_in_nil e is)
begin_at (suc k) [] bs d within are e is = absurd (none_in_nil e is)
begin_at k (x ∷ es) [] d within are e is = absurd are
begin_at zero (x ∷ es) (b ∷ bs) d within are e is = are.0 e is
begin_at (suc k) (x ∷ es) (b ∷ bs) d within are e is = begin_at k es bs d (omega arith) are.1 e is

pub begins_later : (k : ℕ) (es : List Entry) (bs : List ℕ) → k ≤ length es → AreBegins es bs → AreBegins (drop k es) (drop k bs)
begins_later zero es bs within are = are
begins_later (suc k) [] bs within are = absurd (omega arith)
begins_later (suc k) (e ∷ es) [] within are = absurd are
begins_later (suc k) (e ∷ es) (b ∷ bs) within are = begins_later k es bs (omega arith) are.1

-- ---- lists at a seam

-- the pairs before the last ones are below whatever these are below
before_below : (r m : ℕ) (hs ks : Collection) → IsCollectionFrom m (hs ++ ks) → 0 < length ks → AreBelow r ks → AreBelow r (hs ++ ks)
before_below r m [] ks rise some below = below
before_below r m (h ∷ hs) ks rise some below =
    let rest = before_below r (rank_of h.pair + 1) hs ks rise.2 some below in
    let lt = low_rank (rank_of h.pair + 1) (hs ++ ks) rise.2 (let n = length-append hs ks in omega arith) rest in
    (omega arith, rest)
  where
    low_rank : (n : ℕ) (xs : Collection) → IsCollectionFrom n xs → 0 < length xs → AreBelow r xs → n ≤ r
    low_rank n [] up more low = absurd (omega arith)
    low_rank n (x ∷ xs) up more low = let le = up.0 in let lt = low.0 in omega arith

pub lists_below : (r k : ℕ) (ls : List Collection) (d : Collection) → k < length ls → IsCollection (all_of ls) → 0 < length (get_or ls k d)
    → AreBelow r (get_or ls k d) → AreBelow r (all_of (take (k + 1) ls))
lists_below r k ls d within rise some below =
    let is = one_more k ls d within in
    let own = own_rises 0 (k + 1) ls rise in
    subst (λ hs. AreBelow r hs) (sym is)
    (before_below r 0 (all_of (take k ls)) (get_or ls k d) (subst (λ hs. IsCollectionFrom 0 hs) is own) some below)

pub list_rises : (n k : ℕ) (ls : List Collection) (d : Collection) → k < length ls → IsCollectionFrom n (all_of ls) → IsCollectionFrom n (get_or ls k d)
list_rises n k ls d within rise =
    back_rises n (all_of (take k ls)) (get_or ls k d) (subst (λ hs. IsCollectionFrom n hs) (one_more k ls d within) (own_rises n (k + 1) ls rise))

-- pairs rise from a rank if the first one does
from_first : (r n : ℕ) (hs ks : Collection) → IsCollectionFrom n (hs ++ ks) → 0 < length hs → IsCollectionFrom r hs → IsCollectionFrom r (hs ++ ks)
from_first r n [] ks rise some own = absurd (omega arith)
from_first r n (h ∷ hs) ks rise some own = (own.0, rise.1, rise.2)

pub lists_from : (r k : ℕ) (ls : List Collection) (d : Collection) → k < length ls → IsCollection (all_of ls) → 0 < length (get_or ls k d)
    → IsCollectionFrom r (get_or ls k d) → IsCollectionFrom r (all_of (drop k ls))
lists_from r k ls d within rise some own =
    let own_all : List Collection → Collection = all_of in
    let is = ap own_all (drop_more ls k d within) in
    let later = back_rises 0 (all_of (take k ls)) (all_of (drop k ls)) (subst (λ hs. IsCollectionFrom 0 hs) (sym (split_lists k ls)) rise) in
    subst (λ hs. IsCollectionFrom r hs) (sym is)
    (from_first r 0 (get_or ls k d) (all_of (drop (k + 1) ls)) (subst (λ hs. IsCollectionFrom 0 hs) is later) some own)

-- all pairs are below a rank if the last one is
below_by_last : (r n : ℕ) (hs : Collection) (d : Held) → IsCollectionFrom n hs → rank_of (get_or hs (length hs - 1) d).pair < r → AreBelow r hs
below_by_last r n [] d rise lt = tt
below_by_last r n (h ∷ []) d rise lt = (lt, tt)
below_by_last r n (h ∷ k ∷ hs) d rise lt =
    let last : length (h ∷ k ∷ hs) - 1 ≡ suc (length (k ∷ hs) - 1) = omega arith in
    let rest = below_by_last r (rank_of h.pair + 1) (k ∷ hs) d rise.2
    (let e = ap (λ n. rank_of (get_or (h ∷ k ∷ hs) n d).pair) last in omega arith) in
    let le = rise.2.0 in
    let low = rest.0 in
    (omega arith, rest)

pub below_read : (b n : ℕ) (hs : Collection) (h : Held) → IsCollectionFrom n hs → h ≡ get_or hs (length hs - 1) h → raw_of h.pair.cell < b
    → AreBelow (b * 2147483648) hs
below_read b n hs h rise is lt =
    let rank = rank_before (raw_of h.pair.cell) (value_of h.pair.label) b h.pair.label.in_range lt in
    let same = ap (λ (x : Held). rank_of x.pair) is in
    below_by_last (b * 2147483648) n hs h rise (omega arith)

-- ---- neighbours one after the other

pub neighbours_append : (first : ℕ) (ts : List SpanRanges) (mid : ℕ) (us : List SpanRanges) (to : ℕ) → AreNeighbours first ts mid
    → AreNeighbours mid us to → AreNeighbours first (ts ++ us) to
neighbours_append first [] mid us to are more = subst (λ n. AreNeighbours n us to) (sym are) more
neighbours_append first (t ∷ ts) mid us to are more = (are.0, are.1, neighbours_append t.to ts mid us to are.2 more)

pub held_append : (ts us : List SpanRanges) → held_in (ts ++ us) ≡ held_in ts ++ held_in us
held_append [] us = refl
held_append (t ∷ ts) us = ap (λ hs. t.held ++ hs) (held_append ts us) ∙ sym (append_assoc t.held (held_in ts) (held_in us))

-- the numbers between which some tables lie
pub some_span : (from : ℕ) (ts : List SpanRanges) (to : ℕ) → AreNeighbours from ts to → 0 < length ts
    → (from % 2 ≡ 1) × (to % 2 ≡ 1) × (from < to)
some_span from [] to are some = absurd (omega arith)
some_span from (t ∷ []) to are some =
    let odd = are.1.within.odd in
    let odd_end = are.1.within.odd_end in
    let lt = are.1.within.some in
    let begin = are.0 in
    let end = are.2 in
    (ap (λ n. n % 2) (sym begin) ∙ odd, ap (λ n. n % 2) (sym end) ∙ odd_end, omega arith)
some_span from (t ∷ u ∷ ts) to are some =
    let odd = are.1.within.odd in
    let lt = are.1.within.some in
    let begin = are.0 in
    let rest = some_span t.to (u ∷ ts) to are.2 (omega arith) in
    let more = rest.2 in
    (ap (λ n. n % 2) (sym begin) ∙ odd, rest.1, omega arith)

pub changed_in_span : (ts : List SpanRanges) (ls : List Collection) (es : List Entry) (from to : ℕ) → 0 < length ts → IsChangedSpan ts ls es from to
    → IsInSpan (all_of ls) from to
changed_in_span ts ls es from to some was =
    let between = some_span from ts to was.neighbours some in
    record { odd = between.0; odd_end = between.1; some = between.2; begins = was.begins; ends = was.ends }

-- ---- the same, of equal lists

pub changed_same : (ts us : List SpanRanges) (ls ks : List Collection) (es fs : List Entry) (from m to n : ℕ) → IsChangedSpan ts ls es from to
    → us ≡ ts → ks ≡ ls → fs ≡ es → m ≡ from → n ≡ to → IsChangedSpan us ks fs m n
changed_same ts us ls ks es fs from m to n was e f g h k =
    subst (λ (z : ℕ). IsChangedSpan us ks fs m z) (sym k)
    (subst (λ (z : ℕ). IsChangedSpan us ks fs z to) (sym h)
    (subst (λ (xs : List Entry). IsChangedSpan us ks xs from to) (sym g)
    (subst (λ (xs : List Collection). IsChangedSpan us xs es from to) (sym f)
    (subst (λ (xs : List SpanRanges). IsChangedSpan xs ls es from to) (sym e) was))))

pub spans_taken : (k : ℕ) (ts : List TablePart) → spans_of (take k ts) ≡ take k (spans_of ts)
spans_taken zero ts = refl
spans_taken (suc k) [] = refl
spans_taken (suc k) (t ∷ ts) = ap (λ (xs : List SpanRanges). t.table ∷ xs) (spans_taken k ts)

pub spans_dropped : (k : ℕ) (ts : List TablePart) → spans_of (drop k ts) ≡ drop k (spans_of ts)
spans_dropped zero ts = refl
spans_dropped (suc k) [] = refl
spans_dropped (suc k) (t ∷ ts) = spans_dropped k ts
