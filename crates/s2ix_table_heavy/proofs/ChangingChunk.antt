-- A change within one chunk.
use Rattle.std.proofs.Common.{◌≡◌, ◌⊎◌, ℕ, zero, suc, ◌+◌, ◌<◌, ◌≤◌, inl, inr, Some, List, [], ◌∷◌, ◌++◌, drop, take, set, length, get_or, slice_get, refl, sym, ◌∙◌, ap, arith, Contains, subst, append-nil}
use Rattle.std.proofs.lemmas.Bool.{cases_eq, cases_lt}
use Rattle.std.proofs.lemmas.List.{get_or-drop, get_or-set_other, get_or-set_same, get_or-take, length-set, length-take, take_all}
use Rattle.std.proofs.lemmas.List.Elements.{Contains-get_or}
use Rattle.s2id_core.proofs.Lists.{at_head, cons_cases, in_tail, none_in_nil}
use Rattle.s2ix_bag_lists.specs.Faces.{AreEntriesBelow, all_of}
use Rattle.s2ix_bag_lists.proofs.AmongFaces.{all_is, all_put}
use Rattle.s2ix_bag_lists.proofs.Cuts.{cut_at_end}
use Rattle.s2ix_bag_lists.proofs.Joined.{changed_between}
use Rattle.s2ix_bag_lists.proofs.Joins.{back_rises, filled_at, filled_set}
use Rattle.s2ix_bag_lists.proofs.Places.{part_rises}
use Rattle.s2ix_bag_pairs.specs.Change.{IsChangeList, IsChangeListFrom, changed}
use Rattle.s2ix_bag_pairs.specs.Collection.{AreBelow, Collection, IsCollection, IsCollectionFrom}
use Rattle.s2ix_bag_pairs.specs.Pair.{rank_of}
use Rattle.s2ix_bag_pairs.specs.declared.pair.Entry.{Entry}
use Rattle.s2ix_bag_pairs.specs.declared.pair.Held.{Held}
use Rattle.s2ix_bag_pairs.proofs.Changes.{changed_keeps}
use Rattle.s2ix_table_walk.proofs.Lists.{later_rank}
use Rattle.s2ix_table_spans.specs.Blocks.{HoldsCell}
use Rattle.s2ix_table_spans.proofs.Passing.{contains_at}
use Rattle.s2ix_table_heavy.specs.Chunks.{AreChunks, AreMarks, HaveOneCell, IsOfOneCell}
use Rattle.s2ix_table_heavy.specs.ChangedChunk.{FitsChunk, IsPairOf}
use Rattle.s2ix_table_heavy.proofs.ChangedCells.{changed_cells}
use Rattle.s2ix_table_heavy.proofs.Chunked.{in_chunks, of_chunks, ranks_apart}
use Rattle.s2ix_table_heavy.proofs.HeavyWay.{IsMarked}
use Rattle.s2ix_table_heavy.proofs.Outwards.{same_some}

-- ---- the first pair of a chunk, and the last one

-- the last pair of a rising list comes after the others
last_greatest : (n k : ℕ) (xs : Collection) (last h : Held) → IsCollectionFrom n xs → slice_get xs k ≡ Some last → length xs ≤ suc k
    → Contains xs h → rank_of h.pair ≤ rank_of last.pair
last_greatest n k [] last h rises at end i = absurd (none_in_nil h i)
last_greatest n zero (x ∷ xs) last h rises at end i =
    elim (cons_cases x xs h i) [
      | inl e ↦
          (let own = ap (λ (y : Held). rank_of y.pair) e in
          let same = ap (λ (y : Held). rank_of y.pair) (same_some x last at) in
          omega arith)
      | inr j ↦ absurd (let lt = j.1 in omega arith)
    ]
last_greatest n (suc k) (x ∷ xs) last h rises at end i =
    elim (cons_cases x xs h i) [
      | inl e ↦
          (let own = ap (λ (y : Held). rank_of y.pair) e in
          let later = later_rank (rank_of x.pair + 1) xs last rises.2 (contains_at xs k last at) in
          omega arith)
      | inr j ↦ last_greatest (rank_of x.pair + 1) k xs last h rises.2 at (omega arith) j
    ]

-- and the first one before them
first_least : (n : ℕ) (xs : Collection) (first h : Held) → IsCollectionFrom n xs → slice_get xs 0 ≡ Some first → Contains xs h
    → rank_of first.pair ≤ rank_of h.pair
first_least n [] first h rises at i = absurd (none_in_nil h i)
first_least n (x ∷ xs) first h rises at i =
    let same = ap (λ (z : Held). rank_of z.pair) (same_some x first at) in
    elim (cons_cases x xs h i) [
      | inl e ↦ (let own = ap (λ (z : Held). rank_of z.pair) e in omega arith)
      | inr j ↦ (let later = later_rank (rank_of x.pair + 1) xs h rises.2 j in omega arith)
    ]

-- the last pair of a chunk comes after the others up to there
pub after_all : (chunks : List Collection) (k n : ℕ) (last h : Held) → AreChunks chunks → k < length chunks
    → slice_get (get_or chunks k []) n ≡ Some last → length (get_or chunks k []) ≤ suc n → Contains (all_of (take (k + 1) chunks)) h
    → rank_of h.pair ≤ rank_of last.pair
after_all chunks k n last h are lt at end i =
    let w = of_chunks (take (k + 1) chunks) h i in
    let j = w.0 in
    let by = length-take (k + 1) chunks in
    let less = w.1 in
    let within : j < k + 1 = omega arith in
    let own = subst (λ (c : Collection). Contains c h) (get_or-take (k + 1) chunks j [] within) w.2 in
    elim (cases_lt j k) [
      | inl before ↦
          (let r = ranks_apart 0 chunks j k h last are.rises before own (contains_at (get_or chunks k []) n last at) in
          omega arith)
      | inr not ↦
          (let same : j ≡ k = omega arith in
          last_greatest 0 n (get_or chunks k []) last h (part_rises chunks k lt are.rises) at end
          (subst (λ m. Contains (get_or chunks m []) h) same own))
    ]

-- and the first one before the others from there on
pub before_all_from : (chunks : List Collection) (k : ℕ) (first h : Held) → AreChunks chunks → k < length chunks
    → slice_get (get_or chunks k []) 0 ≡ Some first → Contains (all_of (drop k chunks)) h → rank_of first.pair ≤ rank_of h.pair
before_all_from chunks k first h are lt at i =
    let w = of_chunks (drop k chunks) h i in
    let j = w.0 in
    let own = subst (λ (c : Collection). Contains c h) (get_or-drop k chunks j []) w.2 in
    elim (cases_eq j 0) [
      | inl e ↦
          first_least 0 (get_or chunks k []) first h (part_rises chunks k lt are.rises) at
          (subst (λ n. Contains (get_or chunks n []) h) (let same : k + j ≡ k = omega arith in same) own)
      | inr ne ↦
          (let r = ranks_apart 0 chunks k (k + j) first h are.rises (omega (arith, ne)) (contains_at (get_or chunks k []) 0 first at) own in
          omega arith)
    ]

-- ---- what a change makes of a chunk

all_below : (n : ℕ) (hs : Collection) → ((h : Held) → Contains hs h → rank_of h.pair < n) → AreBelow n hs
all_below n [] each = tt
all_below n (h ∷ hs) each = (each h (at_head h hs), all_below n hs (λ x i. each x (in_tail h hs x i)))

entries_below : (n : ℕ) (es : List Entry) → ((e : Entry) → Contains es e → rank_of e.pair < n) → AreEntriesBelow n es
entries_below n [] each = tt
entries_below n (e ∷ es) each = (each e (at_head e es), entries_below n es (λ x i. each x (in_tail e es x i)))

-- all entries fall into a chunk
abbrev pub AreEntriesOf : List Collection → ℕ → List Entry → Type 0
AreEntriesOf chunks k es = (e : Entry) → Contains es e → IsPairOf chunks k e.pair

-- some rank parts the entries from what lies behind them
record IsBehind (back : Collection) (es : List Entry) : Type 0 where
  rank : ℕ
  below : AreEntriesBelow rank es
  from : IsCollectionFrom rank back

behind : (back : Collection) (es : List Entry) → IsCollection back
    → ((e : Entry) → Contains es e → (h : Held) → Contains back h → rank_of e.pair < rank_of h.pair) → IsBehind back es
behind [] es rises each =
    let end = cut_at_end [] 0 (length es) es (omega arith) (omega arith) in
    record { rank = end.rank; below = subst (AreEntriesBelow end.rank) (take_all (length es) es (omega arith)) end.entries; from = tt }
behind (b ∷ bs) es rises each = record {
  rank = rank_of b.pair;
  below = entries_below (rank_of b.pair) es (λ e i. each e i b (at_head b bs));
  from = (omega arith, rises.1, rises.2);
}

before_all : (front : Collection) (es : List Entry) → IsChangeList es
    → ((e : Entry) → Contains es e → (h : Held) → Contains front h → rank_of h.pair < rank_of e.pair)
    → (rank : ℕ) × AreBelow rank front × IsChangeListFrom rank es
before_all front [] rises each = (let end = last_rank front in (end.0, end.1, tt))
  where
    last_rank : (hs : Collection) → (rank : ℕ) × AreBelow rank hs
    last_rank hs = let end = cut_at_end (hs ∷ []) 0 0 [] (omega arith) (omega arith) in (end.rank, subst (AreBelow end.rank) (append-nil hs) end.front)
before_all front (e ∷ es) rises each =
    (rank_of e.pair, all_below (rank_of e.pair) front (λ h i. each e (at_head e es) h i), (omega arith, rises.1, rises.2))

-- the chunks with what entries make of one
pub changed_whole : (chunks : List Collection) (k : ℕ) (es : List Entry) → AreChunks chunks → IsChangeList es → k < length chunks
    → AreEntriesOf chunks k es → all_of (set chunks k (changed (get_or chunks k []) es)) ≡ changed (all_of chunks) es
changed_whole chunks k es are rises lt of =
    let own = get_or chunks k [] in
    let front = all_of (take k chunks) in
    let back = all_of (drop (suc k) chunks) in
    let next : k + 1 ≡ suc k = omega arith in
    let parted = subst (λ (hs : Collection). IsCollection hs) (all_is chunks k lt) are.rises in
    let low = before_all front es rises (λ e i h held. (of e i).after h held) in
    let high = behind back es (back_rises 0 own back (back_rises 0 front (own ++ back) parted))
    (λ e i h held. (of e i).before h (subst (λ n. Contains (all_of (drop n chunks)) h) (sym next) held)) in
    all_put chunks k (changed own es) lt
    ∙ sym (changed_between low.0 high.rank front own back es low.1 high.from low.2 high.below)
    ∙ ap (λ hs. changed hs es) (sym (all_is chunks k lt))

-- ---- a chunk in the place of another

set_cases : (chunks : List Collection) (k : ℕ) (new c : Collection) → Contains (set chunks k new) c → Contains chunks c ⊎ (new ≡ c)
set_cases [] k new c i = inl i
set_cases (p ∷ ps) zero new c i =
    elim (cons_cases new ps c i) [
      | inl e ↦ inr e
      | inr j ↦ inl (in_tail p ps c j)
    ]
set_cases (p ∷ ps) (suc k) new c i =
    elim (cons_cases p (set ps k new) c i) [
      | inl e ↦ inl (subst (Contains (p ∷ ps)) e (at_head p ps))
      | inr j ↦
          elim (set_cases ps k new c j) [
            | inl old ↦ inl (in_tail p ps c old)
            | inr e ↦ inr e
          ]
    ]

-- pairs of the cell of a chunk
own_cell : (own new : Collection) → 0 < length own → HaveOneCell own new → IsOfOneCell new
own_cell [] new some one = absurd (omega arith)
own_cell (h ∷ hs) new some one = λ a b i j. sym (one h a (at_head h hs) i) ∙ one h b (at_head h hs) j

pub fits_chunk : (chunks : List Collection) (k : ℕ) (new : Collection) (es : List Entry) → AreChunks chunks → IsChangeList es → k < length chunks
    → AreEntriesOf chunks k es → new ≡ changed (get_or chunks k []) es → 0 < length new → length (changed (all_of chunks) es) ≤ 1000000
    → FitsChunk chunks k new
fits_chunk chunks k new es are rises lt of is some within_limit =
    let own = get_or chunks k [] in
    let whole = ap (λ c. all_of (set chunks k c)) is ∙ changed_whole chunks k es are rises lt of in
    let long = ap (λ (hs : Collection). length hs) whole in
    let filled = filled_at chunks k [] lt are.filled in
    let first : (a : Held) → Contains own a → (b : Held) → Contains new b → a.pair.cell ≡ b.pair.cell =
    λ a i b j. changed_cells (λ cell. a.pair.cell ≡ cell) own es (λ h held. are.one_cell own (Contains-get_or chunks k [] lt) a h i held)
    (λ e held. (of e held).cell a i) b (subst (λ (c : Collection). Contains c b) is j) in
    let one : HaveOneCell own new = λ a b i j. first a i b j in
    record {
      listed = lt;
      cell = one;
      are_chunks = record {
        rises = subst (λ (hs : Collection). IsCollection hs) (sym whole) (changed_keeps (all_of chunks) es are.rises rises);
        within_limit = omega arith;
        filled = filled_set chunks k new are.filled some;
        one_cell = λ c i. elim (set_cases chunks k new c i) [
          | inl old ↦ are.one_cell c old
          | inr e ↦ subst IsOfOneCell e (own_cell own new filled one)
        ];
      };
    }

-- the cell of each entry has pairs in the chunk
pub entry_cell : (chunks : List Collection) (k : ℕ) (es : List Entry) (e : Entry) → AreChunks chunks → k < length chunks → AreEntriesOf chunks k es
    → Contains es e → HoldsCell (all_of chunks) e.pair.cell
entry_cell chunks k es e are lt of i = first_cell (get_or chunks k []) refl (filled_at chunks k [] lt are.filled)
  where
    first_cell : (own : Collection) → get_or chunks k [] ≡ own → 0 < length own → HoldsCell (all_of chunks) e.pair.cell
    first_cell [] is some = absurd (omega arith)
    first_cell (h ∷ hs) is some =
        let held = subst (λ (c : Collection). Contains c h) (sym is) (at_head h hs) in
        (h, in_chunks chunks k h held, (of e i).cell h held)

-- the marks stay
pub marks_stay : (chunks : List Collection) (marks : Collection) (k : ℕ) (new : Collection) → AreChunks chunks → AreMarks chunks marks
    → FitsChunk chunks k new → AreMarks (set chunks k new) marks
marks_stay chunks marks k new are mark fits = record {
  size = mark.size ∙ sym (length-set chunks k new);
  each = λ j m is.
      let own = mark.each j m is in record {
        cell = elim (cases_eq j k) [
          | inl e ↦ λ h i.
              let same = ap (λ n. get_or (set chunks k new) n []) e ∙ get_or-set_same chunks k new [] fits.listed in
              let old = get_or (get_or chunks k []) 0 h in
              let held = Contains-get_or (get_or chunks k []) 0 h (filled_at chunks k [] fits.listed are.filled) in
              sym (fits.cell old h held (subst (λ (c : Collection). Contains c h) same i))
              ∙ own.cell old (subst (λ n. Contains (get_or chunks n []) old) (sym e) held)
          | inr ne ↦ λ h i. own.cell h (subst (λ (c : Collection). Contains c h) (get_or-set_other chunks k j new [] ne) i)
        ];
        label = own.label;
        count = own.count;
      };
}

-- the same chunks, if they are in order with the new one
pub fits_marked : (chunks : List Collection) (marks : Collection) (k : ℕ) (new : Collection) → IsMarked chunks marks → FitsChunk chunks k new
    → IsMarked (set chunks k new) marks
fits_marked chunks marks k new all fits = record {
  are = fits.are_chunks;
  mark = marks_stay chunks marks k new all.are all.mark fits;
  rises = all.rises;
}
