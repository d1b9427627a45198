-- The search for the chunks of a cell.
use Rattle.std.proofs.Common.{◌≡◌, ℕ, ◌+◌, ◌<◌, ◌≤◌, inl, inr, Some, List, [], ◌∷◌, length, get_or, slice_get, drop, sym, ◌∙◌, ap, arith, Contains, subst}
use Rattle.std.proofs.lemmas.Bool.{cases_lt}
use Rattle.std.proofs.lemmas.List.{get_or_past}
use Rattle.std.proofs.lemmas.List.Elements.{Contains-get_or}
use Rattle.s2id_core.proofs.Lists.{none_in_nil}
use Rattle.s2ix_table_spans.proofs.Passing.{contains_at}
use Rattle.s2id_core.specs.CellId.{raw_of}
use Rattle.s2id_core.specs.declared.cell_id.CellId.{CellId}
use Rattle.s2ix_bag_lists.specs.Faces.{all_of}
use Rattle.s2ix_bag_lists.proofs.Joins.{filled_at}
use Rattle.s2ix_bag_pairs.specs.Collection.{Collection}
use Rattle.s2ix_bag_pairs.specs.declared.pair.Held.{Held}
use Rattle.s2ix_table_spans.specs.Blocks.{HoldsCell}
use Rattle.s2ix_table_spans.specs.Chains.{chain_of}
use Rattle.s2ix_table_heavy.specs.Chunks.{AreChunks, IsFirstFrom}
use Rattle.s2ix_table_heavy.proofs.Chunked.{in_chunks, of_chunks, ranks_apart}
use Rattle.s2ix_table_heavy.proofs.HeavyWay.{IsMarked, mark_headed, mark_there}
use Rattle.s2ix_table_spans.proofs.Numbers.{raw_by_rank}
use Rattle.s2ix_table_spans.proofs.OnePlace.{heads_agree}

-- the chunks in front of a number have cells before this one, and those from another number on have none before it
pub record IsNarrowed (chunks : List Collection) (cell : CellId) (low high : ℕ) : Type 0 where
  pub rises : low ≤ high
  pub within : high ≤ length chunks
  pub before : (j : ℕ) (h : Held) → j < low → Contains (get_or chunks j []) h → raw_of h.pair.cell < raw_of cell
  pub from : (j : ℕ) (h : Held) → high ≤ j → Contains (get_or chunks j []) h → raw_of cell ≤ raw_of h.pair.cell

-- cells rise from chunk to chunk
cells_rise : (chunks : List Collection) (j k : ℕ) (a b : Held) → AreChunks chunks → j ≤ k → k < length chunks
    → Contains (get_or chunks j []) a → Contains (get_or chunks k []) b → raw_of a.pair.cell ≤ raw_of b.pair.cell
cells_rise chunks j k a b are le lt i l =
    elim (cases_lt j k) [
      | inl less ↦ raw_by_rank a b (ranks_apart 0 chunks j k a b are.rises less i l)
      | inr more ↦
          (let same : j ≡ k = omega arith in
          let in_k = subst (λ n. Contains (get_or chunks n []) a) same i in
          let e = ap raw_of (are.one_cell (get_or chunks k []) (Contains-get_or chunks k [] lt) a b in_k l) in
          omega arith)
    ]

pub nothing_known : (chunks : List Collection) (cell : CellId) (high : ℕ) → high ≡ length chunks → IsNarrowed chunks cell 0 high
nothing_known chunks cell high e = record {
  rises = omega arith;
  within = omega arith;
  before = λ j h lt i. absurd (omega arith);
  from = λ j h ge i. absurd
      (let c = subst (λ (list : Collection). Contains list h) (get_or_past chunks j [] (omega arith)) i in none_in_nil h c);
}

-- what the middle chunk's mark shows
pub record HasCell (chunks : List Collection) (k raw : ℕ) : Type 0 where
  pub within : k < length chunks
  pub pair : Held
  pub held : Contains (get_or chunks k []) pair
  pub is : raw_of pair.pair.cell ≡ raw

pub low_moves : (chunks : List Collection) (cell : CellId) (low high middle raw : ℕ) → AreChunks chunks → IsNarrowed chunks cell low high
    → middle < high → low ≤ middle → HasCell chunks middle raw → raw < raw_of cell → IsNarrowed chunks cell (middle + 1) high
low_moves chunks cell low high middle raw are was lt ge has less =
    let is = has.is in record {
      rises = omega arith;
      within = was.within;
      before = λ j h by i. let le = cells_rise chunks j middle h has.pair are (omega arith) has.within i has.held in omega arith;
      from = was.from;
    }

pub high_moves : (chunks : List Collection) (cell : CellId) (low high middle raw : ℕ) → AreChunks chunks → IsNarrowed chunks cell low high
    → middle < high → low ≤ middle → HasCell chunks middle raw → raw_of cell ≤ raw → IsNarrowed chunks cell low middle
high_moves chunks cell low high middle raw are was lt ge has more =
    let is = has.is in record {
      rises = ge;
      within = let w = was.within in omega arith;
      before = was.before;
      from = λ j h by i. elim (cases_lt j (length chunks)) [
        | inl short ↦ (let le = cells_rise chunks middle j has.pair h are by short has.held i in omega arith)
        | inr past ↦ absurd
            (let c = subst (λ (list : Collection). Contains list h) (get_or_past chunks j [] past) i in none_in_nil h c)
      ];
    }

-- the mark's cell is that of a pair of its chunk
pub cell_of_mark : (chunks : List Collection) (marks : Collection) (k : ℕ) (m : Held) → IsMarked chunks marks → k < length chunks
    → chain_of marks k ≡ m ∷ drop 1 (chain_of marks k) → HasCell chunks k (raw_of m.pair.cell)
cell_of_mark chunks marks k m all lt is =
    let mk = mark_there chunks marks k all lt in
    let rest = drop 1 (chain_of marks k) in
    let same : mk.0 ≡ m = heads_agree mk.0 m rest rest (sym (mark_headed marks k mk.0 all.rises mk.1) ∙ is) in
    let filled = filled_at chunks k [] lt all.are.filled in
    let h = get_or (get_or chunks k []) 0 m in
    let i = Contains-get_or (get_or chunks k []) 0 m filled in
    let raw = ap raw_of ((all.mark.each k mk.0 mk.1).cell h i) ∙ ap (λ (x : Held). raw_of x.pair.cell) same in
    record { within = lt; pair = h; held = i; is = raw }

-- ---- the answer

pub holds_cell : (chunks : List Collection) (cell : CellId) (k : ℕ) (h : Held) → slice_get (get_or chunks k []) 0 ≡ Some h
    → h.pair.cell ≡ cell → HoldsCell (all_of chunks) cell
holds_cell chunks cell k h is same = (h, in_chunks chunks k h (contains_at (get_or chunks k []) 0 h is), same)

-- a cell that some pair has is that of the chunk that was found
pub found_cell : (chunks : List Collection) (cell : CellId) (k : ℕ) → AreChunks chunks → IsFirstFrom chunks cell k
    → HoldsCell (all_of chunks) cell
    → (k < length chunks) × ((x : Held) → slice_get (get_or chunks k []) 0 ≡ Some x → raw_of x.pair.cell ≡ raw_of cell)
found_cell chunks cell k are first (h, held, same) =
    let w = of_chunks chunks h held in
    let lt = w.1 in
    let raw = ap raw_of same in
    let by : k ≤ w.0 = elim (cases_lt w.0 k) [
      | inl less ↦ absurd (let r = first.before w.0 h less w.2 in omega arith)
      | inr le ↦ le
    ] in (
      omega arith,
      λ x is.
          let i = contains_at (get_or chunks k []) 0 x is in
          let ge = first.from k x (omega arith) i in
          let le = cells_rise chunks k w.0 x h are by lt i w.2 in
          omega arith,
    )
