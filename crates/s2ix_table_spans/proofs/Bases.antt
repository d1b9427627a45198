-- The way out of a block, and the ranges over its cell.
use Rattle.std.proofs.Common.{◌≡◌, ℕ, ◌+◌, ◌-◌, ◌<◌, ◌≤◌, inl, inr, Some, List, take, drop, length, get_or, slice_get, slice_index_or, ◌∙◌, ap, arith, Contains, subst}
use Rattle.std.proofs.lemmas.Bool.{cases_lt}
use Rattle.std.proofs.lemmas.List.{length-take, length-drop, get_or-drop, get_or-take, get_or_default, drop_all}
use Rattle.s2id_core.specs.CellId.{raw_of, first_of, end_of}
use Rattle.s2id_core.specs.declared.cell_id.CellId.{CellId}
use Rattle.s2id_core.proofs.Lists.{none_in_nil}
use Rattle.s2id_core.proofs.Nested.{span}
use Rattle.s2ix_bag_pairs.specs.Collection.{Collection}
use Rattle.s2ix_table_walk.specs.Bounds.{IsBound}
use Rattle.s2ix_table_walk.specs.Table.{IsTableOver}
use Rattle.s2ix_table_spans.specs.Blocks.{IsBlock, IsBlockAt, IsBeside, AreOverCell, HoldsCell, around}
use Rattle.s2ix_table_spans.specs.Chains.{chain_of, AreOuter}
use Rattle.s2ix_table_spans.specs.SpanTable.{IsInSpan}
use Rattle.s2ix_table_spans.specs.Starts.{ranges_from, IsLastStart}
use Rattle.s2ix_table_spans.proofs.Blocks.{block_nested}
use Rattle.s2ix_table_spans.proofs.BlockChains.{LeadsAround, around_first, around_step, around_found}
use Rattle.s2ix_table_spans.proofs.Chains.{chain_some}
use Rattle.s2ix_table_spans.proofs.Splicing.{start_at_bound, starts_split}
use Rattle.s2ix_table_spans.proofs.Spliced.{parts_of, front_long, block_long}
use Rattle.s2ix_table_spans.proofs.Tables.{outer_at}
use Rattle.s2ix_table_spans.proofs.Windows.{starts_rise}

-- the next place outwards has a shorter chain
pub chain_shortens : (held : Collection) (outer : List ℕ) (place d : ℕ) → length outer ≡ length held → AreOuter held outer
    → place < length held → length (chain_of held (get_or outer place d)) < length (chain_of held place)
chain_shortens held outer place d size are lt =
    let next = get_or outer place d in
    let same = ap length (outer_at held outer place next size are lt (get_or_default outer place d next (omega arith))) in
    let some = chain_some held place lt in
    let rest = length-drop 1 (chain_of held place) in
    omega arith

-- ---- the way out of a block

pub base_first : (held : Collection) (cell : CellId) (start len : ℕ) → start + len ≤ length held → 0 < len → IsBlockAt held cell start len
    → LeadsAround cell (take start held) (take len (drop start held)) (drop (start + len) held) start
base_first held cell start len fits some block =
    let front = front_long held start len fits in
    let long = block_long held start len fits in
    around_first cell (take start held) (take len (drop start held)) (drop (start + len) held) block start (omega arith) (omega arith)

pub base_step : (held : Collection) (cell : CellId) (start len : ℕ) (outer : List ℕ) (place next : ℕ) → start + len ≤ length held
    → IsBlockAt held cell start len → AreOuter held outer → start ≤ place → place < start + len → slice_get outer place ≡ Some next
    → LeadsAround cell (take start held) (take len (drop start held)) (drop (start + len) held) place
    → LeadsAround cell (take start held) (take len (drop start held)) (drop (start + len) held) next
base_step held cell start len outer place next fits block are ge lt leads a =
    let front = front_long held start len fits in
    let long = block_long held start len fits in
    around_step cell (take start held) (take len (drop start held)) (drop (start + len) held) outer block
    (subst (λ (hs : Collection). AreOuter hs outer) (parts_of held start len fits) are) place next (omega arith) (omega arith) leads a

pub base_found : (held : Collection) (cell : CellId) (start len place : ℕ) → start + len ≤ length held → IsBlockAt held cell start len
    → IsBeside start len place → LeadsAround cell (take start held) (take len (drop start held)) (drop (start + len) held) place
    → chain_of held place ≡ around cell (take start held) (drop (start + len) held)
base_found held cell start len place fits block beside a =
    let before = take start held in
    let front = front_long held start len fits in
    let long = block_long held start len fits in
    let apart : IsBeside (length before) (length (take len (drop start held))) place =
    elim beside [ inl lt ↦ inl (omega arith) | inr ge ↦ inr (omega arith) ] in
    ap (λ hs. chain_of hs place) (parts_of held start len fits)
    ∙ around_found cell before (take len (drop start held)) (drop (start + len) held) block place apart a

-- ---- pairs of a block

-- a cell that is held is held in its block
pub some_in_block : (held : Collection) (cell : CellId) (start len : ℕ) → IsBlockAt held cell start len → HoldsCell held cell → 0 < len
some_in_block held cell start len block own =
    let h = own.0 in
    let k = own.1.0 in
    let s = span (raw_of cell) cell.valid in
    let a = s.from in
    let b = s.to in
    let same = ap raw_of own.2 in
    let short = own.1.1 in
    elim (cases_lt k start) [
      | inl lt ↦
          (let many = length-take start held in
          let at = block.lesser h (k, omega arith, get_or-take start held k h lt ∙ own.1.2) in
          absurd (omega arith))
      | inr ge ↦
          elim (cases_lt k (start + len)) [
            | inl lt ↦ omega arith
            | inr past ↦
                (let many = length-drop (start + len) held in
                let place : start + len + (k - (start + len)) ≡ k = omega arith in
                let at = block.greater h (
                  k - (start + len),
                  omega arith,
                  get_or-drop (start + len) held (k - (start + len)) h ∙ ap (λ n. get_or held n h) place ∙ own.1.2,
                ) in
                absurd (omega arith))
          ]
    ]

-- the pairs of a block lie in the span of its cell
pub block_in_span : (cell : CellId) (before block after : Collection) → IsBlock cell before block after
    → IsInSpan block (first_of cell) (end_of cell)
block_in_span cell before block after b =
    let s = span (raw_of cell) cell.valid in
    let from = s.from in
    let to = s.to in
    record {
      odd = s.odd;
      odd_end = s.odd_end;
      some = omega arith;
      begins = λ h i. (block_nested cell before block after b h i).from;
      ends = λ h i. (block_nested cell before block after b h i).to;
    }

-- ---- the ranges over a cell

own_bounds : (held : Collection) (cell : CellId) → HoldsCell held cell → IsBound held (first_of cell) × IsBound held (end_of cell)
own_bounds held cell own = ((own.0, own.1, inl (ap first_of own.2)), (own.0, own.1, inr (ap end_of own.2)))

pub cell_in_span : (held : Collection) (cell : CellId) (from to : ℕ) → IsInSpan held from to → HoldsCell held cell
    → (from ≤ first_of cell) × (end_of cell ≤ to)
cell_in_span held cell from to within own = (
  subst (λ (x : CellId). from ≤ first_of x) own.2 (within.begins own.0 own.1),
  subst (λ (x : CellId). end_of x ≤ to) own.2 (within.ends own.0 own.1),
)

start_there : (starts : List ℕ) (k d number : ℕ) → k < length starts → slice_index_or starts k 0 ≡ number → slice_index_or (drop k starts) 0 d ≡ number
start_there starts k d number lt is =
    get_or-drop k starts 0 d ∙ ap (λ n. get_or starts n d) (let e : k + 0 ≡ k = omega arith in e) ∙ get_or_default starts k d 0 lt ∙ is

-- the last start by a cell's first leaf is that leaf
first_at_cell : (held : Collection) (cell : CellId) (from to : ℕ) (starts : List ℕ) (k : ℕ) → IsTableOver held from to (ranges_from held starts to)
    → IsInSpan held from to → HoldsCell held cell → IsLastStart starts (first_of cell) k → slice_index_or starts k 0 ≡ first_of cell
first_at_cell held cell from to starts k table within own last =
    let s = span (raw_of cell) cell.valid in
    let a = s.from in
    let b = s.to in
    let ends = (cell_in_span held cell from to within own).1 in
    start_at_bound held from to starts (first_of cell) k table s.odd (cell_in_span held cell from to within own).0 (omega arith)
    (inl (own_bounds held cell own).0) last

pub cut_within : (held : Collection) (cell : CellId) (from to : ℕ) (starts : List ℕ) (first last : ℕ)
    → IsTableOver held from to (ranges_from held starts to) → IsInSpan held from to → HoldsCell held cell
    → IsLastStart starts (first_of cell) first → end_of cell < to → IsLastStart starts (end_of cell) last → AreOverCell starts cell to first last
cut_within held cell from to starts first last table within own at_first lt at_last =
    let s = span (raw_of cell) cell.valid in
    let a = s.from in
    let b = s.to in
    let begins = (cell_in_span held cell from to within own).0 in
    let one = first_at_cell held cell from to starts first table within own at_first in
    let two = start_at_bound held from to starts (end_of cell) last table s.odd_end (omega arith) lt (inl (own_bounds held cell own).1) at_last in
    let split = starts_split held from to starts first table at_first.within in
    let split_last = starts_split held from to starts last table at_last.within in
    let rise = starts_rise held from to starts table in
    let l = at_last.within in
    let f = at_first.within in
    record {
      rises = elim (cases_lt last first) [
        | inl less ↦ absurd (let r = rise last first 0 less f in omega arith)
        | inr ge ↦ ge
      ];
      within = omega arith;
      begins = start_there starts first to (first_of cell) f one;
      ends = start_there starts last to (end_of cell) l two;
      before = λ n is. (let lesser = split.before n is in omega arith);
      after = λ n is. (let greater = split_last.after n is in omega arith);
    }

pub cut_to_end : (held : Collection) (cell : CellId) (from to : ℕ) (starts : List ℕ) (first : ℕ)
    → IsTableOver held from to (ranges_from held starts to) → IsInSpan held from to → HoldsCell held cell
    → IsLastStart starts (first_of cell) first → to ≤ end_of cell → AreOverCell starts cell to first (length starts)
cut_to_end held cell from to starts first table within own at_first le =
    let ends = (cell_in_span held cell from to within own).1 in
    let one = first_at_cell held cell from to starts first table within own at_first in
    let split = starts_split held from to starts first table at_first.within in
    let f = at_first.within in
    let none = drop_all (length starts) starts (omega arith) in
    record {
      rises = omega arith;
      within = omega arith;
      begins = start_there starts first to (first_of cell) f one;
      ends = ap (λ (ss : List ℕ). slice_index_or ss 0 to) none ∙ (let e : to ≡ end_of cell = omega arith in e);
      before = λ n is. (let lesser = split.before n is in omega arith);
      after = λ n is. absurd (none_in_nil n (subst (λ (ss : List ℕ). Contains ss n) none is));
    }
