-- Pairs of one cell in front of a list, and chunks that are cut off.
use Rattle.std.proofs.Common.{◌≡◌, ℕ, ◌+◌, ◌<◌, ◌≤◌, inl, inr, List, [], ◌∷◌, ◌++◌, length, take, drop, append_assoc, get_or, sym, ◌∙◌, ap, Contains, subst}
use Rattle.std.proofs.lemmas.List.{take_more, take-append-drop}
use Rattle.std.proofs.lemmas.List.Elements.{Contains-push_cases}
use Rattle.s2id_core.specs.declared.cell_id.CellId.{CellId}
use Rattle.s2id_core.proofs.Lists.{cons_cases, none_in_nil}
use Rattle.s2ix_bag_lists.specs.Faces.{all_of}
use Rattle.s2ix_bag_lists.specs.Parts.{AreFilled}
use Rattle.s2ix_bag_lists.proofs.Joins.{all_push}
use Rattle.s2ix_bag_pairs.specs.Collection.{Collection, IsCollection}
use Rattle.s2ix_bag_pairs.specs.declared.pair.Held.{Held}
use Rattle.s2ix_table_heavy.specs.Chunks.{AreChunks, IsOfOneCell}

-- ---- in front

abbrev pub AllHaveCell : CellId → Collection → Type 0
AllHaveCell cell held = (h : Held) → Contains held h → h.pair.cell ≡ cell

pub first_has_cell : (held : Collection) (cell : CellId) (x : Held) → 0 < length held → x ≡ get_or held 0 x → x.pair.cell ≡ cell
    → AllHaveCell cell (take 1 held)
first_has_cell [] cell x some is same h i = absurd (none_in_nil h i)
first_has_cell (y ∷ ys) cell x some is same h i =
    elim (cons_cases y [] h i) [
      | inl e ↦ ap (λ (z : Held). z.pair.cell) (sym (is ∙ e)) ∙ same
      | inr none ↦ absurd (none_in_nil h none)
    ]

pub one_more_has_cell : (held : Collection) (cell : CellId) (k : ℕ) (x : Held) → k < length held → x ≡ get_or held k x → x.pair.cell ≡ cell
    → AllHaveCell cell (take k held) → AllHaveCell cell (take (k + 1) held)
one_more_has_cell held cell k x lt is same all h i =
    let in_more = subst (λ (xs : Collection). Contains xs h) (take_more held k x lt) i in
    elim (Contains-push_cases (take k held) (get_or held k x) h in_more) [
      | inl before ↦ all h before
      | inr e ↦ ap (λ (z : Held). z.pair.cell) (sym (is ∙ e)) ∙ same
    ]

pub one_cell_in : (held : Collection) (cell : CellId) → AllHaveCell cell held → IsOfOneCell held
one_cell_in held cell all a b i j = all a i ∙ sym (all b j)

-- ---- chunks

abbrev pub AreOfOneCell : List Collection → Type 0
AreOfOneCell chunks = (chunk : Collection) → Contains chunks chunk → IsOfOneCell chunk

pub one_cell_more : (chunks : List Collection) (chunk : Collection) → AreOfOneCell chunks → IsOfOneCell chunk
    → AreOfOneCell (chunks ++ chunk ∷ [])
one_cell_more chunks chunk all own c i =
    elim (Contains-push_cases chunks chunk c i) [ inl before ↦ all c before | inr e ↦ subst IsOfOneCell e own ]

pub chunks_cut : (chunks : List Collection) (held : Collection) → all_of chunks ≡ held → AreFilled chunks → AreOfOneCell chunks
    → IsCollection held → length held ≤ 1000000 → AreChunks chunks
chunks_cut chunks held whole filled one rises within_limit = record {
  rises = subst IsCollection (sym whole) rises;
  within_limit = subst (λ (hs : Collection). length hs ≤ 1000000) (sym whole) within_limit;
  filled = filled;
  one_cell = one;
}

-- a chunk that takes the front of what is left
pub all_more : (chunks : List Collection) (chunk : Collection) (k : ℕ) (rest : Collection) → chunk ≡ take k rest
    → all_of (chunks ++ chunk ∷ []) ++ drop k rest ≡ all_of chunks ++ rest
all_more chunks chunk k rest own =
    ap (λ (x : Collection). x ++ drop k rest) (all_push chunks chunk) ∙ append_assoc (all_of chunks) chunk (drop k rest)
    ∙ ap (λ (x : Collection). all_of chunks ++ (x ++ drop k rest)) own
    ∙ ap (λ (x : Collection). all_of chunks ++ x) (take-append-drop k rest)
