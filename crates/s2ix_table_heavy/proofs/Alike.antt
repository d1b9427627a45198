-- Chunks with the same marks lie alike.
use Rattle.std.proofs.Common.{◌≡◌, ℕ, ◌<◌, inl, inr, Option, Some, None, List, [], drop, length, get_or, slice_get, refl, sym, ◌∙◌, ap, arith, Contains, subst}
use Rattle.std.proofs.lemmas.Bool.{cases_eq}
use Rattle.std.proofs.lemmas.Option.{get_or_from_slice_get, slice_get-get_or, slice_get_within}
use Rattle.std.proofs.lemmas.List.Elements.{Contains-get_or}
use Rattle.s2id_core.specs.declared.cell_id.CellId.{CellId}
use Rattle.s2id_core.proofs.Lists.{none_in_nil}
use Rattle.s2ix_bag_lists.specs.Faces.{all_of}
use Rattle.s2ix_bag_lists.proofs.Joins.{filled_at}
use Rattle.s2ix_bag_pairs.specs.Collection.{Collection}
use Rattle.s2ix_bag_pairs.specs.declared.pair.Held.{Held}
use Rattle.s2ix_table_walk.specs.Contents.{contents_at, depth_key}
use Rattle.s2ix_table_walk.specs.Places.{LeadsTo}
use Rattle.s2ix_table_walk.proofs.Leads.{leads_some, leads_none}
use Rattle.s2ix_table_walk.proofs.Over.{in_contents, contents_has}
use Rattle.s2ix_table_spans.specs.Blocks.{HoldsCell}
use Rattle.s2ix_table_spans.specs.Chains.{chain_of}
use Rattle.s2ix_table_spans.proofs.Chains.{chain_some, outward_self}
use Rattle.s2ix_table_spans.proofs.Passing.{contains_at}
use Rattle.s2ix_table_heavy.specs.ChangedChunk.{LieAlike}
use Rattle.s2ix_table_heavy.specs.HeavyChains.{pair_at, heavy_chain, first_place}
use Rattle.s2ix_table_heavy.specs.declared.heavy_place.HeavyPlace.{HeavyPlace}
use Rattle.s2ix_table_heavy.proofs.Chunked.{in_chunks, of_chunks, chunk_outwards}
use Rattle.s2ix_table_heavy.proofs.HeavyWay.{IsMarked, chain_outwards, chunk_begins, has_pair, heavy_has, heavy_is, in_heavy, mark_there, on_chain, pair_held, pair_there}
use Rattle.s2ix_table_heavy.proofs.Marked.{chunks_of, contents_by_marks, marks_over, over_too, same_marks}
use Rattle.s2ix_table_heavy.proofs.Outwards.{contents_outwards}

-- the pairs over two leaves are the same if they were
same_still : (old new : List Collection) (marks : Collection) → IsMarked old marks → IsMarked new marks → (q r : ℕ)
    → contents_at q (all_of old) ≡ contents_at r (all_of old) → contents_at q (all_of new) ≡ contents_at r (all_of new)
same_still old new marks was is q r same =
    contents_by_marks new marks is.are is.mark is.rises q
    ∙ ap (chunks_of new) (marks_over old marks was.are was.mark was.rises q r same)
    ∙ sym (contents_by_marks new marks is.are is.mark is.rises r)

-- ---- the place that leads to what lies over a leaf

-- it is that of a chunk's first pair
is_first : (chunks : List Collection) (place : HeavyPlace) (q : ℕ) (x : Held) (marks : Collection) → IsMarked chunks marks
    → pair_at chunks place ≡ Some x → heavy_chain chunks place ≡ contents_at q (all_of chunks) → place.node ≡ 0
is_first chunks place q x marks all at is =
    let own = get_or chunks place.chunk [] in
    let lt = slice_get_within own place.node x at in
    let first = get_or own 0 x in
    let first_at : slice_get own 0 ≡ Some first = slice_get-get_or own 0 x (omega arith) in
    let in_first = contains_at own 0 first first_at in
    let cell = all.are.one_cell own (Contains-get_or chunks place.chunk [] (pair_there chunks place x at).chunk) x first
    (contains_at own place.node x at) in_first in
    let here = heavy_has chunks place x x at (pair_held chunks place x at) (outward_self x) in
    let over = (in_contents q (all_of chunks) x (subst (λ (c : Collection). Contains c x) is here)).1 in
    let first_here = contents_has q (all_of chunks) first (in_chunks chunks place.chunk first in_first) (over_too q x first cell over) in
    let depth = (in_heavy chunks place x first at (subst (λ (c : Collection). Contains c first) (sym is) first_here)).1.depth in
    elim (cases_eq place.node 0) [
      | inl e ↦ e
      | inr ne ↦
          absurd
          (let below = chunk_outwards chunks all.are place.chunk 0 place.node x (omega (arith, ne)) lt in
          let same = ap depth_key (get_or_from_slice_get own place.node x x at) in
          omega arith)
    ]

-- the chain of that chunk's mark is what the marks have over the leaf
its_marks : (chunks : List Collection) (marks : Collection) (place : HeavyPlace) (q : ℕ) → IsMarked chunks marks
    → 0 < length (heavy_chain chunks place) → heavy_chain chunks place ≡ contents_at q (all_of chunks)
    → (place.node ≡ 0) × (chain_of marks place.chunk ≡ contents_at q marks)
its_marks chunks marks place q all some is =
    let p = has_pair chunks place some in
    let k = place.chunk in
    let mk = mark_there chunks marks k all p.chunk in
    let node = is_first chunks place q p.pair marks all p.is is in
    let pairs : chunks_of chunks (chain_of marks k) ≡ chunks_of chunks (contents_at q marks) =
    ap (λ n. drop n (chunks_of chunks (chain_of marks k))) (sym node)
    ∙ sym (heavy_is chunks marks place mk.0 p.pair all mk.1 p.is)
    ∙ is
    ∙ contents_by_marks chunks marks all.are all.mark all.rises q in (
      node,
      same_marks chunks marks all.are all.mark (chain_of marks k) (contents_at q marks) (chain_outwards marks k mk.0 all.rises mk.1)
          (contents_outwards q marks all.rises) (λ m i. (on_chain marks k mk.0 m mk.1 i).0) (λ m i. (in_contents q marks m i).0) pairs,
    )

no_pairs : (chunks : List Collection) (marks : Collection) (q : ℕ) → IsMarked chunks marks → [] ≡ contents_at q (all_of chunks)
    → contents_at q marks ≡ []
no_pairs chunks marks q all none =
    same_marks chunks marks all.are all.mark (contents_at q marks) [] (contents_outwards q marks all.rises)
    (λ i j d lt within. absurd (omega arith)) (λ m i. (in_contents q marks m i).0) (λ m i. absurd (none_in_nil m i))
    (sym (contents_by_marks chunks marks all.are all.mark all.rises q) ∙ sym none)

leads_still : (old new : List Collection) (marks : Collection) → IsMarked old marks → IsMarked new marks → (q : ℕ) (over : Option HeavyPlace)
    → LeadsTo (heavy_chain old) over (contents_at q (all_of old)) → LeadsTo (heavy_chain new) over (contents_at q (all_of new))
leads_still old new marks was is q None leads =
    leads_none (heavy_chain new) (contents_at q (all_of new))
    (contents_by_marks new marks is.are is.mark is.rises q ∙ ap (chunks_of new) (no_pairs old marks q was leads.pairs_are))
leads_still old new marks was is q (Some place) leads =
    let some = leads.place place refl in
    let p = has_pair old place some in
    let k = place.chunk in
    let its = its_marks old marks place q was some leads.pairs_are in
    let lt = p.chunk in
    let size = was.mark.size in
    let begins = chunk_begins new marks k is (chain_some marks k (omega arith)) in
    let same : place ≡ first_place k = λ i. record { chunk = k; node = its.0 i } in
    let pairs : chunks_of new (chain_of marks k) ≡ contents_at q (all_of new) =
    ap (chunks_of new) its.1 ∙ sym (contents_by_marks new marks is.are is.mark is.rises q) in
    leads_some (heavy_chain new) place (contents_at q (all_of new)) (ap (heavy_chain new) same ∙ begins.0 ∙ pairs)
    (subst (λ (c : Collection). 0 < length c) pairs begins.1)

-- ---- cells

cells_still : (old new : List Collection) (marks : Collection) → IsMarked old marks → IsMarked new marks → (cell : CellId)
    → HoldsCell (all_of new) cell → HoldsCell (all_of old) cell
cells_still old new marks was is cell (h, held, same) =
    let w = of_chunks new h held in
    let k = w.0 in
    let size = was.mark.size in
    let now_size = is.mark.size in
    let by = w.1 in
    let lt : k < length old = omega arith in
    let mk = mark_there new marks k is w.1 in
    let own = get_or old k [] in
    let first = get_or own 0 h in
    let in_first = Contains-get_or own 0 h (filled_at old k [] lt was.are.filled) in (
      first,
      in_chunks old k first in_first,
      (was.mark.each k mk.0 mk.1).cell first in_first ∙ sym ((is.mark.each k mk.0 mk.1).cell h w.2) ∙ same,
    )

pub lie_alike : (old new : List Collection) (marks : Collection) → IsMarked old marks → IsMarked new marks → LieAlike old new
lie_alike old new marks was is = record {
  same = same_still old new marks was is;
  leads = leads_still old new marks was is;
  cells = cells_still old new marks was is;
}
