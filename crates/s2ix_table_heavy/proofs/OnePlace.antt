-- A heavy pair has one place.
use Rattle.std.proofs.Common.{◌≡◌, ℕ, ◌≤◌, inl, inr, Some, List, [], ◌∷◌, drop, length, get_or, slice_get, sym, ◌∙◌, ap, arith, Contains}
use Rattle.std.proofs.lemmas.Bool.{cases_order}
use Rattle.std.proofs.lemmas.Option.{slice_get-get_or}
use Rattle.s2id_core.specs.CellId.{first_of}
use Rattle.s2ix_bag_lists.specs.Faces.{all_of}
use Rattle.s2ix_bag_lists.proofs.Places.{part_rises}
use Rattle.s2ix_bag_pairs.specs.Collection.{Collection}
use Rattle.s2ix_bag_pairs.specs.declared.pair.Held.{Held}
use Rattle.s2ix_table_walk.specs.Contents.{depth_key}
use Rattle.s2ix_table_walk.proofs.Over.{nested_over}
use Rattle.s2ix_table_spans.specs.Once.{IsHeldAt, KeepsOnce}
use Rattle.s2ix_table_spans.proofs.Chains.{IsOutward}
use Rattle.s2ix_table_spans.proofs.Keys.{over_first}
use Rattle.s2ix_table_spans.proofs.OnePlace.{heads_agree}
use Rattle.s2ix_table_spans.proofs.Passing.{contains_at, same_place}
use Rattle.s2ix_table_heavy.specs.Chunks.{AreChunks}
use Rattle.s2ix_table_heavy.specs.HeavyChains.{pair_at, heavy_chain}
use Rattle.s2ix_table_heavy.specs.declared.heavy_place.HeavyPlace.{HeavyPlace}
use Rattle.s2ix_table_heavy.proofs.Chunked.{of_chunks, ranks_apart}
use Rattle.s2ix_table_heavy.proofs.HeavyWay.{has_pair, pair_there, in_heavy, heavy_has, heavy_outwards, heavy_headed}
use Rattle.s2ix_table_heavy.proofs.Outwards.{same_members, drop_outwards, in_drop, drop_has}

-- ---- outwards of what lies outwards

outward_trans : (a b c : Held) → IsOutward a b → IsOutward b c → IsOutward a c
outward_trans a b c one two =
    let nested = nested_over (first_of b.pair.cell) b c (over_first b) two.over two.depth in
    let from = one.over.from in
    let to = one.over.to in
    let d = one.depth in
    let e = two.depth in
    let f = nested.from in
    let g = nested.to in
    record { over = record { from = omega arith; to = omega arith }; depth = omega arith }

-- of two pairs that lie outwards of one, the upper lies outwards of the lower
outward_above : (a b c : Held) → IsOutward a b → IsOutward a c → depth_key b ≤ depth_key c → IsOutward b c
outward_above a b c one two le =
    let nested = nested_over (first_of a.pair.cell) b c one.over two.over le in
    let own = over_first b in
    let t = own.to in
    let f = nested.from in
    let g = nested.to in
    record { over = record { from = f; to = omega arith }; depth = le }

-- ---- the place of a pair

record IsKeptAt (chunks : List Collection) (h : Held) : Type 0 where
  place : HeavyPlace
  is : pair_at chunks place ≡ Some h

kept_at : (chunks : List Collection) (h : Held) → Contains (all_of chunks) h → IsKeptAt chunks h
kept_at chunks h i =
    let w = of_chunks chunks h i in
    let own = w.2 in
    record {
      place = record { chunk = w.0; node = own.0 };
      is = slice_get-get_or (get_or chunks w.0 []) own.0 h own.1 ∙ ap (λ (x : Held). Some x) own.2;
    }

-- the chain from a pair of a chain is an end of it
end_of_chain : (chunks : List Collection) (start place : HeavyPlace) (s h : Held) (j : ℕ) → AreChunks chunks → pair_at chunks start ≡ Some s
    → pair_at chunks place ≡ Some h → slice_get (heavy_chain chunks start) j ≡ Some h
    → drop j (heavy_chain chunks start) ≡ heavy_chain chunks place
end_of_chain chunks start place s h j are is_s is_h at =
    let chain = heavy_chain chunks start in
    let rise = heavy_outwards chunks start s are is_s in
    let outward = (in_heavy chunks start s h is_s (contains_at chain j h at)).1 in
    same_members (drop j chain) (heavy_chain chunks place) (drop_outwards j chain rise) (heavy_outwards chunks place h are is_h)
    (λ c i.
    let r = in_drop j chain h c rise at i in
    let o = in_heavy chunks start s c is_s r.0 in
    heavy_has chunks place h c is_h o.0 (outward_above s h c outward o.1 r.1))
    (λ c i.
    let o = in_heavy chunks place h c is_h i in
    drop_has j chain h c rise at (heavy_has chunks start s c is_s o.0 (outward_trans s h c outward o.1)) o.1.depth)

has_place : (chunks : List Collection) → AreChunks chunks → (start : HeavyPlace) (h : Held) → Contains (heavy_chain chunks start) h
    → (p : HeavyPlace) × IsHeldAt (heavy_chain chunks) start h p
has_place chunks are start h (j, within, e) =
    let s = has_pair chunks start (omega arith) in
    let at : slice_get (heavy_chain chunks start) j ≡ Some h =
    slice_get-get_or (heavy_chain chunks start) j h within ∙ ap (λ (x : Held). Some x) e in
    let kept = kept_at chunks h (in_heavy chunks start s.pair h s.is (j, within, e)).0 in (
      kept.place,
      record {
        pair = heavy_headed chunks kept.place h are kept.is;
        rest = (j, end_of_chain chunks start kept.place s.pair h j are s.is kept.is at);
      },
    )

-- ---- it is one

pair_of_place : (chunks : List Collection) → AreChunks chunks → (place : HeavyPlace) (h : Held) (rest : Collection)
    → heavy_chain chunks place ≡ h ∷ rest → pair_at chunks place ≡ Some h
pair_of_place chunks are place h rest is =
    let p = has_pair chunks place (let len = ap (λ (c : Collection). length c) is in omega arith) in
    let headed = heavy_headed chunks place p.pair are p.is in
    p.is ∙ ap (λ (x : Held). Some x) (heads_agree p.pair h (drop 1 (heavy_chain chunks place)) rest (sym headed ∙ is))

same_chunk : (chunks : List Collection) → AreChunks chunks → (p q : HeavyPlace) (h : Held) → pair_at chunks p ≡ Some h
    → pair_at chunks q ≡ Some h → p.chunk ≡ q.chunk
same_chunk chunks are p q h is_p is_q =
    let in_p = contains_at (get_or chunks p.chunk []) p.node h is_p in
    let in_q = contains_at (get_or chunks q.chunk []) q.node h is_q in
    elim (cases_order p.chunk q.chunk) [
      | inl e ↦ e
      | inr o ↦
          elim o [
            | inl lt ↦ absurd (let r = ranks_apart 0 chunks p.chunk q.chunk h h are.rises lt in_p in_q in omega arith)
            | inr gt ↦ absurd (let r = ranks_apart 0 chunks q.chunk p.chunk h h are.rises gt in_q in_p in omega arith)
          ]
    ]

one_place : (chunks : List Collection) → AreChunks chunks → (p q : HeavyPlace) (h : Held) → pair_at chunks p ≡ Some h
    → pair_at chunks q ≡ Some h → p ≡ q
one_place chunks are p q h is_p is_q =
    let chunk = same_chunk chunks are p q h is_p is_q in
    let within = (pair_there chunks p h is_p).chunk in
    let node = same_place (get_or chunks p.chunk []) p.node q.node h (part_rises chunks p.chunk within are.rises) is_p
    (ap (λ k. slice_get (get_or chunks k []) q.node) chunk ∙ is_q) in
    λ i. record { chunk = chunk i; node = node i }

pub keeps_once : (chunks : List Collection) → AreChunks chunks → KeepsOnce (heavy_chain chunks)
keeps_once chunks are = record {
  place = λ start h i. has_place chunks are start h i;
  same = λ start other p q h one two.
      one_place chunks are p q h (pair_of_place chunks are p h (drop 1 (heavy_chain chunks p)) one.pair)
      (pair_of_place chunks are q h (drop 1 (heavy_chain chunks q)) two.pair);
}
