-- A run of pairs of one cell goes into one of two layers.
use Rattle.std.proofs.Common.{◌≡◌, ℕ, zero, suc, ◌+◌, ◌<◌, ◌≤◌, inl, inr, List, [], ◌∷◌, ◌++◌, length, refl, sym, ◌∙◌, ap, arith, append_assoc, append-nil, length-append, Contains, subst}
use Rattle.std.proofs.lemmas.List.Elements.{Contains-append_cases}
use Rattle.s2id_core.proofs.Lists.{in_tail, at_head}
use Rattle.s2ix_bag_lists.specs.Faces.{all_of}
use Rattle.s2ix_bag_lists.proofs.Joined.{below_append, below_more, changed_back, changed_below, from_append}
use Rattle.s2ix_bag_lists.proofs.Joins.{front_below, back_rises}
use Rattle.s2ix_bag_pairs.specs.Collection.{Collection, IsCollection, IsCollectionFrom, AreBelow, held_with, set_count}
use Rattle.s2ix_bag_pairs.specs.Pair.{rank_of}
use Rattle.s2ix_bag_pairs.specs.declared.pair.Pair.{Pair}
use Rattle.s2ix_bag_pairs.specs.declared.pair.Held.{Held}
use Rattle.s2ix_bag_pairs.specs.declared.pair.Entry.{Entry}
use Rattle.s2ix_bag_pairs.proofs.Counts.{set_after}
use Rattle.s2ix_table_heavy.specs.Chunks.{AreChunks}
use Rattle.s2ix_table_parts.specs.Layers.{joined_layers}
use Rattle.s2ix_table_parts.specs.Split.{AreSplit, HaveLesserCells, IsRunAfter}
use Rattle.s2ix_table_parts.proofs.Layers.{cells_part_pairs, heavy_in_joined_layers, length_joined_layers, light_in_joined_layers}

-- ---- below a rank

-- pairs that are all among some below a rank
below_among : (n : ℕ) (hs all : Collection) → ((h : Held) → Contains hs h → Contains all h) → AreBelow n all → AreBelow n hs
below_among n [] all are below = tt
below_among n (h ∷ hs) all are below =
    (in_below all h below (are h (at_head h hs)), below_among n hs all (λ x held. are x (in_tail h hs x held)) below)
  where
    in_below : (ks : Collection) (x : Held) → AreBelow n ks → Contains ks x → rank_of x.pair < n
    in_below [] x are (k, lt, e) = absurd (omega arith)
    in_below (k ∷ ks) x are (zero, lt, e) = subst (λ (y : Held). rank_of y.pair < n) e are.0
    in_below (k ∷ ks) x are (suc i, lt, e) = in_below ks x are.1 (i, omega arith, e)

-- ---- pairs behind both layers

abbrev as_entry : Held → Entry
as_entry h = record { pair = h.pair; before = 0; after = h.count }

-- behind the light ones
joined_layers_light : (n : ℕ) (light heavy run : Collection) → AreBelow n heavy → IsCollectionFrom n run
    → joined_layers (light ++ run) heavy ≡ joined_layers light heavy ++ run
unfolding joined_layers
joined_layers_light n light [] run below from = refl
joined_layers_light n light (h ∷ hs) run below from =
    ap (λ (ks : Collection). joined_layers ks hs) (changed_back n light run (as_entry h ∷ []) (below.0, tt) from)
    ∙ joined_layers_light n (set_count h.pair h.count light) hs run below.1 from

held_some : (p : Pair) (c : ℕ) → 0 < c → held_with p c [] ≡ record { pair = p; count = c } ∷ []
held_some p zero some = absurd (omega arith)
held_some p (suc c) some = refl

set_last : (h : Held) (ks : Collection) → 0 < h.count → AreBelow (rank_of h.pair) ks → set_count h.pair h.count ks ≡ ks ++ h ∷ []
set_last h [] some below = held_some h.pair h.count some
set_last h (k ∷ ks) some below =
    set_after h.pair h.count k ks below.0 ∙ ap (λ (xs : Collection). k ∷ xs) (set_last h ks some below.1)

lists_joined_layers : (n : ℕ) (light run : Collection) → AreBelow n light → IsCollectionFrom n run → joined_layers light run ≡ light ++ run
unfolding joined_layers
lists_joined_layers n light [] below from = sym (append-nil light)
lists_joined_layers n light (h ∷ hs) below from =
    ap (λ (ks : Collection). joined_layers ks hs) (set_last h light from.1 (below_more n (rank_of h.pair) light from.0 below))
    ∙ lists_joined_layers (rank_of h.pair + 1) (light ++ h ∷ []) hs
    (below_append (rank_of h.pair + 1) light (h ∷ []) (below_more n (rank_of h.pair + 1) light (omega (arith, from.0)) below) (omega arith, tt))
    from.2
    ∙ append_assoc light (h ∷ []) hs

-- behind the heavy ones
joined_layers_heavy : (n : ℕ) (light heavy run : Collection) → AreBelow n light → AreBelow n heavy → IsCollectionFrom n run
    → joined_layers light (heavy ++ run) ≡ joined_layers light heavy ++ run
unfolding joined_layers
joined_layers_heavy n light [] run light_below below from = lists_joined_layers n light run light_below from
joined_layers_heavy n light (h ∷ hs) run light_below below from =
    joined_layers_heavy n (set_count h.pair h.count light) hs run (changed_below n light (as_entry h ∷ []) (below.0, tt) light_below) below.1 from

-- ---- of all pairs

-- a light pair is one of all
pub in_light : (light : Collection) (chunks : List Collection) (held : Collection) → AreSplit light chunks
    → joined_layers light (all_of chunks) ≡ held → (h : Held) → Contains light h → Contains held h
in_light light chunks held s is h has =
    subst (λ (hs : Collection). Contains hs h) is
    (light_in_joined_layers light (all_of chunks) h s.rises s.are_chunks.rises (cells_part_pairs light (all_of chunks) s.apart) has)

-- and so is a heavy one
pub in_heavy : (light : Collection) (chunks : List Collection) (held : Collection) → AreSplit light chunks
    → joined_layers light (all_of chunks) ≡ held → (h : Held) → Contains (all_of chunks) h → Contains held h
in_heavy light chunks held s is h has =
    subst (λ (hs : Collection). Contains hs h) is (heavy_in_joined_layers light (all_of chunks) h s.rises s.are_chunks.rises has)

-- ---- the next run

-- a rank that parts a run from both layers before it
record IsParting (n : ℕ) (light heavy run : Collection) : Type 0 where
  light_below : AreBelow n light
  heavy_below : AreBelow n heavy
  run_from : IsCollectionFrom n run

parted : (light run : Collection) (chunks : List Collection) → AreSplit light chunks → IsRunAfter (joined_layers light (all_of chunks)) run
    → (n : ℕ) × IsParting n light (all_of chunks) run
parted light [] chunks s r = absurd (let some = r.some in omega arith)
parted light (h ∷ hs) chunks s r =
    let heavy = all_of chunks in
    let all = joined_layers light heavy in
    let below = front_below 0 all h hs r.rises in
    let from = back_rises 0 all (h ∷ hs) r.rises in (
      rank_of h.pair,
      record {
        light_below = below_among (rank_of h.pair) light all (in_light light chunks all s refl) below;
        heavy_below = below_among (rank_of h.pair) heavy all (in_heavy light chunks all s refl) below;
        run_from = (omega arith, from.1, from.2);
      },
    )

-- a run is put behind the light pairs
pub put_light : (light run : Collection) (chunks : List Collection) → AreSplit light chunks
    → IsRunAfter (joined_layers light (all_of chunks)) run
    → AreSplit (light ++ run) chunks × (joined_layers (light ++ run) (all_of chunks) ≡ joined_layers light (all_of chunks) ++ run)
put_light light run chunks s r =
    let heavy = all_of chunks in
    let all = joined_layers light heavy in
    let cut = parted light run chunks s r in
    let same = joined_layers_light cut.0 light heavy run cut.1.heavy_below cut.1.run_from in (
      record {
        rises = from_append 0 cut.0 light run (omega arith) s.rises cut.1.light_below cut.1.run_from;
        are_chunks = s.are_chunks;
        apart = λ l h is_light is_heavy e. elim (Contains-append_cases light run l is_light) [
          | inl old ↦ s.apart l h old is_heavy e
          | inr new ↦
              (let lt = r.lesser h l (in_heavy light chunks all s refl h is_heavy) new in absurd (omega (arith, e, lt)))
        ];
      },
      same,
    )

-- a run in chunks is put behind the heavy pairs
pub put_heavy : (light run : Collection) (chunks more : List Collection) → AreSplit light chunks
    → IsRunAfter (joined_layers light (all_of chunks)) run → AreChunks more → all_of more ≡ all_of chunks ++ run
    → AreSplit light more × (joined_layers light (all_of more) ≡ joined_layers light (all_of chunks) ++ run)
put_heavy light run chunks more s r are is =
    let heavy = all_of chunks in
    let all = joined_layers light heavy in
    let cut = parted light run chunks s r in
    let same : joined_layers light (all_of more) ≡ all ++ run =
    ap (joined_layers light) is ∙ joined_layers_heavy cut.0 light heavy run cut.1.light_below cut.1.heavy_below cut.1.run_from in (
      record {
        rises = s.rises;
        are_chunks = are;
        apart = λ l h is_light is_heavy e. elim (Contains-append_cases heavy run h (subst (λ (hs : Collection). Contains hs h) is is_heavy)) [
          | inl old ↦ s.apart l h is_light old e
          | inr new ↦
              (let lt = r.lesser l h (in_light light chunks all s refl l is_light) new in absurd (omega (arith, e, lt)))
        ];
      },
      same,
    )

-- the heavy pairs rise with the run behind them
pub heavy_rises : (light run : Collection) (chunks : List Collection) → AreSplit light chunks
    → IsRunAfter (joined_layers light (all_of chunks)) run → IsCollection (all_of chunks ++ run)
heavy_rises light run chunks s r =
    let cut = parted light run chunks s r in
    from_append 0 cut.0 (all_of chunks) run (omega arith) s.are_chunks.rises cut.1.heavy_below cut.1.run_from

-- and are few with it
pub heavy_few : (light run : Collection) (chunks : List Collection) → AreSplit light chunks
    → IsRunAfter (joined_layers light (all_of chunks)) run → length (all_of chunks ++ run) ≤ 1000000
heavy_few light run chunks s r =
    let heavy = all_of chunks in
    let many = length_joined_layers light heavy s.rises s.are_chunks.rises (cells_part_pairs light heavy s.apart) in
    let within_limit = r.within_limit in
    omega (arith, many, within_limit, length-append (joined_layers light heavy) run, length-append heavy run)

-- ---- at the start

none_split : (held : Collection)
    → AreSplit [] [] × (joined_layers [] (all_of []) ++ held ≡ held) × HaveLesserCells (joined_layers [] (all_of [])) held
unfolding joined_layers
none_split held = (
  record {
    rises = tt;
    are_chunks = record { rises = tt; within_limit = omega arith; filled = tt; one_cell = λ chunk (k, lt, e). absurd (omega arith) };
    apart = λ l h (k, lt, e). absurd (omega arith);
  },
  refl,
  λ a b (k, lt, e). absurd (omega arith),
)

pub nothing_split : (light held : Collection) (chunks : List Collection) → light ≡ [] → chunks ≡ []
    → AreSplit light chunks × (joined_layers light (all_of chunks) ++ held ≡ held) × HaveLesserCells (joined_layers light (all_of chunks)) held
nothing_split light held chunks no_light no_chunks =
    let Is : Collection → List Collection → Type 0 =
    λ hs cs. AreSplit hs cs × (joined_layers hs (all_of cs) ++ held ≡ held) × HaveLesserCells (joined_layers hs (all_of cs)) held in
    subst (λ (hs : Collection). Is hs chunks) (sym no_light) (subst (λ (cs : List Collection). Is [] cs) (sym no_chunks) (none_split held))
