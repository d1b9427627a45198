-- Chains of heavy pairs: each is an end of the pairs that the marks' chain stands for.
use Rattle.std.proofs.Common.{◌≡◌, ℕ, ◌+◌, ◌<◌, ◌≤◌, inl, inr, false, Option, Some, None, List, [], ◌∷◌, ◌++◌, drop, length, get_or, slice_get, option_map, refl, sym, ◌∙◌, ap, arith, Contains, subst}
use Rattle.std.specs.Option.{unwrap_or}
use Rattle.std.proofs.lemmas.Bool.{cases_lt}
use Rattle.std.proofs.lemmas.List.{drop-drop, drop_at, get_or_past}
use Rattle.std.proofs.lemmas.Option.{slice_get-get_or, slice_get_cases, slice_get_within}
use Rattle.s2id_core.specs.CellId.{first_of}
use Rattle.s2ix_bag_lists.specs.Faces.{all_of}
use Rattle.s2ix_bag_lists.proofs.Joins.{filled_at}
use Rattle.s2ix_bag_pairs.specs.Collection.{Collection, IsCollection}
use Rattle.s2ix_bag_pairs.specs.Label.{value_of}
use Rattle.s2ix_bag_pairs.specs.declared.pair.Held.{Held}
use Rattle.s2ix_table_walk.specs.Contents.{depth_key}
use Rattle.s2ix_table_walk.specs.Places.{IsPlace, LeadsTo}
use Rattle.s2ix_table_walk.proofs.InOrder.{in_choice, choice_has, choice_none}
use Rattle.s2ix_table_walk.proofs.Leads.{leads_some, leads_none}
use Rattle.s2ix_table_walk.proofs.Over.{IsOver}
use Rattle.s2ix_table_spans.specs.Chains.{is_outward, is_on_chain, chain_of}
use Rattle.s2ix_table_spans.proofs.BlockChains.{read_front}
use Rattle.s2ix_table_spans.proofs.Chains.{IsOutward, outward-true, outward-from, outward_self, on_at, in_chain, chain_has, place_within}
use Rattle.s2ix_table_spans.proofs.Keys.{over_first}
use Rattle.s2ix_table_spans.proofs.Passing.{contains_at}
use Rattle.s2ix_table_heavy.specs.Chunks.{AreChunks, AreMarks}
use Rattle.s2ix_table_heavy.specs.HeavyChains.{pair_at, is_beyond, heavy_chain, first_place}
use Rattle.s2ix_table_heavy.specs.declared.heavy_place.HeavyPlace.{HeavyPlace}
use Rattle.s2ix_table_heavy.proofs.Chunked.{in_chunks}
use Rattle.s2ix_table_heavy.proofs.Marked.{chunk_of, chunks_of, mark_at, has_mark, of_mark, over_too, below_by_marks, in_chunks_of, chunks_of_has, chunks_of_outwards}
use Rattle.s2ix_table_heavy.proofs.Outwards.{Outwards, same_members, choice_outwards, least_first, drop_outwards, in_drop, drop_has}

-- ---- the pair of a place

pub beyond_at : (chunks : List Collection) (place : HeavyPlace) (x h : Held) → pair_at chunks place ≡ Some x
    → is_beyond chunks place h ≡ is_outward x h
beyond_at chunks place x h is = ap (λ (o : Option Held). unwrap_or (option_map (λ (from : Held). is_outward from h) o) false) is

pub none_beyond : (chunks : List Collection) (place : HeavyPlace) (h : Held) → pair_at chunks place ≡ None → is_beyond chunks place h ≡ false
none_beyond chunks place h is = ap (λ (o : Option Held). unwrap_or (option_map (λ (from : Held). is_outward from h) o) false) is

pub heavy_none : (chunks : List Collection) (place : HeavyPlace) → pair_at chunks place ≡ None → heavy_chain chunks place ≡ []
unfolding heavy_chain
heavy_none chunks place is = choice_none (is_beyond chunks place) depth_key (all_of chunks) (λ h. none_beyond chunks place h is)

-- a place with a chain has a pair
pub record HasPair (chunks : List Collection) (place : HeavyPlace) : Type 0 where
  pub pair : Held
  pub is : pair_at chunks place ≡ Some pair
  pub chunk : place.chunk < length chunks
  pub node : place.node < length (get_or chunks place.chunk [])
  pub held : Contains (all_of chunks) pair

within_list : (chunks : List Collection) (k n : ℕ) (x : Held) → slice_get (get_or chunks k []) n ≡ Some x → k < length chunks
within_list chunks k n x is =
    elim (cases_lt k (length chunks)) [
      | inl lt ↦ lt
      | inr past ↦
          absurd
          (let e = ap (λ (c : Collection). length c) (get_or_past chunks k [] past) in
          let lt = slice_get_within (get_or chunks k []) n x is in
          omega arith)
    ]

pub pair_held : (chunks : List Collection) (place : HeavyPlace) (x : Held) → pair_at chunks place ≡ Some x → Contains (all_of chunks) x
pair_held chunks place x is = in_chunks chunks place.chunk x (contains_at (get_or chunks place.chunk []) place.node x is)

pub pair_there : (chunks : List Collection) (place : HeavyPlace) (x : Held) → pair_at chunks place ≡ Some x → HasPair chunks place
pair_there chunks place x is = record {
  pair = x;
  is = is;
  chunk = within_list chunks place.chunk place.node x is;
  node = slice_get_within (get_or chunks place.chunk []) place.node x is;
  held = pair_held chunks place x is;
}

pub has_pair : (chunks : List Collection) (place : HeavyPlace) → IsPlace (heavy_chain chunks) place → HasPair chunks place
has_pair chunks place some =
    elim ((slice_get_cases (get_or chunks place.chunk []) place.node).1) [
      | inl w ↦ pair_there chunks place w.0 w.2
      | inr past ↦ absurd (let e = ap (λ (c : Collection). length c) (heavy_none chunks place past.1) in omega arith)
    ]

-- ---- what is on the chain

pub in_heavy : (chunks : List Collection) (place : HeavyPlace) (x h : Held) → pair_at chunks place ≡ Some x
    → Contains (heavy_chain chunks place) h → Contains (all_of chunks) h × IsOutward x h
unfolding heavy_chain
in_heavy chunks place x h is i =
    let r = in_choice (is_beyond chunks place) depth_key (all_of chunks) h i in
    (r.0, outward-true x h (sym (beyond_at chunks place x h is) ∙ r.1))

pub heavy_has : (chunks : List Collection) (place : HeavyPlace) (x h : Held) → pair_at chunks place ≡ Some x → Contains (all_of chunks) h
    → IsOutward x h → Contains (heavy_chain chunks place) h
unfolding heavy_chain
heavy_has chunks place x h is i o =
    choice_has (is_beyond chunks place) depth_key (all_of chunks) h i (beyond_at chunks place x h is ∙ outward-from x h o)

pub heavy_outwards : (chunks : List Collection) (place : HeavyPlace) (x : Held) → AreChunks chunks → pair_at chunks place ≡ Some x
    → Outwards (heavy_chain chunks place)
unfolding heavy_chain
heavy_outwards chunks place x are is =
    choice_outwards (first_of x.pair.cell) (is_beyond chunks place) (all_of chunks) are.rises
    (λ h i t. (outward-true x h (sym (beyond_at chunks place x h is) ∙ t)).over)

-- the pair of the place comes first
pub heavy_headed : (chunks : List Collection) (place : HeavyPlace) (x : Held) → AreChunks chunks → pair_at chunks place ≡ Some x
    → heavy_chain chunks place ≡ x ∷ drop 1 (heavy_chain chunks place)
heavy_headed chunks place x are is =
    least_first (heavy_chain chunks place) x (heavy_outwards chunks place x are is)
    (heavy_has chunks place x x is (pair_held chunks place x is) (outward_self x)) (λ y i. (in_heavy chunks place x y is i).1.depth)

-- a number within a chunk is a place
pub place_there : (chunks : List Collection) (place : HeavyPlace) → AreChunks chunks → place.node < length (get_or chunks place.chunk [])
    → IsPlace (heavy_chain chunks) place
place_there chunks place are lt =
    elim ((slice_get_cases (get_or chunks place.chunk []) place.node).1) [
      | inl w ↦ (let len = ap (λ (c : Collection). length c) (heavy_headed chunks place w.0 are w.2) in omega arith)
      | inr past ↦ absurd (let le = past.0 in omega arith)
    ]

-- ---- the chain of a mark

pub chain_outwards : (marks : Collection) (k : ℕ) (m : Held) → IsCollection marks → slice_get marks k ≡ Some m → Outwards (chain_of marks k)
unfolding chain_of
chain_outwards marks k m rises is =
    choice_outwards (first_of m.pair.cell) (is_on_chain marks k) marks rises
    (λ h i t. (outward-true m h (sym (on_at marks k m h is) ∙ t)).over)

pub on_chain : (marks : Collection) (k : ℕ) (m h : Held) → slice_get marks k ≡ Some m → Contains (chain_of marks k) h
    → Contains marks h × IsOutward m h
on_chain marks k m h is i = let r = in_chain marks k h i in (r.0, outward-true m h (sym (on_at marks k m h is) ∙ r.1))

pub mark_headed : (marks : Collection) (k : ℕ) (m : Held) → IsCollection marks → slice_get marks k ≡ Some m
    → chain_of marks k ≡ m ∷ drop 1 (chain_of marks k)
mark_headed marks k m rises is =
    least_first (chain_of marks k) m (chain_outwards marks k m rises is)
    (chain_has marks k m (contains_at marks k m is) (on_at marks k m m is ∙ outward-from m m (outward_self m)))
    (λ y i. (on_chain marks k m y is i).1.depth)

-- ---- heavy chains by the chains of marks

-- what a table of marks and chunks is made of
pub record IsMarked (chunks : List Collection) (marks : Collection) : Type 0 where
  pub are : AreChunks chunks
  pub mark : AreMarks chunks marks
  pub rises : IsCollection marks

-- the pairs that the chain of a chunk's mark stands for: those of the chunk, and then those of the marks outwards
pub whole_chain : (chunks : List Collection) (marks : Collection) (k : ℕ) (m : Held) → IsMarked chunks marks → slice_get marks k ≡ Some m
    → chunks_of chunks (chain_of marks k) ≡ get_or chunks k [] ++ chunks_of chunks (drop 1 (chain_of marks k))
whole_chain chunks marks k m all is =
    ap (chunks_of chunks) (mark_headed marks k m all.rises is)
    ∙ ap (λ n. get_or chunks n [] ++ chunks_of chunks (drop 1 (chain_of marks k))) (all.mark.each k m is).label

whole_outwards : (chunks : List Collection) (marks : Collection) (k : ℕ) (m : Held) → IsMarked chunks marks → slice_get marks k ≡ Some m
    → Outwards (chunks_of chunks (chain_of marks k))
whole_outwards chunks marks k m all is =
    chunks_of_outwards chunks marks all.are all.mark (first_of m.pair.cell) (chain_of marks k) (chain_outwards marks k m all.rises is)
    (λ h i. let o = on_chain marks k m h is i in (o.0, o.1.over))

whole_at : (chunks : List Collection) (marks : Collection) (k n : ℕ) (m x : Held) → IsMarked chunks marks → slice_get marks k ≡ Some m
    → slice_get (get_or chunks k []) n ≡ Some x → slice_get (chunks_of chunks (chain_of marks k)) n ≡ Some x
whole_at chunks marks k n m x all is at =
    ap (λ (c : Collection). slice_get c n) (whole_chain chunks marks k m all is)
    ∙ read_front (get_or chunks k []) (chunks_of chunks (drop 1 (chain_of marks k))) n (slice_get_within (get_or chunks k []) n x at) ∙ at

-- the mark of a pair that lies outwards lies outwards, too
outward_mark : (chunks : List Collection) (marks : Collection) (m n x h : Held) → IsMarked chunks marks → Contains marks m → Contains marks n
    → Contains (chunk_of chunks m) x → Contains (chunk_of chunks n) h → x.pair.cell ≡ m.pair.cell → h.pair.cell ≡ n.pair.cell
    → IsOutward x h → IsOutward m n
outward_mark chunks marks m n x h all is_m is_n own_x own_h cell_x cell_h o =
    let over : IsOver n (first_of x.pair.cell) = over_too (first_of x.pair.cell) h n cell_h o.over in
    let over_m : IsOver m (first_of x.pair.cell) = over_too (first_of x.pair.cell) x m cell_x (over_first x) in
    record {
      over = subst (λ (c : _). IsOver n (first_of c)) cell_x over;
      depth =
          elim (cases_lt (depth_key n) (depth_key m)) [
            | inl lt ↦
                absurd
                (let below = below_by_marks chunks marks all.are all.mark (first_of x.pair.cell) n m h x is_n is_m over over_m lt own_h own_x in
                let depth = o.depth in
                omega arith)
            | inr le ↦ le
          ];
    }

pub heavy_is : (chunks : List Collection) (marks : Collection) (place : HeavyPlace) (m x : Held) → IsMarked chunks marks
    → slice_get marks place.chunk ≡ Some m → pair_at chunks place ≡ Some x
    → heavy_chain chunks place ≡ drop place.node (chunks_of chunks (chain_of marks place.chunk))
heavy_is chunks marks place m x all is at =
    let k = place.chunk in
    let n = place.node in
    let whole = chunks_of chunks (chain_of marks k) in
    let rise = whole_outwards chunks marks k m all is in
    let here = whole_at chunks marks k n m x all is at in
    let own = mark_at chunks marks all.mark k m x is (contains_at (get_or chunks k []) n x at) in
    let is_m = contains_at marks k m is in
    same_members (heavy_chain chunks place) (drop n whole) (heavy_outwards chunks place x all.are at) (drop_outwards n whole rise)
    (λ h i.
    let o = in_heavy chunks place x h at i in
    let w = has_mark chunks marks all.mark h o.0 in
    let beyond = outward_mark chunks marks m w.mark x h all is_m w.is_mark own.0 w.own own.1 w.cell o.1 in
    drop_has n whole x h rise here
    (chunks_of_has chunks (chain_of marks k) w.mark h
    (chain_has marks k w.mark w.is_mark (on_at marks k m w.mark is ∙ outward-from m w.mark beyond)) w.own) o.1.depth)
    (λ h i.
    let r = in_drop n whole x h rise here i in
    let w = in_chunks_of chunks (chain_of marks k) h r.0 in
    let o = on_chain marks k m w.0 is w.1 in
    let cell = of_mark chunks marks all.mark w.0 h o.0 w.2 in
    let over : IsOver h (first_of m.pair.cell) = over_too (first_of m.pair.cell) w.0 h (sym cell) o.1.over in
    heavy_has chunks place x h at (in_chunks chunks (value_of w.0.pair.label) h w.2)
    (record { over = subst (λ (c : _). IsOver h (first_of c)) (sym own.1) over; depth = r.1 }))

-- ---- the ways outwards

-- the mark of a place's chunk
pub mark_there : (chunks : List Collection) (marks : Collection) (k : ℕ) → IsMarked chunks marks → k < length chunks
    → (m : Held) × (slice_get marks k ≡ Some m)
mark_there chunks marks k all lt =
    elim ((slice_get_cases marks k).1) [
      | inl w ↦ (w.0, w.2)
      | inr past ↦ absurd (let le = past.0 in let size = all.mark.size in omega arith)
    ]

-- within a chunk the next pair is the next number
pub next_in_chunk : (chunks : List Collection) (marks : Collection) (place next : HeavyPlace) → IsMarked chunks marks
    → IsPlace (heavy_chain chunks) place → next.chunk ≡ place.chunk → next.node ≡ place.node + 1
    → next.node < length (get_or chunks place.chunk []) → heavy_chain chunks next ≡ drop 1 (heavy_chain chunks place)
next_in_chunk chunks marks place next all some same more lt =
    let p = has_pair chunks place some in
    let mk = mark_there chunks marks place.chunk all p.chunk in
    let y = get_or (get_or chunks place.chunk []) next.node p.pair in
    let at : slice_get (get_or chunks place.chunk []) next.node ≡ Some y = slice_get-get_or (get_or chunks place.chunk []) next.node p.pair lt in
    let at_next : pair_at chunks next ≡ Some y = ap (λ k. slice_get (get_or chunks k []) next.node) same ∙ at in
    let whole = chunks_of chunks (chain_of marks place.chunk) in
    heavy_is chunks marks next mk.0 y all (ap (slice_get marks) same ∙ mk.1) at_next
    ∙ ap (λ k. drop next.node (chunks_of chunks (chain_of marks k))) same ∙ ap (λ n. drop n whole) more ∙ sym (drop-drop 1 place.node whole)
    ∙ ap (drop 1) (sym (heavy_is chunks marks place mk.0 p.pair all mk.1 p.is))

-- behind a chunk's last pair the chain goes on with the next mark's chunk
pub behind_chunk : (chunks : List Collection) (marks : Collection) (place : HeavyPlace) → IsMarked chunks marks
    → IsPlace (heavy_chain chunks) place → length (get_or chunks place.chunk []) ≤ place.node + 1
    → drop 1 (heavy_chain chunks place) ≡ chunks_of chunks (drop 1 (chain_of marks place.chunk))
behind_chunk chunks marks place all some last =
    let p = has_pair chunks place some in
    let mk = mark_there chunks marks place.chunk all p.chunk in
    let whole = chunks_of chunks (chain_of marks place.chunk) in
    let own = get_or chunks place.chunk [] in
    let rest = chunks_of chunks (drop 1 (chain_of marks place.chunk)) in
    let node = p.node in
    ap (drop 1) (heavy_is chunks marks place mk.0 p.pair all mk.1 p.is) ∙ drop-drop 1 place.node whole
    ∙ ap (λ (c : Collection). drop (place.node + 1) c) (whole_chain chunks marks place.chunk mk.0 all mk.1)
    ∙ drop_at own rest (place.node + 1) (omega arith)

-- a chunk's first pair begins all that the chain of its mark stands for
pub chunk_begins : (chunks : List Collection) (marks : Collection) (k : ℕ) → IsMarked chunks marks → IsPlace (chain_of marks) k
    → (heavy_chain chunks (first_place k) ≡ chunks_of chunks (chain_of marks k)) × (0 < length (chunks_of chunks (chain_of marks k)))
chunk_begins chunks marks k all some =
    let lt : k < length chunks = let l = place_within marks k some in let size = all.mark.size in omega arith in
    let filled = filled_at chunks k [] lt all.are.filled in
    let mk = mark_there chunks marks k all lt in
    elim ((slice_get_cases (get_or chunks k []) 0).1) [
      | inl w ↦
          (let e = heavy_is chunks marks (first_place k) mk.0 w.0 all mk.1 w.2 in
          let headed = heavy_headed chunks (first_place k) w.0 all.are w.2 in
          let len = ap (λ (c : Collection). length c) headed in
          let same = ap (λ (c : Collection). length c) e in
          (e, omega arith))
      | inr past ↦ absurd (let le = past.0 in omega arith)
    ]

-- a way to a chain of marks is a way to the chain that it stands for
pub leads_by_marks : (chunks : List Collection) (marks : Collection) (answer : Option ℕ) (ms : Collection) → IsMarked chunks marks
    → LeadsTo (chain_of marks) answer ms → LeadsTo (heavy_chain chunks) (option_map first_place answer) (chunks_of chunks ms)
leads_by_marks chunks marks None ms all leads =
    leads_none (heavy_chain chunks) (chunks_of chunks ms) (ap (chunks_of chunks) (sym leads.pairs_are))
leads_by_marks chunks marks (Some k) ms all leads =
    let begins = chunk_begins chunks marks k all (leads.place k refl) in
    let same = ap (chunks_of chunks) leads.pairs_are in
    leads_some (heavy_chain chunks) (first_place k) (chunks_of chunks ms) (begins.0 ∙ same)
    (subst (λ (c : Collection). 0 < length c) same begins.1)
