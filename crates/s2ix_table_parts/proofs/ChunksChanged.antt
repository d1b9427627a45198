-- What a change makes of chunks, one chunk after the other.
use Rattle.std.proofs.Common.{◌≡◌, ◌↔◌, IsTrue, nat_lt, ℕ, ◌+◌, ◌*◌, ◌<◌, ◌≤◌, inl, inr, Some, List, [], ◌∷◌, ◌++◌, length, take, drop, get_or, slice_get, refl, sym, ap, ap₂, ◌∙◌, arith, subst, append_assoc, append-nil, length-append, Contains}
use Rattle.std.proofs.lemmas.Bool.Decides.{nat_tests}
use Rattle.std.proofs.lemmas.List.{take-append-drop}
use Rattle.std.proofs.lemmas.List.Elements.{Contains-append_cases, Contains-push_cases}
use Rattle.std.proofs.lemmas.Option.{get_or_from_slice_get}
use Rattle.s2id_core.specs.CellId.{raw_of}
use Rattle.s2id_core.specs.declared.cell_id.CellId.{CellId}
use Rattle.s2id_core.proofs.Cells.{same_cell}
use Rattle.s2id_core.proofs.Lists.{at_head, in_tail}
use Rattle.s2ix_bag_lists.specs.Faces.{AreEntriesBelow, all_of}
use Rattle.s2ix_bag_lists.specs.Parts.{AreEntriesUpTo, AreFilled}
use Rattle.s2ix_bag_lists.proofs.Cuts.{changed_apart}
use Rattle.s2ix_bag_lists.proofs.Joined.{rise_in_front}
use Rattle.s2ix_bag_lists.proofs.Joins.{all_append, all_push, back_rises, filled_append, filled_push, front_rises, later_rank}
use Rattle.s2ix_bag_pairs.specs.Change.{IsChangeList, IsChangeListFrom, changed}
use Rattle.s2ix_bag_pairs.specs.Collection.{Collection, IsCollection, IsCollectionFrom, AreBelow}
use Rattle.s2ix_bag_pairs.specs.Label.{value_of}
use Rattle.s2ix_bag_pairs.specs.Pair.{rank_of}
use Rattle.s2ix_bag_pairs.specs.declared.pair.Entry.{Entry}
use Rattle.s2ix_bag_pairs.specs.declared.pair.Held.{Held}
use Rattle.s2ix_bag_pairs.proofs.Changes.{change_lower}
use Rattle.s2ix_table_heavy.specs.Chunks.{AreChunks, IsOfOneCell}

-- ---- whether a pair comes before another

less_from : (a b : ℕ) → IsTrue (nat_lt a b) → a < b
less_from a b t = grind (arith, nat_tests)

less_is : (a b : ℕ) → a < b → IsTrue (nat_lt a b)
less_is a b lt = grind (arith, nat_tests)

-- of one cell, by the label
pub label_tells : (own raw number got l label : ℕ) → own ≡ raw → own ≡ number → got ≡ l
    → IsTrue (nat_lt got label) ↔ (raw * 2147483648 + l < number * 2147483648 + label)
label_tells own raw number got l label is same got_is = (
  λ t. let lt = less_from got label t in omega (arith, is, same, got_is, lt),
  λ lt. less_is got label (omega (arith, is, same, got_is, lt)),
)

-- of two cells, by the cell
pub number_tells : (own raw number l label : ℕ) → own ≡ raw → (own ≡ number → ⊥) → l ≤ 2147483647 → label ≤ 2147483647
    → IsTrue (nat_lt own number) ↔ (raw * 2147483648 + l < number * 2147483648 + label)
number_tells own raw number l label is other fits label_fits = (
  λ t. let lt = less_from own number t in omega (arith, is, fits, lt),
  λ lt. less_is own number (omega (arith, is, other, label_fits, lt)),
)

-- ---- where entries of the first chunk end

below_cell : (cell : CellId) (hs : Collection) → ((h : Held) → Contains hs h → h.pair.cell ≡ cell) → AreBelow ((raw_of cell + 1) * 2147483648) hs
below_cell cell [] are = tt
below_cell cell (h ∷ hs) are =
    let own = ap raw_of (are h (at_head h hs)) in
    (last_of (raw_of h.pair.cell) (value_of h.pair.label) (raw_of cell) h.pair.label.in_range own, below_cell cell hs (λ x held. are x (in_tail h hs x held)))
  where
    last_of : (raw label c : ℕ) → label ≤ 2147483647 → raw ≡ c → raw * 2147483648 + label < (c + 1) * 2147483648
    last_of raw label c fits same = omega arith

next_cell : (a b l m : ℕ) → m ≤ 2147483647 → a * 2147483648 + l + 1 ≤ b * 2147483648 + m → (b ≡ a → ⊥) → (a + 1) * 2147483648 ≤ b * 2147483648 + m
next_cell a b l m fits lt other = omega (arith, lt, other, fits)

own_below : (n : ℕ) (f : Held) (fs : Collection) (ps : List Collection) (first : Held) → AreChunks ((f ∷ fs) ∷ ps)
    → slice_get (f ∷ fs) 0 ≡ Some first → n ≡ (raw_of first.pair.cell + 1) * 2147483648 → AreBelow n ((f ∷ fs) ++ [])
own_below n f fs ps first are is at =
    let same : f ≡ first = get_or_from_slice_get (f ∷ fs) 0 first f is in
    let one = are.one_cell (f ∷ fs) (at_head (f ∷ fs) ps) in
    let cell = ap (λ (h : Held). h.pair.cell) same in
    subst (AreBelow n) (sym (append-nil (f ∷ fs))) (subst (λ k. AreBelow k (f ∷ fs)) (sym at)
    (below_cell first.pair.cell (f ∷ fs) (λ h held. one h f held (at_head f fs) ∙ cell)))

-- if the chunk behind the first one has another cell, the entries up to the first one's cell are its own
pub up_to_cell : (ps : List Collection) (es : List Entry) (own n : ℕ) (first : Held) → AreChunks ps → 0 < length ps
    → slice_get (get_or ps 0 []) 0 ≡ Some first
    → ((next : Held) → 1 < length ps → slice_get (get_or ps 1 []) 0 ≡ Some next → next.pair.cell ≡ first.pair.cell → ⊥)
    → n ≡ (raw_of first.pair.cell + 1) * 2147483648 → AreEntriesBelow n (take own es) → IsChangeListFrom n (drop own es)
    → AreEntriesUpTo ps 0 es own
up_to_cell [] es own n first are some is other at below later = absurd (omega arith)
up_to_cell ([] ∷ ps) es own n first are some is other at below later = absurd (let filled = are.filled.0 in omega arith)
up_to_cell ((f ∷ fs) ∷ []) es own n first are some is other at below later =
    record {
      rank = n;
      front = own_below n f fs [] first are is at;
      back = tt;
      entries = below;
      later = later;
    }
up_to_cell ((f ∷ fs) ∷ [] ∷ ps) es own n first are some is other at below later = absurd (let filled = are.filled.1.0 in omega arith)
up_to_cell ((f ∷ fs) ∷ (g ∷ gs) ∷ ps) es own n first are some is other at below later =
    let same : f ≡ first = get_or_from_slice_get (f ∷ fs) 0 first f is in
    let le = later_rank (rank_of f.pair + 1) fs g (gs ++ all_of ps) are.rises.2 in
    let differ : raw_of g.pair.cell ≡ raw_of f.pair.cell → ⊥ =
    λ e. other g (omega arith) refl (same_cell g.pair.cell f.pair.cell e ∙ ap (λ (h : Held). h.pair.cell) same) in
    let from = next_cell (raw_of f.pair.cell) (raw_of g.pair.cell) (value_of f.pair.label) (value_of g.pair.label) g.pair.label.in_range le differ in
    let cell = ap (λ (h : Held). raw_of h.pair.cell) same in
    let back = back_rises 0 (f ∷ fs) (g ∷ (gs ++ all_of ps)) are.rises in
    record {
      rank = n;
      front = own_below n f fs ((g ∷ gs) ∷ ps) first are is at;
      back = (omega (arith, from, cell, at), back.1, back.2);
      entries = below;
      later = later;
    }

-- ---- from chunk to chunk

-- what is made of the first chunks, with what the other entries make of the chunks ahead, is what the change makes of all
pub record ChunksMade (total : Collection) (made ahead : List Collection) (rest : List Entry) : Type 0 where
  pub are_chunks : AreChunks made
  pub ahead_are : AreChunks ahead
  pub rise : IsChangeList rest
  pub whole : all_of made ++ changed (all_of ahead) rest ≡ total

-- what is known of the next chunk and of its entries
pub record IsNext (total : Collection) (made : List Collection) (chunk : Collection) (own : List Entry) (ahead : List Collection) (rest : List Entry) : Type 0 where
  pub some : 0 < length chunk
  pub held_rise : IsCollection chunk
  pub one_cell : IsOfOneCell chunk
  pub own_rise : IsChangeList own
  pub rises : IsCollection (all_of made ++ changed chunk own)
  pub within_limit : length (all_of made ++ changed chunk own) ≤ 1000000
  pub ahead_are : AreChunks ahead
  pub rise : IsChangeList rest
  pub whole : (all_of made ++ changed chunk own) ++ changed (all_of ahead) rest ≡ total

later_chunks : (p : Collection) (ps : List Collection) → AreChunks (p ∷ ps) → AreChunks ps
later_chunks p ps are =
    let within_limit = are.within_limit in
    let long = length-append p (all_of ps) in
    record {
      rises = back_rises 0 p (all_of ps) are.rises;
      within_limit = omega arith;
      filled = are.filled.1;
      one_cell = λ chunk held. are.one_cell chunk (in_tail p ps chunk held);
    }

next_of : (total : Collection) (made ps : List Collection) (p : Collection) (rest own behind : List Entry) (k : ℕ) → ChunksMade total made (p ∷ ps) rest
    → IsCollection total → length total ≤ 1000000 → AreEntriesUpTo (p ∷ ps) 0 rest k → own ≡ take k rest → behind ≡ drop k rest
    → IsNext total made p own ps behind
next_of total made ps p rest own behind k was rises within_limit cut own_is behind_is =
    let n = cut.rank in
    let split : own ++ behind ≡ rest = ap₂ (λ (xs ys : List Entry). xs ++ ys) own_is behind_is ∙ take-append-drop k rest in
    let below : AreEntriesBelow n own = subst (AreEntriesBelow n) (sym own_is) cut.entries in
    let later : IsChangeListFrom n behind = subst (IsChangeListFrom n) (sym behind_is) cut.later in
    let front : AreBelow n p = subst (AreBelow n) (append-nil p) cut.front in
    let each = changed_apart n p (all_of ps) own behind front cut.back below later in
    let whole : (all_of made ++ changed p own) ++ changed (all_of ps) behind ≡ total =
    append_assoc (all_of made) (changed p own) (changed (all_of ps) behind)
    ∙ ap (λ (hs : Collection). all_of made ++ hs) (sym each ∙ ap (λ es. changed (p ++ all_of ps) es) split)
    ∙ was.whole in
    let long = ap (λ (hs : Collection). length hs) whole in
    let sum = length-append (all_of made ++ changed p own) (changed (all_of ps) behind) in
    record {
      some = was.ahead_are.filled.0;
      held_rise = front_rises 0 p (all_of ps) was.ahead_are.rises;
      one_cell = was.ahead_are.one_cell p (at_head p ps);
      own_rise = rise_in_front 0 own behind (subst (IsChangeListFrom 0) (sym split) was.rise);
      rises = front_rises 0 (all_of made ++ changed p own) (changed (all_of ps) behind) (subst (IsCollectionFrom 0) (sym whole) rises);
      within_limit = omega arith;
      ahead_are = later_chunks p ps was.ahead_are;
      rise = change_lower 0 n behind (omega arith) later;
      whole = whole;
    }

pub next_chunk : (total : Collection) (made ahead : List Collection) (chunk : Collection) (rest own behind : List Entry) (k : ℕ)
    → ChunksMade total made ahead rest → IsCollection total → length total ≤ 1000000 → 0 < length ahead → chunk ≡ get_or ahead 0 chunk
    → AreEntriesUpTo ahead 0 rest k → own ≡ take k rest → behind ≡ drop k rest → IsNext total made chunk own (drop 1 ahead) behind
next_chunk total made [] chunk rest own behind k was rises within_limit some at cut own_is behind_is = absurd (omega arith)
next_chunk total made (p ∷ ps) chunk rest own behind k was rises within_limit some at cut own_is behind_is =
    subst (λ c. IsNext total made c own ps behind) (sym at) (next_of total made ps p rest own behind k was rises within_limit cut own_is behind_is)

-- with what is made of it, the chunks behind it are ahead
pub chunk_made : (total : Collection) (made now ahead later : List Collection) (chunk : Collection) (own rest : List Entry)
    → IsNext total made chunk own ahead rest → AreChunks now → all_of now ≡ all_of made ++ changed chunk own → later ≡ ahead
    → ChunksMade total now later rest
chunk_made total made now ahead later chunk own rest next are pairs same =
    subst (λ ps. ChunksMade total now ps rest) (sym same) (record {
      are_chunks = are;
      ahead_are = next.ahead_are;
      rise = next.rise;
      whole = ap (λ (hs : Collection). hs ++ changed (all_of ahead) rest) pairs ∙ next.whole;
    })

-- no entry changes nothing
pub no_change : (chunk : Collection) (es : List Entry) → length es ≡ 0 → changed chunk es ≡ chunk
no_change chunk [] none = refl
no_change chunk (e ∷ es) none = absurd (omega arith)

abbrev AreOfOneCell : List Collection → Type 0
AreOfOneCell chunks = (chunk : Collection) → Contains chunks chunk → IsOfOneCell chunk

-- a chunk behind others
pub chunk_pushed : (made now : List Collection) (chunk new : Collection) → AreChunks made → IsCollection (all_of made ++ chunk)
    → length (all_of made ++ chunk) ≤ 1000000 → 0 < length chunk → IsOfOneCell chunk → new ≡ chunk → now ≡ made ++ new ∷ []
    → AreChunks now × (all_of now ≡ all_of made ++ chunk)
chunk_pushed made now chunk new are rises within_limit some one same put =
    let all : all_of now ≡ all_of made ++ chunk =
    ap all_of put ∙ all_push made new ∙ ap (λ (hs : Collection). all_of made ++ hs) same in
    let long = ap (λ (hs : Collection). length hs) all in (
      record {
        rises = subst IsCollection (sym all) rises;
        within_limit = omega arith;
        filled = subst AreFilled (sym put) (filled_push made new chunk are.filled same some);
        one_cell = subst AreOfOneCell (sym put) (λ c held. elim (Contains-push_cases made new c held) [
          | inl old ↦ are.one_cell c old
          | inr is ↦ subst (λ (hs : Collection). IsOfOneCell hs) (sym same ∙ is) one
        ]);
      },
      all,
    )

-- chunks behind others
pub chunks_joined : (made now new : List Collection) (hs : Collection) → AreChunks made → AreChunks new → all_of new ≡ hs
    → IsCollection (all_of made ++ hs) → length (all_of made ++ hs) ≤ 1000000 → now ≡ made ++ new → AreChunks now × (all_of now ≡ all_of made ++ hs)
chunks_joined made now new hs are new_are same rises within_limit put =
    let all : all_of now ≡ all_of made ++ hs = ap all_of put ∙ all_append made new ∙ ap (λ (ks : Collection). all_of made ++ ks) same in
    let long = ap (λ (ks : Collection). length ks) all in (
      record {
        rises = subst IsCollection (sym all) rises;
        within_limit = omega arith;
        filled = subst AreFilled (sym put) (filled_append made new are.filled new_are.filled);
        one_cell = subst AreOfOneCell (sym put) (λ c held. elim (Contains-append_cases made new c held) [
          | inl old ↦ are.one_cell c old
          | inr later ↦ new_are.one_cell c later
        ]);
      },
      all,
    )

-- so many pairs behind others
pub behind_few : (front back : Collection) → length (front ++ back) ≤ 1000000 → length back ≤ 1000000
behind_few front back within_limit = let sum = length-append front back in omega arith

-- if no chunk is ahead, what the entries left make of no pairs is behind all that is made
pub rest_made : (total : Collection) (made ahead : List Collection) (rest : List Entry) → ChunksMade total made ahead rest → length ahead ≡ 0
    → all_of made ++ changed [] rest ≡ total
rest_made total made [] rest was none = was.whole
rest_made total made (p ∷ ps) rest was none = absurd (omega arith)
