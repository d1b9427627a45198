-- Entries and parts, cut at a rank.
use Rattle.std.proofs.Common.{◌≡◌, ℕ, ◌+◌, ◌<◌, ◌≤◌, List, [], ◌∷◌, ◌++◌, take, drop, get_or, length, slice_get, Some, sym, ap, ◌∙◌, subst, arith}
use Rattle.std.proofs.lemmas.List.{drop_all, take_more}
use Rattle.s2ix_bag_pairs.specs.Collection.{Collection, IsCollection, IsCollectionFrom, AreBelow}
use Rattle.s2ix_bag_pairs.specs.Change.{IsChangeListFrom, changed}
use Rattle.s2ix_bag_pairs.specs.Pair.{rank_of}
use Rattle.s2ix_bag_pairs.specs.declared.pair.Held.{Held}
use Rattle.s2ix_bag_pairs.specs.declared.pair.Entry.{Entry}
use Rattle.s2ix_bag_pairs.proofs.Changes.{changed-append}
use Rattle.s2ix_bag_lists.specs.Apply.{AreBefore}
use Rattle.s2ix_bag_lists.specs.Faces.{AreEntriesBelow, all_of, face_start}
use Rattle.s2ix_bag_lists.proofs.Joined.{below_in_back, count_front, count_back, changed_back, changed_below, changed_by_parts}
use Rattle.s2ix_bag_lists.specs.Parts.{AreEntriesUpTo}
use Rattle.s2ix_bag_lists.proofs.Joins.{all_push, all_split, front_below, back_rises}
use Rattle.s2ix_bag_lists.proofs.Searches.{begins_with}

-- ---- the end of all

entries_before_end : (es : List Entry) → AreEntriesBelow (face_start 6) es
entries_before_end [] = tt
entries_before_end (e ∷ es) =
    let number = e.pair.cell.valid.0 in let small = e.pair.label.in_range in (omega (arith, number, small), entries_before_end es)

pairs_before_end : (hs : Collection) → AreBelow (face_start 6) hs
pairs_before_end [] = tt
pairs_before_end (h ∷ hs) =
    let number = h.pair.cell.valid.0 in let small = h.pair.label.in_range in (omega (arith, number, small), pairs_before_end hs)

pub cut_at_end : (ps : List Collection) (place k : ℕ) (es : List Entry) → length ps ≤ place + 1 → length es ≤ k → AreEntriesUpTo ps place es k
cut_at_end ps place k es last le =
    let none : drop (place + 1) ps ≡ [] = drop_all (place + 1) ps last in
    let no_entry : drop k es ≡ [] = drop_all k es le in
    record {
      rank = face_start 6;
      front = pairs_before_end (all_of (take (place + 1) ps));
      back = subst (λ (x : List Collection). IsCollectionFrom (face_start 6) (all_of x)) (sym none) tt;
      entries = entries_before_end (take k es);
      later = subst (λ (x : List Entry). IsChangeListFrom (face_start 6) x) (sym no_entry) tt;
    }

pub cut_at_part : (ps : List Collection) (place k : ℕ) (es : List Entry) (h : Held) → IsCollection (all_of ps) → place + 1 < length ps
    → slice_get (get_or ps (place + 1) []) 0 ≡ Some h → AreEntriesBelow (rank_of h.pair) (take k es)
    → IsChangeListFrom (rank_of h.pair) (drop k es) → AreEntriesUpTo ps place es k
cut_at_part ps place k es h rises within is below later =
    let begins = begins_with ps (place + 1) h within is in
    let front = all_of (take (place + 1) ps) in
    let all = all_split (place + 1) ps ∙ ap (λ x. front ++ x) begins.1 in
    let parted = subst (λ (x : Collection). IsCollection x) all rises in
    let back = back_rises 0 front (h ∷ begins.0) parted in
    record {
      rank = rank_of h.pair;
      front = front_below 0 front h begins.0 parted;
      back = subst (λ (x : Collection). IsCollectionFrom (rank_of h.pair) x) (sym begins.1) (omega arith, back.1, back.2);
      entries = below;
      later = later;
    }

-- ---- a change on both sides of a rank

pub changed_apart : (n : ℕ) (fs bs : Collection) (es gs : List Entry) → AreBelow n fs → IsCollectionFrom n bs → AreEntriesBelow n es
    → IsChangeListFrom n gs → changed (fs ++ bs) (es ++ gs) ≡ changed fs es ++ changed bs gs
changed_apart n fs bs es gs fs_below bs_is es_below gs_is =
    changed_by_parts (fs ++ bs) es gs
    ∙ ap (λ x. changed x gs) (changed_back n fs bs es es_below bs_is)
    ∙ changed-append (changed fs es) bs n gs (changed_below n fs es es_below fs_below) gs_is

pub before_front : (n : ℕ) (fs bs : Collection) (es : List Entry) → IsCollectionFrom n bs → AreEntriesBelow n es → AreBefore (fs ++ bs) es
    → AreBefore fs es
before_front n fs bs [] bs_is below befores = tt
before_front n fs bs (e ∷ es) bs_is below befores =
    (befores.0 ∙ count_back n (rank_of e.pair) fs bs bs_is below.0, before_front n fs bs es bs_is below.1 befores.1)

pub before_behind : (m n : ℕ) (fs bs : Collection) (es : List Entry) → m ≤ n → AreBelow m fs → IsChangeListFrom n es
    → AreBefore (fs ++ bs) es → AreBefore bs es
before_behind m n fs bs [] le below es_is befores = tt
before_behind m n fs bs (e ∷ es) le below es_is befores = (
  befores.0 ∙ count_front m (rank_of e.pair) fs bs below (omega (arith, le, es_is.0)),
  before_behind m (rank_of e.pair + 1) fs bs es (omega (arith, le, es_is.0)) below es_is.2 befores.1,
)

pub before_in_back : (hs : Collection) (es gs : List Entry) → AreBefore hs (es ++ gs) → AreBefore hs gs
before_in_back hs [] gs befores = befores
before_in_back hs (e ∷ es) gs befores = before_in_back hs es gs befores.1

pub part_below : (ps : List Collection) (i n : ℕ) → i < length ps → AreBelow n (all_of (take (i + 1) ps)) → AreBelow n (get_or ps i [])
part_below ps i n within below =
    let all = ap (λ (x : List Collection). all_of x) (take_more ps i [] within) ∙ all_push (take i ps) (get_or ps i []) in
    below_in_back n (all_of (take i ps)) (get_or ps i []) (subst (λ (x : Collection). AreBelow n x) all below)
