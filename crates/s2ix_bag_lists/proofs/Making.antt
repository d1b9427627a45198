-- A change, part by part.
use Rattle.std.proofs.Common.{◌≡◌, ℕ, suc, ◌+◌, ◌<◌, ◌≤◌, List, [], ◌∷◌, ◌++◌, take, drop, get_or, length, slice_get, Some, ⊎_elim, sym, ap, ap₂, ◌∙◌, subst, arith, append_assoc}
use Rattle.std.proofs.lemmas.Bool.{cases_lt}
use Rattle.std.proofs.lemmas.List.{take-append-drop, length-drop}
use Rattle.s2ix_bag_pairs.specs.Collection.{Collection, IsCollection, IsCollectionFrom, AreBelow}
use Rattle.s2ix_bag_pairs.specs.Change.{IsChangeList, IsChangeListFrom, changed}
use Rattle.s2ix_bag_pairs.specs.Pair.{rank_of}
use Rattle.s2ix_bag_pairs.specs.declared.pair.Entry.{Entry}
use Rattle.s2ix_bag_pairs.proofs.Changes.{change_lower, changed-append}
use Rattle.s2ix_bag_lists.specs.Apply.{AreBefore}
use Rattle.s2ix_bag_lists.specs.Faces.{all_of}
use Rattle.s2ix_bag_lists.specs.Parts.{AreFilled, AreEntriesUpTo}
use Rattle.s2ix_bag_lists.proofs.AmongFaces.{all_is}
use Rattle.s2ix_bag_lists.proofs.FaceByFace.{IsOwnChange}
use Rattle.s2ix_bag_lists.proofs.Joined.{before_in_front, rise_in_front}
use Rattle.s2ix_bag_lists.proofs.Joins.{back_rises, filled_drop}
use Rattle.s2ix_bag_lists.proofs.Places.{part_rises}
use Rattle.s2ix_bag_lists.proofs.Cuts.{changed_apart, before_front, before_behind, before_in_back, part_below}

-- the parts so far are those of the change, and the rest of it is that of the parts ahead
pub record Making (all : Collection) (es : List Entry) (out ahead : List Collection) (rest : List Entry) : Type 0 where
  pub rises : IsCollection (all_of ahead)
  pub filled : AreFilled ahead
  pub out_filled : AreFilled out
  pub entries_rise : IsChangeList rest
  pub before : AreBefore (all_of ahead) rest
  pub made : all_of out ++ changed (all_of ahead) rest ≡ changed all es
  pub some : 0 < length rest → 0 < length ahead

-- the part of the first entry, and where its entries end
pub record IsNext (ahead : List Collection) (rest : List Entry) (rank place own : ℕ) : Type 0 where
  pub within : place < length ahead
  pub below : AreBelow rank (all_of (take place ahead))
  pub from : IsChangeListFrom rank rest
  pub cut : AreEntriesUpTo ahead place rest own
  pub within_limit : own ≤ length rest
  pub last : place + 1 ≡ length ahead → own ≡ length rest

pub begins_from : (es : List Entry) (e : Entry) → IsChangeList es → slice_get es 0 ≡ Some e → IsChangeListFrom (rank_of e.pair) es
begins_from [] e rises is = cc
begins_from (x ∷ xs) e rises is =
    let same : x ≡ e = cc in
    subst (λ (y : Entry). IsChangeListFrom (rank_of y.pair) (x ∷ xs)) same (omega arith, rises.1, rises.2)

pub later_all : (ps : List Collection) (i : ℕ) → all_of (drop (i + 1) ps) ≡ all_of (drop (suc i) ps)
later_all ps i = let more : i + 1 ≡ suc i = omega arith in ap (λ (k : ℕ). all_of (drop k ps)) more

before_there : (ps : List Collection) (es : List Entry) (rank i k : ℕ) → IsNext ps es rank i k → AreBefore (all_of ps) es
    → AreBefore (get_or ps i [] ++ all_of (drop (suc i) ps)) es
before_there ps es rank i k next before =
    let front = all_of (take i ps) in
    let back = get_or ps i [] ++ all_of (drop (suc i) ps) in
    before_behind rank rank front back es (omega arith) next.below next.from
    (subst (λ (hs : Collection). AreBefore hs es) (all_is ps i next.within) before)

pub making_own : (all : Collection) (es : List Entry) (out ahead : List Collection) (rest : List Entry) (rank i k : ℕ)
    → Making all es out ahead rest → IsNext ahead rest rank i k → IsOwnChange (get_or ahead i []) (take k rest)
making_own all es out ahead rest rank i k was next =
    let split = sym (take-append-drop k rest) in
    let later = subst (λ (hs : Collection). IsCollectionFrom next.cut.rank hs) (later_all ahead i) next.cut.back in
    let there = before_there ahead rest rank i k next was.before in
    let own = before_in_front (get_or ahead i [] ++ all_of (drop (suc i) ahead)) (take k rest) (drop k rest)
    (subst (λ (xs : List Entry). AreBefore (get_or ahead i [] ++ all_of (drop (suc i) ahead)) xs) split there) in
    record {
      held_rise = part_rises ahead i next.within was.rises;
      entries_rise = rise_in_front 0 (take k rest) (drop k rest)
          (subst (λ (xs : List Entry). IsChangeList xs) split was.entries_rise);
      before = before_front next.cut.rank (get_or ahead i []) (all_of (drop (suc i) ahead)) (take k rest) later next.cut.entries own;
    }

pub more_ahead : (ahead : List Collection) (rest : List Entry) (rank i k : ℕ) → IsNext ahead rest rank i k → 0 < length (drop k rest)
    → 0 < length (drop (i + 1) ahead)
more_ahead ahead rest rank i k next some =
    let parts = length-drop (i + 1) ahead in
    let entries = length-drop k rest in
    ⊎_elim (λ more. omega (arith, parts, more))
    (λ le. absurd (omega (arith, entries, some, next.last (omega (arith, le, next.within))))) (cases_lt (i + 1) (length ahead))

pub making_step : (all : Collection) (es : List Entry) (out ahead new : List Collection) (rest : List Entry) (rank i k : ℕ)
    → Making all es out ahead rest → IsNext ahead rest rank i k → AreFilled new
    → all_of new ≡ (all_of out ++ all_of (take i ahead)) ++ changed (get_or ahead i []) (take k rest)
    → Making all es new (drop (i + 1) ahead) (drop k rest)
making_step all es out ahead new rest rank i k was next filled is =
    let front = all_of (take i ahead) in
    let own = get_or ahead i [] in
    let back = all_of (drop (suc i) ahead) in
    let split = take-append-drop k rest in
    let same = later_all ahead i in
    let later = subst (λ (hs : Collection). IsCollectionFrom next.cut.rank hs) same next.cut.back in
    let parted = all_is ahead i next.within in
    let own_below = part_below ahead i next.cut.rank next.within next.cut.front in
    let there = before_there ahead rest rank i k next was.before in
    let behind = before_in_back (own ++ back) (take k rest) (drop k rest)
    (subst (λ (xs : List Entry). AreBefore (own ++ back) xs) (sym split) there) in
    let befores = before_behind next.cut.rank next.cut.rank own back (drop k rest) (omega arith) own_below next.cut.later behind in
    let whole : changed (all_of ahead) rest ≡ front ++ (changed own (take k rest) ++ changed back (drop k rest)) =
    ap (λ (hs : Collection). changed hs rest) parted
    ∙ changed-append front (own ++ back) rank rest next.below next.from
    ∙ ap (λ (xs : List Entry). front ++ changed (own ++ back) xs) (sym split)
    ∙ ap (λ (hs : Collection). front ++ hs)
    (changed_apart next.cut.rank own back (take k rest) (drop k rest) own_below later next.cut.entries next.cut.later) in
    let lengths = ap (λ (xs : List Entry). length xs) split in
    record {
      rises = subst (λ (hs : Collection). IsCollection hs) (sym same)
          (back_rises 0 own back (back_rises 0 front (own ++ back) (subst (λ (hs : Collection). IsCollection hs) parted was.rises)));
      filled = filled_drop (i + 1) ahead was.filled;
      out_filled = filled;
      entries_rise = change_lower 0 next.cut.rank (drop k rest) (omega arith) next.cut.later;
      before = subst (λ (hs : Collection). AreBefore hs (drop k rest)) (sym same) befores;
      made = ap₂ (λ (xs ys : Collection). xs ++ changed ys (drop k rest)) is same
          ∙ append_assoc (all_of out ++ front) (changed own (take k rest)) (changed back (drop k rest))
          ∙ append_assoc (all_of out) front (changed own (take k rest) ++ changed back (drop k rest))
          ∙ ap (λ (hs : Collection). all_of out ++ hs) (sym whole)
          ∙ was.made;
      some = λ some. more_ahead ahead rest rank i k next some;
    }
