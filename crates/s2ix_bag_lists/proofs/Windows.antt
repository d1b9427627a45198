-- A change whose entries fall into some parts changes these parts alone.
use Rattle.std.proofs.Common.{◌≡◌, ℕ, zero, suc, ◌+◌, ◌-◌, ◌<◌, ◌≤◌, List, [], ◌∷◌, ◌++◌, take, drop, get_or, length, refl, sym, ap, ◌∙◌, subst, arith, append_assoc, length-append}
use Rattle.std.proofs.lemmas.List.{length-drop, length-take-le}
use Rattle.s2ix_bag_pairs.specs.Collection.{Collection, IsCollection, IsCollectionFrom, AreBelow}
use Rattle.s2ix_bag_pairs.specs.Change.{IsChangeList, IsChangeListFrom, changed}
use Rattle.s2ix_bag_pairs.specs.Pair.{rank_of}
use Rattle.s2ix_bag_pairs.specs.declared.pair.Entry.{Entry}
use Rattle.s2ix_bag_lists.specs.Apply.{AreBefore}
use Rattle.s2ix_bag_lists.specs.Faces.{AreEntriesBelow, all_of}
use Rattle.s2ix_bag_lists.specs.Parts.{AreFilled, IsWindow}
use Rattle.s2ix_bag_lists.proofs.Cuts.{before_front, before_behind}
use Rattle.s2ix_bag_lists.proofs.Joined.{below_append, below_in_back, changed_between}
use Rattle.s2ix_bag_lists.proofs.Joins.{all_append, all_split, back_rises, front_rises, filled_append, filled_drop, filled_take}

-- ---- fewer parts

below_append_front : (n : ℕ) (hs ks : Collection) → AreBelow n (hs ++ ks) → AreBelow n hs
below_append_front n [] ks below = tt
below_append_front n (h ∷ hs) ks below = (below.0, below_append_front n hs ks below.1)

pub fewer_below : (n i j : ℕ) (ps : List Collection) → j ≤ i → AreBelow n (all_of (take i ps)) → AreBelow n (all_of (take j ps))
fewer_below n i zero ps le below = tt
fewer_below n zero (suc j) ps le below = absurd (omega arith)
fewer_below n (suc i) (suc j) [] le below = tt
fewer_below n (suc i) (suc j) (p ∷ ps) le below =
    below_append n p (all_of (take j ps)) (below_append_front n p (all_of (take i ps)) below)
    (fewer_below n i j ps (omega arith) (below_in_back n p (all_of (take i ps)) below))

all_from : (n i : ℕ) (ps : List Collection) → IsCollectionFrom n (all_of ps) → IsCollectionFrom n (all_of (drop i ps))
all_from n zero ps from = from
all_from n (suc i) [] from = tt
all_from n (suc i) (p ∷ ps) from = all_from n i ps (back_rises n p (all_of ps) from)

pub fewer_from : (n i j : ℕ) (ps : List Collection) → i ≤ j → IsCollectionFrom n (all_of (drop i ps)) → IsCollectionFrom n (all_of (drop j ps))
fewer_from n zero j ps le from = all_from n j ps from
fewer_from n (suc i) zero ps le from = absurd (omega arith)
fewer_from n (suc i) (suc j) [] le from = tt
fewer_from n (suc i) (suc j) (p ∷ ps) le from = fewer_from n i j ps (omega arith) from

-- ---- the ranks of the first entry and of the last one

pub first_rank : (es : List Entry) (d : Entry) → IsChangeList es → 0 < length es → IsChangeListFrom (rank_of (get_or es 0 d).pair) es
first_rank [] d rise some = absurd (omega arith)
first_rank (e ∷ es) d rise some = (omega arith, rise.1, rise.2)

rank_from : (n i : ℕ) (es : List Entry) (d : Entry) → IsChangeListFrom n es → i < length es → n ≤ rank_of (get_or es i d).pair
rank_from n i [] d rise within = absurd (omega arith)
rank_from n zero (e ∷ es) d rise within = rise.0
rank_from n (suc i) (e ∷ es) d rise within = omega (arith, rise.0, rank_from (rank_of e.pair + 1) i es d rise.2 (omega arith))

pub last_rank : (n i : ℕ) (es : List Entry) (d : Entry) → IsChangeListFrom n es → i + 1 ≡ length es
    → AreEntriesBelow (rank_of (get_or es i d).pair + 1) es
last_rank n i [] d rise last = tt
last_rank n zero (e ∷ []) d rise last = (omega arith, tt)
last_rank n zero (e ∷ f ∷ es) d rise last = absurd (omega arith)
last_rank n (suc i) (e ∷ []) d rise last = absurd (omega arith)
last_rank n (suc i) (e ∷ f ∷ es) d rise last = (
  omega (arith, rank_from (rank_of e.pair + 1) i (f ∷ es) d rise.2 (omega arith)),
  last_rank (rank_of e.pair + 1) i (f ∷ es) d rise.2 (omega arith),
)

-- ---- the parts of a window

-- what merged_parts asks of the parts of a window and of the entries
pub record IsInside (own : List Collection) (es : List Entry) : Type 0 where
  pub rises : IsCollection (all_of own)
  pub filled : AreFilled own
  pub some : 0 < length own
  pub before : AreBefore (all_of own) es

-- all parts: those before a window, those in it, and those behind it
parted : (ps : List Collection) (first end : ℕ) → first ≤ end
    → all_of ps ≡ all_of (take first ps) ++ (all_of (drop first (take end ps)) ++ all_of (drop end ps))
parted ps zero end le = all_split end ps
parted ps (suc first) zero le = absurd (omega arith)
parted [] (suc first) (suc end) le = refl
parted (p ∷ ps) (suc first) (suc end) le =
    ap (λ (x : Collection). p ++ x) (parted ps first end (omega arith))
    ∙ sym (append_assoc p (all_of (take first ps)) (all_of (drop first (take end ps)) ++ all_of (drop end ps)))

pub window_length : (ps : List Collection) (first end : ℕ) → end ≤ length ps → length (drop first (take end ps)) ≡ end - first
window_length ps first end le =
    length-drop first (take end ps) ∙ ap (λ (n : ℕ). n - first) (length-take-le end ps le)

pub window_inside : (ps : List Collection) (es : List Entry) (first end : ℕ) → IsCollection (all_of ps) → AreFilled ps
    → AreBefore (all_of ps) es → IsWindow ps es first end → IsInside (drop first (take end ps)) es
window_inside ps es first end rises filled before is =
    let front = all_of (take first ps) in
    let own = all_of (drop first (take end ps)) in
    let back = all_of (drop end ps) in
    let some = is.some in
    let all = parted ps first end (omega arith) in
    let rising = subst (λ (hs : Collection). IsCollection hs) all rises in
    let befores = before_behind is.low is.low front (own ++ back) es (omega arith) is.front is.entries_from
    (subst (λ (hs : Collection). AreBefore hs es) all before) in
    record {
      rises = front_rises 0 own back (back_rises 0 front (own ++ back) rising);
      filled = filled_drop first (take end ps) (filled_take end ps filled);
      some = omega (arith, some, window_length ps first end is.within);
      before = before_front is.high own back es is.back is.entries_below befores;
    }

pub window_changed : (ps made : List Collection) (es : List Entry) (first end : ℕ) → IsWindow ps es first end
    → all_of made ≡ changed (all_of (drop first (take end ps))) es
    → all_of (take first ps ++ (made ++ drop end ps)) ≡ changed (all_of ps) es
window_changed ps made es first end is made_is =
    let front = take first ps in
    let own = all_of (drop first (take end ps)) in
    let back = drop end ps in
    let some = is.some in
    all_append front (made ++ back)
    ∙ ap (λ (hs : Collection). all_of front ++ hs) (all_append made back)
    ∙ ap (λ (hs : Collection). all_of front ++ (hs ++ all_of back)) made_is
    ∙ sym (changed_between is.low is.high (all_of front) own (all_of back) es is.front is.back is.entries_from is.entries_below)
    ∙ ap (λ (hs : Collection). changed hs es) (sym (parted ps first end (omega arith)))

pub window_filled : (ps made : List Collection) (first end : ℕ) → AreFilled ps → AreFilled made
    → AreFilled (take first ps ++ (made ++ drop end ps))
window_filled ps made first end filled made_filled =
    filled_append (take first ps) (made ++ drop end ps) (filled_take first ps filled)
    (filled_append made (drop end ps) made_filled (filled_drop end ps filled))

-- the same where the parts are shown, and split twice
pub window_own : (ps shown up_to own : List Collection) (held : Collection) (es : List Entry) (first end : ℕ) → shown ≡ ps
    → up_to ≡ take end shown → own ≡ drop first up_to → all_of ps ≡ held → IsCollection (all_of ps) → AreFilled ps → AreBefore held es
    → IsWindow shown es first end → IsInside own es
window_own ps shown up_to own held es first end shown_is up_to_is own_is all rises filled before is =
    subst (λ (x : List Collection). IsInside x es)
    (sym (own_is ∙ ap (λ (x : List Collection). drop first x) (up_to_is ∙ ap (λ (x : List Collection). take end x) shown_is)))
    (window_inside ps es first end rises filled (subst (λ (hs : Collection). AreBefore hs es) (sym all) before)
    (subst (λ (x : List Collection). IsWindow x es first end) shown_is is))

-- what all parts are once those of a window are changed
pub record IsSpliced (ps made : List Collection) (held : Collection) (es : List Entry) (first end : ℕ) : Type 0 where
  pub all : all_of (take first ps ++ (made ++ drop end ps)) ≡ changed held es
  pub filled : AreFilled (take first ps ++ (made ++ drop end ps))

pub window_spliced : (ps shown up_to own made : List Collection) (held : Collection) (es : List Entry) (first end : ℕ) → shown ≡ ps
    → up_to ≡ take end shown → own ≡ drop first up_to → all_of ps ≡ held → AreFilled ps → AreFilled made
    → all_of made ≡ changed (all_of own) es → IsWindow shown es first end → IsSpliced ps made held es first end
window_spliced ps shown up_to own made held es first end shown_is up_to_is own_is all filled made_filled made_is is =
    let own_parts : own ≡ drop first (take end ps) =
    own_is ∙ ap (λ (x : List Collection). drop first x) (up_to_is ∙ ap (λ (x : List Collection). take end x) shown_is) in
    record {
      all = window_changed ps made es first end (subst (λ (x : List Collection). IsWindow x es first end) shown_is is)
          (made_is ∙ ap (λ (x : List Collection). changed (all_of x) es) own_parts)
          ∙ ap (λ (hs : Collection). changed hs es) all;
      filled = window_filled ps made first end filled made_filled;
    }

-- each part has a pair, so there are no more parts than pairs
pub filled_count : (ps : List Collection) → AreFilled ps → length ps ≤ length (all_of ps)
filled_count [] filled = omega arith
filled_count (p ∷ ps) filled = omega (arith, filled.0, filled_count ps filled.1, length-append p (all_of ps))
