-- The lists of contents, of what is met and of labels as what they have and in which order.
use Rattle.std.proofs.Common.{◌≡◌, ℕ, ◌+◌, ◌-◌, ◌*◌, ◌<◌, ◌≤◌, ◌⊎◌, inl, inr, true, false, leb, ltb, List, [], ◌∷◌, ◌++◌, take, get_or, length, sym, ◌∙◌, ap, arith, Contains, AllPairs, subst, le-leb, lt-ltb}
use Rattle.std.proofs.lemmas.Bool.{cases_order, and_parts, and_from, ltb-true}
use Rattle.std.proofs.lemmas.List.{take_more}
use Rattle.s2id_core.specs.declared.cell_id.CellId.{CellId}
use Rattle.s2id_core.specs.CellId.{raw_of, path_of, level_of}
use Rattle.s2id_core.specs.Leaves.{IsLeafPath}
use Rattle.s2id_core.specs.Path.{Path, number_of, path_at}
use Rattle.s2id_core.proofs.Nested.{span, same_from_level, span_from_leaf, leaf_from_span, leaf_of_odd}
use Rattle.s2id_union.specs.Region.{Meets}
use Rattle.s2id_union.proofs.Covering.{covers_from_region}
use Rattle.s2ix_bag_pairs.proofs.Collections.{rank_of_get}
use Rattle.s2ix_bag_pairs.proofs.CutAtRank.{collection_take}
use Rattle.s2ix_bag_pairs.specs.Collection.{Collection, IsCollection, IsCollectionFrom}
use Rattle.s2ix_bag_pairs.specs.Label.{value_of}
use Rattle.s2ix_bag_pairs.specs.Pair.{rank_of}
use Rattle.s2ix_bag_pairs.specs.declared.label.Label.{Label}
use Rattle.s2ix_bag_pairs.specs.declared.pair.Held.{Held}
use Rattle.s2ix_table_walk.specs.Contents.{IsDeeper, IsContents, covers, depth_key, contents_at}
use Rattle.s2ix_table_walk.specs.InOrder.{insertion}
use Rattle.s2ix_table_walk.specs.Meeting.{IsFirstShared, IsMetBefore, IsMeetingList, IsLabelList, first_shared, meeting_key, is_met_from, meeting_from, meeting_of}
use Rattle.s2ix_table_walk.specs.Table.{leaf_end}
use Rattle.s2ix_table_walk.proofs.InOrder.{in_choice, choice_has}
use Rattle.s2ix_table_walk.proofs.Over.{IsOver, over-true, in_contents, contents_has, level_at_most, level_by_key, nested_over, depth_bound, span_of}
use Rattle.s2ix_table_walk.proofs.Rising.{same_rising, AreApart, strictly_choice, choice_more_in, choice_more_out, strict_pairs}
use Rattle.s2ix_table_walk.proofs.FirstShared.{shared_le, shared_is}

-- ---- order by depth

deeper_from_numbers : (k l v w : ℕ) → k ≤ 30 → l ≤ 30 → v ≤ 2147483647 → w ≤ 2147483647
    → (30 - k) * 2147483648 + v < (30 - l) * 2147483648 + w → (l < k) ⊎ ((k ≡ l) × (v < w))
deeper_from_numbers k l v w a b c d lt =
    elim (cases_order k l) [
      | inl e ↦ inr (e, omega arith)
      | inr o ↦ elim o [ inl less ↦ absurd (omega arith) | inr more ↦ inl more ]
    ]

pub deeper_from_key : (a b : Held) → depth_key a < depth_key b → IsDeeper a b
unfolding depth_key
deeper_from_key a b lt =
    deeper_from_numbers (level_of a.pair.cell) (level_of b.pair.cell) (value_of a.pair.label) (value_of b.pair.label) (level_at_most a)
    (level_at_most b) a.pair.label.in_range b.pair.label.in_range lt

pub deeper_one_way : (a b : Held) → IsDeeper a b → IsDeeper b a → ⊥
deeper_one_way a b (inl x) (inl y) = omega arith
deeper_one_way a b (inl x) (inr y) = omega (arith, y.0)
deeper_one_way a b (inr x) (inl y) = omega (arith, x.0)
deeper_one_way a b (inr x) (inr y) = omega (arith, x.1, y.1)

labels_from_key : (k l v w : ℕ) → k ≡ l → (30 - k) * 2147483648 + v ≡ (30 - l) * 2147483648 + w → v ≡ w
labels_from_key k l v w e f = omega (arith, ap (λ n. (30 - n) * 2147483648) e)

label_from_key : (a b : Held) → level_of a.pair.cell ≡ level_of b.pair.cell → depth_key a ≡ depth_key b
    → value_of a.pair.label ≡ value_of b.pair.label
unfolding depth_key
label_from_key a b e f =
    labels_from_key (level_of a.pair.cell) (level_of b.pair.cell) (value_of a.pair.label) (value_of b.pair.label) e f

-- two pairs over one leaf with the same depth are one pair
pub same_pair_over : (q : ℕ) (a b : Held) → IsOver a q → IsOver b q → depth_key a ≡ depth_key b → rank_of a.pair ≡ rank_of b.pair
same_pair_over q a b over_a over_b e =
    let le = level_by_key a b (omega arith) in
    let ge = level_by_key b a (omega arith) in
    let levels : level_of a.pair.cell ≡ level_of b.pair.cell = omega arith in
    let nested = nested_over q a b over_a over_b (omega arith) in
    let cells = same_from_level (raw_of a.pair.cell) (raw_of b.pair.cell) a.pair.cell.valid b.pair.cell.valid nested levels in
    let labels = label_from_key a b levels e in
    omega arith

pub later_rank : (n : ℕ) (hs : Collection) (x : Held) → IsCollectionFrom n hs → Contains hs x → n ≤ rank_of x.pair
later_rank n hs x c held = subst (λ (y : Held). n ≤ rank_of y.pair) held.2 (rank_of_get n hs held.0 x c held.1)

-- ---- contents

apart_over : (q n : ℕ) (hs : Collection) → IsCollectionFrom n hs → AreApart (covers q) depth_key hs
apart_over q n [] c = tt
apart_over q n (h ∷ hs) c = (
  λ x held t u e.
      let ranks = same_pair_over q h x (over-true q h t) (over-true q x u) e in
      let later = later_rank (rank_of h.pair + 1) hs x c.2 held in
      omega arith,
  apart_over q (rank_of h.pair + 1) hs c.2,
)

-- the contents with the pairs before a place, and with that one
pub contents_more_in : (q k : ℕ) (hs : Collection) (h : Held) → IsCollection hs → k < length hs → h ≡ get_or hs k h → covers q h ≡ true
    → contents_at q (take (k + 1) hs) ≡ insertion depth_key h (contents_at q (take k hs))
unfolding contents_at
contents_more_in q k hs h c lt is t =
    let more = take_more hs k h lt ∙ ap (λ (y : Held). take k hs ++ y ∷ []) (sym is) in
    ap (contents_at q) more
    ∙ choice_more_in (covers q) depth_key h (take k hs)
    (subst (AreApart (covers q) depth_key) more (apart_over q 0 (take (k + 1) hs) (collection_take (k + 1) 0 hs c))) t

pub contents_more_out : (q k : ℕ) (hs : Collection) (h : Held) → k < length hs → h ≡ get_or hs k h → covers q h ≡ false
    → contents_at q (take (k + 1) hs) ≡ contents_at q (take k hs)
unfolding contents_at
contents_more_out q k hs h lt is f =
    let more = take_more hs k h lt ∙ ap (λ (y : Held). take k hs ++ y ∷ []) (sym is) in
    ap (contents_at q) more ∙ choice_more_out (covers q) depth_key h (take k hs) f

contents_deepen : (q : ℕ) (hs : Collection) → IsCollection hs → AllPairs IsDeeper (contents_at q hs)
unfolding contents_at
contents_deepen q hs c i j d lt within =
    deeper_from_key _ _
    (strict_pairs depth_key (contents_at q hs) (strictly_choice (covers q) depth_key hs (apart_over q 0 hs c)) i j d lt within)

pub contents_of_leaf : (held : Collection) (leaf : Path) → IsCollection held → IsLeafPath leaf
    → IsContents leaf held (contents_at (number_of leaf) held)
contents_of_leaf held leaf c deep = record {
  rises = contents_deepen (number_of leaf) held c;
  each = λ h. (
    λ k.
        let r = in_contents (number_of leaf) held h k in
        (r.0, leaf_from_span leaf (raw_of h.pair.cell) h.pair.cell.valid deep r.1.from r.1.to),
    λ k.
        let at = span_from_leaf leaf (raw_of h.pair.cell) h.pair.cell.valid k.1 in
        contents_has (number_of leaf) held h k.0 (record { from = at.0; to = at.1 }),
  );
}

pub same_contents : (held : Collection) (leaf : Path) (xs ys : Collection) → IsContents leaf held xs → IsContents leaf held ys → xs ≡ ys
same_contents held leaf xs ys x y =
    same_rising IsDeeper xs ys (λ a b _ _. deeper_one_way a b) x.rises y.rises (λ h k. (y.each h).1 ((x.each h).0 k))
    (λ h k. (x.each h).1 ((y.each h).0 k))

-- ---- meeting lists

-- the leaf at which a cell first meets a target
record HasFirst (target : List CellId) (cell : CellId) : Type 0 where
  leaf : Path
  is : number_of leaf ≡ first_shared target cell
  first : IsFirstShared target cell leaf

first_leaf_of : (target : List CellId) (cell : CellId) → first_shared target cell < leaf_end → HasFirst target cell
first_leaf_of target cell lt =
    let q = first_shared target cell in
    let s = shared_is target cell lt in
    let l = leaf_of_odd q s.odd lt in
    let is : number_of (path_at q) ≡ q = l.0.2 in
    let v = s.covered in
    let v1 = v.from in
    let v2 = v.to in
    let s1 = s.from in
    let s2 = s.to in
    record {
      leaf = path_at q;
      is = is;
      first = record {
        of_cell = leaf_from_span (path_at q) (raw_of cell) cell.valid l.1 (omega arith) (omega arith);
        of_target =
            (v.held.0, v.cell, v.held.1, v.held.2, leaf_from_span (path_at q) (raw_of v.cell) v.cell.valid l.1 (omega arith) (omega arith));
        least = λ other in_cell in_target.
            let at = span_from_leaf other (raw_of cell) cell.valid in_cell in
            let le = shared_le target cell (number_of other) (covers_from_region target other in_target) at.0 at.1 in
            omega arith;
      };
    }

meets_below : (target : List CellId) (cell : CellId) → Meets target (path_of cell) → first_shared target cell < leaf_end
meets_below target cell m =
    let at = span_from_leaf m.0 (raw_of cell) cell.valid m.1 in
    let a1 = at.0 in
    let a2 = at.1 in
    let s = span (raw_of cell) cell.valid in
    let e = s.ends in
    let le = shared_le target cell (number_of m.0) (covers_from_region target m.0 m.2) a1 a2 in
    omega arith

first_number : (target : List CellId) (cell : CellId) (p : Path) → IsFirstShared target cell p → number_of p ≡ first_shared target cell
first_number target cell p f =
    let at = span_from_leaf p (raw_of cell) cell.valid f.of_cell in
    let le = shared_le target cell (number_of p) (covers_from_region target p f.of_target) at.0 at.1 in
    let has = first_leaf_of target cell (meets_below target cell (p, f.of_cell, f.of_target)) in
    let ge = f.least has.leaf has.first.of_cell has.first.of_target in
    let is = has.is in
    omega arith

met_from_key : (f g d e : ℕ) → d < 68719476736 → e < 68719476736 → f * 68719476736 + d < g * 68719476736 + e → (f < g) ⊎ ((f ≡ g) × (d < e))
met_from_key f g d e a b lt =
    elim (cases_order f g) [
      | inl same ↦ inr (same, omega arith)
      | inr o ↦ elim o [ inl less ↦ inl less | inr more ↦ absurd (omega arith) ]
    ]

same_from_key : (f g d e : ℕ) → d < 68719476736 → e < 68719476736 → f * 68719476736 + d ≡ g * 68719476736 + e → (f ≡ g) × (d ≡ e)
same_from_key f g d e a b eq = let same : f ≡ g = omega arith in (same, omega arith)

met_in_order : (target : List CellId) (a b : Held) → meeting_key target a < meeting_key target b → IsMetBefore target a b
unfolding meeting_key
met_in_order target a b lt p q first_a first_b =
    let np = first_number target a.pair.cell p first_a in
    let nq = first_number target b.pair.cell q first_b in
    elim (met_from_key (first_shared target a.pair.cell) (first_shared target b.pair.cell) (depth_key a) (depth_key b) (depth_bound a)
    (depth_bound b) lt) [
      | inl less ↦ inl (omega arith)
      | inr tie ↦ inr (np ∙ tie.0 ∙ sym nq, deeper_from_key a b tie.1)
    ]

is_met : (target : List CellId) (h : Held) → is_met_from target 1 h ≡ true → first_shared target h.pair.cell < leaf_end
is_met target h t =
    ltb-true (first_shared target h.pair.cell) leaf_end
    (and_parts (leb 1 (first_shared target h.pair.cell)) (ltb (first_shared target h.pair.cell) leaf_end) t).1

same_pair_met : (target : List CellId) (a b : Held) → first_shared target a.pair.cell < leaf_end
    → first_shared target b.pair.cell < leaf_end → meeting_key target a ≡ meeting_key target b → rank_of a.pair ≡ rank_of b.pair
unfolding meeting_key
same_pair_met target a b on_a on_b e =
    let parts = same_from_key (first_shared target a.pair.cell) (first_shared target b.pair.cell) (depth_key a) (depth_key b)
    (depth_bound a) (depth_bound b) e in
    let same = parts.0 in
    let s = shared_is target a.pair.cell on_a in
    let u = shared_is target b.pair.cell on_b in
    let u1 = u.from in
    let u2 = u.to in
    same_pair_over (first_shared target a.pair.cell) a b (record { from = s.from; to = s.to })
    (record { from = omega arith; to = omega arith }) parts.1

apart_met : (target : List CellId) (n : ℕ) (hs : Collection) → IsCollectionFrom n hs
    → AreApart (is_met_from target 1) (meeting_key target) hs
apart_met target n [] c = tt
apart_met target n (h ∷ hs) c = (
  λ x held t u e.
      let ranks = same_pair_met target h x (is_met target h t) (is_met target x u) e in
      let later = later_rank (rank_of h.pair + 1) hs x c.2 held in
      omega arith,
  apart_met target (rank_of h.pair + 1) hs c.2,
)

pub meeting_list : (target : List CellId) (held : Collection) → IsCollection held → IsMeetingList target held (meeting_of target held)
unfolding meeting_from
meeting_list target held c = record {
  rises =
      λ i j d lt within.
      met_in_order target _ _
      (strict_pairs (meeting_key target) (meeting_of target held)
      (strictly_choice (is_met_from target 1) (meeting_key target) held (apart_met target 0 held c)) i j d lt within);
  each = λ h. (
    λ k.
        let r = in_choice (is_met_from target 1) (meeting_key target) held h k in
        let has = first_leaf_of target h.pair.cell (is_met target h r.1) in
        (r.0, (has.leaf, has.first.of_cell, has.first.of_target)),
    λ k.
        let lt = meets_below target h.pair.cell k.1 in
        let s = shared_is target h.pair.cell lt in
        let from = s.from in
        let span = span_of h in
        let begins = span.begins in
        choice_has (is_met_from target 1) (meeting_key target) held h k.0
        (and_from _ _ (le-leb 1 (first_shared target h.pair.cell) (omega arith)) (lt-ltb _ _ lt)),
  );
}

met_one_way : (target : List CellId) (a b : Held) → Meets target (path_of a.pair.cell) → Meets target (path_of b.pair.cell)
    → IsMetBefore target a b → IsMetBefore target b a → ⊥
met_one_way target a b ma mb ab ba =
    let p = first_leaf_of target a.pair.cell (meets_below target a.pair.cell ma) in
    let q = first_leaf_of target b.pair.cell (meets_below target b.pair.cell mb) in
    elim (ab p.leaf q.leaf p.first q.first) [
      | inl x ↦ elim (ba q.leaf p.leaf q.first p.first) [ inl y ↦ omega arith | inr y ↦ omega (arith, y.0) ]
      | inr x ↦ elim (ba q.leaf p.leaf q.first p.first) [ inl y ↦ omega (arith, x.0) | inr y ↦ deeper_one_way a b x.1 y.1 ]
    ]

pub same_meeting : (target : List CellId) (held xs ys : Collection) → IsMeetingList target held xs → IsMeetingList target held ys → xs ≡ ys
same_meeting target held xs ys x y =
    same_rising (IsMetBefore target) xs ys (λ a b ha hb. met_one_way target a b ((x.each a).0 ha).1 ((x.each b).0 hb).1) x.rises y.rises
    (λ h k. (y.each h).1 ((x.each h).0 k)) (λ h k. (x.each h).1 ((y.each h).0 k))

-- ---- label lists

pub same_labels : (meeting : Collection) (xs ys : List Label) → IsLabelList meeting xs → IsLabelList meeting ys → xs ≡ ys
same_labels meeting xs ys x y =
    same_rising (λ (l m : Label). value_of l < value_of m) xs ys (λ a b _ _ lt gt. omega arith) x.rises y.rises
    (λ h k. (y.each h).1 ((x.each h).0 k)) (λ h k. (x.each h).1 ((y.each h).0 k))
