-- The leaves of cells that follow one another, one by one.
use Rattle.std.proofs.Common.{◌≡◌, ℕ, zero, suc, ◌+◌, ◌-◌, ◌*◌, ◌/◌, ◌%◌, ◌<◌, ◌≤◌, inl, inr, List, [], ◌∷◌, ◌++◌, length, get_or, take, sym, ◌∙◌, ap, ap₂, refl, arith, subst, AllPairs, Contains}
use Rattle.std.proofs.lemmas.Bool.{cases_lt}
use Rattle.std.proofs.lemmas.List.{length-append, take_more, take_all, get_or_default}
use Rattle.std.proofs.lemmas.List.Elements.{Contains-append_left, Contains-append_right, Contains-append_cases, Contains-get_or}
use Rattle.std.proofs.lemmas.List.Kept.{AllPairs-cons}
use Rattle.s2id_core.specs.declared.cell_id.CellId.{CellId}
use Rattle.s2id_core.specs.CellId.{raw_of, first_of, end_of}
use Rattle.s2id_core.specs.Path.{Path, number_of, path_at}
use Rattle.s2id_core.specs.Leaves.{IsLeafPath}
use Rattle.s2id_core.specs.Span.{leaf_end}
use Rattle.s2id_core.proofs.Numbers.{path_at-number}
use Rattle.s2id_core.proofs.Spans.{number_of_leaf}
use Rattle.s2id_core.proofs.Nested.{span, leaf_of_odd}
use Rattle.s2id_union.specs.Region.{IsLeafList}
use Rattle.s2id_union.specs.Covers.{Covers, FollowOneAnother}
use Rattle.s2id_core.proofs.Lists.{head_pairs, tail_pairs, cons_cases, in_tail, at_head, none_in_nil}
use Rattle.s2id_union.proofs.Covering.{region_from_covers, covers_from_region, covers_nil}

-- n leaves, from the number q on
leaf_row : ℕ → ℕ → List Path
leaf_row q zero = []
leaf_row q (suc n) = path_at q ∷ leaf_row (q + 2) n

count_of : CellId → ℕ
count_of c = (end_of c - first_of c) / 2

leaves_of : List CellId → List Path
leaves_of [] = []
leaves_of (c ∷ cs) = leaf_row (first_of c) (count_of c) ++ leaves_of cs

length_row : (q n : ℕ) → length (leaf_row q n) ≡ n
unfolding leaf_row
length_row q zero = refl
length_row q (suc n) = ap suc (length_row (q + 2) n)

-- ---- rising

RisesFrom : ℕ → List Path → Type 0
RisesFrom n [] = Unit {0}
RisesFrom n (p ∷ ps) = (n ≤ number_of p) × RisesFrom (number_of p + 1) ps

above : (n : ℕ) (ps : List Path) → RisesFrom n ps → (p : Path) → Contains ps p → n ≤ number_of p
unfolding RisesFrom
above n [] h p c = absurd (none_in_nil p c)
above n (x ∷ ps) h p c =
    elim (cons_cases x ps p c) [
      | inl e ↦ let f = ap number_of e in let g = h.0 in omega arith
      | inr i ↦ let a = above (number_of x + 1) ps h.1 p i in let g = h.0 in omega arith
    ]

pairs_from_rises : (n : ℕ) (ps : List Path) → RisesFrom n ps → AllPairs (λ p q. number_of p < number_of q) ps
unfolding RisesFrom
pairs_from_rises n [] h = λ i j d lt l. absurd (omega arith)
pairs_from_rises n (x ∷ ps) h =
    AllPairs-cons (λ p q. number_of p < number_of q) x ps (λ k d l. let a = above (number_of x + 1) ps h.1 (get_or ps k d) (Contains-get_or ps k d l) in omega arith) (pairs_from_rises (number_of x + 1) ps h.1)

weaken : (n m : ℕ) (ps : List Path) → m ≤ n → RisesFrom n ps → RisesFrom m ps
unfolding RisesFrom
weaken n m [] le h = tt
weaken n m (p ∷ ps) le h = ((let g = h.0 in omega arith), h.1)

row_rises : (m q n : ℕ) (rest : List Path) → m ≤ q → q % 2 ≡ 1 → q + 2 * n ≤ leaf_end → RisesFrom (q + 2 * n) rest
    → RisesFrom m (leaf_row q n ++ rest)
unfolding RisesFrom leaf_row
row_rises m q zero rest le odd below h = weaken (q + 2 * 0) m rest (omega arith) h
row_rises m q (suc n) rest le odd below h =
    let e = (leaf_of_odd q odd (omega arith)).0.2 in
    let place : q + 2 * suc n ≡ q + 2 + 2 * n = omega arith in
    let far : RisesFrom (q + 2 + 2 * n) rest = subst (λ x. RisesFrom x rest) place h in
    (omega arith, row_rises (number_of (path_at q) + 1) (q + 2) n rest (omega arith) (omega arith) (omega arith) far)

leaves_rise : (m : ℕ) (cells : List CellId) → FollowOneAnother cells → ((c : CellId) → Contains cells c → m ≤ first_of c)
    → RisesFrom m (leaves_of cells)
unfolding RisesFrom leaves_of count_of
leaves_rise m [] follow low = tt
leaves_rise m (c ∷ cs) follow low =
    let s = span (raw_of c) c.valid in
    let s1 = s.from in
    let s2 = s.to in
    let odd = s.odd in
    let odd_end = s.odd_end in
    let most = s.ends in
    let whole : first_of c + 2 * ((end_of c - first_of c) / 2) ≡ end_of c = omega arith in
    let rest = leaves_rise (end_of c) cs (tail_pairs (λ a b. end_of a ≤ first_of b) c cs follow) (head_pairs (λ a b. end_of a ≤ first_of b) c cs follow) in
    row_rises m (first_of c) ((end_of c - first_of c) / 2) (leaves_of cs) (low c (at_head c cs)) odd (omega arith) (subst (λ x. RisesFrom x (leaves_of cs)) (sym whole) rest)

-- ---- members

record IsRowLeaf (q n : ℕ) (p : Path) : Type 0 where
  leaf : IsLeafPath p
  from : q ≤ number_of p
  to : number_of p < q + 2 * n

row_leaf : (q n : ℕ) → q % 2 ≡ 1 → q + 2 * n ≤ leaf_end → (p : Path) → Contains (leaf_row q n) p → IsRowLeaf q n p
unfolding leaf_row
row_leaf q zero odd below p c = absurd (none_in_nil p c)
row_leaf q (suc n) odd below p c =
    elim (cons_cases (path_at q) (leaf_row (q + 2) n) p c) [
      | inl e ↦
          (let o = leaf_of_odd q odd (omega arith) in
          let number = o.0.2 in
          let same = ap number_of e in
          record { leaf = subst IsLeafPath e o.1; from = omega arith; to = omega arith })
      | inr i ↦
          (let r = row_leaf (q + 2) n (omega arith) (omega arith) p i in
          let a = r.from in
          let b = r.to in
          record { leaf = r.leaf; from = omega arith; to = omega arith })
    ]

row_has : (q n : ℕ) → q % 2 ≡ 1 → (p : Path) → IsLeafPath p → q ≤ number_of p → number_of p < q + 2 * n → Contains (leaf_row q n) p
unfolding leaf_row
row_has q zero odd p leaf from to = absurd (omega arith)
row_has q (suc n) odd p leaf from to =
    let number = number_of_leaf p leaf in
    elim (cases_lt q (number_of p)) [
      | inl later ↦ in_tail (path_at q) (leaf_row (q + 2) n) p (row_has (q + 2) n (omega arith) p leaf (omega arith) (omega arith))
      | inr here ↦
          (let e : number_of p ≡ q = omega arith in
          subst (Contains (path_at q ∷ leaf_row (q + 2) n)) (ap path_at (sym e) ∙ path_at-number p leaf.path) (at_head (path_at q) (leaf_row (q + 2) n)))
    ]

record IsMember (cells : List CellId) (p : Path) : Type 0 where
  leaf : IsLeafPath p
  covers : Covers cells (number_of p)

member : (cells : List CellId) (p : Path) → Contains (leaves_of cells) p → IsMember cells p
unfolding leaves_of count_of
member [] p c = absurd (none_in_nil p c)
member (x ∷ cs) p c =
    let s = span (raw_of x) x.valid in
    let s1 = s.from in
    let s2 = s.to in
    let odd = s.odd in
    let odd_end = s.odd_end in
    let most = s.ends in
    elim (Contains-append_cases (leaf_row (first_of x) ((end_of x - first_of x) / 2)) (leaves_of cs) p c) [
      | inl i ↦
          (let r = row_leaf (first_of x) ((end_of x - first_of x) / 2) odd (omega arith) p i in
          let a = r.from in
          let b = r.to in
          record { leaf = r.leaf; covers = record { cell = x; held = at_head x cs; from = a; to = omega arith } })
      | inr i ↦
          (let r = member cs p i in
          record { leaf = r.leaf; covers = record { cell = r.covers.cell; held = in_tail x cs r.covers.cell r.covers.held; from = r.covers.from; to = r.covers.to } })
    ]

has : (cells : List CellId) (p : Path) → IsLeafPath p → Covers cells (number_of p) → Contains (leaves_of cells) p
unfolding leaves_of count_of
has [] p leaf v = absurd (covers_nil (number_of p) v)
has (x ∷ cs) p leaf v =
    let s = span (raw_of x) x.valid in
    let odd = s.odd in
    let odd_end = s.odd_end in
    let from = v.from in
    let to = v.to in
    let row = leaf_row (first_of x) ((end_of x - first_of x) / 2) in
    elim (cons_cases x cs v.cell v.held) [
      | inl e ↦
          (let a = ap (λ (c : CellId). first_of c) e in
          let b = ap (λ (c : CellId). end_of c) e in
          Contains-append_left row (leaves_of cs) p (row_has (first_of x) ((end_of x - first_of x) / 2) odd p leaf (omega arith) (omega arith)))
      | inr i ↦
          Contains-append_right row (leaves_of cs) p (has cs p leaf (record { cell = v.cell; held = i; from = from; to = to }))
    ]

leaf_list : (cells : List CellId) → FollowOneAnother cells → IsLeafList cells (leaves_of cells)
leaf_list cells follow = record {
  rises = pairs_from_rises 0 (leaves_of cells) (leaves_rise 0 cells follow (λ c h. omega arith));
  leaf = λ p c. (member cells p c).leaf;
  only = λ p c. let m = member cells p c in region_from_covers cells p m.leaf m.covers;
  each = λ p leaf i. has cells p leaf (covers_from_region cells p i);
}

-- ---- the sum of the code

pub total : List CellId → ℕ
total [] = 0
total (c ∷ cs) = count_of c + total cs

length_leaves : (cells : List CellId) → length (leaves_of cells) ≡ total cells
unfolding leaves_of total
length_leaves [] = refl
length_leaves (c ∷ cs) =
    length-append (leaf_row (first_of c) (count_of c)) (leaves_of cs) ∙ ap₂ (λ a b. a + b) (length_row (first_of c) (count_of c)) (length_leaves cs)

total-push : (cells : List CellId) (c : CellId) → total (cells ++ c ∷ []) ≡ total cells + count_of c
unfolding total
total-push [] c = omega arith
total-push (x ∷ xs) c = let e = total-push xs c in omega arith

pub total-none : total [] ≡ 0
unfolding total
total-none = refl

pub total_more : (cells : List CellId) (k : ℕ) (x : CellId) → k < length cells → x ≡ get_or cells k x
    → total (take (k + 1) cells) ≡ total (take k cells) + (end_of x - first_of x) / 2
unfolding count_of
total_more cells k x l is =
    ap total (take_more cells k x l ∙ ap (λ y. take k cells ++ y ∷ []) (sym is)) ∙ total-push (take k cells) x

pub counted : (cells : List CellId) (k count : ℕ) → FollowOneAnother cells → length cells ≤ k → count ≡ total (take k cells)
    → (leaves : List Path) × IsLeafList cells leaves × (length leaves ≡ count)
counted cells k count follow done e =
    (leaves_of cells, leaf_list cells follow, length_leaves cells ∙ ap total (sym (take_all k cells done)) ∙ sym e)

-- what the loop adds
pub cell_width : (c : CellId) → (first_of c + 2 ≤ end_of c) × (end_of c ≤ leaf_end) × (first_of c % 2 ≡ 1) × (end_of c % 2 ≡ 1)
cell_width c =
    let s = span (raw_of c) c.valid in
    let a = s.from in
    let b = s.to in
    (omega arith, s.ends, s.odd, s.odd_end)

-- the bound on the sum goes on to the next cell
pub next_bound : (cells : List CellId) (k count next : ℕ) → FollowOneAnother cells → (x : CellId) → k < length cells → x ≡ get_or cells k x
    → 2 * count + 1 ≤ first_of x → next ≡ count + (end_of x - first_of x) / 2 → (j : ℕ) (d : CellId) → k + 1 ≤ j → j < length cells
    → 2 * next + 1 ≤ first_of (get_or cells j d)
next_bound cells k count next follow x l is bound e j d le within =
    let w = cell_width x in
    let w0 = w.0 in
    let f = ap (λ (c : CellId). end_of c) (is ∙ get_or_default cells k x d l) in
    let c = follow k j d (omega arith) within in
    omega arith
