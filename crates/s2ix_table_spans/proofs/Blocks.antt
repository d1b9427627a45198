-- Blocks of a collection: what lies over leaves and on chains, within the block's cell and beside it.
use Rattle.std.proofs.Common.{◌≡◌, ℕ, ◌+◌, ◌-◌, ◌*◌, ◌<◌, ◌≤◌, ◌⊎◌, inl, inr, Bool, true, false, cond, ltb, List, [], ◌∷◌, ◌++◌, refl, sym, ◌∙◌, ap, arith, Contains}
use Rattle.std.specs.List.{AllByRecursion}
use Rattle.std.proofs.lemmas.List.Elements.{Contains-append_cases}
use Rattle.std.proofs.lemmas.Bool.{cases_lt, cases_Bool, both_ways, false_from_ne_true}
use Rattle.s2id_core.specs.CellId.{raw_of, first_of, end_of, level_of}
use Rattle.s2id_core.specs.Span.{IsNested}
use Rattle.s2id_core.specs.declared.cell_id.CellId.{CellId}
use Rattle.s2id_core.proofs.Lists.{in_tail, at_head}
use Rattle.s2id_core.proofs.Nested.{span, nested_from_middle, nested_from_crossing_spans, level_from_nested, same_from_level}
use Rattle.s2ix_bag_pairs.specs.Collection.{Collection}
use Rattle.s2ix_bag_pairs.specs.Label.{value_of}
use Rattle.s2ix_bag_pairs.specs.declared.pair.Held.{Held}
use Rattle.s2ix_table_walk.specs.InOrder.{choice, insertion}
use Rattle.s2ix_table_walk.specs.Contents.{covers, contents_at, depth_key}
use Rattle.s2ix_table_walk.proofs.InOrder.{every_choice, choice_agree, choice_in, choice_out, choice_none, insertion_after, insertion_before_all}
use Rattle.s2ix_table_walk.proofs.Over.{IsOver, over-true, covers-from, level_at_most, span_of}
use Rattle.s2ix_table_spans.specs.Blocks.{IsBlock, around}
use Rattle.s2ix_table_spans.specs.Chains.{is_outward}
use Rattle.s2ix_table_spans.proofs.Chains.{outward-true, outward-from, same_bool}

-- ---- chosen of three parts

insertion_front : (key : Held → ℕ) (x : Held) (ys zs : List Held) → AllByRecursion (λ z. key x < key z) zs
    → insertion key x (ys ++ zs) ≡ insertion key x ys ++ zs
unfolding insertion
insertion_front key x [] zs all = insertion_before_all key x zs all
insertion_front key x (y ∷ ys) zs all =
    elim (ltb (key x) (key y)) as (λ b. cond b (x ∷ y ∷ (ys ++ zs)) (y ∷ insertion key x (ys ++ zs)) ≡ cond b (x ∷ y ∷ ys) (y ∷ insertion key x ys) ++ zs) [
      | true ↦ refl
      | false ↦ ap (λ more. y ∷ more) (insertion_front key x ys zs all)
    ]

insertion_past : (key : Held → ℕ) (x : Held) (ys zs : List Held) → AllByRecursion (λ y. key y ≤ key x) ys
    → insertion key x (ys ++ zs) ≡ ys ++ insertion key x zs
insertion_past key x [] zs all = refl
insertion_past key x (y ∷ ys) zs all =
    insertion_after key x y (ys ++ zs) all.0 ∙ ap (λ more. y ∷ more) (insertion_past key x ys zs all.1)

choice_first : (test : Held → Bool) (key : Held → ℕ) (ys zs : Collection)
    → ((y z : Held) → Contains ys y → Contains zs z → test y ≡ true → test z ≡ true → key y < key z)
    → choice test key (ys ++ zs) ≡ choice test key ys ++ choice test key zs
unfolding choice
choice_first test key [] zs less = refl
choice_first test key (y ∷ ys) zs less =
    let rest = choice_first test key ys zs (λ a z i. less a z (in_tail y ys a i)) in
    elim (cases_Bool (test y)) [
      | inl t ↦
          choice_in test key y (ys ++ zs) t ∙ ap (insertion key y) rest
          ∙ insertion_front key y (choice test key ys) (choice test key zs)
          (every_choice (λ z. key y < key z) test key zs (λ z i u. less y z (at_head y ys) i t u))
          ∙ ap (λ more. more ++ choice test key zs) (sym (choice_in test key y ys t))
      | inr f ↦
          choice_out test key y (ys ++ zs) f ∙ rest ∙ ap (λ more. more ++ choice test key zs) (sym (choice_out test key y ys f))
    ]

-- a middle part whose chosen pairs have lesser keys than all others comes first
pub choice_middle : (test : Held → Bool) (key : Held → ℕ) (xs ys zs : Collection)
    → ((y z : Held) → Contains ys y → Contains (xs ++ zs) z → test y ≡ true → test z ≡ true → key y < key z)
    → choice test key (xs ++ (ys ++ zs)) ≡ choice test key ys ++ choice test key (xs ++ zs)
choice_middle test key [] ys zs less = choice_first test key ys zs less
choice_middle test key (x ∷ xs) ys zs less =
    let rest = choice_middle test key xs ys zs (λ y z i j. less y z i (in_tail x (xs ++ zs) z j)) in
    elim (cases_Bool (test x)) [
      | inl t ↦
          choice_in test key x (xs ++ (ys ++ zs)) t ∙ ap (insertion key x) rest
          ∙ insertion_past key x (choice test key ys) (choice test key (xs ++ zs))
          (every_choice (λ y. key y ≤ key x) test key ys (λ y i u. let lt = less y x i (at_head x (xs ++ zs)) u t in omega arith))
          ∙ ap (λ more. choice test key ys ++ more) (sym (choice_in test key x (xs ++ zs) t))
      | inr f ↦
          choice_out test key x (xs ++ (ys ++ zs)) f ∙ rest
          ∙ ap (λ more. choice test key ys ++ more) (sym (choice_out test key x (xs ++ zs) f))
    ]

-- a middle part with no chosen pair can be left out
pub choice_around : (test : Held → Bool) (key : Held → ℕ) (xs ys zs : Collection) → ((y : Held) → Contains ys y → test y ≡ false)
    → choice test key (xs ++ (ys ++ zs)) ≡ choice test key (xs ++ zs)
choice_around test key xs ys zs off =
    choice_middle test key xs ys zs (λ y z i j t u. absurd (both_ways (test y) (off y i) t))
    ∙ ap (λ more. more ++ choice test key (xs ++ zs))
    (choice_agree test (λ _. false) key ys off ∙ choice_none (λ _. false) key ys (λ h. refl))

-- ---- the cells of a block, and those outside

-- a pair of the block lies in its cell
pub block_nested : (cell : CellId) (before block after : Collection) → IsBlock cell before block after → (h : Held) → Contains block h
    → IsNested (raw_of h.pair.cell) (raw_of cell)
block_nested cell before block after b h i =
    nested_from_middle (raw_of h.pair.cell) (raw_of cell) h.pair.cell.valid cell.valid (b.from h i) (let to = b.to h i in omega arith)

-- the number of a pair outside lies outside
outside_number : (cell : CellId) (before block after : Collection) → IsBlock cell before block after → (x : Held)
    → Contains (before ++ after) x → (raw_of x.pair.cell < first_of cell) ⊎ (end_of cell ≤ raw_of x.pair.cell + 1)
outside_number cell before block after b x i =
    elim (Contains-append_cases before after x i) [ inl j ↦ inl (b.lesser x j) | inr j ↦ inr (b.greater x j) ]

-- no pair of the block is outside
pub block_apart : (cell : CellId) (before block after : Collection) → IsBlock cell before block after → (x : Held) → Contains block x
    → Contains (before ++ after) x → ⊥
block_apart cell before block after b x i j =
    let from = b.from x i in
    let to = b.to x i in
    let apart = outside_number cell before block after b x j in
    omega arith

-- a pair lies apart from a cell, or over all of it
abbrev pub LiesAround : CellId → Held → Type 0
LiesAround cell x =
    ((end_of x.pair.cell ≤ first_of cell) ⊎ (end_of cell ≤ first_of x.pair.cell)) ⊎ IsNested (raw_of cell) (raw_of x.pair.cell)

pub outside_around : (cell : CellId) (before block after : Collection) → IsBlock cell before block after → (x : Held)
    → Contains (before ++ after) x → LiesAround cell x
outside_around cell before block after b x i =
    elim (cases_lt (first_of cell) (end_of x.pair.cell)) [
      | inr by ↦ inl (inl by)
      | inl ends ↦
          elim (cases_lt (first_of x.pair.cell) (end_of cell)) [
            | inr by ↦ inl (inr by)
            | inl begins ↦
                elim (nested_from_crossing_spans (raw_of cell) (raw_of x.pair.cell) cell.valid x.pair.cell.valid ends begins) [
                  | inl n ↦ inr n
                  | inr n ↦
                      absurd (let from = n.from in
                      let to = n.to in
                      let s = span (raw_of x.pair.cell) x.pair.cell.valid in
                      let s1 = s.from in
                      let s2 = s.to in
                      let apart = outside_number cell before block after b x i in
                      omega arith)
                ]
          ]
    ]

deeper_by_level : (k l v w : ℕ) → k ≤ 30 → l < k → v ≤ 2147483647 → (30 - k) * 2147483648 + v < (30 - l) * 2147483648 + w
deeper_by_level k l v w a b c = omega arith

-- what lies over all of the cell, outside of its block, lies outwards of the block
pub block_deeper : (cell : CellId) (before block after : Collection) → IsBlock cell before block after → (h x : Held) → Contains block h
    → Contains (before ++ after) x → IsNested (raw_of cell) (raw_of x.pair.cell) → depth_key h < depth_key x
unfolding depth_key
block_deeper cell before block after b h x i j over =
    let inner = block_nested cell before block after b h i in
    let nested : IsNested (raw_of h.pair.cell) (raw_of x.pair.cell) = let f = inner.from in
    let t = inner.to in
    let g = over.from in
    let u = over.to in
    record { from = omega arith; to = omega arith } in
    let level = level_from_nested (raw_of h.pair.cell) (raw_of x.pair.cell) h.pair.cell.valid x.pair.cell.valid nested in
    let finer : level_of x.pair.cell < level_of h.pair.cell = elim (cases_lt (level_of x.pair.cell) (level_of h.pair.cell)) [
      | inl lt ↦ lt
      | inr le ↦
          absurd (let one = same_from_level (raw_of h.pair.cell) (raw_of x.pair.cell) h.pair.cell.valid x.pair.cell.valid nested (omega arith) in
          let from = b.from h i in
          let to = b.to h i in
          let apart = outside_number cell before block after b x j in
          omega arith)
    ] in
    deeper_by_level (level_of h.pair.cell) (level_of x.pair.cell) (value_of h.pair.label) (value_of x.pair.label) (level_at_most h) finer h.pair.label.in_range

-- what lies over a leaf of the cell, outside of its block, lies over all of the cell
pub outside_over : (cell : CellId) (before block after : Collection) → IsBlock cell before block after → (x : Held)
    → Contains (before ++ after) x → (q : ℕ) → first_of cell ≤ q → q < end_of cell → IsOver x q → IsNested (raw_of cell) (raw_of x.pair.cell)
outside_over cell before block after b x i q from to over =
    elim (outside_around cell before block after b x i) [
      | inl apart ↦ absurd (let o1 = over.from in let o2 = over.to in omega arith)
      | inr nested ↦ nested
    ]

-- one leaf of the cell is as good as the other for what is outside of its block
pub covers_alike : (cell : CellId) (before block after : Collection) → IsBlock cell before block after → (x : Held)
    → Contains (before ++ after) x → (q : ℕ) → first_of cell ≤ q → q < end_of cell → covers q x ≡ covers (first_of cell) x
covers_alike cell before block after b x i q from to =
    let by : (p r : ℕ) → first_of cell ≤ p → p < end_of cell → first_of cell ≤ r → r < end_of cell → covers p x ≡ true → covers r x ≡ true = λ p r f t g u c.
    let n = outside_over cell before block after b x i p f t (over-true p x c) in
    let n1 = n.from in
    let n2 = n.to in
    covers-from r x (record { from = omega arith; to = omega arith }) in
    same_bool (covers q x) (covers (first_of cell) x) (by q (first_of cell) from to (omega arith) (omega arith))
    (by (first_of cell) q (omega arith) (omega arith) from to)

-- ---- contents

-- beside the cell the contents have no pair of the block
pub contents_around : (cell : CellId) (before block after : Collection) → IsBlock cell before block after → (q : ℕ)
    → (q < first_of cell) ⊎ (end_of cell ≤ q) → contents_at q (before ++ (block ++ after)) ≡ contents_at q (before ++ after)
unfolding contents_at
contents_around cell before block after b q beside =
    choice_around (covers q) depth_key before block after
    (λ h i.
    false_from_ne_true (covers q h) (λ t.
    let o = over-true q h t in
    let o1 = o.from in
    let o2 = o.to in
    let n = block_nested cell before block after b h i in
    let n1 = n.from in
    let n2 = n.to in
    omega arith))

-- beside the cell the contents stay, whatever its block becomes
pub contents_beside : (cell : CellId) (before old new after : Collection) → IsBlock cell before old after → IsBlock cell before new after
    → (q : ℕ) → (q < first_of cell) ⊎ (end_of cell ≤ q)
    → contents_at q (before ++ (new ++ after)) ≡ contents_at q (before ++ (old ++ after))
contents_beside cell before old new after b c q beside =
    contents_around cell before new after c q beside ∙ sym (contents_around cell before old after b q beside)

-- within the cell they are those of the block, and after them what lies around
pub contents_within : (cell : CellId) (before block after : Collection) → IsBlock cell before block after → (q : ℕ) → first_of cell ≤ q
    → q < end_of cell → contents_at q (before ++ (block ++ after)) ≡ contents_at q block ++ around cell before after
unfolding contents_at
contents_within cell before block after b q from to =
    choice_middle (covers q) depth_key before block after
    (λ h x i j t u.
    block_deeper cell before block after b h x i j (outside_over cell before block after b x j q from to (over-true q x u)))
    ∙ ap (λ more. choice (covers q) depth_key block ++ more)
    (choice_agree (covers q) (covers (first_of cell)) depth_key (before ++ after) (λ x j. covers_alike cell before block after b x j q from to))

-- ---- chains

-- a pair of the block lies on no chain from outside
pub none_outward : (cell : CellId) (before block after : Collection) → IsBlock cell before block after → (x h : Held)
    → Contains (before ++ after) x → Contains block h → is_outward x h ≡ false
none_outward cell before block after b x h j i =
    false_from_ne_true (is_outward x h) (λ t.
    let o = outward-true x h t in
    let over = o.over in
    let o1 = over.from in
    let o2 = over.to in
    let depth = o.depth in
    let n = block_nested cell before block after b h i in
    let n1 = n.from in
    let n2 = n.to in
    let s = (span_of x).rises in
    elim (outside_around cell before block after b x j) [
      | inl apart ↦ omega arith
      | inr nested ↦ (let less = block_deeper cell before block after b h x i j nested in omega arith)
    ])

-- the chain of a pair of the block goes on to what lies around
pub outward_within : (cell : CellId) (before block after : Collection) → IsBlock cell before block after → (x : Held) → Contains block x
    → choice (is_outward x) depth_key (before ++ (block ++ after)) ≡ choice (is_outward x) depth_key block ++ around cell before after
unfolding contents_at
outward_within cell before block after b x i =
    let n = block_nested cell before block after b x i in
    let n1 = n.from in
    let n2 = n.to in
    let s = (span_of x).rises in
    let within : first_of x.pair.cell < end_of cell = omega arith in
    choice_middle (is_outward x) depth_key before block after
    (λ h z k j t u.
    block_deeper cell before block after b h z k j
    (outside_over cell before block after b z j (first_of x.pair.cell) n1 within (outward-true x z u).over))
    ∙ ap (λ more. choice (is_outward x) depth_key block ++ more)
    (choice_agree (is_outward x) (covers (first_of cell)) depth_key (before ++ after)
    (λ z j.
    let alike = covers_alike cell before block after b z j (first_of x.pair.cell) n1 within in
    same_bool (is_outward x z) (covers (first_of cell) z)
    (λ t. sym alike ∙ covers-from (first_of x.pair.cell) z (outward-true x z t).over)
    (λ t.
    let over = over-true (first_of x.pair.cell) z (alike ∙ t) in
    let less = block_deeper cell before block after b x z i j (outside_over cell before block after b z j (first_of x.pair.cell) n1 within over) in
    outward-from x z (record { over = over; depth = omega arith }))))
