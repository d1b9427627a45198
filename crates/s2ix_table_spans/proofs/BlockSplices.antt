-- The lists of a table whose block is changed, put together from the old ones and the block's own.
use Rattle.std.proofs.Common.{◌≡◌, ℕ, ◌+◌, ◌-◌, ◌<◌, ◌≤◌, ◌⊎◌, inl, inr, Option, Some, None, List, [], ◌∷◌, ◌++◌, length, map, take, drop, get_or, slice_get, option_map, refl, sym, ◌∙◌, ap, ap₂, arith, Contains, subst, take-append-drop, length-take-le}
use Rattle.std.proofs.Math.Seq.{take-append_seam, drop-append_seam}
use Rattle.std.proofs.lemmas.Option.{none-some, same_Some, slice_get-map, slice_get_within}
use Rattle.std.proofs.lemmas.List.{length-map, map-append}
use Rattle.std.proofs.lemmas.Bool.{cases_lt}
use Rattle.s2id_core.specs.CellId.{first_of, end_of}
use Rattle.s2id_core.specs.declared.cell_id.CellId.{CellId}
use Rattle.s2id_core.proofs.Lists.{in_tail, at_head}
use Rattle.s2ix_bag_pairs.specs.Collection.{Collection}
use Rattle.s2ix_bag_pairs.specs.declared.pair.Held.{Held}
use Rattle.s2ix_table_walk.specs.Contents.{contents_at}
use Rattle.s2ix_table_walk.proofs.Over.{in_contents}
use Rattle.s2ix_table_spans.specs.Blocks.{IsBlock, around, IsBeside, moved, placed}
use Rattle.s2ix_table_spans.specs.Chains.{chain_of, AreOuter, AreFirsts}
use Rattle.s2ix_table_spans.proofs.Blocks.{block_nested, contents_beside, contents_within}
use Rattle.s2ix_table_spans.proofs.BlockChains.{read_front, read_after, read_middle, read_last, moved_before, moved_after, after_by, three_long, chain_beside, chain_within, chain_placed, beside_by_chain, leads_beside}

-- ---- the places outwards

mapped_from : (f : ℕ → ℕ) (o : Option ℕ) (y : ℕ) → option_map f o ≡ Some y → (x : ℕ) × (o ≡ Some x) × (f x ≡ y)
mapped_from f None y e = absurd (none-some y e)
mapped_from f (Some x) y e = (x, refl, same_Some (f x) y e)

read_take : {X : Type 0} (xs : List X) (n k : ℕ) → n ≤ length xs → k < n → slice_get (take n xs) k ≡ slice_get xs k
read_take xs n k le lt =
    let long = length-take-le n xs le in
    sym (read_front (take n xs) (drop n xs) k (omega arith)) ∙ ap (λ ys. slice_get ys k) (take-append-drop n xs)

read_drop : {X : Type 0} (xs : List X) (n k : ℕ) → n ≤ length xs → slice_get (drop n xs) k ≡ slice_get xs (n + k)
read_drop xs n k le =
    let long = length-take-le n xs le in
    sym (read_after (take n xs) (drop n xs) (n + k) k (omega arith)) ∙ ap (λ ys. slice_get ys (n + k)) (take-append-drop n xs)

-- a place beside the block, once it is moved, leads to where the old one led, moved
moved_leads : (cell : CellId) (before old new after : Collection) (outer : List ℕ) → IsBlock cell before old after
    → IsBlock cell before new after → AreOuter (before ++ (old ++ after)) outer → (place to there next : ℕ) (h : Held)
    → IsBeside (length before) (length old) place → slice_get (before ++ (old ++ after)) place ≡ Some h → slice_get outer place ≡ Some to
    → moved (length before) (length old) (length new) (length before + (length old + length after)) place ≡ there
    → moved (length before) (length old) (length new) (length before + (length old + length after)) to ≡ next
    → chain_of (before ++ (new ++ after)) there ≡ h ∷ chain_of (before ++ (new ++ after)) next
moved_leads cell before old new after outer b c leads place to there next h beside is leads_to at at_next =
    let long = three_long before old after in
    let within = slice_get_within (before ++ (old ++ after)) place h is in
    ap (chain_of (before ++ (new ++ after))) (sym at) ∙ chain_beside cell before old new after b c place beside
    ∙ leads place to h is leads_to
    ∙ ap (λ more. h ∷ more)
    (sym (chain_beside cell before old new after b c to (leads_beside cell before old after outer b leads place to beside leads_to (omega arith))))
    ∙ ap (λ x. h ∷ chain_of (before ++ (new ++ after)) x) at_next

-- a place of the block leads to where its own list says
placed_leads : (cell : CellId) (before block after : Collection) (outer : List ℕ) (base : ℕ) → IsBlock cell before block after
    → AreOuter block outer → chain_of (before ++ (block ++ after)) base ≡ around cell before after → (k to there next : ℕ) (h : Held)
    → slice_get block k ≡ Some h → slice_get outer k ≡ Some to → length before + k ≡ there
    → placed (length before) (length block) base to ≡ next
    → chain_of (before ++ (block ++ after)) there ≡ h ∷ chain_of (before ++ (block ++ after)) next
placed_leads cell before block after outer base b leads on_base k to there next h is leads_to at at_next =
    ap (chain_of (before ++ (block ++ after))) (sym at) ∙ chain_within cell before block after b k (slice_get_within block k h is)
    ∙ ap (λ hs. hs ++ around cell before after) (leads k to h is leads_to)
    ∙ ap (λ hs. h ∷ hs) (sym (chain_placed cell before block after b base on_base to))
    ∙ ap (λ x. h ∷ chain_of (before ++ (block ++ after)) x) at_next

-- what each part of the new list has, `n` places before the block and `l` up to its end

in_front : (m p : ℕ → ℕ) (outer o : List ℕ) (n l place next : ℕ) → n ≤ length outer → place < n
    → slice_get (map m (take n outer) ++ (map p o ++ map m (drop l outer))) place ≡ Some next
    → (x : ℕ) × (slice_get outer place ≡ Some x) × (m x ≡ next)
in_front m p outer o n l place next le lt is =
    let long = length-take-le n outer le in
    let mapped = length-map (take n outer) m in
    mapped_from m (slice_get outer place) next
    (ap (option_map m) (sym (read_take outer n place le lt)) ∙ sym (slice_get-map m (take n outer) place)
    ∙ sym (read_front (map m (take n outer)) (map p o ++ map m (drop l outer)) place (omega arith)) ∙ is)

in_middle : (m p : ℕ → ℕ) (outer o : List ℕ) (n l place k next : ℕ) → n ≤ length outer → place ≡ n + k → k < length o
    → slice_get (map m (take n outer) ++ (map p o ++ map m (drop l outer))) place ≡ Some next
    → (x : ℕ) × (slice_get o k ≡ Some x) × (p x ≡ next)
in_middle m p outer o n l place k next le at lt is =
    let long = length-take-le n outer le in
    let mapped = length-map (take n outer) m in
    let placed_many = length-map o p in
    mapped_from p (slice_get o k) next
    (sym (slice_get-map p o k) ∙ sym (read_middle (map m (take n outer)) (map p o) (map m (drop l outer)) place k (omega arith) (omega arith)) ∙ is)

in_back : (m p : ℕ → ℕ) (outer o : List ℕ) (n l place k next : ℕ) → n ≤ length outer → l ≤ length outer → place ≡ n + (length o + k)
    → slice_get (map m (take n outer) ++ (map p o ++ map m (drop l outer))) place ≡ Some next
    → (x : ℕ) × (slice_get outer (l + k) ≡ Some x) × (m x ≡ next)
in_back m p outer o n l place k next le all at is =
    let long = length-take-le n outer le in
    let mapped = length-map (take n outer) m in
    let placed_many = length-map o p in
    mapped_from m (slice_get outer (l + k)) next
    (ap (option_map m) (sym (read_drop outer l k all)) ∙ sym (slice_get-map m (drop l outer) k)
    ∙ sym (read_last (map m (take n outer)) (map p o) (map m (drop l outer)) place k (omega arith)) ∙ is)

-- the old places outwards, moved, with those of the block between them, lead on; what leads to no pair of the block leads to `base`
pub outer_spliced : (cell : CellId) (before old new after : Collection) (outer o : List ℕ) (base : ℕ) → IsBlock cell before old after
    → IsBlock cell before new after → length outer ≡ length (before ++ (old ++ after)) → AreOuter (before ++ (old ++ after)) outer
    → length o ≡ length new → AreOuter new o → chain_of (before ++ (new ++ after)) base ≡ around cell before after
    → AreOuter (before ++ (new ++ after))
    (map (moved (length before) (length old) (length new) (length before + (length old + length after))) (take (length before) outer)
    ++ (map (placed (length before) (length new) base) o
    ++ map (moved (length before) (length old) (length new) (length before + (length old + length after))) (drop (length before + length old) outer)))
outer_spliced cell before old new after outer o base b c long leads o_long o_leads on_base place next h is to =
    let start = length before in
    let end = length before + length old in
    let m = moved start (length old) (length new) (start + (length old + length after)) in
    let p = placed start (length new) base in
    let parts = three_long before old after in
    elim (cases_lt place start) [
      | inl lt ↦
          (let w = in_front m p outer o start end place next (omega arith) lt to in
          moved_leads cell before old new after outer b c leads place w.0 place next h (inl lt)
          (read_front before (old ++ after) place lt ∙ sym (read_front before (new ++ after) place lt) ∙ is) w.1
          (moved_before start (length old) (length new) (start + (length old + length after)) place lt) w.2)
      | inr ge ↦
          elim (cases_lt place (start + length new)) [
            | inl lt ↦
                (let k = place - start in
                let w = in_middle m p outer o start end place k next (omega arith) (omega arith) (omega arith) to in
                placed_leads cell before new after o base c o_leads on_base k w.0 place next h
                (sym (read_middle before new after place k (omega arith) (omega arith)) ∙ is) w.1 (omega arith) w.2)
            | inr past ↦
                (let k = place - (start + length new) in
                let at = after_by start (length new) place past in
                let w = in_back m p outer o start end place k next (omega arith) (omega arith) (omega arith) to in
                let is_after = sym (read_last before new after place k at) ∙ is in
                let within = slice_get_within after k h is_after in
                moved_leads cell before old new after outer b c leads (end + k) w.0 place next h (inr (omega arith))
                (read_last before old after (end + k) k (omega arith) ∙ is_after) w.1
                (moved_after start (length old) (length new) (length after) (end + k) k (omega arith) (omega arith) ∙ sym at) w.2)
          ]
    ]

-- ---- the first places

-- a place that leads to what lies over a leaf beside the cell is beside the block
first_beside : (cell : CellId) (before block after : Collection) → IsBlock cell before block after → (first start : ℕ)
    → (start < first_of cell) ⊎ (end_of cell ≤ start)
    → chain_of (before ++ (block ++ after)) first ≡ contents_at start (before ++ (block ++ after))
    → IsBeside (length before) (length block) first
first_beside cell before block after b first start beside e =
    beside_by_chain before block after first (λ h i on.
    let over = (in_contents start (before ++ (block ++ after)) h (subst (λ hs. Contains hs h) e on)).1 in
    let o1 = over.from in
    let o2 = over.to in
    let n = block_nested cell before block after b h i in
    let n1 = n.from in
    let n2 = n.to in
    omega arith)

-- starts beside the cell have their old first places, moved
firsts_beside : (cell : CellId) (before old new after : Collection) → IsBlock cell before old after → IsBlock cell before new after
    → (starts firsts : List ℕ) → ((start : ℕ) → Contains starts start → (start < first_of cell) ⊎ (end_of cell ≤ start))
    → AreFirsts (before ++ (old ++ after)) starts firsts
    → AreFirsts (before ++ (new ++ after)) starts
    (map (moved (length before) (length old) (length new) (length before + (length old + length after))) firsts)
firsts_beside cell before old new after b c [] [] beside same = refl
firsts_beside cell before old new after b c [] (f ∷ fs) beside same = absurd (let e = ap length same in omega arith)
firsts_beside cell before old new after b c (s ∷ ss) [] beside same = absurd (let e = ap length same in omega arith)
firsts_beside cell before old new after b c (s ∷ ss) (f ∷ fs) beside same =
    let none : Collection = [] in
    let here : chain_of (before ++ (old ++ after)) f ≡ contents_at s (before ++ (old ++ after)) = ap (λ (cs : List Collection). get_or cs 0 none) same in
    let out = beside s (at_head s ss) in
    ap₂ (λ (hs : Collection) hss. hs ∷ hss)
    (chain_beside cell before old new after b c f (first_beside cell before old after b f s out here) ∙ here
    ∙ sym (contents_beside cell before old new after b c s out))
    (firsts_beside cell before old new after b c ss fs (λ x i. beside x (in_tail s ss x i)) (ap (drop 1) same))

-- starts within the cell have those of the block
firsts_within : (cell : CellId) (before block after : Collection) → IsBlock cell before block after → (base : ℕ)
    → chain_of (before ++ (block ++ after)) base ≡ around cell before after → (starts firsts : List ℕ)
    → ((start : ℕ) → Contains starts start → (first_of cell ≤ start) × (start < end_of cell)) → AreFirsts block starts firsts
    → AreFirsts (before ++ (block ++ after)) starts (map (placed (length before) (length block) base) firsts)
firsts_within cell before block after b base on_base [] [] within same = refl
firsts_within cell before block after b base on_base [] (f ∷ fs) within same = absurd (let e = ap length same in omega arith)
firsts_within cell before block after b base on_base (s ∷ ss) [] within same = absurd (let e = ap length same in omega arith)
firsts_within cell before block after b base on_base (s ∷ ss) (f ∷ fs) within same =
    let none : Collection = [] in
    let here : chain_of block f ≡ contents_at s block = ap (λ (cs : List Collection). get_or cs 0 none) same in
    let in_cell = within s (at_head s ss) in
    ap₂ (λ (hs : Collection) hss. hs ∷ hss)
    (chain_placed cell before block after b base on_base f ∙ ap (λ hs. hs ++ around cell before after) here
    ∙ sym (contents_within cell before block after b s in_cell.0 in_cell.1))
    (firsts_within cell before block after b base on_base ss fs (λ x i. within x (in_tail s ss x i)) (ap (drop 1) same))

-- lists of two parts of one length
parts_apart : {X : Type 0} (xs ys zs ws : List X) → xs ++ ys ≡ zs ++ ws → length xs ≡ length zs → (xs ≡ zs) × (ys ≡ ws)
parts_apart xs ys zs ws e long = (
  sym (take-append_seam xs ys) ∙ ap (take (length xs)) e ∙ ap (λ n. take n (zs ++ ws)) long ∙ take-append_seam zs ws,
  sym (drop-append_seam xs ys) ∙ ap (drop (length xs)) e ∙ ap (λ n. drop n (zs ++ ws)) long ∙ drop-append_seam zs ws,
)

firsts_apart : (held : Collection) (ss ts fs gs : List ℕ) → length fs ≡ length ss → AreFirsts held (ss ++ ts) (fs ++ gs)
    → AreFirsts held ss fs × AreFirsts held ts gs
firsts_apart held ss ts fs gs long same =
    parts_apart (map (chain_of held) fs) (map (chain_of held) gs) (map (λ start. contents_at start held) ss) (map (λ start. contents_at start held) ts)
    (sym (map-append (chain_of held) fs gs) ∙ same ∙ map-append (λ start. contents_at start held) ss ts)
    (length-map fs (chain_of held) ∙ long ∙ sym (length-map ss (λ start. contents_at start held)))

pub firsts_together : (held : Collection) (ss ts fs gs : List ℕ) → AreFirsts held ss fs → AreFirsts held ts gs
    → AreFirsts held (ss ++ ts) (fs ++ gs)
firsts_together held ss ts fs gs one two =
    map-append (chain_of held) fs gs ∙ ap₂ (λ (cs : List Collection) ds. cs ++ ds) one two
    ∙ sym (map-append (λ start. contents_at start held) ss ts)

-- the old first places, moved, with those of the block between them, are those of the starts put together
pub firsts_spliced : (cell : CellId) (before old new after : Collection) (s1 s2 s3 f1 f2 f3 s f : List ℕ) (base : ℕ)
    → IsBlock cell before old after → IsBlock cell before new after
    → AreFirsts (before ++ (old ++ after)) (s1 ++ (s2 ++ s3)) (f1 ++ (f2 ++ f3)) → length f1 ≡ length s1 → length f2 ≡ length s2
    → ((start : ℕ) → Contains s1 start → start < first_of cell) → ((start : ℕ) → Contains s3 start → end_of cell ≤ start)
    → AreFirsts new s f → ((start : ℕ) → Contains s start → (first_of cell ≤ start) × (start < end_of cell))
    → chain_of (before ++ (new ++ after)) base ≡ around cell before after
    → AreFirsts (before ++ (new ++ after)) (s1 ++ (s ++ s3))
    (map (moved (length before) (length old) (length new) (length before + (length old + length after))) f1
    ++ (map (placed (length before) (length new) base) f
    ++ map (moved (length before) (length old) (length new) (length before + (length old + length after))) f3))
firsts_spliced cell before old new after s1 s2 s3 f1 f2 f3 s f base b c same long1 long2 lesser greater own within on_base =
    let all = before ++ (new ++ after) in
    let m = moved (length before) (length old) (length new) (length before + (length old + length after)) in
    let p = placed (length before) (length new) base in
    let cut = firsts_apart (before ++ (old ++ after)) s1 (s2 ++ s3) f1 (f2 ++ f3) long1 same in
    let last = (firsts_apart (before ++ (old ++ after)) s2 s3 f2 f3 long2 cut.1).1 in
    firsts_together all s1 (s ++ s3) (map m f1) (map p f ++ map m f3)
    (firsts_beside cell before old new after b c s1 f1 (λ x i. inl (lesser x i)) cut.0)
    (firsts_together all s s3 (map p f) (map m f3) (firsts_within cell before new after c base on_base s f within own)
    (firsts_beside cell before old new after b c s3 f3 (λ x i. inr (greater x i)) last))
