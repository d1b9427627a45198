-- What a table keeps of new pairs, spliced from what it kept of old ones and what it keeps of a block.
use Rattle.std.proofs.Common.{◌≡◌, ℕ, ◌+◌, ◌-◌, ◌≤◌, inl, inr, List, ◌++◌, map, take, drop, length, slice_index_or, sym, ◌∙◌, ap, ap₂, arith, subst}
use Rattle.std.proofs.lemmas.List.{length-append, length-map, length-take, length-drop, take-append-drop, drop-drop}
use Rattle.s2id_core.specs.CellId.{first_of, end_of}
use Rattle.s2id_core.specs.declared.cell_id.CellId.{CellId}
use Rattle.s2ix_bag_pairs.specs.Collection.{Collection, IsCollection}
use Rattle.s2ix_table_walk.specs.Table.{IsTableOver}
use Rattle.s2ix_table_spans.specs.Blocks.{IsBlock, IsExchange, AreOverCell, HoldsCell, IsBeside, around, moved, placed, joined_places}
use Rattle.s2ix_table_spans.specs.Chains.{chain_of, AreFirsts}
use Rattle.s2ix_table_spans.specs.Nodes.{AreNodes}
use Rattle.s2ix_table_spans.specs.SpanTable.{IsInSpan}
use Rattle.s2ix_table_spans.specs.Starts.{ranges_from}
use Rattle.s2ix_table_spans.proofs.Blocks.{contents_beside, contents_within}
use Rattle.s2ix_table_spans.proofs.BlockChains.{three_long, chain_beside}
use Rattle.s2ix_table_spans.proofs.BlockSplices.{outer_spliced, firsts_spliced}
use Rattle.s2ix_table_spans.proofs.Few.{few_ranges}
use Rattle.s2ix_table_spans.proofs.Ranges.{length_ranges, as_many_firsts}
use Rattle.s2ix_table_spans.proofs.Splicing.{table_spliced, start_within}

-- a list in three parts
pub three_parts : {X : Type 0} (xs : List X) (i j : ℕ) → i ≤ j → xs ≡ take i xs ++ (take (j - i) (drop i xs) ++ drop j xs)
three_parts xs i j le =
    let rest : drop (j - i) (drop i xs) ≡ drop j xs = drop-drop (j - i) i xs ∙ ap (λ n. drop n xs) (let e : i + (j - i) ≡ j = omega arith in e) in
    sym (ap (λ ys. take i xs ++ (take (j - i) (drop i xs) ++ ys)) (sym rest)
    ∙ ap (λ ys. take i xs ++ ys) (take-append-drop (j - i) (drop i xs))
    ∙ take-append-drop i xs)

pub parts_of : {X : Type 0} (xs : List X) (start len : ℕ) → start + len ≤ length xs
    → xs ≡ take start xs ++ (take len (drop start xs) ++ drop (start + len) xs)
parts_of xs start len fits =
    three_parts xs start (start + len) (omega arith)
    ∙ ap (λ k. take start xs ++ (take k (drop start xs) ++ drop (start + len) xs)) (let z : start + len - start ≡ len = omega arith in z)

pub front_long : {X : Type 0} (xs : List X) (start len : ℕ) → start + len ≤ length xs → length (take start xs) ≡ start
front_long xs start len fits = let z = length-take start xs in omega arith

pub block_long : {X : Type 0} (xs : List X) (start len : ℕ) → start + len ≤ length xs → length (take len (drop start xs)) ≡ len
block_long xs start len fits = let z = length-take len (drop start xs) in let y = length-drop start xs in omega arith

joined_long : (start old new count base : ℕ) (front own after : List ℕ)
    → length (joined_places start old new count base front own after) ≡ length front + (length own + length after)
joined_long start old new count base front own after =
    length-append (map (moved start old new count) front) (map (placed start new base) own ++ map (moved start old new count) after)
    ∙ ap₂ (λ m n. m + n) (length-map front (moved start old new count))
    (length-append (map (placed start new base) own) (map (moved start old new count) after)
    ∙ ap₂ (λ m n. m + n) (length-map own (placed start new base)) (length-map after (moved start old new count)))

-- what is kept of new pairs, by the lengths of the parts
abbrev pub AreSpliced : Collection → ℕ → ℕ → ℕ → ℕ → ℕ → ℕ → ℕ → List ℕ → List ℕ → List ℕ → List ℕ → List ℕ → List ℕ → ℕ → ℕ → Type 0
AreSpliced next start old new count base from to outer starts firsts o s f first last =
    AreNodes next from to (joined_places start old new count base (take start outer) o (drop (start + old) outer))
    (take first starts ++ (s ++ drop last starts)) (joined_places start old new count base (take first firsts) f (drop last firsts))

pub parts_spliced : (cell : CellId) (before old new after : Collection) (from to : ℕ) (outer starts firsts o s f : List ℕ) (base first last : ℕ)
    → IsBlock cell before old after → IsBlock cell before new after → HoldsCell (before ++ (new ++ after)) cell
    → AreNodes (before ++ (old ++ after)) from to outer starts firsts → AreNodes new (first_of cell) (end_of cell) o s f
    → AreOverCell starts cell to first last → IsCollection (before ++ (new ++ after)) → length (before ++ (new ++ after)) ≤ 1000000
    → IsInSpan (before ++ (new ++ after)) from to → chain_of (before ++ (new ++ after)) base ≡ around cell before after
    → AreSpliced (before ++ (new ++ after)) (length before) (length old) (length new) (length before + (length old + length after)) base from to
    outer starts firsts o s f first last
parts_spliced cell before old new after from to outer starts firsts o s f base first last b c own nodes block cut rises within_limit within on_base =
    let held = before ++ (old ++ after) in
    let next = before ++ (new ++ after) in
    let h = own.0 in
    let begins : from ≤ first_of cell = subst (λ (x : CellId). from ≤ first_of x) own.2 (within.begins h own.1) in
    let ends : end_of cell ≤ to = subst (λ (x : CellId). end_of x ≤ to) own.2 (within.ends h own.1) in
    let cuts = three_parts starts first last cut.rises in
    let middle = take (last - first) (drop first starts) in
    let rest_is : middle ++ drop last starts ≡ drop first starts =
    ap (λ ys. middle ++ ys) (sym (drop-drop (last - first) first starts ∙ ap (λ n. drop n starts) (let r = cut.rises in let e : first + (last - first) ≡ last = omega arith in e)))
    ∙ take-append-drop (last - first) (drop first starts) in
    let table = table_spliced held new next (around cell before after) from (first_of cell) (end_of cell) to (take first starts) middle (drop last starts) s
    (subst (λ (ss : List ℕ). IsTableOver held from to (ranges_from held ss to)) cuts nodes.table) block.table begins ends
    (ap (λ (ss : List ℕ). slice_index_or ss 0 to) rest_is ∙ cut.begins) cut.ends
    (λ q odd ge lt. contents_beside cell before old new after b c q (inl lt))
    (λ q odd ge lt. contents_beside cell before old new after b c q (inr ge))
    (λ q odd ge lt. contents_within cell before new after c q ge lt)
    (h, own.1, inl (ap first_of own.2)) (h, own.1, inr (ap end_of own.2)) in
    let long = three_long before old after in
    let long_next = three_long before new after in
    let many = nodes.size in
    let own_many = block.size in
    record {
      rises = rises;
      within_limit = within_limit;
      within = within;
      table = table;
      ranges_few =
          let n = length_ranges next (take first starts ++ (s ++ drop last starts)) to in
          let m = few_ranges next from to (ranges_from next (take first starts ++ (s ++ drop last starts)) to) table in
          omega arith;
      size =
          joined_long (length before) (length old) (length new) (length before + (length old + length after)) base (take (length before) outer) o
          (drop (length before + length old) outer)
          ∙ (let front = length-take (length before) outer in
          let rest = length-drop (length before + length old) outer in
          omega arith);
      outwards = outer_spliced cell before old new after outer o base b c nodes.size nodes.outwards block.size block.outwards on_base;
      leads =
          let as_many = as_many_firsts held starts firsts nodes.leads in
          let some = cut.within in
          let order = cut.rises in
          let fronts = length-take first starts in
          let fronts_too = length-take first firsts in
          let drops = length-drop first starts in
          let drops_too = length-drop first firsts in
          let middles = length-take (last - first) (drop first starts) in
          let middles_too = length-take (last - first) (drop first firsts) in
          firsts_spliced cell before old new after (take first starts) middle (drop last starts) (take first firsts)
          (take (last - first) (drop first firsts)) (drop last firsts) s f base b c
          (subst (λ (ss : List ℕ). AreFirsts held ss (take first firsts ++ (take (last - first) (drop first firsts) ++ drop last firsts))) cuts
          (subst (λ (fs : List ℕ). AreFirsts held starts fs) (three_parts firsts first last cut.rises) nodes.leads))
          (omega arith) (omega arith) cut.before cut.after block.leads
          (λ x i. let w = start_within new (first_of cell) (end_of cell) s x block.table i in (w.from, w.to)) on_base;
    }

-- ---- the same of lists that differ in a block

new_parts : (held next : Collection) (cell : CellId) (start old new : ℕ) → IsExchange held next cell start old new
    → next ≡ take start held ++ (take new (drop start next) ++ drop (start + old) held)
new_parts held next cell start old new e =
    parts_of next start new e.new_fits ∙ ap₂ (λ xs ys. xs ++ (take new (drop start next) ++ ys)) e.front e.rest

new_block_of : (held next : Collection) (cell : CellId) (start old new : ℕ) → IsExchange held next cell start old new
    → IsBlock cell (take start held) (take new (drop start next)) (drop (start + old) held)
new_block_of held next cell start old new e =
    let n = take new (drop start next) in
    subst (λ xs. IsBlock cell xs n (drop (start + old) held)) e.front
    (subst (λ ys. IsBlock cell (take start next) n ys) e.rest e.new_block)

-- what holds of the parts, by their lengths, holds of the lists
by_parts : (F : Collection → ℕ → ℕ → ℕ → ℕ → Type 0) (held next : Collection) (cell : CellId) (start old new : ℕ)
    → IsExchange held next cell start old new
    → (let before = take start held in
    let b = take old (drop start held) in
    let n = take new (drop start next) in
    let after = drop (start + old) held in
    F (before ++ (n ++ after)) (length before) (length b) (length n) (length before + (length b + length after)))
    → F next start old new (length held)
by_parts F held next cell start old new e parts =
    let before = take start held in
    let b = take old (drop start held) in
    let n = take new (drop start next) in
    let after = drop (start + old) held in
    let all_long : length before + (length b + length after) ≡ length held =
    (let z = three_long before b after in let y = ap length (parts_of held start old e.old_fits) in omega arith) in
    subst (λ (hs : Collection). F hs start old new (length held)) (sym (new_parts held next cell start old new e))
    (subst (λ k. F (before ++ (n ++ after)) k old new (length held)) (front_long held start old e.old_fits)
    (subst (λ k. F (before ++ (n ++ after)) (length before) k new (length held)) (block_long held start old e.old_fits)
    (subst (λ k. F (before ++ (n ++ after)) (length before) (length b) k (length held)) (block_long next start new e.new_fits)
    (subst (λ k. F (before ++ (n ++ after)) (length before) (length b) (length n) k) all_long parts))))

-- the pair around the block is around the new one, at the place that it is moved to
pub base_moved : (held next : Collection) (cell : CellId) (start old new base : ℕ) → IsExchange held next cell start old new
    → IsBeside start old base → chain_of held base ≡ around cell (take start held) (drop (start + old) held)
    → chain_of next (moved start old new (length held) base) ≡ around cell (take start held) (drop (start + old) held)
base_moved held next cell start old new base e beside on_base =
    let before = take start held in
    let b = take old (drop start held) in
    let n = take new (drop start next) in
    let after = drop (start + old) held in
    let front = front_long held start old e.old_fits in
    let long = block_long held start old e.old_fits in
    let apart : IsBeside (length before) (length b) base = elim beside [ inl lt ↦ inl (omega arith) | inr ge ↦ inr (omega arith) ] in
    by_parts (λ hs i j k m. chain_of hs (moved i j k m base) ≡ around cell before after) held next cell start old new e
    (chain_beside cell before b n after e.old_block (new_block_of held next cell start old new e) base apart
    ∙ ap (λ hs. chain_of hs base) (sym (parts_of held start old e.old_fits)) ∙ on_base)

pub nodes_spliced : (held next : Collection) (cell : CellId) (start old new from to : ℕ) (outer starts firsts o s f : List ℕ) (base first last : ℕ)
    → IsExchange held next cell start old new → AreNodes held from to outer starts firsts
    → AreNodes (take new (drop start next)) (first_of cell) (end_of cell) o s f → AreOverCell starts cell to first last
    → IsCollection next → length next ≤ 1000000 → IsInSpan next from to
    → chain_of next base ≡ around cell (take start held) (drop (start + old) held)
    → AreSpliced next start old new (length held) base from to outer starts firsts o s f first last
nodes_spliced held next cell start old new from to outer starts firsts o s f base first last e nodes block cut rises within_limit within on_base =
    let before = take start held in
    let b = take old (drop start held) in
    let n = take new (drop start next) in
    let after = drop (start + old) held in
    let next_is = new_parts held next cell start old new e in
    by_parts (λ hs i j k m. AreSpliced hs i j k m base from to outer starts firsts o s f first last) held next cell start old new e
    (parts_spliced cell before b n after from to outer starts firsts o s f base first last e.old_block (new_block_of held next cell start old new e)
    (subst (λ (hs : Collection). HoldsCell hs cell) next_is e.new_own)
    (subst (λ (hs : Collection). AreNodes hs from to outer starts firsts) (parts_of held start old e.old_fits) nodes) block cut
    (subst IsCollection next_is rises) (subst (λ (hs : Collection). length hs ≤ 1000000) next_is within_limit)
    (subst (λ (hs : Collection). IsInSpan hs from to) next_is within)
    (subst (λ (hs : Collection). chain_of hs base ≡ around cell before after) next_is on_base))
