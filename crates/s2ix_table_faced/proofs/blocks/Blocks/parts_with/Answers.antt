use Rattle.std.proofs.Common.{◌≡◌, ℕ, ◌+◌, ◌-◌, ◌*◌, ◌/◌, ◌^◌, ◌<◌, List, length, refl, slice_index_or, subst, sym, ◌∙◌, rules, arith}
use Rattle.std.proofs.lemmas.List.{get_or_default}
use Rattle.s2ix_table_spans.specs.Starts.{IsLastStart}
use Rattle.s2ix_table_faced.proofs.LeafBlocks.{IsInBlock, in_block, among_before, among_last, rises_to}
use Rattle.s2ix_table_faced.proofs.blocks.Blocks.parts_with.Goals as goal
use Rattle.s2ix_table_faced.proofs.blocks.Blocks.parts_with.Goals.{After-index-last}

-- the block of the leaf
abbrev block_of : (c : After-index-last) → ℕ
block_of c = (c.args.leaf - 1) / 2 ^ c.args.self.now.shift

placed : (c : After-index-last) → IsInBlock c.args.leaf (2 ^ c.args.self.now.shift) (block_of c) (length c.args.self.now.lasts.items)
placed c =
    in_block c.args.leaf c.args.self.now.shift (block_of c) (length c.args.self.now.lasts.items) c.requires.from c.requires.within refl
    c.args.self.now.leaves

-- what was read of it, and of the next one
last_read : (starts lasts : List ℕ) (block size read : ℕ)
    → ((b : ℕ) → b < length lasts → IsLastStart starts (b * size + 1) (slice_index_or lasts b 0)) → block < length lasts
    → read ≡ slice_index_or lasts block read → IsLastStart starts (block * size + 1) read
last_read starts lasts block size read each lt is =
    subst (IsLastStart starts (block * size + 1)) (sym (is ∙ get_or_default lasts block read 0 lt)) (each block lt)

low : (c : After-index-last) → IsLastStart c.args.starts.now (block_of c * 2 ^ c.args.self.now.shift + 1) c.index-first.result.now
low c =
    let at = placed c in
    let listed = at.listed in
    last_read c.args.starts.now c.args.self.now.lasts.items (block_of c) (2 ^ c.args.self.now.shift) c.index-first.result.now
    c.requires.counted (omega arith) c.index-first.ensures

high : (c : After-index-last)
    → IsLastStart c.args.starts.now ((block_of c + 1) * 2 ^ c.args.self.now.shift + 1) c.index-last.result.now
high c =
    last_read c.args.starts.now c.args.self.now.lasts.items (block_of c + 1) (2 ^ c.args.self.now.shift) c.index-last.result.now
    c.requires.counted (placed c).listed c.index-last.ensures

pub bounds-starts-last : goal.bounds-starts-last
bounds-starts-last c = (high (goal.at.bounds-starts-last c).After-index-last).within

pub offset_bounds-starts-last : goal.offset_bounds-starts-last
offset_bounds-starts-last c =
    let lt = (high (goal.at.offset_bounds-starts-last c).After-index-last).within in
    search (rules, lt)

pub overflow_sub-result : goal.overflow_sub-result
overflow_sub-result c =
    let h = (goal.at.overflow_sub-result c).After-index-last in
    let lt = rises_to c.args.starts.now c.args.leaf _ _ c.index-first.result.now c.index-last.result.now c.requires.rises (low h)
    (placed h).from (high h) (omega (arith, c.if-leaf-starts.true)) in
    omega arith

pub returns-then-leaf-starts : goal.returns-then-leaf-starts
returns-then-leaf-starts c =
    let h = (goal.at.returns-then-leaf-starts c).After-index-last in
    among_before c.args.starts.now c.args.leaf _ _ c.index-first.result.now c.index-last.result.now c.requires.rises (low h) (placed h).from
    (high h) (omega (arith, c.if-leaf-starts.true))

pub returns-else-leaf-starts : goal.returns-else-leaf-starts
returns-else-leaf-starts c =
    let h = (goal.at.returns-else-leaf-starts c).After-index-last in
    among_last c.args.starts.now c.args.leaf _ c.index-last.result.now (high h) (placed h).to (omega (arith, c.if-leaf-starts.false))
