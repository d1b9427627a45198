-- What the fields of a table of heavy pairs say of its calls.
use Rattle.std.proofs.Common.{List, [], ap, arith, get_or, inl, inr, length, length-append, suc, sym, zero, ℕ, ◌%◌, ◌+◌, ◌-◌, ◌<◌, ◌∙◌, ◌∷◌, ◌≡◌, ◌≢◌, ◌≤◌}
use Rattle.std.proofs.lemmas.Bool.{cases_eq}
use Rattle.s2ix_bag_lists.specs.Faces.{all_of}
use Rattle.s2ix_bag_pairs.specs.Collection.{Collection}
use Rattle.s2ix_table_walk.specs.Contents.{contents_at}
use Rattle.s2ix_table_walk.specs.Table.{range_at, IsFound, leaf_end}
use Rattle.s2ix_table_walk.proofs.Tables.{limits_rise}
use Rattle.s2ix_table_spans.specs.SpanTable.{SpanRanges}
use Rattle.s2ix_table_heavy.specs.HeavyTable.{IsHeavyTable}
use Rattle.s2ix_table_heavy.proofs.HeavyWay.{IsMarked}
use Rattle.s2ix_table_heavy.proofs.Marked.{chunks_of, contents_by_marks, marks_over}

-- ---- numbers

-- none is longer than all together
pub chunk_few : (chunks : List Collection) (k : ℕ) → length (get_or chunks k []) ≤ length (all_of chunks)
chunk_few [] k = omega arith
chunk_few (c ∷ cs) zero = let all = length-append c (all_of cs) in omega arith
chunk_few (c ∷ cs) (suc k) = let rest = chunk_few cs k in let all = length-append c (all_of cs) in omega arith

-- ---- over a leaf

pub marked : (chunks : List Collection) (marks : SpanRanges) → IsHeavyTable chunks marks → IsMarked chunks marks.held
marked chunks marks is = record { are = is.are_chunks; mark = is.are_marks; rises = is.table.rises }

-- what lies over a leaf stands for what lies over its range of marks
pub over_range : (chunks : List Collection) (marks : SpanRanges) → IsHeavyTable chunks marks → (k leaf : ℕ) → leaf % 2 ≡ 1
    → IsFound marks.ranges k leaf → contents_at leaf (all_of chunks) ≡ chunks_of chunks (range_at marks.ranges k).contents
over_range chunks marks is k leaf odd found =
    contents_by_marks chunks marks.held is.are_chunks is.are_marks is.table.rises leaf
    ∙ ap (chunks_of chunks) (is.table.table.shared k leaf found.within odd found.start found.limit)

-- and so do the leaves up to the end of that range
pub same_until : (chunks : List Collection) (marks : SpanRanges) → IsHeavyTable chunks marks → (k leaf : ℕ) → leaf % 2 ≡ 1
    → IsFound marks.ranges k leaf → (q : ℕ) → q % 2 ≡ 1 → leaf ≤ q → q < (range_at marks.ranges k).limit
    → contents_at q (all_of chunks) ≡ contents_at leaf (all_of chunks)
same_until chunks marks is k leaf odd found q odd_too from to =
    let start = found.start in
    over_range chunks marks is k q odd_too (record { within = found.within; start = omega arith; limit = to })
    ∙ sym (over_range chunks marks is k leaf odd found)

-- the leaf at its end lies under others
pub differs_after : (chunks : List Collection) (marks : SpanRanges) → IsHeavyTable chunks marks → (k leaf : ℕ) → leaf % 2 ≡ 1
    → IsFound marks.ranges k leaf → (range_at marks.ranges k).limit < leaf_end
    → contents_at (range_at marks.ranges k).limit (all_of chunks) ≢ contents_at leaf (all_of chunks)
differs_after chunks marks is k leaf odd found before_end same =
    let table = is.table.table in
    let limit = (range_at marks.ranges k).limit in
    let more : k + 1 < length marks.ranges =
    elim (cases_eq (k + 1) (length marks.ranges)) [
      | inl last ↦ absurd (let e = table.last k last ∙ is.to in omega arith)
      | inr ne ↦ (let within = found.within in omega (arith, ne))
    ] in
    let start = table.next k (k + 1) (omega arith) more in
    let rises = table.rises (k + 1) more in
    let odd_too : limit % 2 ≡ 1 = ap (λ n. n % 2) start ∙ table.odd (k + 1) more in
    let own = table.shared k leaf found.within odd found.start found.limit in
    let next = table.shared (k + 1) limit more odd_too (omega arith) (omega arith) in
    table.maximal k (k + 1) (omega arith) more
    (sym own ∙ sym (marks_over chunks marks.held is.are_chunks is.are_marks is.table.rises limit leaf same) ∙ next)

-- a range of marks ends with a leaf number, or with all leaves
pub range_ends : (chunks : List Collection) (marks : SpanRanges) → IsHeavyTable chunks marks → (k : ℕ) → k < length marks.ranges
    → ((range_at marks.ranges k).limit % 2 ≡ 1) × ((range_at marks.ranges k).limit ≤ leaf_end)
range_ends chunks marks is k lt =
    let table = is.table.table in
    let to = is.to in
    elim (cases_eq (k + 1) (length marks.ranges)) [
      | inl last ↦ (let e = table.last k last in (ap (λ n. n % 2) (e ∙ to), omega arith))
      | inr ne ↦
          (let less : k + 1 < length marks.ranges = omega (arith, ne) in
          let e = table.next k (k + 1) (omega arith) less in
          let odd = table.odd (k + 1) less in
          let n = length marks.ranges in
          let last = table.last (n - 1) (omega arith) in
          let by = limits_rise marks.held marks.from marks.to marks.ranges table k (n - 1) (omega arith) (omega arith) in
          (ap (λ m. m % 2) e ∙ odd, omega arith))
    ]
