use Rattle.std.proofs.Common.{rules, ◌≡◌, ◌+◌, slice_index_or, sym, ap, ◌∙◌}
use Rattle.std.specs.Ordering.{is_lt}
use Rattle.std.proofs.lemmas.Fn.{always_returns_same}
use Rattle.std.proofs.lemmas.List.Sorted.{IsNonDecreasingBy-from_sort}
use Rattle.s2ix_bag_pairs.specs.declared.pair.Held.{Held}
use Rattle.s2ix_bag_pairs.specs.Pair.{rank_of}
use Rattle.s2ix_edit_plan.proofs.edits.rows.by_pair.Goals as goal

pub returns-clause-order : goal.returns-clause-order
returns-clause-order c =
    let sorted = c.sort_unstable_by_key.new.self.items in
    let by_pair = c.sort_unstable_by_key.ensures.sorted (λ (row : Held). row.pair)
    (always_returns_same _ (λ a r. r ≡ a.0.now.pair) _ (λ a r f' k. search rules)) in
    IsNonDecreasingBy-from_sort (λ (row : Held). rank_of row.pair) sorted
    (λ k d low high.
    let p = (slice_index_or sorted (k + 1) d).pair in
    let q = (slice_index_or sorted k d).pair in
    ap is_lt (sym (c.pairs_compare_by_rank.ensures.order p q)) ∙ by_pair k d low high)
