use Rattle.std.proofs.Common.{rules}
use Rattle.std.proofs.lemmas.List.Sorted.{IsNonDecreasingBy-from_sort, answers_always}
use Rattle.s2id_core.specs.declared.cell_id.CellId.{CellId}
use Rattle.s2id_core.specs.CellId.{first_of}
use Rattle.s2id_union.proofs.join.sort_by_first.Goals as goal

pub returns-clause-sorted : goal.returns-clause-sorted
returns-clause-sorted c =
    IsNonDecreasingBy-from_sort (λ (x : CellId). first_of x) _ (c.sort_unstable_by_key.ensures.sorted (λ (x : CellId). first_of x) (answers_always _ _ _ (λ f a r g h. search rules)))
