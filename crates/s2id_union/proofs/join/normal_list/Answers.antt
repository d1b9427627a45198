use Rattle.std.proofs.Common.{◌↔◌, ℕ, ◌∙◌, subst, IfOk}
use Rattle.s2id_union.specs.Covers.{Covers}
use Rattle.s2id_union.proofs.join.normal_list.Goals as goal

pub returns-clause-covers : goal.returns-clause-covers
returns-clause-covers c =
    subst (λ xs. IfOk c.sort_and_join.result (λ list. (q : ℕ) → Covers list.items q ↔ Covers xs q)) (c.as_mut_slice.ensures.value ∙ c.in_ok-sorted.ensures.items) c.sort_and_join.ensures.covers
