use Rattle.std.proofs.Common.{ℕ, List, ◌++◌, take, drop, ◌∙◌, ap, ap₂, append_assoc}
use Rattle.std.proofs.lemmas.List.{take_rest}
use Rattle.s2ix_table_faced.proofs.part_begins.starts_with.Goals as goal

pub returns : goal.returns
returns c =
    let starts = c.args.starts.now in
    c.in_ok-extend_from_slice-3.ensures.items
    ∙ ap₂ (λ (ns ms : List ℕ). ns ++ ms)
    (c.in_ok-extend_from_slice-2.ensures.items ∙ ap₂ (λ (ns ms : List ℕ). ns ++ ms)
    (c.in_ok-extend_from_slice.ensures.items ∙ ap (λ (ns : List ℕ). ns ++ take c.args.first starts) c.in_ok-all.ensures.items)
    (c.deref.ensures.value ∙ c.in_ok-own.ensures)) (take_rest starts c.args.end)
    ∙ append_assoc (take c.args.first starts) _ (drop c.args.end starts)
