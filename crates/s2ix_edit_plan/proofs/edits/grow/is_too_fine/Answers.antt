use Rattle.std.proofs.Common.{rules, tests}
use Rattle.std.proofs.lemmas.Iterator.Consumers.{YieldsList-from_first}
use Rattle.std.proofs.lemmas.Iterator.Search.{any_from_yields_List}
use Rattle.std.specs.Prelude.{nat_lt, ◌+◌}
use Rattle.s2id_core.specs.CellId.{level_of}
use Rattle.s2ix_bag_pairs.specs.declared.pair.Held.{Held}
use Rattle.s2ix_edit_plan.proofs.Grow.{too_fine_for_held}
use Rattle.s2ix_edit_plan.proofs.edits.grow.is_too_fine.Goals as goal

pub returns-else-level-gt30 : goal.returns-else-level-gt30
returns-else-level-gt30 c =
    too_fine_for_held c.args.level c.args.label c.args.bag.now.held _ c.if-level-gt30.false
    (any_from_yields_List (λ (h : Held). nat_lt (level_of h.pair.cell + 8) c.args.level) _ _ _ c.any.ensures.ran
    (YieldsList-from_first (λ x. x) (λ rest. rest) _ c.of_label.ensures.list) (λ x b q k. search (rules, tests)))
