use Rattle.std.proofs.Common.{◌+◌, ◌<◌, [], length, get_or, sym, ◌∙◌, arith, subst}
use Rattle.std.proofs.lemmas.List.{get_or_default}
use Rattle.std.proofs.lemmas.List.Elements.{Contains-get_or}
use Rattle.s2ix_bag_lists.proofs.Joins.{filled_at}
use Rattle.s2ix_bag_lists.proofs.Windows.{filled_count}
use Rattle.s2ix_bag_pairs.specs.Collection.{Collection}
use Rattle.s2ix_bag_pairs.specs.declared.pair.Held.{Held}
use Rattle.s2ix_table_heavy.specs.Chunks.{IsMark, IsOfOneCell}
use Rattle.s2ix_table_heavy.proofs.MakingMarks.{AreFirstMarks, mark_more}
use Rattle.s2ix_table_heavy.proofs.marks.marks_of.Goals as goal

pub mark_of-requires-clause-some : goal.mark_of-requires-clause-some
mark_of-requires-clause-some c =
    let chunks = c.args.chunks.now in
    let k = c.loop-number.number in
    let within : k < length chunks = omega arith in
    let own = c.index-chunks-number.is ∙ get_or_default chunks k c.index-chunks-number.result [] within in
    subst (λ (list : Collection). 0 < length list) (sym own) (filled_at chunks k [] within c.requires.filled)

pub mark_of-requires-clause-one_cell : goal.mark_of-requires-clause-one_cell
mark_of-requires-clause-one_cell c =
    let chunks = c.args.chunks.now in
    let k = c.loop-number.number in
    let within : k < length chunks = omega arith in
    let own = c.index-chunks-number.is ∙ get_or_default chunks k c.index-chunks-number.result [] within in
    subst IsOfOneCell (sym own) (c.requires.one_cell _ (Contains-get_or chunks k [] within))

pub mark_of-requires-clause-within_limit : goal.mark_of-requires-clause-within_limit
mark_of-requires-clause-within_limit c =
    let chunks = c.args.chunks.now in
    let within : c.loop-number.number < length chunks = omega arith in
    let less = filled_count chunks c.requires.filled in
    let within_limit = c.requires.within_limit in
    omega arith

pub loop-number-preserved : goal.loop-number-preserved
loop-number-preserved c =
    let chunks = c.args.chunks.now in
    let k = c.loop-number.number in
    let within : k < length chunks = omega arith in
    let own = c.index-chunks-number.is ∙ get_or_default chunks k c.index-chunks-number.result [] within in
    let mark = subst (λ (list : Collection). IsMark list k c.mark_of.result) own c.mark_of.ensures in
    let pushed = subst (IsMark (get_or chunks k []) k) (sym {A = Held} c.new.ensures) mark in
    subst (AreFirstMarks chunks (k + 1)) (sym c.in_ok-push.ensures.items)
    (mark_more chunks k c.loop-number.marks.items c.new.result c.loop-number.invariant pushed)
