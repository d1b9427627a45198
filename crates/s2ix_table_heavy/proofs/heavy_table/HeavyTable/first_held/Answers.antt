use Rattle.std.proofs.Common.{[], ◌≡◌, ◌<◌, List, Some, Contains, drop, length, slice_get, get_or, sym, ◌∙◌, subst}
use Rattle.std.proofs.lemmas.List.{get_or_default}
use Rattle.std.proofs.lemmas.List.Elements.{Contains-get_or}
use Rattle.s2ix_bag_lists.specs.Faces.{all_of}
use Rattle.s2ix_bag_lists.proofs.Joins.{filled_at}
use Rattle.s2ix_bag_pairs.specs.Collection.{Collection}
use Rattle.s2ix_table_spans.proofs.Passing.{contains_at}
use Rattle.s2ix_table_heavy.proofs.ChangingChunk.{before_all_from}
use Rattle.s2ix_table_heavy.proofs.heavy_table.HeavyTable.first_held.Goals as goal

pub at-requires : goal.at-requires
at-requires c =
    let chunks = c.self.inside.chunks.items in
    let k = c.args.number in
    let lt : k < length chunks = subst (λ (cs : List Collection). k < length cs) (sym c.self.view_is) c.requires in
    let own = c.index.ensures ∙ get_or_default chunks k c.index.result.now [] lt in
    subst (λ (hs : Collection). 0 < length hs) (sym own) (filled_at chunks k [] lt c.self.invariant.are_chunks.filled)

pub returns-clause-one_cell : goal.returns-clause-one_cell
returns-clause-one_cell c = λ h i.
    let chunks = c.self.inside.chunks.items in
    let k = c.args.number in
    let lt : k < length chunks = subst (λ (cs : List Collection). k < length cs) (sym c.self.view_is) c.requires in
    let own = c.index.ensures ∙ get_or_default chunks k c.index.result.now [] lt in
    let at = subst (λ (hs : Collection). slice_get hs 0 ≡ Some c.at.result) own c.at.ensures in
    let held = subst (λ (cs : List Collection). Contains (get_or cs k []) h) (sym c.self.view_is) i in
    c.self.invariant.are_chunks.one_cell (get_or chunks k []) (Contains-get_or chunks k [] lt) h c.at.result held
    (contains_at (get_or chunks k []) 0 c.at.result at)

pub returns-clause-least : goal.returns-clause-least
returns-clause-least c = λ h i.
    let chunks = c.self.inside.chunks.items in
    let k = c.args.number in
    let lt : k < length chunks = subst (λ (cs : List Collection). k < length cs) (sym c.self.view_is) c.requires in
    let own = c.index.ensures ∙ get_or_default chunks k c.index.result.now [] lt in
    let at = subst (λ (hs : Collection). slice_get hs 0 ≡ Some c.at.result) own c.at.ensures in
    before_all_from chunks k c.at.result h c.self.invariant.are_chunks lt at
    (subst (λ (cs : List Collection). Contains (all_of (drop k cs)) h) (sym c.self.view_is) i)
