use Rattle.std.proofs.Common.{[], ◌≡◌, ℕ, ◌+◌, ◌-◌, ◌<◌, List, Some, Contains, take, length, slice_get, sym, ap, ◌∙◌, arith, subst}
use Rattle.std.proofs.lemmas.List.{get_or_default}
use Rattle.s2ix_bag_lists.specs.Faces.{all_of}
use Rattle.s2ix_bag_lists.proofs.Joins.{filled_at}
use Rattle.s2ix_bag_pairs.specs.Collection.{Collection}
use Rattle.s2ix_table_heavy.proofs.ChangingChunk.{after_all}
use Rattle.s2ix_table_heavy.proofs.heavy_table.HeavyTable.last_held.Goals as goal

pub overflow_sub-as_slice : goal.overflow_sub-as_slice
overflow_sub-as_slice c =
    let chunks = c.self.inside.chunks.items in
    let k = c.args.number in
    let lt : k < length chunks = subst (λ (cs : List Collection). k < length cs) (sym c.self.view_is) c.requires in
    let own = c.as_slice.ensures ∙ c.index-own.ensures ∙ get_or_default chunks k c.index-own.result.now [] lt in
    let some = filled_at chunks k [] lt c.self.invariant.are_chunks.filled in
    let long = ap (λ (hs : Collection). length hs) own in
    omega arith

pub at-requires : goal.at-requires
at-requires c =
    let chunks = c.self.inside.chunks.items in
    let k = c.args.number in
    let lt : k < length chunks = subst (λ (cs : List Collection). k < length cs) (sym c.self.view_is) c.requires in
    let own = c.as_slice.ensures ∙ c.index-own.ensures ∙ get_or_default chunks k c.index-own.result.now [] lt in
    let some = filled_at chunks k [] lt c.self.invariant.are_chunks.filled in
    let long = ap (λ (hs : Collection). length hs) own in
    let same = ap (λ (hs : Collection). length hs) c.as_slice.ensures in
    omega arith

pub returns : goal.returns
returns c = λ h i.
    let chunks = c.self.inside.chunks.items in
    let k = c.args.number in
    let lt : k < length chunks = subst (λ (cs : List Collection). k < length cs) (sym c.self.view_is) c.requires in
    let own = c.index-own.ensures ∙ get_or_default chunks k c.index-own.result.now [] lt in
    let n : ℕ = length c.as_slice.result.now - 1 in
    let long = ap (λ (hs : Collection). length hs) (c.as_slice.ensures ∙ own) in
    let at = subst (λ (hs : Collection). slice_get hs n ≡ Some c.at.result) own c.at.ensures in
    after_all chunks k n c.at.result h c.self.invariant.are_chunks lt at (omega arith)
    (subst (λ (cs : List Collection). Contains (all_of (take (k + 1) cs)) h) (sym c.self.view_is) i)
