-- The place is within the part that is found.
use Rattle.std.proofs.Common.{◌<◌, length, List, ℕ, get_or, ap, ◌∙◌, subst, arith}
use Rattle.std.proofs.lemmas.List.{get_or_default}
use Rattle.s2ix_bag_pairs.specs.Collection.{Collection}
use Rattle.s2ix_bag_lists.specs.Faces.{all_of}
use Rattle.s2ix_bag_lists.specs.Parts.{IsPartAt}
use Rattle.s2ix_bag_lists.proofs.Places.{starts_is, starts_long, in_part, part_found}
use Rattle.s2ix_bag_lists.proofs.part_list.PartList.part_at.Goals as goal

pub last_start-part-requires-clause-some : goal.last_start-part-requires-clause-some
last_start-part-requires-clause-some c =
    let ps = c.self.inside.parts in
    omega (
      arith,
      c.self.invariant.some,
      starts_long c.self.inside.starts.items ps c.self.invariant.counted,
      ap (λ (x : List ℕ). length x) c.deref.ensures.value,
    )

pub last_start-part-requires-clause-begins : goal.last_start-part-requires-clause-begins
last_start-part-requires-clause-begins c =
    let ps = c.self.inside.parts in
    let start = ap (λ (x : List ℕ). get_or x 0 0) c.deref.ensures.value
    ∙ starts_is c.self.inside.starts.items ps 0 c.self.invariant.counted c.self.invariant.some in
    omega (arith, start)

pub at-requires : goal.at-requires
at-requires c =
    let ps = c.self.inside.parts in
    omega (
      arith,
      starts_long c.self.inside.starts.items ps c.self.invariant.counted,
      ap (λ (x : List ℕ). length x) c.deref.ensures.value,
      c.last_start-part.ensures.within,
    )

pub returns : goal.returns
returns c =
    let ps = c.self.inside.parts in
    let starts = c.self.inside.starts.items in
    let i = c.last_start-part.result in
    let found = rw c.deref.ensures.value at c.last_start-part.ensures in
    let short : c.args.place < length (all_of ps) = omega (arith, c.requires, ap (λ (x : Collection). length x) c.self.view_is) in
    let is = in_part starts ps c.args.place i c.self.invariant.counted short found.within found.begins found.ends in
    let own = c.at.ensures in
    let start = c.index.ensures ∙ get_or_default starts i c.index.result.now 0 found.within
    ∙ starts_is starts ps i c.self.invariant.counted is.within in
    subst (λ (hs : Collection). IsPartAt c.args.place hs c.index.result.now c.at.result.now) c.self.view_is
    (part_found ps c.args.place i c.index.result.now c.at.result.now is start own)
