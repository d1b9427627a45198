use Rattle.std.proofs.Common.{◌≡◌, ◌<◌, [], List, Some, length, slice_get, sym, ◌∙◌, arith, subst, ◌≤◌}
use Rattle.std.proofs.lemmas.Bool.{ltb-true}
use Rattle.std.proofs.lemmas.List.{get_or_default}
use Rattle.s2ix_table_heavy.specs.Chunks.{IsFirstFrom}
use Rattle.s2id_core.proofs.Cells.{cells_decided, same_cell}
use Rattle.s2ix_bag_lists.specs.Faces.{all_of}
use Rattle.s2ix_bag_lists.proofs.Joins.{filled_at}
use Rattle.s2ix_bag_pairs.specs.Collection.{Collection}
use Rattle.s2ix_table_spans.specs.Blocks.{HoldsCell}
use Rattle.s2ix_table_heavy.proofs.CellSearch.{holds_cell, found_cell}
use Rattle.s2ix_table_heavy.proofs.heavy_table.HeavyTable.has_cell.Goals as goal

pub at-requires : goal.at-requires
at-requires c =
    let chunks = c.self.inside.chunks.items in
    let k = c.first_from-k.result in
    let lt : k < length chunks = let less = c.if-k-len.true in let len = c.len.ensures in omega arith in
    let own = c.index.ensures ∙ get_or_default chunks k c.index.result.now [] lt in
    subst (λ (list : Collection). 0 < length list) (sym own) (filled_at chunks k [] lt c.self.invariant.are_chunks.filled)

pub returns-then-k-len : goal.returns-then-k-len
returns-then-k-len c =
    let chunks = c.self.inside.chunks.items in
    let k = c.first_from-k.result in
    let cell = c.args.cell in
    let lt : k < length chunks = let less = c.if-k-len.true in let len = c.len.ensures in omega arith in
    let own = c.index.ensures ∙ get_or_default chunks k c.index.result.now [] lt in
    let is = subst (λ (list : Collection). slice_get list 0 ≡ Some c.at.result) own c.at.ensures in
    let first = subst (λ (cs : List Collection). IsFirstFrom cs cell k) (sym c.self.view_is) c.first_from-k.ensures in
    let decided = cells_decided c.at.result.pair.cell cell in (
      λ t.
          subst (λ (cs : List Collection). HoldsCell (all_of cs) cell) c.self.view_is
          (holds_cell chunks cell k c.at.result is (decided.0 (sym c.eq.ensures ∙ t))),
      λ holds.
          let own_holds = subst (λ (cs : List Collection). HoldsCell (all_of cs) cell) (sym c.self.view_is) holds in
          let found = found_cell chunks cell k c.self.invariant.are_chunks first own_holds in
          c.eq.ensures ∙ decided.1 (same_cell c.at.result.pair.cell cell (found.1 c.at.result is)),
    )

pub returns-else-k-len : goal.returns-else-k-len
returns-else-k-len c =
    let chunks = c.self.inside.chunks.items in
    let k = c.first_from-k.result in
    let cell = c.args.cell in
    let ge : length chunks ≤ k = let more = c.if-k-len.false in let len = c.len.ensures in omega arith in
    let first = subst (λ (cs : List Collection). IsFirstFrom cs cell k) (sym c.self.view_is) c.first_from-k.ensures in (
      λ t. absurd (let lt = ltb-true c.first_from-k.result c.len.result t in let len = c.len.ensures in omega arith),
      λ holds.
          let own_holds = subst (λ (cs : List Collection). HoldsCell (all_of cs) cell) (sym c.self.view_is) holds in
          let found = found_cell chunks cell k c.self.invariant.are_chunks first own_holds in
          absurd (let lt = found.0 in omega arith),
    )
