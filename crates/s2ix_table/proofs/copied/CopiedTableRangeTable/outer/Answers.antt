use Rattle.std.proofs.Common.{◌≡◌, ◌+◌, length, drop, sym, ap, ◌∙◌, rules, arith}
use Rattle.std.proofs.lemmas.List.{drop-drop, drop_all, length-drop}
use Rattle.s2ix_table.specs.declared.copied.CopiedPlace.{CopiedPlace}
use Rattle.s2ix_table_walk.specs.Table.{range_at}
use Rattle.s2ix_table.specs.Copied.{ranges_of}
use Rattle.s2ix_table.proofs.Building.{contents_of_place, place_in_ranges}
use Rattle.s2ix_table_walk.proofs.Leads.{leads_some, leads_none}
use Rattle.s2ix_table.proofs.copied.CopiedTableRangeTable.outer.Goals as goal
use Rattle.s2ix_table.proofs.copied.CopiedTableRangeTable.outer.Goals.{After-len-len}

-- as many pairs as the range of the place has
count : (c : goal.After-len-len) → length (range_at (ranges_of c.args.self.now.ranges.items) c.args.place.range).contents ≡ c.len-len.result
count c =
    let ranges = c.args.self.now.ranges.items in
    let place = c.args.place in
    let is = ap length
    (contents_of_place ranges place.range c.index.result.now (place_in_ranges ranges place.range place.at c.requires) c.index.ensures) in
    let len : c.len-len.result ≡ length c.index.result.now.contents.items = search rules in
    is ∙ sym len

pub returns-then-place-len : goal.returns-then-place-len
returns-then-place-len c =
    let ranges = c.args.self.now.ranges.items in
    let place = c.args.place in
    let cs = (range_at (ranges_of ranges) place.range).contents in
    let step = drop-drop 1 place.at cs in
    let n = count (goal.at.returns-then-place-len c).After-len-len in
    leads_some (λ (p : CopiedPlace). drop p.at (range_at (ranges_of ranges) p.range).contents)
    (record { range = place.range; at = place.at + 1 }) (drop 1 (drop place.at cs)) (sym step)
    (omega (arith, ap length step, length-drop (place.at + 1) cs, c.if-place-len.true))

pub returns-else-place-len : goal.returns-else-place-len
returns-else-place-len c =
    let ranges = c.args.self.now.ranges.items in
    let place = c.args.place in
    let cs = (range_at (ranges_of ranges) place.range).contents in
    let n = count (goal.at.returns-else-place-len c).After-len-len in
    leads_none (λ (p : CopiedPlace). drop p.at (range_at (ranges_of ranges) p.range).contents) (drop 1 (drop place.at cs))
    (drop-drop 1 place.at cs ∙ drop_all (place.at + 1) cs (omega (arith, c.if-place-len.false)))
