use Rattle.std.proofs.Common.{ℕ, ◌+◌, arith, subst, sym, ◌∙◌, ap}
use Rattle.s2id_core.specs.CellId.{raw_of}
use Rattle.s2ix_table_walk.specs.Table.{IsFound}
use Rattle.s2ix_table_faced.specs.declared.offset.Offset.{Offset}
use Rattle.s2ix_table_faced.specs.Layout.{ranges_of}
use Rattle.s2ix_table_faced.proofs.Reading.{few_joined, many_offsets, offset_read, place_of}
use Rattle.s2ix_table_faced.proofs.faced_table.FacedTableRangeTable.find.Goals as goal

pub index-requires : goal.index-requires
index-requires c =
    let t = c.args.self.now in
    let listed = c.own_found-part.ensures.range.listed in
    omega (arith, listed, many_offsets t.joined, t.offsets.ok.0)

found : (c : goal.After-index)
    → IsFound (ranges_of c.args.self.now.parts.items c.args.self.now.heavy) (c.index.result.now.place + c.own_found-part.result.1) (raw_of c.args.leaf)
found c =
    let t = c.args.self.now in
    let part = c.own_found-part.result.0 in
    let listed = c.own_found-part.ensures.range.listed in
    let is = offset_read part c.index.result.now t.joined listed c.index.ensures in
    let place = place_of part 0 t.joined listed ∙ sym (ap (λ (o : Offset). o.place) is) in
    subst (λ (n : ℕ). IsFound (ranges_of t.parts.items t.heavy) (n + c.own_found-part.result.1) (raw_of c.args.leaf)) place
    c.own_found-part.ensures.found

pub overflow_add-result : goal.overflow_add-result
overflow_add-result c =
    let t = c.args.self.now in
    let within = (found c).within in
    let counted = t.joined.counted in
    let within_limit = few_joined t.joined in
    omega arith

pub returns-clause-within : goal.returns-clause-within
returns-clause-within c = (found c).within

pub returns-clause-start : goal.returns-clause-start
returns-clause-start c = (found c).start

pub returns-clause-limit : goal.returns-clause-limit
returns-clause-limit c = (found c).limit
