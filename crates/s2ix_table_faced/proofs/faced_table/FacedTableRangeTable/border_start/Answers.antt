use Rattle.std.proofs.Common.{◌<◌, length, sym, ◌∙◌, ap, arith}
use Rattle.s2ix_table_faced.specs.declared.offset.Offset.{Offset}
use Rattle.s2ix_table_parts.specs.FaceSpans.{spans_of}
use Rattle.s2ix_table_faced.proofs.Bordering.{part_begins}
use Rattle.s2ix_table_faced.proofs.Reading.{many_offsets, many_places, offset_read}
use Rattle.s2ix_table_faced.proofs.faced_table.FacedTableRangeTable.border_start.Goals as goal

pub index-requires : goal.index-requires
index-requires c =
    let t = c.args.self.now in
    let lt = c.requires in
    omega (arith, lt, many_places t.joined, many_offsets t.joined, t.offsets.ok.0)

pub returns : goal.returns
returns c =
    let t = c.args.self.now in
    let lt = c.requires in
    let listed : c.args.m < length (spans_of t.parts.items) = omega (arith, lt, many_places t.joined) in
    let read = offset_read c.args.m c.index.result.now t.joined listed c.index.ensures in
    ap (λ (o : Offset). o.start) read ∙ sym (part_begins c.args.m t.joined listed)
