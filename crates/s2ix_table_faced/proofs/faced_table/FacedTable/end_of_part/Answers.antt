use Rattle.std.proofs.Common.{◌+◌, ◌<◌, length, ◌∙◌, arith}
use Rattle.std.proofs.lemmas.List.{get_or_default}
use Rattle.s2ix_table_faced.proofs.FirstParts.{end_of, length_starts}
use Rattle.s2ix_table_faced.proofs.faced_table.FacedTable.end_of_part.Goals as goal

pub returns-then-part-len : goal.returns-then-part-len
returns-then-part-len c =
    let t = c.args.self.now in
    let starts = t.begins.starts in
    let many = length_starts t.joined in
    let own = starts.ok.0 in
    let less : c.args.part + 1 < length starts.items = omega (arith, c.if-part-len.true, c.len.ensures) in
    c.index.ensures ∙ get_or_default starts.items (c.args.part + 1) c.index.result.now 0 less
    ∙ (end_of c.args.part t.joined c.requires).0 (omega arith)

pub returns-else-part-len : goal.returns-else-part-len
returns-else-part-len c =
    let t = c.args.self.now in
    let many = length_starts t.joined in
    let own = t.begins.starts.ok.0 in
    let lt = c.requires in
    (end_of c.args.part t.joined c.requires).1 (omega (arith, c.if-part-len.false, c.len.ensures))
