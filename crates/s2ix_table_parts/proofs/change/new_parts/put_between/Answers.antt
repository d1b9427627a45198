use Rattle.std.proofs.Common.{◌-◌, length, ap, arith}
use Rattle.std.proofs.lemmas.List.{length-append}
use Rattle.s2ix_table_parts.proofs.Replaced.{length_turned, replaced}
use Rattle.s2ix_table_parts.proofs.change.new_parts.put_between.Goals as goal

pub returns : goal.returns
returns g c =
    let xs = c.args.list.now.items in
    let ys = c.args.new.items in
    let order = c.requires.order in
    let within = c.requires.within in
    let old_len = c.args.list.now.ok.0 in
    let new_len = c.args.new.ok.0 in
    let count = c.len-new_count.ensures in
    let more = ap length c.append_within.ensures in
    let all = length-append xs ys in
    let turned = length_turned c.append_within.new.list.items c.rotate_from.new.list.items c.args.first (c.args.end - c.args.first) (omega arith) c.rotate_from.ensures.items in
    let own = c.rotate_from.new.list.ok.0 in
    let len = c.len.ensures in
    let cut = c.truncate.ensures.len in
    let last = c.len-else-new_count-old_count.ensures in
    replaced xs ys c.append_within.new.list.items c.rotate_from.new.list.items c.truncate.new.self.items _ c.args.first c.args.end _ _
    c.requires.order c.requires.within c.append_within.ensures c.rotate_from.ensures.items c.truncate.ensures.items (omega arith) (omega arith)
    c.rotate_from-else-new_count-old_count.ensures.items
