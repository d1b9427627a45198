-- New parts are put into the place of others.
use Rattle.s2ix_table_parts.proofs.Replaced.{replaced_in}
use Rattle.s2ix_table_parts.proofs.change.new_parts.NewFace.with_parts.Goals as goal

pub returns-clause-parts : goal.returns-clause-parts
returns-clause-parts c =
    let new = c.args.light in
    replaced_in c.args.self.parts.items c.reserve.new.self.items c.put_between.new.list.items new.parts.items new.first new.end c.reserve.ensures.items
    c.put_between.ensures
