use Rattle.std.proofs.Common.{rules}
use Rattle.s2ix_table_walk.proofs.borders.part_known.Goals as goal

pub overflow_add-end : goal.overflow_add-end
overflow_add-end g c =
    let within_limit = (g.met.R.Reader.is_shown c.args.reader.now).are_borders.within_limit in
    let borders = c.requires.known.borders in
    search (rules, within_limit, borders)
