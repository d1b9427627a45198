use Rattle.std.proofs.Common.{◌*◌, ◌%◌, ◌^◌, refl, rules}
use Rattle.s2id_cube.proofs.Turns.{row_counted, sum_fits}
use Rattle.s2id_cube.proofs.tile.row_at.Goals as goal

pub overflow_add-swapped-2 : goal.overflow_add-swapped-2
overflow_add-swapped-2 c =
    let fits = sum_fits c.args.level c.args.place (1 * 2 ^ (2 * c.args.level) % 2 ^ 64) (2 ^ (2 * c.args.level)) c.requires.level c.requires.place in
    search (rules, fits)

pub returns : goal.returns
returns c = row_counted c.args.level c.args.place _ _ c.requires.level refl refl
