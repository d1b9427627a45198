use Rattle.std.proofs.Common.{arith}
use Rattle.s2id_core.specs.CellId.{path_of}
use Rattle.s2id_cube.proofs.Round.{finer_at, over_found}
use Rattle.s2id_cube.proofs.borders.over_side.Goals as goal

pub overflow_add-column : goal.overflow_add-column
overflow_add-column c =
    let f = finer_at c.args.square c.args.depth c.args.side c.args.along c.on_side-i.result.0 c.on_side-i.result.1 c.requires.level c.requires.column c.requires.row c.requires.side c.requires.along c.on_side-i.ensures.column c.on_side-i.ensures.row in
    omega arith

pub overflow_add-row : goal.overflow_add-row
overflow_add-row c =
    let f = finer_at c.args.square c.args.depth c.args.side c.args.along c.on_side-i.result.0 c.on_side-i.result.1 c.requires.level c.requires.column c.requires.row c.requires.side c.requires.along c.on_side-i.ensures.column c.on_side-i.ensures.row in
    omega arith

pub neighbor-requires : goal.neighbor-requires
neighbor-requires c =
    let f = finer_at c.args.square c.args.depth c.args.side c.args.along c.on_side-i.result.0 c.on_side-i.result.1 c.requires.level c.requires.column c.requires.row c.requires.side c.requires.along c.on_side-i.ensures.column c.on_side-i.ensures.row in
    omega arith

pub returns : goal.returns
returns c =
    over_found c.args.square c.args.depth c.args.side c.args.along c.on_side-i.result.0 c.on_side-i.result.1 (path_of c.neighbor.result) (finer_at c.args.square c.args.depth c.args.side c.args.along c.on_side-i.result.0 c.on_side-i.result.1 c.requires.level c.requires.column c.requires.row c.requires.side c.requires.along c.on_side-i.ensures.column c.on_side-i.ensures.row) c.neighbor.ensures.level c.neighbor.ensures.beside
