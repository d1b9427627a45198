use Rattle.std.proofs.Common.{◌≡◌, arith}
use Rattle.s2id_core.specs.Path.{path_at, first_leaf}
use Rattle.s2id_core.proofs.Nested.{first_place, leaf_at_first, number_of_first, span}
use Rattle.s2id_core.proofs.cell_id.CellId.range_min.Goals as goal

pub at_place-requires-clause-within : goal.at_place-requires-clause-within
at_place-requires-clause-within c =
    let s = span c.args.self.raw c.args.self.valid in
    omega (arith, c.span_start.ensures, s.from)

pub returns : goal.returns
returns c =
    let n = c.args.self in
    let r = c.at_place.result in
    let first = first_place n.raw n.valid in
    let start = c.span_start.ensures in
    let place = c.at_place.ensures.place in
    let path : path_at r.raw ≡ first_leaf (path_at n.raw) = leaf_at_first r.raw n.raw r.valid n.valid c.at_place.ensures.level (omega arith) in
    record { path = path; number = number_of_first r.raw n.raw r.valid path }
