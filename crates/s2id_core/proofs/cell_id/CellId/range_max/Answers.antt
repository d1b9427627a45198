use Rattle.std.proofs.Common.{◌≡◌, arith}
use Rattle.s2id_core.specs.Path.{path_at, last_leaf}
use Rattle.s2id_core.proofs.Nested.{last_place, leaf_at_last, number_of_last, span}
use Rattle.s2id_core.proofs.cell_id.CellId.range_max.Goals as goal

pub overflow_sub-span_end : goal.overflow_sub-span_end
overflow_sub-span_end c = omega (arith, c.span_end.ensures, (span c.args.self.raw c.args.self.valid).to)

pub at_place-requires-clause-within : goal.at_place-requires-clause-within
at_place-requires-clause-within c =
    let s = span c.args.self.raw c.args.self.valid in
    omega (arith, c.span_end.ensures, s.ends)

pub returns : goal.returns
returns c =
    let n = c.args.self in
    let r = c.at_place.result in
    let last = last_place n.raw n.valid in
    let end = c.span_end.ensures in
    let to = (span n.raw n.valid).to in
    let place = c.at_place.ensures.place in
    let path : path_at r.raw ≡ last_leaf (path_at n.raw) = leaf_at_last r.raw n.raw r.valid n.valid c.at_place.ensures.level (omega arith) in
    record { path = path; number = number_of_last r.raw n.raw r.valid path }
