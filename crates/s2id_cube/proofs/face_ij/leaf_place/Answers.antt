use Rattle.std.proofs.Common.{◌+◌, ◌*◌, ◌/◌, ◌%◌, ◌^◌, arith}
use Rattle.s2id_cube.proofs.Groups.{IsPairMore, pair_none, pair_more, pair_orientation, pairs_all}
use Rattle.s2id_cube.proofs.LevelTables.{IsPlaceEntry}
use Rattle.s2id_cube.proofs.face_ij.leaf_place.Goals as goal
use Rattle.s2id_cube.proofs.face_ij.leaf_place.Goals.{After-place_entry-lower}

pub loop-pair-init : goal.loop-pair-init
loop-pair-init c = (pair_none _ _ _ _ _ _ c.requires.column c.requires.row (omega arith) (omega arith) (omega arith), omega arith)

pub place_entry-upper-requires-clause-start : goal.place_entry-upper-requires-clause-start
place_entry-upper-requires-clause-start c = let o = pair_orientation _ _ _ _ _ _ _ _ _ _ c.requires.face c.loop-pair.invariant.0 in omega arith

step : (c : After-place_entry-lower)
    → IsPairMore c.args.face c.args.i c.args.j c.weave-odd.result.0 c.weave-odd.result.1 c.loop-pair.pair c.loop-pair.places c.loop-pair.odd c.loop-pair.even c.place_entry-upper.result c.place_entry-lower.result
step c =
    let u = c.place_entry-upper.ensures in
    let l = c.place_entry-lower.ensures in
    let upper : IsPlaceEntry (c.loop-pair.start / 256) (c.loop-pair.odd / 2 ^ 24) c.place_entry-upper.result = record { steps = u.steps; corner = u.corner; next = u.next } in
    let lower : IsPlaceEntry (c.place_entry-upper.result / 2 ^ 54 / 256) (c.loop-pair.even / 2 ^ 24) c.place_entry-lower.result = record { steps = l.steps; corner = l.corner; next = l.next } in
    pair_more c.args.face c.args.i c.args.j c.weave-odd.result.0 c.weave-odd.result.1 c.loop-pair.pair c.loop-pair.places (c.loop-pair.start / 256) c.loop-pair.odd c.loop-pair.even c.place_entry-upper.result c.place_entry-lower.result c.requires.face c.requires.column c.requires.row (omega arith) (omega arith) c.weave-odd.ensures c.loop-pair.invariant.0 upper lower

pub overflow_add-places-in-loop-pair : goal.overflow_add-places-in-loop-pair
overflow_add-places-in-loop-pair c = let s = (step (goal.at.overflow_add-places-in-loop-pair c).After-place_entry-lower) in let f = s.fits in let g = s.fits_upper in omega arith

pub loop-pair-preserved : goal.loop-pair-preserved
loop-pair-preserved c =
    let next = c.place_entry-lower.ensures.next in
    ((step (goal.at.loop-pair-preserved c).After-place_entry-lower).more, omega arith)

pub returns : goal.returns
returns c =
    let f = c.requires.face in
    let p = pairs_all c.args.face c.args.i c.args.j c.weave-odd.result.0 c.weave-odd.result.1 c.loop-pair.pair c.loop-pair.places (c.loop-pair.start / 256) c.loop-pair.odd c.loop-pair.even (c.args.face * 2 ^ 60 % 2 ^ 64 + c.loop-pair.places % 2 ^ 62) c.requires.face (omega arith) (omega arith) c.loop-pair.invariant.0 in
    record { below = p.below; face = p.at_face; column = p.at_i; row = p.at_j }
