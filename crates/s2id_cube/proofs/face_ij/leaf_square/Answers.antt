use Rattle.std.proofs.Common.{◌/◌, ◌%◌, ◌^◌, refl, arith}
use Rattle.s2id_cube.proofs.LevelTables.{IsSquareEntry}
use Rattle.s2id_cube.proofs.Groups.{IsStepDown, down_none, down_orientation, down_more, leaf_written}
use Rattle.s2id_cube.proofs.face_ij.leaf_square.Goals as goal
use Rattle.s2id_cube.proofs.face_ij.leaf_square.Goals.{After-square_entry-entry}

pub loop-group-init : goal.loop-group-init
loop-group-init c = let h = c.requires in (down_none (c.args.place / 2 ^ 60) (c.args.place % 2 ^ 60) _ (omega arith) (omega arith), omega arith)

pub square_entry-entry-requires-clause-start : goal.square_entry-entry-requires-clause-start
square_entry-entry-requires-clause-start c =
    let h = c.requires in
    let o = down_orientation (c.args.place / 2 ^ 60) (c.args.place % 2 ^ 60) c.loop-group.group c.loop-group.rest c.loop-group.square (c.loop-group.start / 256) (omega arith) (omega arith) c.loop-group.invariant.0 in
    omega arith

step : (c : After-square_entry-entry)
    → IsStepDown (c.args.place / 2 ^ 60) (c.args.place % 2 ^ 60) c.loop-group.group c.loop-group.rest c.loop-group.square c.square_entry-entry.result
step c =
    let h = c.requires in
    let e = c.square_entry-entry.ensures in
    let is : IsSquareEntry (c.loop-group.start / 256) (c.loop-group.rest / 2 ^ 56) c.square_entry-entry.result = record { steps = e.steps; column = e.column; row = e.row; next = e.next } in
    down_more (c.args.place / 2 ^ 60) (c.args.place % 2 ^ 60) c.loop-group.group c.loop-group.rest c.loop-group.square (c.loop-group.start / 256) c.square_entry-entry.result (omega arith) (omega arith) (omega arith) (omega arith) c.loop-group.invariant.0 is

pub overflow_add-square : goal.overflow_add-square
overflow_add-square c = let s = (step (goal.at.overflow_add-square c).After-square_entry-entry).fits in omega arith

pub loop-group-preserved : goal.loop-group-preserved
loop-group-preserved c =
    let next = c.square_entry-entry.ensures.next in
    let down = (step (goal.at.loop-group-preserved c).After-square_entry-entry).down in (down, omega arith)

pub overflow_cast-result-3 : goal.overflow_cast-result-3
overflow_cast-result-3 c =
    let h = c.requires in
    let o = down_orientation (c.args.place / 2 ^ 60) (c.args.place % 2 ^ 60) c.loop-group.group c.loop-group.rest c.loop-group.square (c.loop-group.start / 256) (omega arith) (omega arith) c.loop-group.invariant.0 in
    omega arith

pub returns : goal.returns
returns c =
    leaf_written c.args.place c.loop-group.rest c.loop-group.square (c.loop-group.start / 256) c.loop-group.group c.requires (omega arith) (omega arith) c.loop-group.invariant.0 _ refl
