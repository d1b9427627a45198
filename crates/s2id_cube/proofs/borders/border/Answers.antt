use Rattle.std.proofs.Common.{◌≡◌, ◌+◌, ◌-◌, ◌^◌, length, ◌∙◌, ap, arith}
use Rattle.std.proofs.Math.Nat.{pow-le-pow_right}
use Rattle.s2id_core.specs.CellId.{path_of, level_of}
use Rattle.s2id_core.proofs.Numbers.{path_of_cell}
use Rattle.s2id_cube.specs.declared.face_ij.FaceIj.{FaceIj}
use Rattle.s2id_cube.proofs.Shared.{IsSquare-square_of, square_facts}
use Rattle.s2id_cube.proofs.Sorting.{rising, same_cells, border_cells, border_paths}
use Rattle.s2id_cube.proofs.borders.border.Goals as goal

pub cells_round-requires : goal.cells_round-requires
cells_round-requires c =
    let f = square_facts (path_of c.args.cell) (path_of_cell c.args.cell.raw c.args.cell.valid) c.to_face_ij.result c.to_face_ij.ensures in
    let level = ap (λ (s : FaceIj). s.level) c.to_face_ij.ensures ∙ (IsSquare-square_of (path_of c.args.cell) (path_of_cell c.args.cell.raw c.args.cell.valid)).level in
    let own = c.level-own.ensures.level in
    omega arith

pub returns-clause-rising : goal.returns-clause-rising
returns-clause-rising c =
    rising c.sort_unstable.new.self.items c.dedup.new.self.items c.sort_unstable.ensures.sorted c.dedup.ensures.filtered

pub returns-clause-cells : goal.returns-clause-cells
returns-clause-cells c =
    let own = c.level-own.ensures.level in
    let above : c.args.level ≡ length (path_of c.args.cell).digits + (c.args.level - c.level-own.result) = omega arith in
    border_cells c.args.cell c.to_face_ij.result (c.args.level - c.level-own.result) c.args.level c.in_ok-cells.cells.items c.dedup.new.self.items c.to_face_ij.ensures above (omega arith) c.in_ok-cells.ensures.cells (same_cells c.in_ok-cells.cells.items c.sort_unstable.new.self.items c.dedup.new.self.items c.sort_unstable.ensures.permutation c.dedup.ensures.filtered)

pub returns-clause-complete : goal.returns-clause-complete
returns-clause-complete c =
    border_paths (path_of c.args.cell) c.args.level c.dedup.new.self.items (returns-clause-cells c)

pub returns-clause-along_sides : goal.returns-clause-along_sides
returns-clause-along_sides c =
    let own = c.level-own.ensures.level in
    let depth : c.args.level - c.level-own.result ≡ c.args.level - level_of c.args.cell = ap (λ x. c.args.level - x) own in
    let wide = ap (λ x. 2 ^ x) depth in
    let all = c.in_ok-cells.ensures.length in
    let sorted = c.sort_unstable.ensures.len in
    let kept = c.dedup.ensures.bound in
    omega arith

pub returns-clause-at_most : goal.returns-clause-at_most
returns-clause-at_most c =
    let most = pow-le-pow_right {n = 2} (omega arith) {i = c.args.level - c.level-own.result} {j = 8} (omega arith) in
    let all = c.in_ok-cells.ensures.length in
    let sorted = c.sort_unstable.ensures.len in
    let kept = c.dedup.ensures.bound in
    omega arith
