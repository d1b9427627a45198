use Rattle.std.proofs.Common.{arith, sym, subst, ◌<◌, ◌*◌, ◌^◌}
use Rattle.s2id_core.proofs.Bits.{place_by_bits, place_at_bound, places_fit}
use Rattle.s2id_core.proofs.Numbers.{path_of_cell}
use Rattle.s2id_core.proofs.cell_id.CellId.place_at.Goals as goal

pub overflow_mul-result : goal.overflow_mul-result
overflow_mul-result c = omega (arith, (path_of_cell c.args.self.raw c.args.self.valid).at_most)

pub overflow_sub-result : goal.overflow_sub-result
overflow_sub-result c = omega (arith, (path_of_cell c.args.self.raw c.args.self.valid).at_most)

pub returns : goal.returns
returns c =
    let n = c.args.self.raw in
    let cell = c.args.self.valid in
    let k = c.args.level in
    let place = place_by_bits n k cell c.requires in
    let below = place_at_bound n k cell c.requires in
    let bound = subst (λ x. x < 6 * 4 ^ k) (sym place) below in
    record { place = place; bound = bound; fits = places_fit k _ (omega (arith, (path_of_cell n cell).at_most)) bound }
