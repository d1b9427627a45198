use Rattle.std.proofs.Common.{◌≡◌, ◌+◌, ◌*◌, ap, ◌∙◌, arith}
use Rattle.s2id_core.specs.Path.{place_of, path_at}
use Rattle.s2id_core.proofs.Ancestry.{child_by_place, child_place_below, own_place}
use Rattle.s2id_core.proofs.Bits.{places_fit}
use Rattle.s2id_core.proofs.cell_id.CellId.child.Goals as goal

pub overflow_mul-place_at : goal.overflow_mul-place_at
overflow_mul-place_at c =
    let level = c.level-level.result in
    let more = child_place_below level c.place_at.result 0 c.place_at.ensures.bound (omega arith) in
    let fits = places_fit (level + 1) (4 * c.place_at.result + 0) (omega arith) more in
    omega arith

pub overflow_add-place_at : goal.overflow_add-place_at
overflow_add-place_at c =
    let level = c.level-level.result in
    let more = child_place_below level c.place_at.result c.args.position c.place_at.ensures.bound (omega arith) in
    let fits = places_fit (level + 1) (4 * c.place_at.result + c.args.position) (omega arith) more in
    omega arith

pub returns-else-position-gt3-clause-path : goal.returns-else-position-gt3-clause-path
returns-else-position-gt3-clause-path c =
    let n = c.args.self in
    let r = c.at_place.result in
    let level = c.level-level.ensures.level in
    let place : c.place_at.result ≡ place_of (path_at n.raw) = own_place n.raw _ c.place_at.result level c.place_at.ensures.place in
    child_by_place r.raw n.raw c.args.position r.valid n.valid (omega arith) (omega arith) (c.at_place.ensures.level ∙ ap (λ k. k + 1) level) (c.at_place.ensures.place ∙ ap (λ m. 4 * m + c.args.position) place)
