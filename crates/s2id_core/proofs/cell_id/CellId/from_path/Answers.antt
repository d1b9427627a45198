use Rattle.std.proofs.Common.{◌≡◌, ◌<◌, get_or, All, length, refl, ap, ◌∙◌, subst, arith}
use Rattle.std.proofs.lemmas.List.{take_all}
use Rattle.std.proofs.lemmas.List.Elements.{All-nil, All-more}
use Rattle.s2id_core.specs.Path.{IsPath, place_of}
use Rattle.s2id_core.proofs.Numbers.{place_below}
use Rattle.s2id_core.proofs.Ancestry.{place_of_face_alone, digits_fit, digits_more, path_by_digits}
use Rattle.s2id_core.proofs.cell_id.CellId.from_path.Goals as goal

pub loop-digit-init : goal.loop-digit-init
loop-digit-init c = (All-nil (λ d. d < 4), place_of_face_alone c.args.face)

pub overflow_mul-place : goal.overflow_mul-place
overflow_mul-place c =
    let l = c.loop-digit in
    let ds = c.args.digits.now in
    let fits = digits_fit c.args.face l.place 0 l.digit-index ds (omega arith) (omega arith) (omega arith) l.invariant.0 l.invariant.1 (omega arith) in
    omega arith

pub overflow_add-place : goal.overflow_add-place
overflow_add-place c =
    let l = c.loop-digit in
    let ds = c.args.digits.now in
    let fits = digits_fit c.args.face l.place (get_or ds l.digit-index 0) l.digit-index ds (omega arith) (omega arith) (omega arith) l.invariant.0 l.invariant.1 (omega arith) in
    omega arith

pub loop-digit-preserved : goal.loop-digit-preserved
loop-digit-preserved c =
    let l = c.loop-digit in
    let ds = c.args.digits.now in
    let within : l.digit-index < length ds = omega arith in
    (All-more (λ d. d < 4) ds l.digit-index 0 within l.invariant.0 (omega arith), digits_more c.args.face l.place (get_or ds l.digit-index 0) l.digit-index ds within l.invariant.1 refl)

pub at_place-requires-clause-within : goal.at_place-requires-clause-within
at_place-requires-clause-within c =
    let l = c.loop-digit in
    let ds = c.args.digits.now in
    let all = take_all l.digit-index ds (omega arith) in
    let path : IsPath (record { face = c.args.face; digits = ds }) = record { face_below = omega arith; at_most = omega arith; digits_below = subst (λ x. All (λ d. d < 4) x) all l.invariant.0 } in
    let place : l.place ≡ place_of (record { face = c.args.face; digits = ds }) = l.invariant.1 ∙ ap (λ x. place_of (record { face = c.args.face; digits = x })) all in
    let below = place_below (record { face = c.args.face; digits = ds }) path in
    omega arith

pub returns-clause-path : goal.returns-clause-path
returns-clause-path c =
    let l = c.loop-digit in
    let ds = c.args.digits.now in
    let r = c.at_place.result in
    let all = take_all l.digit-index ds (omega arith) in
    let path : IsPath (record { face = c.args.face; digits = ds }) = record { face_below = omega arith; at_most = omega arith; digits_below = subst (λ x. All (λ d. d < 4) x) all l.invariant.0 } in
    let place : l.place ≡ place_of (record { face = c.args.face; digits = ds }) = l.invariant.1 ∙ ap (λ x. place_of (record { face = c.args.face; digits = x })) all in
    path_by_digits r.raw c.args.face ds r.valid path c.at_place.ensures.level (c.at_place.ensures.place ∙ place)
