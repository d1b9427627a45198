use Rattle.std.proofs.Common.{◌≡◌, ◌+◌, ◌-◌, ◌<◌, ℕ, List, [], ◌∷◌, ◌++◌, drop, get_or, set, length, sym, ap, ◌∙◌, subst, subst₂, arith}
use Rattle.std.proofs.lemmas.List.{length-set, drop-set, drop_more}
use Rattle.s2ix_bag_lists.specs.Faces.{all_of}
use Rattle.s2ix_bag_lists.specs.View.{lists_in}
use Rattle.s2ix_bag_pairs.specs.Collection.{Collection}
use Rattle.s2ix_table_parts.specs.Parts.{IsSeam, AreSeams}
use Rattle.s2ix_table_parts.proofs.Parting.{seam_before}
use Rattle.s2ix_table_parts.proofs.parts.seams_before.Goals as goal

pub loop-left-preserved : goal.loop-left-preserved
loop-left-preserved c =
    let held = lists_in c.args.held in
    let left = c.loop-left.left in
    let least = c.least_begin-least.result in
    let bs = c.loop-left.seams.items in
    let was = c.loop-left.invariant in
    let some = c.loop-left-test.true in
    let within : left - 1 < length held = (let le = was.0 in omega arith) in
    let next : left - 1 + 1 ≡ left = omega arith in
    let list = c.as_slice.result.now in
    let own : list ≡ get_or held (left - 1) [] = c.as_slice.ensures ∙ c.at.ensures in
    let lists : drop (left - 1) held ≡ list ∷ drop left held =
    drop_more held (left - 1) [] within
    ∙ ap (λ (xs : List Collection). get_or held (left - 1) [] ∷ xs) (ap (λ n. drop n held) next)
    ∙ ap (λ (x : Collection). x ∷ drop left held) (sym own) in
    let count = was.1 in
    let long : left - 1 < length bs = omega arith in
    let set_is : drop (left - 1) (set bs (left - 1) least) ≡ least ∷ drop left bs =
    drop-set bs (left - 1) least long ∙ ap (λ n. least ∷ drop n bs) next in
    let seam : IsSeam (list ++ all_of (drop left held)) c.args.to least =
    seam_before list (all_of (drop left held)) c.args.to c.loop-left.least least was.2 c.least_begin-least.ensures.odd
    c.least_begin-least.ensures.by c.least_begin-least.ensures.begins in (
      omega arith,
      length-set bs (left - 1) least ∙ count,
      subst (λ (ls : List Collection). IsSeam (all_of ls) c.args.to least) (sym lists) seam,
      subst₂ (λ (ls : List Collection) (xs : List ℕ). AreSeams ls xs c.args.to) (sym lists) (sym set_is) (seam, was.3),
    )
