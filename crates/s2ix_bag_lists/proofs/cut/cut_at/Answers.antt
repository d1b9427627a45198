-- What the new part takes is no longer left.
use Rattle.std.proofs.Common.{◌≡◌, ◌∷◌, [], ◌++◌, List, take, drop, length, sym, ap, ap₂, ◌∙◌, subst, arith, append_assoc}
use Rattle.std.proofs.lemmas.List.{take-append-drop}
use Rattle.s2ix_bag_pairs.specs.Collection.{Collection}
use Rattle.s2ix_bag_lists.specs.Faces.{all_of}
use Rattle.s2ix_bag_lists.specs.Parts.{AreFilled}
use Rattle.s2ix_bag_lists.proofs.Joins.{all_push, filled_append}
use Rattle.s2ix_bag_lists.proofs.cut.cut_at.Goals as goal

pub loop-rest-preserved : goal.loop-rest-preserved
loop-rest-preserved c =
    let ps = c.loop-rest.parts.items in
    let rest = c.loop-rest.rest.now in
    let k = c.piece_len-len.result in
    let own : c.in_ok-with_filter.field-0 ≡ take k rest = c.in_ok-with_filter.ensures ∙ c.in_ok-from_slice.ensures.items ∙ c.split_at.ensures.front in
    let long : length c.in_ok-with_filter.field-0 ≡ k =
    ap (λ (x : Collection). length x) (c.in_ok-with_filter.ensures ∙ c.in_ok-from_slice.ensures.items) ∙ c.split_at.ensures.front_len in
    let new = c.in_ok-push.ensures.items in (
      ap₂ (λ (x : List Collection) (y : Collection). all_of x ++ y) new c.split_at.ensures.back
          ∙ ap (λ (x : Collection). x ++ drop k rest) (all_push ps c.in_ok-with_filter.field-0)
          ∙ append_assoc (all_of ps) c.in_ok-with_filter.field-0 (drop k rest)
          ∙ ap (λ (x : Collection). all_of ps ++ (x ++ drop k rest)) own
          ∙ ap (λ (x : Collection). all_of ps ++ x) (take-append-drop k rest)
          ∙ c.loop-rest.invariant.0,
      subst (λ (x : List Collection). AreFilled x) (sym new)
          (filled_append ps (c.in_ok-with_filter.field-0 ∷ []) c.loop-rest.invariant.1 (omega (arith, long, c.piece_len-len.ensures.some), tt)),
      omega (arith, c.split_at.ensures.back_len, c.split_at-in-loop-rest.ensures.back_len, c.loop-rest.invariant.2),
    )
