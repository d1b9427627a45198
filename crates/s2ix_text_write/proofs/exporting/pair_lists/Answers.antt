-- The list of this pair comes after those of the pairs before it.
use Rattle.std.proofs.Common.{List, ◌++◌, ◌∷◌, [], sym, ap, ap₂, ◌∙◌, append_assoc, append-nil, map}
use Rattle.std.proofs.lemmas.List.{map_push}
use Rattle.serde_json.specs.View.{view}
use Rattle.s2ix_bag_pairs.specs.declared.pair.Held.{Held}
use Rattle.s2ix_text_write.specs.Values.{pair_value}
use Rattle.s2ix_text_write.proofs.exporting.pair_lists.Goals as goal

pub loop-held-preserved : goal.loop-held-preserved
loop-held-preserved c = (
  append_assoc c.loop-held.yielded (c.in-Some.held ∷ []) c.next.new.self
      ∙ ap (λ (hs : List Held). c.loop-held.yielded ++ hs) (sym c.in-Some.ensures.steps) ∙ c.loop-held.invariant.0,
  ap (map view) c.in_ok-push.ensures.items ∙ map_push view c.loop-held.lists.items c.in_ok-pair_list.field-0
      ∙ ap₂ (λ xs x. xs ++ x ∷ []) c.loop-held.invariant.1 c.in_ok-pair_list.ensures
      ∙ sym (map_push pair_value c.loop-held.yielded c.in-Some.held),
)

pub returns : goal.returns
returns c =
    c.loop-held.invariant.1
    ∙ ap (map pair_value)
    (sym (append-nil c.loop-held.yielded) ∙ ap (λ (hs : List Held). c.loop-held.yielded ++ hs) (sym c.in-None.ensures.steps.0)
    ∙ c.loop-held.invariant.0)
