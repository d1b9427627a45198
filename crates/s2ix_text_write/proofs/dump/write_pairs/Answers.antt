-- One line more is gathered, or the sink failed; what is gathered at the end is put.
use Rattle.std.proofs.Common.{◌≡◌, List, ℕ, ◌++◌, ◌∷◌, [], Err, sym, ap, ◌∙◌, append_assoc, append-nil, subst}
use Rattle.std.specs.Prelude.{flat_map}
use Rattle.s2ix_bag_pairs.specs.declared.pair.Held.{Held}
use Rattle.s2ix_text_parts.specs.Puts.{Writes}
use Rattle.s2ix_text_write.specs.Dump.{pair_line}
use Rattle.s2ix_text_write.specs.Gathered.{IsGathered, gathered_in}
use Rattle.s2ix_text_write.proofs.Gathered.{put_out, yielded_fault, yielded_item}
use Rattle.s2ix_text_write.proofs.Placed.{pair_line_between}
use Rattle.s2ix_text_write.proofs.dump.write_pairs.Goals as goal

pub returns-in_err-write_parts : goal.returns-in_err-write_parts
returns-in_err-write_parts g c =
    yielded_fault pair_line c.args.bag.now.held c.loop-held.yielded c.next.new.self c.in-Some.held c.from_residual.result
    c.from_residual.ensures.0
    (ap (λ (hs : List Held). c.loop-held.yielded ++ hs) (sym c.in-Some.ensures.steps) ∙ c.loop-held.invariant.0) c.loop-held.invariant.1
    (subst (λ (line : List ℕ). Writes {A = Unit {0}} g.K.Sink c.loop-held.sink c.write_parts.new.sink (Err (record {}))
    (gathered_in c.loop-held.block ++ line)) (pair_line_between c.in-Some.held) c.in_err-write_parts.ensures)

pub loop-held-preserved : goal.loop-held-preserved
loop-held-preserved g c = (
  append_assoc c.loop-held.yielded (c.in-Some.held ∷ []) c.next.new.self
      ∙ ap (λ (hs : List Held). c.loop-held.yielded ++ hs) (sym c.in-Some.ensures.steps) ∙ c.loop-held.invariant.0,
  yielded_item pair_line c.loop-held.yielded c.in-Some.held c.loop-held.invariant.1
      (subst (λ (line : List ℕ). IsGathered g.K.Sink c.loop-held.sink c.write_parts.new.sink (gathered_in c.loop-held.block ++ line)
      (gathered_in c.write_parts.new.self)) (pair_line_between c.in-Some.held) c.in_ok-write_parts.ensures),
)

pub returns : goal.returns
returns g c =
    let all : c.loop-held.yielded ≡ c.args.bag.now.held =
    sym (append-nil c.loop-held.yielded) ∙ ap (λ (hs : List Held). c.loop-held.yielded ++ hs) (sym c.in-None.ensures.steps.0)
    ∙ c.loop-held.invariant.0 in
    subst (λ (hs : List Held). Writes g.K.Sink c.args.sink.now c.put.new.sink c.put.result (flat_map pair_line hs)) all
    (put_out c.loop-held.invariant.1 c.put.ensures)
