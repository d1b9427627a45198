use Rattle.std.proofs.Common.{◌≡◌, ◌∙◌, ap, arith, rules, sym}
use Rattle.std.proofs.lemmas.List.{take_all}
use Rattle.s2ix_bag_lists.specs.Faces.{all_of}
use Rattle.s2ix_table_parts.specs.FaceSpans.{spans_of}
use Rattle.s2ix_table_parts.specs.Layered.{goes_over}
use Rattle.s2ix_table_parts.specs.Layers.{entries_where, opposite}
use Rattle.s2ix_table_parts.specs.declared.change.layers_after.LayerEntries.{LayerEntries}
use Rattle.s2ix_table_parts.proofs.HeavyFirst.{one_fails, one_passes}
use Rattle.s2ix_table_parts.proofs.LayersChanged.{fails_from_false, fails_from_true}
use Rattle.s2ix_table_parts.proofs.change.face_after.Face.entries_by_layer.Goals as goal
use Rattle.s2ix_table_parts.proofs.change.face_after.Face.entries_by_layer.Goals.{then-goes_over+in_ok-push, else-goes_over+in_ok-push-2}

pub loop-entry-preserved : goal.loop-entry-preserved
loop-entry-preserved c =
    let f = c.args.self in
    let test = goes_over (spans_of f.parts.now) (all_of f.heavy.now) in
    let es = c.args.entries.now in
    let i = c.loop-entry.entry-index in
    let e = c.entry-item.result in
    let was = c.loop-entry.invariant in
    let lt = c.loop-entry-test.true in
    let over : c.in-Some.goes_over ≡ test e.pair.cell = search rules in
    elim c.if-goes_over.branch [
      | then-goes_over+in_ok-push w ↦
          (let t = sym over ∙ w.if-goes_over.true in (
            ap (λ (o : LayerEntries). o.heavy.items) w.own-is
                ∙ one_passes test es c.loop-entry.own.heavy.items w.push.new.self.items i e was.0 lt c.entry-item.is t w.in_ok-push.ensures.items,
            ap (λ (o : LayerEntries). o.light.items) w.own-is
                ∙ one_fails (opposite test) es c.loop-entry.own.light.items i e was.1 lt c.entry-item.is (fails_from_true test e.pair.cell t),
          ))
      | else-goes_over+in_ok-push-2 w ↦
          (let no = sym over ∙ w.if-goes_over.false in (
            ap (λ (o : LayerEntries). o.heavy.items) w.own-is
                ∙ one_fails test es c.loop-entry.own.heavy.items i e was.0 lt c.entry-item.is no,
            ap (λ (o : LayerEntries). o.light.items) w.own-is
                ∙ one_passes (opposite test) es c.loop-entry.own.light.items w.push-else-goes_over.new.self.items i e was.1 lt c.entry-item.is
                (fails_from_false test e.pair.cell no) w.in_ok-push-2.ensures.items,
          ))
    ]

pub returns-clause-heavy : goal.returns-clause-heavy
returns-clause-heavy c =
    c.loop-entry.invariant.0
    ∙ ap (entries_where (goes_over (spans_of c.args.self.parts.now) (all_of c.args.self.heavy.now)))
    (take_all c.loop-entry.entry-index c.args.entries.now (omega arith))

pub returns-clause-light : goal.returns-clause-light
returns-clause-light c =
    c.loop-entry.invariant.1
    ∙ ap (entries_where (opposite (goes_over (spans_of c.args.self.parts.now) (all_of c.args.self.heavy.now))))
    (take_all c.loop-entry.entry-index c.args.entries.now (omega arith))
