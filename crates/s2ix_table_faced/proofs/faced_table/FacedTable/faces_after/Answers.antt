-- Face by face.
use Rattle.std.proofs.Common.{ℕ, ◌+◌, ◌<◌, ◌++◌, length, take, drop, subst, sym, ap, ◌∙◌, arith}
use Rattle.std.proofs.lemmas.List.{length-set}
use Rattle.s2ix_bag_pairs.specs.Change.{changed}
use Rattle.s2ix_table_faced.specs.FirstParts.{of_face, parts_of_face}
use Rattle.s2ix_table_parts.specs.FaceSpans.{heavy_places_of, spans_of}
use Rattle.s2ix_table_faced.specs.Layout.{pairs_of}
use Rattle.s2ix_table_parts.specs.Parts.{with_parts}
use Rattle.s2ix_table_faced.proofs.FacePut.{layers_push}
use Rattle.s2ix_table_faced.proofs.LayersMade.{AreLayersMade, all_layers}
use Rattle.s2ix_table_parts.proofs.Put.{pushed_heavy_places, pushed_spans}
use Rattle.s2ix_table_faced.proofs.faced_table.FacedTable.faces_after.Goals as goal

pub loop-face-preserved : goal.loop-face-preserved
loop-face-preserved c =
    let t = c.args.self.now in
    let hs = changed (pairs_of t.parts.items t.heavy) c.args.change.now in
    let face : ℕ = c.loop-face.face in
    let lt : face < 6 = c.loop-face-test.true in
    let all = c.loop-face.all in
    let now = c.push.new.self in
    let i = c.loop-face.invariant in
    let new = c.in_ok-new.new in
    let made = spans_of new.parts.items in
    let is = c.in_ok-new.ensures in
    let before = c.face-before.ensures in
    let r = c.in_ok-push.ensures in
    let own = parts_of_face (spans_of t.parts.items) t.begins.faces face in
    let own_heavy_places = of_face (heavy_places_of t.parts.items) t.begins.faces face in
    let parts = pushed_spans all.parts.items now.parts.items new.parts.items c.face-before.result.parts.now new.first new.end r.parts ∙ ap (λ ts. spans_of all.parts.items ++ with_parts ts new.first new.end made) before.parts in
    let heavy_places = pushed_heavy_places all.parts.items now.parts.items new.parts.items c.face-before.result.parts.now new.first new.end r.parts
    ∙ ap (λ os. heavy_places_of all.parts.items ++ (take new.first os ++ (heavy_places_of new.parts.items ++ drop new.end os))) before.heavy_places in
    let next = layers_push hs all.heavy now.heavy (spans_of all.parts.items) own made (heavy_places_of all.parts.items) own_heavy_places (heavy_places_of new.parts.items) face new.face
    new.first new.end new.heavy i.0 lt i.1 is.face r.heavy is.new_face in (
      subst (λ ts. AreLayersMade hs now.heavy ts (heavy_places_of now.parts.items) (face + 1)) (sym parts)
          (subst (λ os. AreLayersMade hs now.heavy (spans_of all.parts.items ++ with_parts own new.first new.end made) os (face + 1)) (sym heavy_places) next),
      ap length r.heavy ∙ length-set all.heavy new.face new.heavy ∙ i.1,
    )

pub returns-clause-layout : goal.returns-clause-layout
returns-clause-layout c =
    let t = c.args.self.now in
    let hs = changed (pairs_of t.parts.items t.heavy) c.args.change.now in
    let all = c.loop-face.all in
    let i = c.loop-face.invariant in
    (all_layers hs all.heavy (spans_of all.parts.items) (heavy_places_of all.parts.items) c.loop-face.face i.0 (omega arith) i.1 c.requires.rises c.requires.within_limit).layout

pub returns-clause-pairs : goal.returns-clause-pairs
returns-clause-pairs c =
    let t = c.args.self.now in
    let hs = changed (pairs_of t.parts.items t.heavy) c.args.change.now in
    let all = c.loop-face.all in
    let i = c.loop-face.invariant in
    (all_layers hs all.heavy (spans_of all.parts.items) (heavy_places_of all.parts.items) c.loop-face.face i.0 (omega arith) i.1 c.requires.rises c.requires.within_limit).pairs
