-- Face by face.
use Rattle.std.proofs.Common.{ℕ, ◌+◌, ◌<◌, ◌++◌, [], length, refl, subst, sym, ap, ◌∙◌, arith}
use Rattle.std.proofs.lemmas.List.{length-set}
use Rattle.s2ix_bag_pairs.specs.Collection.{IsCollection}
use Rattle.s2ix_table_kept.specs.Faces.{held_on}
use Rattle.s2ix_table_parts.specs.FaceSpans.{AreOnFace, heavy_places_of, spans_of}
use Rattle.s2ix_table_parts.specs.Parts.{with_parts}
use Rattle.s2ix_table_faced.proofs.AllFaces.{held_few, held_rises, lie_on}
use Rattle.s2ix_table_faced.proofs.FacePut.{layers_push}
use Rattle.s2ix_table_parts.proofs.FaceWith.{all_given}
use Rattle.s2ix_table_faced.proofs.LayersMade.{AreLayersMade, all_layers}
use Rattle.s2ix_table_parts.proofs.Put.{pushed_heavy_places, pushed_spans}
use Rattle.s2ix_table_faced.proofs.all_faces.read_all_faces.Goals as goal

pub all_anew-requires-clause-rises : goal.all_anew-requires-clause-rises
all_anew-requires-clause-rises g c =
    let hs = g.B.PairReader.shown c.args.reader.now in
    let list = c.in_ok-list.ensures.pairs ∙ ap (held_on c.loop-face.face) c.loop-face.invariant.2 in
    subst IsCollection (sym list) (held_rises c.loop-face.face 0 hs (g.met.B.PairReader.is_read c.args.reader.now).is_collection)

pub all_anew-requires-clause-within_limit : goal.all_anew-requires-clause-within_limit
all_anew-requires-clause-within_limit g c =
    let hs = g.B.PairReader.shown c.args.reader.now in
    let list = c.in_ok-list.ensures.pairs ∙ ap (held_on c.loop-face.face) c.loop-face.invariant.2 in
    let within_limit = (g.met.B.PairReader.is_read c.args.reader.now).within_limit in
    let own = held_few c.loop-face.face hs in
    omega (arith, within_limit, own, ap length list)

pub all_anew-requires-clause-on_face : goal.all_anew-requires-clause-on_face
all_anew-requires-clause-on_face g c =
    let hs = g.B.PairReader.shown c.args.reader.now in
    let list = c.in_ok-list.ensures.pairs ∙ ap (held_on c.loop-face.face) c.loop-face.invariant.2 in
    subst (AreOnFace c.loop-face.face) (sym list) (lie_on c.loop-face.face hs)

pub loop-face-preserved : goal.loop-face-preserved
loop-face-preserved g c =
    let hs = g.B.PairReader.shown c.args.reader.now in
    let face : ℕ = c.loop-face.face in
    let lt : face < 6 = c.loop-face-test.true in
    let all = c.loop-face.all in
    let now = c.push.new.self in
    let i = c.loop-face.invariant in
    let list = c.in_ok-list.ensures.pairs ∙ ap (held_on face) i.2 in
    let new = c.in_ok-new.new in
    let made = spans_of new.parts.items in
    let is = c.in_ok-new.ensures in
    let r = c.in_ok-push.ensures in
    let with = all_given face 0 new.first new.end (held_on face hs) [] made [] (heavy_places_of new.parts.items) new.heavy is.first is.end refl refl is.layered
    (is.pairs ∙ list) in
    let next = layers_push hs all.heavy now.heavy (spans_of all.parts.items) [] made (heavy_places_of all.parts.items) [] (heavy_places_of new.parts.items) face new.face
    new.first new.end new.heavy i.0 lt i.1 is.face r.heavy with in (
      subst (λ ts. AreLayersMade hs now.heavy ts (heavy_places_of now.parts.items) (face + 1)) (sym (pushed_spans all.parts.items now.parts.items new.parts.items [] new.first new.end r.parts))
          (subst (λ os. AreLayersMade hs now.heavy (spans_of all.parts.items ++ with_parts [] new.first new.end made) os (face + 1)) (sym (pushed_heavy_places all.parts.items now.parts.items new.parts.items [] new.first new.end r.parts)) next),
      ap length r.heavy ∙ length-set all.heavy new.face new.heavy ∙ i.1,
      c.in_ok-list.ensures.same ∙ i.2,
    )

pub returns-clause-layout : goal.returns-clause-layout
returns-clause-layout g c =
    let hs = g.B.PairReader.shown c.args.reader.now in
    let is = g.met.B.PairReader.is_read c.args.reader.now in
    let all = c.loop-face.all in
    let i = c.loop-face.invariant in
    (all_layers hs all.heavy (spans_of all.parts.items) (heavy_places_of all.parts.items) c.loop-face.face i.0 (omega arith) i.1 is.is_collection is.within_limit).layout

pub returns-clause-faces : goal.returns-clause-faces
returns-clause-faces g c =
    let hs = g.B.PairReader.shown c.args.reader.now in
    let is = g.met.B.PairReader.is_read c.args.reader.now in
    let all = c.loop-face.all in
    let i = c.loop-face.invariant in
    (all_layers hs all.heavy (spans_of all.parts.items) (heavy_places_of all.parts.items) c.loop-face.face i.0 (omega arith) i.1 is.is_collection is.within_limit).faces

pub returns-clause-pairs : goal.returns-clause-pairs
returns-clause-pairs g c =
    let hs = g.B.PairReader.shown c.args.reader.now in
    let is = g.met.B.PairReader.is_read c.args.reader.now in
    let all = c.loop-face.all in
    let i = c.loop-face.invariant in
    (all_layers hs all.heavy (spans_of all.parts.items) (heavy_places_of all.parts.items) c.loop-face.face i.0 (omega arith) i.1 is.is_collection is.within_limit).pairs
