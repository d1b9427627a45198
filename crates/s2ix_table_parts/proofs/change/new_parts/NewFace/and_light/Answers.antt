-- The face with the parts that a change of light cells makes.
use Rattle.std.proofs.Common.{◌≡◌, ap, refl, rules}
use Rattle.s2ix_bag_lists.specs.Faces.{all_of}
use Rattle.s2ix_bag_pairs.specs.Change.{changed}
use Rattle.s2ix_table_parts.specs.FaceSpans.{heavy_places_of, spans_of}
use Rattle.s2ix_table_parts.specs.Neighbours.{held_in}
use Rattle.s2ix_table_parts.specs.Layered.{IsFaceWith, face_pairs}
use Rattle.s2ix_table_parts.specs.Layers.{joined_layers}
use Rattle.s2ix_table_parts.proofs.HeavyFirst.{put_light, with_same}
use Rattle.s2ix_table_parts.proofs.Put.{put_heavy_places, put_spans}
use Rattle.s2ix_table_parts.proofs.change.new_parts.NewFace.and_light.Goals as goal

pub returns-clause-layered : goal.returns-clause-layered
returns-clause-layered c =
    let f = c.args.self in
    let ts = spans_of f.parts.items in
    let light = c.in-Some.light in
    let held = changed (joined_layers (held_in ts) (all_of f.heavy)) c.args.entries.now in
    let with : IsFaceWith c.args.self.face (changed (face_pairs c.as_slice.result.now f.heavy) c.args.entries.now)
    (spans_of c.as_slice.result.now) (heavy_places_of c.as_slice.result.now) light.first light.end (spans_of light.parts.items) (heavy_places_of light.parts.items)
    light.heavy = search rules in
    let is = with_same c.args.self.face (all_of f.heavy) c.args.entries.now (spans_of c.as_slice.result.now) ts (spans_of light.parts.items)
    (heavy_places_of c.as_slice.result.now) (heavy_places_of f.parts.items) (heavy_places_of light.parts.items) light.heavy light.first light.end with
    (ap spans_of c.as_slice.ensures.value) (ap heavy_places_of c.as_slice.ensures.value) in
    let same : light.heavy ≡ f.heavy = search rules in
    let new = c.in_ok-new.new in
    let put = c.in_ok-new.ensures in
    let both = put_light c.args.self.face held ts (spans_of light.parts.items) (spans_of new.parts.items) (heavy_places_of f.parts.items) (heavy_places_of light.parts.items)
    (heavy_places_of new.parts.items) f.heavy light.heavy new.heavy light.first light.end is same put.heavy
    (put_spans f.parts.items f.parts.items new.parts.items light.parts.items light.first light.end refl put.parts)
    (put_heavy_places f.parts.items f.parts.items new.parts.items light.parts.items light.first light.end refl put.parts) in
    both.0

pub returns-clause-pairs : goal.returns-clause-pairs
returns-clause-pairs c =
    let f = c.args.self in
    let ts = spans_of f.parts.items in
    let light = c.in-Some.light in
    let held = changed (joined_layers (held_in ts) (all_of f.heavy)) c.args.entries.now in
    let with : IsFaceWith c.args.self.face (changed (face_pairs c.as_slice.result.now f.heavy) c.args.entries.now)
    (spans_of c.as_slice.result.now) (heavy_places_of c.as_slice.result.now) light.first light.end (spans_of light.parts.items) (heavy_places_of light.parts.items)
    light.heavy = search rules in
    let is = with_same c.args.self.face (all_of f.heavy) c.args.entries.now (spans_of c.as_slice.result.now) ts (spans_of light.parts.items)
    (heavy_places_of c.as_slice.result.now) (heavy_places_of f.parts.items) (heavy_places_of light.parts.items) light.heavy light.first light.end with
    (ap spans_of c.as_slice.ensures.value) (ap heavy_places_of c.as_slice.ensures.value) in
    let same : light.heavy ≡ f.heavy = search rules in
    let new = c.in_ok-new.new in
    let put = c.in_ok-new.ensures in
    let both = put_light c.args.self.face held ts (spans_of light.parts.items) (spans_of new.parts.items) (heavy_places_of f.parts.items) (heavy_places_of light.parts.items)
    (heavy_places_of new.parts.items) f.heavy light.heavy new.heavy light.first light.end is same put.heavy
    (put_spans f.parts.items f.parts.items new.parts.items light.parts.items light.first light.end refl put.parts)
    (put_heavy_places f.parts.items f.parts.items new.parts.items light.parts.items light.first light.end refl put.parts) in
    both.1
