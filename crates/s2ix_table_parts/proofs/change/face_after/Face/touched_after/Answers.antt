use Rattle.std.proofs.Common.{◌≡◌, ◌-◌, take, drop, sym, ap, ◌∙◌, subst, rules}
use Rattle.s2ix_bag_pairs.specs.Change.{changed}
use Rattle.s2ix_table_parts.specs.FaceSpans.{heavy_places_of, spans_of}
use Rattle.s2ix_table_parts.specs.Neighbours.{held_in}
use Rattle.s2ix_table_parts.specs.Layered.{AreLightParts}
use Rattle.s2ix_table_parts.proofs.LightChanged.{AreTouchedPairs, light_with_touched, touched_pairs}
use Rattle.s2ix_table_parts.proofs.Shared.{spans_between}
use Rattle.s2ix_table_parts.proofs.change.face_after.Face.touched_after.Goals as goal
use Rattle.s2ix_table_parts.proofs.change.face_after.Face.touched_after.Goals.{After-as_slice, After-as_slice-2}

-- what the touched parts hold
before_is : (c : After-as_slice) → c.as_slice.result.now
    ≡ held_in (take (c.args.touched.end - c.args.touched.first) (drop c.args.touched.first (spans_of c.args.self.parts.now)))
before_is c =
    let f = c.args.touched.first in
    let n = c.args.touched.end - f in
    c.as_slice.ensures.value ∙ c.in_ok-before.ensures
    ∙ ap (λ ts. held_in (spans_of ts)) (c.split_at-2.ensures.front ∙ ap (λ ts. take n ts) c.split_at.ensures.back)
    ∙ ap (λ ts. held_in ts) (spans_between f n c.args.self.parts.now)

pairs : (c : After-as_slice)
    → AreTouchedPairs c.as_slice.result.now (changed c.as_slice.result.now c.args.entries.now) c.args.touched.from c.args.touched.to
pairs c =
    let f = c.args.self in
    let r = c.args.touched in
    let is = c.requires in
    touched_pairs f.face (spans_of f.parts.now) (heavy_places_of f.parts.now) f.heavy.now c.args.entries.now r.first r.end r.from r.to c.as_slice.result.now
    is.six is.layered is.touched is.entries_rise is.light is.within_limit (before_is c)

-- what the change makes of them
after_is : (c : After-as_slice-2) → changed c.as_slice.result.now c.args.entries.now ≡ c.as_slice-2.result.now
after_is c = sym (c.as_slice-2.ensures.value ∙ c.in_ok-light.ensures)

then : (c : After-as_slice-2) → AreTouchedPairs c.as_slice.result.now (changed c.as_slice.result.now c.args.entries.now) c.args.touched.from c.args.touched.to
    → AreTouchedPairs c.as_slice.result.now c.as_slice-2.result.now c.args.touched.from c.args.touched.to
then c are = subst (λ hs. AreTouchedPairs c.as_slice.result.now hs c.args.touched.from c.args.touched.to) (after_is c) are

pub merge-requires-clause-held_rise : goal.merge-requires-clause-held_rise
merge-requires-clause-held_rise c = (pairs (goal.at.merge-requires-clause-held_rise c).After-as_slice).rises

pub over_spans-requires-clause-rises : goal.over_spans-requires-clause-rises
over_spans-requires-clause-rises c =
    let h = goal.at.over_spans-requires-clause-rises c in
    (then h.After-as_slice-2 (pairs h.After-as_slice)).rises_then

pub over_spans-requires-clause-within_limit : goal.over_spans-requires-clause-within_limit
over_spans-requires-clause-within_limit c =
    let h = goal.at.over_spans-requires-clause-within_limit c in
    (then h.After-as_slice-2 (pairs h.After-as_slice)).within_limit

pub over_spans-requires-clause-span : goal.over_spans-requires-clause-span
over_spans-requires-clause-span c =
    let h = goal.at.over_spans-requires-clause-span c in
    (then h.After-as_slice-2 (pairs h.After-as_slice)).span

pub over_spans-requires-clause-leaves : goal.over_spans-requires-clause-leaves
over_spans-requires-clause-leaves c = (pairs (goal.at.over_spans-requires-clause-leaves c).After-as_slice).leaves

pub returns-clause-new_face : goal.returns-clause-new_face
returns-clause-new_face c =
    let h = goal.at.returns-clause-new_face c in
    let f = c.args.self in
    let r = c.args.touched in
    let is = c.requires in
    let made = c.in-Some.made in
    let same : made.heavy ≡ f.heavy.now = search rules in
    let own : c.as_slice-2.result.now
    ≡ changed (held_in (take (r.end - r.first) (drop r.first (spans_of f.parts.now)))) c.args.entries.now =
    sym (after_is h.After-as_slice-2) ∙ ap (λ hs. changed hs c.args.entries.now) (before_is h.After-as_slice) in
    let are : AreLightParts f.heavy.now c.as_slice-2.result.now r.from (spans_of made.parts.items) (heavy_places_of made.parts.items) r.to = search rules in
    light_with_touched f.face (spans_of f.parts.now) (spans_of made.parts.items) (heavy_places_of f.parts.now) (heavy_places_of made.parts.items) f.heavy.now made.heavy
    c.args.entries.now r.first r.end r.from r.to is.layered is.touched is.entries_rise is.light same
    (subst (λ hs. AreLightParts f.heavy.now hs r.from (spans_of made.parts.items) (heavy_places_of made.parts.items) r.to) own are)
