-- The entries of cells that go over the parts come first, and then the others.
use Rattle.std.proofs.Common.{◌≡◌, ◌≤◌, length, refl, sym, ◌∙◌, subst, rules}
use Rattle.s2ix_bag_lists.specs.Faces.{all_of}
use Rattle.s2ix_bag_pairs.specs.Change.{IsChangeList, changed}
use Rattle.s2ix_bag_pairs.specs.Collection.{Collection}
use Rattle.s2ix_table_parts.specs.FaceSpans.{heavy_places_of, spans_of}
use Rattle.s2ix_table_parts.specs.Neighbours.{held_in}
use Rattle.s2ix_table_parts.specs.Layered.{IsFaceLayered, IsFaceWith, goes_over, face_pairs}
use Rattle.s2ix_table_parts.specs.Layers.{opposite, joined_layers}
use Rattle.s2ix_table_parts.proofs.FaceWith.{all_given, length_heavy_places}
use Rattle.s2ix_table_parts.proofs.GoingOver.{are_over, other_entries, over_entries, over_first}
use Rattle.s2ix_table_parts.proofs.HeldWhere.{entries_rise}
use Rattle.s2ix_table_parts.proofs.change.face_after.Face.layers_after.Goals as goal

pub heavy_after-requires-clause-entries_rise : goal.heavy_after-requires-clause-entries_rise
heavy_after-requires-clause-entries_rise c =
    let f = c.args.self in
    let ts = spans_of f.parts.now in
    let own : c.in-Some.own.heavy.items ≡ over_entries ts f.heavy.now c.args.entries.now = search rules in
    (are_over f.face ts (heavy_places_of f.parts.now) f.heavy.now c.args.entries.now c.as_slice.result.now c.requires.layered c.requires.entries_rise
    c.requires.on_face c.requires.within_limit (c.as_slice.ensures.value ∙ own)).rise

pub heavy_after-requires-clause-apart : goal.heavy_after-requires-clause-apart
heavy_after-requires-clause-apart c =
    let f = c.args.self in
    let ts = spans_of f.parts.now in
    let own : c.in-Some.own.heavy.items ≡ over_entries ts f.heavy.now c.args.entries.now = search rules in
    (are_over f.face ts (heavy_places_of f.parts.now) f.heavy.now c.args.entries.now c.as_slice.result.now c.requires.layered c.requires.entries_rise
    c.requires.on_face c.requires.within_limit (c.as_slice.ensures.value ∙ own)).apart

pub heavy_after-requires-clause-on_face : goal.heavy_after-requires-clause-on_face
heavy_after-requires-clause-on_face c =
    let f = c.args.self in
    let ts = spans_of f.parts.now in
    let own : c.in-Some.own.heavy.items ≡ over_entries ts f.heavy.now c.args.entries.now = search rules in
    (are_over f.face ts (heavy_places_of f.parts.now) f.heavy.now c.args.entries.now c.as_slice.result.now c.requires.layered c.requires.entries_rise
    c.requires.on_face c.requires.within_limit (c.as_slice.ensures.value ∙ own)).on_face

pub heavy_after-requires-clause-within_limit : goal.heavy_after-requires-clause-within_limit
heavy_after-requires-clause-within_limit c =
    let f = c.args.self in
    let ts = spans_of f.parts.now in
    let own : c.in-Some.own.heavy.items ≡ over_entries ts f.heavy.now c.args.entries.now = search rules in
    (are_over f.face ts (heavy_places_of f.parts.now) f.heavy.now c.args.entries.now c.as_slice.result.now c.requires.layered c.requires.entries_rise
    c.requires.on_face c.requires.within_limit (c.as_slice.ensures.value ∙ own)).within_limit

pub and_light-requires-clause-layered : goal.and_light-requires-clause-layered
and_light-requires-clause-layered c =
    let f = c.args.self in
    let es = c.args.entries.now in
    let ts = spans_of f.parts.now in
    let after_heavy = c.in-Some-2.after_heavy in
    let shown = spans_of after_heavy.parts.items in
    let own : c.in-Some.own.heavy.items ≡ over_entries ts f.heavy.now es = search rules in
    let first : after_heavy.first ≡ 0 = search rules in
    let end : after_heavy.end ≡ length ts = search rules in
    let with : IsFaceWith f.face (changed (joined_layers (held_in ts) (all_of f.heavy.now)) c.as_slice.result.now) ts (heavy_places_of f.parts.now) after_heavy.first
    after_heavy.end shown (heavy_places_of after_heavy.parts.items) after_heavy.heavy = search rules in
    let face : after_heavy.face ≡ f.face = search rules in
    subst (λ n. IsFaceLayered n after_heavy.heavy shown (heavy_places_of after_heavy.parts.items)) (sym face)
    (over_first f.face ts shown (heavy_places_of f.parts.now) (heavy_places_of after_heavy.parts.items) f.heavy.now after_heavy.heavy es c.as_slice.result.now (other_entries ts f.heavy.now es)
    after_heavy.first after_heavy.end c.requires.layered c.requires.entries_rise (c.as_slice.ensures.value ∙ own) refl first end with).0

pub and_light-requires-clause-entries_rise : goal.and_light-requires-clause-entries_rise
and_light-requires-clause-entries_rise c =
    let f = c.args.self in
    let es = c.args.entries.now in
    let ts = spans_of f.parts.now in
    let light : c.in-Some.own.light.items ≡ other_entries ts f.heavy.now es = search rules in
    subst IsChangeList (sym (c.as_slice-2.ensures.value ∙ light))
    (entries_rise (opposite (goes_over ts (all_of f.heavy.now))) 0 es c.requires.entries_rise)

pub and_light-requires-clause-within_limit : goal.and_light-requires-clause-within_limit
and_light-requires-clause-within_limit c =
    let f = c.args.self in
    let es = c.args.entries.now in
    let ts = spans_of f.parts.now in
    let after_heavy = c.in-Some-2.after_heavy in
    let shown = spans_of after_heavy.parts.items in
    let own : c.in-Some.own.heavy.items ≡ over_entries ts f.heavy.now es = search rules in
    let light : c.in-Some.own.light.items ≡ other_entries ts f.heavy.now es = search rules in
    let first : after_heavy.first ≡ 0 = search rules in
    let end : after_heavy.end ≡ length ts = search rules in
    let with : IsFaceWith f.face (changed (joined_layers (held_in ts) (all_of f.heavy.now)) c.as_slice.result.now) ts (heavy_places_of f.parts.now) after_heavy.first
    after_heavy.end shown (heavy_places_of after_heavy.parts.items) after_heavy.heavy = search rules in
    let then = (over_first f.face ts shown (heavy_places_of f.parts.now) (heavy_places_of after_heavy.parts.items) f.heavy.now after_heavy.heavy es c.as_slice.result.now c.as_slice-2.result.now
    after_heavy.first after_heavy.end c.requires.layered c.requires.entries_rise (c.as_slice.ensures.value ∙ own)
    (c.as_slice-2.ensures.value ∙ light) first end with).1 in
    subst (λ (hs : Collection). length hs ≤ 1000000) (sym then) c.requires.within_limit

pub returns-clause-new_face : goal.returns-clause-new_face
returns-clause-new_face c =
    let f = c.args.self in
    let es = c.args.entries.now in
    let ts = spans_of f.parts.now in
    let heavy = all_of f.heavy.now in
    let after_heavy = c.in-Some-2.after_heavy in
    let shown = spans_of after_heavy.parts.items in
    let own : c.in-Some.own.heavy.items ≡ over_entries ts f.heavy.now es = search rules in
    let light : c.in-Some.own.light.items ≡ other_entries ts f.heavy.now es = search rules in
    let first : after_heavy.first ≡ 0 = search rules in
    let end : after_heavy.end ≡ length ts = search rules in
    let with : IsFaceWith f.face (changed (joined_layers (held_in ts) heavy) c.as_slice.result.now) ts (heavy_places_of f.parts.now) after_heavy.first after_heavy.end
    shown (heavy_places_of after_heavy.parts.items) after_heavy.heavy = search rules in
    let then = (over_first f.face ts shown (heavy_places_of f.parts.now) (heavy_places_of after_heavy.parts.items) f.heavy.now after_heavy.heavy es c.as_slice.result.now c.as_slice-2.result.now
    after_heavy.first after_heavy.end c.requires.layered c.requires.entries_rise (c.as_slice.ensures.value ∙ own)
    (c.as_slice-2.ensures.value ∙ light) first end with).1 in
    let new = c.in-Some-3.new in
    let new_first : new.first ≡ after_heavy.first = search rules in
    let new_end : new.end ≡ after_heavy.end = search rules in
    let layered : IsFaceLayered f.face new.heavy (spans_of new.parts.items) (heavy_places_of new.parts.items) = search rules in
    let pairs : face_pairs new.parts.items new.heavy
    ≡ changed (joined_layers (held_in shown) (all_of after_heavy.heavy)) c.as_slice-2.result.now = search rules in
    all_given f.face (length ts) new.first new.end (changed (joined_layers (held_in ts) heavy) es) ts (spans_of new.parts.items) (heavy_places_of f.parts.now)
    (heavy_places_of new.parts.items) new.heavy (new_first ∙ first) (new_end ∙ end) refl (length_heavy_places f.heavy.now ts (heavy_places_of f.parts.now) c.requires.layered.are_heavy_places) layered
    (pairs ∙ then)
