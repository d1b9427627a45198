-- A copy has what the table has.
use Rattle.std.proofs.Common.{◌≡◌, List, [], sym, ◌∙◌, ap, ap₂, arith, subst}
use Rattle.s2ix_bag_pairs.specs.Collection.{Collection}
use Rattle.s2ix_table_spans.specs.SpanTable.{SpanRanges}
use Rattle.s2ix_table_parts.specs.FaceSpans.{heavy_places_of, spans_of}
use Rattle.s2ix_table_parts.specs.Neighbours.{held_in}
use Rattle.s2ix_table_faced.specs.Layout.{heavy_in}
use Rattle.s2ix_table_parts.specs.Layers.{joined_layers}
use Rattle.s2ix_table_faced.proofs.Sound.{IsSound, same_lists, sound_of}
use Rattle.s2ix_table_faced.proofs.faced_table.FacedTable.copied.Goals.{In_ok-heavy, In_ok-parts}
use Rattle.s2ix_table_faced.proofs.faced_table.FacedTable.copied.Goals as goal
use lib.Seq.{ext_get_or}

parts_are : (c : In_ok-parts) → c.in_ok-parts.parts.items ≡ c.args.self.now.parts.items
parts_are c = c.in_ok-parts.ensures ∙ c.deref.ensures.value

heavy_are : (c : In_ok-heavy) → c.in_ok-heavy.heavy ≡ c.args.self.now.heavy
heavy_are c =
    let are = c.in_ok-heavy.ensures.cases in
    ext_get_or [] c.in_ok-heavy.heavy c.args.self.now.heavy (are.long ∙ sym c.args.self.now.layered.six)
    (λ k lt. are.at k [] [] (let long = are.long in omega arith))

pub invariant_of-result : goal.invariant_of-result
invariant_of-result c =
    let t = c.args.self.now in
    let parts = parts_are (goal.at-invariant_of-result c).In_ok-parts in
    let same = same_lists (ap spans_of parts) (ap heavy_places_of parts) c.in_ok-begins.ensures.starts
    (c.in_ok-offsets.ensures ∙ c.deref-2.ensures.value) (sound_of t) in
    let is = subst (λ (heavy : List (List Collection)). IsSound (spans_of c.in_ok-parts.parts.items) (heavy_places_of c.in_ok-parts.parts.items)
    c.in_ok-begins.begins.starts.items c.in_ok-offsets.offsets.items heavy t.count) (sym (heavy_are (goal.at-invariant_of-result c).In_ok-heavy)) same in
    record { joined = is.joined; layered = is.layered; rises = is.rises; table = is.table; bordered = is.bordered; once = is.once }

pub returns : goal.returns
returns c =
    ap₂ (λ (ts : List SpanRanges) (cs : List (List Collection)). joined_layers (held_in ts) (heavy_in cs)) (ap spans_of (parts_are (goal.at-returns c).In_ok-parts))
    (heavy_are (goal.at-returns c).In_ok-heavy)
