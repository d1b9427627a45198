-- The new parts are put into their places in each list, and where parts begin then is kept.
use Rattle.std.proofs.Common.{◌≡◌, ℕ, ◌+◌, List, Option, length, take, set, sym, ◌∙◌, ap, ap₂, arith, subst}
use Rattle.std.proofs.lemmas.List.{take_at}
use Rattle.s2ix_bag_pairs.specs.Collection.{Collection}
use Rattle.s2ix_table_spans.specs.SpanTable.{SpanRanges}
use Rattle.s2ix_table_heavy.specs.declared.heavy_place.HeavyPlace.{HeavyPlace}
use Rattle.s2ix_table_faced.specs.declared.part_begins.PartBegins.{PartBegins}
use Rattle.s2ix_table_parts.specs.FaceSpans.{heavy_places_of, spans_of, starts_of}
use Rattle.s2ix_table_faced.specs.Joined.{joined_ranges}
use Rattle.s2ix_table_faced.specs.Layout.{IsLayout, covered, heavy_in}
use Rattle.s2ix_table_faced.specs.Offsets.{offsets_of, AreOffsetsFrom}
use Rattle.s2ix_table_parts.specs.Parts.{with_parts}
use Rattle.s2ix_table_faced.proofs.Laid.{laid_joined, many_covered}
use Rattle.s2ix_table_faced.proofs.Offsets.{length_offsets}
use Rattle.s2ix_table_faced.proofs.OffsetsPut.{begins_put, put_covered, put_offsets}
use Rattle.s2ix_table_parts.proofs.Put.{put_heavy_places, put_spans}
use Rattle.s2ix_table_faced.proofs.Reading.{first_offset, many_offsets}
use Rattle.s2ix_table_parts.proofs.Shared.{many_shared}
use Rattle.s2ix_table_faced.proofs.Sound.{laid_sound}
use Rattle.s2ix_table_faced.proofs.faced_table.FacedTable.put.Goals as goal

pub returns-clause-put : goal.returns-clause-put
returns-clause-put c =
    let t = c.args.self.now in
    let new = c.args.new in
    put_spans t.parts.items c.make_room.new.self.parts.items c.put_between.new.list.items new.parts.items new.first new.end
    c.in_ok-make_room.ensures.parts c.put_between.ensures

pub put_between-requires-2-clause-within : goal.put_between-requires-2-clause-within
put_between-requires-2-clause-within c =
    let t = c.args.self.now in
    let many = many_offsets t.joined in
    let shared = many_shared t.parts.items in
    let same = ap length c.in_ok-make_room.ensures.offsets in
    let within = c.requires.within in
    omega arith

pub count_from-self-requires-clause-layout : goal.count_from-self-requires-clause-layout
count_from-self-requires-clause-layout c =
    let t = c.args.self.now in
    let new = c.args.new in
    let spans = spans_of t.parts.items in
    let is = put_spans t.parts.items c.make_room.new.self.parts.items c.put_between.new.list.items new.parts.items new.first new.end
    c.in_ok-make_room.ensures.parts c.put_between.ensures in
    let heavy_is = c.set_face.ensures ∙ ap (λ hs. set hs c.args.new.face c.args.new.heavy) c.in_ok-make_room.ensures.heavy in
    let seen = ap spans_of c.deref.ensures.value ∙ is in
    let are_heavy_places = put_heavy_places t.parts.items c.make_room.new.self.parts.items c.put_between.new.list.items new.parts.items new.first new.end
    c.in_ok-make_room.ensures.parts c.put_between.ensures in
    let own = ap heavy_places_of c.deref.ensures.value ∙ are_heavy_places in
    let all = with_parts spans new.first new.end (spans_of new.parts.items) in
    subst (λ (ts : List SpanRanges). IsLayout ts c.set_face.new.heavy (heavy_places_of c.deref.result.now)) (sym seen)
    (subst (λ (hs : List (List Collection)). IsLayout all hs (heavy_places_of c.deref.result.now)) (sym heavy_is)
    (subst (λ (os : List (Option HeavyPlace)). IsLayout all (set t.heavy c.args.new.face c.args.new.heavy) os) (sym own) c.requires.layout))

pub count_from-self-requires-clause-same_length : goal.count_from-self-requires-clause-same_length
count_from-self-requires-clause-same_length c =
    let t = c.args.self.now in
    let new = c.args.new in
    let spans = spans_of t.parts.items in
    let is = put_spans t.parts.items c.make_room.new.self.parts.items c.put_between.new.list.items new.parts.items new.first new.end
    c.in_ok-make_room.ensures.parts c.put_between.ensures in
    let heavy_is = c.set_face.ensures ∙ ap (λ hs. set hs c.args.new.face c.args.new.heavy) c.in_ok-make_room.ensures.heavy in
    let seen = ap spans_of c.deref.ensures.value ∙ is in
    let before = heavy_in t.heavy in
    let after = heavy_in (set t.heavy c.args.new.face c.args.new.heavy) in
    let many = many_shared t.parts.items in
    let many_old = many_covered before spans in
    let many_new = many_covered after (spans_of new.parts.items) ∙ many_shared new.parts.items in
    let within = c.requires.within in
    let len = new.parts.ok.0 in
    let count = c.len-count.ensures in
    let put = put_offsets (covered before spans) (covered after (spans_of new.parts.items)) c.make_room.new.self.offsets.items
    c.put_between-2.new.list.items c.in_ok-offsets.offsets.items new.first new.end c.len-count.result c.requires.order (omega arith) (omega arith)
    c.in_ok-offsets.ensures (c.in_ok-make_room.ensures.offsets ∙ t.joined.offsets_are) c.put_between-2.ensures in
    let all = put_covered before after spans (spans_of new.parts.items) new.first new.end c.requires.front c.requires.back in
    let shown = ap₂ (λ (hs : List (List Collection)) (ts : List SpanRanges). covered (heavy_in hs) ts) heavy_is seen ∙ all in
    let parts = ap length seen in
    let covers = many_covered after (with_parts spans new.first new.end (spans_of new.parts.items)) in
    let put_many = put.many in
    let all_many = ap length all in
    let own = many_shared c.deref.result.now in
    ap length c.deref_mut.ensures.value ∙ (let e : length c.put_between-2.new.list.items ≡ length c.deref.result.now = omega arith in e)

pub count_from-self-requires-clause-before : goal.count_from-self-requires-clause-before
count_from-self-requires-clause-before c =
    let t = c.args.self.now in
    let new = c.args.new in
    let spans = spans_of t.parts.items in
    let is = put_spans t.parts.items c.make_room.new.self.parts.items c.put_between.new.list.items new.parts.items new.first new.end
    c.in_ok-make_room.ensures.parts c.put_between.ensures in
    let heavy_is = c.set_face.ensures ∙ ap (λ hs. set hs c.args.new.face c.args.new.heavy) c.in_ok-make_room.ensures.heavy in
    let seen = ap spans_of c.deref.ensures.value ∙ is in
    let before = heavy_in t.heavy in
    let after = heavy_in (set t.heavy c.args.new.face c.args.new.heavy) in
    let many = many_shared t.parts.items in
    let many_old = many_covered before spans in
    let many_new = many_covered after (spans_of new.parts.items) ∙ many_shared new.parts.items in
    let within = c.requires.within in
    let len = new.parts.ok.0 in
    let count = c.len-count.ensures in
    let put = put_offsets (covered before spans) (covered after (spans_of new.parts.items)) c.make_room.new.self.offsets.items
    c.put_between-2.new.list.items c.in_ok-offsets.offsets.items new.first new.end c.len-count.result c.requires.order (omega arith) (omega arith)
    c.in_ok-offsets.ensures (c.in_ok-make_room.ensures.offsets ∙ t.joined.offsets_are) c.put_between-2.ensures in
    let all = put_covered before after spans (spans_of new.parts.items) new.first new.end c.requires.front c.requires.back in
    let shown = ap₂ (λ (hs : List (List Collection)) (ts : List SpanRanges). covered (heavy_in hs) ts) heavy_is seen ∙ all in
    ap (take new.first) c.deref_mut.ensures.value ∙ put.before ∙ ap (λ ts. take new.first (offsets_of ts)) (sym shown)

pub count_from-self-requires-clause-behind : goal.count_from-self-requires-clause-behind
count_from-self-requires-clause-behind c =
    let t = c.args.self.now in
    let new = c.args.new in
    let spans = spans_of t.parts.items in
    let is = put_spans t.parts.items c.make_room.new.self.parts.items c.put_between.new.list.items new.parts.items new.first new.end
    c.in_ok-make_room.ensures.parts c.put_between.ensures in
    let heavy_is = c.set_face.ensures ∙ ap (λ hs. set hs c.args.new.face c.args.new.heavy) c.in_ok-make_room.ensures.heavy in
    let seen = ap spans_of c.deref.ensures.value ∙ is in
    let before = heavy_in t.heavy in
    let after = heavy_in (set t.heavy c.args.new.face c.args.new.heavy) in
    let many = many_shared t.parts.items in
    let many_old = many_covered before spans in
    let many_new = many_covered after (spans_of new.parts.items) ∙ many_shared new.parts.items in
    let within = c.requires.within in
    let len = new.parts.ok.0 in
    let count = c.len-count.ensures in
    let put = put_offsets (covered before spans) (covered after (spans_of new.parts.items)) c.make_room.new.self.offsets.items
    c.put_between-2.new.list.items c.in_ok-offsets.offsets.items new.first new.end c.len-count.result c.requires.order (omega arith) (omega arith)
    c.in_ok-offsets.ensures (c.in_ok-make_room.ensures.offsets ∙ t.joined.offsets_are) c.put_between-2.ensures in
    let all = put_covered before after spans (spans_of new.parts.items) new.first new.end c.requires.front c.requires.back in
    let shown = ap₂ (λ (hs : List (List Collection)) (ts : List SpanRanges). covered (heavy_in hs) ts) heavy_is seen ∙ all in
    let end : ℕ = new.first + c.len-count.result in
    let there = covered (heavy_in c.set_face.new.heavy) (spans_of c.deref.result.now) in
    subst (λ os. AreOffsetsFrom end os there) (sym c.deref_mut.ensures.value) (subst (AreOffsetsFrom end c.put_between-2.new.list.items) (sym shown) put.behind)

pub begins_after-requires-clause-neighbours : goal.begins_after-requires-clause-neighbours
begins_after-requires-clause-neighbours c = c.requires.layout.neighbours

pub invariant_of-self : goal.invariant_of-self
invariant_of-self c =
    let t = c.args.self.now in
    let new = c.args.new in
    let spans = spans_of t.parts.items in
    let is = put_spans t.parts.items c.make_room.new.self.parts.items c.put_between.new.list.items new.parts.items new.first new.end
    c.in_ok-make_room.ensures.parts c.put_between.ensures in
    let heavy_is = c.set_face.ensures ∙ ap (λ hs. set hs c.args.new.face c.args.new.heavy) c.in_ok-make_room.ensures.heavy in
    let seen = ap spans_of c.deref.ensures.value ∙ is in
    let before = heavy_in t.heavy in
    let after = heavy_in (set t.heavy c.args.new.face c.args.new.heavy) in
    let many = many_shared t.parts.items in
    let many_old = many_covered before spans in
    let many_new = many_covered after (spans_of new.parts.items) ∙ many_shared new.parts.items in
    let within = c.requires.within in
    let len = new.parts.ok.0 in
    let count = c.len-count.ensures in
    let put = put_offsets (covered before spans) (covered after (spans_of new.parts.items)) c.make_room.new.self.offsets.items
    c.put_between-2.new.list.items c.in_ok-offsets.offsets.items new.first new.end c.len-count.result c.requires.order (omega arith) (omega arith)
    c.in_ok-offsets.ensures (c.in_ok-make_room.ensures.offsets ∙ t.joined.offsets_are) c.put_between-2.ensures in
    let all = put_covered before after spans (spans_of new.parts.items) new.first new.end c.requires.front c.requires.back in
    let shown = ap₂ (λ (hs : List (List Collection)) (ts : List SpanRanges). covered (heavy_in hs) ts) heavy_is seen ∙ all in
    let are_heavy_places = put_heavy_places t.parts.items c.make_room.new.self.parts.items c.put_between.new.list.items new.parts.items new.first new.end
    c.in_ok-make_room.ensures.parts c.put_between.ensures in
    let parts = with_parts spans new.first new.end (spans_of new.parts.items) in
    let same = ap (λ (b : PartBegins). b.starts.items) c.in_ok-make_room.ensures.stay in
    let starts = begins_put c.in_ok-begins.begins c.make_room.new.self.begins c.put_begins.new.begins (starts_of parts)
    (λ none. c.in_ok-begins.ensures.stay none ∙ sym same) c.in_ok-begins.ensures.made c.put_begins.ensures in
    let layout = subst (λ (ts : List SpanRanges). IsLayout ts c.set_face.new.heavy (heavy_places_of c.put_between.new.list.items)) (sym is)
    (subst (λ (hs : List (List Collection)). IsLayout parts hs (heavy_places_of c.put_between.new.list.items)) (sym heavy_is)
    (subst (λ (os : List (Option HeavyPlace)). IsLayout parts (set t.heavy c.args.new.face c.args.new.heavy) os) (sym are_heavy_places) c.requires.layout)) in
    let here = ap (λ ts. covered (heavy_in c.set_face.new.heavy) (spans_of ts)) c.deref.ensures.value in
    let own = c.put_between-2.new.list.ok.0 in
    let length_is = ap length c.count_from-self.ensures.offsets
    ∙ length_offsets first_offset (covered (heavy_in c.set_face.new.heavy) (spans_of c.deref.result.now)) ∙ ap length shown ∙ sym put.many in
    let written = take_at c.count_from-self.new.offsets _ c.put_between-2.new.list.len (omega arith) in
    let whole = laid_joined _ _ _ layout (starts ∙ ap starts_of (sym is)) (written ∙ c.count_from-self.ensures.offsets ∙ ap offsets_of here)
    (c.count_from-self.ensures.count ∙ ap (λ ts. length (joined_ranges ts)) here) in
    let sound = laid_sound layout whole in
    record { joined = whole; layered = sound.layered; rises = sound.rises; table = sound.table; bordered = sound.bordered; once = sound.once }
