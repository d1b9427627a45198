-- Other heavy pairs over a layout, to which the same places lead: the offsets stay, and so does the number of ranges.
use Rattle.std.proofs.Common.{◌≡◌, ℕ, suc, ◌+◌, ◌-◌, ◌<◌, Bool, Option, Result, Ok, Err, List, [], ◌∷◌, length, refl, sym, ap, ap₂, ◌∙◌, arith, subst}
use Rattle.std.specs.Prelude.{◌==◌, if◌then◌else◌, OnErr, OnOk}
use Rattle.s2ix_bag_pairs.specs.Collection.{Collection}
use Rattle.s2ix_table_walk.specs.Contents.{contents_at}
use Rattle.s2ix_table_walk.specs.Table.{Range, range_at, leaf_end}
use Rattle.s2ix_table_spans.specs.SpanTable.{SpanRanges}
use Rattle.s2ix_table_heavy.specs.Chunks.{AreChunks}
use Rattle.s2ix_table_heavy.specs.declared.heavy_place.HeavyPlace.{HeavyPlace}
use Rattle.s2ix_table_faced.specs.declared.offset.Offset.{Offset}
use Rattle.s2ix_table_parts.specs.FaceSpans.{no_table, table_of}
use Rattle.s2ix_table_parts.specs.Neighbours.{held_in}
use Rattle.s2ix_table_faced.specs.Joined.{joined_ranges}
use Rattle.s2ix_table_faced.specs.Layout.{AreLayered, IsLayout, chunks_on, cover, covered, heavy_in, with_over}
use Rattle.s2ix_table_parts.specs.Layers.{joined_layers}
use Rattle.s2ix_table_faced.specs.Offsets.{is_joined, offset_after, offset_at, offsets_from, offsets_of}
use Rattle.s2ix_table_faced.specs.Whole.{AreJoined}
use Rattle.s2ix_table_faced.proofs.Laid.{laid_joined, laid_over, many_covered, over_shares_none, parts_meet, same_count}
use Rattle.s2ix_table_faced.proofs.LaidOnce.{laid_same_over}
use Rattle.s2ix_table_parts.proofs.Neighbours.{span_known}
use Rattle.s2ix_table_faced.proofs.OneFace.{some_parts}
use Rattle.s2ix_table_faced.proofs.RangesOver.{length_over, start_over}
use Rattle.s2ix_table_faced.proofs.Reading.{first_offset}
use Rattle.s2ix_table_faced.proofs.Seams.{seam_alike}
use Rattle.s2ix_table_faced.proofs.Sound.{IsSound, laid_sound}
use Rattle.s2ix_table_faced.proofs.Together.{all_counted}

-- ---- the next offset

offset_by : Offset → Bool → ℕ → ℕ → ℕ → Offset
offset_by o joined count last next =
    if joined then record { place = o.place + (count - 1); start = if count == 1 then o.start else last }
    else record { place = o.place + count; start = next }

offset_is : (o : Offset) (rs ss : List Range)
    → offset_after o rs ss ≡ offset_by o (is_joined rs ss) (length rs) (range_at rs (length rs - 1)).start (range_at ss 0).start
unfolding offset_by
offset_is o rs ss = refl

last_same : (over : Collection) (rs : List Range)
    → (range_at (with_over over rs) (length (with_over over rs) - 1)).start ≡ (range_at rs (length rs - 1)).start
last_same over rs = ap (λ n. (range_at (with_over over rs) (n - 1)).start) (length_over over rs) ∙ start_over over rs (length rs - 1)

-- by ranges without what lies over them
offset_under : (o : Offset) (rs ss : List Range) (a b : Collection)
    → offset_after o (with_over a rs) (with_over b ss)
    ≡ offset_by o (is_joined (with_over a rs) (with_over b ss)) (length rs) (range_at rs (length rs - 1)).start (range_at ss 0).start
offset_under o rs ss a b =
    let joined = is_joined (with_over a rs) (with_over b ss) in
    offset_is o (with_over a rs) (with_over b ss)
    ∙ ap (λ n. offset_by o joined n (range_at (with_over a rs) (length (with_over a rs) - 1)).start (range_at (with_over b ss) 0).start) (length_over a rs)
    ∙ ap₂ (λ l f. offset_by o joined (length rs) l f) (last_same a rs) (start_over b ss 0)

after_same : (o : Offset) (rs ss : List Range) (a b c d : Collection)
    → is_joined (with_over a rs) (with_over b ss) ≡ is_joined (with_over c rs) (with_over d ss)
    → offset_after o (with_over a rs) (with_over b ss) ≡ offset_after o (with_over c rs) (with_over d ss)
after_same o rs ss a b c d same =
    offset_under o rs ss a b
    ∙ ap (λ j. offset_by o j (length rs) (range_at rs (length rs - 1)).start (range_at ss 0).start) same
    ∙ sym (offset_under o rs ss c d)

-- ---- all offsets

-- whether two parts are joined under heavy pairs
abbrev are_joined : Collection → SpanRanges → SpanRanges → Bool
are_joined heavy t u = is_joined (cover heavy t).ranges (cover heavy u).ranges

offsets_same : (o : Offset) (one other : Collection) (ts : List SpanRanges)
    → ((i : ℕ) → suc i < length ts → are_joined one (table_of ts i) (table_of ts (suc i)) ≡ are_joined other (table_of ts i) (table_of ts (suc i)))
    → offsets_from o (covered one ts) ≡ offsets_from o (covered other ts)
offsets_same o one other [] each = refl
offsets_same o one other (t ∷ []) each = refl
offsets_same o one other (t ∷ u ∷ us) each =
    let next = after_same o t.ranges u.ranges (contents_at t.from one) (contents_at u.from one) (contents_at t.from other) (contents_at u.from other)
    (each 0 (omega arith)) in
    ap (λ os. o ∷ os)
    (ap (λ p. offsets_from p (covered one (u ∷ us))) next
    ∙ offsets_same (offset_after o (cover other t).ranges (cover other u).ranges) one other (u ∷ us) (λ i lt. each (suc i) (omega arith)))

pub offsets_stay : {parts : List SpanRanges} {heavy now : List (List Collection)} {heavy_places : List (Option HeavyPlace)} → IsLayout parts heavy heavy_places
    → IsLayout parts now heavy_places → offsets_of (covered (heavy_in heavy) parts) ≡ offsets_of (covered (heavy_in now) parts)
offsets_stay {parts} {heavy} {now} {heavy_places} was is =
    offsets_same first_offset (heavy_in heavy) (heavy_in now) parts (λ i lt.
    let less : i < length parts = omega arith in
    let old = laid_same_over i (suc i) was less lt in
    let new = laid_same_over i (suc i) is less lt in
    seam_alike (table_of parts i) (table_of parts (suc i)) (contents_at (table_of parts i).from (heavy_in heavy))
    (contents_at (table_of parts (suc i)).from (heavy_in heavy)) (contents_at (table_of parts i).from (heavy_in now))
    (contents_at (table_of parts (suc i)).from (heavy_in now)) (span_known 1 parts leaf_end i no_table was.neighbours less)
    (span_known 1 parts leaf_end (suc i) no_table was.neighbours lt) (parts_meet parts i (suc i) was.neighbours (omega arith) lt)
    (over_shares_none parts (heavy_in heavy) i (suc i) was.apart less) (over_shares_none parts (heavy_in heavy) (suc i) i was.apart lt)
    (over_shares_none parts (heavy_in now) i (suc i) is.apart less) (over_shares_none parts (heavy_in now) (suc i) i is.apart lt)
    (λ e. new.0 (old.1 e)) (λ e. old.0 (new.1 e)))

-- ---- how many ranges there are

counted : {parts : List SpanRanges} {heavy : List (List Collection)} {heavy_places : List (Option HeavyPlace)} (last count : ℕ) → IsLayout parts heavy heavy_places
    → suc last ≡ length parts
    → count ≡ (offset_at (offsets_of (covered (heavy_in heavy) parts)) last).place + length (table_of parts last).ranges
    → count ≡ length (joined_ranges (covered (heavy_in heavy) parts))
counted {parts} {heavy} {heavy_places} last count is end sum =
    let shown = covered (heavy_in heavy) parts in
    let many = many_covered (heavy_in heavy) parts in
    let same = same_count (heavy_in heavy) parts last (omega arith) in
    all_counted (joined_layers (held_in parts) (heavy_in heavy)) shown last count (laid_over is) (omega arith) (omega arith)

pub count_stays : {parts : List SpanRanges} {heavy now : List (List Collection)} {heavy_places : List (Option HeavyPlace)} → IsLayout parts heavy heavy_places
    → IsLayout parts now heavy_places
    → length (joined_ranges (covered (heavy_in heavy) parts)) ≡ length (joined_ranges (covered (heavy_in now) parts))
count_stays {parts} {heavy} {now} {heavy_places} was is =
    let some = some_parts parts was.neighbours in
    let last : ℕ = length parts - 1 in
    let sum : ℕ = (offset_at (offsets_of (covered (heavy_in heavy) parts)) last).place + length (table_of parts last).ranges in
    let own = counted last sum was (omega arith) refl in
    let same = ap (λ os. (offset_at os last).place) (offsets_stay was is) in
    sym own ∙ counted last sum is (omega arith) (omega arith)

-- ---- the table then

-- what is kept beside the parts is right under these heavy pairs, too
pub still_sound : {parts : List SpanRanges} {heavy now : List (List Collection)} {heavy_places : List (Option HeavyPlace)} {starts : List ℕ} {offsets : List Offset}
    {count : ℕ} → AreJoined parts (heavy_in heavy) starts offsets count → AreLayered heavy parts heavy_places
    → ((face : ℕ) → face < 6 → AreChunks (chunks_on heavy face)) → IsLayout parts now heavy_places
    → IsSound parts heavy_places starts offsets now count
still_sound {parts} {heavy} {now} {heavy_places} {starts} {offsets} {count} joined layered chunks is =
    let was : IsLayout parts heavy heavy_places = record {
      neighbours = joined.neighbours;
      layered = layered;
      chunks = chunks;
      apart = joined.apart;
      within_limit = joined.within_limit;
    } in
    laid_sound is
    (laid_joined starts offsets count is joined.starts_are (joined.offsets_are ∙ offsets_stay was is) (joined.counted ∙ count_stays was is))

-- and if the heavy pairs stayed
pub put_or_kept : {A E : Type 0} (r : Result A E) (P : List (List Collection) → Type 0) (now was put : List (List Collection))
    → OnOk r (now ≡ put) → OnErr r (now ≡ was) → P put → P was → P now
put_or_kept (Ok v) P now was put done kept one other = subst P (sym done) one
put_or_kept (Err e) P now was put done kept one other = subst P (sym kept) other
