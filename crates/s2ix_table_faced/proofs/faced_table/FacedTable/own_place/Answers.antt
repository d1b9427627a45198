use Rattle.std.proofs.Common.{◌≡◌, ◌-◌, List, length, sym, ap, subst, arith}
use Rattle.s2ix_table_spans.specs.Starts.{IsAmong, IsLastStart}
use Rattle.s2ix_table_faced.specs.declared.offset.Offset.{Offset}
use Rattle.s2ix_table_parts.specs.FaceSpans.{spans_of}
use Rattle.s2ix_table_faced.specs.Offsets.{places_of, place_on, HasOwn, HasRange}
use Rattle.s2ix_table_faced.proofs.Counts.{all_offsets, own_of, last_listed}
use Rattle.s2ix_table_faced.proofs.Reading.{many_offsets, offset_read}
use Rattle.s2ix_table_faced.proofs.faced_table.FacedTable.own_place.Goals as goal

pub last_by-part-requires-clause-listed : goal.last_by-part-requires-clause-listed
last_by-part-requires-clause-listed c = omega (arith, ap (λ (os : List Offset). length os) c.deref.ensures.value)

pub last_by-part-requires-clause-among : goal.last_by-part-requires-clause-among
last_by-part-requires-clause-among c =
    let t = c.args.self.now in
    let size : length t.offsets.items ≡ c.len-size.result = omega (arith, t.offsets.ok.0, c.len-size.ensures) in
    subst (λ (os : List Offset). IsAmong (places_of os) c.args.k 0 c.len-size.result) (sym c.deref.ensures.value)
    (subst (IsAmong (places_of t.offsets.items) c.args.k 0) size (all_offsets c.args.k t.joined))

pub index-requires : goal.index-requires
index-requires c =
    let t = c.args.self.now in
    let part = c.last_by-part.result in
    let last = subst (λ (os : List Offset). IsLastStart (places_of os) c.args.k part) c.deref.ensures.value c.last_by-part.ensures in
    omega (arith, last_listed part t.joined last, many_offsets t.joined, t.offsets.ok.0)

pub overflow_sub-result : goal.overflow_sub-result
overflow_sub-result c =
    let t = c.args.self.now in
    let part = c.last_by-part.result in
    let last = subst (λ (os : List Offset). IsLastStart (places_of os) c.args.k part) c.deref.ensures.value c.last_by-part.ensures in
    let is = offset_read part c.index.result.now t.joined (last_listed part t.joined last) c.index.ensures in
    omega (arith, (own_of c.args.k part t.joined last c.requires).from, ap (λ (o : Offset). o.place) is)

pub returns-clause-range : goal.returns-clause-range
returns-clause-range c =
    let t = c.args.self.now in
    let part = c.last_by-part.result in
    let last = subst (λ (os : List Offset). IsLastStart (places_of os) c.args.k part) c.deref.ensures.value c.last_by-part.ensures in
    let is = offset_read part c.index.result.now t.joined (last_listed part t.joined last) c.index.ensures in
    subst (λ (o : Offset). HasRange (spans_of t.parts.items) part (c.args.k - o.place)) (sym is)
    (own_of c.args.k part t.joined last c.requires).range

pub returns-clause-own : goal.returns-clause-own
returns-clause-own c =
    let t = c.args.self.now in
    let part = c.last_by-part.result in
    let last = subst (λ (os : List Offset). IsLastStart (places_of os) c.args.k part) c.deref.ensures.value c.last_by-part.ensures in
    let is = offset_read part c.index.result.now t.joined (last_listed part t.joined last) c.index.ensures in
    subst (λ (o : Offset). HasOwn t.offsets.items t.count part (c.args.k - o.place)) (sym is)
    (own_of c.args.k part t.joined last c.requires).has

pub returns-clause-place : goal.returns-clause-place
returns-clause-place c =
    let t = c.args.self.now in
    let part = c.last_by-part.result in
    let last = subst (λ (os : List Offset). IsLastStart (places_of os) c.args.k part) c.deref.ensures.value c.last_by-part.ensures in
    let is = offset_read part c.index.result.now t.joined (last_listed part t.joined last) c.index.ensures in
    subst (λ (o : Offset). place_on t.offsets.items part (c.args.k - o.place) ≡ c.args.k) (sym is)
    (own_of c.args.k part t.joined last c.requires).place
