-- Room changes nothing that a list has.
use Rattle.std.proofs.Common.{ap, refl}
use Rattle.s2ix_table_parts.specs.FaceSpans.{heavy_places_of, spans_of}
use Rattle.s2ix_table_faced.proofs.Sound.{same_lists, sound_of}
use Rattle.s2ix_table_faced.proofs.faced_table.FacedTable.make_room.Goals as goal

pub invariant_of-self : goal.invariant_of-self
invariant_of-self c =
    let t = c.args.self.now in
    let is = same_lists (ap spans_of c.reserve.ensures.items) (ap heavy_places_of c.reserve.ensures.items) refl refl (sound_of t) in
    record { joined = is.joined; layered = is.layered; rises = is.rises; table = is.table; bordered = is.bordered; once = is.once }

pub invariant_of-self-2 : goal.invariant_of-self-2
invariant_of-self-2 c =
    let t = c.args.self.now in
    let is = same_lists (ap spans_of c.reserve.ensures.items) (ap heavy_places_of c.reserve.ensures.items) refl c.reserve-2.ensures.items (sound_of t) in
    record { joined = is.joined; layered = is.layered; rises = is.rises; table = is.table; bordered = is.bordered; once = is.once }
