-- Under the changed chunk all that is kept of the parts is right, as it is if the chunk stays.
use Rattle.std.proofs.Common.{List, set}
use Rattle.s2ix_bag_pairs.specs.Collection.{Collection}
use Rattle.s2ix_table_parts.specs.FaceSpans.{heavy_places_of, spans_of}
use Rattle.s2ix_table_faced.specs.Layout.{chunks_on}
use Rattle.s2ix_table_faced.proofs.SameOffsets.{put_or_kept, still_sound}
use Rattle.s2ix_table_faced.proofs.Sound.{IsSound, sound_of}
use Rattle.s2ix_table_faced.proofs.faced_table.FacedTable.put_chunk.Goals as goal

pub invariant_of-self : goal.invariant_of-self
invariant_of-self c =
    let t = c.args.self.now in
    let Sound : List (List Collection) → Type 0 =
    λ hs. IsSound (spans_of t.parts.items) (heavy_places_of t.parts.items) t.begins.starts.items t.offsets.items hs t.count in
    let put = set t.heavy c.args.face (set (chunks_on t.heavy c.args.face) c.args.chunk.number c.args.chunk.held) in
    let sound = put_or_kept c.put_chunk_on.result Sound c.put_chunk_on.new.heavy t.heavy put c.put_chunk_on.ensures.put c.put_chunk_on.ensures.stay
    (still_sound t.joined t.layered c.all_are_chunks.ensures c.requires.layout)
    (sound_of t) in
    record { joined = sound.joined; layered = sound.layered; rises = sound.rises; table = sound.table; bordered = sound.bordered; once = sound.once }
