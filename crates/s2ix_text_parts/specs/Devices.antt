-- How the devices in memory are set: how much they move a call, and where they fail.
use Rattle.std.specs.Prelude.{ℕ, Bool, List}
use Rattle.arrayvec.specs.ArrayVec.{array_vec_len}
use Rattle.s2ix_text_parts.specs.declared.array_sink.ArraySink.{ArraySink}
use Rattle.s2ix_text_parts.specs.declared.slice_source.SliceSource.{SliceSource}
use Rattle.s2ix_text_parts.specs.declared.keeping_sink.KeepingSink.{KeepingSink}

-- the bytes that are still to come
abbrev pub bytes_left_of : SliceSource → List ℕ
bytes_left_of source = source.left.now

-- how many bytes the source gives a call, at most
abbrev pub piece_len_of : SliceSource → ℕ
piece_len_of source = source.piece_len

-- which of the coming calls of the source fails, counted from 1; at 0 none does
abbrev pub source_fault_at : SliceSource → ℕ
source_fault_at source = source.calls_to_fault

-- how many bytes the sink takes a call, at most
abbrev pub put_len_of : KeepingSink → ℕ
put_len_of sink = sink.put_len

-- which of the coming calls of the sink's `put` fails, counted from 1; at 0 none does
abbrev pub sink_fault_at : KeepingSink → ℕ
sink_fault_at sink = sink.calls_to_fault

-- whether the sink's `flush` fails
abbrev pub flush_fails : KeepingSink → Bool
flush_fails sink = sink.is_flush_failing

-- how many bytes the sink had taken at its last flush
abbrev pub flushed_len_of : KeepingSink → ℕ
flushed_len_of sink = sink.flushed_len

-- how many bytes the sink of a fixed room took
abbrev pub kept_len_of : {ROOM : ℕ} → ArraySink ROOM → ℕ
kept_len_of sink = array_vec_len sink.kept
