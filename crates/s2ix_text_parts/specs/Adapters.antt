-- What the adapters hold: the reader or writer of std's, and how often it failed.
use Rattle.std.specs.Prelude.{ℕ}
use Rattle.s2ix_text_parts.specs.declared.from_read.FromRead.{FromRead}
use Rattle.s2ix_text_parts.specs.declared.to_write.ToWrite.{ToWrite}

-- the reader that a source reads from
abbrev pub reader_of : {R : Type 0} → FromRead R → R
reader_of source = source.inner

-- how often it failed
abbrev pub reader_faults : {R : Type 0} → FromRead R → ℕ
reader_faults source = source.faults

-- the writer that a sink writes to
abbrev pub writer_of : {W : Type 0} → ToWrite W → W
writer_of sink = sink.inner

-- how often it failed, or took nothing
abbrev pub writer_faults : {W : Type 0} → ToWrite W → ℕ
writer_faults sink = sink.faults
