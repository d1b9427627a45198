-- The versions of dumps and journals.
use Rattle.std.specs.Prelude.{ℕ, if◌then◌else◌, codes, Option, Some, None, List}
use Rattle.std.specs.Str.{bytes_eq}
use Rattle.s2ix_text_write.specs.declared.version.Version.{Version}
use Rattle.s2ix_text_write.specs.declared.version.Version.TheVariants.{First, Second}

-- the first line of a dump
abbrev pub dump_header : Version → List ℕ
dump_header First = codes "s2ix 1"
dump_header Second = codes "s2ix 2"

-- the first line of a journal
abbrev pub journal_header : Version → List ℕ
journal_header First = codes "s2ix-journal 1"
journal_header Second = codes "s2ix-journal 2"

-- the greatest count that a text of a version writes
abbrev pub greatest_in : Version → ℕ
greatest_in First = 65535
greatest_in Second = 4294967295

-- the version whose header of one kind a line is
abbrev pub version_of : (Version → List ℕ) → List ℕ → Option Version
version_of header line =
    if bytes_eq line (header First) then Some First
    else (if bytes_eq line (header Second) then Some Second else None)

-- the version that the first line of a dump names
unfoldable pub dump_version : List ℕ → Option Version
dump_version line = version_of dump_header line

-- the version that the first line of a journal names
unfoldable pub journal_version : List ℕ → Option Version
journal_version line = version_of journal_header line

-- the greatest count below a header: that of its version; below a line that is no header no count is read
abbrev pub greatest_below : Option Version → ℕ
greatest_below None = greatest_in Second
greatest_below (Some version) = greatest_in version
