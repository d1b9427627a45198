-- What a line of a journal lacks, where it stands: outside a group as the line that begins one, inside as that of an entry.
use Rattle.std.specs.Prelude.{◌==◌, Bool, not, ◌||◌, is_none, if◌then◌else◌}
use Rattle.s2ix_text.specs.JournalFaults.{after_written, before_written, read_above, is_change}
use Rattle.s2ix_text.specs.Numbers.{size_written}
use Rattle.s2ix_text_parts.specs.LineFaults.{LineAt}
use Rattle.s2ix_text_parts.specs.Lines.{has_parts, part}

-- `change` and one part more, or four parts
abbrev pub lacks_form : LineAt → Bool
lacks_form p = if (read_above p.above).wanted == 0 then not (is_change p.line) else not (has_parts 4 p.line)

-- the number of entries, or the counts before and after
abbrev pub lacks_counts : LineAt → Bool
lacks_counts p =
    if (read_above p.above).wanted == 0
    then is_none (size_written (part 1 p.line))
    else (is_none (before_written p) || is_none (after_written p))
