-- Lines by their line feeds.
use Rattle.std.proofs.Common.{◌≡◌, ℕ, ◌+◌, List, length}
use Rattle.std.specs.List.{count_by}
use Rattle.std.proofs.lemmas.List.Splits.{length-slice_split}
use Rattle.s2ix_text_parts.specs.Lines.{lines_of}
use Rattle.s2ix_text.specs.Feeds.{is_feed}

-- a text has one line more than line feeds
pub lines_counted : (text : List ℕ) → length (lines_of text) ≡ count_by is_feed text + 1
unfolding lines_of
lines_counted text = length-slice_split is_feed text
