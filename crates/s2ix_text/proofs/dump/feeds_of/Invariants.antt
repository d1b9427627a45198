-- What is counted, and what is left, is no more than the text has.
use Rattle.std.proofs.Common.{◌+◌, ◌≤◌}
use Rattle.std.specs.List.{count_by}
use Rattle.std.specs.Slice.Iter.{chunks_rest}
use Rattle.s2ix_text.specs.Feeds.{is_feed}
use Rattle.s2ix_text.proofs.dump.feeds_of.Given as goal

abbrev pub invariant-loop-block : goal.invariant-loop-block
invariant-loop-block l = l.feeds + count_by is_feed (chunks_rest l.block-iterator) ≤ count_by is_feed l.text
