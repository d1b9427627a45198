-- What is counted is no more than the bytes so far have.
use Rattle.std.proofs.Common.{◌≤◌, take}
use Rattle.std.specs.List.{count_by}
use Rattle.s2ix_text.specs.Feeds.{is_feed}
use Rattle.s2ix_text.proofs.dump.feeds_in.Given as goal

abbrev pub invariant-loop-byte : goal.invariant-loop-byte
invariant-loop-byte l = l.feeds ≤ count_by is_feed (take l.byte-index l.block)
