use Rattle.std.proofs.Common.{take, ℕ}
use Rattle.s2ix_bag_held.specs.LabelFilter.{LetsThrough, LetsThroughEntries}
use Rattle.s2ix_bag_held.proofs.label_filter.LabelFilter.add_entries.Given as goal

abbrev pub invariant-loop-entry : goal.invariant-loop-entry
invariant-loop-entry l =
    LetsThroughEntries l.self (take l.entry-index l.entries) × ((other : ℕ) → LetsThrough l.fn.self other → LetsThrough l.self other)
