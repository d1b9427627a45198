-- The lists of the pairs that came are made.
use Rattle.std.proofs.Common.{◌≡◌, ◌++◌, map}
use Rattle.serde_json.specs.View.{view}
use Rattle.s2ix_text_write.specs.Values.{pair_value}
use Rattle.s2ix_text_write.proofs.exporting.pair_lists.Given as goal

abbrev pub invariant-loop-held : goal.invariant-loop-held
invariant-loop-held l =
    (l.yielded ++ l.held-iterator ≡ l.bag.held) × (map view l.lists.items ≡ map pair_value l.yielded)
