use Rattle.s2ix_table_spans.proofs.Exchanges.{part_rises}
use Rattle.s2ix_table_spans.proofs.block.has_changes.Goals as goal

pub are_within-requires : goal.are_within-requires
are_within-requires c = record { rises = part_rises _ _ c.args.held.now c.requires.rises }

pub are_within-requires-then-are_within : goal.are_within-requires-then-are_within
are_within-requires-then-are_within c = record { rises = part_rises _ _ c.args.next.now c.requires.next_rises }

pub returns-then-are_within : goal.returns-then-are_within
returns-then-are_within c = record {
  old = λ _ h is. (c.are_within.ensures.from c.if-are_within.true h is, c.are_within.ensures.to c.if-are_within.true h is);
  new = λ t h is. (c.are_within-then-are_within.ensures.from t h is, c.are_within-then-are_within.ensures.to t h is);
}
