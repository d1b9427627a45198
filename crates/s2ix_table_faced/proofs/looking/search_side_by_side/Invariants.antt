-- Digits are left.
use Rattle.s2ix_table_faced.proofs.looking.search_side_by_side.Given as goal

abbrev pub decreases-loop-digit : goal.decreases-loop-digit
decreases-loop-digit l = l.digit
