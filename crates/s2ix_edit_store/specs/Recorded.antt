-- How large the changes are that a store records.
use Rattle.std.specs.Prelude.{◌*◌, ◌≤◌, List, length, All}
use Rattle.s2ix_bag_pairs.specs.declared.limits.Limits.{Limits}
use Rattle.s2ix_bag_pairs.specs.declared.pair.Entry.{Entry}
use Rattle.s2ix_bag_pairs.specs.Change.{IsChangeList}
use Rattle.s2ix_bag_pairs.specs.Limits.{count_limit, pairs_limit}

-- a change between two bags with these limits: it has an entry, and no more of them than both bags may hold pairs; and each
-- count, before and after, is within the limit
pub record IsRecorded (limits : Limits) (es : List Entry) : Type 0 where
  pub rises : IsChangeList es
  pub some : 1 ≤ length es
  pub within_limit : length es ≤ 2 * pairs_limit limits
  pub small_before : All (λ e. e.before ≤ count_limit limits) es
  pub small_after : All (λ e. e.after ≤ count_limit limits) es
