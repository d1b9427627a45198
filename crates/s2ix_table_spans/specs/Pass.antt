-- What a step of a sweep writes.
use Rattle.std.specs.Prelude.{◌≡◌, ℕ, ◌+◌, nat_lt, if◌then◌else◌, List, [], ◌∷◌, ◌++◌, length, take}
use Rattle.s2ix_table_spans.specs.declared.pass.Pass.{Pass}
use Rattle.s2ix_table_spans.specs.declared.pass.Frontier.{Frontier}

-- where a sweep has come to, and the ranges that it has written: their starts, and beside them the places of their innermost pairs
pub record Progress : Type 0 where
  pub count : ℕ
  pub at : ℕ
  pub top : ℕ
  pub starts : List ℕ
  pub firsts : List ℕ

abbrev pub progress_of : Pass → Progress
progress_of pass = record {
  count = pass.frontier.count;
  at = pass.frontier.at;
  top = pass.frontier.top;
  starts = take pass.frontier.count pass.starts.items;
  firsts = take pass.frontier.count pass.firsts.items;
}

-- a pass that stands there
abbrev pub with_frontier : Frontier → Pass → Pass
with_frontier frontier pass = record { outer = pass.outer; starts = pass.starts; firsts = pass.firsts; frontier = frontier }

-- the range up to a bound is written, and the sweep stands at the bound; where it stands there or after it, nothing changes
abbrev pub written : ℕ → Progress → Progress
written bound s =
    if nat_lt s.at bound then record { count = s.count + 1; at = bound; top = s.top; starts = s.starts ++ s.at ∷ []; firsts = s.firsts ++ s.top ∷ [] }
    else s

-- a step of a pass: nothing but its progress changes
pub record IsWritten (bound : ℕ) (old new : Pass) : Type 0 where
  pub progress : progress_of new ≡ written bound (progress_of old)
  pub outer : new.outer.items ≡ old.outer.items
  pub starts_room : length new.starts.items ≡ length old.starts.items
  pub firsts_room : length new.firsts.items ≡ length old.firsts.items
