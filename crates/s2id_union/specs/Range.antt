-- Which spans of leaf numbers there are.
use Rattle.std.specs.Prelude.{◌≡◌, ℕ, ◌%◌, ◌≤◌}
use Rattle.s2id_core.specs.Span.{leaf_end}
use Rattle.s2id_union.specs.declared.error.RangeError.{RangeError}
use Rattle.s2id_union.specs.declared.error.RangeError.TheVariants.{BadRange, OutOfMemory}

-- both bounds are odd, and 1 <= start <= limit <= LEAF_END
pub record IsLeafRange (start limit : ℕ) : Type 0 where
  pub odd_start : start % 2 ≡ 1
  pub odd_limit : limit % 2 ≡ 1
  pub positive : 1 ≤ start
  pub rises : start ≤ limit
  pub on_curve : limit ≤ leaf_end

-- when each refusal is answered
abbrev pub IsRangeRefusal : RangeError → ℕ → ℕ → Type 0
IsRangeRefusal BadRange start limit = IsLeafRange start limit → ⊥
IsRangeRefusal OutOfMemory start limit = IsLeafRange start limit
