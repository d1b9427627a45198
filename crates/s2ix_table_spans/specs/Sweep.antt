-- What a sweep over a span of leaves makes.
use Rattle.std.specs.Prelude.{◌≡◌, ℕ, ◌+◌, ◌-◌, ◌*◌, ◌≤◌, List, length, slice_get, option_map}
use Rattle.std.specs.Option.{unwrap_or}
use Rattle.s2id_core.specs.CellId.{end_of}
use Rattle.s2ix_bag_pairs.specs.Collection.{Collection}
use Rattle.s2ix_table_walk.specs.Table.{IsTableOver}
use Rattle.s2ix_table_spans.specs.declared.pass.Pass.{Pass}
use Rattle.s2ix_table_spans.specs.Chains.{AreOuter, AreFirsts}
use Rattle.s2ix_table_spans.specs.Order.{at_place, begin_at}
use Rattle.s2ix_table_spans.specs.Pass.{progress_of}
use Rattle.s2ix_table_spans.specs.Starts.{ranges_from}

-- nothing is open or written, and there is room for all
pub record IsFresh (held : Collection) (pass : Pass) : Type 0 where
  pub top : pass.frontier.top ≡ length held
  pub count : pass.frontier.count ≡ 0
  pub outer : length pass.outer.items ≡ length held
  pub starts : length pass.starts.items ≡ 2 * length held + 1
  pub firsts : length pass.firsts.items ≡ 2 * length held + 1

-- the ranges over a span are written, and each place leads outwards
pub record IsSwept (held : Collection) (from to : ℕ) (pass : Pass) : Type 0 where
  pub outer : AreOuter held pass.outer.items
  pub size : length pass.outer.items ≡ length held
  pub firsts : AreFirsts held (progress_of pass).starts (progress_of pass).firsts
  pub table : IsTableOver held from to (ranges_from held (progress_of pass).starts to)
  pub within_limit : pass.frontier.count ≤ 2 * length held + 1
  pub starts_room : length pass.starts.items ≡ 2 * length held + 1
  pub firsts_room : length pass.firsts.items ≡ 2 * length held + 1

-- where the k-th place of an order begins, and after the last the end of the span
abbrev pub start_at : Collection → List ℕ → ℕ → ℕ → ℕ
start_at held order to k = unwrap_or (option_map (begin_at held) (slice_get order k)) to

-- the last number in the cell of a place, that before its end
abbrev pub last_at : Collection → ℕ → ℕ
last_at held place = at_place (λ h. end_of h.pair.cell - 1) held place
