-- A chunk without an entry stays as it is.
use Rattle.std.proofs.Common.{◌≡◌, ◌<◌, length, sym, ◌∙◌, subst, rules}
use Rattle.s2ix_bag_pairs.specs.Change.{changed}
use Rattle.s2ix_bag_pairs.specs.Collection.{Collection}
use Rattle.s2ix_table_heavy.specs.Chunks.{IsOfOneCell}
use Rattle.s2ix_table_parts.proofs.ChunksChanged.{chunk_pushed, no_change}
use Rattle.s2ix_table_parts.proofs.change.chunks_after.put_changed.Goals as goal

pub returns-then-is_empty-clause-chunks : goal.returns-then-is_empty-clause-chunks
returns-then-is_empty-clause-chunks c =
    let own : Collection = c.args.own.now in
    let none : length c.args.entries.now ≡ 0 = search rules in
    let same = sym (no_change own c.args.entries.now none) in
    let shared : c.in_ok-shared.shared ≡ own = search rules in
    let is = c.requires in
    (chunk_pushed c.args.chunks.now.items c.push.new.self.items (changed own c.args.entries.now) c.in_ok-shared.shared is.chunks is.rises is.within_limit
    (subst (λ (hs : Collection). 0 < length hs) same is.some) (subst (λ (hs : Collection). IsOfOneCell hs) same is.one_cell) (shared ∙ same)
    c.in_ok-push.ensures.items).0
