use Rattle.std.proofs.Common.{◌≡◌, ◌<◌, inl, inr, Contains, slice_index_or, length, sym, subst, rules}
use Rattle.std.proofs.lemmas.List.{get_or_read}
use Rattle.s2ix_bag_pairs.proofs.Pairs.{same_label}
use Rattle.s2ix_bag_pairs.specs.Label.{value_of}
use Rattle.s2ix_table_queries.proofs.labels.put.Goals as goal

pub returns-then-eq : goal.returns-then-eq
returns-then-eq c =
    let place = slice_index_or c.args.places.now c.slot_of-slot.result 0 in
    let within : place < length c.args.labels.now.items = search rules in
    let same : value_of (slice_index_or c.args.labels.now.items place c.args.label) ≡ value_of c.args.label =
    search (rules, get_or_read c.args.labels.now.items _ _ within c.index.ensures c.args.label) in
    let found : Contains c.args.labels.now.items c.args.label = (place, within, same_label _ _ same) in
    λ other. (
      λ old. inl old,
      λ either.
          elim either [
            | inl old ↦ old
            | inr is ↦ subst (Contains c.args.labels.now.items) (sym is) found
          ],
    )
