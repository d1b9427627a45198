use Rattle.std.proofs.Common.{false, refl, subst, sym, arith, Contains}
use Rattle.std.proofs.lemmas.Bool.{both_ways}
use Rattle.std.proofs.lemmas.List.Elements.{Contains-get_or}
use Rattle.s2ix_bag_lists.specs.Faces.{all_of}
use Rattle.s2ix_bag_pairs.specs.declared.pair.Entry.{Entry}
use Rattle.s2ix_table_spans.specs.Blocks.{HoldsCell}
use Rattle.s2ix_table_heavy.proofs.ChangedCells.{all_front, all_of_them}
use Rattle.s2ix_table_parts.proofs.change.light_after.are_light.Goals as goal

pub returns-then-has_cell : goal.returns-then-has_cell
returns-then-has_cell c =
    let es = c.args.entries.now in
    let e = c.entry-item.result in
    let held : Contains es e =
    subst (Contains es) (sym c.entry-item.is) (Contains-get_or es c.loop-entry.entry-index e c.loop-entry-test.true) in
    (λ none. absurd (both_ways false refl none), λ are. absurd (are e held (c.has_cell.ensures.0 c.if-has_cell.true)))

pub loop-entry-preserved : goal.loop-entry-preserved
loop-entry-preserved c =
    let e = c.entry-item.result in
    let heavy = all_of c.args.heavy.now in
    let IsLight : Entry → Type 0 = λ x. HoldsCell heavy x.pair.cell → ⊥ in
    all_front IsLight c.loop-entry.entry-index c.args.entries.now e c.loop-entry-test.true c.loop-entry.invariant
    (subst IsLight c.entry-item.is (λ holds. both_ways c.has_cell.result c.if-has_cell.false (c.has_cell.ensures.1 holds)))

pub returns : goal.returns
returns c =
    let heavy = all_of c.args.heavy.now in (
      λ all. all_of_them (λ (e : Entry). HoldsCell heavy e.pair.cell → ⊥) c.loop-entry.entry-index c.args.entries.now (omega arith)
          c.loop-entry.invariant,
      λ are. refl,
    )
