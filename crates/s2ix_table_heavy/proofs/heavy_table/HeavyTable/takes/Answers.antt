use Rattle.std.proofs.Common.{◌≡◌, ℕ, nat_eq, false, not, ◌∙◌, arith}
use Rattle.std.proofs.lemmas.Bool.Decides.{nat_tests}
use Rattle.s2id_core.specs.CellId.{raw_of}
use Rattle.s2id_core.proofs.Cells.{same_cell}
use Rattle.s2ix_table_heavy.proofs.heavy_table.HeavyTable.takes.Goals as goal

not_apart : (a b : ℕ) → false ≡ not (nat_eq a b) → a ≡ b
not_apart a b e = grind (arith, nat_tests)

pub returns-then-follows_front : goal.returns-then-follows_front
returns-then-follows_front c = λ t.
    let first = c.first_held.result.pair.cell in
    let raw : raw_of first ≡ raw_of c.args.pair.cell = not_apart (raw_of first) (raw_of c.args.pair.cell) c.if-ne.ensures in
    let same = same_cell first c.args.pair.cell raw in
    record {
      cell = λ h i. c.first_held.ensures.one_cell h i ∙ same;
      after = c.follows_front.ensures c.if-follows_front.true;
      before = c.precedes_back.ensures t;
    }
