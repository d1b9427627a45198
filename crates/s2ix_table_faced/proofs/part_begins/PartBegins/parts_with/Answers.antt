use Rattle.std.proofs.Common.{ℕ, ◌<◌, List, AllPairs, subst, sym}
use Rattle.s2ix_table_faced.proofs.part_begins.PartBegins.parts_with.Goals as goal

pub parts_with-requires-clause-rises : goal.parts_with-requires-clause-rises
parts_with-requires-clause-rises c =
    subst (λ (ns : List ℕ). AllPairs (λ a b. a < b) ns) (sym c.deref.ensures.value) c.args.self.now.rises
