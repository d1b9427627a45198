-- Without pairs nothing lies over a leaf.
use Rattle.std.proofs.Common.{sym, ◌∙◌, rules}
use Rattle.s2ix_table_heavy.specs.HeavyChains.{heavy_chain}
use Rattle.s2ix_table_parts.proofs.NoHeavy.{none_over, leads_to_none}
use Rattle.s2ix_table_parts.proofs.heavy_pairs.HeavyPairs.first_over.Goals as goal

pub returns-in-None-clause-first : goal.returns-in-None-clause-first
returns-in-None-clause-first c = leads_to_none (heavy_chain c.args.self.now) c.args.leaf c.args.self.now (search rules)

pub returns-in-None-clause-until : goal.returns-in-None-clause-until
returns-in-None-clause-until c q odd ge lt =
    none_over q c.args.self.now (search rules) ∙ sym (none_over c.args.leaf c.args.self.now (search rules))
