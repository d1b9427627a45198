-- Private words: what each set operation keeps. No public contract cites them.
use Rattle.std.specs.Prelude.{◌⊎◌}
use Rattle.s2id_union.specs.declared.sweep.Operation.{Operation}
use Rattle.s2id_union.specs.declared.sweep.Operation.TheVariants.{Union, Difference}

abbrev pub Keeps : Operation → Type 0 → Type 0 → Type 0
Keeps Union A B = A ⊎ B
Keeps Difference A B = A × (B → ⊥)
