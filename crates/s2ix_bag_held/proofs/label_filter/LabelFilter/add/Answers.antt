-- The label's word has its bits from now on, and no bit goes.
use Rattle.std.proofs.Common.{◌<◌, ℕ, List, length, get_or, set, bit_or, subst, subst₂, sym, arith}
use Rattle.s2ix_bag_held.specs.LabelFilter.{LetsThrough, word_of}
use Rattle.s2ix_bag_pairs.specs.Label.{value_of}
use Rattle.s2ix_bag_held.proofs.LabelFilters.{set_own, set_others, word_below}
use Rattle.s2ix_bag_held.proofs.label_filter.LabelFilter.add.Goals as goal

pub returns-clause-own : goal.returns-clause-own
returns-clause-own c =
    let words = c.self.inside.words in
    let label = value_of c.args.label in
    let within : word_of label < length words = omega (arith, c.self.told, word_below label) in
    subst₂ (λ (at bits : ℕ). LetsThrough (set words at (bit_or (get_or words at 0) bits)) label) (sym c.word_of.ensures.word)
    (sym c.bits_of.ensures) (set_own words label within)

pub returns-clause-others : goal.returns-clause-others
returns-clause-others c = λ other was.
    set_others c.self.inside.words c.word_of.result c.bits_of.result other (omega (arith, c.self.told, c.word_of.ensures.within))
    (subst (λ (words : List ℕ). LetsThrough words other) (sym c.self.view_is) was)
