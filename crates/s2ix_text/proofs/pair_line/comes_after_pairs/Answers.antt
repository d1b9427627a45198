use Rattle.std.proofs.Common.{Option, Some, ◌∙◌, ap}
use Rattle.std.specs.Option.{option_map}
use Rattle.std.proofs.lemmas.Bool.{ltb_from_iff}
use Rattle.s2ix_bag_pairs.specs.declared.pair.Held.{Held}
use Rattle.s2ix_bag_pairs.specs.declared.pair.Pair.{Pair}
use Rattle.s2ix_text_parts.specs.Written.{comes_before}
use Rattle.s2ix_text_parts.proofs.Rests.{last_read}
use Rattle.s2ix_text.proofs.pair_line.comes_after_pairs.Goals as goal

pub returns-in-Some : goal.returns-in-Some
returns-in-Some c =
    ltb_from_iff c.is_before.ensures ∙ ap (λ (p : Pair). comes_before (Some p) (Some c.args.pair)) c.pair.ensures
    ∙ ap (λ (o : Option Held). comes_before (option_map (λ (h : Held). h.pair) o) (Some c.args.pair))
    (c.in-Some.ensures.value ∙ last_read c.args.before.now)
