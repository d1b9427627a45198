use Rattle.std.proofs.Common.{Option, Some, ◌∙◌, ap}
use Rattle.std.specs.Option.{option_map}
use Rattle.std.proofs.lemmas.Bool.{ltb_from_iff}
use Rattle.s2ix_bag_pairs.specs.declared.pair.Entry.{Entry}
use Rattle.s2ix_text_parts.specs.Written.{comes_before}
use Rattle.s2ix_text_parts.proofs.Rests.{last_read}
use Rattle.s2ix_text.proofs.entry_line.comes_after_entries.Goals as goal

pub returns-in-Some : goal.returns-in-Some
returns-in-Some c =
    ltb_from_iff c.is_before.ensures
    ∙ ap (λ (o : Option Entry). comes_before (option_map (λ (e : Entry). e.pair) o) (Some c.args.pair))
    (c.in-Some.ensures.value ∙ last_read c.args.before.now)
