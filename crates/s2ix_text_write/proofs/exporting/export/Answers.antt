-- What is built is the JSON of the collection, which holds no fraction.
use Rattle.std.proofs.Common.{◌∙◌, ap}
use Rattle.serde_json.specs.Written.{compact_text, has_float}
use Rattle.serde_json.specs.View.{items_of}
use Rattle.s2ix_text_write.specs.Values.{export_value}
use Rattle.s2ix_text_write.proofs.Texts.{whole_no_float, whole_text}
use Rattle.s2ix_text_write.proofs.exporting.export.Goals as goal

pub returns : goal.returns
returns c =
    let hs = c.args.bag.now.held in
    let whole = c.in_ok-whole.ensures ∙ ap (λ xs. export_value (items_of xs)) c.in_ok-pairs.ensures in
    c.in_ok-to_string.ensures.text (ap has_float whole ∙ whole_no_float hs) ∙ ap compact_text whole ∙ whole_text hs
