-- A line that begins with `#` asks for nothing.
use Rattle.std.proofs.Common.{◌≡◌, ℕ, ◌==◌, true≢false, true, if◌then◌else◌, Ok, Some, None, List, [], ◌∷◌, sym, ap, ◌∙◌}
use Rattle.std.specs.Prelude.{slice_index}
use Rattle.std.proofs.lemmas.Bool.{eqb-true}
use Rattle.s2ix_cli_words.specs.Fields.{fields_of, is_plain}
use Rattle.s2ix_cli_words.proofs.FieldStart.{fields_of-begins}
use Rattle.s2ix_cli_script.specs.Named.{map_ok}
use Rattle.s2ix_cli_script.specs.Meaning.{asked_by, meaning_of_fields}

pub comment_means : (line : List ℕ) → slice_index line 0 == 35 ≡ true → meaning_of_fields (fields_of line) ≡ Ok None
comment_means [] is = absurd (true≢false (sym is))
comment_means (byte ∷ line) is =
    let first = fields_of-begins byte line (ap is_plain (eqb-true byte 35 is)) in
    ap meaning_of_fields first.are
    ∙ ap (λ v. if v then Ok None else map_ok Some (asked_by first.field first.rest)) (ap (λ b. b == 35) first.begins ∙ is)
