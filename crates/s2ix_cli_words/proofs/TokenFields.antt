-- A canonical token that a text begins with, with a space after it, is the text's first field.
use Rattle.std.proofs.Common.{◌≡◌, ◌∙◌, ℕ, All, List, [], ◌∷◌, ◌++◌, Option, None, Some, ap, arith, false, refl, sym, true}
use Rattle.std.specs.List.{list_all}
use Rattle.std.specs.Option.{is_some}
use Rattle.std.proofs.lemmas.Bool.{and_from}
use Rattle.std.proofs.lemmas.Bool.Decides.{nat_tests}
use Rattle.std.proofs.lemmas.List.Elements.{All-head, All-tail}
use Rattle.s2id_core.specs.Cell.{IsCellNumber}
use Rattle.s2id_core.specs.Token.{IsLowerHex, canonical_token}
use Rattle.s2id_core.proofs.Canonical.{canonical_spells, lower-canonical_token}
use Rattle.s2ix_cli_words.specs.Fields.{fields_left, fields_of, is_plain}
use Rattle.s2ix_cli_words.proofs.PlainFields.{fields_of-blank, first_field}

lower_is_plain : (byte : ℕ) → IsLowerHex byte → is_plain byte ≡ true
lower_is_plain byte lower = grind (arith, nat_tests)

lower_are_plain : (text : List ℕ) → All IsLowerHex text → list_all is_plain text ≡ true
lower_are_plain [] all = refl
lower_are_plain (byte ∷ text) all =
    and_from (is_plain byte) (list_all is_plain text) (lower_is_plain byte (All-head IsLowerHex byte text all))
    (lower_are_plain text (All-tail IsLowerHex byte text all))

pub fields_of-token : (n : ℕ) (rest : List ℕ) → IsCellNumber n
    → fields_of (canonical_token n ++ 32 ∷ rest) ≡ canonical_token n ∷ fields_of rest
fields_of-token n rest cell =
    first_field (canonical_token n) (32 ∷ rest) (canonical_spells n cell).some (lower_are_plain (canonical_token n) (lower-canonical_token n))
    (λ _. refl)
    ∙ ap (λ fields. canonical_token n ∷ fields) (fields_of-blank 32 rest refl)

-- if nothing is left of other fields, it is the first that is left
pub fields_left-token : (text front after : List ℕ) (wide : Option (List (List ℕ))) (n : ℕ) → is_some wide ≡ false
    → fields_of front ≡ fields_of text → front ≡ canonical_token n ++ 32 ∷ after → IsCellNumber n
    → fields_left text wide ≡ canonical_token n ∷ fields_left after wide
fields_left-token text front after (Some fields) n none same begins cell = cc
fields_left-token text front after None n none same begins cell = sym same ∙ ap fields_of begins ∙ fields_of-token n after cell
