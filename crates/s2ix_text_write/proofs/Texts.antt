-- The compact text of a collection's JSON is its export.
use Rattle.std.proofs.Common.{◌≡◌, ℕ, List, [], ◌∷◌, ◌++◌, true, false, All, refl, sym, ap, ap₂, ◌∙◌, ⊎_elim, append_assoc, map, arith}
use Rattle.std.specs.Prelude.{codes, decimal, flat_map}
use Rattle.std.specs.Fmt.{digits}
use Rattle.std.specs.List.{join_by}
use Rattle.std.proofs.lemmas.List.Elements.{All-head, All-tail}
use Rattle.json.specs.Print.{escape}
use Rattle.json.proofs.Printed.Strings.{escape_byte_plain}
use Rattle.serde_json.specs.Written.{compact_text, has_float, items_text, items_have_float}
use Rattle.serde_json.specs.View.{items_of}
use Rattle.serde_json.proofs.OnLiterals.{serde_json_on_literals}
use Rattle.s2id_core.specs.CellId.{raw_of}
use Rattle.s2id_core.specs.Token.{canonical_token, IsLowerHex}
use Rattle.s2id_core.proofs.Canonical.{lower-canonical_token}
use Rattle.s2ix_bag_pairs.specs.declared.pair.Held.{Held}
use Rattle.s2ix_bag_pairs.specs.Label.{value_of}
use Rattle.s2ix_bag_pairs.specs.Collection.{Collection}
use Rattle.s2ix_text_write.specs.Export.{pair_json, export_text}
use Rattle.s2ix_text_write.specs.Values.{export_value, pair_value}

-- ---- a pair

-- no byte of a token has an escape
escape_token : (xs : List ℕ) → All IsLowerHex xs → escape xs ≡ xs
escape_token [] lower = refl
escape_token (x ∷ xs) lower =
    let first : IsLowerHex x = All-head IsLowerHex x xs lower in
    ap₂ (λ (text rest : List ℕ). text ++ rest)
    (escape_byte_plain x
    (λ quote. ⊎_elim (λ digit. omega (arith, digit)) (λ letter. omega (arith, letter)) first)
    (λ backslash. ⊎_elim (λ digit. omega (arith, digit)) (λ letter. omega (arith, letter)) first)
    (⊎_elim (λ digit. omega (arith, digit)) (λ letter. omega (arith, letter)) first))
    (escape_token xs (All-tail IsLowerHex x xs lower))

pub pair_text : (h : Held) → compact_text (pair_value h) ≡ pair_json h
unfolding pair_json
pair_text h =
    let token = canonical_token (raw_of h.pair.cell) in
    let rest = 44 ∷ (decimal (value_of h.pair.label) ++ 44 ∷ (decimal h.count ++ 93 ∷ [])) in
    ap (λ (text : List ℕ). 91 ∷ 34 ∷ ((text ++ 34 ∷ []) ++ rest)) (escape_token token (lower-canonical_token (raw_of h.pair.cell)))
    ∙ ap (λ (text : List ℕ). 91 ∷ 34 ∷ text) (append_assoc token (34 ∷ []) rest)

-- ---- a list of pairs

later_pairs : (hs : Collection) → items_text true (items_of (map pair_value hs)) ≡ flat_map (λ h. codes "," ++ pair_json h) hs ++ 93 ∷ []
later_pairs [] = refl
later_pairs (h ∷ hs) =
    ap₂ (λ (text rest : List ℕ). 44 ∷ (text ++ rest)) (pair_text h) (later_pairs hs)
    ∙ sym (append_assoc (44 ∷ pair_json h) (flat_map (λ h. codes "," ++ pair_json h) hs) (93 ∷ []))

pairs_text : (hs : Collection) → items_text false (items_of (map pair_value hs)) ≡ join_by pair_json (codes ",") hs ++ 93 ∷ []
pairs_text [] = refl
pairs_text (h ∷ hs) =
    ap₂ (λ (text rest : List ℕ). text ++ rest) (pair_text h) (later_pairs hs)
    ∙ sym (append_assoc (pair_json h) (flat_map (λ h. codes "," ++ pair_json h) hs) (93 ∷ []))

pub pairs_no_float : (hs : Collection) → items_have_float (items_of (map pair_value hs)) ≡ false
pairs_no_float [] = refl
pairs_no_float (h ∷ hs) = pairs_no_float hs

-- ---- the export

pub whole_no_float : (hs : Collection) → has_float (export_value (items_of (map pair_value hs))) ≡ false
whole_no_float hs = rw (pairs_no_float hs)

pub whole_text : (hs : Collection) → compact_text (export_value (items_of (map pair_value hs))) ≡ export_text hs
unfolding serde_json_on_literals digits export_text
whole_text hs =
    ap (λ (text : List ℕ). codes "{\"pairs\":[" ++ (text ++ codes ",\"version\":1}")) (pairs_text hs)
    ∙ ap (λ (text : List ℕ). codes "{\"pairs\":[" ++ text)
    (append_assoc (join_by pair_json (codes ",") hs) (93 ∷ []) (codes ",\"version\":1}"))
