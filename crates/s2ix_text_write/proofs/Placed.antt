-- Texts that are written at a place, and how many digits a number has.
use Rattle.std.proofs.Common.{◌≡◌, ℕ, ◌+◌, ◌-◌, ◌^◌, ◌/◌, ◌<◌, ◌≤◌, List, [], ◌∷◌, ◌++◌, length, take, drop, append_assoc, refl, sym, ap, ap₂, ◌∙◌, subst, ⊎_elim, arith}
use Rattle.std.specs.Prelude.{codes, decimal}
use Rattle.std.specs.Int.{w64, trailing_zeros}
use Rattle.std.proofs.Math.Nat.{pow-le-pow_right}
use Rattle.std.proofs.Math.Seq.{take-add, take-append-add, take-append_seam}
use Rattle.std.proofs.lemmas.Bool.{cases_lt}
use Rattle.std.proofs.lemmas.Fmt.{decimal_is_IsNumeral, decimal_nonempty, length-decimal-le}
use Rattle.std.proofs.lemmas.Int.Digits.{digits_value-lt}
use Rattle.std.proofs.lemmas.List.{length-take-le, take-append-le}
use Rattle.s2id_core.specs.Cell.{IsCellNumber}
use Rattle.s2id_core.specs.CellId.{raw_of}
use Rattle.s2id_core.specs.Token.{canonical_token, sixteen_digits}
use Rattle.s2id_core.proofs.Canonical.{length-canonical_token}
use Rattle.s2id_core.proofs.Printing.{canonical_by_zeros, length-sixteen_digits}
use Rattle.s2id_core.specs.declared.cell_id.CellId.{CellId}
use Rattle.s2ix_bag_pairs.specs.Label.{value_of}
use Rattle.s2ix_bag_pairs.specs.declared.label.Label.{Label}
use Rattle.s2ix_bag_pairs.specs.declared.pair.Entry.{Entry}
use Rattle.s2ix_bag_pairs.specs.declared.pair.Held.{Held}
use Rattle.s2ix_text_write.specs.Dump.{pair_line}
use Rattle.s2ix_text_write.specs.Journal.{entry_line}
use Rattle.s2ix_text_write.specs.Lists.{end_of_list, held_line, label_line, line_between, pair_text, token_line}

-- a text that starts at a place stands after what is before it
pub placed : (place start end : ℕ) (text old new : List ℕ) → start + length text ≡ end → end ≡ place + length text
    → drop start new ≡ text ++ drop end old → take start new ≡ take start old
    → take end new ≡ take place old ++ text
placed place start end text old new ends is past before =
    let same : start ≡ place = omega (arith, ends, is) in
    let front : take place new ≡ take place old = subst (λ n. take n new ≡ take n old) same before in
    let rest : drop place new ≡ text ++ drop end old = subst (λ n. drop n new ≡ text ++ drop end old) same past in
    ap (λ n. take n new) is ∙ take-add place (length text) new
    ∙ ap₂ (λ (a b : List ℕ). a ++ b) front (ap (take (length text)) rest ∙ take-append_seam text (drop end old))

-- a front of a text that is put after another
front_placed : (place n : ℕ) (old text rest : List ℕ) → place ≤ length old → n ≤ length text
    → take (place + n) (take place old ++ (text ++ rest)) ≡ take place old ++ take n text
front_placed place n old text rest fits within =
    ap (λ m. take (m + n) (take place old ++ (text ++ rest))) (sym (length-take-le place old fits))
    ∙ take-append-add (take place old) (text ++ rest) n ∙ ap (λ t. take place old ++ t) (take-append-le n text rest within)

-- sixteen digits are put after a text, and those before the last zeros count
pub token_placed : (place raw n : ℕ) (digits old rest : List ℕ) → IsCellNumber n → raw ≡ n → digits ≡ sixteen_digits n → place ≤ length old
    → take (place + 16 - trailing_zeros w64 raw / 4) (take place old ++ (digits ++ rest)) ≡ take place old ++ canonical_token n
token_placed place raw n digits old rest cell same is fits =
    let long = length-canonical_token n (omega arith) (omega arith) in
    let all = length-sixteen_digits n in
    let end : place + 16 - trailing_zeros w64 n / 4 ≡ place + (16 - trailing_zeros w64 n / 4) = omega arith in
    ap (λ x. take (place + 16 - trailing_zeros w64 x / 4) (take place old ++ (digits ++ rest))) same
    ∙ ap (λ d. take (place + 16 - trailing_zeros w64 n / 4) (take place old ++ (d ++ rest))) is
    ∙ ap (λ x. take x (take place old ++ (sixteen_digits n ++ rest))) end
    ∙ front_placed place (16 - trailing_zeros w64 n / 4) old (sixteen_digits n) rest fits (omega arith)
    ∙ ap (λ t. take place old ++ t) (sym (canonical_by_zeros n (omega arith) (omega arith)))

-- the line of a held pair, part by part
pub line_placed : (between : ℕ) (h : Held) (label : ℕ) (a b c d e f g : List ℕ) → label ≡ value_of h.pair.label
    → b ≡ a ++ canonical_token (raw_of h.pair.cell) → c ≡ b ++ between ∷ [] → d ≡ c ++ decimal label → e ≡ d ++ between ∷ []
    → f ≡ e ++ decimal h.count → g ≡ f ++ 10 ∷ [] → g ≡ a ++ line_between between h
unfolding line_between
line_placed between h label a b c d e f g label_is b_is c_is d_is e_is f_is g_is =
    rw (g_is, f_is, e_is, d_is, c_is, b_is, label_is) (simp append_assoc)

pub pair_line_between : (h : Held) → line_between 32 h ≡ pair_line h
unfolding line_between pair_line
pair_line_between h = refl

pub held_line_between : (h : Held) → line_between 58 h ≡ held_line h
unfolding line_between held_line pair_text
held_line_between h = simp append_assoc

-- the line of a label, part by part
pub label_placed : (label : Label) (number : ℕ) (a b c : List ℕ) → number ≡ value_of label → b ≡ a ++ decimal number → c ≡ b ++ 10 ∷ []
    → c ≡ a ++ label_line label
unfolding label_line
label_placed label number a b c is b_is c_is = rw (c_is, b_is, is) (simp append_assoc)

-- the line of a cell, part by part
pub cell_placed : (cell : CellId) (a b c : List ℕ) → b ≡ a ++ canonical_token (raw_of cell) → c ≡ b ++ 10 ∷ [] → c ≡ a ++ token_line cell
unfolding token_line
cell_placed cell a b c b_is c_is = rw (c_is, b_is) (simp append_assoc)

-- the line of an entry, part by part
pub entry_placed : (entry : Entry) (label : ℕ) (a b c d e f g h i : List ℕ) → label ≡ value_of entry.pair.label
    → b ≡ a ++ canonical_token (raw_of entry.pair.cell) → c ≡ b ++ 32 ∷ [] → d ≡ c ++ decimal label → e ≡ d ++ 32 ∷ []
    → f ≡ e ++ decimal entry.before → g ≡ f ++ 32 ∷ [] → h ≡ g ++ decimal entry.after → i ≡ h ++ 10 ∷ []
    → i ≡ a ++ entry_line entry
unfolding entry_line
entry_placed entry label a b c d e f g h i label_is b_is c_is d_is e_is f_is g_is h_is i_is =
    rw (i_is, h_is, g_is, f_is, e_is, d_is, c_is, b_is, label_is) (simp append_assoc)

-- the last line of a list, part by part
pub end_placed : (count : ℕ) (a b c d : List ℕ) → b ≡ a ++ codes "end " → c ≡ b ++ decimal count → d ≡ c ++ 10 ∷ []
    → d ≡ a ++ end_of_list count
unfolding end_of_list
end_placed count a b c d b_is c_is d_is = rw (d_is, c_is, b_is) (simp append_assoc)

-- the value of digits is below the power of ten that they reach
below_its_power : (n : ℕ) → n < 2 ^ 64 → n < 10 ^ length (decimal n)
below_its_power n small =
    let numeral = decimal_is_IsNumeral n small in
    subst (λ x. x < 10 ^ length (decimal n)) numeral.1 (digits_value-lt 10 (decimal n) numeral.0.1)

too_few : (digits k n : ℕ) → digits ≤ k → n < 10 ^ digits → 10 ^ k ≤ n → ⊥
too_few digits k n within_limit below high = let low : 10 ^ digits ≤ 10 ^ k = pow-le-pow_right (omega arith) within_limit in omega arith

-- a number has more digits than the powers of ten that it reaches
pub more_digits : (k n : ℕ) → 10 ^ k ≤ n → n < 2 ^ 64 → k < length (decimal n)
more_digits k n high small =
    ⊎_elim (λ less. less) (λ within_limit. absurd (too_few (length (decimal n)) k n within_limit (below_its_power n small) high)) (cases_lt k (length (decimal n)))

-- a number between two powers of ten
pub digits_between : (k n : ℕ) → 10 ^ k ≤ n → n < 10 ^ (k + 1) → n < 2 ^ 64 → k + 1 ≡ length (decimal n)
digits_between k n high below small =
    let more = more_digits k n high small in
    let within_limit = length-decimal-le (k + 1) n (omega arith) below small in
    omega arith

-- a number below ten
pub one_digit : (n : ℕ) → n < 10 → 1 ≡ length (decimal n)
one_digit n below =
    let some = decimal_nonempty n (omega arith) in
    let within_limit = length-decimal-le 1 n (omega arith) (omega arith) (omega arith) in
    omega arith
