-- What the parts of a line write: canonical tokens and canonical numbers.
use Rattle.std.proofs.Common.{◌≡◌, ◌≢◌, ℕ, ◌^◌, ◌<◌, ◌≤◌, Bool, true, false, cond, Option, Some, None, Result, Ok, Err, List, refl, sym, ap, subst, ◌∙◌, ⊎_elim, arith}
use Rattle.std.specs.Prelude.{decimal, IsUtf8, MatchResult}
use Rattle.std.specs.Option.{option_and_then}
use Rattle.std.specs.Result.{result_ok}
use Rattle.std.specs.Str.{bytes_eq}
use Rattle.std.specs.Str.Parse.{digits_value, ParsesUnsigned}
use Rattle.std.proofs.lemmas.Bool.{both_ways, cases_lt, cond-true, cond-false, and_from, and_left, and_right, le-leb, lt-leb}
use Rattle.std.proofs.lemmas.Fmt.{IsAscii-decimal, decimal_is_IsNumeral, parse-decimal}
use Rattle.std.proofs.lemmas.Option.{cond_some}
use Rattle.std.proofs.lemmas.Slice.Eq.{bytes_eq-Decides}
use Rattle.std.proofs.lemmas.Str.{IsUtf8-from_ascii}
use Rattle.s2id_core.specs.declared.cell_id.CellId.{CellId}
use Rattle.s2id_core.specs.CellId.{raw_of}
use Rattle.s2id_core.specs.Spelled.{cell_spelled}
use Rattle.s2id_core.specs.Token.{canonical_token}
use Rattle.s2id_core.proofs.Canonical.{canonical_spells}
use Rattle.s2id_core.proofs.Spelled.{cell_spelled-some}
use Rattle.s2ix_bag_pairs.specs.declared.label.Label.{Label}
use Rattle.s2ix_bag_pairs.specs.Label.{label_numbered, value_of}
use Rattle.s2ix_bag_pairs.proofs.Labels.{label_numbered-in_range, label_numbered-above}
use Rattle.s2ix_text_parts.specs.Lines.{is_nil}
use Rattle.s2ix_text_parts.specs.Written.{cell_if_canonical, cell_written, count_from, count_written, label_written, number_written}
use Rattle.s2ix_text_parts.proofs.Pieces.{is_some_text}

-- ---- cells

pub cell_from_spelled : (text : List ℕ) (spelled : Option CellId) → cell_spelled text ≡ spelled
    → cell_written text ≡ option_and_then (cell_if_canonical text) spelled
unfolding cell_written
cell_from_spelled text spelled is = ap (option_and_then (cell_if_canonical text)) is

-- a cell is written by its canonical token alone
at_spelled : (text : List ℕ) (spelled : Option CellId) (cell : CellId) → option_and_then (cell_if_canonical text) spelled ≡ Some cell
    → text ≡ canonical_token (raw_of cell)
at_spelled text None cell is = cc
at_spelled text (Some other) cell is =
    let parts = cond_some (bytes_eq text (canonical_token (raw_of other))) other cell is in
    (bytes_eq-Decides text (canonical_token (raw_of other))).0 parts.0 ∙ ap (λ c. canonical_token (raw_of c)) parts.1

pub written_cell : (text : List ℕ) (cell : CellId) → cell_written text ≡ Some cell → text ≡ canonical_token (raw_of cell)
unfolding cell_written
written_cell text cell is = at_spelled text (cell_spelled text) cell is

pub cell_of_token : (cell : CellId) → cell_written (canonical_token (raw_of cell)) ≡ Some cell
cell_of_token cell =
    cell_from_spelled (canonical_token (raw_of cell)) (Some cell)
    (cell_spelled-some (canonical_token (raw_of cell)) cell (canonical_spells (raw_of cell) cell.valid))
    ∙ cond-true _ _ _ ((bytes_eq-Decides (canonical_token (raw_of cell)) (canonical_token (raw_of cell))).1 refl)

-- a token has a digit
pub token_some : (cell : CellId) → is_nil (canonical_token (raw_of cell)) ≡ false
token_some cell = is_some_text _ (canonical_spells (raw_of cell) cell.valid).some

-- ---- numbers

pub written_number : (text : List ℕ) (n : ℕ) → number_written text ≡ Some n → text ≡ decimal n
unfolding number_written
written_number text n is =
    let parts = cond_some (bytes_eq text (decimal (digits_value 10 text))) (digits_value 10 text) n is in
    (bytes_eq-Decides text (decimal (digits_value 10 text))).0 parts.0 ∙ ap decimal parts.1

pub number_of_digits : (n : ℕ) → n < 2 ^ 64 → number_written (decimal n) ≡ Some n
unfolding number_written
number_of_digits n small =
    let value : digits_value 10 (decimal n) ≡ n = (decimal_is_IsNumeral n small).1 in
    cond-true _ _ _ ((bytes_eq-Decides (decimal n) (decimal (digits_value 10 (decimal n)))).1 (ap decimal (sym value)))
    ∙ ap Some value

-- a text that is no UTF-8 is no number
pub not_utf8 : (text : List ℕ) (n : ℕ) → (IsUtf8 text → ⊥) → n < 2 ^ 32 → number_written text ≡ Some n → ⊥
not_utf8 text n not_text small is =
    let digits : text ≡ decimal n = written_number text n is in
    not_text (rw digits (IsUtf8-from_ascii (decimal n) (IsAscii-decimal n (omega arith))))

-- what parsing a text gives is the number
pub parsed_number : {E : Type 0} (text bytes : List ℕ) (n : ℕ) (r : Result ℕ E) → bytes ≡ text → ParsesUnsigned 32 10 bytes r → n < 2 ^ 32
    → number_written text ≡ Some n → r ≡ Ok n
parsed_number text bytes n r same parses small is =
    parse-decimal 32 n bytes r (omega arith) (omega arith) (same ∙ written_number text n is) parses

-- ---- labels

pub small_label : (label : Label) → value_of label < 2 ^ 64
small_label label = let within : value_of label ≤ 2147483647 = label.in_range in omega arith

label_at : (number : Option ℕ) → ((n : ℕ) → n < 2 ^ 32 → number ≢ Some n) → option_and_then label_numbered number ≡ None
label_at None large = refl
label_at (Some n) large =
    ⊎_elim
    (λ small. absurd (large n small refl))
    (λ above. sym (label_numbered-above n (omega arith)))
    (cases_lt n (2 ^ 32))

pub no_label : (text : List ℕ) → ((n : ℕ) → n < 2 ^ 32 → number_written text ≢ Some n) → label_written text ≡ None
unfolding label_written
no_label text large = label_at (number_written text) large

pub label_from_number : (text : List ℕ) (n : ℕ) → number_written text ≡ Some n → label_written text ≡ label_numbered n
unfolding label_written
label_from_number text n is = ap (option_and_then label_numbered) is

numbered_value : (n : ℕ) (label : Label) → label_numbered n ≡ Some label → value_of label ≡ n
numbered_value n label is =
    ⊎_elim
    (λ above. let clash : None ≡ Some label = label_numbered-above n above ∙ is in cc)
    (λ within.
    let same : Some (record { value = n; in_range = within }) ≡ Some label = label_numbered-in_range n within ∙ is in
    let own : record { value = n; in_range = within } ≡ label = cc in
    sym (ap value_of own))
    (cases_lt 2147483647 n)

label_in : (number : Option ℕ) (label : Label) → option_and_then label_numbered number ≡ Some label → number ≡ Some (value_of label)
label_in None label is = cc
label_in (Some n) label is = ap Some (sym (numbered_value n label is))

pub written_label : (text : List ℕ) (label : Label) → label_written text ≡ Some label → text ≡ decimal (value_of label)
unfolding label_written
written_label text label is = written_number text (value_of label) (label_in (number_written text) label is)

pub label_of_digits : (label : Label) → label_written (decimal (value_of label)) ≡ Some label
label_of_digits label =
    let within : value_of label ≤ 2147483647 = label.in_range in
    label_from_number (decimal (value_of label)) (value_of label) (number_of_digits (value_of label) (small_label label))
    ∙ sym (label_numbered-in_range (value_of label) within)

-- ---- counts

count_at : (most : ℕ) → most < 2 ^ 32 → (number : Option ℕ) → ((n : ℕ) → n < 2 ^ 32 → number ≢ Some n)
    → option_and_then (count_from most) number ≡ None
count_at most bounded None large = refl
count_at most bounded (Some n) large =
    ⊎_elim
    (λ small. absurd (large n small refl))
    (λ above. cond-false _ _ _ (and_right _ _ (lt-leb n most (omega arith))))
    (cases_lt n (2 ^ 32))

pub no_count : (most : ℕ) → most < 2 ^ 32 → (text : List ℕ) → ((n : ℕ) → n < 2 ^ 32 → number_written text ≢ Some n)
    → count_written most text ≡ None
unfolding count_written
no_count most bounded text large = count_at most bounded (number_written text) large

pub count_from_number : (most : ℕ) (text : List ℕ) (n : ℕ) → number_written text ≡ Some n → count_written most text ≡ count_from most n
unfolding count_written
count_from_number most text n is = ap (option_and_then (count_from most)) is

pub count_within : (most n : ℕ) → 1 ≤ n → n ≤ most → count_from most n ≡ Some n
count_within most n low high = cond-true _ _ _ (and_from _ _ (le-leb 1 n low) (le-leb n most high))

count_zero : (most n : ℕ) → n < 1 → count_from most n ≡ None
count_zero most n low = cond-false _ _ _ (and_left _ _ (lt-leb 1 n low))

count_above : (most n : ℕ) → most < n → count_from most n ≡ None
count_above most n high = cond-false _ _ _ (and_right _ _ (lt-leb n most high))

pub count_outside : (most n : ℕ) → (0 < n → most < n) → count_from most n ≡ None
count_outside most n outside =
    ⊎_elim (λ none. count_zero most n none) (λ some. count_above most n (outside (omega arith))) (cases_lt n 1)

count_in_range : (most : ℕ) (number : Option ℕ) (n : ℕ) → option_and_then (count_from most) number ≡ Some n
    → (number ≡ Some n) × (1 ≤ n) × (n ≤ most)
count_in_range most None n is = cc
count_in_range most (Some m) n is =
    ⊎_elim
    (λ low. let clash : None ≡ Some n = sym (count_zero most m low) ∙ is in cc)
    (λ some. ⊎_elim
    (λ high. let clash : None ≡ Some n = sym (count_above most m high) ∙ is in cc)
    (λ within_limit. let same : Some m ≡ Some n = sym (count_within most m some within_limit) ∙ is in let equal : m ≡ n = cc in
    (ap Some equal, omega arith, omega arith))
    (cases_lt most m))
    (cases_lt m 1)

pub written_count : (most : ℕ) (text : List ℕ) (n : ℕ) → count_written most text ≡ Some n → (text ≡ decimal n) × (1 ≤ n) × (n ≤ most)
unfolding count_written
written_count most text n is =
    let range = count_in_range most (number_written text) n is in (written_number text n range.0, range.1, range.2)

pub count_of_digits : (most n : ℕ) → most < 2 ^ 32 → 1 ≤ n → n ≤ most → count_written most (decimal n) ≡ Some n
count_of_digits most n bounded low high =
    count_from_number most (decimal n) n (number_of_digits n (omega arith)) ∙ count_within most n low high

-- ---- what the code of `written` tests

pub cell_when : (text token : List ℕ) (cell : CellId) → cell_spelled text ≡ Some cell → token ≡ canonical_token (raw_of cell)
    → (same : Bool) → same ≡ bytes_eq text token → cell_written text ≡ cond same (Some cell) None
cell_when text token cell spelled is same tested =
    cell_from_spelled text (Some cell) spelled ∙ ap (λ b. cond b (Some cell) None) (ap (λ t. bytes_eq text t) (sym is) ∙ sym tested)

-- what a clause says of an error
pub at_no_ok : {X E : Type 0} (r : Result X E) (P : X → Type 0) (Q : Type 0) (R : E → Type 0) → result_ok r ≡ None
    → MatchResult r P (λ e. Q × R e) → Q
at_no_ok (Ok x) P Q R none clause = cc
at_no_ok (Err e) P Q R none clause = clause.0

-- and of a text
pub at_ok : {X E : Type 0} (r : Result X E) (P : X → Type 0) (R : E → Type 0) (x : X) → result_ok r ≡ Some x → MatchResult r P R → P x
at_ok (Ok y) P R x some clause = let same : y ≡ x = cc in subst P same clause
at_ok (Err e) P R x some clause = cc

-- digits that printing a number gives are that number
pub number_from_digits : (text digits : List ℕ) (n : ℕ) (same : Bool) → n < 2 ^ 32 → digits ≡ decimal n → same ≡ bytes_eq text digits
    → same ≡ true → number_written text ≡ Some n
number_from_digits text digits n same small is tested holds =
    ap number_written ((bytes_eq-Decides text digits).0 (sym tested ∙ holds) ∙ is) ∙ number_of_digits n (omega arith)

-- and others are not
pub not_from_digits : {E : Type 0} (text bytes digits : List ℕ) (m n : ℕ) (r : Result ℕ E) (same : Bool) → bytes ≡ text
    → ParsesUnsigned 32 10 bytes r → result_ok r ≡ Some m → digits ≡ decimal m → same ≡ bytes_eq text digits → same ≡ false → n < 2 ^ 32
    → number_written text ≡ Some n → ⊥
not_from_digits text bytes digits m n r same is_text parses read is tested other small number =
    let parsed = parsed_number text bytes n r is_text parses small number in
    let own : Some m ≡ Some n = sym read ∙ ap result_ok parsed in
    let equal : m ≡ n = cc in
    let all : text ≡ digits = written_number text n number ∙ ap decimal (sym equal) ∙ sym is in
    both_ways same other (tested ∙ (bytes_eq-Decides text digits).1 all)

pub not_parsed : {E : Type 0} (text bytes : List ℕ) (n : ℕ) (r : Result ℕ E) → bytes ≡ text → ParsesUnsigned 32 10 bytes r
    → result_ok r ≡ None → n < 2 ^ 32 → number_written text ≡ Some n → ⊥
not_parsed text bytes n r is_text parses none small number =
    let clash : None ≡ Some n = sym none ∙ ap result_ok (parsed_number text bytes n r is_text parses small number) in cc
