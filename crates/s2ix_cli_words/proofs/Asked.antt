-- What was given, and what could not be asked for with it.
use Rattle.std.proofs.Common.{◌≡◌, ℕ, Option, Some, Result, Ok, Err, IfSome, IfNone, ap, sym, subst, slice_index, ◌<◌, ◌^◌}
use Rattle.std.specs.Result.{result_ok}
use Rattle.std.specs.Str.Parse.{ParsesUnsigned}
use Rattle.clap.specs.Words.{Text}
use Rattle.s2ix_cli_words.specs.Words.{IsGiven}

-- ---- numbers

pub number_read : {E : Type 0} (default : ℕ) (text : Text) (given : Option Text) (read : Result ℕ E)
    → Some text ≡ given → ParsesUnsigned 32 10 text read → IfSome (result_ok read) (IsGiven default given)
number_read default text given (Ok n) is parsed =
    subst (λ o. IsGiven default o n) is (parsed.0.0, parsed.1, subst (λ m. m < 2 ^ 32) (sym parsed.1) parsed.0.1)
number_read default text given (Err e) is parsed = tt

pub number_refused : {E : Type 0} (default : ℕ) (text : Text) (given : Option Text) (read : Result ℕ E)
    → Some text ≡ given → ParsesUnsigned 32 10 text read → IfNone (result_ok read) ((n : ℕ) → IsGiven default given n → ⊥)
number_refused default text given (Ok n) is parsed = tt
number_refused default text given (Err e) is parsed = λ n written.
    let number = subst (λ o. IsGiven default o n) (sym is) written in
    parsed (number.0, subst (λ m. m < 2 ^ 32) number.1 number.2)

-- ---- words

-- texts whose bytes at a place differ
apart : (i : ℕ) (s t : Text) → s ≡ t → (slice_index s i ≡ slice_index t i → ⊥) → ⊥
apart i s t same differ = differ (ap (λ u. slice_index u i) same)

-- ---- refusals
