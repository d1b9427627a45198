-- Each text of a status is short.
use Rattle.std.proofs.Common.{◌≡◌, ℕ, ◌≤◌, List, length, arith, Bool}
use Rattle.std.specs.Prelude.{◌==◌, if◌then◌else◌, codes}
use Rattle.std.proofs.lemmas.Bool.{cond_both}
use Rattle.s2ix_c_calls.specs.Texts.{status_text}

-- one of two short texts is short
either : (test : Bool) (one other : List ℕ) → length one ≤ 64 → length other ≤ 64 → length (if test then one else other) ≤ 64
either test one other first second = cond_both test one other (λ text. length text ≤ 64) (λ _. first) (λ _. second)

pub short_text : (status : ℕ) → length (status_text status) ≤ 64
short_text status =
    either (status == 0) _ _ (omega arith) (
    either (status == 1) _ _ (omega arith) (
    either (status == 2) _ _ (omega arith) (
    either (status == 3) _ _ (omega arith) (
    either (status == 4) _ _ (omega arith) (
    either (status == 5) _ _ (omega arith) (
    either (status == 6) _ _ (omega arith) (
    either (status == 7) _ _ (omega arith) (
    either (status == 8) _ _ (omega arith) (
    either (status == 9) _ _ (omega arith) (
    either (status == 16) _ _ (omega arith) (
    either (status == 17) _ _ (omega arith) (
    either (status == 18) _ _ (omega arith) (
    either (status == 19) _ _ (omega arith) (
    either (status == 20) _ _ (omega arith) (
    either (status == 21) _ _ (omega arith) (
    either (status == 22) _ _ (omega arith) (
    either (status == 23) _ _ (omega arith) (
    either (status == 24) _ _ (omega arith) (
    either (status == 25) _ _ (omega arith) (
    either (status == 26) _ _ (omega arith) (
    either (status == 27) _ _ (omega arith) (
    either (status == 28) _ _ (omega arith) (
    either (status == 29) _ _ (omega arith) (
    either (status == 30) _ _ (omega arith) (
    either (status == 31) _ _ (omega arith) (
    either (status == 32) _ _ (omega arith) (
    omega arith)))))))))))))))))))))))))))
