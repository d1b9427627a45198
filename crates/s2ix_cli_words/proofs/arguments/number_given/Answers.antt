use Rattle.std.proofs.Common.{◌≡◌, ℕ, IfNone, IfSome, rules, sym, subst}
use Rattle.std.specs.Prelude.{Some}
use Rattle.clap.specs.Words.{first_of, found_of, rows_of}
use Rattle.s2ix_cli_words.specs.Words.{IsGiven}
use Rattle.s2ix_cli_words.proofs.Asked.{number_read, number_refused}
use Rattle.s2ix_cli_words.proofs.arguments.number_given.Goals as goal

pub returns-in-Some-clause-given : goal.returns-in-Some-clause-given
returns-in-Some-clause-given c =
    let given : Some c.in-Some.text.now ≡ first_of c.args.option.now (rows_of (found_of c.args.given.now)) = search rules in
    subst (λ o. IfSome o (IsGiven c.args.default (first_of c.args.option.now (rows_of (found_of c.args.given.now))))) (sym c.ok.ensures.value)
    (number_read c.args.default c.in-Some.text.now _ c.parse.result given c.parse.ensures.value.0)

pub returns-in-Some-clause-refused : goal.returns-in-Some-clause-refused
returns-in-Some-clause-refused c =
    let given : Some c.in-Some.text.now ≡ first_of c.args.option.now (rows_of (found_of c.args.given.now)) = search rules in
    subst (λ o. IfNone o ((n : ℕ) → IsGiven c.args.default (first_of c.args.option.now (rows_of (found_of c.args.given.now))) n → ⊥)) (sym c.ok.ensures.value)
    (number_refused c.args.default c.in-Some.text.now _ c.parse.result given c.parse.ensures.value.0)
