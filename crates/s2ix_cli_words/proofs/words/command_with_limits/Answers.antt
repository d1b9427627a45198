use Rattle.std.proofs.Common.{◌≡◌, map, string_bytes, List, subst, true}
use Rattle.std.proofs.lemmas.Result.{IfErr-weaker, IfOk-weaker}
use Rattle.clap.specs.Words.{Text, app_of, fault_of, kind_of, subcommand_rows_of, is_simple_and_free, HasKind}
use Rattle.s2ix_cli_words.specs.Words.{IsMet}
use Rattle.s2ix_cli_words.proofs.Matched.{is_asked, is_free, met_refused, told_refused, without_faults}
use Rattle.s2ix_cli_words.proofs.words.command_with_limits.Goals as goal

pub returns-in-Ok-clause-asked : goal.returns-in-Ok-clause-asked
returns-in-Ok-clause-asked c =
    let words : List Text = map string_bytes c.args.words.now in
    let none = without_faults (app_of c.in_ok-program.field-0) words c.in_ok-program.ensures c.in-Ok.ensures.kinds in
    let met = is_asked (app_of c.in_ok-program.field-0) words c.in-Ok.matches c.in_ok-program.ensures c.in-Ok.ensures.matches none in
    IfOk-weaker c.command_met.result _ _ (λ command is. subst (λ m. IsMet m command) met is) c.command_met.ensures.met

pub returns-in-Ok-clause-refused : goal.returns-in-Ok-clause-refused
returns-in-Ok-clause-refused c =
    let words : List Text = map string_bytes c.args.words.now in
    let none = without_faults (app_of c.in_ok-program.field-0) words c.in_ok-program.ensures c.in-Ok.ensures.kinds in
    let met = is_asked (app_of c.in_ok-program.field-0) words c.in-Ok.matches c.in_ok-program.ensures c.in-Ok.ensures.matches none in
    IfErr-weaker c.command_met.result _ _ (λ fault refuses. met_refused words (subcommand_rows_of c.in-Ok.matches) fault met none refuses)
    c.command_met.ensures.refused

pub returns-in-Err-clause-refused : goal.returns-in-Err-clause-refused
returns-in-Err-clause-refused c =
    let words : List Text = map string_bytes c.args.words.now in
    let has = subst (λ a. is_simple_and_free a ≡ true → HasKind (fault_of a words) c.in-Err.error) c.in_ok-program.ensures c.in-Err.ensures.kinds is_free in
    told_refused words (kind_of c.in-Err.error) c.refusal.result c.refusal.ensures.kind has
