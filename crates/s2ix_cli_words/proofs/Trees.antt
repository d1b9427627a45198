-- What clap was told of a command, as words are added to it.
use Rattle.std.specs.Prelude.{IfOk}
use Rattle.std.proofs.Common.{Ok, Result, subst, ◌≡◌, ◌∙◌, ◌||◌, Bool, false, ap, ap₂}
use Rattle.clap.specs.Words.{AddsArg, AddsSubcommand, App, Rule, Shape, rule_of, with_rule, with_subcommand}
use Rattle.clap.specs.declared.builder.Arg.{Arg}
use Rattle.clap.specs.declared.builder.Command.{Command}
use Rattle.s2ix_cli_words.specs.Tree.{IsSubcommand, IsCommand}

pub with_argument : (words : App) (rule : Rule) (old : Command) (arg : Arg) (new : Command)
    → IsCommand words old → rule_of arg ≡ rule → arg.global ≡ false → AddsArg old arg new → IsCommand (with_rule words rule) new
with_argument words rule old arg new knows is local adds =
    (adds.shape local ∙ ap₂ with_rule knows.0 is, adds.globals ∙ ap₂ (λ (x y : Bool). x || y) knows.1 local)

pub with_command : (words : App) (shape : Shape) (old sub new : Command)
    → IsCommand words old → IsSubcommand shape sub → AddsSubcommand old sub new → IsCommand (with_subcommand words shape) new
with_command words shape old sub new knows is adds =
    (adds.shape is.1 ∙ ap₂ with_subcommand knows.0 is.0, adds.globals ∙ ap₂ (λ (x y : Bool). x || y) knows.1 is.1)

pub is_subcommand : (words : App) (command : Command) → IsCommand words command → IsSubcommand words.top command
is_subcommand words command knows = (ap (λ (a : App). a.top) knows.0, knows.1)

-- what a clause says of a value
pub told_of : {A E : Type 0} (result : Result A E) (value : A) (P : A → Type 0) → result ≡ Ok value → IfOk result P → P value
told_of result value P is clause = subst (λ r. IfOk r P) is clause
