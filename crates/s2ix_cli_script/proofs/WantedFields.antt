-- If memory was wanted for a part of what fields name, it was for the whole.
use Rattle.std.proofs.Common.{◌≡◌, Bool, true, Result, Ok, Err, None, refl}
use Rattle.std.specs.Result.{result_err}
use Rattle.s2ix_cli_script.specs.declared.line_fault.LineFault.{LineFault}
use Rattle.s2ix_cli_script.specs.Named.{is_ok_with, map_ok}

-- what is made of a meaning
pub map_ok-wants : {A B : Type 0} (f : A → B) (wants : B → Bool) (meaning : Result A LineFault)
    → is_ok_with (λ a. wants (f a)) meaning ≡ true → is_ok_with wants (map_ok f meaning) ≡ true
map_ok-wants f wants (Ok a) is = is
map_ok-wants f wants (Err fault) is = cc

-- a meaning without a fault
pub no_fault-wants : {A : Type 0} (meaning : Result A LineFault) → result_err meaning ≡ None → is_ok_with (λ _. true) meaning ≡ true
no_fault-wants (Ok asked) none = refl
no_fault-wants (Err fault) none = cc

pub ruleset wanting = (map_ok-wants, no_fault-wants)
