-- What lines come to, and then more lines.
use Rattle.std.proofs.Common.{◌≡◌, ℕ, ◌+◌, min, true≢false, Bool, true, false, if◌then◌else◌, Option, List, [], ◌∷◌, ◌++◌, refl, sym, ap, ◌∙◌, subst, append_assoc, arith}
use Rattle.std.specs.Io.KnownBytes.{Appends}
use Rattle.std.proofs.KnownBytes.{Appends-nil, Appends-trans}
use Rattle.s2ix_edit_plan.specs.State.{State}
use Rattle.s2ix_cli_run.specs.Step.{step_of}
use Rattle.s2ix_cli_run.specs.declared.run_end.RunEnd.{RunEnd}
use Rattle.s2ix_cli_run.specs.Piece.{CountsMore, Reached}
use Rattle.s2ix_cli_run.specs.Run.{KeepsOn, IsStateAfter}
use Rattle.s2ix_cli_run.specs.Script.{MOST, Run, after, run_lines, counted_in, output_of, refused_in}

-- what lines are carried out over
abbrev pub over : Bool → State → State → Option (List ℕ) → Option (List ℕ) → Run
over stop old new before past = record { stop = stop; store_before = old; store_after = new; taken_before = before; taken_after = past }

pub after-append : (s : State) (done more : List (List ℕ)) → after s (done ++ more) ≡ after (after s done) more
after-append s [] more = refl
after-append s (x ∷ done) more = after-append (step_of s x).after done more

pub output_of-append : (s : State) (done more : List (List ℕ))
    → output_of s (done ++ more) ≡ output_of s done ++ output_of (after s done) more
output_of-append s [] more = refl
output_of-append s (x ∷ done) more =
    ap (λ l. (step_of s x).answer ++ l) (output_of-append (step_of s x).after done more)
    ∙ sym (append_assoc (step_of s x).answer (output_of (step_of s x).after done) _)

counted_in-append : (s : State) (done more : List (List ℕ))
    → counted_in s (done ++ more) ≡ counted_in s done + counted_in (after s done) more
counted_in-append s [] more = omega arith
counted_in-append s (x ∷ done) more = omega (arith, counted_in-append (step_of s x).after done more)

pub refused_in-append : (s : State) (done more : List (List ℕ))
    → refused_in s (done ++ more) ≡ refused_in s done + refused_in (after s done) more
refused_in-append s [] more = omega arith
refused_in-append s (x ∷ done) more = omega (arith, refused_in-append (step_of s x).after done more)

-- ---- which lines are carried out

none_refused : (b : Bool) (n : ℕ) → (if b then 1 else 0) + n ≡ 0 → (b ≡ false) × (n ≡ 0)
none_refused true n e = absurd (omega arith)
none_refused false n e = (refl, omega arith)

-- lines of which none ends the run, and then others
pub run_lines-append : (stop : Bool) (s : State) (done more : List (List ℕ)) → KeepsOn stop s done
    → run_lines stop s (done ++ more) ≡ done ++ run_lines stop (after s done) more
run_lines-append stop s [] more on = refl
run_lines-append false s (x ∷ done) more on =
    ap (λ l. x ∷ l) (run_lines-append false (step_of s x).after done more (λ e. absurd (true≢false (sym e))))
run_lines-append true s (x ∷ done) more on =
    let first = none_refused (step_of s x).is_refused (refused_in (step_of s x).after done) (on refl) in
    rw first.0 (ap (λ l. x ∷ l) (run_lines-append true (step_of s x).after done more (λ e. first.1)))

pub run_lines-all : (stop : Bool) (s : State) (done : List (List ℕ)) → KeepsOn stop s done → run_lines stop s done ≡ done
run_lines-all stop s [] on = refl
run_lines-all false s (x ∷ done) on =
    ap (λ l. x ∷ l) (run_lines-all false (step_of s x).after done (λ e. absurd (true≢false (sym e))))
run_lines-all true s (x ∷ done) on =
    let first = none_refused (step_of s x).is_refused (refused_in (step_of s x).after done) (on refl) in
    rw first.0 (ap (λ l. x ∷ l) (run_lines-all true (step_of s x).after done (λ e. first.1)))

-- a line that is refused with `stop` is the last
pub run_lines-stop : (stop : Bool) (s : State) (line : List ℕ) (more : List (List ℕ)) → stop ≡ true → (step_of s line).is_refused ≡ true
    → run_lines stop s (line ∷ more) ≡ line ∷ []
run_lines-stop stop s line more stops refused = rw (stops, refused) refl

pub KeepsOn-append : (stop : Bool) (s : State) (done more : List (List ℕ)) → KeepsOn stop s done → KeepsOn stop (after s done) more
    → KeepsOn stop s (done ++ more)
KeepsOn-append stop s done more on on' = λ e. (let a = on e in let b = on' e in omega (arith, refused_in-append s done more))

-- ---- where the store stands

pub StandsAfter-none : (stop : Bool) (s : State) (out : Option (List ℕ)) → IsStateAfter [] (over stop s s out out)
StandsAfter-none stop s out = record { store = refl; output = Appends-nil out }

pub StandsAfter-append : (stop : Bool) (done more : List (List ℕ)) (old mid new : State) (before between past : Option (List ℕ))
    → IsStateAfter done (over stop old mid before between) → IsStateAfter more (over stop mid new between past)
    → IsStateAfter (done ++ more) (over stop old new before past)
StandsAfter-append stop done more old mid new before between past a b =
    record {
      store = b.store ∙ ap (λ s. after s more) a.store ∙ sym (after-append old done more);
      output =
          subst (Appends before past) (ap (λ s. output_of old done ++ output_of s more) a.store ∙ sym (output_of-append old done more))
          (Appends-trans before between past _ _ a.output b.output);
    }

-- ---- how many lines count

pub plus_none : (n : ℕ) → n + 0 ≡ n
plus_none n = omega arith

pub CountsMore-none : (s : State) (so_far : RunEnd) → CountsMore [] s so_far so_far
CountsMore-none s so_far =
    record { lines = λ n e. e ∙ ap (λ k. min k MOST) (sym (plus_none n)); refused = λ n e. e ∙ ap (λ k. min k MOST) (sym (plus_none n)) }

plus_twice : (n a b : ℕ) → n + a + b ≡ n + (a + b)
plus_twice n a b = omega arith

pub CountsMore-append : (done more : List (List ℕ)) (old mid : State) (so_far told' told'' : RunEnd) → mid ≡ after old done
    → CountsMore done old so_far told' → CountsMore more mid told' told'' → CountsMore (done ++ more) old so_far told''
CountsMore-append done more old mid so_far told' told'' is a b =
    record {
      lines = λ n e.
          b.lines (n + counted_in old done) (a.lines n e) ∙ ap (λ k. min k MOST) (plus_twice n (counted_in old done) (counted_in mid more)
          ∙ ap (λ k. n + k) (ap (λ s. counted_in old done + counted_in s more) is ∙ sym (counted_in-append old done more)));
      refused = λ n e.
          b.refused (n + refused_in old done) (a.refused n e)
          ∙ ap (λ k. min k MOST) (plus_twice n (refused_in old done) (refused_in mid more)
          ∙ ap (λ k. n + k) (ap (λ s. refused_in old done + refused_in s more) is ∙ sym (refused_in-append old done more)));
    }

-- the counts of one line more
pub counted_one : (n so_far more one : ℕ) → so_far ≡ min n MOST → more ≡ min (so_far + one) MOST → more ≡ min (n + one) MOST
counted_one n so_far more one e e' = omega arith

-- ---- lines and then more of which none ends the run

pub Reached-append : (stop : Bool) (done more : List (List ℕ)) (old mid new : State) (before between past : Option (List ℕ))
    (so_far told' told'' : RunEnd)
    → Reached done (over stop old mid before between) so_far told' → Reached more (over stop mid new between past) told' told''
    → Reached (done ++ more) (over stop old new before past) so_far told''
Reached-append stop done more old mid new before between past so_far told' told'' a b =
    record {
      keeps_on = KeepsOn-append stop old done more a.keeps_on (subst (λ s. KeepsOn stop s more) a.stands.store b.keeps_on);
      stands = StandsAfter-append stop done more old mid new before between past a.stands b.stands;
      counts = CountsMore-append done more old mid so_far told' told'' a.stands.store a.counts b.counts;
    }
