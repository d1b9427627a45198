-- Among the lines of a piece: those that have ended are carried out, the rest is to come.
use Rattle.std.proofs.Common.{◌≡◌, ℕ, ◌+◌, min, Bool, true, false, ◌&&◌, if◌then◌else◌, Option, Some, List, [], ◌∷◌, ◌++◌, refl, sym, ap, ◌∙◌, subst, append_assoc, append-nil}
use Rattle.std.specs.Io.KnownBytes.{Appends}
use Rattle.std.proofs.KnownBytes.{Appends-kept}
use Rattle.s2ix_edit_plan.specs.State.{State}
use Rattle.s2ix_text_parts.specs.DeviceFaults.{IsWantOnlyIf}
use Rattle.s2ix_text_parts.specs.Puts.{AppendsFront}
use Rattle.s2ix_text_parts.specs.declared.run_fault.RunFault.{RunFault}
use Rattle.s2ix_text_parts.specs.declared.run_fault.RunFault.TheVariants.{Read, Write, OutOfMemory, ReaderTooLong}
use Rattle.s2ix_cli_run.specs.Line.{is_counted, is_refused, Takes, StopsAt}
use Rattle.s2ix_cli_run.specs.Step.{step_of}
use Rattle.s2ix_cli_run.specs.LineWants.{LineWants}
use Rattle.s2ix_cli_run.specs.declared.outcome.LineOutcome.{LineOutcome}
use Rattle.s2ix_cli_run.specs.declared.run_end.RunEnd.{RunEnd}
use Rattle.s2ix_cli_run.specs.Coming.{ended_after, unended_after, kept_of, held_more}
use Rattle.s2ix_cli_run.specs.Piece.{HasNoFeed, Reached, Stopped, CountsMore, FaultAmong}
use Rattle.s2ix_cli_run.specs.Run.{KeepsOn, IsStateAfter, line_left}
use Rattle.s2ix_cli_run.specs.Script.{MOST, output_of}
use Rattle.s2ix_cli_run.proofs.Feeds.{ended_after-line, unended_after-line, ended_after-none, unended_after-none}
use Rattle.s2ix_cli_run.proofs.Holding.{held_more-of}
use Rattle.s2ix_cli_run.proofs.LineSteps.{over, StandsAfter-none, StandsAfter-append, CountsMore-none, CountsMore-append, Reached-append, counted_one, plus_none}

-- a line that is not refused with `stop` lets the run go on
keeps_one : (stop : Bool) (s : State) (line : List ℕ) → stop && (step_of s line).is_refused ≡ false → KeepsOn stop s (line ∷ [])
keeps_one stop s line on = λ e. rw (ap (λ b. b && (step_of s line).is_refused) (sym e) ∙ on) refl

-- of the lines that end in a piece some are done; of the next one `front` has come, and the rest of the piece is left
pub record Among (stop : Bool) (front piece rest : List ℕ) (old now : State) (held : Option (List ℕ)) (before past : Option (List ℕ))
    (start so_far : RunEnd) : Type 0 where
  pub done : List (List ℕ)
  pub come : List ℕ
  pub is_held : held ≡ kept_of come
  pub ended : ended_after front piece ≡ done ++ ended_after come rest
  pub unended : unended_after front piece ≡ unended_after come rest
  pub reached : Reached done (over stop old now before past) start so_far

-- nothing of the piece is done
pub Among-none : (stop : Bool) (front piece : List ℕ) (s : State) (held : Option (List ℕ)) (out : Option (List ℕ)) (so_far : RunEnd)
    → held ≡ kept_of front
    → Among stop front piece piece s s held out out so_far so_far
Among-none stop front piece s held out so_far is =
    record {
      done = [];
      come = front;
      is_held = is;
      ended = refl;
      unended = refl;
      reached = record { keeps_on = λ e. refl; stands = StandsAfter-none stop s out; counts = CountsMore-none s so_far };
    }

-- the rest of a piece is cut at its first line feed
pub record IsCut (rest end after_it : List ℕ) : Type 0 where
  pub is : rest ≡ end ++ 10 ∷ after_it
  pub none : HasNoFeed end

-- a line was carried out, and `more` counts it beside `so_far`
pub record RunsOne (line : List ℕ) (s new : State) (before past : Option (List ℕ)) (so_far more : RunEnd) (outcome : LineOutcome) : Type
    0 where
  pub takes : Takes (step_of s line) new before past outcome
  pub lines : more.lines ≡ min (so_far.lines + (if is_counted outcome then 1 else 0)) MOST
  pub refused : more.refused ≡ min (so_far.refused + (if is_refused outcome then 1 else 0)) MOST

-- one line
one_stands : (stop : Bool) (line : List ℕ) (s new : State) (before past : Option (List ℕ)) (so_far more : RunEnd) (outcome : LineOutcome)
    → RunsOne line s new before past so_far more outcome → IsStateAfter (line ∷ []) (over stop s new before past)
one_stands stop line s new before past so_far more outcome one =
    record { store = one.takes.store; output = subst (Appends before past) (sym (append-nil (step_of s line).answer)) one.takes.output }

one_counts : (line : List ℕ) (s new : State) (before past : Option (List ℕ)) (so_far more : RunEnd) (outcome : LineOutcome)
    → RunsOne line s new before past so_far more outcome → CountsMore (line ∷ []) s so_far more
one_counts line s new before past so_far more outcome one =
    record {
      lines = λ n e.
          counted_one n so_far.lines more.lines _ e one.lines
          ∙ ap (λ k. min (n + k) MOST) (ap (λ b. if b then 1 else 0) one.takes.counted ∙ sym (plus_none _));
      refused = λ n e.
          counted_one n so_far.refused more.refused _ e one.refused
          ∙ ap (λ k. min (n + k) MOST) (ap (λ b. if b then 1 else 0) one.takes.refused ∙ sym (plus_none _));
    }

-- the lines that end in a piece, of which some are done: the next one, and those after it
ended_next : {stop : Bool} {front piece rest end after_it : List ℕ} {old now : State} {held before mid : Option (List ℕ)}
    {start so_far : RunEnd}
    (a : Among stop front piece rest old now held before mid start so_far) → IsCut rest end after_it
    → ended_after front piece ≡ a.done ++ (a.come ++ end) ∷ ended_after [] after_it
ended_next {end = end} {after_it = after_it} a cut =
    a.ended ∙ ap (λ l. a.done ++ l) (ap (ended_after a.come) cut.is ∙ ended_after-line a.come end after_it cut.none)

-- the loop goes on after a line
pub Among-on : (stop : Bool) (front piece rest end after_it : List ℕ) (old now new : State) (held : Option (List ℕ))
    (before mid past : Option (List ℕ)) (start so_far more : RunEnd) (outcome : LineOutcome)
    → (a : Among stop front piece rest old now held before mid start so_far) → IsCut rest end after_it
    → RunsOne (a.come ++ end) now new mid past so_far more outcome
    → stop && is_refused outcome ≡ false → (held' : Option (List ℕ)) → held' ≡ kept_of []
    → Among stop front piece after_it old new held' before past start more
Among-on stop front piece rest end after_it old now new held before mid past start so_far more outcome a cut one on held' is =
    let line = a.come ++ end in
    let reached : Reached (line ∷ []) (over stop now new mid past) so_far more =
    record {
      keeps_on = keeps_one stop now line (ap (λ b. stop && b) (sym one.takes.refused) ∙ on);
      stands = one_stands stop line now new mid past so_far more outcome one;
      counts = one_counts line now new mid past so_far more outcome one;
    } in
    record {
      done = a.done ++ line ∷ [];
      come = [];
      is_held = is;
      ended = ended_next a cut ∙ sym (append_assoc a.done (line ∷ []) (ended_after [] after_it));
      unended = a.unended ∙ ap (unended_after a.come) cut.is ∙ unended_after-line a.come end after_it cut.none;
      reached = Reached-append stop a.done (line ∷ []) old now new before mid past start so_far more a.reached reached;
    }

-- a line that is refused ends the run
pub Among-stopped : (stop : Bool) (front piece rest end after_it : List ℕ) (old now new : State) (held : Option (List ℕ))
    (before mid past : Option (List ℕ)) (start so_far more : RunEnd) (outcome : LineOutcome)
    → (a : Among stop front piece rest old now held before mid start so_far) → IsCut rest end after_it
    → RunsOne (a.come ++ end) now new mid past so_far more outcome
    → stop ≡ true → is_refused outcome ≡ true → Stopped (ended_after front piece) (over stop old new before past) start more
Among-stopped stop front piece rest end after_it old now new held before mid past start so_far more outcome a cut one stops is =
    let line = a.come ++ end in
    record {
      done = a.done;
      line = line;
      rest = ended_after [] after_it;
      are = ended_next a cut;
      keeps_on = a.reached.keeps_on;
      stops = stops;
      refused = ap (λ s. (step_of s line).is_refused) (sym a.reached.stands.store) ∙ sym one.takes.refused ∙ is;
      stands =
          StandsAfter-append stop a.done (line ∷ []) old now new before mid past a.reached.stands
          (one_stands stop line now new mid past so_far more outcome one);
      counts =
          CountsMore-append a.done (line ∷ []) old now start so_far more a.reached.stands.store a.reached.counts
          (one_counts line now new mid past so_far more outcome one);
    }

-- a fault ends a line of some
FaultAmong-line : (fault : RunFault) (stop : Bool) (lines done rest : List (List ℕ)) (line : List ℕ) (old now new : State)
    (before mid past : Option (List ℕ))
    → lines ≡ done ++ line ∷ rest
    → KeepsOn stop old done → IsStateAfter done (over stop old now before mid) → StopsAt (step_of now line) now new mid past fault
    → IsWantOnlyIf (LineWants now line) fault
    → FaultAmong fault lines (over stop old new before past)
FaultAmong-line Read stop lines done rest line old now new before mid past are on stands at wants = absurd at
FaultAmong-line ReaderTooLong stop lines done rest line old now new before mid past are on stands at wants = absurd at
FaultAmong-line OutOfMemory stop lines done rest line old now new before mid past are on stands at wants =
    record {
      done = done;
      line = line;
      rest = rest;
      are = are;
      keeps_on = on;
      stands = record { store = at.0 ∙ stands.store; output = Appends-kept before mid past (output_of old done) stands.output at.1 };
      wants = subst (λ s. LineWants s line) (sym at.0) (wants refl);
    }
FaultAmong-line Write stop lines done rest line old now new before mid past are on stands at wants =
    record {
      done = done;
      line = line;
      rest = rest;
      are = are;
      keeps_on = on;
      store = at.0 ∙ ap (λ s. (step_of s line).after) stands.store;
      mid = mid;
      output = stands.output;
      cut = subst (λ s. AppendsFront mid past (step_of s line).answer) stands.store at.1;
    }

pub Among-fault : (fault : RunFault) (stop : Bool) (front piece rest end after_it : List ℕ) (old now new : State) (held : Option (List ℕ))
    (before mid past : Option (List ℕ)) (start so_far : RunEnd)
    → (a : Among stop front piece rest old now held before mid start so_far) → IsCut rest end after_it
    → StopsAt (step_of now (a.come ++ end)) now new mid past fault
    → IsWantOnlyIf (LineWants now (a.come ++ end)) fault → FaultAmong fault (ended_after front piece) (over stop old new before past)
Among-fault fault stop front piece rest end after_it old now new held before mid past start so_far a cut at wants =
    FaultAmong-line fault stop (ended_after front piece) a.done (ended_after [] after_it) (a.come ++ end) old now new before mid past
    (ended_next a cut) a.reached.keeps_on a.reached.stands at wants

-- no line ends in the rest, which is held
pub Among-end : (stop : Bool) (front piece rest : List ℕ) (old now : State) (held held' : Option (List ℕ)) (before past : Option (List ℕ))
    (start so_far : RunEnd)
    → Among stop front piece rest old now held before past start so_far → HasNoFeed rest → held' ≡ held_more held rest
    → Reached (ended_after front piece) (over stop old now before past) start so_far × (held' ≡ kept_of (unended_after front piece))
Among-end stop front piece rest old now held held' before past start so_far a none is = (
  subst (λ l. Reached l (over stop old now before past) start so_far)
      (sym (a.ended ∙ ap (λ l. a.done ++ l) (ended_after-none a.come rest none) ∙ append-nil a.done)) a.reached,
  is ∙ ap (λ h. held_more h rest) a.is_held ∙ held_more-of a.come rest
      ∙ ap kept_of (sym (a.unended ∙ unended_after-none a.come rest none)),
)

-- ---- the last line

-- a line with a byte
last_is : (front : List ℕ) → (Some [] ≡ kept_of front → ⊥) → line_left front ≡ front ∷ []
last_is [] some = absurd (some refl)
last_is (byte ∷ front) some = refl

pub RunsLast-fault : (fault : RunFault) (stop : Bool) (front : List ℕ) (s new : State) (before past : Option (List ℕ))
    → (Some [] ≡ kept_of front → ⊥)
    → StopsAt (step_of s (front ++ [])) s new before past fault → IsWantOnlyIf (LineWants s (front ++ [])) fault
    → FaultAmong fault (line_left front) (over stop s new before past)
RunsLast-fault fault stop front s new before past some at wants =
    FaultAmong-line fault stop (line_left front) [] [] front s s new before before past (last_is front some) (λ e. refl)
    (StandsAfter-none stop s before)
    (subst (λ l. StopsAt (step_of s l) s new before past fault) (append-nil front) at)
    (subst (λ l. IsWantOnlyIf (LineWants s l) fault) (append-nil front) wants)
