-- Between the pieces of a run, and how it ends.
use Rattle.std.proofs.Common.{◌≡◌, ℕ, suc, ◌+◌, ◌<◌, ◌≤◌, ◌&&◌, min, Bool, true, false, if◌then◌else◌, Option, Ok, Err, List, [], ◌∷◌, ◌++◌, length, drop, refl, sym, ap, ◌∙◌, subst, inl, inr, append_assoc, append-nil, length-append, arith}
use Rattle.std.specs.Io.KnownBytes.{Appends, Consumes, Keeps}
use Rattle.std.proofs.KnownBytes.{Appends-kept, Consumes-kept, Consumes-nil, Consumes-trans}
use Rattle.s2ix_edit_plan.specs.State.{State}
use Rattle.s2ix_text_parts.specs.DeviceFaults.{source_faults}
use Rattle.s2ix_text_parts.specs.Pieces.{ReadsOn}
use Rattle.s2ix_text_parts.specs.Puts.{AppendsFront}
use Rattle.s2ix_text_parts.specs.declared.sink.Sink.{Ghosts as Sink}
use Rattle.s2ix_text_parts.specs.declared.source.Source.{Ghosts as Source}
use Rattle.s2ix_text_parts.specs.declared.run_fault.RunFault.{RunFault}
use Rattle.s2ix_text_parts.specs.declared.run_fault.RunFault.TheVariants.{Read, Write, OutOfMemory, ReaderTooLong}
use Rattle.s2ix_cli_script.specs.Lines.{script_lines}
use Rattle.s2ix_cli_run.specs.Step.{step_of}
use Rattle.s2ix_cli_run.specs.declared.run_end.RunEnd.{RunEnd}
use Rattle.s2ix_cli_run.specs.declared.coming.PieceEnd.{PieceEnd}
use Rattle.s2ix_cli_run.specs.declared.coming.PieceEnd.TheVariants.{GoesOn, Stops}
use Rattle.s2ix_cli_run.specs.Coming.{ended_after, unended_after, ended_lines, kept_of}
use Rattle.s2ix_cli_run.specs.InTurn.{AnswersInTurn, AsksOnce, IsAnswered}
use Rattle.s2ix_cli_run.specs.Piece.{RunsPiece, RunsLast, CountsMore, Reached, Stopped, FaultAmong}
use Rattle.s2ix_cli_run.specs.Run.{SourceEnd, AreRead, Flushes, Ran, KeepsOn, IsStateAfter, Finishes, line_left}
use Rattle.s2ix_cli_run.specs.Script.{MOST, Run, after, run_lines, counted_in, output_of, refused_in}
use Rattle.s2ix_cli_run.proofs.Feeds.{ended_after-append, unended_after-append, script_lines-ended}
use Rattle.s2ix_cli_run.proofs.LineSteps.{over, after-append, KeepsOn-append, StandsAfter-append, CountsMore-append, Reached-append, run_lines-append, run_lines-all, run_lines-stop, refused_in-append, StandsAfter-none, CountsMore-none}

-- the counts before the first line
abbrev pub none_so_far : RunEnd
none_so_far = record { lines = 0; refused = 0 }

suc_is : (n : ℕ) → suc n ≡ n + 1
suc_is n = omega arith

none_more : (n : ℕ) → 0 + n ≡ n
none_more n = omega arith

either_way : (b : Bool) (lines : List (List ℕ)) → (if b then lines else lines) ≡ lines
either_way true lines = refl
either_way false lines = refl

-- lines that are carried out to the end of a run
Finishes-of : (stop : Bool) (input : List ℕ) (lines_run : List (List ℕ)) (old new : State) (before past flushed : Option (List ℕ))
    (more : RunEnd)
    → run_lines stop old (script_lines input) ≡ lines_run
    → IsStateAfter lines_run (over stop old new before past) → CountsMore lines_run old none_so_far more → Keeps past flushed
    → Finishes input (over stop old new before flushed) more
Finishes-of stop input lines_run old new before past flushed more is stands counts kept =
    record {
      stands = record {
        store = stands.store ∙ ap (after old) (sym is);
        output =
            subst (λ l. Appends before flushed (output_of old l)) (sym is)
            (Appends-kept before past flushed (output_of old lines_run) stands.output kept);
      };
      lines =
          counts.lines 0 refl ∙ ap (λ n. min n MOST) (none_more (counted_in old lines_run)) ∙ ap (λ l. min (counted_in old l) MOST) (sym is);
      refused =
          counts.refused 0 refl ∙ ap (λ n. min n MOST) (none_more (refused_in old lines_run))
          ∙ ap (λ l. min (refused_in old l) MOST) (sym is);
    }

-- this was read; the lines that end in it are carried out, and what is left after them is held
pub record Between (left left' held : Option (List ℕ)) (run : Run) (so_far : RunEnd) : Type 0 where
  pub input : List ℕ
  pub consumed : Consumes left left' input
  pub is_held : held ≡ kept_of (unended_after [] input)
  pub reached : Reached (ended_lines input) run none_so_far so_far

-- nothing was read yet
pub Between-none : (left held : Option (List ℕ)) (stop : Bool) (s : State) (taken : Option (List ℕ)) → held ≡ kept_of []
    → Between left left held (over stop s s taken taken) none_so_far
Between-none left held stop s taken is =
    record {
      input = [];
      consumed = Consumes-nil left;
      is_held = is;
      reached = record { keeps_on = λ e. refl; stands = StandsAfter-none stop s taken; counts = CountsMore-none s none_so_far };
    }

Reached-kept : (stop : Bool) (lines : List (List ℕ)) (old new : State) (before between past : Option (List ℕ)) (so_far more : RunEnd)
    → Reached lines (over stop old new before between) so_far more → Keeps between past
    → Reached lines (over stop old new before past) so_far more
Reached-kept stop lines old new before between past so_far more r kept =
    record {
      keeps_on = r.keeps_on;
      stands = record {
        store = r.stands.store;
        output = Appends-kept before between past (output_of old lines) r.stands.output kept;
      };
      counts = r.counts;
    }

ended-more : (input piece : List ℕ) → ended_lines (input ++ piece) ≡ ended_lines input ++ ended_after (unended_after [] input) piece
ended-more input piece = ended_after-append [] input piece

-- the piece at the end has no byte
pub Between-last : (left mid left' held : Option (List ℕ)) (run : Run) (so_far : RunEnd) (piece : List ℕ)
    → Between left mid held run so_far → Consumes mid left' piece → piece ≡ [] → Between left left' held run so_far
Between-last left mid left' held run so_far piece b consumed none =
    record {
      input = b.input;
      consumed =
          subst (Consumes left left') (ap (λ l. b.input ++ l) none ∙ append-nil b.input)
          (Consumes-trans left mid left' b.input piece b.consumed consumed);
      is_held = b.is_held;
      reached = b.reached;
    }

-- ---- a fault among lines is none of the source

pub FaultAmong-flushes : {K : Type 0} (flushes : K → K → Type 0) (s s' : K) (fault : RunFault) (lines : List (List ℕ)) (run : Run)
    → FaultAmong fault lines run → Flushes flushes (Err fault) s s'
FaultAmong-flushes flushes s s' Read lines run f = absurd f
FaultAmong-flushes flushes s s' ReaderTooLong lines run f = absurd f
FaultAmong-flushes flushes s s' Write lines run f = tt
FaultAmong-flushes flushes s s' OutOfMemory lines run f = tt

pub FaultAmong-reads : {P : Type 0} (fault : RunFault) (lines : List (List ℕ)) (run : Run)
    → FaultAmong fault lines run → fault ≡ ReaderTooLong → P
FaultAmong-reads fault lines run f e = absurd (subst (λ x. FaultAmong x lines run) e f)

pub FaultAmong-source : (fault : RunFault) (lines : List (List ℕ)) (run : Run)
    → FaultAmong fault lines run → source_faults {A = RunEnd} (Err fault) ≡ 0
FaultAmong-source Read lines run f = absurd f
FaultAmong-source ReaderTooLong lines run f = absurd f
FaultAmong-source Write lines run f = refl
FaultAmong-source OutOfMemory lines run f = refl

pub FaultAmong-asks : {S : Type 0} (source : Source S) (old new : S) (n : ℕ) (fault : RunFault) (lines : List (List ℕ)) (run : Run)
    → FaultAmong fault lines run → source.gives old n new → AsksOnce source (Err fault) old new
FaultAmong-asks source old new n Read lines run f call = absurd f
FaultAmong-asks source old new n ReaderTooLong lines run f call = absurd f
FaultAmong-asks source old new n Write lines run f call = (n, call)
FaultAmong-asks source old new n OutOfMemory lines run f call = (n, call)

-- ---- no more can be read

pub Between-reading : (end : SourceEnd) (left mid left' held : Option (List ℕ)) (run : Run) (so_far : RunEnd)
    → Between left mid held run so_far → Keeps mid left' → (input : List ℕ) × Consumes left left' input × Ran (Err Read) end input run
unfolding Ran
Between-reading end left mid left' held run so_far b kept =
    (b.input, Consumes-kept left mid left' b.input b.consumed kept, record { keeps_on = b.reached.keeps_on; stands = b.reached.stands })

pub Between-ended : (end : SourceEnd) (left mid held : Option (List ℕ)) (run : Run) (so_far : RunEnd)
    → Between left mid held run so_far → (input : List ℕ) × Consumes left mid input × Ran (Err ReaderTooLong) end input run
unfolding Ran
Between-ended end left mid held run so_far b = (b.input, b.consumed, record { keeps_on = b.reached.keeps_on; stands = b.reached.stands })

-- ---- a fault among lines

-- a line that is carried out, after others
cut_run : (stop : Bool) (old mid : State) (lines done more done' rest : List (List ℕ)) (line : List ℕ) → lines ≡ done ++ more
    → more ≡ done' ++ line ∷ rest → KeepsOn stop old done → mid ≡ after old done → KeepsOn stop mid done'
    → run_lines stop old lines ≡ (done ++ done') ++ line ∷ drop 1 (run_lines stop (after old (done ++ done')) (line ∷ rest))
cut_run stop old mid lines done more done' rest line is are on stands on' =
    ap (run_lines stop old) (is ∙ ap (λ l. done ++ l) are ∙ sym (append_assoc done done' (line ∷ rest)))
    ∙ run_lines-append stop old (done ++ done') (line ∷ rest)
    (KeepsOn-append stop old done done' on (subst (λ s. KeepsOn stop s done') stands on'))

pub FaultAmong-ran : (fault : RunFault) (end : SourceEnd) (stop : Bool) (input : List ℕ) (lines done more : List (List ℕ))
    (old mid new : State) (before between past : Option (List ℕ)) (so_far : RunEnd)
    → AreRead end input lines → lines ≡ done ++ more → Reached done (over stop old mid before between) none_so_far so_far
    → FaultAmong fault more (over stop mid new between past)
    → Ran (Err fault) end input (over stop old new before past)
unfolding Ran
FaultAmong-ran Read end stop input lines done more old mid new before between past so_far read is a f = absurd f
FaultAmong-ran ReaderTooLong end stop input lines done more old mid new before between past so_far read is a f = absurd f
FaultAmong-ran Write end stop input lines done more old mid new before between past so_far read is a f =
    let stands = StandsAfter-append stop done f.done old mid (after mid f.done) before between f.mid a.stands
    (record { store = refl; output = f.output }) in (
      lines,
      read,
      inl (record {
        done = done ++ f.done;
        line = f.line;
        rest = drop 1 (run_lines stop (after old (done ++ f.done)) (f.line ∷ f.rest));
        are_run = cut_run stop old mid lines done more f.done f.rest f.line is f.are a.keeps_on a.stands.store f.keeps_on;
        store = f.store ∙ ap (λ s. (step_of s f.line).after) stands.store;
        mid = f.mid;
        output = stands.output;
        cut = subst (λ s. AppendsFront f.mid past (step_of s f.line).answer) stands.store f.cut;
      }),
    )
FaultAmong-ran OutOfMemory end stop input lines done more old mid new before between past so_far read is a f =
    let stands = StandsAfter-append stop done f.done old mid new before between past a.stands f.stands in (
      lines,
      read,
      record {
        done = done ++ f.done;
        line = f.line;
        rest = drop 1 (run_lines stop (after old (done ++ f.done)) (f.line ∷ f.rest));
        are_run = cut_run stop old mid lines done more f.done f.rest f.line is f.are a.keeps_on a.stands.store f.keeps_on;
        store = stands.store;
        output = stands.output;
        wants = f.wants;
      },
    )

-- ---- the end of the input

last_run : (stop : Bool) (s : State) (front : List ℕ) → run_lines stop s (line_left front) ≡ line_left front
last_run stop s [] = refl
last_run stop s (byte ∷ front) = ap (λ l. (byte ∷ front) ∷ l) (either_way (stop && (step_of s (byte ∷ front)).is_refused) [])

-- ---- a refused line ends the run

-- lines up to and with one that is refused
record Halts (stop : Bool) (lines : List (List ℕ)) (old new : State) (before past : Option (List ℕ)) (more : RunEnd) : Type 0 where
  pub lines_run : List (List ℕ)
  pub are_run : (tail : List (List ℕ)) → run_lines stop old (lines ++ tail) ≡ lines_run
  pub stands : IsStateAfter lines_run (over stop old new before past)
  pub counts : CountsMore lines_run old none_so_far more
  pub stops : stop ≡ true
  pub refused : 0 < refused_in old lines_run
  pub ended : length lines_run ≤ length lines

halted_at : (done rest : List (List ℕ)) (line : List ℕ) → length (done ++ line ∷ []) ≤ length (done ++ line ∷ rest)
halted_at done rest line = omega (arith, length-append done (line ∷ []), length-append done (line ∷ rest))

refused_last : (s : State) (done : List (List ℕ)) (line : List ℕ) → (step_of (after s done) line).is_refused ≡ true
    → 0 < refused_in s (done ++ line ∷ [])
refused_last s done line is = omega (arith, refused_in-append s done (line ∷ []), ap (λ b. (if b then 1 else 0) + 0) is)

Halts-of : (stop : Bool) (lines done more : List (List ℕ)) (old mid new : State) (before between past : Option (List ℕ))
    (so_far told' : RunEnd)
    → lines ≡ done ++ more
    → Reached done (over stop old mid before between) none_so_far so_far → Stopped more (over stop mid new between past) so_far told'
    → Halts stop lines old new before past told'
Halts-of stop lines done more old mid new before between past so_far told' is a s =
    let full = done ++ s.done in
    let same : done ++ (s.done ++ s.line ∷ []) ≡ full ++ s.line ∷ [] = sym (append_assoc done s.done (s.line ∷ [])) in
    let at : after mid s.done ≡ after old full = ap (λ x. after x s.done) a.stands.store ∙ sym (after-append old done s.done) in
    let refused : (step_of (after old full) s.line).is_refused ≡ true = ap (λ x. (step_of x s.line).is_refused) (sym at) ∙ s.refused in
    let are : lines ≡ full ++ s.line ∷ s.rest = is ∙ ap (λ l. done ++ l) s.are ∙ sym (append_assoc done s.done (s.line ∷ s.rest)) in
    let on : KeepsOn stop old full =
    KeepsOn-append stop old done s.done a.keeps_on (subst (λ x. KeepsOn stop x s.done) a.stands.store s.keeps_on) in
    record {
      lines_run = full ++ s.line ∷ [];
      are_run = λ tail.
          ap (λ l. run_lines stop old (l ++ tail)) are ∙ ap (run_lines stop old) (append_assoc full (s.line ∷ s.rest) tail)
          ∙ run_lines-append stop old full (s.line ∷ (s.rest ++ tail)) on
          ∙ ap (λ l. full ++ l) (run_lines-stop stop (after old full) s.line (s.rest ++ tail) s.stops refused);
      stands =
          subst (λ l. IsStateAfter l (over stop old new before past)) same
          (StandsAfter-append stop done (s.done ++ s.line ∷ []) old mid new before between past a.stands s.stands);
      counts =
          subst (λ l. CountsMore l old none_so_far told') same
          (CountsMore-append done (s.done ++ s.line ∷ []) old mid none_so_far so_far told' a.stands.store a.counts s.counts);
      stops = s.stops;
      refused = refused_last old full s.line refused;
      ended = subst (λ l. length (full ++ s.line ∷ []) ≤ length l) (sym are) (halted_at full s.rest s.line);
    }

-- ---- how a piece ended

pub goes_on : (end : PieceEnd) (more : RunEnd) (front piece : List ℕ) (run : Run) (held : Option (List ℕ)) (so_far : RunEnd)
    → end ≡ GoesOn more
    → RunsPiece (Ok end) front piece run held so_far → RunsPiece (Ok (GoesOn more)) front piece run held so_far
goes_on end more front piece run held so_far is c = subst (λ e. RunsPiece (Ok e) front piece run held so_far) is c

pub stops_at : (end : PieceEnd) (more : RunEnd) (front piece : List ℕ) (run : Run) (held : Option (List ℕ)) (so_far : RunEnd)
    → end ≡ Stops more
    → RunsPiece (Ok end) front piece run held so_far → RunsPiece (Ok (Stops more)) front piece run held so_far
stops_at end more front piece run held so_far is c = subst (λ e. RunsPiece (Ok e) front piece run held so_far) is c

-- ---- one piece more is read after others

module _ (left mid left' : Option (List ℕ)) (stop : Bool) (old now : State) (held before between : Option (List ℕ)) (so_far : RunEnd)
    (piece : List ℕ)
    (b : Between left mid held (over stop old now before between) so_far) (consumed : Consumes mid left' piece) where
  -- a fault among its lines
  pub Between-fault : (fault : RunFault) (end : SourceEnd) (new : State) (past : Option (List ℕ))
      → FaultAmong fault (ended_after (unended_after [] b.input) piece) (over stop now new between past)
      → (input : List ℕ) × Consumes left left' input × Ran (Err fault) end input (over stop old new before past)
  Between-fault fault end new past f = (
    b.input ++ piece,
    Consumes-trans left mid left' b.input piece b.consumed consumed,
    FaultAmong-ran fault end stop (b.input ++ piece) (ended_lines (b.input ++ piece)) (ended_lines b.input)
        (ended_after (unended_after [] b.input) piece) old now new before between past so_far
        (inl refl) (ended-more b.input piece) b.reached f,
  )

  -- a refused line of it ends the run
  Between-halts : (new : State) (past : Option (List ℕ)) (more : RunEnd)
      → Stopped (ended_after (unended_after [] b.input) piece) (over stop now new between past) so_far more
      → Halts stop (ended_lines (b.input ++ piece)) old new before past more
  Between-halts new past more s =
      Halts-of stop (ended_lines (b.input ++ piece)) (ended_lines b.input) (ended_after (unended_after [] b.input) piece) old now new
      before between past so_far more (ended-more b.input piece) b.reached s

  -- what was written is flushed after it, or the sink fails at the flush
  module _ (past flushed : Option (List ℕ)) (kept : Keeps past flushed) where
    pub Between-more : (new : State) (held' : Option (List ℕ)) (more : RunEnd)
        → RunsPiece (Ok (GoesOn more)) (unended_after [] b.input) piece (over stop now new between past) held' so_far
        → Between left left' held' (over stop old new before flushed) more
    Between-more new held' more lines_run =
        record {
          input = b.input ++ piece;
          consumed = Consumes-trans left mid left' b.input piece b.consumed consumed;
          is_held = lines_run.1 ∙ ap kept_of (sym (unended_after-append [] b.input piece));
          reached = subst (λ l. Reached l (over stop old new before flushed) none_so_far more) (sym (ended-more b.input piece))
              (Reached-kept stop _ old new before past flushed none_so_far more
              (Reached-append stop (ended_lines b.input) (ended_after (unended_after [] b.input) piece) old now new before between past
              none_so_far so_far more b.reached lines_run.0) kept);
        }

    pub Between-stops : (end : SourceEnd) (new : State) (more : RunEnd)
        → Stopped (ended_after (unended_after [] b.input) piece) (over stop now new between past) so_far more → end.IsLast b.input piece
        → (input : List ℕ) × Consumes left left' input × Ran (Ok more) end input (over stop old new before flushed)
    unfolding Ran
    Between-stops end new more s last =
        let h = Between-halts new past more s in
        let input = b.input ++ piece in
        let is : run_lines stop old (script_lines input) ≡ h.lines_run = ap (run_lines stop old) (script_lines-ended input)
        ∙ h.are_run (line_left (unended_after [] input)) in (
          input,
          Consumes-trans left mid left' b.input piece b.consumed consumed,
          (
            inr (record {
              stops = h.stops;
              front = b.input;
              piece = piece;
              are = refl;
              is_last = last;
              keeps_on = b.reached.keeps_on h.stops;
              refused = subst (λ l. 0 < refused_in old l) (sym is) h.refused;
              ended = subst (λ l. length l ≤ length (ended_lines input)) (sym is) h.ended;
            }),
            Finishes-of stop input h.lines_run old new before past flushed more is h.stands h.counts kept,
          ),
        )

    pub Between-flushing : (piece_end : PieceEnd) (end : SourceEnd) (new : State) (held' : Option (List ℕ))
        → RunsPiece (Ok piece_end) (unended_after [] b.input) piece (over stop now new between past) held' so_far
        → (input : List ℕ) × Consumes left left' input × Ran (Err Write) end input (over stop old new before flushed)
    unfolding Ran
    Between-flushing (GoesOn more) end new held' lines_run =
        let b' = Between-more new held' more lines_run in (
          b'.input,
          b'.consumed,
          (
            ended_lines b'.input,
            inl refl,
            inr (subst (λ l. IsStateAfter l (over stop old new before flushed))
                (sym (run_lines-all stop old (ended_lines b'.input) b'.reached.keeps_on)) b'.reached.stands),
          ),
        )
    Between-flushing (Stops more) end new held' lines_run =
        let h = Between-halts new past more lines_run in
        let input = b.input ++ piece in
        let is : run_lines stop old (ended_lines input) ≡ h.lines_run = ap (run_lines stop old) (sym (append-nil (ended_lines input)))
        ∙ h.are_run [] in (
          input,
          Consumes-trans left mid left' b.input piece b.consumed consumed,
          (
            ended_lines input,
            inl refl,
            inr (subst (λ l. IsStateAfter l (over stop old new before flushed)) (sym is)
                (record {
                  store = h.stands.store;
                  output = Appends-kept before past flushed (output_of old h.lines_run) h.stands.output kept;
                })),
          ),
        )

-- ---- the last line is carried out at the end of the input

module _ (left left' : Option (List ℕ)) (stop : Bool) (old now : State) (held before between : Option (List ℕ)) (so_far : RunEnd)
    (b : Between left left' held (over stop old now before between) so_far) where
  -- a fault in it
  pub Between-fault_last : (fault : RunFault) (end : SourceEnd) (new : State) (past : Option (List ℕ))
      → end.IsRead → FaultAmong fault (line_left (unended_after [] b.input)) (over stop now new between past)
      → (input : List ℕ) × Consumes left left' input × Ran (Err fault) end input (over stop old new before past)
  Between-fault_last fault end new past read f = (
    b.input,
    b.consumed,
    FaultAmong-ran fault end stop b.input (script_lines b.input) (ended_lines b.input) (line_left (unended_after [] b.input)) old now new
        before between past so_far
        (inr (read, refl)) (script_lines-ended b.input) b.reached f,
  )

  -- what was written is flushed after it, or the sink fails at the flush
  module _ (new : State) (past flushed : Option (List ℕ)) (more : RunEnd)
      (lines_run : RunsLast (Ok more) (unended_after [] b.input) (over stop now new between past) so_far) (kept : Keeps past flushed)
    where
      Between-finishes : Finishes b.input (over stop old new before flushed) more
      Between-finishes =
          let last = line_left (unended_after [] b.input) in
          Finishes-of stop b.input (ended_lines b.input ++ last) old new before past flushed more
          (ap (run_lines stop old) (script_lines-ended b.input)
          ∙ run_lines-append stop old (ended_lines b.input) last b.reached.keeps_on
          ∙ ap (λ l. ended_lines b.input ++ l) (last_run stop (after old (ended_lines b.input)) (unended_after [] b.input)))
          (StandsAfter-append stop (ended_lines b.input) last old now new before between past b.reached.stands lines_run.0)
          (CountsMore-append (ended_lines b.input) last old now none_so_far so_far more b.reached.stands.store b.reached.counts lines_run.1)
          kept

      pub Between-ends : (end : SourceEnd) → end.IsRead
          → (input : List ℕ) × Consumes left left' input × Ran (Ok more) end input (over stop old new before flushed)
      unfolding Ran
      Between-ends end read = (b.input, b.consumed, (inl read, Between-finishes))

      pub Between-ends_flushing : (end : SourceEnd) → end.IsRead
          → (input : List ℕ) × Consumes left left' input × Ran (Err Write) end input (over stop old new before flushed)
      unfolding Ran
      Between-ends_flushing end read =
          let f = Between-finishes in
          (b.input, b.consumed, (script_lines b.input, inr (read, refl), inr f.stands))

-- ---- a step more of the source

pub ReadsOn-more : {S : Type 0} (gives : S → ℕ → S → Type 0) (pieces n : ℕ) (old mid new : S) → ReadsOn gives pieces old mid → 0 < n
    → gives mid n new → ReadsOn gives (pieces + 1) old new
ReadsOn-more gives pieces n old mid new on some call =
    let more : ReadsOn gives (suc pieces) old new = (mid, on, n, some, call) in
    subst (λ k. ReadsOn gives k old new) (suc_is pieces) more

-- ---- a piece more that is answered

pub AnswersInTurn-more : {S K : Type 0} (source : Source S) (sink : Sink K) (store : State) (pieces n : ℕ) (old mid new : S)
    (old_sink mid_sink new_sink : K)
    → AnswersInTurn source sink store pieces old old_sink mid mid_sink → 0 < n → source.gives mid n new
    → IsAnswered source sink store old old_sink new new_sink → AnswersInTurn source sink store (pieces + 1) old old_sink new new_sink
AnswersInTurn-more source sink store pieces n old mid new old_sink mid_sink new_sink on some call answered =
    let more : AnswersInTurn source sink store (suc pieces) old old_sink new new_sink = (mid, mid_sink, on, n, some, call, answered) in
    subst (λ k. AnswersInTurn source sink store k old old_sink new new_sink) (suc_is pieces) more
