-- What was written, if a text is written after another, or the texts of a list's items one by one.
use Rattle.std.proofs.Common.{◌≡◌, ℕ, ◌+◌, ◌<◌, List, [], ◌∷◌, ◌++◌, length, take, get_or, Some, Result, Ok, Err, ◌∙◌, arith}
use Rattle.std.specs.Prelude.{IsErr, flat_map, slice_get}
use Rattle.std.proofs.lemmas.Bool.{false≢true}
use Rattle.s2ix_text_parts.specs.declared.sink.Sink.{Ghosts as Sink}
use Rattle.s2ix_text_parts.specs.declared.sink.WriteFault.{WriteFault}
use Rattle.s2ix_text_parts.specs.Puts.{Writes}
use Rattle.s2ix_text_parts.proofs.Prefixes.{AppendsFront-more, Puts-after, Appends-flat_map, Appends-flat_map_turn, Appends-flat_map_end, AppendsFront-flat_map_at, AppendsFront-flat_map_turn}

-- ---- a text after another

-- a text was written, and then the next
pub Writes-then : {K A B : Type 0} {sink : Sink K} {old mid new : K} {x : A} {r : Result B WriteFault} {text next : List ℕ}
    → Writes sink old mid (Ok x) text → Writes sink mid new r next
    → Writes sink old new r (text ++ next)
Writes-then {K} {A} {B} {sink} {old} {mid} {new} {x} {r} {text} {next} p q =
    record {
      puts = Puts-after (sink.taken old) (sink.taken mid) (sink.taken new) r text next p.puts q.puts;
      unflushed = q.unflushed
          ∙ p.unflushed;
      faults = omega (arith, p.faults, q.faults);
    }

-- a fault of the sink ended a text, and so the call
pub Writes-fault : {K A B : Type 0} {sink : Sink K} {old new : K} {fault : WriteFault} {text : List ℕ} (r : Result B WriteFault)
    → IsErr r → Writes {A = A} sink old new (Err fault) text → Writes sink old new r text
Writes-fault (Ok x) is p = absurd (false≢true is)
Writes-fault (Err e) is p = record { puts = p.puts; unflushed = p.unflushed; faults = p.faults }

-- the same, if more was to be written after it
pub Writes-cut : {K A B : Type 0} {sink : Sink K} {old new : K} {fault : WriteFault} {text : List ℕ} (r : Result B WriteFault)
    (more : List ℕ)
    → IsErr r → Writes {A = A} sink old new (Err fault) text → Writes sink old new r (text ++ more)
Writes-cut (Ok x) more is p = absurd (false≢true is)
Writes-cut {K} {A} {B} {sink} {old} {new} {fault} {text} (Err e) more is p =
    record { puts = AppendsFront-more (sink.taken old) (sink.taken new) text more p.puts; unflushed = p.unflushed; faults = p.faults }

-- ---- the items of a list, one by one

-- the texts of the items before one were written, and then that of this one
pub Writes-item : {K A B X : Type 0} {sink : Sink K} {old mid new : K} {x : A} {y : B} (f : X → List ℕ) (xs : List X) (i : ℕ) (item : X)
    → slice_get xs i ≡ Some item → Writes sink old mid (Ok x) (flat_map f (take i xs))
    → Writes sink mid new (Ok y) (f item)
    → Writes sink old new (Ok x) (flat_map f (take (i + 1) xs))
Writes-item {K} {A} {B} {X} {sink} {old} {mid} {new} {x} {y} f xs i item at p q =
    record {
      puts = Appends-flat_map f (sink.taken old) (sink.taken mid) (sink.taken new) xs i item at p.puts q.puts;
      unflushed =
          q.unflushed ∙ p.unflushed;
      faults = omega (arith, p.faults, q.faults);
    }

-- a fault of the sink ended the text of an item
pub Writes-item_fault : {K A B X : Type 0} {sink : Sink K} {old mid new : K} {x : A} {fault : WriteFault} (f : X → List ℕ) (xs : List X)
    (i : ℕ) (item : X)
    → slice_get xs i ≡ Some item → Writes sink old mid (Ok x) (flat_map f (take i xs))
    → Writes {A = B} sink mid new (Err fault) (f item)
    → Writes {A = B} sink old new (Err fault) (flat_map f xs)
Writes-item_fault {K} {A} {B} {X} {sink} {old} {mid} {new} {x} {fault} f xs i item at p q =
    record {
      puts = AppendsFront-flat_map_at f (sink.taken old) (sink.taken mid) (sink.taken new) xs i item at p.puts q.puts;
      unflushed =
          q.unflushed ∙ p.unflushed;
      faults = omega (arith, p.faults, q.faults);
    }

-- the same, if `done` are the items before it
pub Writes-turn : {K A B X : Type 0} {sink : Sink K} {old mid new : K} {x : A} {y : B} (f : X → List ℕ) (xs done : List X) (item : X)
    → (length done < length xs) × (item ≡ get_or xs (length done) item)
    → Writes sink old mid (Ok x) (flat_map f (take (length done) xs)) → Writes sink mid new (Ok y) (f item)
    → Writes sink old new (Ok x) (flat_map f (take (length (done ++ item ∷ [])) xs))
Writes-turn {K} {A} {B} {X} {sink} {old} {mid} {new} {x} {y} f xs done item at p q =
    record {
      puts = Appends-flat_map_turn f (sink.taken old) (sink.taken mid) (sink.taken new) xs done item at p.puts q.puts;
      unflushed =
          q.unflushed ∙ p.unflushed;
      faults = omega (arith, p.faults, q.faults);
    }

pub Writes-turn_fault : {K A B X : Type 0} {sink : Sink K} {old mid new : K} {x : A} {fault : WriteFault} (f : X → List ℕ)
    (xs done : List X) (item : X)
    → (length done < length xs) × (item ≡ get_or xs (length done) item)
    → Writes sink old mid (Ok x) (flat_map f (take (length done) xs))
    → Writes {A = B} sink mid new (Err fault) (f item)
    → Writes {A = B} sink old new (Err fault) (flat_map f xs)
Writes-turn_fault {K} {A} {B} {X} {sink} {old} {mid} {new} {x} {fault} f xs done item at p q =
    record {
      puts = AppendsFront-flat_map_turn f (sink.taken old) (sink.taken mid) (sink.taken new) xs done item at p.puts q.puts;
      unflushed = q.unflushed ∙ p.unflushed;
      faults = omega (arith, p.faults, q.faults);
    }

-- the texts of all items were written
pub Writes-all : {K A X : Type 0} {sink : Sink K} {old new : K} {x : A} (f : X → List ℕ) (xs : List X) (i : ℕ)
    → i ≡ length xs → Writes sink old new (Ok x) (flat_map f (take i xs))
    → Writes sink old new (Ok x) (flat_map f xs)
Writes-all {K} {A} {X} {sink} {old} {new} {x} f xs i end p =
    record { puts = Appends-flat_map_end f (sink.taken old) (sink.taken new) xs i end p.puts; unflushed = p.unflushed; faults = p.faults }
