-- A sink of a fixed room that failed is full.
use Rattle.std.proofs.Common.{◌≡◌, ℕ, ◌<◌, ◌≤◌, List, [], Option, Some, length, ap, subst, arith}
use Rattle.std.proofs.lemmas.List.{length-append}
use Rattle.s2ix_text_parts.specs.declared.array_sink.ArraySink.{ArraySink}
use Rattle.s2ix_text_parts.specs.Puts.{AppendsFront}

-- so a text of which only a front went out to a new one has no room in it
pub no_room : {ROOM : ℕ} (sink : ArraySink ROOM) (before : Option (List ℕ)) (text : List ℕ) → before ≡ Some []
    → AppendsFront before (Some sink.kept.items) text → 0 < sink.faults
    → ROOM ≤ length text
no_room sink before text new put failed =
    let took = (subst (λ (o : Option (List ℕ)). AppendsFront o (Some sink.kept.items) text) new put) in
    let full = sink.fails_if_full failed in
    omega (arith, full, ap length took.appends, ap length took.is_front.whole_is, length-append took.front took.is_front.rest)
