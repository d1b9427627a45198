-- The sink has room for the line.
use Rattle.std.proofs.Common.{ℕ, ◌≤◌, List, length, subst, arith}
use Rattle.s2ix_cli_answers.specs.Answers.{no_line}
use Rattle.s2ix_text_parts.proofs.Full.{no_room}
use Rattle.s2ix_c_calls.proofs.Answered.{refusal_is_short}
use Rattle.s2ix_c_calls.proofs.answer.put_refusal.Goals as goal

pub unreachable-requires : goal.unreachable-requires
unreachable-requires c =
    let put = c.in-Err.ensures in
    let full = no_room c.write_no.new.sink _ _ c.new-sink.ensures.taken put.puts (omega (arith, put.faults, c.new-sink.ensures.faults)) in
    let long = subst (λ (name : List ℕ). 32 ≤ length (no_line name)) c.name.ensures full in
    omega (arith, long, refusal_is_short c.args.fault)
