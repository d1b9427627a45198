use Rattle.std.proofs.Common.{rules, ◌+◌, ◌-◌, ℕ, length, true, false, refl, sym, ◌∙◌, ap, arith}
use Rattle.s2ix_table_walk.specs.Meeting.{meeting_of}
use Rattle.s2ix_table_walk.proofs.Visits.{may_same, no_call, last_call, one_call}
use Rattle.s2ix_table_walk.specs.Walking.{left_of}
use Rattle.s2ix_table_walk.proofs.Calling.{calls_same, meeting_same, paid_same, read_same}
use Rattle.s2ix_table_walk.proofs.walking.walk.Goals as goal

pub loop-held-init : goal.loop-held-init
loop-held-init g c =
    let m = c.new-meeting.result in
    let e = c.new-meeting.ensures in
    let all = meeting_of c.args.target.now (g.R.Reader.shown c.args.reader.now).pairs in
    let left = left_of (g.R.Reader.shown m.reader.now) m.cells.now m.walk in (
      refl,
      e.shown,
      e.cells,
      may_same (λ p x. goal.F-pre g p x) (λ p x r q. goal.F-step g p x r q) c.args.f.now all left (sym e.left) c.requires.may,
      λ k whole last calls.
          calls_same (λ p x r q. goal.F-step g p x r q) c.args.f.now last left all k (length all - length left + k) whole e.left
          (omega (arith, ap length e.left)) calls,
    )

pub loop-held-preserved : goal.loop-held-preserved
loop-held-preserved g c =
    let target = c.args.target.now in
    let s = g.R.Reader.shown c.args.reader.now in
    let old = c.loop-held.meeting in
    let new = c.advance.new.self in
    let i = c.loop-held.invariant in
    let e = c.in-Some.ensures in
    let all = meeting_of target s.pairs in
    let before = left_of (g.R.Reader.shown old.reader.now) old.cells.now old.walk in
    let rest = left_of (g.R.Reader.shown new.reader.now) new.cells.now new.walk in
    let fits = old.paid.fits in
    let same = meeting_same old.cells.now target (g.R.Reader.shown old.reader.now) s i.2 i.1 in
    let called : goal.F-step g c.loop-held.f c.in-Some.held true c.f.new.self = search rules in (
      e.reference ∙ i.0,
      e.shown ∙ i.1,
      e.cells ∙ i.2,
      (may_same (λ p x. goal.F-pre g p x) (λ p x r q. goal.F-step g p x r q) c.loop-held.f before _ e.yields i.3).1 c.f.new.self called,
      λ k whole last calls.
          calls_same (λ p x r q. goal.F-step g p x r q) c.args.f.now last all all (length all - length before + (k + 1))
          (length all - length rest + k) whole refl (omega (arith, ap length e.yields, ap length same, fits))
          (i.4 (k + 1) whole last
          (one_call (λ p x r q. goal.F-step g p x r q) c.loop-held.f c.f.new.self last c.in-Some.held before rest k whole e.yields called
          calls)),
    )

pub returns-then-not-f-clause-visits : goal.returns-then-not-f-clause-visits
returns-then-not-f-clause-visits g c =
    let target = c.args.target.now in
    let s = g.R.Reader.shown c.args.reader.now in
    let old = c.loop-held.meeting in
    let new = c.advance.new.self in
    let i = c.loop-held.invariant in
    let e = c.in-Some.ensures in
    let all = meeting_of target s.pairs in
    let before = left_of (g.R.Reader.shown old.reader.now) old.cells.now old.walk in
    let rest = left_of (g.R.Reader.shown new.reader.now) new.cells.now new.walk in
    let fits = old.paid.fits in
    let same = meeting_same old.cells.now target (g.R.Reader.shown old.reader.now) s i.2 i.1 in
    let called : goal.F-step g c.loop-held.f c.in-Some.held false c.f.new.self = search rules in
    let calls : ℕ = length all - length before + 1 in (
      calls,
      i.4 1 false c.f.new.self
          (last_call (λ p x r q. goal.F-step g p x r q) c.loop-held.f c.f.new.self c.in-Some.held before rest e.yields called),
      paid_same new.cells.now target (g.R.Reader.shown new.reader.now) s new.walk calls (g.R.Reader.spent new.reader.now) _
          (e.cells ∙ i.2) (e.shown ∙ i.1) (search rules) new.walks new.paid (omega (arith, ap length e.yields, ap length same, fits)),
    )

pub returns-clause-visits : goal.returns-clause-visits
returns-clause-visits g c =
    let target = c.args.target.now in
    let s = g.R.Reader.shown c.args.reader.now in
    let old = c.loop-held.meeting in
    let new = c.advance.new.self in
    let i = c.loop-held.invariant in
    let e = c.advance.ensures in
    let ends = c.in_default.ensures.yields in
    let all = meeting_of target s.pairs in
    let before = left_of (g.R.Reader.shown old.reader.now) old.cells.now old.walk in
    let rest = left_of (g.R.Reader.shown new.reader.now) new.cells.now new.walk in
    let calls : ℕ = length all - length before + 0 in (
      calls,
      i.4 0 true c.loop-held.f (no_call (λ p x r q. goal.F-step g p x r q) c.loop-held.f before ends.0),
      paid_same new.cells.now target (g.R.Reader.shown new.reader.now) s new.walk calls (g.R.Reader.spent new.reader.now) _
          (e.cells ∙ i.2) (e.shown ∙ i.1) (search rules) new.walks new.paid (omega (arith, ap length ends.0, ap length ends.1)),
    )

pub returns-clause-whole_probes : goal.returns-clause-whole_probes
returns-clause-whole_probes g c whole =
    let s = g.R.Reader.shown c.args.reader.now in
    let new = c.advance.new.self in
    let i = c.loop-held.invariant in
    let e = c.advance.ensures in
    read_same new.cells.now c.args.target.now (g.R.Reader.shown new.reader.now) s (g.R.Reader.spent new.reader.now).probes _
    (e.cells ∙ i.2) (e.shown ∙ i.1) (search rules) (c.in_default.ensures.whole_probes refl)
