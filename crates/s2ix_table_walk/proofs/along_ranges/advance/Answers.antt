use Rattle.std.proofs.Common.{◌≡◌, ◌≤◌, ◌∙◌, max, ap, subst, sym, inl, inr, rules, arith}
use Rattle.s2id_core.specs.declared.cell_id.CellId.{CellId}
use Rattle.s2id_core.specs.CellId.{raw_of, first_of, end_of}
use Rattle.s2id_core.proofs.Nested.{span}
use Rattle.s2id_union.proofs.NormalForm.{covers_from_test}
use Rattle.s2ix_table_walk.specs.Places.{LeadsTo}
use Rattle.s2ix_table_walk.specs.Table.{range_at}
use Rattle.s2ix_table_walk.proofs.Meetings.{none_meets}
use Rattle.s2ix_table_walk.proofs.WalkSteps.{IsPast, IsBegun, begun_after, passed_all, gap_from, range_fits, walk_past}
use Rattle.s2ix_table_walk.specs.Shown.{Shown}
use Rattle.s2ix_table_walk.specs.declared.cost.Cost.{Cost}
use Rattle.s2ix_table_walk.proofs.Paying.{IsPassed, step_pays}
use Rattle.s2ix_table_walk.proofs.along_ranges.advance.Given.{Over}
use Rattle.s2ix_table_walk.proofs.along_ranges.advance.Goals as goal
use Rattle.s2ix_table_walk.proofs.along_ranges.advance.Goals.{Joined-row-end, then-row-end, else-row-end}

pub returns-then-cell-cells-clause-ends : goal.returns-then-cell-cells-clause-ends
returns-then-cell-cells-clause-ends g c e =
    none_meets c.args.cells.now (g.R.Reader.shown c.args.reader.now).pairs c.args.walk.seen
    (passed_all c.args.cells.now c.first_beyond-cell.result c.args.walk.seen c.first_beyond-cell.ensures.passed
    (omega (arith, c.if-cell-cells.true)))

pub returns-then-cell-cells-clause-passed : goal.returns-then-cell-cells-clause-passed
returns-then-cell-cells-clause-passed g c e j d lt within =
    c.first_beyond-cell.ensures.passed j d (omega (arith, c.if-cell-cells.true)) within

pub overflow_add-next : goal.overflow_add-next
overflow_add-next g c =
    let s = g.R.Reader.shown c.args.reader.now in
    let fits = range_fits s.pairs s.ranges (g.met.R.Reader.is_shown c.args.reader.now).is_table c.range_from-range.result.range
    c.range_from-range.ensures.found.within in
    search (rules, fits)

-- the limit of the range that was read
limit_is : (g : Over) (c : goal.Joined-row-end g)
    → c.row_and_first-place.result.0.limit ≡ (range_at (g.R.Reader.shown c.args.reader.now).ranges c.range_from-range.result.range).limit
limit_is g c =
    c.row_and_first-place.ensures.limit
    ∙ ap (λ (z : Shown g.row.R-Place.Denot). (range_at z.ranges c.range_from-range.result.range).limit) c.range_from-range.ensures.same

-- the last cell that begins in the range
last_is : (g : Over) (c : goal.Joined-row-end g)
    → IsBegun c.args.cells.now c.first_beyond-cell.result c.row_and_first-place.result.0.limit c.last_begun-last.result
    c.index-cells-last.result
last_is g c = record {
  from = c.last_begun-last.ensures.from;
  within = c.last_begun-last.ensures.within;
  is = c.index-cells-last.is;
  begins = let b = c.last_begun-last.ensures.begins c.index-cells-last.result in
      let e = ap (λ (y : CellId). first_of y) c.index-cells-last.is in omega arith;
  after = c.last_begun-last.ensures.last;
}

-- the walk after the range at hand
step_past : (g : Over) (c : goal.Joined-row-end g)
    → IsPast (g.R.Reader.shown c.args.reader.now) c.args.cells.now
    (record {
      cell = c.last_begun-last.result;
      range = c.if-row-end.next.0;
      seen = c.if-row-end.next.1;
      from = c.args.walk.seen;
      place = c.row_and_first-place.result.1;
      known = c.range_from-range.result.known;
    })
step_past g c =
    let s = g.R.Reader.shown c.args.reader.now in
    let x = c.index-cells-cell.result in
    let within = c.if-cell-cells.false in
    let ends = ap (λ (y : CellId). end_of y) c.index-cells-cell.is in
    let beyond = c.first_beyond-cell.ensures.beyond x (omega arith) in
    let leads =
    subst (λ (z : Shown g.row.R-Place.Denot).
    LeadsTo z.chain c.row_and_first-place.result.1 (range_at z.ranges c.range_from-range.result.range).contents)
    (c.range_from-range.ensures.same) c.row_and_first-place.ensures.first in
    let y = c.index-cells-last.result in
    walk_past s c.args.cells.now c.first_beyond-cell.result c.range_from-range.result.range _ _ x y _ (record {
      follow = c.requires.follow;
      table = (g.met.R.Reader.is_shown c.args.reader.now).is_table;
      odd = c.requires.walk.odd;
      tight = λ q some e. covers_from_test c.args.cells.now q (c.requires.walk.tight q some e);
      passed = c.first_beyond-cell.ensures.passed;
      within = omega arith;
      is = c.index-cells-cell.is;
      beyond = omega arith;
      found = c.range_from-range.ensures.found;
    }) (last_is g c) leads (limit_is g c) c.span_end-end.ensures c.range_from-range.ensures.known (elim c.if-row-end.branch [
      | then-row-end w ↦ inl (w.if-row-end.true, w.next-is)
      | else-row-end w ↦ inr (w.if-row-end.false, w.next-is)
    ])

pub returns-clause-left : goal.returns-clause-left
returns-clause-left g c = (step_past g (goal.at.returns-clause-left g c).Joined-row-end).left

pub returns-clause-next : goal.returns-clause-next
returns-clause-next g c = (step_past g (goal.at.returns-clause-next g c).Joined-row-end).next

-- the cell and the range that are passed
step_passes : (g : Over) (c : goal.Joined-row-end g)
    → IsPassed c.args.cells.now (g.R.Reader.shown c.args.reader.now).ranges c.index-cells-cell.result c.range_from-range.result.range
    c.args.walk.seen c.if-row-end.next.1
step_passes g c =
    let x = c.index-cells-cell.result in
    let within = c.if-cell-cells.false in
    let ends = ap (λ (y : CellId). end_of y) c.index-cells-cell.is in
    let beyond = c.first_beyond-cell.ensures.beyond x (omega arith) in
    let found = c.range_from-range.ensures.found in
    let y = c.index-cells-last.result in
    let limit = limit_is g c in
    let end = c.span_end-end.ensures in
    record {
      held = (c.first_beyond-cell.result, omega arith, sym c.index-cells-cell.is);
      beyond = omega arith;
      within = found.within;
      start = found.start;
      limit = found.limit;
      goes =
          let b = begun_after c.args.cells.now c.first_beyond-cell.result c.row_and_first-place.result.0.limit c.last_begun-last.result x y
          c.requires.follow c.index-cells-cell.is (last_is g c) in
          let z = span (raw_of y) y.valid in
          let z1 = z.from in
          let z2 = z.to in
          let later : end_of x ≤ end_of y = elim b [ inl le ↦ omega arith | inr e ↦ omega arith ] in
          elim c.if-row-end.branch [
            | then-row-end w ↦ omega (arith, w.if-row-end.true, ap (λ to. to.1) w.next-is)
            | else-row-end w ↦ omega (arith, w.if-row-end.false, later, ap (λ to. to.1) w.next-is)
          ];
      stays = elim c.if-row-end.branch [
        | then-row-end w ↦ omega (arith, ap (λ to. to.1) w.next-is)
        | else-row-end w ↦ omega (arith, w.if-row-end.false, ap (λ to. to.1) w.next-is)
      ];
      first =
          gap_from c.args.cells.now c.first_beyond-cell.result c.args.walk.seen x c.requires.follow c.first_beyond-cell.ensures.passed
          (omega arith) c.index-cells-cell.is;
      fresh =
          c.requires.walk.fresh c.range_from-range.result.range (max c.args.walk.seen (first_of x))
          (record {
            cell = x;
            held = (c.first_beyond-cell.result, omega arith, sym c.index-cells-cell.is);
            from = omega arith;
            to = let s = span (raw_of x) x.valid in omega (arith, s.from, s.to);
          })
          (omega arith) found;
    }

pub returns-clause-paid : goal.returns-clause-paid
returns-clause-paid g c calls paid =
    let counts = c.row_and_first-place.ensures.counts in
    let looks = ap (λ (z : Cost). z.looks) counts in
    let probes = ap (λ (z : Cost). z.probes) counts in
    let e = c.range_from-range.ensures in
    let searched = e.probes in
    step_pays (g.R.Reader.shown c.args.reader.now) c.args.cells.now c.args.walk _ c.index-cells-cell.result
    c.range_from-range.result.range calls _ _ (step_passes g (goal.at.returns-clause-paid g c).Joined-row-end) (looks ∙ e.looks)
    (λ le. let same = ap (λ (z : Cost). z.probes) (e.at_hand le) in omega arith) (omega arith) (omega (arith, e.kept))
    (g.met.R.Reader.is_shown c.args.reader.now) paid

pub returns-clause-rises : goal.returns-clause-rises
returns-clause-rises g c =
    let p = step_passes g (goal.at.returns-clause-rises g c).Joined-row-end in
    let a = p.goes in
    let b = p.beyond in
    let l = p.limit in
    omega arith
