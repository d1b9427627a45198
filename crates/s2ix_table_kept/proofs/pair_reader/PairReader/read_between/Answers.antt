-- Each turn reads one pair more.
use Rattle.std.proofs.Common.{◌≡◌, ℕ, ◌-◌, [], ◌∷◌, ◌++◌, length, take, drop, ap, ◌∙◌, arith, rules}
use Rattle.std.proofs.lemmas.Result.{IfOk-weaker}
use Rattle.s2ix_table_kept.specs.Reading.{with_reads}
use Rattle.s2ix_table_kept.proofs.OneByOne.{none_yet, read_more, read_so_far, with_next}
use Rattle.s2ix_table_kept.proofs.ReadBlocks.{between_rises, between_few}
use Rattle.s2ix_table_kept.proofs.pair_reader.PairReader.read_between.Goals as goal

pub loop-place-init : goal.loop-place-init
loop-place-init g c = none_yet _ c.args.from c.args.to _ _ c.requires.rises c.in_ok-held.ensures.items

pub read-requires : goal.read-requires
read-requires g c =
    let within = c.requires.within in
    let more = c.loop-place-test.true in
    let all = ap length c.loop-place.invariant.same in
    omega arith

pub returns-in_err-push-clause-same : goal.returns-in_err-push-clause-same
returns-in_err-push-clause-same g c = c.read.ensures.same ∙ c.loop-place.invariant.same

pub returns-in_err-push-clause-refused : goal.returns-in_err-push-clause-refused
returns-in_err-push-clause-refused g c =
    with_next _ _ _ _ _ _ _ _ _ c.loop-place.invariant c.loop-place-test.true c.read.ensures.counts

pub loop-place-preserved : goal.loop-place-preserved
loop-place-preserved g c =
    read_more _ _ _ _ _ _ _ _ _ _ _ c.read.result c.requires.within c.loop-place.invariant c.loop-place-test.true c.read.ensures.held
    c.read.ensures.same c.read.ensures.counts (c.in_ok-push.ensures.items ∙ ap (λ x. c.loop-place.held.items ++ x ∷ []) c.new.ensures)

pub new-requires-2-clause-rises : goal.new-requires-2-clause-rises
new-requires-2-clause-rises g c =
    let hs = g.Self.PairReader.shown c.args.self.now in
    let is = g.met.Self.PairReader.is_read c.args.self.now in
    let i = c.loop-place.invariant in
    between_rises hs c.loop-place.held.items c.args.from (c.loop-place.place - c.args.from) is.is_collection i.copied.pairs

pub new-requires-2-clause-within_limit : goal.new-requires-2-clause-within_limit
new-requires-2-clause-within_limit g c =
    let hs = g.Self.PairReader.shown c.args.self.now in
    let is = g.met.Self.PairReader.is_read c.args.self.now in
    let i = c.loop-place.invariant in
    let ends = i.copied.ends in
    let within = c.requires.within in
    between_few hs c.loop-place.held.items c.args.from c.loop-place.place is.within_limit i.copied.begins (omega arith) i.copied.pairs

pub returns-clause-pairs : goal.returns-clause-pairs
returns-clause-pairs g c =
    let hs = g.Self.PairReader.shown c.args.self.now in
    let i = c.loop-place.invariant in
    let ends = i.copied.ends in
    let past = c.loop-place-test.false in
    let all : c.loop-place.place ≡ c.args.to = omega arith in
    IfOk-weaker c.new-2.result _ _
    (λ held made. made ∙ i.copied.pairs ∙ ap (λ (n : ℕ). take (n - c.args.from) (drop c.args.from hs)) all) c.new-2.ensures

pub returns-clause-same : goal.returns-clause-same
returns-clause-same g c = c.loop-place.invariant.same

pub returns-clause-counts : goal.returns-clause-counts
returns-clause-counts g c =
    let i = c.loop-place.invariant in
    let ends = i.copied.ends in
    let past = c.loop-place-test.false in
    let all : c.loop-place.place ≡ c.args.to = omega arith in
    let counts = i.counts ∙ ap (λ (n : ℕ). with_reads (n - c.args.from) (g.Self.PairReader.spent c.args.self.now)) all in
    search (rules, counts)

pub returns-clause-refused : goal.returns-clause-refused
returns-clause-refused g c = read_so_far _ _ _ _ _ _ _ _ c.loop-place.invariant
