-- The pairs of the face lie between the two places that were found.
use Rattle.std.proofs.Common.{◌≡◌, ℕ, ◌+◌, ◌-◌, length, take, drop, ap, ◌∙◌, arith}
use Rattle.std.proofs.lemmas.Result.{IfOk-weaker, on_ok_weaker}
use Rattle.s2ix_bag_pairs.specs.Collection.{Collection}
use Rattle.s2id_core.specs.BinaryDigits.{binary_digits}
use Rattle.s2ix_table_kept.specs.Faces.{held_on}
use Rattle.s2ix_table_faced.proofs.PairsOnFaces.{IsFaceCut, face_cut}
use Rattle.s2ix_table_kept.proofs.ReadCounts.{face_reads}
use Rattle.s2ix_table_faced.proofs.read_faces.read_list.Given.{Over}
use Rattle.s2ix_table_faced.proofs.read_faces.read_list.Goals as goal
use Rattle.s2ix_table_faced.proofs.read_faces.read_list.Goals.{After-first_from-after}

cut : (g : Over) (c : After-first_from-after g)
    → IsFaceCut c.args.face c.first_from-first.result c.first_from-after.result (g.B.PairReader.shown c.args.reader.now)
cut g c =
    let first = c.first_from-first.ensures in
    let after = c.first_from-after.ensures in
    face_cut c.args.face c.first_from-first.result c.first_from-after.result (g.B.PairReader.shown c.args.reader.now)
    (g.B.PairReader.shown c.first_from-first.new.reader) first.same first.within after.within first.below first.rest after.below after.rest

pub read_between-requires-clause-rises : goal.read_between-requires-clause-rises
read_between-requires-clause-rises g c =
    let rises = (cut g (goal.at.read_between-requires-clause-rises g c).After-first_from-after).rises in
    omega (arith, rises)

pub returns-clause-pairs : goal.returns-clause-pairs
returns-clause-pairs g c =
    let hs = g.B.PairReader.shown c.args.reader.now in
    let a : ℕ = c.first_from-first.result in
    let b : ℕ = c.first_from-after.result in
    let is = cut g (goal.at.returns-clause-pairs g c).After-first_from-after in
    let same = c.first_from-after.ensures.same ∙ c.first_from-first.ensures.same in
    IfOk-weaker c.read_between.result _ _ (λ held made. made ∙ ap (λ (xs : Collection). take (b - a) (drop a xs)) same ∙ is.pairs)
    c.read_between.ensures.pairs

pub returns-clause-reads : goal.returns-clause-reads
returns-clause-reads g c =
    let hs = g.B.PairReader.shown c.args.reader.now in
    let is = cut g (goal.at.returns-clause-reads g c).After-first_from-after in
    let first = c.first_from-first.ensures in
    let same = ap (λ (xs : Collection). binary_digits (length xs + 1)) first.same in
    let p : ℕ = length (held_on c.args.face hs) in
    let q : ℕ = c.first_from-after.result - c.first_from-first.result in
    let count : q ≡ p = is.count in
    on_ok_weaker c.read_between.result
    (λ each.
    face_reads (binary_digits (length hs + 1)) (binary_digits (length (g.B.PairReader.shown c.first_from-first.new.reader) + 1)) p q q p _
    _ _ _ same count (omega arith) first.reads c.first_from-after.ensures.reads
    (record { made = q; counts = each; some = omega arith; within_limit = omega arith }))
    c.read_between.ensures.counts

pub returns-clause-refused : goal.returns-clause-refused
returns-clause-refused g c =
    let hs = g.B.PairReader.shown c.args.reader.now in
    let is = cut g (goal.at.returns-clause-refused g c).After-first_from-after in
    let first = c.first_from-first.ensures in
    let same = ap (λ (xs : Collection). binary_digits (length xs + 1)) first.same in
    let p : ℕ = length (held_on c.args.face hs) in
    let q : ℕ = c.first_from-after.result - c.first_from-first.result in
    face_reads (binary_digits (length hs + 1)) (binary_digits (length (g.B.PairReader.shown c.first_from-first.new.reader) + 1)) p q 0 0 _
    _ _ _ same is.count (omega arith) first.reads c.first_from-after.ensures.reads c.read_between.ensures.refused
