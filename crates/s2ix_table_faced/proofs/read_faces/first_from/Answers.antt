-- A pair before the face moves the one end after it, another the other end before it.
use Rattle.std.proofs.Common.{ℕ, suc, ◌+◌, ◌-◌, ◌/◌, ◌<◌, ◌≤◌, length, take, drop, slice_get, sym, ap, ◌∙◌, subst, arith, ⊎_elim}
use Rattle.std.proofs.lemmas.Bool.{iff_false, cases_lt}
use Rattle.s2ix_bag_lists.specs.Faces.{face_start}
use Rattle.s2ix_bag_pairs.specs.Collection.{Collection, AreBelow, IsCollectionFrom}
use Rattle.s2ix_bag_pairs.specs.Pair.{rank_of}
use Rattle.s2id_core.specs.BinaryDigits.{binary_digits}
use Rattle.s2id_core.proofs.BinaryDigits.{digits_rise, digits_step}
use Rattle.s2ix_table_kept.specs.Reading.{with_read}
use Rattle.s2ix_table_kept.proofs.FaceAround.{below_up_to, from_later}
use Rattle.s2ix_table_faced.proofs.PairsOnFaces.{below_read, from_read}
use Rattle.s2ix_table_faced.proofs.read_faces.first_from.Goals as goal

le_from_not_lt : (m n : ℕ) → (m < n → ⊥) → n ≤ m
le_from_not_lt m n not_lt = ⊎_elim (λ lt. absurd (not_lt lt)) (λ le. le) (cases_lt m n)

-- half of what is left costs one digit
halved : (k d left n : ℕ) → 0 < d → left ≤ d / 2 → k + binary_digits d ≤ n → suc k + binary_digits left ≤ n
halved k d left n some half paid = omega (arith, digits_step d some, digits_rise left (d / 2) half, paid)

pub loop-from-preserved-then-is_before_face : goal.loop-from-preserved-then-is_before_face
loop-from-preserved-then-is_before_face g c =
    let hs = g.B.PairReader.shown c.args.reader.now in
    let i = c.loop-from.invariant in
    let k : ℕ = i.0.0 in
    let d : ℕ = c.loop-from.to - c.loop-from.from in
    let middle : ℕ = c.loop-from.from + d / 2 in
    let some : c.loop-from.from < c.loop-from.to = c.loop-from-test.true in
    let within = i.3 in
    let around = c.face_around-begin in
    let end : ℕ = around.result.1 in
    let ends = around.ensures.ends in
    let least = c.min-from.ensures in
    let found = ap (λ (xs : Collection). slice_get xs middle) (sym i.1) ∙ c.read.ensures.held in
    let own = below_read (face_start c.args.face) middle hs c.read.result (g.met.B.PairReader.is_read c.args.reader.now).is_collection
    (omega arith) found (c.is_before_face.ensures.0 c.if-is_before_face.true) in
    let all = subst
    (λ (xs : Collection). AreBelow (face_start c.args.face) (take (middle + 1) xs) → AreBelow (face_start c.args.face) (take end xs)) i.1
    (around.ensures.below c.args.face) own in (
      (
        suc k,
        c.read.ensures.counts ∙ ap (λ (n : ℕ). with_read n) i.0.1,
        halved k d (c.loop-from.to - c.min-from.result) (binary_digits (length hs)) (omega arith) (omega (arith, ends, least)) i.0.2,
      ),
      c.read.ensures.same ∙ i.1,
      omega (arith, least),
      within,
      below_up_to (face_start c.args.face) end c.min-from.result hs (omega (arith, least)) all,
      i.5,
    )

pub loop-from-preserved : goal.loop-from-preserved
loop-from-preserved g c =
    let hs = g.B.PairReader.shown c.args.reader.now in
    let i = c.loop-from.invariant in
    let k : ℕ = i.0.0 in
    let d : ℕ = c.loop-from.to - c.loop-from.from in
    let middle : ℕ = c.loop-from.from + d / 2 in
    let some : c.loop-from.from < c.loop-from.to = c.loop-from-test.true in
    let within = i.3 in
    let around = c.face_around-begin in
    let begin : ℕ = around.result.0 in
    let begins = around.ensures.begins in
    let most = c.max-to.ensures in
    let rises = (g.met.B.PairReader.is_read c.args.reader.now).is_collection in
    let found = ap (λ (xs : Collection). slice_get xs middle) (sym i.1) ∙ c.read.ensures.held in
    let own = from_read (face_start c.args.face) middle hs c.read.result rises found
    (le_from_not_lt (rank_of c.read.result.pair) (face_start c.args.face) (iff_false c.is_before_face.ensures c.if-is_before_face.false)) in
    let all = subst
    (λ (xs : Collection). IsCollectionFrom (face_start c.args.face) (drop middle xs) → IsCollectionFrom (face_start c.args.face) (drop begin xs)) i.1
    (around.ensures.from c.args.face) own in (
      (
        suc k,
        c.read.ensures.counts ∙ ap (λ (n : ℕ). with_read n) i.0.1,
        halved k d (c.max-to.result - c.loop-from.from) (binary_digits (length hs)) (omega arith) (omega (arith, begins, most)) i.0.2,
      ),
      c.read.ensures.same ∙ i.1,
      omega (arith, most),
      omega (arith, most, begins),
      i.4,
      from_later (face_start c.args.face) begin c.max-to.result hs rises (omega (arith, most)) all,
    )

pub returns-clause-reads : goal.returns-clause-reads
returns-clause-reads g c =
    let i = c.loop-from.invariant in
    let n : ℕ = length (g.B.PairReader.shown c.args.reader.now) in
    let paid = i.0.2 in
    record { made = i.0.0; counts = i.0.1; some = omega arith; within_limit = omega (arith, paid, digits_rise n (n + 1) (omega arith)) }
