-- Faces by ranks, and where the pairs of a face end.
use Rattle.std.proofs.Common.{◌≡◌, ℕ, zero, suc, ◌+◌, ◌*◌, ◌/◌, ◌<◌, ◌≤◌, ◌↔◌, List, [], ◌∷◌, take, drop, get_or, length, sym, subst, arith, add-one}
use Rattle.std.proofs.Math.Nat.{div-lt_iff_lt-mul, div-mul-le_self}
use Rattle.s2id_core.specs.Span.{face_numbers}
use Rattle.s2ix_bag_pairs.specs.Change.{IsChangeListFrom}
use Rattle.s2ix_bag_pairs.specs.Pair.{rank_of}
use Rattle.s2ix_bag_pairs.specs.declared.pair.Entry.{Entry}
use Rattle.s2ix_bag_lists.specs.Faces.{AreEntriesBelow, face_start}

-- a number is of a face or of one before it exactly if its rank, with any label, is below the next face
pub rank_by_face : (raw label face q : ℕ) → label < 2147483648 → q ≡ raw / face_numbers
    → (q ≤ face) ↔ (raw * 2147483648 + label < face_start (face + 1))
rank_by_face raw label face q small is =
    let split : (raw / face_numbers < face + 1) ↔ (raw < (face + 1) * face_numbers) = div-lt_iff_lt-mul (omega arith) in (
      λ le. let lt : raw < (face + 1) * face_numbers = split.0 (omega (arith, le, is)) in omega (arith, lt, small),
      λ lt. let low : raw < (face + 1) * face_numbers = omega (arith, lt) in omega (arith, split.1 low, is),
    )

-- the rank of a pair lies on the face of its number
pub rank_on_face : (raw label q : ℕ) → label < 2147483648 → q ≡ raw / face_numbers
    → (face_start q ≤ raw * 2147483648 + label) × (raw * 2147483648 + label < face_start (q + 1))
rank_on_face raw label q small is =
    let low : raw / face_numbers * face_numbers ≤ raw = div-mul-le_self raw face_numbers in
    let low_q : q * face_numbers ≤ raw = omega (arith, low, is) in
    (omega (arith, low_q), (rank_by_face raw label q q small is).0 (omega arith))

-- there are six faces
pub face_below_six : (raw q : ℕ) → raw < 13835058055282163712 → q ≡ raw / face_numbers → q < 6
face_below_six raw q small is =
    let split : (raw / face_numbers < 6) ↔ (raw < 6 * face_numbers) = div-lt_iff_lt-mul (omega arith) in
    omega (arith, split.1 (omega (arith, small)), is)

-- ---- entries

one_more : (rank n : ℕ) (es : List Entry) (d : Entry) → n < length es → AreEntriesBelow rank (take n es)
    → rank_of (get_or es n d).pair < rank → AreEntriesBelow rank (take (suc n) es)
one_more rank n [] d within below lt = absurd (omega arith)
one_more rank zero (e ∷ es) d within below lt = (lt, tt)
one_more rank (suc n) (e ∷ es) d within below lt = (below.0, one_more rank n es d (omega arith) below.1 lt)

pub entries_below_more : (rank n : ℕ) (es : List Entry) (d : Entry) → n < length es → AreEntriesBelow rank (take n es)
    → rank_of (get_or es n d).pair < rank → AreEntriesBelow rank (take (n + 1) es)
entries_below_more rank n es d within below lt =
    subst (λ (m : ℕ). AreEntriesBelow rank (take m es)) (sym (add-one n)) (one_more rank n es d within below lt)

pub entries_from : (rank n m : ℕ) (es : List Entry) (d : Entry) → IsChangeListFrom m es
    → (n < length es → rank ≤ rank_of (get_or es n d).pair) → IsChangeListFrom rank (drop n es)
entries_from rank zero m [] d es_is first = tt
entries_from rank zero m (e ∷ es) d es_is first = (first (omega arith), es_is.1, es_is.2)
entries_from rank (suc n) m [] d es_is first = tt
entries_from rank (suc n) m (e ∷ es) d es_is first =
    entries_from rank n (rank_of e.pair + 1) es d es_is.2 (λ within. first (omega arith))

pub from_none : (rank n : ℕ) (es : List Entry) → length es ≤ n → IsChangeListFrom rank (drop n es)
from_none rank zero [] le = tt
from_none rank zero (e ∷ es) le = absurd (omega arith)
from_none rank (suc n) [] le = tt
from_none rank (suc n) (e ∷ es) le = from_none rank n es (omega arith)
