-- The pairs on the faces that a change has entries on, face by face.
use Rattle.std.proofs.Common.{◌≡◌, ℕ, zero, suc, ◌+◌, ◌*◌, ◌<◌, ◌≤◌, Bool, true, false, ◌⊎◌, inl, inr, Some, None, List, [], ◌∷◌, length, get_or, map, set, filter, nat_lt, refl, sym, ap, ◌∙◌, subst, arith, ⊎_elim}
use Rattle.std.specs.Prelude.{if◌then◌else◌}
use Rattle.std.proofs.Math.Nat.{suc-mul, mul-le-mul_right}
use Rattle.std.proofs.lemmas.Bool.{cases_eq, cond-true, cond-false, le-ltb}
use Rattle.std.proofs.lemmas.List.{map-set, set-get_or}
use Rattle.s2id_core.proofs.Bits.{face_by_bits}
use Rattle.s2id_core.specs.CellId.{face_of}
use Rattle.s2ix_bag_lists.proofs.Ends.{face_below_six}
use Rattle.s2ix_bag_pairs.specs.Collection.{Collection}
use Rattle.s2ix_bag_pairs.specs.declared.pair.Entry.{Entry}
use Rattle.s2ix_bag_pairs.specs.declared.pair.Held.{Held}
use Rattle.s2ix_table_kept.specs.Faces.{faces, faces_of, held_on, has_entry_on, changed_on, changed_count}
use Rattle.s2ix_table_kept.specs.Reading.{HasRead, IsFaceRead, two_searches}
use Rattle.s2ix_table_kept.proofs.ReadCounts.{both_read, none_read, read_within}
use Rattle.s2ix_table_faced.proofs.Unchanged.{on_face, off_face}

both : (b : Bool) → (b ≡ true) ⊎ (b ≡ false)
both true = inl refl
both false = inr refl

-- how many pairs are held on a face, if the change has an entry on it
abbrev pub part : List Entry → Collection → ℕ → ℕ
part change hs face = if has_entry_on change face then length (held_on face hs) else 0

-- how many are on such faces before this one
abbrev pub sum_below : List Entry → Collection → ℕ → ℕ
sum_below change hs zero = 0
sum_below change hs (suc face) = sum_below change hs face + part change hs face

pub part_some : (change : List Entry) (hs : Collection) (face : ℕ) → has_entry_on change face ≡ true
    → part change hs face ≡ length (held_on face hs)
part_some change hs face some = cond-true _ _ _ some

pub part_none : (change : List Entry) (hs : Collection) (face : ℕ) → has_entry_on change face ≡ false → part change hs face ≡ 0
part_none change hs face none = cond-false _ _ _ none

part_off : (change : List Entry) (h : Held) (hs : Collection) (face : ℕ) → (face_of h.pair.cell ≡ face → ⊥)
    → part change (h ∷ hs) face ≡ part change hs face
part_off change h hs face ne = ap (λ (ks : Collection). if has_entry_on change face then length ks else 0) (off_face face h hs ne)

-- a pair on a face without an entry, or after those of the sum, has no part in it
sum_off : (change : List Entry) (h : Held) (hs : Collection) (n : ℕ)
    → (has_entry_on change (face_of h.pair.cell) ≡ false) ⊎ (n ≤ face_of h.pair.cell) → sum_below change (h ∷ hs) n ≡ sum_below change hs n
sum_off change h hs zero off = refl
sum_off change h hs (suc n) off =
    let q : ℕ = face_of h.pair.cell in
    let front = sum_off change h hs n (⊎_elim (λ none. inl none) (λ le. inr (omega arith)) off) in
    let last : part change (h ∷ hs) n ≡ part change hs n =
    ⊎_elim
    (λ (same : q ≡ n). ⊎_elim
    (λ (none : has_entry_on change q ≡ false).
    let on : has_entry_on change n ≡ false = ap (λ (k : ℕ). has_entry_on change k) (sym same) ∙ none in
    part_none change (h ∷ hs) n on ∙ sym (part_none change hs n on))
    (λ le. absurd (omega (arith, le, same)))
    off)
    (λ ne. part_off change h hs n ne)
    (cases_eq q n) in
    omega (arith, front, last)

-- one on a face with an entry counts once
sum_on : (change : List Entry) (h : Held) (hs : Collection) (n : ℕ) → has_entry_on change (face_of h.pair.cell) ≡ true
    → face_of h.pair.cell < n → sum_below change (h ∷ hs) n ≡ sum_below change hs n + 1
sum_on change h hs zero some lt = absurd (omega arith)
sum_on change h hs (suc n) some lt =
    let q : ℕ = face_of h.pair.cell in
    ⊎_elim
    (λ (same : q ≡ n).
    let on : has_entry_on change n ≡ true = ap (λ (k : ℕ). has_entry_on change k) (sym same) ∙ some in
    let front = sum_off change h hs n (inr (omega arith)) in
    let longer : length (held_on n (h ∷ hs)) ≡ length (h ∷ held_on n hs) = ap (λ (ks : Collection). length ks) (on_face n h hs same) in
    omega (arith, front, part_some change (h ∷ hs) n on, part_some change hs n on, longer))
    (λ ne.
    let less : q < n = omega (arith, ne, lt) in
    omega (arith, sum_on change h hs n some less, part_off change h hs n ne))
    (cases_eq q n)

none_held : (change : List Entry) (n : ℕ) → sum_below change [] n ≡ 0
none_held change zero = refl
none_held change (suc n) =
    ⊎_elim
    (λ some. omega (arith, none_held change n, part_some change [] n some))
    (λ none. omega (arith, none_held change n, part_none change [] n none))
    (both (has_entry_on change n))

-- all faces
all_summed : (change : List Entry) (hs : Collection) → sum_below change hs 6 ≡ changed_count change hs
all_summed change [] = none_held change 6
all_summed change (h ∷ hs) =
    let q : ℕ = face_of h.pair.cell in
    let below : q < 6 = face_below_six h.pair.cell.raw q h.pair.cell.valid.0 (sym (face_by_bits h.pair.cell.raw)) in
    let P : Held → Bool = λ x. has_entry_on change (face_of x.pair.cell) in
    ⊎_elim
    (λ (some : has_entry_on change q ≡ true).
    let kept : filter P (h ∷ hs) ≡ h ∷ filter P hs = cond-true _ _ _ some in
    omega (arith, sum_on change h hs 6 some below, all_summed change hs, ap (λ (ks : Collection). length ks) kept))
    (λ (none : has_entry_on change q ≡ false).
    let left : filter P (h ∷ hs) ≡ filter P hs = cond-false _ _ _ none in
    sum_off change h hs 6 (inl none) ∙ all_summed change hs ∙ sym (ap (λ (ks : Collection). length ks) left))
    (both (has_entry_on change q))

-- 1 for a face that the change has an entry on, and 0 for another
abbrev pub one_if_changed : List Entry → ℕ → ℕ
one_if_changed change face = if has_entry_on change face then 1 else 0

one_if_some : (change : List Entry) (face : ℕ) → has_entry_on change face ≡ true → one_if_changed change face ≡ 1
one_if_some change face some = cond-true _ _ _ some

none_if_none : (change : List Entry) (face : ℕ) → has_entry_on change face ≡ false → one_if_changed change face ≡ 0
none_if_none change face none = cond-false _ _ _ none

-- how many faces before this one the change has an entry on
abbrev pub faces_below : List Entry → ℕ → ℕ
faces_below change zero = 0
faces_below change (suc face) = faces_below change face + one_if_changed change face

one_more : (change : List Entry) (face : ℕ) → has_entry_on change face ≡ true → faces_below change (suc face) ≡ suc (faces_below change face)
one_more change face some = omega (arith, one_if_some change face some)

no_more : (change : List Entry) (face : ℕ) → has_entry_on change face ≡ false → faces_below change (suc face) ≡ faces_below change face
no_more change face none = omega (arith, none_if_none change face none)

all_counted : (change : List Entry) → faces_below change 6 ≡ faces_of change
all_counted change = refl

-- ---- the faces before one were read

pub record AreReadBelow (change : List Entry) (hs : Collection) (w face before after : ℕ) : Type 0 where
  pub reads : HasRead (sum_below change hs face) (sum_below change hs face + faces_below change face * w) before after

pub nothing_read : (change : List Entry) (hs : Collection) (w before after : ℕ) → after ≡ before → AreReadBelow change hs w 0 before after
nothing_read change hs w before after same =
    record {
      reads =
          read_within 0 0 (sum_below change hs 0) (sum_below change hs 0 + 0 * w) before after (omega arith) (omega arith)
          (none_read before after same);
    }

pub face_left : (change : List Entry) (hs : Collection) (w face before after : ℕ) → has_entry_on change face ≡ false
    → AreReadBelow change hs w face before after → AreReadBelow change hs w (face + 1) before after
face_left change hs w face before after none r =
    let p = part_none change hs face none in
    let same = ap (λ (n : ℕ). n * w) (no_more change face none) in
    let s : sum_below change hs (suc face) ≡ sum_below change hs face = omega (arith, p) in
    let next : suc face ≡ face + 1 = omega arith in
    subst (λ (n : ℕ). AreReadBelow change hs w n before after) next
    (record {
      reads =
          read_within (sum_below change hs face) (sum_below change hs face + faces_below change face * w) (sum_below change hs (suc face))
          (sum_below change hs (suc face) + faces_below change (suc face) * w) before after (omega (arith, s)) (omega (arith, s, same)) r.reads;
    })

pub face_read : (change : List Entry) (hs : Collection) (w face before between after : ℕ) → has_entry_on change face ≡ true
    → AreReadBelow change hs w face before between → HasRead (length (held_on face hs)) (length (held_on face hs) + w) between after
    → AreReadBelow change hs w (face + 1) before after
face_read change hs w face before between after some r own =
    let p = part_some change hs face some in
    let more = ap (λ (n : ℕ). n * w) (one_more change face some) ∙ suc-mul (faces_below change face) w in
    let n : ℕ = length (held_on face hs) in
    let next : suc face ≡ face + 1 = omega arith in
    subst (λ (k : ℕ). AreReadBelow change hs w k before after) next
    (record {
      reads =
          read_within (sum_below change hs face + n) (sum_below change hs face + faces_below change face * w + (n + w))
          (sum_below change hs (suc face)) (sum_below change hs (suc face) + faces_below change (suc face) * w) before after
          (omega (arith, p)) (omega (arith, p, more))
          (both_read (sum_below change hs face) (sum_below change hs face + faces_below change face * w) n (n + w) before between after
          r.reads own);
    })

pub all_read : (change : List Entry) (hs : Collection) (w face before after : ℕ) → face ≡ 6 → AreReadBelow change hs w face before after
    → HasRead (changed_count change hs) (changed_count change hs + faces_of change * w) before after
all_read change hs w face before after last r =
    let all = all_summed change hs in
    let counted = ap (λ (n : ℕ). n * w) (all_counted change) in
    let is : AreReadBelow change hs w 6 before after = subst (λ (n : ℕ). AreReadBelow change hs w n before after) last r in
    read_within (sum_below change hs 6) (sum_below change hs 6 + faces_below change 6 * w) (changed_count change hs)
    (changed_count change hs + faces_of change * w) before after (omega (arith, all)) (omega (arith, all, counted)) is.reads

-- sums over fewer faces are no greater
sum_rises : (change : List Entry) (hs : Collection) (m n : ℕ) → m ≤ n → sum_below change hs m ≤ sum_below change hs n
sum_rises change hs m zero le = let e : m ≡ 0 = omega arith in omega (arith, ap (λ (k : ℕ). sum_below change hs k) e)
sum_rises change hs m (suc n) le =
    ⊎_elim
    (λ (e : m ≡ suc n). omega (arith, ap (λ (k : ℕ). sum_below change hs k) e))
    (λ ne. omega (arith, sum_rises change hs m n (omega (arith, ne, le))))
    (cases_eq m (suc n))

-- and fewer faces are no more
faces_rise : (change : List Entry) (m n : ℕ) → m ≤ n → faces_below change m ≤ faces_below change n
faces_rise change m zero le = let e : m ≡ 0 = omega arith in omega (arith, ap (λ (k : ℕ). faces_below change k) e)
faces_rise change m (suc n) le =
    ⊎_elim
    (λ (e : m ≡ suc n). omega (arith, ap (λ (k : ℕ). faces_below change k) e))
    (λ ne. omega (arith, faces_rise change m n (omega (arith, ne, le))))
    (cases_eq m (suc n))

-- if a face's reading was refused
pub refused_at : (change : List Entry) (hs : Collection) (w face before between after : ℕ) → face < 6 → has_entry_on change face ≡ true
    → AreReadBelow change hs w face before between → HasRead 0 (length (held_on face hs) + w) between after
    → HasRead 0 (changed_count change hs + faces_of change * w) before after
refused_at change hs w face before between after within some r own =
    let p = part_some change hs face some in
    let all = all_summed change hs in
    let up = sum_rises change hs (suc face) 6 (omega arith) in
    let more = ap (λ (n : ℕ). n * w) (one_more change face some) ∙ suc-mul (faces_below change face) w in
    let most = mul-le-mul_right w (faces_rise change (suc face) 6 (omega arith)) in
    let counted = ap (λ (n : ℕ). n * w) (all_counted change) in
    let n : ℕ = length (held_on face hs) in
    read_within (sum_below change hs face + 0) (sum_below change hs face + faces_below change face * w + (n + w)) 0
    (changed_count change hs + faces_of change * w) before after (omega arith) (omega (arith, p, all, up, most, more, counted))
    (both_read (sum_below change hs face) (sum_below change hs face + faces_below change face * w) 0 (n + w) before between after r.reads
    own)

-- ---- what is kept of each face, with that of the faces before one renewed

pub mapped_at : {A : Type 0} (f : ℕ → A) (n : ℕ) (d : A) → n < 6 → get_or (map f faces) n d ≡ f n
mapped_at f zero d lt = refl
mapped_at f (suc zero) d lt = refl
mapped_at f (suc (suc zero)) d lt = refl
mapped_at f (suc (suc (suc zero))) d lt = refl
mapped_at f (suc (suc (suc (suc zero)))) d lt = refl
mapped_at f (suc (suc (suc (suc (suc zero))))) d lt = refl
mapped_at f (suc (suc (suc (suc (suc (suc n)))))) d lt = absurd (omega arith)

abbrev pub renewed : {A : Type 0} → ℕ → (ℕ → A) → (ℕ → A) → List A
renewed n own old = map (λ face. if nat_lt face n then own face else old face) faces

renewed_next : {A : Type 0} (n : ℕ) (own old : ℕ → A) → n < 6 → set (renewed n own old) n (own n) ≡ renewed (n + 1) own old
renewed_next zero own old lt = refl
renewed_next (suc zero) own old lt = refl
renewed_next (suc (suc zero)) own old lt = refl
renewed_next (suc (suc (suc zero))) own old lt = refl
renewed_next (suc (suc (suc (suc zero)))) own old lt = refl
renewed_next (suc (suc (suc (suc (suc zero))))) own old lt = refl
renewed_next (suc (suc (suc (suc (suc (suc n)))))) own old lt = absurd (omega arith)

old_there : {A : Type 0} (n : ℕ) (own old : ℕ → A) → n < 6 → set (renewed n own old) n (old n) ≡ renewed n own old
old_there {A} n own old lt =
    let is : get_or (renewed n own old) n (old n) ≡ old n =
    mapped_at (λ (face : ℕ). if nat_lt face n then own face else old face) n (old n) lt ∙ cond-false _ _ _ (le-ltb n n (omega arith)) in
    ap (λ (x : A). set (renewed n own old) n x) (sym is) ∙ set-get_or (renewed n own old) n (old n)

-- what is the same of one face more stays
pub same_next : {A : Type 0} (n : ℕ) (own old : ℕ → A) → n < 6 → own n ≡ old n → renewed n own old ≡ renewed (n + 1) own old
same_next {A} n own old lt same =
    sym (old_there n own old lt) ∙ ap (λ (x : A). set (renewed n own old) n x) (sym same) ∙ renewed_next n own old lt

-- that of one face more is put into its place
pub put_next : {A V : Type 0} (of : V → A) (n r : ℕ) (own old : ℕ → A) (before after : List V) (x : V) → n < 6 → r ≡ n
    → after ≡ set before r x → map of before ≡ renewed n own old → of x ≡ own n → map of after ≡ renewed (n + 1) own old
put_next {A} {V} of n r own old before after x lt here put are is =
    ap (λ (vs : List V). map of vs) put
    ∙ map-set of before r x
    ∙ ap (λ (k : ℕ). set (map of before) k (of x)) here
    ∙ ap (λ (xs : List A). set xs n (of x)) are
    ∙ ap (λ (y : A). set (renewed n own old) n y) is
    ∙ renewed_next n own old lt

pub all_renewed : {A : Type 0} (n : ℕ) (own old : ℕ → A) → n ≡ 6 → renewed n own old ≡ map own faces
all_renewed n own old last = ap (λ (k : ℕ). renewed k own old) last

pub some_on : (change : List Entry) (hs held : Collection) (face : ℕ) → has_entry_on change face ≡ true → held ≡ held_on face hs
    → Some held ≡ changed_on change hs face
some_on change hs held face some is = ap (λ (x : Collection). Some x) is ∙ sym (cond-true _ _ _ some)

pub none_on_face : (change : List Entry) (hs : Collection) (face : ℕ) → has_entry_on change face ≡ false → changed_on change hs face ≡ None
none_on_face change hs face none = cond-false _ _ _ none

-- what the six tests say of one face
pub tested : (change : List Entry) (tests : List Bool) (n r : ℕ) (b : Bool) → tests ≡ map (has_entry_on change) faces → r ≡ n → n < 6
    → get_or tests r false ≡ b → has_entry_on change n ≡ b
tested change tests n r b are here lt is =
    sym (mapped_at (has_entry_on change) n false lt) ∙ ap (λ (ts : List Bool). get_or ts n false) (sym are)
    ∙ ap (λ (k : ℕ). get_or tests k false) (sym here) ∙ is

-- ---- the same of a reader that still shows what it showed

pub face_was_read : (change : List Entry) (hs xs : Collection) (face before between after now : ℕ) → has_entry_on change face ≡ true
    → xs ≡ hs → now ≡ after → AreReadBelow change hs (two_searches hs) face before between → IsFaceRead face xs between after
    → AreReadBelow change hs (two_searches hs) (face + 1) before now
face_was_read change hs xs face before between after now some same is r own =
    let here : IsFaceRead face hs between after = subst (λ (ks : Collection). IsFaceRead face ks between after) same own in
    subst (λ (n : ℕ). AreReadBelow change hs (two_searches hs) (face + 1) before n) (sym is)
    (face_read change hs (two_searches hs) face before between after some r here)

pub face_was_left : (change : List Entry) (hs : Collection) (face before after now : ℕ) → has_entry_on change face ≡ false → now ≡ after
    → AreReadBelow change hs (two_searches hs) face before after → AreReadBelow change hs (two_searches hs) (face + 1) before now
face_was_left change hs face before after now none is r =
    subst (λ (n : ℕ). AreReadBelow change hs (two_searches hs) (face + 1) before n) (sym is)
    (face_left change hs (two_searches hs) face before after none r)

pub face_was_refused : (change : List Entry) (hs xs : Collection) (face before between after : ℕ) → face < 6
    → has_entry_on change face ≡ true → xs ≡ hs → AreReadBelow change hs (two_searches hs) face before between
    → HasRead 0 (length (held_on face xs) + two_searches xs) between after
    → HasRead 0 (changed_count change hs + faces_of change * two_searches hs) before after
face_was_refused change hs xs face before between after within some same r own =
    let here : HasRead 0 (length (held_on face hs) + two_searches hs) between after =
    subst (λ (ks : Collection). HasRead 0 (length (held_on face ks) + two_searches ks) between after) same own in
    refused_at change hs (two_searches hs) face before between after within some r here
