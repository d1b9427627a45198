-- The faces of a table in layers, and a change on one of them.
use Rattle.std.proofs.Common.{◌≡◌, ◌≢◌, ℕ, zero, suc, ◌+◌, ◌-◌, ◌<◌, ◌≤◌, inl, inr, Option, List, [], ◌∷◌, ◌++◌, length, take, drop, refl, sym, ◌∙◌, ap, ap₂, arith, Contains, subst, append_assoc}
use Rattle.std.proofs.Math.Seq.{take-add}
use Rattle.std.proofs.lemmas.Bool.{cases_lt}
use Rattle.std.proofs.lemmas.List.{append-nil, take_rest, drop-drop}
use Rattle.s2ix_bag_lists.specs.Faces.{all_of}
use Rattle.s2ix_bag_pairs.specs.Collection.{Collection, IsCollection}
use Rattle.s2ix_bag_pairs.specs.declared.pair.Held.{Held}
use Rattle.s2ix_table_walk.specs.Table.{leaf_end}
use Rattle.s2ix_table_spans.specs.SpanTable.{SpanRanges}
use Rattle.s2ix_table_heavy.specs.Chunks.{AreChunks}
use Rattle.s2ix_table_heavy.specs.declared.heavy_place.HeavyPlace.{HeavyPlace}
use Rattle.s2ix_table_faced.specs.declared.offset.Offset.{Offset}
use Rattle.s2ix_table_kept.specs.Faces.{held_on}
use Rattle.s2ix_table_parts.specs.FaceSpans.{face_begin}
use Rattle.s2ix_table_faced.specs.FirstParts.{AreFirstParts, of_face}
use Rattle.s2ix_table_parts.specs.Neighbours.{held_in}
use Rattle.s2ix_table_faced.specs.Layout.{AreLayered, AreLed, chunks_on, heavy_in}
use Rattle.s2ix_table_parts.specs.Layered.{IsFaceLayered, IsFaceWith}
use Rattle.s2ix_table_parts.specs.Layers.{joined_layers}
use Rattle.s2ix_table_parts.specs.Parts.{with_parts}
use Rattle.s2ix_table_faced.specs.Whole.{AreJoined}
use Rattle.s2ix_table_parts.proofs.Cuts.{cut_after}
use Rattle.s2ix_table_faced.proofs.FaceByFace.{heavy_there, held_there, on_face_joined_layers}
use Rattle.s2ix_table_faced.proofs.FirstParts.{face_cut, face_parts, first_of_face, length_starts}
use Rattle.s2ix_table_faced.proofs.HeavyFaces.{many_led}
use Rattle.s2ix_table_faced.proofs.LayersMade.{AreAllMade, AreLayersMade, all_layers, layers_more, no_layers, heavy_places_on_face}
use Rattle.s2ix_table_parts.proofs.Neighbours.{all_rise}

-- ---- the faces of a table

-- a face with these parts under these heavy pairs, which are together what is held there
pub record IsFaceOf (old : Collection) (face : ℕ) (chunks : List Collection) (parts : List SpanRanges) (heavy_places : List (Option HeavyPlace)) : Type 0 where
  pub layered : IsFaceLayered face chunks parts heavy_places
  pub pairs : joined_layers (held_in parts) (all_of chunks) ≡ held_on face old

-- the six faces of a table: they follow one another in the lists of parts and of places
pub record AreFacesOf (old : Collection) (heavy : List (List Collection)) (parts : List SpanRanges) (heavy_places : List (Option HeavyPlace)) (faces : List ℕ) : Type 0 where
  pub six : length heavy ≡ 6
  pub first : first_of_face faces 0 ≡ 0
  pub last : first_of_face faces 6 ≡ length parts
  pub many : length heavy_places ≡ length parts
  pub rise : (face : ℕ) → face < 6 → first_of_face faces face ≤ first_of_face faces (face + 1)
  pub each : (face : ℕ) → face < 6 → IsFaceOf old face (chunks_on heavy face) (of_face parts faces face) (of_face heavy_places faces face)

led_taken : (n : ℕ) (heavy : List (List Collection)) (ts : List SpanRanges) (xs : List (Option HeavyPlace)) → AreLed heavy ts xs
    → AreLed heavy (take n ts) (take n xs)
led_taken zero heavy ts xs led = refl
led_taken (suc n) heavy [] [] led = refl
led_taken (suc n) heavy [] (x ∷ xs) led = absurd (omega (arith, led))
led_taken (suc n) heavy (t ∷ ts) [] led = absurd led
led_taken (suc n) heavy (t ∷ ts) (x ∷ xs) led = (led.0, led_taken n heavy ts xs led.1)

led_dropped : (n : ℕ) (heavy : List (List Collection)) (ts : List SpanRanges) (xs : List (Option HeavyPlace)) → AreLed heavy ts xs
    → AreLed heavy (drop n ts) (drop n xs)
led_dropped zero heavy ts xs led = led
led_dropped (suc n) heavy [] [] led = refl
led_dropped (suc n) heavy [] (x ∷ xs) led = absurd (omega (arith, led))
led_dropped (suc n) heavy (t ∷ ts) [] led = absurd led
led_dropped (suc n) heavy (t ∷ ts) (x ∷ xs) led = led_dropped n heavy ts xs led.1

pub face_of_table : {parts : List SpanRanges} {heavy : List (List Collection)} {heavy_places : List (Option HeavyPlace)} {starts : List ℕ} {offsets : List Offset}
    {faces : List ℕ} {count : ℕ} (face : ℕ) → AreJoined parts (heavy_in heavy) starts offsets count → AreFirstParts starts faces → AreLayered heavy parts heavy_places
    → ((f : ℕ) → f < 6 → AreChunks (chunks_on heavy f)) → face < 6
    → IsFaceOf (joined_layers (held_in parts) (heavy_in heavy)) face (chunks_on heavy face) (of_face parts faces face) (of_face heavy_places faces face)
face_of_table {parts} {heavy} {heavy_places} {starts} {offsets} {faces} {count} face joined firsts layered chunks lt =
    let own = face_parts face joined firsts lt in
    let light = of_face parts faces face in
    let first = first_of_face faces face in
    let n : ℕ = first_of_face faces (face + 1) - first in
    let there = heavy_there heavy face layered.six layered.on_faces lt in
    let led = led_taken n heavy (drop first parts) (drop first heavy_places) (led_dropped first heavy parts heavy_places layered.led) in
    let in_all : (h : Held) → Contains (all_of (chunks_on heavy face)) h → Contains (heavy_in heavy) h =
    λ h held. held_there face (heavy_in heavy) h (subst (λ hs. Contains hs h) (sym there) held) in
    let in_parts : (h : Held) → Contains (held_in light) h → Contains (held_in parts) h =
    λ h held. held_there face (held_in parts) h (subst (λ hs. Contains hs h) own.pairs held) in
    record {
      layered = record {
        neighbours = own.neighbours;
        are_chunks = chunks face lt;
        on_face = layered.on_faces face lt;
        apart = λ l h in_light in_heavy. joined.apart l h (in_parts l in_light) (in_all h in_heavy);
        are_heavy_places = heavy_places_on_face heavy face (face_begin face) light (of_face heavy_places faces face) (omega arith) own.neighbours led;
      };
      pairs =
          ap₂ joined_layers own.pairs (sym there)
          ∙ sym (on_face_joined_layers face (held_in parts) (heavy_in heavy) (all_rise 1 parts leaf_end joined.neighbours) joined.heavy_rises);
    }

pub faces_of_table : {parts : List SpanRanges} {heavy : List (List Collection)} {heavy_places : List (Option HeavyPlace)} {starts : List ℕ} {offsets : List Offset}
    {faces : List ℕ} {count : ℕ} → AreJoined parts (heavy_in heavy) starts offsets count → AreFirstParts starts faces → AreLayered heavy parts heavy_places
    → ((f : ℕ) → f < 6 → AreChunks (chunks_on heavy f)) → AreFacesOf (joined_layers (held_in parts) (heavy_in heavy)) heavy parts heavy_places faces
faces_of_table {parts} {heavy} {heavy_places} {starts} {offsets} {faces} {count} joined firsts layered chunks =
    let one = face_cut 0 joined firsts (omega arith) in
    record {
      six = layered.six;
      first = elim (cases_lt 0 (first_of_face faces 0)) [
        | inl more ↦ (let less = cut_after 0 (first_of_face faces 0) 1 parts leaf_end joined.neighbours more one.0 in absurd (omega (arith, one.1)))
        | inr none ↦ omega arith
      ];
      last = firsts.end ∙ length_starts joined;
      many = many_led heavy parts heavy_places layered.led;
      rise = λ face lt. (face_parts face joined firsts lt).rise;
      each = λ face lt. face_of_table face joined firsts layered chunks lt;
    }

-- ---- all faces but one stay

pub record IsChangedFace (old hs : Collection) (heavy now : List (List Collection)) (face : ℕ) : Type 0 where
  pub stay : (n : ℕ) → n < 6 → n ≢ face → held_on n old ≡ held_on n hs
  pub heavy_stay : (n : ℕ) → n < 6 → n ≢ face → chunks_on now n ≡ chunks_on heavy n

face_stays : (old hs : Collection) (heavy now : List (List Collection)) (parts : List SpanRanges) (heavy_places : List (Option HeavyPlace)) (faces : List ℕ) (face n : ℕ)
    → AreFacesOf old heavy parts heavy_places faces → IsChangedFace old hs heavy now face → n < 6 → n ≢ face
    → IsFaceOf hs n (chunks_on now n) (of_face parts faces n) (of_face heavy_places faces n)
face_stays old hs heavy now parts heavy_places faces face n are on lt ne =
    let own = are.each n lt in
    subst (λ chunks. IsFaceOf hs n chunks (of_face parts faces n) (of_face heavy_places faces n)) (sym (on.heavy_stay n lt ne)) (record {
      layered = own.layered;
      pairs = own.pairs ∙ on.stay n lt ne;
    })

layers_before : (old hs : Collection) (heavy now : List (List Collection)) (parts : List SpanRanges) (heavy_places : List (Option HeavyPlace)) (faces : List ℕ) (face n : ℕ)
    → AreFacesOf old heavy parts heavy_places faces → IsChangedFace old hs heavy now face → face < 6 → n ≤ face
    → AreLayersMade hs now (take (first_of_face faces n) parts) (take (first_of_face faces n) heavy_places) n
layers_before old hs heavy now parts heavy_places faces face zero are on six le =
    no_layers hs now (take (first_of_face faces 0) parts) (take (first_of_face faces 0) heavy_places) (ap (λ k. take k parts) are.first)
    (ap (λ k. take k heavy_places) are.first)
layers_before old hs heavy now parts heavy_places faces face (suc n) are on six le =
    let lt : n < 6 = omega arith in
    let own = face_stays old hs heavy now parts heavy_places faces face n are on lt (λ e. absurd (omega (arith, e))) in
    let rise = are.rise n lt in
    let a = first_of_face faces n in
    let b = first_of_face faces (n + 1) in
    let next : n + 1 ≡ suc n = omega arith in
    let sum : a + (b - a) ≡ b = omega arith in
    let put = ap (λ k. take k parts) (sym sum) ∙ take-add a (b - a) parts in
    let put_heavy_places = ap (λ k. take k heavy_places) (sym sum) ∙ take-add a (b - a) heavy_places in
    let more = layers_more hs now (take a parts) (of_face parts faces n) (take a heavy_places) (of_face heavy_places faces n) n
    (layers_before old hs heavy now parts heavy_places faces face n are on six (omega arith)) own.layered own.pairs in
    subst (λ k. AreLayersMade hs now (take (first_of_face faces k) parts) (take (first_of_face faces k) heavy_places) k) next
    (subst (λ ts. AreLayersMade hs now ts (take b heavy_places) (n + 1)) (sym put)
    (subst (λ os. AreLayersMade hs now (take a parts ++ of_face parts faces n) os (n + 1)) (sym put_heavy_places) more))

-- what follows one face after the other, up to another one
abbrev up_to : {A : Type 0} → List ℕ → ℕ → ℕ → List A → List A
up_to faces from to xs = take (first_of_face faces to - first_of_face faces from) (drop (first_of_face faces from) xs)

first_rises : (old : Collection) (heavy : List (List Collection)) (parts : List SpanRanges) (heavy_places : List (Option HeavyPlace)) (faces : List ℕ) (n k : ℕ)
    → AreFacesOf old heavy parts heavy_places faces → n + k ≤ 6 → first_of_face faces n ≤ first_of_face faces (n + k)
first_rises old heavy parts heavy_places faces n zero are le = let same = ap (first_of_face faces) (let e : n ≡ n + 0 = omega arith in e) in omega arith
first_rises old heavy parts heavy_places faces n (suc k) are le =
    let rest = first_rises old heavy parts heavy_places faces n k are (omega arith) in
    let one = are.rise (n + k) (omega arith) in
    let same = ap (first_of_face faces) (let e : n + k + 1 ≡ n + suc k = omega arith in e) in
    omega arith

next_up : {A : Type 0} (base xs : List A) (c a b : ℕ) → c ≤ a → a ≤ b
    → base ++ take (b - c) (drop c xs) ≡ (base ++ take (a - c) (drop c xs)) ++ take (b - a) (drop a xs)
next_up base xs c a b le more =
    let sum : (a - c) + (b - a) ≡ b - c = omega arith in
    let there : c + (a - c) ≡ a = omega arith in
    ap (λ m. base ++ take m (drop c xs)) (sym sum)
    ∙ ap (λ ts. base ++ ts) (take-add (a - c) (b - a) (drop c xs) ∙ ap (λ ts. take (a - c) (drop c xs) ++ take (b - a) ts) (drop-drop (a - c) c xs ∙ ap (λ k. drop k xs) there))
    ∙ sym (append_assoc base (take (a - c) (drop c xs)) (take (b - a) (drop a xs)))

layers_after : (old hs : Collection) (heavy now : List (List Collection)) (parts base : List SpanRanges) (heavy_places base_heavy_places : List (Option HeavyPlace)) (faces : List ℕ) (face k : ℕ)
    → AreFacesOf old heavy parts heavy_places faces → IsChangedFace old hs heavy now face → face + 1 + k ≤ 6
    → AreLayersMade hs now base base_heavy_places (face + 1)
    → AreLayersMade hs now (base ++ up_to faces (face + 1) (face + 1 + k) parts) (base_heavy_places ++ up_to faces (face + 1) (face + 1 + k) heavy_places) (face + 1 + k)
layers_after old hs heavy now parts base heavy_places base_heavy_places faces face zero are on le was =
    let there : face + 1 ≡ face + 1 + 0 = omega arith in
    let none : first_of_face faces (face + 1 + 0) - first_of_face faces (face + 1) ≡ 0 =
    (let same = ap (first_of_face faces) there in omega arith) in
    subst (λ n. AreLayersMade hs now (base ++ take n (drop (first_of_face faces (face + 1)) parts)) (base_heavy_places ++ take n (drop (first_of_face faces (face + 1)) heavy_places)) (face + 1 + 0)) (sym none)
    (subst (λ n. AreLayersMade hs now (base ++ []) (base_heavy_places ++ []) n) there
    (subst (λ ts. AreLayersMade hs now ts (base_heavy_places ++ []) (face + 1)) (sym (append-nil base))
    (subst (λ os. AreLayersMade hs now base os (face + 1)) (sym (append-nil base_heavy_places)) was)))
layers_after old hs heavy now parts base heavy_places base_heavy_places faces face (suc k) are on le was =
    let n : ℕ = face + 1 + k in
    let lt : n < 6 = omega arith in
    let own = face_stays old hs heavy now parts heavy_places faces face n are on lt (λ e. absurd (omega (arith, e))) in
    let rise = are.rise n lt in
    let c = first_of_face faces (face + 1) in
    let a = first_of_face faces n in
    let b = first_of_face faces (n + 1) in
    let up = first_rises old heavy parts heavy_places faces (face + 1) k are (omega arith) in
    let next : n + 1 ≡ face + 1 + suc k = omega arith in
    let more = layers_more hs now (base ++ up_to faces (face + 1) n parts) (of_face parts faces n) (base_heavy_places ++ up_to faces (face + 1) n heavy_places) (of_face heavy_places faces n) n
    (layers_after old hs heavy now parts base heavy_places base_heavy_places faces face k are on (omega arith) was) own.layered own.pairs in
    subst (λ m. AreLayersMade hs now (base ++ up_to faces (face + 1) m parts) (base_heavy_places ++ up_to faces (face + 1) m heavy_places) m) next
    (subst (λ ts. AreLayersMade hs now ts (base_heavy_places ++ up_to faces (face + 1) (n + 1) heavy_places) (n + 1)) (sym (next_up base parts c a b up rise))
    (subst (λ os. AreLayersMade hs now ((base ++ up_to faces (face + 1) n parts) ++ of_face parts faces n) os (n + 1)) (sym (next_up base_heavy_places heavy_places c a b up rise)) more))

-- ---- one face is put in

take_front : {A : Type 0} (f n : ℕ) (xs : List A) → f ≤ n → take f (take n xs) ≡ take f xs
take_front zero n xs le = refl
take_front (suc f) zero xs le = absurd (omega arith)
take_front (suc f) (suc n) [] le = refl
take_front (suc f) (suc n) (x ∷ xs) le = ap (λ ys. x ∷ ys) (take_front f n xs (omega arith))

drop_through : {A : Type 0} (e n : ℕ) (xs : List A) → e ≤ n → drop e (take n xs) ++ drop n xs ≡ drop e xs
drop_through zero zero xs le = refl
drop_through zero (suc n) [] le = refl
drop_through zero (suc n) (x ∷ xs) le = ap (λ ys. x ∷ ys) (drop_through zero n xs (omega arith))
drop_through (suc e) zero xs le = absurd (omega arith)
drop_through (suc e) (suc n) [] le = refl
drop_through (suc e) (suc n) (x ∷ xs) le = drop_through e n xs (omega arith)

-- elements of a stretch give way, so those of all do
within_all : {A : Type 0} (a n f e : ℕ) (xs made : List A) → f ≤ e → e ≤ n
    → take (a + f) xs ++ (made ++ drop (a + e) xs)
    ≡ (take a xs ++ (take f (take n (drop a xs)) ++ (made ++ drop e (take n (drop a xs))))) ++ drop (a + n) xs
within_all a n f e xs made order within =
    let own = drop a xs in
    let front : take (a + f) xs ≡ take a xs ++ take f (take n own) =
    take-add a f xs ∙ ap (λ ys. take a xs ++ ys) (sym (take_front f n own (omega arith))) in
    let back : drop (a + e) xs ≡ drop e (take n own) ++ drop (a + n) xs =
    sym (drop-drop e a xs) ∙ sym (drop_through e n own within) ∙ ap (λ ys. drop e (take n own) ++ ys) (drop-drop n a xs) in
    let four : (p q r s t : List _) → (p ++ q) ++ (r ++ (s ++ t)) ≡ (p ++ (q ++ (r ++ s))) ++ t =
    λ p q r s t.
    ap (λ ys. (p ++ q) ++ ys) (sym (append_assoc r s t))
    ∙ append_assoc p q ((r ++ s) ++ t)
    ∙ ap (λ ys. p ++ ys) (sym (append_assoc q (r ++ s) t))
    ∙ sym (append_assoc p (q ++ (r ++ s)) t) in
    ap₂ (λ ys zs. ys ++ (made ++ zs)) front back
    ∙ four (take a xs) (take f (take n own)) made (drop e (take n own)) (drop (a + n) xs)

pub one_face_put : (old hs : Collection) (heavy now : List (List Collection)) (parts made : List SpanRanges) (heavy_places made_heavy_places : List (Option HeavyPlace)) (faces : List ℕ)
    (face first end : ℕ) → AreFacesOf old heavy parts heavy_places faces → IsChangedFace old hs heavy now face → face < 6 → length now ≡ 6
    → IsCollection hs → length hs ≤ 1000000
    → IsFaceWith face (held_on face hs) (of_face parts faces face) (of_face heavy_places faces face) first end made made_heavy_places (chunks_on now face)
    → first_of_face faces (face + 1) ≤ length parts
    → end ≤ first_of_face faces (face + 1) - first_of_face faces face
    → AreAllMade hs now (with_parts parts (first_of_face faces face + first) (first_of_face faces face + end) made)
    (take (first_of_face faces face + first) heavy_places ++ (made_heavy_places ++ drop (first_of_face faces face + end) heavy_places))
one_face_put old hs heavy now parts made heavy_places made_heavy_places faces face first end are on six six_now rises within_limit new by within =
    let rise = are.rise face six in
    let last = are.last in
    let many = are.many in
    let a = first_of_face faces face in
    let b = first_of_face faces (face + 1) in
    let n : ℕ = b - a in
    let sum : a + n ≡ b = omega arith in
    let own = of_face parts faces face in
    let own_heavy_places = of_face heavy_places faces face in
    let own_new = with_parts own first end made in
    let own_new_heavy_places = take first own_heavy_places ++ (made_heavy_places ++ drop end own_heavy_places) in
    let base = layers_more hs now (take a parts) own_new (take a heavy_places) own_new_heavy_places face
    (layers_before old hs heavy now parts heavy_places faces face face are on six (omega arith)) new.layered new.pairs in
    let m : ℕ = 5 - face in
    let there : face + 1 + m ≡ 6 = omega arith in
    let whole = layers_after old hs heavy now parts (take a parts ++ own_new) heavy_places (take a heavy_places ++ own_new_heavy_places) faces face m are on (omega arith) base in
    let rest : first_of_face faces (face + 1 + m) ≡ length parts = ap (first_of_face faces) there ∙ last in
    let later : up_to faces (face + 1) (face + 1 + m) parts ≡ drop b parts = ap (λ k. take (k - b) (drop b parts)) rest ∙ take_rest parts b in
    let later_heavy_places : up_to faces (face + 1) (face + 1 + m) heavy_places ≡ drop b heavy_places =
    ap (λ k. take (k - b) (drop b heavy_places)) (rest ∙ sym many) ∙ take_rest heavy_places b in
    let is_whole = within_all a n first end parts made new.order within
    ∙ ap (λ k. (take a parts ++ own_new) ++ drop k parts) sum ∙ ap (λ ts. (take a parts ++ own_new) ++ ts) (sym later) in
    let are_whole = within_all a n first end heavy_places made_heavy_places new.order within
    ∙ ap (λ k. (take a heavy_places ++ own_new_heavy_places) ++ drop k heavy_places) sum ∙ ap (λ os. (take a heavy_places ++ own_new_heavy_places) ++ os) (sym later_heavy_places) in
    all_layers hs now (with_parts parts (a + first) (a + end) made) (take (a + first) heavy_places ++ (made_heavy_places ++ drop (a + end) heavy_places)) (face + 1 + m)
    (subst (λ ts. AreLayersMade hs now ts (take (a + first) heavy_places ++ (made_heavy_places ++ drop (a + end) heavy_places)) (face + 1 + m)) (sym is_whole)
    (subst (λ os. AreLayersMade hs now ((take a parts ++ own_new) ++ up_to faces (face + 1) (face + 1 + m) parts) os (face + 1 + m)) (sym are_whole) whole))
    there six_now rises within_limit
