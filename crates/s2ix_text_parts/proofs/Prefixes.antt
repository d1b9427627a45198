-- Fronts of texts, and what went out of a text that is put part by part.
use Rattle.std.proofs.Common.{◌≡◌, ℕ, ◌+◌, ◌<◌, List, [], ◌∷◌, ◌++◌, length, take, drop, take_all, get_or, Option, Some, Result, Ok, Err, refl, sym, ap, subst, ◌∙◌, append_assoc, append-nil, take-append-drop, arith}
use Rattle.std.specs.Prelude.{flat_map, slice_get}
use Rattle.std.specs.Io.KnownBytes.{Appends}
use Rattle.std.proofs.lemmas.List.{drop_more, take_more, length_push}
use Rattle.std.proofs.lemmas.List.Concat.{flat_map-append}
use Rattle.std.proofs.lemmas.Option.{slice_get_within, slice_get_read, get_or_from_slice_get}
use Rattle.std.proofs.KnownBytes.{Appends-trans}
use Rattle.s2ix_text_parts.specs.Puts.{IsFront, AppendsFront, Puts}

-- ---- fronts

-- a text is a front of itself
pub IsFront-refl : (whole : List ℕ) → IsFront whole whole
IsFront-refl whole = record { rest = []; whole_is = sym (append-nil whole) }

-- a text is a front of it and more
pub IsFront-append : (front more : List ℕ) → IsFront front (front ++ more)
IsFront-append front more = record { rest = more; whole_is = refl }

-- a front of a front is a front
pub IsFront-trans : (inner front whole : List ℕ) → IsFront inner front → IsFront front whole → IsFront inner whole
IsFront-trans inner front whole p q =
    record { rest = p.rest ++ q.rest; whole_is = q.whole_is ∙ ap (λ l. l ++ q.rest) p.whole_is ∙ append_assoc inner p.rest q.rest }

-- a whole text, and then a front of the next
pub IsFront-after : (text front next : List ℕ) → IsFront front next → IsFront (text ++ front) (text ++ next)
IsFront-after text front next p =
    record { rest = p.rest; whole_is = ap (λ l. text ++ l) p.whole_is ∙ sym (append_assoc text front p.rest) }

-- ---- what went out

-- a front of a front went out
pub AppendsFront-of_front : (old new : Option (List ℕ)) (front whole : List ℕ) → AppendsFront old new front → IsFront front whole
    → AppendsFront old new whole
AppendsFront-of_front old new front whole p q =
    record { front = p.front; is_front = IsFront-trans p.front front whole p.is_front q; appends = p.appends }

-- a front of a text is a front of that text and more
pub AppendsFront-more : (old new : Option (List ℕ)) (text more : List ℕ) → AppendsFront old new text → AppendsFront old new (text ++ more)
AppendsFront-more old new text more p = AppendsFront-of_front old new text (text ++ more) p (IsFront-append text more)

-- a whole text went out, and then a front of the next
pub AppendsFront-after : (old mid new : Option (List ℕ)) (text next : List ℕ) → Appends old mid text → AppendsFront mid new next
    → AppendsFront old new (text ++ next)
AppendsFront-after old mid new text next p q =
    record {
      front = text ++ q.front;
      is_front = IsFront-after text q.front next q.is_front;
      appends = Appends-trans old mid new text q.front p q.appends;
    }

-- ---- results

-- a whole text went out, and then what a call put of the next
pub Puts-after : {A E : Type 0} (old mid new : Option (List ℕ)) (r : Result A E) (text next : List ℕ) → Appends old mid text
    → Puts mid new r next → Puts old new r (text ++ next)
Puts-after old mid new (Ok x) text next p q = Appends-trans old mid new text next p q
Puts-after old mid new (Err e) text next p q = AppendsFront-after old mid new text next p q

-- ---- texts of several parts

-- the text of the items before one, that of this item, and that of the items after it
pub flat_map-split : {X : Type 0} (f : X → List ℕ) (xs : List X) (i : ℕ) (d : X) → i < length xs
    → flat_map f xs ≡ flat_map f (take i xs) ++ (f (get_or xs i d) ++ flat_map f (drop (i + 1) xs))
flat_map-split f xs i d h =
    ap (flat_map f) (sym (take-append-drop i xs)) ∙ flat_map-append f (take i xs) (drop i xs)
    ∙ ap (λ l. flat_map f (take i xs) ++ flat_map f l) (drop_more xs i d h)

-- a text within a whole: what stands before it went out, and then a front of it
pub AppendsFront-within : (old mid new : Option (List ℕ)) (before text past whole : List ℕ) → Appends old mid before
    → AppendsFront mid new text → whole ≡ before ++ (text ++ past) → AppendsFront old new whole
AppendsFront-within old mid new before text past whole p q e =
    AppendsFront-of_front old new (before ++ text) whole (AppendsFront-after old mid new before text p q)
    (record { rest = past; whole_is = e ∙ sym (append_assoc before text past) })

-- the texts of the items before one went out, and then a front of the text of this one
pub AppendsFront-flat_map : {X : Type 0} (f : X → List ℕ) (old mid new : Option (List ℕ)) (xs : List X) (i : ℕ) (d : X) → i < length xs
    → Appends old mid (flat_map f (take i xs)) → AppendsFront mid new (f (get_or xs i d)) → AppendsFront old new (flat_map f xs)
AppendsFront-flat_map f old mid new xs i d h p q =
    AppendsFront-within old mid new (flat_map f (take i xs)) (f (get_or xs i d)) (flat_map f (drop (i + 1) xs)) (flat_map f xs) p q
    (flat_map-split f xs i d h)

-- the text of the items up to and with one is that of the items before it, and then its own
pub flat_map-take_more : {X : Type 0} (f : X → List ℕ) (xs : List X) (i : ℕ) (x : X) → slice_get xs i ≡ Some x
    → flat_map f (take (i + 1) xs) ≡ flat_map f (take i xs) ++ f x
flat_map-take_more f xs i x h =
    ap (flat_map f) (take_more xs i x (slice_get_within xs i x h)) ∙ flat_map-append f (take i xs) (get_or xs i x ∷ []) ∙
    ap (λ l. flat_map f (take i xs) ++ l) (append-nil (f (get_or xs i x)) ∙ ap f (get_or_from_slice_get xs i x x h))

-- the texts of the items before one went out, and then that of this one
pub Appends-flat_map : {X : Type 0} (f : X → List ℕ) (old mid new : Option (List ℕ)) (xs : List X) (i : ℕ) (x : X) → slice_get xs i ≡ Some x
    → Appends old mid (flat_map f (take i xs)) → Appends mid new (f x) → Appends old new (flat_map f (take (i + 1) xs))
Appends-flat_map f old mid new xs i x h p q =
    subst (λ (l : List ℕ). Appends old new l) (sym (flat_map-take_more f xs i x h))
    (Appends-trans old mid new (flat_map f (take i xs)) (f x) p q)

-- the texts of the items before one went out, and then a front of the text of this one
pub AppendsFront-flat_map_at : {X : Type 0} (f : X → List ℕ) (old mid new : Option (List ℕ)) (xs : List X) (i : ℕ) (x : X)
    → slice_get xs i ≡ Some x
    → Appends old mid (flat_map f (take i xs)) → AppendsFront mid new (f x) → AppendsFront old new (flat_map f xs)
AppendsFront-flat_map_at f old mid new xs i x h p q =
    AppendsFront-flat_map f old mid new xs i x (slice_get_within xs i x h) p
    (subst (λ y. AppendsFront mid new (f y)) (sym (get_or_from_slice_get xs i x x h)) q)

-- a loop over the items of a list went on by one: their texts went out up to and with that of this item
pub Appends-flat_map_turn : {X : Type 0} (f : X → List ℕ) (old mid new : Option (List ℕ)) (xs done : List X) (x : X)
    → (length done < length xs) × (x ≡ get_or xs (length done) x)
    → Appends old mid (flat_map f (take (length done) xs)) → Appends mid new (f x)
    → Appends old new (flat_map f (take (length (done ++ x ∷ [])) xs))
Appends-flat_map_turn f old mid new xs done x h p q =
    subst (λ (n : ℕ). Appends old new (flat_map f (take n xs))) (sym (length_push done x))
    (Appends-flat_map f old mid new xs (length done) x (slice_get_read xs (length xs) (length done) x refl h.0 h.1) p q)

-- a loop over the items of a list met a fault in the text of this item
pub AppendsFront-flat_map_turn : {X : Type 0} (f : X → List ℕ) (old mid new : Option (List ℕ)) (xs done : List X) (x : X)
    → (length done < length xs) × (x ≡ get_or xs (length done) x)
    → Appends old mid (flat_map f (take (length done) xs)) → AppendsFront mid new (f x) → AppendsFront old new (flat_map f xs)
AppendsFront-flat_map_turn f old mid new xs done x h p q =
    AppendsFront-flat_map f old mid new xs (length done) x h.0 p (subst (λ y. AppendsFront mid new (f y)) h.1 q)

-- a loop over the items of a list came to its end: the texts of all went out
pub Appends-flat_map_end : {X : Type 0} (f : X → List ℕ) (old new : Option (List ℕ)) (xs : List X) (i : ℕ) → i ≡ length xs
    → Appends old new (flat_map f (take i xs)) → Appends old new (flat_map f xs)
Appends-flat_map_end {X} f old new xs i h p = subst (λ (ys : List X). Appends old new (flat_map f ys)) (take_all i xs (omega arith)) p
