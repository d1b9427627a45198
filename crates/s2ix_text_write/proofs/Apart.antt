-- Two bags with one export hold the same.
use Rattle.std.proofs.Common.{◌≡◌, ◌≢◌, ℕ, ◌+◌, ◌*◌, ◌^◌, ◌%◌, ◌<◌, ◌≤◌, List, [], ◌∷◌, ◌++◌, drop, get_or, refl, sym, ap, ap₂, ◌∙◌, ⊎_elim, append_assoc, arith, All}
use Rattle.std.specs.Prelude.{codes, decimal, flat_map}
use Rattle.std.specs.List.{join_by}
use Rattle.std.proofs.lemmas.Fmt.{decimal_by_steps, decimal_injective}
use Rattle.std.proofs.lemmas.List.{append_cancel_left}
use Rattle.std.proofs.lemmas.List.Elements.{All-nil, All-cons, All-head, All-tail, All-append, All-weaker}
use Rattle.s2id_core.specs.CellId.{raw_of}
use Rattle.s2id_core.specs.Token.{canonical_token, IsLowerHex}
use Rattle.s2id_core.proofs.Canonical.{lower-canonical_token, one_token}
use Rattle.s2ix_bag_pairs.specs.declared.pair.Held.{Held}
use Rattle.s2ix_bag_pairs.specs.declared.pair.Pair.{Pair}
use Rattle.s2ix_bag_pairs.specs.Collection.{Collection, LimitedCollection, IsBag}
use Rattle.s2ix_bag_pairs.specs.Label.{value_of}
use Rattle.s2ix_bag_pairs.proofs.Pairs.{same_pair}
use Rattle.s2ix_text_write.specs.Export.{pair_json, export_text}

-- ---- texts that are cut at a mark

abbrev Differs : ℕ → ℕ → Type 0
Differs x byte = byte ≢ x

first_of : List ℕ → ℕ
first_of bytes = get_or bytes 0 0

-- what stands before the first mark of a text, and what after it
cut_at : (x : ℕ) (xs ys r s : List ℕ) → All (Differs x) xs → All (Differs x) ys → xs ++ x ∷ r ≡ ys ++ x ∷ s → (xs ≡ ys) × (r ≡ s)
unfolding first_of
cut_at x [] [] r s p q e = (refl, ap (drop 1) e)
cut_at x [] (y ∷ ys) r s p q e = absurd (All-head (Differs x) y ys q (sym (ap first_of e)))
cut_at x (z ∷ xs) [] r s p q e = absurd (All-head (Differs x) z xs p (ap first_of e))
cut_at x (z ∷ xs) (y ∷ ys) r s p q e =
    let same : z ≡ y = ap first_of e in
    let rest = cut_at x xs ys r s (All-tail (Differs x) z xs p) (All-tail (Differs x) y ys q) (ap (drop 1) e) in
    (ap₂ (λ (c : ℕ) (l : List ℕ). c ∷ l) same rest.0, rest.1)

-- the same of a text within another
cut_field : (x : ℕ) (xs ys t u r s : List ℕ) → All (Differs x) xs → All (Differs x) ys → (xs ++ x ∷ t) ++ r ≡ (ys ++ x ∷ u) ++ s
    → (xs ≡ ys) × (t ++ r ≡ u ++ s)
cut_field x xs ys t u r s p q e =
    cut_at x xs ys (t ++ r) (u ++ s) p q (sym (append_assoc xs (x ∷ t) r) ∙ e ∙ append_assoc ys (x ∷ u) s)

-- ---- numbers and tokens have no mark

abbrev IsDigit : ℕ → Type 0
IsDigit byte = (48 ≤ byte) × (byte ≤ 57)

decimal_digits : (n : ℕ) → n < 2 ^ 64 → All IsDigit (decimal n)
decimal_digits =
    decimal_by_steps (λ n ds. All IsDigit ds)
    (λ n small. All-cons IsDigit (48 + n) [] (omega arith, omega arith) (All-nil IsDigit))
    (λ n ds large digits. All-append IsDigit ds ((48 + n % 10) ∷ []) digits
    (All-cons IsDigit (48 + n % 10) [] (omega arith, omega arith) (All-nil IsDigit)))

no_comma : (n : ℕ) → n < 2 ^ 64 → All (Differs 44) (decimal n)
no_comma n small = All-weaker IsDigit (Differs 44) (λ byte is e. omega arith) (decimal n) (decimal_digits n small)

no_bracket : (n : ℕ) → n < 2 ^ 64 → All (Differs 93) (decimal n)
no_bracket n small = All-weaker IsDigit (Differs 93) (λ byte is e. omega arith) (decimal n) (decimal_digits n small)

no_quote : (n : ℕ) → All (Differs 34) (canonical_token n)
no_quote n =
    All-weaker IsLowerHex (Differs 34)
    (λ byte lower e. ⊎_elim (λ digit. omega (arith, digit)) (λ letter. omega (arith, letter)) lower)
    (canonical_token n) (lower-canonical_token n)

-- ---- pairs

abbrev IsSmall : Held → Type 0
IsSmall h = h.count < 2 ^ 64

one_pair : (h k : Held) (r s : List ℕ) → IsSmall h → IsSmall k → pair_json h ++ r ≡ pair_json k ++ s → (h ≡ k) × (r ≡ s)
unfolding pair_json
one_pair h k r s hc kc same =
    let hl : value_of h.pair.label ≤ 2147483647 = h.pair.label.in_range in
    let kl : value_of k.pair.label ≤ 2147483647 = k.pair.label.in_range in
    let token =
    cut_field 34 (canonical_token (raw_of h.pair.cell)) (canonical_token (raw_of k.pair.cell)) _ _ r s (no_quote _) (no_quote _)
    (ap (drop 2) same) in
    let label =
    cut_field 44 (decimal (value_of h.pair.label)) (decimal (value_of k.pair.label)) _ _ r s (no_comma _ (omega arith))
    (no_comma _ (omega arith)) (ap (drop 1) token.1) in
    let count =
    cut_field 93 (decimal h.count) (decimal k.count) [] [] r s (no_bracket _ (omega arith)) (no_bracket _ (omega arith)) label.1 in
    let cells = one_token (raw_of h.pair.cell) (raw_of k.pair.cell) h.pair.cell.valid k.pair.cell.valid token.0 in
    let labels = decimal_injective (value_of h.pair.label) (value_of k.pair.label) (omega arith) (omega arith) label.0 in
    let pairs = same_pair h.pair k.pair (ap₂ (λ (c v : ℕ). c * 2147483648 + v) cells labels) in (
      ap₂ (λ (p : Pair) (n : ℕ). let made : Held = record { pair = p; count = n } in made) pairs
          (decimal_injective h.count k.count (omega arith) (omega arith) count.0),
      count.1,
    )

-- ---- lists of pairs

later : Collection → List ℕ
later hs = flat_map (λ h. codes "," ++ pair_json h) hs

-- the pairs after the first, up to the bracket
one_later : (hs ks : Collection) (r s : List ℕ) → All IsSmall hs → All IsSmall ks → later hs ++ 93 ∷ r ≡ later ks ++ 93 ∷ s → hs ≡ ks
unfolding later first_of
one_later [] [] r s p q same = refl
one_later [] (k ∷ ks) r s p q same = absurd (let e : 93 ≡ 44 = ap first_of same in omega arith)
one_later (h ∷ hs) [] r s p q same = absurd (let e : 44 ≡ 93 = ap first_of same in omega arith)
one_later (h ∷ hs) (k ∷ ks) r s p q same =
    let pair = one_pair h k (later hs ++ 93 ∷ r) (later ks ++ 93 ∷ s) (All-head IsSmall h hs p) (All-head IsSmall k ks q)
    (sym (append_assoc (pair_json h) (later hs) (93 ∷ r)) ∙ ap (drop 1) same ∙ append_assoc (pair_json k) (later ks) (93 ∷ s)) in
    ap₂ (λ (x : Held) (xs : Collection). x ∷ xs) pair.0 (one_later hs ks r s (All-tail IsSmall h hs p) (All-tail IsSmall k ks q) pair.1)

one_list : (hs ks : Collection) (r s : List ℕ) → All IsSmall hs → All IsSmall ks
    → join_by pair_json (codes ",") hs ++ 93 ∷ r ≡ join_by pair_json (codes ",") ks ++ 93 ∷ s → hs ≡ ks
unfolding later first_of pair_json
one_list [] [] r s p q same = refl
one_list [] (k ∷ ks) r s p q same = absurd (let e : 93 ≡ 91 = ap first_of same in omega arith)
one_list (h ∷ hs) [] r s p q same = absurd (let e : 91 ≡ 93 = ap first_of same in omega arith)
one_list (h ∷ hs) (k ∷ ks) r s p q same =
    let pair = one_pair h k (later hs ++ 93 ∷ r) (later ks ++ 93 ∷ s) (All-head IsSmall h hs p) (All-head IsSmall k ks q)
    (sym (append_assoc (pair_json h) (later hs) (93 ∷ r)) ∙ same ∙ append_assoc (pair_json k) (later ks) (93 ∷ s)) in
    ap₂ (λ (x : Held) (xs : Collection). x ∷ xs) pair.0 (one_later hs ks r s (All-tail IsSmall h hs p) (All-tail IsSmall k ks q) pair.1)

-- ---- exports

-- the counts of a bag are small
small_counts : (bag : LimitedCollection) → IsBag bag → All IsSmall bag.held
small_counts bag is = λ k d within. let range = bag.limits.in_range in let small = is.small k d within in omega (arith, range, small)

pub one_export_of_bags : (bag other : LimitedCollection) → IsBag bag → IsBag other → export_text bag.held ≡ export_text other.held
    → bag.held ≡ other.held
unfolding export_text
one_export_of_bags bag other is other_is same =
    one_list bag.held other.held _ _ (small_counts bag is) (small_counts other other_is)
    (append_cancel_left (codes "{\"pairs\":[") (join_by pair_json (codes ",") bag.held ++ codes "],\"version\":1}")
    (join_by pair_json (codes ",") other.held ++ codes "],\"version\":1}") same)
