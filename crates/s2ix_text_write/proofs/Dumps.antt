-- Two collections with one dump are one collection.
use Rattle.std.proofs.Common.{◌≡◌, ℕ, ◌^◌, ◌<◌, List, [], ◌∷◌, ◌++◌, refl, sym, ap₂, ◌∙◌, subst, append_assoc, arith, All}
use Rattle.std.specs.Prelude.{decimal, flat_map}
use Rattle.std.proofs.lemmas.Fmt.{decimal_injective}
use Rattle.std.proofs.lemmas.List.Elements.{All-nil, All-cons, All-head, All-tail}
use Rattle.s2id_core.specs.CellId.{raw_of}
use Rattle.s2id_core.specs.Token.{canonical_token, IsLowerHex}
use Rattle.s2id_core.proofs.Canonical.{lower-canonical_token}
use Rattle.s2ix_bag_pairs.specs.declared.pair.Held.{Held}
use Rattle.s2ix_bag_pairs.specs.declared.pair.Pair.{Pair}
use Rattle.s2ix_bag_pairs.specs.Collection.{Collection, LimitedCollection, IsBag}
use Rattle.s2ix_text_write.specs.declared.version.Version.{Version}
use Rattle.s2ix_text_write.specs.declared.version.Version.TheVariants.{Second}
use Rattle.s2ix_text_write.specs.Dump.{CanHold, IsDump, dump_in, dump_text, end_line, pair_line}
use Rattle.s2ix_text_write.proofs.Journals.{IsGraphic, cut_field, cut_pair, decimal_graphic, token_graphic}
use Rattle.s2ix_text_write.proofs.Versions.{greatest_fits, same_dump_header}

-- ---- lines of held pairs

-- a held pair with a count that a `u32` holds, as each pair that a bag holds has
abbrev HasSmallCount : Held → Type 0
HasSmallCount h = h.count < 2 ^ 32

one_held : (h k : Held) (r s : List ℕ) → HasSmallCount h → HasSmallCount k → pair_line h ++ r ≡ pair_line k ++ s → (h ≡ k) × (r ≡ s)
unfolding pair_line
one_held h k r s hc kc same =
    let pair = cut_pair h.pair k.pair _ _ r s same in
    let count = cut_field 10 (decimal h.count) (decimal k.count) [] [] r s (omega arith) (decimal_graphic _ (omega arith))
    (decimal_graphic _ (omega arith)) pair.1 in (
      ap₂ (λ (p : Pair) (n : ℕ). let made : Held = record { pair = p; count = n } in made) pair.0
          (decimal_injective h.count k.count (omega arith) (omega arith) count.0),
      count.1,
    )

-- the line of a held pair is no end line: a token has no letter n
ends_no_pair : (k : Held) (r s : List ℕ) → 101 ∷ 110 ∷ 100 ∷ 32 ∷ r ≡ pair_line k ++ s → ⊥
unfolding pair_line
ends_no_pair k r s same =
    let graphic =
    All-cons IsGraphic 101 (110 ∷ 100 ∷ []) (omega arith)
    (All-cons IsGraphic 110 (100 ∷ []) (omega arith) (All-cons IsGraphic 100 [] (omega arith) (All-nil IsGraphic))) in
    let token =
    cut_field 32 (101 ∷ 110 ∷ 100 ∷ []) (canonical_token (raw_of k.pair.cell)) [] _ r s (omega arith) graphic (token_graphic _) same in
    let lower = subst (λ (digits : List ℕ). All IsLowerHex digits) (sym token.0) (lower-canonical_token (raw_of k.pair.cell)) in
    let n : IsLowerHex 110 = All-head IsLowerHex 110 (100 ∷ []) (All-tail IsLowerHex 101 (110 ∷ 100 ∷ []) lower) in
    omega (arith, n)

one_list : (hs ks : Collection) (r s : List ℕ) → All HasSmallCount hs → All HasSmallCount ks
    → flat_map pair_line hs ++ 101 ∷ 110 ∷ 100 ∷ 32 ∷ r ≡ flat_map pair_line ks ++ 101 ∷ 110 ∷ 100 ∷ 32 ∷ s → hs ≡ ks
one_list [] [] r s hs_are ks_are same = refl
one_list [] (k ∷ ks) r s hs_are ks_are same =
    absurd (ends_no_pair k r _ (same ∙ append_assoc (pair_line k) (flat_map pair_line ks) (101 ∷ 110 ∷ 100 ∷ 32 ∷ s)))
one_list (h ∷ hs) [] r s hs_are ks_are same =
    absurd (ends_no_pair h s _ (sym same ∙ append_assoc (pair_line h) (flat_map pair_line hs) (101 ∷ 110 ∷ 100 ∷ 32 ∷ r)))
one_list (h ∷ hs) (k ∷ ks) r s hs_are ks_are same =
    let line = one_held h k (flat_map pair_line hs ++ 101 ∷ 110 ∷ 100 ∷ 32 ∷ r) (flat_map pair_line ks ++ 101 ∷ 110 ∷ 100 ∷ 32 ∷ s)
    (All-head HasSmallCount h hs hs_are) (All-head HasSmallCount k ks ks_are)
    (sym (append_assoc (pair_line h) (flat_map pair_line hs) (101 ∷ 110 ∷ 100 ∷ 32 ∷ r)) ∙ same
    ∙ append_assoc (pair_line k) (flat_map pair_line ks) (101 ∷ 110 ∷ 100 ∷ 32 ∷ s)) in
    ap₂ (λ (x : Held) (xs : Collection). x ∷ xs) line.0
    (one_list hs ks r s (All-tail HasSmallCount h hs hs_are) (All-tail HasSmallCount k ks ks_are) line.1)

-- ---- dumps

-- what a dump tells below its header
same_below : (v w : Version) (hs ks : Collection) → dump_in v hs ≡ dump_in w ks
    → (v ≡ w) × (flat_map pair_line hs ++ end_line hs ≡ flat_map pair_line ks ++ end_line ks)
unfolding dump_in
same_below v w hs ks same = same_dump_header v w (flat_map pair_line hs ++ end_line hs) (flat_map pair_line ks ++ end_line ks) same

pub one_version : (v w : Version) (hs ks : Collection) → dump_in v hs ≡ dump_in w ks → v ≡ w
one_version v w hs ks same = (same_below v w hs ks same).0

-- what a version can hold has counts of 32 bits
small_counts : (version : Version) (hs : Collection) → CanHold version hs → All HasSmallCount hs
small_counts version hs held = λ k d within. let small = held k d within in let fits = greatest_fits version in omega (arith, small, fits)

pub one_dump : (text : List ℕ) (hs ks : Collection) → IsDump text hs → IsDump text ks → hs ≡ ks
unfolding end_line
one_dump text hs ks of_hs of_ks =
    one_list hs ks _ _ (small_counts of_hs.0 hs of_hs.1) (small_counts of_ks.0 ks of_ks.1)
    (same_below of_hs.0 of_ks.0 hs ks (sym of_hs.2 ∙ of_ks.2)).1

-- what is written of a bag is a dump of it
pub bag_dump : (bag : LimitedCollection) → IsBag bag → IsDump (dump_text bag.held) bag.held
bag_dump bag is =
    let held : CanHold Second bag.held = λ k d within. let range = bag.limits.in_range in let small = is.small k d within in
    omega (arith, range, small) in
    (Second, held, refl)

pub one_dump_of_bags : (bag other : LimitedCollection) → IsBag bag → IsBag other → dump_text bag.held ≡ dump_text other.held
    → bag.held ≡ other.held
one_dump_of_bags bag other is other_is same =
    one_dump (dump_text other.held) bag.held other.held (subst (λ text. IsDump text bag.held) same (bag_dump bag is))
    (bag_dump other other_is)
