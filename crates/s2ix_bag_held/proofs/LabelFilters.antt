-- What a filter of labels lets through.
use Rattle.std.proofs.Common.{◌≡◌, ℕ, ◌+◌, ◌*◌, ◌/◌, ◌%◌, ◌^◌, ◌<◌, List, [], ◌∷◌, zero, suc, refl, sym, ap, ◌∙◌, subst, ⊎_elim, arith, get_or, set, length, max, replicate, get_or-set_other, get_or-set_same}
use Rattle.std.specs.Int.{bit_at}
use Rattle.std.specs.Int.RustNames.{bit_or}
use Rattle.std.specs.Prelude.{◌==◌, nat_lt}
use Rattle.std.proofs.lemmas.Bool.{cases_eq, cases_Bool, cond-true, cond-false}
use Rattle.std.proofs.lemmas.List.{get_or-replicate}
use Rattle.std.proofs.lemmas.List.Elements.{All-nil, All-cons, All-head, All-tail}
use Rattle.std.proofs.lemmas.Nat.{or_lt, le_or_l, mod_below, pow_below}
use Rattle.std.proofs.lemmas.Nat.Bits.{bit_at_or, same_from_bits}
use Rattle.s2ix_bag_pairs.specs.Collection.{Collection}
use Rattle.s2ix_bag_pairs.specs.Label.{value_of}
use Rattle.s2ix_bag_pairs.specs.OfLabel.{held_of}
use Rattle.s2ix_bag_pairs.specs.declared.label.Label.{Label}
use Rattle.s2ix_bag_pairs.specs.declared.pair.Held.{Held}
use Rattle.s2ix_bag_pairs.proofs.OfLabel.{held_of_tail}
use Rattle.s2ix_bag_pairs.specs.Collection.{held_with, set_count}
use Rattle.s2ix_bag_pairs.specs.Change.{changed}
use Rattle.s2ix_bag_pairs.specs.Pair.{rank_of}
use Rattle.s2ix_bag_pairs.specs.declared.pair.Pair.{Pair}
use Rattle.s2ix_bag_pairs.specs.declared.pair.Entry.{Entry}
use Rattle.s2ix_bag_held.specs.LabelFilter.{HasBits, LetsThrough, LetsThroughAll, LetsThroughEntries, spread, word_of, bits_of}

-- ---- bits

max_again : (a b : ℕ) → max (max a b) b ≡ max a b
max_again a b = omega arith

max_keeps : (a b c : ℕ) → max a b ≡ a → max (max a c) b ≡ max a c
max_keeps a b c e = omega (arith, e)

-- the bits that were put into a word are in it
pub has_own : (word bits : ℕ) → HasBits (bit_or word bits) bits
has_own word bits =
    same_from_bits (bit_or (bit_or word bits) bits) (bit_or word bits)
    (λ i.
    bit_at_or (bit_or word bits) bits i
    ∙ ap (λ x. max x (bit_at bits i)) (bit_at_or word bits i)
    ∙ max_again (bit_at word i) (bit_at bits i)
    ∙ sym (bit_at_or word bits i))

-- and so are those that were in it before
pub has_others : (word bits more : ℕ) → HasBits word bits → HasBits (bit_or word more) bits
has_others word bits more was =
    same_from_bits (bit_or (bit_or word more) bits) (bit_or word more)
    (λ i.
    bit_at_or (bit_or word more) bits i
    ∙ ap (λ x. max x (bit_at bits i)) (bit_at_or word more i)
    ∙ max_keeps (bit_at word i) (bit_at bits i) (bit_at more i) (sym (bit_at_or word bits i) ∙ ap (λ x. bit_at x i) was)
    ∙ sym (bit_at_or word more i))

-- ---- words

pub set_own : (words : List ℕ) (label : ℕ) → word_of label < length words
    → LetsThrough (set words (word_of label) (bit_or (get_or words (word_of label) 0) (bits_of label))) label
set_own words label within =
    let at = word_of label in
    let new = bit_or (get_or words at 0) (bits_of label) in
    subst (λ word. HasBits word (bits_of label)) (sym (get_or-set_same words at new 0 within)) (has_own (get_or words at 0) (bits_of label))

pub set_others : (words : List ℕ) (at more other : ℕ) → at < length words
    → LetsThrough words other → LetsThrough (set words at (bit_or (get_or words at 0) more)) other
set_others words at more other within was =
    let new = bit_or (get_or words at 0) more in
    ⊎_elim
    (λ e.
    let own : get_or (set words at new) (word_of other) 0 ≡ new =
    ap (λ i. get_or (set words at new) i 0) e ∙ get_or-set_same words at new 0 within in
    subst (λ word. HasBits word (bits_of other)) (sym own)
    (has_others (get_or words at 0) (bits_of other) more (subst (λ i. HasBits (get_or words i 0) (bits_of other)) e was)))
    (λ ne. subst (λ word. HasBits word (bits_of other)) (sym (get_or-set_other words at (word_of other) new 0 ne)) was)
    (cases_eq (word_of other) at)

-- a word of ones has all bits
pub ones_have : (bits : ℕ) → bits < 2 ^ 64 → HasBits 18446744073709551615 bits
ones_have bits lt =
    let most = or_lt 64 18446744073709551615 bits (omega arith) lt in
    omega (arith, most, le_or_l 18446744073709551615 bits)

-- ---- pairs

-- pairs that all come through have none with a label that doesn't
pub none_of : (words : List ℕ) (label : Label) (hs : Collection) → LetsThroughAll words hs
    → (LetsThrough words (value_of label) → ⊥) → held_of label hs ≡ []
none_of words label [] all not = refl
none_of words label (h ∷ hs) all not =
    let Passes : Held → Type 0 = λ h. LetsThrough words (value_of h.pair.label) in
    held_of_tail label h hs (λ e. not (subst (λ n. LetsThrough words n) e (All-head Passes h hs all)))
    ∙ none_of words label hs (All-tail Passes h hs all) not

-- ---- every label

pub word_below : (label : ℕ) → word_of label < 16
word_below label = omega (arith, mod_below ((label + 1) * 11400714819323198485) (2 ^ 64) (omega arith))

one_below : (n : ℕ) → 2 ^ (n % 64) < 2 ^ 64
one_below n = pow_below (n % 64) 64 (mod_below n 64 (omega arith))

pub bits_below : (label : ℕ) → bits_of label < 2 ^ 64
bits_below label =
    or_lt 64 _ _ (or_lt 64 _ _ (one_below (spread label / 2 ^ 54)) (one_below (spread label / 2 ^ 48))) (one_below (spread label / 2 ^ 42))

pub ones_let : (label : ℕ) → LetsThrough (replicate 16 18446744073709551615) label
ones_let label =
    subst (λ word. HasBits word (bits_of label)) (sym (get_or-replicate 16 (word_of label) 18446744073709551615 0 (word_below label)))
    (ones_have (bits_of label) (bits_below label))

-- ---- a filter that lets more through

pub still_all : (old new : List ℕ) → ((other : ℕ) → LetsThrough old other → LetsThrough new other)
    → (hs : Collection) → LetsThroughAll old hs → LetsThroughAll new hs
still_all old new more [] all = All-nil (λ (h : Held). LetsThrough new (value_of h.pair.label))
still_all old new more (h ∷ hs) all =
    let Was : Held → Type 0 = λ h. LetsThrough old (value_of h.pair.label) in
    All-cons (λ (h : Held). LetsThrough new (value_of h.pair.label)) h hs (more (value_of h.pair.label) (All-head Was h hs all))
    (still_all old new more hs (All-tail Was h hs all))

pub still_entries : (old new : List ℕ) → ((other : ℕ) → LetsThrough old other → LetsThrough new other)
    → (es : List Entry) → LetsThroughEntries old es → LetsThroughEntries new es
still_entries old new more [] all = All-nil (λ (e : Entry). LetsThrough new (value_of e.pair.label))
still_entries old new more (e ∷ es) all =
    let Was : Entry → Type 0 = λ e. LetsThrough old (value_of e.pair.label) in
    All-cons (λ (e : Entry). LetsThrough new (value_of e.pair.label)) e es (more (value_of e.pair.label) (All-head Was e es all))
    (still_entries old new more es (All-tail Was e es all))

-- ---- what a change makes of pairs

held_with_all : (words : List ℕ) (pair : Pair) (count : ℕ) (hs : Collection) → LetsThrough words (value_of pair.label)
    → LetsThroughAll words hs → LetsThroughAll words (held_with pair count hs)
held_with_all words pair zero hs own all = all
held_with_all words pair (suc n) hs own all =
    All-cons (λ (h : Held). LetsThrough words (value_of h.pair.label)) (record { pair = pair; count = suc n }) hs own all

set_count_all : (words : List ℕ) (pair : Pair) (count : ℕ) (hs : Collection) → LetsThrough words (value_of pair.label)
    → LetsThroughAll words hs → LetsThroughAll words (set_count pair count hs)
set_count_all words pair count [] own all = held_with_all words pair count [] own all
set_count_all words pair count (h ∷ hs) own all =
    let Passes : Held → Type 0 = λ h. LetsThrough words (value_of h.pair.label) in
    let rest = All-tail Passes h hs all in
    let AllPass : Collection → Type 0 = λ x. LetsThroughAll words x in
    ⊎_elim
    (λ before. subst AllPass (sym (cond-true _ _ _ before)) (held_with_all words pair count (h ∷ hs) own all))
    (λ not_before. subst AllPass (sym (cond-false _ _ _ not_before))
    (⊎_elim
    (λ same. subst AllPass (sym (cond-true _ _ _ same)) (held_with_all words pair count hs own rest))
    (λ other. subst AllPass (sym (cond-false _ _ _ other))
    (All-cons Passes h (set_count pair count hs) (All-head Passes h hs all) (set_count_all words pair count hs own rest)))
    (cases_Bool (rank_of pair == rank_of h.pair))))
    (cases_Bool (nat_lt (rank_of pair) (rank_of h.pair)))

pub changed_all : (words : List ℕ) (hs : Collection) (es : List Entry) → LetsThroughAll words hs → LetsThroughEntries words es
    → LetsThroughAll words (changed hs es)
changed_all words hs [] all own = all
changed_all words hs (e ∷ es) all own =
    let Passes : Entry → Type 0 = λ e. LetsThrough words (value_of e.pair.label) in
    changed_all words (set_count e.pair e.after hs) es (set_count_all words e.pair e.after hs (All-head Passes e es own) all)
    (All-tail Passes e es own)
