-- Filters of labels: a filter may let a label through that no pair has, and it lets each label through that one has.
use Rattle.std.specs.Prelude.{◌≡◌, ℕ, ◌+◌, ◌*◌, ◌/◌, ◌%◌, ◌^◌, List, All, get_or}
use Rattle.std.specs.Int.RustNames.{bit_or}
use Rattle.s2ix_bag_pairs.specs.declared.pair.Entry.{Entry}
use Rattle.s2ix_bag_pairs.specs.Collection.{Collection}
use Rattle.s2ix_bag_pairs.specs.Label.{value_of}

-- the number after a label's, since 0 would stay 0, spread over 64 bits: its product with 2 ^ 64 times the golden section, as far as 64 bits
-- hold it
abbrev pub spread : ℕ → ℕ
spread label = (label + 1) * 11400714819323198485 % 2 ^ 64

-- which word of a filter has the bits of a label: the four highest bits of the spread number
abbrev pub word_of : ℕ → ℕ
word_of label = spread label / 2 ^ 60

-- the bits of a label in its word: three, or fewer if some fall together, each named by six bits of the spread number
abbrev pub bits_of : ℕ → ℕ
bits_of label =
    bit_or (bit_or (2 ^ (spread label / 2 ^ 54 % 64)) (2 ^ (spread label / 2 ^ 48 % 64))) (2 ^ (spread label / 2 ^ 42 % 64))

-- all bits of a label are among those of a word
abbrev pub HasBits : ℕ → ℕ → Type 0
HasBits word bits = bit_or word bits ≡ word

-- a filter lets the label with this number through
abbrev pub LetsThrough : List ℕ → ℕ → Type 0
LetsThrough words label = HasBits (get_or words (word_of label) 0) (bits_of label)

-- it lets the labels of all these pairs through
abbrev pub LetsThroughAll : List ℕ → Collection → Type 0
LetsThroughAll words held = All (λ h. LetsThrough words (value_of h.pair.label)) held

-- it lets the labels of all these entries through
abbrev pub LetsThroughEntries : List ℕ → List Entry → Type 0
LetsThroughEntries words entries = All (λ e. LetsThrough words (value_of e.pair.label)) entries
