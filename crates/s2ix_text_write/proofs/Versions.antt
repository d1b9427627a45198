-- What the headers of dumps and journals tell.
use Rattle.std.proofs.Common.{◌≡◌, ◌==◌, ℕ, ◌^◌, ◌<◌, ◌≤◌, Bool, true, false, cond, Option, Some, None, List, [], ◌∷◌, ◌++◌, All, drop, refl, ap, ◌∙◌, arith}
use Rattle.std.specs.Prelude.{codes}
use Rattle.std.specs.List.{list_any}
use Rattle.std.specs.Str.{bytes_eq}
use Rattle.std.proofs.lemmas.Bool.{cond-false, cond-true, or_parts}
use Rattle.std.proofs.lemmas.List.{append_cancel_left}
use Rattle.std.proofs.lemmas.List.Elements.{All-cons, All-nil}
use Rattle.std.proofs.lemmas.Slice.Eq.{bytes_eq-Decides}
use Rattle.s2ix_text_write.specs.declared.version.Version.{Version}
use Rattle.s2ix_text_write.specs.declared.version.Version.TheVariants.{First, Second}
use Rattle.s2ix_text_write.specs.Version.{dump_header, dump_version, greatest_below, greatest_in, journal_header, journal_version, version_of}

-- the first byte of a text
unfoldable pub head_of : List ℕ → ℕ
head_of [] = 0
head_of (x ∷ xs) = x

-- each version's counts have 32 bits
pub greatest_fits : (version : Version) → greatest_in version < 2 ^ 32
greatest_fits First = omega arith
greatest_fits Second = omega arith

-- the last byte of a header tells its version
pub same_dump_header : (v w : Version) (x y : List ℕ) → dump_header v ++ 10 ∷ x ≡ dump_header w ++ 10 ∷ y → (v ≡ w) × (x ≡ y)
unfolding head_of
same_dump_header First First x y same = (refl, append_cancel_left (codes "s2ix 1\n") x y same)
same_dump_header First Second x y same = absurd (let e : 49 ≡ 50 = ap (λ (t : List ℕ). head_of (drop 5 t)) same in omega arith)
same_dump_header Second First x y same = absurd (let e : 50 ≡ 49 = ap (λ (t : List ℕ). head_of (drop 5 t)) same in omega arith)
same_dump_header Second Second x y same = (refl, append_cancel_left (codes "s2ix 2\n") x y same)

pub same_journal_header : (v w : Version) (x y : List ℕ) → journal_header v ++ 10 ∷ x ≡ journal_header w ++ 10 ∷ y → (v ≡ w) × (x ≡ y)
unfolding head_of
same_journal_header First First x y same = (refl, append_cancel_left (codes "s2ix-journal 1\n") x y same)
same_journal_header First Second x y same = absurd (let e : 49 ≡ 50 = ap (λ (t : List ℕ). head_of (drop 13 t)) same in omega arith)
same_journal_header Second First x y same = absurd (let e : 50 ≡ 49 = ap (λ (t : List ℕ). head_of (drop 13 t)) same in omega arith)
same_journal_header Second Second x y same = (refl, append_cancel_left (codes "s2ix-journal 2\n") x y same)

-- ---- the line that is a version's header of one kind

found_header : (header : Version → List ℕ) (line : List ℕ) (version : Version) (first second : Bool) → bytes_eq line (header First) ≡ first
    → bytes_eq line (header Second) ≡ second
    → cond first (Some First) (cond second (Some Second) None) ≡ Some version → line ≡ header version
found_header header line version true second a b is =
    let same : First ≡ version = cc in (bytes_eq-Decides line (header First)).0 a ∙ ap header same
found_header header line version false true a b is =
    let same : Second ≡ version = cc in (bytes_eq-Decides line (header Second)).0 b ∙ ap header same
found_header header line version false false a b is = cc

-- a line that names a version is its header
header_named : (header : Version → List ℕ) (line : List ℕ) (version : Version) → version_of header line ≡ Some version
    → line ≡ header version
header_named header line version is =
    found_header header line version (bytes_eq line (header First)) (bytes_eq line (header Second)) refl refl is

-- and a header names its version, if no header is that of two
named_by_header : (header : Version → List ℕ) → bytes_eq (header Second) (header First) ≡ false → (version : Version)
    → version_of header (header version) ≡ Some version
named_by_header header apart First = cond-true _ _ _ ((bytes_eq-Decides (header First) (header First)).1 refl)
named_by_header header apart Second = cond-false _ _ _ apart ∙ cond-true _ _ _ ((bytes_eq-Decides (header Second) (header Second)).1 refl)

pub dump_header_named : (line : List ℕ) (version : Version) → dump_version line ≡ Some version → line ≡ dump_header version
unfolding dump_version
dump_header_named line version is = header_named dump_header line version is

pub named_by_dump_header : (version : Version) → dump_version (dump_header version) ≡ Some version
unfolding dump_version
named_by_dump_header version = named_by_header dump_header refl version

pub journal_header_named : (line : List ℕ) (version : Version) → journal_version line ≡ Some version → line ≡ journal_header version
unfolding journal_version
journal_header_named line version is = header_named journal_header line version is

pub named_by_journal_header : (version : Version) → journal_version (journal_header version) ≡ Some version
unfolding journal_version
named_by_journal_header version = named_by_header journal_header refl version

-- the counts below each line have 32 bits
pub greatest_below_fits : (found : Option Version) → greatest_below found < 2 ^ 32
greatest_below_fits None = omega arith
greatest_below_fits (Some version) = greatest_fits version

-- ---- a header has no line feed

lacks_feed : (text : List ℕ) → list_any (λ byte. byte == 10) text ≡ false → All (λ byte. (byte == 10) ≡ false) text
lacks_feed [] none = All-nil (λ byte. (byte == 10) ≡ false)
lacks_feed (byte ∷ text) none =
    let parts = or_parts (byte == 10) (list_any (λ byte. byte == 10) text) none in
    All-cons (λ byte. (byte == 10) ≡ false) byte text parts.0 (lacks_feed text parts.1)

pub dump_header_lacks_feed : (version : Version) → All (λ byte. (byte == 10) ≡ false) (dump_header version)
dump_header_lacks_feed First = lacks_feed (codes "s2ix 1") refl
dump_header_lacks_feed Second = lacks_feed (codes "s2ix 2") refl

pub journal_header_lacks_feed : (version : Version) → All (λ byte. (byte == 10) ≡ false) (journal_header version)
journal_header_lacks_feed First = lacks_feed (codes "s2ix-journal 1") refl
journal_header_lacks_feed Second = lacks_feed (codes "s2ix-journal 2") refl
