-- Two lists of writable changes with one journal are one list.
use Rattle.std.proofs.Common.{◌≡◌, ℕ, ◌+◌, ◌*◌, ◌^◌, ◌%◌, ◌<◌, ◌≤◌, List, [], ◌∷◌, ◌++◌, length, refl, sym, ap, ap₂, ◌∙◌, ⊎_elim, append_assoc, arith, All}
use Rattle.std.specs.Prelude.{codes, decimal, flat_map}
use Rattle.std.proofs.lemmas.Fmt.{decimal_by_steps, decimal_injective}
use Rattle.std.proofs.lemmas.List.{append_cancel_left}
use Rattle.std.proofs.lemmas.List.Elements.{All-nil, All-cons, All-head, All-tail, All-append}
use Rattle.s2id_core.specs.CellId.{raw_of}
use Rattle.s2id_core.specs.Token.{canonical_token, IsLowerHex}
use Rattle.s2id_core.proofs.Canonical.{lower-canonical_token, one_token}
use Rattle.s2ix_bag_pairs.specs.Label.{value_of}
use Rattle.s2ix_bag_pairs.specs.declared.pair.Entry.{Entry}
use Rattle.s2ix_bag_pairs.specs.declared.pair.Pair.{Pair}
use Rattle.s2ix_bag_pairs.proofs.Pairs.{same_pair}
use Rattle.s2ix_text_write.specs.declared.version.Version.{Version}
use Rattle.s2ix_text_write.specs.declared.version.Version.TheVariants.{Second}
use Rattle.s2ix_text_write.specs.Journal.{IsJournalText, IsWritable, IsWritableIn, change_line, entry_line, group_text, journal_in, journal_text, last_line}
use Rattle.s2ix_text_write.proofs.Versions.{greatest_fits, head_of, same_journal_header}

-- ---- texts that are cut at a space or a line feed

tail_of : List ℕ → List ℕ
tail_of [] = []
tail_of (x ∷ xs) = xs

abbrev pub IsGraphic : ℕ → Type 0
IsGraphic byte = 32 < byte

-- what stands before the first space or line feed of a text, and what after it
pub cut_at : (x : ℕ) (xs ys r s : List ℕ) → x ≤ 32 → All IsGraphic xs → All IsGraphic ys → xs ++ x ∷ r ≡ ys ++ x ∷ s → (xs ≡ ys) × (r ≡ s)
unfolding head_of tail_of
cut_at x [] [] r s small p q e = (refl, ap tail_of e)
cut_at x [] (y ∷ ys) r s small p q e =
    let same : x ≡ y = ap head_of e in
    let above : 32 < y = All-head IsGraphic y ys q in
    absurd (omega arith)
cut_at x (z ∷ xs) [] r s small p q e =
    let same : z ≡ x = ap head_of e in
    let above : 32 < z = All-head IsGraphic z xs p in
    absurd (omega arith)
cut_at x (z ∷ xs) (y ∷ ys) r s small p q e =
    let same : z ≡ y = ap head_of e in
    let rest = cut_at x xs ys r s small (All-tail IsGraphic z xs p) (All-tail IsGraphic y ys q) (ap tail_of e) in
    (ap₂ (λ (c : ℕ) (l : List ℕ). c ∷ l) same rest.0, rest.1)

-- the same of a text within another
pub cut_field : (x : ℕ) (xs ys t u r s : List ℕ) → x ≤ 32 → All IsGraphic xs → All IsGraphic ys → (xs ++ x ∷ t) ++ r ≡ (ys ++ x ∷ u) ++ s
    → (xs ≡ ys) × (t ++ r ≡ u ++ s)
cut_field x xs ys t u r s small p q e =
    cut_at x xs ys (t ++ r) (u ++ s) small p q (sym (append_assoc xs (x ∷ t) r) ∙ e ∙ append_assoc ys (x ∷ u) s)

-- ---- numbers and tokens have no space and no line feed

pub decimal_graphic : (n : ℕ) → n < 2 ^ 64 → All IsGraphic (decimal n)
decimal_graphic =
    decimal_by_steps (λ n ds. All IsGraphic ds)
    (λ n small. All-cons IsGraphic (48 + n) [] (omega arith) (All-nil IsGraphic))
    (λ n ds large graphic. All-append IsGraphic ds ((48 + n % 10) ∷ []) graphic
    (All-cons IsGraphic (48 + n % 10) [] (omega arith) (All-nil IsGraphic)))

hex_graphic : (c : ℕ) → IsLowerHex c → IsGraphic c
hex_graphic c h = ⊎_elim (λ digit. omega (arith, digit)) (λ letter. omega (arith, letter)) h

pub token_graphic : (n : ℕ) → All IsGraphic (canonical_token n)
token_graphic n = λ k d within. hex_graphic _ (lower-canonical_token n k d within)

-- ---- lines of pairs

-- a text that begins with a pair's token and label tells the pair, and what stands after it
pub cut_pair : (p q : Pair) (t u r s : List ℕ)
    → (canonical_token (raw_of p.cell) ++ 32 ∷ (decimal (value_of p.label) ++ 32 ∷ t)) ++ r
    ≡ (canonical_token (raw_of q.cell) ++ 32 ∷ (decimal (value_of q.label) ++ 32 ∷ u)) ++ s
    → (p ≡ q) × (t ++ r ≡ u ++ s)
cut_pair p q t u r s same =
    let pl : value_of p.label ≤ 2147483647 = p.label.in_range in
    let ql : value_of q.label ≤ 2147483647 = q.label.in_range in
    let token =
    cut_field 32 (canonical_token (raw_of p.cell)) (canonical_token (raw_of q.cell)) _ _ r s (omega arith) (token_graphic _)
    (token_graphic _) same in
    let label =
    cut_field 32 (decimal (value_of p.label)) (decimal (value_of q.label)) t u r s (omega arith) (decimal_graphic _ (omega arith))
    (decimal_graphic _ (omega arith)) token.1 in
    let cells = one_token (raw_of p.cell) (raw_of q.cell) p.cell.valid q.cell.valid token.0 in
    let labels = decimal_injective (value_of p.label) (value_of q.label) (omega arith) (omega arith) label.0 in
    (same_pair p q (ap₂ (λ (c v : ℕ). c * 2147483648 + v) cells labels), label.1)

-- ---- lines of entries

same_entry : (e f : Entry) → e.pair ≡ f.pair → e.before ≡ f.before → e.after ≡ f.after → e ≡ f
same_entry e f pairs befores afters =
    ap (λ (p : Pair). let made : Entry = record { pair = p; before = e.before; after = e.after } in made) pairs
    ∙ ap₂ (λ (b a : ℕ). let made : Entry = record { pair = f.pair; before = b; after = a } in made) befores afters

one_line : (e f : Entry) (r s : List ℕ) → e.before ≤ 4294967295 → e.after ≤ 4294967295 → f.before ≤ 4294967295 → f.after ≤ 4294967295
    → entry_line e ++ r ≡ entry_line f ++ s → (e ≡ f) × (r ≡ s)
unfolding entry_line
one_line e f r s eb ea fb fa same =
    let pair = cut_pair e.pair f.pair _ _ r s same in
    let before =
    cut_field 32 (decimal e.before) (decimal f.before) _ _ r s (omega arith) (decimal_graphic _ (omega arith))
    (decimal_graphic _ (omega arith)) pair.1 in
    let after = cut_field 10 (decimal e.after) (decimal f.after) [] [] r s (omega arith) (decimal_graphic _ (omega arith))
    (decimal_graphic _ (omega arith)) before.1 in (
      same_entry e f pair.0
          (decimal_injective e.before f.before (omega arith) (omega arith) before.0)
          (decimal_injective e.after f.after (omega arith) (omega arith) after.0),
      after.1,
    )

abbrev pub BeforeIsSmall : Entry → Type 0
BeforeIsSmall e = e.before ≤ 4294967295

abbrev pub AfterIsSmall : Entry → Type 0
AfterIsSmall e = e.after ≤ 4294967295

one_entries : (es fs : List Entry) (r s : List ℕ) → length es ≡ length fs → All BeforeIsSmall es → All AfterIsSmall es
    → All BeforeIsSmall fs → All AfterIsSmall fs
    → flat_map entry_line es ++ r ≡ flat_map entry_line fs ++ s → (es ≡ fs) × (r ≡ s)
one_entries [] [] r s long eb ea fb fa same = (refl, same)
one_entries [] (f ∷ fs) r s long eb ea fb fa same = absurd (omega arith)
one_entries (e ∷ es) [] r s long eb ea fb fa same = absurd (omega arith)
one_entries (e ∷ es) (f ∷ fs) r s long eb ea fb fa same =
    let line = one_line e f (flat_map entry_line es ++ r) (flat_map entry_line fs ++ s) (All-head BeforeIsSmall e es eb)
    (All-head AfterIsSmall e es ea) (All-head BeforeIsSmall f fs fb) (All-head AfterIsSmall f fs fa)
    (sym (append_assoc (entry_line e) (flat_map entry_line es) r) ∙ same ∙ append_assoc (entry_line f) (flat_map entry_line fs) s) in
    let rest =
    one_entries es fs r s (omega arith) (All-tail BeforeIsSmall e es eb) (All-tail AfterIsSmall e es ea)
    (All-tail BeforeIsSmall f fs fb) (All-tail AfterIsSmall f fs fa) line.1 in
    (ap₂ (λ (x : Entry) (xs : List Entry). x ∷ xs) line.0 rest.0, rest.1)

-- ---- groups of changes

one_group : (es fs : List Entry) (r s : List ℕ) → IsWritable es → IsWritable fs → group_text es ++ r ≡ group_text fs ++ s
    → (es ≡ fs) × (r ≡ s)
unfolding group_text change_line
one_group es fs r s es_is fs_is same =
    let texts =
    sym (append_assoc (change_line es) (flat_map entry_line es) r) ∙ same ∙ append_assoc (change_line fs) (flat_map entry_line fs) s in
    let numbers =
    append_cancel_left (codes "change ") ((decimal (length es) ++ 10 ∷ []) ++ (flat_map entry_line es ++ r))
    ((decimal (length fs) ++ 10 ∷ []) ++ (flat_map entry_line fs ++ s)) texts in
    let few_es = es_is.within_limit in
    let few_fs = fs_is.within_limit in
    let number =
    cut_field 10 (decimal (length es)) (decimal (length fs)) [] [] (flat_map entry_line es ++ r) (flat_map entry_line fs ++ s)
    (omega arith) (decimal_graphic _ (omega arith)) (decimal_graphic _ (omega arith)) numbers in
    let long = decimal_injective (length es) (length fs) (omega arith) (omega arith) number.0 in
    one_entries es fs r s long es_is.small_before es_is.small_after fs_is.small_before fs_is.small_after number.1

one_groups : (cs ds : List (List Entry)) (r s : List ℕ) → All IsWritable cs → All IsWritable ds
    → flat_map group_text cs ++ 101 ∷ r ≡ flat_map group_text ds ++ 101 ∷ s → cs ≡ ds
unfolding group_text change_line head_of
one_groups [] [] r s cs_are ds_are same = refl
one_groups [] (d ∷ ds) r s cs_are ds_are same =
    absurd (let e : 101 ≡ 99 = ap head_of same in omega arith)
one_groups (c ∷ cs) [] r s cs_are ds_are same =
    absurd (let e : 99 ≡ 101 = ap head_of same in omega arith)
one_groups (c ∷ cs) (d ∷ ds) r s cs_are ds_are same =
    let group = one_group c d (flat_map group_text cs ++ 101 ∷ r) (flat_map group_text ds ++ 101 ∷ s) (All-head IsWritable c cs cs_are)
    (All-head IsWritable d ds ds_are)
    (sym (append_assoc (group_text c) (flat_map group_text cs) (101 ∷ r)) ∙ same
    ∙ append_assoc (group_text d) (flat_map group_text ds) (101 ∷ s)) in
    ap₂ (λ (x : List Entry) (xs : List (List Entry)). x ∷ xs) group.0
    (one_groups cs ds r s (All-tail IsWritable c cs cs_are) (All-tail IsWritable d ds ds_are) group.1)

-- ---- journals

-- what a journal tells below its header
same_below : (v w : Version) (cs ds : List (List Entry)) → journal_in v cs ≡ journal_in w ds
    → (v ≡ w) × (flat_map group_text cs ++ last_line cs ≡ flat_map group_text ds ++ last_line ds)
unfolding journal_in
same_below v w cs ds same = same_journal_header v w (flat_map group_text cs ++ last_line cs) (flat_map group_text ds ++ last_line ds) same

pub one_version : (v w : Version) (cs ds : List (List Entry)) → journal_in v cs ≡ journal_in w ds → v ≡ w
one_version v w cs ds same = (same_below v w cs ds same).0

-- what a version can hold can be written
pub writable : (version : Version) (es : List Entry) → IsWritableIn version es → IsWritable es
writable version es is =
    let fits = greatest_fits version in
    record {
      some = is.some;
      within_limit = is.within_limit;
      small_before = λ k d within. let small = is.small_before k d within in omega (arith, small, fits);
      small_after = λ k d within. let small = is.small_after k d within in omega (arith, small, fits);
    }

all_writable : (version : Version) (cs : List (List Entry)) → All (IsWritableIn version) cs → All IsWritable cs
all_writable version cs are = λ k d within. writable version _ (are k d within)

pub one_journal : (text : List ℕ) (cs ds : List (List Entry)) → IsJournalText text cs → IsJournalText text ds → cs ≡ ds
unfolding last_line
one_journal text cs ds of_cs of_ds =
    one_groups cs ds _ _ (all_writable of_cs.0 cs of_cs.1) (all_writable of_ds.0 ds of_ds.1)
    (same_below of_cs.0 of_ds.0 cs ds (sym of_cs.2 ∙ of_ds.2)).1

-- what is written of writable changes is a journal of them
pub written_journal : (cs : List (List Entry)) → All IsWritable cs → IsJournalText (journal_text cs) cs
written_journal cs are = (Second, are, refl)
