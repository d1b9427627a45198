-- The fault of a line, by the table: below the lines of held pairs, at the end, and after it.
use Rattle.std.proofs.Common.{◌≡◌, ◌==◌, ℕ, ◌+◌, ◌<◌, ◌≤◌, Bool, true, false, not, ◌||◌, cond, Option, Some, None, Result, Ok, Err, List, [], ◌∷◌, ◌++◌, All, length, map, refl, sym, ap, ap₂, ◌∙◌, subst, arith}
use Rattle.std.specs.Prelude.{find, is_none, nat_le, nat_lt, slice_index_or, sum_by}
use Rattle.std.specs.List.{list_any}
use Rattle.std.specs.Option.{option_and_then, unwrap_or}
use Rattle.std.specs.Str.{bytes_eq}
use Rattle.std.proofs.lemmas.Bool.{and_from, and_left, and_parts, and_right, cond-false, cond-true, eqb-true, le-leb, le-ltb, lt-leb, lt-ltb, not_from_false, or_from, or_left, or_right}
use Rattle.std.proofs.lemmas.List.{length-map}
use Rattle.std.proofs.lemmas.List.Elements.{All-head, All-tail}
use Rattle.std.proofs.lemmas.List.Folds.{list_any-append}
use Rattle.std.proofs.lemmas.List.Sums.{sum_by-cons}
use Rattle.s2id_core.specs.declared.cell_id.CellId.{CellId}
use Rattle.s2ix_bag_pairs.specs.Collection.{Collection, copies_in}
use Rattle.s2ix_bag_pairs.specs.Limits.{count_limit, pairs_limit}
use Rattle.s2ix_bag_pairs.specs.declared.label.Label.{Label}
use Rattle.s2ix_bag_pairs.specs.declared.limits.Limits.{Limits}
use Rattle.s2ix_bag_pairs.specs.declared.pair.Held.{Held}
use Rattle.s2ix_text_write.specs.Version.{dump_version}
use Rattle.s2ix_text.specs.declared.dump_error.DumpFault.{DumpFault}
use Rattle.s2ix_text.specs.declared.dump_error.DumpFault.TheVariants.{Truncated, BadHeader, BadEnd, BadLine, BadToken, BadLabel, BadCount, Unsorted, TooManyCopies, TooManyPairs, TrailingBytes}
use Rattle.s2ix_text.specs.DumpFaults.{copies_above, dump_faults, end_text, greatest_count, is_end, is_first, is_inner, is_of_pair, is_over, line_fault, is_due}
use Rattle.s2ix_text_parts.specs.LineFaults.{LineAt}
use Rattle.s2ix_text_parts.specs.Lines.{has_parts, is_nil, last_of, part, parts_of}
use Rattle.s2ix_text.specs.PairLines.{IsDumped, IsNext, held_of_parts, held_written, last_pair, line_text, place_below}
use Rattle.s2ix_text_parts.specs.Written.{cell_written, comes_before, count_of_line, count_written, label_written, pair_written}
use Rattle.s2ix_text.proofs.Appended.{counts_are, dumped_more}
use Rattle.s2ix_text_parts.proofs.FirstFault.{applies}
use Rattle.s2ix_text_parts.proofs.Numerals.{written_count}
use Rattle.s2ix_text.proofs.PairTexts.{HasCount, count_of_text, line_is_no_end, pair_of_line, written_held}

-- ---- the first of the faults that may be due

-- of those of a line of a pair
abbrev pair_faults : (DumpFault → Bool) → Option DumpFault
pair_faults t =
    cond (t BadLine) (Some BadLine) (cond (t BadToken) (Some BadToken) (cond (t BadLabel) (Some BadLabel) (cond (t BadCount) (Some BadCount)
    (cond (t Unsorted) (Some Unsorted) (cond (t TooManyCopies) (Some TooManyCopies) (cond (t TooManyPairs) (Some TooManyPairs) None))))))

find_pair : (t : DumpFault → Bool) → t Truncated ≡ false → t BadHeader ≡ false → t BadEnd ≡ false → t TrailingBytes ≡ false
    → find t dump_faults ≡ pair_faults t
find_pair t a b c d = cond-false (t Truncated) _ _ a ∙ cond-false (t BadHeader) _ _ b ∙ cond-false (t BadEnd) _ _ c ∙ rw d refl

no_pair_fault : (t : DumpFault → Bool) → t BadLine ≡ false → t BadToken ≡ false → t BadLabel ≡ false → t BadCount ≡ false
    → t Unsorted ≡ false → t TooManyCopies ≡ false → t TooManyPairs ≡ false
    → find t dump_faults ≡ cond (t Truncated) (Some Truncated)
    (cond (t BadHeader) (Some BadHeader) (cond (t BadEnd) (Some BadEnd) (cond (t TrailingBytes) (Some TrailingBytes) None)))
no_pair_fault t a b c d e f g = rw (a, b, c, d, e, f, g) refl

-- ---- below the lines of held pairs

pub not_over : (header : List ℕ) (hs : Collection) → All (HasCount header) hs → list_any is_end (map line_text hs) ≡ false
not_over header [] counted = refl
not_over header (h ∷ hs) counted =
    or_from _ _ (line_is_no_end header h (All-head (HasCount header) h hs counted))
    (not_over header hs (All-tail (HasCount header) h hs counted))

pub copies_are : (header : List ℕ) (hs : Collection) → All (HasCount header) hs
    → sum_by (count_of_line (greatest_count header)) (map line_text hs) ≡ copies_in hs
copies_are header [] counted = refl
copies_are header (h ∷ hs) counted =
    sum_by-cons (count_of_line (greatest_count header)) (line_text h) (map line_text hs)
    ∙ ap₂ (λ m n. m + n) (count_of_text header h (All-head (HasCount header) h hs counted))
    (copies_are header hs (All-tail (HasCount header) h hs counted))
    ∙ sym (sum_by-cons (λ (k : Held). k.count) h hs)

pub last_is : (header : List ℕ) (hs : Collection) → All (HasCount header) hs
    → option_and_then pair_written (last_of (map line_text hs)) ≡ last_pair hs
last_is header [] counted = refl
last_is header (h ∷ []) counted = pair_of_line header h (All-head (HasCount header) h [] counted)
last_is header (h ∷ (g ∷ hs)) counted = last_is header (g ∷ hs) (All-tail (HasCount header) h (g ∷ hs) counted)

-- ---- a line that is to write a pair

-- the fault of the next line, by what it writes
unfoldable pub next_fault : Limits → Collection → Result Held DumpFault → Option DumpFault
next_fault limits hs (Err fault) = Some fault
next_fault limits hs (Ok h) =
    cond (not (comes_before (last_pair hs) (Some h.pair))) (Some Unsorted)
    (cond (nat_lt (count_limit limits) h.count) (Some TooManyCopies)
    (cond (nat_le (pairs_limit limits) (length hs)) (Some TooManyPairs) None))

of_pair : (limits : Limits) (header : List ℕ) (hs : Collection) (line : List ℕ) → All (HasCount header) hs → is_end line ≡ false
    → is_of_pair (place_below limits header hs line) ≡ true
of_pair limits header hs line counted no_end =
    and_from _ _ (and_from _ _ refl (not_from_false _ (not_over header hs counted))) (not_from_false _ no_end)

last_rows : (a b c x y z : Bool) → a ≡ x → b ≡ y → c ≡ z
    → ◌≡◌ {A = Option DumpFault} (cond a (Some Unsorted) (cond b (Some TooManyCopies) (cond c (Some TooManyPairs) None)))
    (cond x (Some Unsorted) (cond y (Some TooManyCopies) (cond z (Some TooManyPairs) None)))
last_rows a b c x y z ax by cz = rw (ax, by, cz) refl

pair_from : (text : List ℕ) (c : CellId) (l : Label) → cell_written (part 0 text) ≡ Some c → label_written (part 1 text) ≡ Some l
    → pair_written text ≡ Some (record { cell = c; label = l })
unfolding pair_written
pair_from text c l x y = rw (x, y) refl

count_from_part : (most : ℕ) (text : List ℕ) (m : ℕ) → count_written most (part 2 text) ≡ Some m → count_of_line most text ≡ m
unfolding count_of_line
count_from_part most text m x = ap (λ o. unwrap_or o 0) x

at_parts : (limits : Limits) (header : List ℕ) (hs : Collection) (line : List ℕ) (three : Bool) (cell : Option CellId)
    (label : Option Label) (count : Option ℕ)
    → All (HasCount header) hs → is_end line ≡ false
    → has_parts 3 line ≡ three → cell_written (part 0 line) ≡ cell → label_written (part 1 line) ≡ label
    → count_written (greatest_count header) (part 2 line) ≡ count
    → pair_faults (is_due (place_below limits header hs line)) ≡ next_fault limits hs
    (cond three (held_of_parts cell label count) (Err BadLine))
unfolding is_due next_fault
at_parts limits header hs line false cell label count counted no_end a b c d =
    let of = of_pair limits header hs line counted no_end in
    cond-true (is_due (place_below limits header hs line) BadLine) _ _ (applies _ _ _ of (ap not a))
at_parts limits header hs line true None label count counted no_end a b c d =
    let of = of_pair limits header hs line counted no_end in
    cond-false (is_due (place_below limits header hs line) BadLine) _ _ (applies _ _ _ of (ap not a))
    ∙ cond-true (is_due (place_below limits header hs line) BadToken) _ _ (applies _ _ _ of (ap is_none b))
at_parts limits header hs line true (Some cell) None count counted no_end a b c d =
    let of = of_pair limits header hs line counted no_end in
    cond-false (is_due (place_below limits header hs line) BadLine) _ _ (applies _ _ _ of (ap not a))
    ∙ cond-false (is_due (place_below limits header hs line) BadToken) _ _ (applies _ _ _ of (ap is_none b))
    ∙ cond-true (is_due (place_below limits header hs line) BadLabel) _ _ (applies _ _ _ of (ap is_none c))
at_parts limits header hs line true (Some cell) (Some label) None counted no_end a b c d =
    let of = of_pair limits header hs line counted no_end in
    cond-false (is_due (place_below limits header hs line) BadLine) _ _ (applies _ _ _ of (ap not a))
    ∙ cond-false (is_due (place_below limits header hs line) BadToken) _ _ (applies _ _ _ of (ap is_none b))
    ∙ cond-false (is_due (place_below limits header hs line) BadLabel) _ _ (applies _ _ _ of (ap is_none c))
    ∙ cond-true (is_due (place_below limits header hs line) BadCount) _ _ (applies _ _ _ of (ap is_none d))
at_parts limits header hs line true (Some cell) (Some label) (Some n) counted no_end a b c d =
    let of = of_pair limits header hs line counted no_end in
    let pair = pair_from line cell label b c in
    let count = count_from_part (greatest_count header) line n d in
    cond-false (is_due (place_below limits header hs line) BadLine) _ _ (applies _ _ _ of (ap not a))
    ∙ cond-false (is_due (place_below limits header hs line) BadToken) _ _ (applies _ _ _ of (ap is_none b))
    ∙ cond-false (is_due (place_below limits header hs line) BadLabel) _ _ (applies _ _ _ of (ap is_none c))
    ∙ cond-false (is_due (place_below limits header hs line) BadCount) _ _ (applies _ _ _ of (ap is_none d))
    ∙ last_rows _ _ _ _ _ _
    (applies _ _ _ of (ap (λ p. not (comes_before p (pair_written line))) (last_is header hs counted)
    ∙ ap (λ p. not (comes_before (last_pair hs) p)) pair))
    (applies _ _ _ of (ap (λ m. nat_lt (count_limit limits) m) count))
    (applies _ _ _ of (ap (λ m. nat_le (pairs_limit limits) m) (length-map hs line_text)))

-- the fault of a line that is to write a pair
pub pair_row : (limits : Limits) (header : List ℕ) (hs : Collection) (line : List ℕ) → IsDumped limits header hs → is_end line ≡ false
    → line_fault (place_below limits header hs line) ≡ next_fault limits hs (held_written (greatest_count header) line)
unfolding line_fault is_due held_written
pair_row limits header hs line is no_end =
    let counted = counts_are limits header hs is in
    find_pair (is_due (place_below limits header hs line))
    (and_right _ _ refl)
    refl
    (and_left _ _ (and_right _ _ no_end))
    (and_left _ _ (not_over header hs counted))
    ∙ at_parts limits header hs line (has_parts 3 line) (cell_written (part 0 line)) (label_written (part 1 line))
    (count_written (greatest_count header) (part 2 line)) counted no_end refl refl refl refl

-- ---- the next held pair

three_list : (ps : List (List ℕ)) → length ps ≡ 3 → ps ≡ slice_index_or ps 0 [] ∷ slice_index_or ps 1 [] ∷ slice_index_or ps 2 [] ∷ []
three_list [] long = absurd (omega arith)
three_list (a ∷ []) long = absurd (omega arith)
three_list (a ∷ (b ∷ [])) long = absurd (omega arith)
three_list (a ∷ (b ∷ (c ∷ []))) long = refl
three_list (a ∷ (b ∷ (c ∷ (d ∷ ps)))) long = absurd (omega arith)

written_at : (header : List ℕ) (line : List ℕ) (h : Held) (three : Bool) (cell : Option CellId) (label : Option Label) (count : Option ℕ)
    → has_parts 3 line ≡ three → cell_written (part 0 line) ≡ cell → label_written (part 1 line) ≡ label
    → count_written (greatest_count header) (part 2 line) ≡ count
    → cond three (held_of_parts cell label count) (Err BadLine) ≡ Ok h → (line ≡ line_text h) × HasCount header h
written_at header line h false cell label count a b c d is = cc
written_at header line h true None label count a b c d is = cc
written_at header line h true (Some cell) None count a b c d is = cc
written_at header line h true (Some cell) (Some label) None a b c d is = cc
written_at header line h true (Some cell) (Some label) (Some n) a b c d is =
    let same : record { pair = record { cell = cell; label = label }; count = n } ≡ h = cc in
    let long : length (parts_of line) ≡ 3 = eqb-true _ _ (and_parts (length (parts_of line) == 3) _ a).0 in
    let counts = written_count (greatest_count header) (part 2 line) n d in
    let made : Held = record { pair = record { cell = cell; label = label }; count = n } in
    subst (λ (k : Held). (line ≡ line_text k) × HasCount header k) same (
      written_held (greatest_count header) line (part 0 line) (part 1 line) (part 2 line) made (three_list (parts_of line) long) b c d,
      (counts.1, counts.2),
    )

pub line_from_held : (header : List ℕ) (line : List ℕ) (h : Held) → held_written (greatest_count header) line ≡ Ok h
    → (line ≡ line_text h) × HasCount header h
unfolding held_written
line_from_held header line h is =
    written_at header line h (has_parts 3 line) (cell_written (part 0 line)) (label_written (part 1 line))
    (count_written (greatest_count header) (part 2 line)) refl refl refl refl is

pub next_is : (limits : Limits) (header : List ℕ) (hs : Collection) (line : List ℕ) (h : Held) → IsDumped limits header hs
    → is_end line ≡ false → held_written (greatest_count header) line ≡ Ok h
    → comes_before (last_pair hs) (Some h.pair) ≡ true → h.count ≤ count_limit limits → length hs < pairs_limit limits
    → IsNext limits header hs line h
unfolding next_fault
next_is limits header hs line h is no_end writes before small within_limit =
    let own = line_from_held header line h writes in
    record {
      text = own.0;
      dumped = dumped_more limits header hs h is own.1 before small within_limit;
      sound =
          pair_row limits header hs line is no_end ∙ ap (next_fault limits hs) writes
          ∙ cond-false _ _ _ (ap not before)
          ∙ cond-false _ _ _ (le-ltb (count_limit limits) h.count small)
          ∙ cond-false _ _ _ (lt-leb (pairs_limit limits) (length hs) within_limit);
    }

-- ---- the end line

pub end_row : (limits : Limits) (header : List ℕ) (hs : Collection) (line : List ℕ) → IsDumped limits header hs → is_end line ≡ true
    → line_fault (place_below limits header hs line) ≡ cond (not (bytes_eq line (end_text (length hs) (copies_in hs)))) (Some BadEnd) None
unfolding line_fault is_due
end_row limits header hs line is end =
    let counted = counts_are limits header hs is in
    let p = place_below limits header hs line in
    let t = is_due p in
    let other : is_of_pair p ≡ false = and_right _ _ (ap not end) in
    let over = not_over header hs counted in
    let inner : is_inner p ≡ true = and_from _ _ refl (not_from_false _ over) in
    no_pair_fault t (and_left _ _ other) (and_left _ _ other) (and_left _ _ other) (and_left _ _ other) (and_left _ _ other)
    (and_left _ _ other) (and_left _ _ other)
    ∙ cond-false (t Truncated) _ _ (and_right (not (is_over p)) false refl)
    ∙ cond-false (t BadHeader) (Some BadHeader) _ refl
    ∙ end_rows (t BadEnd) (not (bytes_eq line (end_text (length hs) (copies_in hs)))) (t TrailingBytes)
    (applies _ _ _ (and_from _ _ inner end)
    (ap (λ m. not (bytes_eq line (end_text m (copies_above p)))) (length-map hs line_text)
    ∙ ap (λ m. not (bytes_eq line (end_text (length hs) m))) (copies_are header hs counted)))
    (and_left _ _ over)
  where
    end_rows : (a b c : Bool) → a ≡ b → c ≡ false
        → ◌≡◌ {A = Option DumpFault} (cond a (Some BadEnd) (cond c (Some TrailingBytes) None)) (cond b (Some BadEnd) None)
    end_rows a b c same none = rw (same, none) refl

-- ---- after the end line

pub after_row : (p : LineAt) → is_first p ≡ false → is_over p ≡ true
    → line_fault p ≡ cond (p.ended || not (is_nil p.line)) (Some TrailingBytes) None
unfolding line_fault is_due
after_row p first over =
    let t = is_due p in
    let inner : is_inner p ≡ false = and_right _ _ (ap not over) in
    let other : is_of_pair p ≡ false = and_left _ _ inner in
    no_pair_fault t (and_left _ _ other) (and_left _ _ other) (and_left _ _ other) (and_left _ _ other) (and_left _ _ other)
    (and_left _ _ other) (and_left _ _ other)
    ∙ cond-false (t Truncated) _ _ (and_left _ _ (ap not over))
    ∙ cond-false (t BadHeader) _ _ (and_left _ _ first)
    ∙ cond-false (t BadEnd) _ _ (and_left _ _ (and_left _ _ inner))
    ∙ ap (λ b. cond b (Some TrailingBytes) None) (applies _ _ _ over refl)

pub over_after : (hs : Collection) (line : List ℕ) → is_end line ≡ true → list_any is_end (map line_text hs ++ line ∷ []) ≡ true
over_after hs line end = list_any-append is_end (map line_text hs) (line ∷ []) ∙ or_right _ _ (or_left _ _ end)

-- ---- a line without a line feed, where one is wanted

pub truncated_row : (p : LineAt) → is_over p ≡ false → p.ended ≡ false → line_fault p ≡ Some Truncated
unfolding line_fault is_due
truncated_row p over ended = cond-true (is_due p Truncated) _ _ (and_from _ _ (ap not over) (ap not ended))

-- ---- the header

pub header_row : (limits : Limits) (line : List ℕ)
    → line_fault (record { limits = limits; above = []; line = line; ended = true })
    ≡ cond (is_none (dump_version line)) (Some BadHeader) None
unfolding line_fault is_due
header_row limits line = refl

-- ---- the faults of a line of a pair that the code finds one after the other

pub held_fault : (limits : Limits) (header : List ℕ) (hs : Collection) (line : List ℕ) (fault : DumpFault) → IsDumped limits header hs
    → is_end line ≡ false → held_written (greatest_count header) line ≡ Err fault
    → line_fault (place_below limits header hs line) ≡ Some fault
unfolding next_fault
held_fault limits header hs line fault is no_end writes = pair_row limits header hs line is no_end ∙ ap (next_fault limits hs) writes

pub unsorted_fault : (limits : Limits) (header : List ℕ) (hs : Collection) (line : List ℕ) (h : Held) → IsDumped limits header hs
    → is_end line ≡ false → held_written (greatest_count header) line ≡ Ok h → comes_before (last_pair hs) (Some h.pair) ≡ false
    → line_fault (place_below limits header hs line) ≡ Some Unsorted
unfolding next_fault
unsorted_fault limits header hs line h is no_end writes after =
    pair_row limits header hs line is no_end ∙ ap (next_fault limits hs) writes ∙ cond-true _ _ _ (ap not after)

pub copies_fault : (limits : Limits) (header : List ℕ) (hs : Collection) (line : List ℕ) (h : Held) → IsDumped limits header hs
    → is_end line ≡ false → held_written (greatest_count header) line ≡ Ok h → comes_before (last_pair hs) (Some h.pair) ≡ true
    → count_limit limits < h.count → line_fault (place_below limits header hs line) ≡ Some TooManyCopies
unfolding next_fault
copies_fault limits header hs line h is no_end writes before many =
    pair_row limits header hs line is no_end ∙ ap (next_fault limits hs) writes ∙ cond-false _ _ _ (ap not before)
    ∙ cond-true _ _ _ (lt-ltb (count_limit limits) h.count many)

pub pairs_fault : (limits : Limits) (header : List ℕ) (hs : Collection) (line : List ℕ) (h : Held) → IsDumped limits header hs
    → is_end line ≡ false → held_written (greatest_count header) line ≡ Ok h → comes_before (last_pair hs) (Some h.pair) ≡ true
    → h.count ≤ count_limit limits → pairs_limit limits ≤ length hs → line_fault (place_below limits header hs line) ≡ Some TooManyPairs
unfolding next_fault
pairs_fault limits header hs line h is no_end writes before small full =
    pair_row limits header hs line is no_end ∙ ap (next_fault limits hs) writes ∙ cond-false _ _ _ (ap not before)
    ∙ cond-false _ _ _ (le-ltb (count_limit limits) h.count small)
    ∙ cond-true _ _ _ (le-leb (pairs_limit limits) (length hs) full)
