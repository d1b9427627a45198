-- The fault of a line, by the table: inside a group, outside, and after the end line.
use Rattle.std.proofs.Common.{◌≡◌, ◌==◌, ℕ, suc, Bool, true, false, not, ◌&&◌, ◌||◌, cond, Option, Some, None, Ok, Err, List, [], refl, ap, ◌∙◌, arith}
use Rattle.std.specs.Prelude.{is_none, nat_le, nat_lt, slice_index_or}
use Rattle.std.specs.Option.{unwrap_or}
use Rattle.std.specs.Result.{result_err}
use Rattle.std.specs.Str.{bytes_eq}
use Rattle.std.proofs.lemmas.Bool.{and_from, and_left, and_right, cond-true, ne_eqb, not_from_false}
use Rattle.s2id_core.specs.declared.cell_id.CellId.{CellId}
use Rattle.s2ix_bag_pairs.specs.Limits.{changes_limit, count_limit}
use Rattle.s2ix_bag_pairs.specs.declared.label.Label.{Label}
use Rattle.s2ix_bag_pairs.specs.declared.limits.Limits.{Limits}
use Rattle.s2ix_bag_pairs.specs.declared.pair.Entry.{Entry}
use Rattle.s2ix_bag_pairs.specs.declared.pair.Pair.{Pair}
use Rattle.s2ix_text_parts.specs.LineFaults.{LineAt}
use Rattle.s2ix_text_parts.specs.Lines.{has_parts, is_nil, part}
use Rattle.s2ix_text_parts.specs.Written.{cell_written, comes_before, label_written, pair_of_both, pair_written}
use Rattle.s2ix_text_write.specs.Version.{journal_version}
use Rattle.s2ix_text.specs.declared.journal_error.JournalFault.{JournalFault}
use Rattle.s2ix_text.specs.declared.journal_error.JournalFault.TheVariants.{Truncated, BadHeader, BadEnd, BadLine, BadToken, BadLabel, BadCount, NoDifference, Unsorted, TooManyCopies, TooManyChanges, TrailingBytes}
use Rattle.s2ix_text.specs.JournalFaults.{read_above, end_text, greatest_count, is_change, is_end, is_first, is_inner, is_of_entry, is_of_group, is_outside, is_over, line_fault, is_due}
use Rattle.s2ix_text.specs.JournalLines.{entry_after, entry_of_parts, entry_written, next_entry, next_size, size_after, size_of_part}
use Rattle.s2ix_text.specs.Numbers.{side_written, size_written}
use Rattle.s2ix_text_parts.proofs.FirstFault.{applies}

-- ---- what stands above

-- lines that end with a whole group, the header among them, which allows counts up to `most`
pub record IsBetween (most : ℕ) (above : List (List ℕ)) (groups : ℕ) : Type 0 where
  pub some : is_nil above ≡ false
  pub greatest : greatest_count (slice_index_or above 0 []) ≡ most
  pub wanted : (read_above above).wanted ≡ 0
  pub number : (read_above above).groups ≡ groups
  pub over : (read_above above).over ≡ false

-- lines that end inside a group, or with its last line
pub record IsInside (most : ℕ) (above : List (List ℕ)) (left : ℕ) (last : Option Pair) (groups : ℕ) : Type 0 where
  pub some : is_nil above ≡ false
  pub greatest : greatest_count (slice_index_or above 0 []) ≡ most
  pub wanted : (read_above above).wanted ≡ left
  pub pair : (read_above above).last ≡ last
  pub number : (read_above above).groups ≡ groups
  pub over : (read_above above).over ≡ false

-- the place of a line below them, with its line feed
abbrev pub place_below : Limits → List (List ℕ) → List ℕ → LineAt
place_below limits above line = record { limits = limits; above = above; line = line; ended = true }

-- ---- the first of the faults

abbrev first_of : Bool → Bool → Bool → Bool → Bool → Bool → Bool → Bool → Bool → Bool → Bool → Bool → Option JournalFault
first_of a b c d e f g h i j k l =
    cond a (Some Truncated)
    (cond b (Some BadHeader) (cond c (Some BadEnd) (cond d (Some BadLine) (cond e (Some BadToken) (cond f (Some BadLabel)
    (cond g (Some BadCount) (cond h (Some NoDifference) (cond i (Some Unsorted) (cond j (Some TooManyCopies) (cond k (Some TooManyChanges)
    (cond l (Some TrailingBytes) None)))))))))))

first_fault : (p : LineAt)
    → line_fault p
    ≡ first_of (is_due p Truncated) (is_due p BadHeader) (is_due p BadEnd) (is_due p BadLine) (is_due p BadToken) (is_due p BadLabel)
    (is_due p BadCount) (is_due p NoDifference) (is_due p Unsorted) (is_due p TooManyCopies) (is_due p TooManyChanges)
    (is_due p TrailingBytes)
unfolding line_fault
first_fault p = refl

same_first : (a b c d e f g h i j k l A B C D E F G H I J K L : Bool) → a ≡ A → b ≡ B → c ≡ C → d ≡ D → e ≡ E → f ≡ F → g ≡ G → h ≡ H
    → i ≡ I → j ≡ J → k ≡ K → l ≡ L
    → first_of a b c d e f g h i j k l ≡ first_of A B C D E F G H I J K L
same_first a b c d e f g h i j k l A B C D E F G H I J K L ra rb rc rd re rf rg rh ri rj rk rl =
    rw (ra, rb, rc, rd, re, rf, rg, rh, ri, rj, rk, rl) refl

-- of two tests the one that applies, or neither
first_applies : (a b x y : Bool) → a ≡ true → b ≡ false → ((a && x) || (b && y)) ≡ x
first_applies false b x y is isnt = cc
first_applies true true x y is isnt = cc
first_applies true false true y is isnt = refl
first_applies true false false y is isnt = refl

second_applies : (a b x y : Bool) → a ≡ false → b ≡ true → ((a && x) || (b && y)) ≡ y
second_applies a b x y isnt is = rw (isnt, is) refl

neither : (a b x y : Bool) → a ≡ false → b ≡ false → ((a && x) || (b && y)) ≡ false
neither a b x y is_a is_b = rw (is_a, is_b) refl

-- ---- inside a group

three_tests : (x y z : Bool) (e : Entry)
    → cond x (Some NoDifference) (cond (not y) (Some Unsorted) (cond z (Some TooManyCopies) None))
    ≡ result_err (cond x (Err NoDifference) (cond (not y) (Err Unsorted) (cond z (Err TooManyCopies) (Ok e))))
three_tests true y z e = refl
three_tests false false z e = refl
three_tests false true true e = refl
three_tests false true false e = refl

at_entry : (limits : Limits) (last : Option Pair) (four : Bool) (cell : Option CellId) (label : Option Label) (before after : Option ℕ)
    → first_of false false false (not four) (is_none cell) (is_none label) (is_none before || is_none after)
    (unwrap_or before 0 == unwrap_or after 0) (not (comes_before last (pair_of_both cell label)))
    (nat_lt (count_limit limits) (unwrap_or before 0) || nat_lt (count_limit limits) (unwrap_or after 0)) false false
    ≡ result_err (entry_after limits last (cond four (entry_of_parts cell label before after) (Err BadLine)))
at_entry limits last false cell label before after = refl
at_entry limits last true None label before after = refl
at_entry limits last true (Some cell) None before after = refl
at_entry limits last true (Some cell) (Some label) None after = refl
at_entry limits last true (Some cell) (Some label) (Some m) None = refl
at_entry limits last true (Some cell) (Some label) (Some m) (Some n) =
    three_tests (m == n) (comes_before last (Some (record { cell = cell; label = label })))
    (nat_lt (count_limit limits) m || nat_lt (count_limit limits) n)
    (record { pair = record { cell = cell; label = label }; before = m; after = n })

pub entry_row : (most : ℕ) (limits : Limits) (above : List (List ℕ)) (line : List ℕ) (left : ℕ) (last : Option Pair) (groups : ℕ)
    → IsInside most above (suc left) last groups
    → line_fault (place_below limits above line) ≡ result_err (next_entry most limits last line)
unfolding is_due next_entry entry_written pair_written
entry_row most limits above line left last groups is =
    let own = greatest_count (slice_index_or above 0 []) in
    let p = place_below limits above line in
    let inner : is_inner p ≡ true = and_from _ _ (not_from_false _ is.some) (not_from_false _ is.over) in
    let wanted : ((read_above above).wanted == 0) ≡ false = ap (λ n. n == 0) is.wanted ∙ ne_eqb (suc left) 0 (λ same. omega (arith, same)) in
    let entry : is_of_entry p ≡ true = and_from _ _ inner (not_from_false _ wanted) in
    let outside : is_outside p ≡ false = and_right _ _ wanted in
    let group : is_of_group p ≡ false = and_left _ _ outside in
    first_fault p
    ∙ same_first _ _ _ _ _ _ _ _ _ _ _ _ _ _ _ _ _ _ _ _ _ _ _ _
    (and_right _ _ refl)
    (and_left _ _ is.some)
    (and_left _ _ (and_left _ _ outside))
    (second_applies _ _ _ _ group entry)
    (applies _ _ _ entry refl)
    (applies _ _ _ entry refl)
    (second_applies _ _ _ _ group entry)
    (applies _ _ _ entry refl)
    (applies _ _ _ entry (ap (λ (o : Option Pair). not (comes_before o (pair_written line))) is.pair))
    (applies _ _ _ entry refl)
    (and_left _ _ group)
    (and_left _ _ is.over)
    ∙ at_entry limits last (has_parts 4 line) (cell_written (part 0 line)) (label_written (part 1 line)) (side_written own (part 2 line))
    (side_written own (part 3 line))
    ∙ ap (λ (n : ℕ). result_err (next_entry n limits last line)) is.greatest

-- ---- outside groups

one_test : (x : Bool) (n : ℕ) → cond x (Some TooManyChanges) None ≡ result_err (cond x (Err TooManyChanges) (Ok n))
one_test true n = refl
one_test false n = refl

at_change : (limits : Limits) (groups : ℕ) (change : Bool) (size : Option ℕ)
    → first_of false false false (not change) false false (is_none size) false false false (nat_le (changes_limit limits) groups) false
    ≡ result_err (size_after limits groups (cond change (size_of_part size) (Err BadLine)))
at_change limits groups false size = refl
at_change limits groups true None = refl
at_change limits groups true (Some n) = one_test (nat_le (changes_limit limits) groups) n

pub group_row : (most : ℕ) (limits : Limits) (above : List (List ℕ)) (line : List ℕ) (groups : ℕ) → IsBetween most above groups
    → is_end line ≡ false
    → line_fault (place_below limits above line) ≡ result_err (next_size limits groups line)
unfolding is_due next_size
group_row most limits above line groups is no_end =
    let p = place_below limits above line in
    let inner : is_inner p ≡ true = and_from _ _ (not_from_false _ is.some) (not_from_false _ is.over) in
    let wanted : ((read_above above).wanted == 0) ≡ true = ap (λ n. n == 0) is.wanted in
    let entry : is_of_entry p ≡ false = and_right _ _ (ap not wanted) in
    let group : is_of_group p ≡ true = and_from _ _ (and_from _ _ inner wanted) (not_from_false _ no_end) in
    first_fault p
    ∙ same_first _ _ _ _ _ _ _ _ _ _ _ _ _ _ _ _ _ _ _ _ _ _ _ _
    (and_right _ _ refl)
    (and_left _ _ is.some)
    (and_left _ _ (and_right _ _ no_end))
    (first_applies _ _ _ _ group entry)
    (and_left _ _ entry)
    (and_left _ _ entry)
    (first_applies _ _ _ _ group entry)
    (and_left _ _ entry)
    (and_left _ _ entry)
    (and_left _ _ entry)
    (applies _ _ _ group (ap (λ n. nat_le (changes_limit limits) n) is.number))
    (and_left _ _ is.over)
    ∙ at_change limits groups (is_change line) (size_written (part 1 line))

pub end_row : (most : ℕ) (limits : Limits) (above : List (List ℕ)) (line : List ℕ) (groups : ℕ) → IsBetween most above groups
    → is_end line ≡ true
    → line_fault (place_below limits above line) ≡ cond (not (bytes_eq line (end_text groups))) (Some BadEnd) None
unfolding is_due
end_row most limits above line groups is end =
    let p = place_below limits above line in
    let inner : is_inner p ≡ true = and_from _ _ (not_from_false _ is.some) (not_from_false _ is.over) in
    let wanted : ((read_above above).wanted == 0) ≡ true = ap (λ n. n == 0) is.wanted in
    let entry : is_of_entry p ≡ false = and_right _ _ (ap not wanted) in
    let group : is_of_group p ≡ false = and_right _ _ (ap not end) in
    first_fault p
    ∙ same_first _ _ _ _ _ _ _ _ _ _ _ _ false false (not (bytes_eq line (end_text groups))) false false false false false false false false
    false
    (and_right _ _ refl)
    (and_left _ _ is.some)
    (applies _ _ _ (and_from _ _ (and_from _ _ inner wanted) end) (ap (λ n. not (bytes_eq line (end_text n))) is.number))
    (neither _ _ _ _ group entry)
    (and_left _ _ entry)
    (and_left _ _ entry)
    (neither _ _ _ _ group entry)
    (and_left _ _ entry)
    (and_left _ _ entry)
    (and_left _ _ entry)
    (and_left _ _ group)
    (and_left _ _ is.over)

-- ---- after the end line

pub after_row : (p : LineAt) → is_first p ≡ false → is_over p ≡ true
    → line_fault p ≡ cond (p.ended || not (is_nil p.line)) (Some TrailingBytes) None
unfolding is_due
after_row p first over =
    let inner : is_inner p ≡ false = and_right _ _ (ap not over) in
    let entry : is_of_entry p ≡ false = and_left _ _ inner in
    let outside : is_outside p ≡ false = and_left _ _ inner in
    let group : is_of_group p ≡ false = and_left _ _ outside in
    first_fault p
    ∙ same_first _ _ _ _ _ _ _ _ _ _ _ _ false false false false false false false false false false false (p.ended || not (is_nil p.line))
    (and_left _ _ (ap not over))
    (and_left _ _ first)
    (and_left _ _ (and_left _ _ outside))
    (neither _ _ _ _ group entry)
    (and_left _ _ entry)
    (and_left _ _ entry)
    (neither _ _ _ _ group entry)
    (and_left _ _ entry)
    (and_left _ _ entry)
    (and_left _ _ entry)
    (and_left _ _ group)
    (applies _ _ _ over refl)

-- ---- a line without a line feed, where one is wanted, and the header

pub truncated_row : (p : LineAt) → is_over p ≡ false → p.ended ≡ false → line_fault p ≡ Some Truncated
unfolding line_fault is_due
truncated_row p over ended = cond-true (is_due p Truncated) _ _ (and_from _ _ (ap not over) (ap not ended))

pub header_row : (limits : Limits) (line : List ℕ)
    → line_fault (place_below limits [] line) ≡ cond (is_none (journal_version line)) (Some BadHeader) None
unfolding line_fault is_due read_above
header_row limits line = refl
