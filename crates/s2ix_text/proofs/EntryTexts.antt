-- The line of an entry: how it is cut, and what it writes.
use Rattle.std.proofs.Common.{◌≡◌, ℕ, ◌^◌, ◌<◌, Bool, true, false, cond, Option, Some, None, Ok, Err, List, [], ◌∷◌, ◌++◌, refl, ap, ◌∙◌, subst, arith, append_assoc}
use Rattle.std.specs.Prelude.{decimal, slice_index_or}
use Rattle.std.proofs.lemmas.Bool.{cond-true, cond-false}
use Rattle.std.proofs.lemmas.Fmt.{decimal_nonempty}
use Rattle.s2id_core.specs.CellId.{raw_of}
use Rattle.s2id_core.specs.Token.{canonical_token}
use Rattle.s2id_core.specs.declared.cell_id.CellId.{CellId}
use Rattle.s2ix_bag_pairs.specs.Label.{value_of}
use Rattle.s2ix_bag_pairs.specs.declared.label.Label.{Label}
use Rattle.s2ix_bag_pairs.specs.declared.pair.Entry.{Entry}
use Rattle.s2ix_text_write.specs.Journal.{entry_line}
use Rattle.s2ix_text_write.proofs.Journals.{decimal_graphic, token_graphic}
use Rattle.s2ix_text_parts.specs.Lines.{has_parts, part, parts_of}
use Rattle.s2ix_text_parts.specs.Written.{cell_written, label_written, pair_of_both, pair_written}
use Rattle.s2ix_text_parts.proofs.Numerals.{cell_of_token, label_of_digits, small_label, token_some, written_cell, written_label}
use Rattle.s2ix_text_parts.proofs.PartCounts.{four_are, four_from_parts, four_joined, graphic_lacks, lacks_feed_more, parts_last, parts_more}
use Rattle.s2ix_text_parts.proofs.Pieces.{Lacks, is_some_text}
use Rattle.s2ix_text.specs.declared.journal_error.JournalFault.TheVariants.{BadLine}
use Rattle.s2ix_text.specs.JournalLines.{entry_of_parts, entry_text, entry_written}
use Rattle.s2ix_text.specs.Journals.{HasSides}
use Rattle.s2ix_text.specs.Numbers.{side_written}
use Rattle.s2ix_text.proofs.NumberTexts.{side_of_digits, written_side}

pub line_with_feed : (e : Entry) → entry_line e ≡ entry_text e ++ 10 ∷ []
unfolding entry_line entry_text
line_with_feed e = simp append_assoc

pub entry_parts : (most : ℕ) → most < 2 ^ 32 → (e : Entry) → HasSides most e
    → parts_of (entry_text e)
    ≡ canonical_token (raw_of e.pair.cell) ∷ decimal (value_of e.pair.label) ∷ decimal e.before ∷ decimal e.after ∷ []
unfolding entry_text
entry_parts most bounded e sides =
    parts_more (canonical_token (raw_of e.pair.cell)) _ (token_graphic (raw_of e.pair.cell))
    ∙ ap (λ (ps : List (List ℕ)). canonical_token (raw_of e.pair.cell) ∷ ps)
    (parts_more (decimal (value_of e.pair.label)) _ (decimal_graphic _ (small_label e.pair.label))
    ∙ ap (λ (ps : List (List ℕ)). decimal (value_of e.pair.label) ∷ ps)
    (parts_more (decimal e.before) _ (decimal_graphic e.before (omega (arith, sides.0)))
    ∙ ap (λ (ps : List (List ℕ)). decimal e.before ∷ ps) (parts_last (decimal e.after) (decimal_graphic e.after (omega (arith, sides.1))))))

pub entry_lacks_feed : (most : ℕ) → most < 2 ^ 32 → (e : Entry) → HasSides most e → Lacks 10 (entry_text e)
unfolding entry_text
entry_lacks_feed most bounded e sides =
    lacks_feed_more (canonical_token (raw_of e.pair.cell)) _ (token_graphic (raw_of e.pair.cell))
    (lacks_feed_more (decimal (value_of e.pair.label)) _ (decimal_graphic _ (small_label e.pair.label))
    (lacks_feed_more (decimal e.before) _ (decimal_graphic e.before (omega (arith, sides.0)))
    (graphic_lacks 10 (decimal e.after) (omega arith) (decimal_graphic e.after (omega (arith, sides.1))))))

entry_has_parts : (most : ℕ) → most < 2 ^ 32 → (e : Entry) → HasSides most e → has_parts 4 (entry_text e) ≡ true
entry_has_parts most bounded e sides =
    four_from_parts (entry_text e) _ _ _ _ (entry_parts most bounded e sides) (token_some e.pair.cell)
    (is_some_text _ (decimal_nonempty _ (small_label e.pair.label)))
    (is_some_text _ (decimal_nonempty e.before (omega (arith, sides.0))))
    (is_some_text _ (decimal_nonempty e.after (omega (arith, sides.1))))

-- what a line writes, from its parts
pub entry_by : (most : ℕ) (line a b c d : List ℕ) (cell : Option CellId) (label : Option Label) (before after : Option ℕ)
    → has_parts 4 line ≡ true → parts_of line ≡ a ∷ b ∷ c ∷ d ∷ []
    → cell_written a ≡ cell → label_written b ≡ label → side_written most c ≡ before → side_written most d ≡ after
    → entry_written most line ≡ entry_of_parts cell label before after
unfolding entry_written
entry_by most line a b c d cell label before after four are x y z w =
    cond-true (has_parts 4 line) _ _ four
    ∙ ap (λ (ps : List (List ℕ)). entry_of_parts (cell_written (slice_index_or ps 0 [])) (label_written (slice_index_or ps 1 []))
    (side_written most (slice_index_or ps 2 [])) (side_written most (slice_index_or ps 3 []))) are
    ∙ rw (x, y, z, w) refl

pub entry_unless : (most : ℕ) (line : List ℕ) → has_parts 4 line ≡ false → entry_written most line ≡ Err BadLine
unfolding entry_written
entry_unless most line four = cond-false (has_parts 4 line) _ _ four

pub entry_of_text : (most : ℕ) → most < 2 ^ 32 → (e : Entry) → HasSides most e → entry_written most (entry_text e) ≡ Ok e
entry_of_text most bounded e sides =
    entry_by most (entry_text e) _ _ _ _ (Some e.pair.cell) (Some e.pair.label) (Some e.before) (Some e.after)
    (entry_has_parts most bounded e sides) (entry_parts most bounded e sides)
    (cell_of_token e.pair.cell) (label_of_digits e.pair.label) (side_of_digits most bounded e.before sides.0)
    (side_of_digits most bounded e.after sides.1)

pub pair_of_text : (most : ℕ) → most < 2 ^ 32 → (e : Entry) → HasSides most e → pair_written (entry_text e) ≡ Some e.pair
unfolding pair_written
pair_of_text most bounded e sides =
    ap (λ (ps : List (List ℕ)). pair_of_both (cell_written (slice_index_or ps 0 [])) (label_written (slice_index_or ps 1 [])))
    (entry_parts most bounded e sides)
    ∙ rw (cell_of_token e.pair.cell, label_of_digits e.pair.label) refl

-- and no other line writes it

text_from_parts : (most : ℕ) (line a b c d : List ℕ) (e : Entry) → parts_of line ≡ a ∷ b ∷ c ∷ d ∷ [] → cell_written a ≡ Some e.pair.cell
    → label_written b ≡ Some e.pair.label → side_written most c ≡ Some e.before → side_written most d ≡ Some e.after
    → line ≡ entry_text e
unfolding entry_text
text_from_parts most line a b c d e are cell label before after =
    four_joined line a b c d are
    ∙ rw (
      written_cell a e.pair.cell cell,
      written_label b e.pair.label label,
      (written_side most c e.before before).0,
      (written_side most d e.after after).0,
    ) refl

written_at : (most : ℕ) (line : List ℕ) (e : Entry) (four : Bool) (cell : Option CellId) (label : Option Label) (before after : Option ℕ)
    → has_parts 4 line ≡ four → cell_written (part 0 line) ≡ cell → label_written (part 1 line) ≡ label
    → side_written most (part 2 line) ≡ before → side_written most (part 3 line) ≡ after
    → cond four (entry_of_parts cell label before after) (Err BadLine) ≡ Ok e → (line ≡ entry_text e) × HasSides most e
written_at most line e false cell label before after a b c d f is = cc
written_at most line e true None label before after a b c d f is = cc
written_at most line e true (Some cell) None before after a b c d f is = cc
written_at most line e true (Some cell) (Some label) None after a b c d f is = cc
written_at most line e true (Some cell) (Some label) (Some m) None a b c d f is = cc
written_at most line e true (Some cell) (Some label) (Some m) (Some n) a b c d f is =
    let same : record { pair = record { cell = cell; label = label }; before = m; after = n } ≡ e = cc in
    let made : Entry = record { pair = record { cell = cell; label = label }; before = m; after = n } in
    subst (λ (k : Entry). (line ≡ entry_text k) × HasSides most k) same (
      text_from_parts most line (part 0 line) (part 1 line) (part 2 line) (part 3 line) made (four_are line a) b c d f,
      ((written_side most (part 2 line) m d).1, (written_side most (part 3 line) n f).1),
    )

pub line_from_entry : (most : ℕ) (line : List ℕ) (e : Entry) → entry_written most line ≡ Ok e → (line ≡ entry_text e) × HasSides most e
unfolding entry_written
line_from_entry most line e is =
    written_at most line e (has_parts 4 line) (cell_written (part 0 line)) (label_written (part 1 line)) (side_written most (part 2 line))
    (side_written most (part 3 line)) refl refl refl refl refl is

-- the pair that a line writes
pub pair_from_entry : (most : ℕ) → most < 2 ^ 32 → (line : List ℕ) (e : Entry) → entry_written most line ≡ Ok e
    → pair_written line ≡ Some e.pair
pair_from_entry most bounded line e is =
    let own = line_from_entry most line e is in ap pair_written own.0 ∙ pair_of_text most bounded e own.1
