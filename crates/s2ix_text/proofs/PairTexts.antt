-- The line of a held pair, and the end line: how they are cut.
use Rattle.std.proofs.Common.{◌≡◌, ◌==◌, ℕ, ◌^◌, ◌<◌, ◌≤◌, Bool, true, false, ◌&&◌, Option, Some, Result, Ok, Err, List, [], ◌∷◌, ◌++◌, All, length, refl, sym, ap, ◌∙◌, subst, arith, append_assoc}
use Rattle.std.specs.Prelude.{codes, decimal, slice_index_or}
use Rattle.std.specs.Bool.{Decides}
use Rattle.std.specs.Str.{bytes_eq}
use Rattle.std.proofs.lemmas.Bool.{and_from, and_parts, cond-true, cond-false, false_from_ne_true}
use Rattle.std.proofs.lemmas.Fmt.{decimal_nonempty}
use Rattle.std.proofs.lemmas.List.Elements.{All-append, All-cons, All-head, All-nil, All-tail}
use Rattle.std.proofs.lemmas.Slice.Eq.{bytes_eq-Decides}
use Rattle.s2id_core.specs.CellId.{raw_of}
use Rattle.s2id_core.specs.Token.{IsLowerHex, canonical_token}
use Rattle.s2id_core.proofs.Canonical.{lower-canonical_token}
use Rattle.s2id_core.specs.declared.cell_id.CellId.{CellId}
use Rattle.s2ix_bag_pairs.specs.Collection.{Collection, copies_in}
use Rattle.s2ix_bag_pairs.specs.Label.{value_of}
use Rattle.s2ix_bag_pairs.specs.declared.label.Label.{Label}
use Rattle.s2ix_bag_pairs.specs.declared.pair.Held.{Held}
use Rattle.s2ix_text_write.specs.declared.version.Version.{Version}
use Rattle.s2ix_text_write.specs.Dump.{end_line, pair_line}
use Rattle.s2ix_text_write.specs.Version.{dump_header, dump_version, greatest_below, greatest_in}
use Rattle.s2ix_text_write.proofs.Journals.{IsGraphic, decimal_graphic, token_graphic}
use Rattle.s2ix_text_write.proofs.Versions.{greatest_below_fits, named_by_dump_header}
use Rattle.s2ix_text.specs.DumpFaults.{end_text, greatest_count, is_end}
use Rattle.s2ix_text_parts.specs.Lines.{has_parts, lines_of, parts_of}
use Rattle.s2ix_text.specs.PairLines.{IsCut, held_of_parts, held_written, line_text}
use Rattle.s2ix_text_parts.specs.Written.{cell_written, count_of_line, count_written, label_written, pair_of_both, pair_written}
use Rattle.s2ix_text.specs.declared.dump_error.DumpFault.{DumpFault}
use Rattle.s2ix_text.specs.declared.dump_error.DumpFault.TheVariants.{BadLine}
use Rattle.s2ix_text_parts.proofs.PartCounts.{graphic_lacks}
use Rattle.s2ix_text_parts.proofs.Pieces.{Lacks, is_some_text, lines_apart, parts_apart, parts_joined, three_from_parts}
use Rattle.s2ix_text_parts.proofs.Numerals.{cell_of_token, count_of_digits, label_of_digits, small_label, token_some, written_cell, written_count, written_label}

-- a count that a dump with this header writes
abbrev pub HasCount : List ℕ → Held → Type 0
HasCount header h = (1 ≤ h.count) × (h.count ≤ greatest_count header)

pub greatest_small : (header : List ℕ) → greatest_count header < 2 ^ 32
greatest_small header = greatest_below_fits (dump_version header)

pub greatest_known : (version : Version) → greatest_count (dump_header version) ≡ greatest_in version
greatest_known version = ap greatest_below (named_by_dump_header version)

-- ---- three parts

pub parts_of_three : (a b c : List ℕ) → All IsGraphic a → All IsGraphic b → All IsGraphic c
    → parts_of (a ++ 32 ∷ (b ++ 32 ∷ c)) ≡ a ∷ b ∷ c ∷ []
parts_of_three a b c ga gb gc =
    parts_apart a b c (graphic_lacks 32 a (omega arith) ga) (graphic_lacks 32 b (omega arith) gb) (graphic_lacks 32 c (omega arith) gc)

pub no_feed : (a b c : List ℕ) → All IsGraphic a → All IsGraphic b → All IsGraphic c → Lacks 10 (a ++ 32 ∷ (b ++ 32 ∷ c))
no_feed a b c ga gb gc =
    let Other : ℕ → Type 0 = λ byte. (byte == 10) ≡ false in
    All-append Other a (32 ∷ (b ++ 32 ∷ c)) (graphic_lacks 10 a (omega arith) ga)
    (All-cons Other 32 (b ++ 32 ∷ c) refl
    (All-append Other b (32 ∷ c) (graphic_lacks 10 b (omega arith) gb) (All-cons Other 32 c refl (graphic_lacks 10 c (omega arith) gc))))

-- ---- the line of a held pair

pub line_parts : (header : List ℕ) (h : Held) → HasCount header h
    → parts_of (line_text h) ≡ canonical_token (raw_of h.pair.cell) ∷ decimal (value_of h.pair.label) ∷ decimal h.count ∷ []
unfolding line_text
line_parts header h counted =
    parts_of_three _ _ _ (token_graphic (raw_of h.pair.cell)) (decimal_graphic _ (small_label h.pair.label))
    (decimal_graphic h.count (omega (arith, counted.1, greatest_small header)))

pub line_lacks_feed : (header : List ℕ) (h : Held) → HasCount header h → Lacks 10 (line_text h)
unfolding line_text
line_lacks_feed header h counted =
    no_feed _ _ _ (token_graphic (raw_of h.pair.cell)) (decimal_graphic _ (small_label h.pair.label))
    (decimal_graphic h.count (omega (arith, counted.1, greatest_small header)))

pub line_with_feed : (h : Held) → pair_line h ≡ line_text h ++ 10 ∷ []
unfolding pair_line line_text
line_with_feed h = simp append_assoc

pub line_has_parts : (header : List ℕ) (h : Held) → HasCount header h → has_parts 3 (line_text h) ≡ true
line_has_parts header h counted =
    three_from_parts (line_text h) _ _ _ (line_parts header h counted) (token_some h.pair.cell)
    (is_some_text _ (decimal_nonempty _ (small_label h.pair.label)))
    (is_some_text _ (decimal_nonempty h.count (omega (arith, counted.1, greatest_small header))))

-- that line, its line feed and more, cut
pub line_cut : (header : List ℕ) (h : Held) (text below : List ℕ) → HasCount header h → text ≡ line_text h ++ 10 ∷ below
    → IsCut text (line_text h) below
line_cut header h text below counted is =
    record { whole = is; lines = ap lines_of is ∙ lines_apart (line_text h) below (line_lacks_feed header h counted) }

-- what is read of a line with the greatest count of a version is what it writes below the header of that version
pub read_under : (version : Version) (line : List ℕ) (most : ℕ) (read : Result Held DumpFault) → most ≡ greatest_in version
    → read ≡ held_written most line → held_written (greatest_count (dump_header version)) line ≡ read
read_under version line most read is reads = ap (λ (m : ℕ). held_written m line) (greatest_known version ∙ sym is) ∙ sym reads

-- what a line writes, from its parts
pub held_from : (most : ℕ) (line a b c : List ℕ) → has_parts 3 line ≡ true → parts_of line ≡ a ∷ b ∷ c ∷ []
    → held_written most line ≡ held_of_parts (cell_written a) (label_written b) (count_written most c)
unfolding held_written
held_from most line a b c three are =
    cond-true (has_parts 3 line) _ _ three
    ∙ ap (λ (ps : List (List ℕ)). held_of_parts (cell_written (slice_index_or ps 0 [])) (label_written (slice_index_or ps 1 []))
    (count_written most (slice_index_or ps 2 []))) are

pub held_by : (most : ℕ) (line a b c : List ℕ) (cell : Option CellId) (label : Option Label) (count : Option ℕ) → has_parts 3 line ≡ true
    → parts_of line ≡ a ∷ b ∷ c ∷ [] → cell_written a ≡ cell → label_written b ≡ label → count_written most c ≡ count
    → held_written most line ≡ held_of_parts cell label count
held_by most line a b c cell label count three are x y z = held_from most line a b c three are ∙ rw (x, y, z) refl

pub held_unless : (most : ℕ) (line : List ℕ) → has_parts 3 line ≡ false → held_written most line ≡ Err BadLine
unfolding held_written
held_unless most line three = cond-false (has_parts 3 line) _ _ three

pub held_of_line : (header : List ℕ) (h : Held) → HasCount header h → held_written (greatest_count header) (line_text h) ≡ Ok h
held_of_line header h counted =
    held_from (greatest_count header) (line_text h) _ _ _ (line_has_parts header h counted) (line_parts header h counted)
    ∙ rw (
      cell_of_token h.pair.cell,
      label_of_digits h.pair.label,
      count_of_digits (greatest_count header) h.count (greatest_small header)
          counted.0 counted.1,
    ) refl

-- the pair and the count of that line
pub pair_of_line : (header : List ℕ) (h : Held) → HasCount header h → pair_written (line_text h) ≡ Some h.pair
unfolding pair_written
pair_of_line header h counted =
    ap (λ (ps : List (List ℕ)). pair_of_both (cell_written (slice_index_or ps 0 [])) (label_written (slice_index_or ps 1 [])))
    (line_parts header h counted)
    ∙ rw (cell_of_token h.pair.cell, label_of_digits h.pair.label) refl

pub count_of_text : (header : List ℕ) (h : Held) → HasCount header h → count_of_line (greatest_count header) (line_text h) ≡ h.count
unfolding count_of_line
count_of_text header h counted =
    rw (line_parts header h counted, count_of_digits (greatest_count header) h.count (greatest_small header) counted.0 counted.1) refl

-- and no other line writes it
pub written_held : (most : ℕ) (line a b c : List ℕ) (h : Held) → parts_of line ≡ a ∷ b ∷ c ∷ [] → cell_written a ≡ Some h.pair.cell
    → label_written b ≡ Some h.pair.label → count_written most c ≡ Some h.count → line ≡ line_text h
unfolding line_text
written_held most line a b c h are cell label count =
    parts_joined line a b c are
    ∙ rw (written_cell a h.pair.cell cell, written_label b h.pair.label label, (written_count most c h.count count).0) refl

-- no line of a held pair is an end line: a token has no letter n
pub line_is_no_end : (header : List ℕ) (h : Held) → HasCount header h → is_end (line_text h) ≡ false
line_is_no_end header h counted =
    let token = canonical_token (raw_of h.pair.cell) in
    ap (λ (ps : List (List ℕ)). bytes_eq (slice_index_or ps 0 []) (codes "end")) (line_parts header h counted)
    ∙ false_from_ne_true (bytes_eq token (codes "end"))
    (λ same.
    let is : token ≡ 101 ∷ 110 ∷ 100 ∷ [] = (bytes_eq-Decides token (codes "end")).0 same in
    let lower = subst (λ (digits : List ℕ). All IsLowerHex digits) is (lower-canonical_token (raw_of h.pair.cell)) in
    let n : IsLowerHex 110 = All-head IsLowerHex 110 (100 ∷ []) (All-tail IsLowerHex 101 (110 ∷ 100 ∷ []) lower) in
    omega (arith, n))

-- ---- the end line

end_graphic : All IsGraphic (codes "end")
end_graphic =
    All-cons IsGraphic 101 (110 ∷ 100 ∷ []) (omega arith)
    (All-cons IsGraphic 110 (100 ∷ []) (omega arith) (All-cons IsGraphic 100 [] (omega arith) (All-nil IsGraphic)))

pub end_parts : (pairs copies : ℕ) → pairs < 2 ^ 64 → copies < 2 ^ 64
    → parts_of (end_text pairs copies) ≡ codes "end" ∷ decimal pairs ∷ decimal copies ∷ []
end_parts pairs copies within_limit small =
    parts_of_three (codes "end") (decimal pairs) (decimal copies) end_graphic (decimal_graphic pairs within_limit) (decimal_graphic copies small)

pub end_lacks_feed : (pairs copies : ℕ) → pairs < 2 ^ 64 → copies < 2 ^ 64 → Lacks 10 (end_text pairs copies)
end_lacks_feed pairs copies within_limit small =
    no_feed (codes "end") (decimal pairs) (decimal copies) end_graphic (decimal_graphic pairs within_limit) (decimal_graphic copies small)

pub end_has_parts : (pairs copies : ℕ) → pairs < 2 ^ 64 → copies < 2 ^ 64 → has_parts 3 (end_text pairs copies) ≡ true
end_has_parts pairs copies within_limit small =
    three_from_parts (end_text pairs copies) (codes "end") (decimal pairs) (decimal copies) (end_parts pairs copies within_limit small) refl
    (is_some_text _ (decimal_nonempty pairs within_limit)) (is_some_text _ (decimal_nonempty copies small))

pub end_is_end : (pairs copies : ℕ) → pairs < 2 ^ 64 → copies < 2 ^ 64 → is_end (end_text pairs copies) ≡ true
end_is_end pairs copies within_limit small =
    ap (λ (ps : List (List ℕ)). bytes_eq (slice_index_or ps 0 []) (codes "end")) (end_parts pairs copies within_limit small)

pub end_with_feed : (hs : Collection) → end_line hs ≡ end_text (length hs) (copies_in hs) ++ 10 ∷ []
unfolding end_line
end_with_feed hs = simp append_assoc

-- what the code tests of an end line
pub end_tested : (line a b c pairs_digits copies_digits : List ℕ) (pairs copies : ℕ) (p q : Bool) → is_end line ≡ true
    → parts_of line ≡ a ∷ b ∷ c ∷ [] → pairs < 2 ^ 64 → copies < 2 ^ 64
    → p ≡ bytes_eq b pairs_digits → pairs_digits ≡ decimal pairs → q ≡ bytes_eq c copies_digits → copies_digits ≡ decimal copies
    → Decides (p && q) (line ≡ end_text pairs copies)
end_tested line a b c pairs_digits copies_digits pairs copies p q end are within_limit small p_is pairs_are q_is copies_are = (
  λ both.
      let parts = and_parts p q both in
      let first : a ≡ codes "end" =
      (bytes_eq-Decides a (codes "end")).0
      (sym (ap (λ (ps : List (List ℕ)). bytes_eq (slice_index_or ps 0 []) (codes "end")) are) ∙ end) in
      let second : b ≡ decimal pairs = (bytes_eq-Decides b pairs_digits).0 (sym p_is ∙ parts.0) ∙ pairs_are in
      let third : c ≡ decimal copies = (bytes_eq-Decides c copies_digits).0 (sym q_is ∙ parts.1) ∙ copies_are in
      parts_joined line a b c are ∙ rw (first, second, third) refl,
  λ is.
      let same : a ∷ b ∷ c ∷ [] ≡ codes "end" ∷ decimal pairs ∷ decimal copies ∷ [] =
      sym are ∙ ap parts_of is ∙ end_parts pairs copies within_limit small in
      let second : b ≡ decimal pairs = ap (λ (ps : List (List ℕ)). slice_index_or ps 1 []) same in
      let third : c ≡ decimal copies = ap (λ (ps : List (List ℕ)). slice_index_or ps 2 []) same in
      and_from p q (p_is ∙ (bytes_eq-Decides b pairs_digits).1 (second ∙ sym pairs_are))
      (q_is ∙ (bytes_eq-Decides c copies_digits).1 (third ∙ sym copies_are)),
)

-- ---- a line, read from the front of a text

pub line_of_parts : (text first second third : List ℕ) (h : Held) (label : ℕ) → text ≡ canonical_token (raw_of h.pair.cell) ++ 32 ∷ first
    → first ≡ decimal label ++ 32 ∷ second → second ≡ decimal h.count ++ 10 ∷ third
    → value_of h.pair.label ≡ label → text ≡ line_text h ++ 10 ∷ third
unfolding line_text
line_of_parts text first second third h label token number count is =
    token
    ∙ ap (λ x. canonical_token (raw_of h.pair.cell) ++ 32 ∷ x)
    (number ∙ ap (λ n. decimal n ++ 32 ∷ second) (sym is) ∙ ap (λ x. decimal (value_of h.pair.label) ++ 32 ∷ x) count)
    ∙ (let same : canonical_token (raw_of h.pair.cell) ++ 32 ∷ (decimal (value_of h.pair.label) ++ 32 ∷ (decimal h.count ++ 10 ∷ third))
    ≡ (canonical_token (raw_of h.pair.cell) ++ 32 ∷ (decimal (value_of h.pair.label) ++ 32 ∷ decimal h.count))
    ++ 10 ∷ third = simp append_assoc in same)
