-- Fields of a text whose front has no byte above 127.
use Rattle.std.proofs.Common.{◌≡◌, ℕ, ◌+◌, ◌-◌, ◌<◌, ◌≤◌, Bool, true, false, Some, None, List, [], ◌∷◌, ◌++◌, length, take, drop, refl, sym, ap, subst, ◌∙◌, get_or, get_or-drop, length-drop, arith, add-one}
use Rattle.std.specs.Prelude.{slice_index}
use Rattle.std.specs.Char.{is_whitespace}
use Rattle.std.specs.List.{list_all}
use Rattle.std.proofs.lemmas.Bool.{and_parts}
use Rattle.std.proofs.lemmas.Bool.Decides.{nat_tests}
use Rattle.std.proofs.lemmas.List.{drop_more, take-append-drop, length-take-le}
use Rattle.std.proofs.lemmas.List.Folds.{list_all-append}
use Rattle.std.proofs.Math.Seq.{take-add, take-append_seam}
use Rattle.bstr.specs.Fields.{fields_acc}
use Rattle.bstr.specs.Text.{part}
use Rattle.bstr.specs.Utf8.{decoded, good, or_replacement, pieces, spans_from, Decoded}
use Rattle.bstr.proofs.lemmas.FieldLemmas.{fields-skip, fields-start, fields-stop, fields-more, fields-nil, fields-last}
use Rattle.bstr.proofs.lemmas.PieceLemmas.{spans-first, spans-nil, value-1}
use Rattle.s2ix_cli_words.specs.Fields.{fields_of, is_blank, is_plain}

-- a byte below 128 is a piece of its own
decoded-low : (byte : ℕ) (rest : List ℕ) → byte < 128 → decoded (byte ∷ rest) ≡ good byte 1
decoded-low byte rest low =
    value-1 (length (byte ∷ rest)) byte (slice_index rest 0) (slice_index rest 1) (slice_index rest 2) (omega arith, low)

-- and its span comes first
pub spans-low : (byte : ℕ) (rest : List ℕ) (off : ℕ) → byte < 128
    → spans_from off (pieces (byte ∷ rest)) ≡ (off, off + 1, byte) ∷ spans_from (off + 1) (pieces rest)
spans-low byte rest off low =
    spans-first (byte ∷ rest) off (omega arith)
    ∙ ap (λ (p : Decoded). (off, off + p.size, or_replacement p.char) ∷ spans_from (off + p.size) (pieces (drop p.size (byte ∷ rest))))
    (decoded-low byte rest low)

-- ---- one byte more in front

part-after : (a b byte : ℕ) (hay : List ℕ) → part (a + 1) (b + 1) (byte ∷ hay) ≡ part a b hay
part-after a b byte hay =
    let count : b + 1 - (a + 1) ≡ b - a = omega arith in
    let place : drop (a + 1) (byte ∷ hay) ≡ drop a hay = ap (λ n. drop n (byte ∷ hay)) (add-one a) in
    ap (λ n. take n (drop (a + 1) (byte ∷ hay))) count ∙ ap (take (b - a)) place

module _ (t : ℕ → Bool) (byte : ℕ) (hay : List ℕ) where
  -- spans of a line, and the same spans where a byte stands in front of the line: their fields are the same
  abbrev AreSame : List (ℕ × ℕ × ℕ) → List (ℕ × ℕ × ℕ) → Type 0
  AreSame moved spans =
      (fields_acc t (byte ∷ hay) None moved ≡ fields_acc t hay None spans)
      × ((a b : ℕ) → fields_acc t (byte ∷ hay) (Some (a + 1, b + 1)) moved ≡ fields_acc t hay (Some (a, b)) spans)

  same_step : (v : Bool) (off end c : ℕ) (moved spans : List (ℕ × ℕ × ℕ)) → t c ≡ v → AreSame moved spans
      → AreSame ((off + 1, end + 1, c) ∷ moved) ((off, end, c) ∷ spans)
  same_step true off end c moved spans is same = (
    fields-skip t (byte ∷ hay) (off + 1, end + 1, c) moved is ∙ same.0 ∙ sym (fields-skip t hay (off, end, c) spans is),
    λ a b. fields-stop t (byte ∷ hay) (off + 1, end + 1, c) moved (a + 1) (b + 1) is
        ∙ ap (λ field. field ∷ fields_acc t (byte ∷ hay) None moved) (part-after a b byte hay)
        ∙ ap (λ fields. part a b hay ∷ fields) same.0
        ∙ sym (fields-stop t hay (off, end, c) spans a b is),
  )
  same_step false off end c moved spans is same = (
    fields-start t (byte ∷ hay) (off + 1, end + 1, c) moved is ∙ same.1 off end ∙ sym (fields-start t hay (off, end, c) spans is),
    λ a b. fields-more t (byte ∷ hay) (off + 1, end + 1, c) moved (a + 1) (b + 1) is ∙ same.1 a end
        ∙ sym (fields-more t hay (off, end, c) spans a b is),
  )

  same_all : (ps : List Decoded) (off : ℕ) → AreSame (spans_from (off + 1) ps) (spans_from off ps)
  unfolding spans_from
  same_all [] off = (
    fields-nil t (byte ∷ hay) ∙ sym (fields-nil t hay),
    λ a b. fields-last t (byte ∷ hay) (a + 1) (b + 1) ∙ ap (λ field. field ∷ []) (part-after a b byte hay) ∙ sym (fields-last t hay a b),
  )
  same_all (p ∷ ps) off =
      let place : off + p.size + 1 ≡ off + 1 + p.size = omega arith in
      let later = same_step _ off (off + p.size) (or_replacement p.char) _ _ refl (same_all ps (off + p.size)) in
      subst (λ end. AreSame ((off + 1, end, or_replacement p.char) ∷ spans_from end ps)
      ((off, off + p.size, or_replacement p.char) ∷ spans_from (off + p.size) ps)) place later

-- what is left of a line after some bytes of it
fields-after : (front hay : List ℕ) (ps : List Decoded) (off : ℕ)
    → fields_acc is_whitespace (front ++ hay) None (spans_from (off + length front) ps)
    ≡ fields_acc is_whitespace hay None (spans_from off ps)
fields-after [] hay ps off = let place : off + 0 ≡ off = omega arith in ap (λ n. fields_acc is_whitespace hay None (spans_from n ps)) place
fields-after (byte ∷ front) hay ps off =
    let place : off + length (byte ∷ front) ≡ off + length front + 1 = omega arith in
    ap (λ n. fields_acc is_whitespace (byte ∷ (front ++ hay)) None (spans_from n ps)) place
    ∙ (same_all is_whitespace byte (front ++ hay) ps (off + length front)).0
    ∙ fields-after front hay ps off

-- ---- what plain bytes and blanks in front say

-- a byte that is a blank
pub blank_is : (byte : ℕ) → is_blank byte ≡ true → (byte < 128) × (is_whitespace byte ≡ true)
blank_is byte is = grind (arith, nat_tests)

-- and one that is plain
pub plain_is : (byte : ℕ) → is_plain byte ≡ true → (byte < 128) × (is_whitespace byte ≡ false)
plain_is byte is = grind (arith, nat_tests)

-- blanks in front are no part of a field
pub fields_of-blank : (byte : ℕ) (rest : List ℕ) → is_blank byte ≡ true → fields_of (byte ∷ rest) ≡ fields_of rest
unfolding fields_of
fields_of-blank byte rest is =
    let facts = blank_is byte is in
    ap (fields_acc is_whitespace (byte ∷ rest) None) (spans-low byte rest 0 facts.0)
    ∙ fields-skip is_whitespace (byte ∷ rest) (0, 1, byte) (spans_from 1 (pieces rest)) facts.1
    ∙ (same_all is_whitespace byte rest (pieces rest) 0).0

-- plain bytes go on with a field
within : (hay : List ℕ) (a off : ℕ) (word rest : List ℕ) → list_all is_plain word ≡ true
    → fields_acc is_whitespace hay (Some (a, off)) (spans_from off (pieces (word ++ rest)))
    ≡ fields_acc is_whitespace hay (Some (a, off + length word)) (spans_from (off + length word) (pieces rest))
within hay a off [] rest all =
    let place : off ≡ off + 0 = omega arith in
    ap (λ n. fields_acc is_whitespace hay (Some (a, n)) (spans_from n (pieces rest))) place
within hay a off (byte ∷ word) rest all =
    let parts = and_parts (is_plain byte) (list_all is_plain word) all in
    let facts = plain_is byte parts.0 in
    let place : off + 1 + length word ≡ off + length (byte ∷ word) = omega arith in
    ap (fields_acc is_whitespace hay (Some (a, off))) (spans-low byte (word ++ rest) off facts.0)
    ∙ fields-more is_whitespace hay (off, off + 1, byte) (spans_from (off + 1) (pieces (word ++ rest))) a off facts.1
    ∙ within hay a (off + 1) word rest parts.1
    ∙ ap (λ n. fields_acc is_whitespace hay (Some (a, n)) (spans_from n (pieces rest))) place

-- plain bytes begin one
begun : (hay : List ℕ) (byte : ℕ) (word rest : List ℕ) → list_all is_plain (byte ∷ word) ≡ true
    → fields_acc is_whitespace hay None (spans_from 0 (pieces (byte ∷ (word ++ rest))))
    ≡ fields_acc is_whitespace hay (Some (0, length (byte ∷ word))) (spans_from (length (byte ∷ word)) (pieces rest))
begun hay byte word rest all =
    let parts = and_parts (is_plain byte) (list_all is_plain word) all in
    let facts = plain_is byte parts.0 in
    let place : 1 + length word ≡ length (byte ∷ word) = omega arith in
    ap (fields_acc is_whitespace hay None) (spans-low byte (word ++ rest) 0 facts.0)
    ∙ fields-start is_whitespace hay (0, 1, byte) (spans_from 1 (pieces (word ++ rest))) facts.1
    ∙ within hay 0 1 word rest parts.1
    ∙ ap (λ n. fields_acc is_whitespace hay (Some (0, n)) (spans_from n (pieces rest))) place

-- all that stands in front
part-front : (front rest : List ℕ) → part 0 (length front) (front ++ rest) ≡ front
part-front front rest =
    let count : length front - 0 ≡ length front = omega arith in
    ap (λ n. take n (front ++ rest)) count ∙ take-append_seam front rest

-- a field of plain bytes, at the end of a text or before a blank
pub first_field : (word rest : List ℕ) → 0 < length word → list_all is_plain word ≡ true → (0 < length rest → is_blank (get_or rest 0 0) ≡ true)
    → fields_of (word ++ rest) ≡ word ∷ fields_of rest
unfolding fields_of
first_field [] rest some all ends = absurd (omega arith)
first_field (byte ∷ word) [] some all ends =
    begun (byte ∷ (word ++ [])) byte word [] all
    ∙ ap (fields_acc is_whitespace (byte ∷ (word ++ [])) (Some (0, length (byte ∷ word)))) (spans-nil [] (length (byte ∷ word)) refl)
    ∙ fields-last is_whitespace (byte ∷ (word ++ [])) 0 (length (byte ∷ word))
    ∙ ap (λ field. field ∷ []) (part-front (byte ∷ word) [])
    ∙ ap (λ fields. (byte ∷ word) ∷ fields)
    (sym (ap (fields_acc is_whitespace [] None) (spans-nil [] 0 refl) ∙ fields-nil is_whitespace []))
first_field (byte ∷ word) (next ∷ rest) some all ends =
    let facts = blank_is next (ends (omega arith)) in
    let hay = byte ∷ (word ++ next ∷ rest) in
    let end = length (byte ∷ word) in
    let place : end + 1 ≡ 1 + end = omega arith in
    begun hay byte word (next ∷ rest) all
    ∙ ap (fields_acc is_whitespace hay (Some (0, end))) (spans-low next rest end facts.0)
    ∙ fields-stop is_whitespace hay (end, end + 1, next) (spans_from (end + 1) (pieces rest)) 0 end facts.1
    ∙ ap (λ field. field ∷ fields_acc is_whitespace hay None (spans_from (end + 1) (pieces rest))) (part-front (byte ∷ word) (next ∷ rest))
    ∙ ap (λ fields. (byte ∷ word) ∷ fields) (
    ap (λ n. fields_acc is_whitespace hay None (spans_from n (pieces rest))) place
    ∙ fields-after (byte ∷ word) (next ∷ rest) (pieces rest) 1
    ∙ (same_all is_whitespace next rest (pieces rest) 0).0
    ∙ sym (fields_of-blank next rest (ends (omega arith)))
    )

-- the first field of a text that begins with plain bytes, cut off at their end
pub fields_of-cut : (text : List ℕ) (end : ℕ) → 0 < end → end ≤ length text → list_all is_plain (take end text) ≡ true
    → (end < length text → is_blank (get_or text end 0) ≡ true)
    → fields_of text ≡ take end text ∷ fields_of (drop end text)
fields_of-cut text end some inside all ends =
    let long : length (take end text) ≡ end = length-take-le end text inside in
    let left = length-drop end text in
    let add_zero : end + 0 ≡ end = omega arith in
    let cut =
    first_field (take end text) (drop end text) (omega arith) all
    (λ more. subst (λ byte. is_blank byte ≡ true) (sym (get_or-drop end text 0 0 ∙ ap (λ i. get_or text i 0) (add_zero)))
    (ends (omega arith))) in
    subst (λ whole. fields_of whole ≡ take end text ∷ fields_of (drop end text)) (take-append-drop end text) cut

-- a text with no byte has no field
pub fields_of-nothing : (text : List ℕ) → length text ≡ 0 → fields_of text ≡ []
unfolding fields_of
fields_of-nothing [] none = ap (fields_acc is_whitespace [] None) (spans-nil [] 0 refl) ∙ fields-nil is_whitespace []
fields_of-nothing (byte ∷ text) none = absurd (omega arith)

-- a blank less in front of what is left
pub fields_of-blank_at : (text : List ℕ) (at : ℕ) → at < length text → is_blank (get_or text at 0) ≡ true
    → fields_of (drop (at + 1) text) ≡ fields_of (drop at text)
fields_of-blank_at text at inside is =
    sym (ap fields_of (drop_more text at 0 inside) ∙ fields_of-blank (get_or text at 0) (drop (at + 1) text) is)

-- a block of plain bytes after others
pub plain-block : (text : List ℕ) (end size : ℕ) → list_all is_plain (take end text) ≡ true
    → list_all is_plain (take size (drop end text)) ≡ true
    → list_all is_plain (take (end + size) text) ≡ true
plain-block text end size front block = rw (take-add, list_all-append, front, block) refl
