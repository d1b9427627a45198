-- The lines that end in a text, and what is left after them.
use Rattle.std.proofs.Common.{◌≡◌, ℕ, suc, List, [], ◌∷◌, ◌++◌, refl, sym, ap, ◌∙◌, inl, inr, append_assoc, append-nil, arith}
use Rattle.std.proofs.lemmas.Bool.{ne_eqb}
use Rattle.std.proofs.lemmas.Bool.Decides.{eqb_tells}
use Rattle.s2ix_cli_script.specs.Lines.{with_first, script_lines}
use Rattle.s2ix_cli_run.specs.Coming.{ended_after, unended_after, ended_lines}
use Rattle.s2ix_cli_run.specs.Piece.{HasNoFeed}
use Rattle.s2ix_cli_run.specs.Run.{line_left}

-- ---- what ends in a text

-- a line and its feed come first
pub ended_after-line : (front line rest : List ℕ) → HasNoFeed line
    → ended_after front (line ++ 10 ∷ rest) ≡ (front ++ line) ∷ ended_after [] rest
ended_after-line front [] rest none = ap (λ l. l ∷ ended_after [] rest) (sym (append-nil front))
ended_after-line front (byte ∷ line) rest none =
    rw (ne_eqb byte 10 (none 0 0 (omega arith)))
    (ended_after-line (front ++ byte ∷ []) line rest (λ k d h. none (suc k) d (omega arith))
    ∙ ap (λ l. l ∷ ended_after [] rest) (append_assoc front (byte ∷ []) line))

pub unended_after-line : (front line rest : List ℕ) → HasNoFeed line → unended_after front (line ++ 10 ∷ rest) ≡ unended_after [] rest
unended_after-line front [] rest none = refl
unended_after-line front (byte ∷ line) rest none =
    rw (ne_eqb byte 10 (none 0 0 (omega arith)))
    (unended_after-line (front ++ byte ∷ []) line rest (λ k d h. none (suc k) d (omega arith)))

-- nothing ends in a text without a line feed
pub ended_after-none : (front text : List ℕ) → HasNoFeed text → ended_after front text ≡ []
ended_after-none front [] none = refl
ended_after-none front (byte ∷ text) none =
    rw (ne_eqb byte 10 (none 0 0 (omega arith))) (ended_after-none (front ++ byte ∷ []) text (λ k d h. none (suc k) d (omega arith)))

pub unended_after-none : (front text : List ℕ) → HasNoFeed text → unended_after front text ≡ front ++ text
unended_after-none front [] none = sym (append-nil front)
unended_after-none front (byte ∷ text) none =
    rw (ne_eqb byte 10 (none 0 0 (omega arith)))
    (unended_after-none (front ++ byte ∷ []) text (λ k d h. none (suc k) d (omega arith)) ∙ append_assoc front (byte ∷ []) text)

-- of two texts, what ends in the second has what the first left before it
pub ended_after-append : (front text more : List ℕ)
    → ended_after front (text ++ more) ≡ ended_after front text ++ ended_after (unended_after front text) more
ended_after-append front [] more = refl
ended_after-append front (byte ∷ text) more =
    elim (eqb_tells byte 10) [
      | inl w ↦ rw w.0 (ap (λ lines. front ∷ lines) (ended_after-append [] text more))
      | inr w ↦ rw w.0 (ended_after-append (front ++ byte ∷ []) text more)
    ]

pub unended_after-append : (front text more : List ℕ)
    → unended_after front (text ++ more) ≡ unended_after (unended_after front text) more
unended_after-append front [] more = refl
unended_after-append front (byte ∷ text) more =
    elim (eqb_tells byte 10) [
      | inl w ↦ rw w.0 (unended_after-append [] text more)
      | inr w ↦ rw w.0 (unended_after-append (front ++ byte ∷ []) text more)
    ]

-- ---- the lines of a script are those that are ended, and its last one

-- bytes at the front of the first of some lines
abbrev onto : List ℕ → List (List ℕ) → List (List ℕ)
onto front [] = line_left front
onto front (line ∷ lines) = (front ++ line) ∷ lines

onto-nil : (lines : List (List ℕ)) → onto [] lines ≡ lines
onto-nil [] = refl
onto-nil (line ∷ lines) = refl

line_left-more : (front : List ℕ) (byte : ℕ) → line_left (front ++ byte ∷ []) ≡ (front ++ byte ∷ []) ∷ []
line_left-more [] byte = refl
line_left-more (x ∷ front) byte = refl

onto-with_first : (front : List ℕ) (byte : ℕ) (lines : List (List ℕ)) → onto (front ++ byte ∷ []) lines ≡ onto front (with_first byte lines)
onto-with_first front byte [] = line_left-more front byte
onto-with_first front byte (line ∷ lines) = ap (λ l. l ∷ lines) (append_assoc front (byte ∷ []) line)

lines_after : (front text : List ℕ) → ended_after front text ++ line_left (unended_after front text) ≡ onto front (script_lines text)
lines_after front [] = refl
lines_after front (byte ∷ text) =
    elim (eqb_tells byte 10) [
      | inl w ↦ rw w.0 (ap (λ lines. front ∷ lines) (lines_after [] text ∙ onto-nil (script_lines text))
          ∙ ap (λ l. l ∷ script_lines text) (sym (append-nil front)))
      | inr w ↦ rw w.0 (lines_after (front ++ byte ∷ []) text ∙ onto-with_first front byte (script_lines text))
    ]

pub script_lines-ended : (text : List ℕ) → script_lines text ≡ ended_lines text ++ line_left (unended_after [] text)
script_lines-ended text = sym (lines_after [] text ∙ onto-nil (script_lines text))
