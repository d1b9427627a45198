-- What stands above, one line further.
use Rattle.std.proofs.Common.{◌≡◌, ℕ, suc, ◌+◌, Bool, true, false, Option, Some, None, List, [], ◌∷◌, ◌++◌, refl, ap, ◌∙◌}
use Rattle.std.specs.Prelude.{slice_index_or}
use Rattle.std.specs.Option.{unwrap_or}
use Rattle.std.proofs.lemmas.Bool.{cond-false, cond-true}
use Rattle.std.proofs.lemmas.List.Sums.{fold-append}
use Rattle.s2ix_bag_pairs.specs.declared.pair.Pair.{Pair}
use Rattle.s2ix_text_parts.specs.Lines.{is_nil, part}
use Rattle.s2ix_text_parts.specs.Written.{pair_written}
use Rattle.s2ix_text.specs.JournalFaults.{ReadSoFar, at_start, read_above, after_line, after_next, greatest_count, is_end}
use Rattle.s2ix_text.specs.JournalLines.{at_group}
use Rattle.s2ix_text.specs.Numbers.{size_written}
use Rattle.s2ix_text.proofs.JournalRows.{IsBetween, IsInside}

some_more : (above : List (List ℕ)) (line : List ℕ) → is_nil above ≡ false → is_nil (above ++ line ∷ []) ≡ false
some_more [] line some = cc
some_more (first ∷ above) line some = refl

same_header : (above : List (List ℕ)) (line : List ℕ) → is_nil above ≡ false
    → slice_index_or (above ++ line ∷ []) 0 [] ≡ slice_index_or above 0 []
same_header [] line some = cc
same_header (first ∷ above) line some = refl

-- one line more below a header
pub greatest_more : (most : ℕ) (above : List (List ℕ)) (line : List ℕ) → is_nil above ≡ false
    → greatest_count (slice_index_or above 0 []) ≡ most → greatest_count (slice_index_or (above ++ line ∷ []) 0 []) ≡ most
greatest_more most above line some is = ap greatest_count (same_header above line some) ∙ is

one_more : (above : List (List ℕ)) (line : List ℕ) → is_nil above ≡ false → read_above (above ++ line ∷ []) ≡ after_line (read_above above) line
unfolding read_above
one_more [] line some = cc
one_more (first ∷ above) line some = fold-append after_line at_start above (line ∷ [])

-- after the header
pub between_start : (most : ℕ) (header : List ℕ) → greatest_count header ≡ most → IsBetween most (header ∷ []) 0
unfolding read_above
between_start most header own = record { some = refl; greatest = own; wanted = refl; number = refl; over = refl }

next_at : (above : List (List ℕ)) (line : List ℕ) (wanted : ℕ) → is_nil above ≡ false → (read_above above).wanted ≡ wanted
    → read_above (above ++ line ∷ []) ≡ after_next wanted (read_above above) line
next_at above line wanted some is = one_more above line some ∙ ap (λ n. after_next n (read_above above) line) is

-- after the line that begins a group
begun : (most : ℕ) (above : List (List ℕ)) (line : List ℕ) (groups size : ℕ) → IsBetween most above groups → is_end line ≡ false
    → size_written (part 1 line) ≡ Some size
    → read_above (above ++ line ∷ []) ≡ record { wanted = size; last = None; groups = groups + 1; over = false }
begun most above line groups size is no_end written =
    next_at above line 0 is.some is.wanted
    ∙ cond-false (is_end line) _ _ no_end
    ∙ ap
    (λ (o : Option ℕ). let made : ReadSoFar =
    record { wanted = unwrap_or o 0; last = None; groups = (read_above above).groups + 1; over = (read_above above).over } in made)
    written
    ∙ ap
    (λ (n : ℕ). let made : ReadSoFar = record { wanted = size; last = None; groups = n + 1; over = (read_above above).over } in made)
    is.number
    ∙ ap (λ (b : Bool). let made : ReadSoFar = record { wanted = size; last = None; groups = groups + 1; over = b } in made) is.over

pub group_begun : (most : ℕ) (above : List (List ℕ)) (line : List ℕ) (groups size : ℕ) → IsBetween most above groups → is_end line ≡ false
    → size_written (part 1 line) ≡ Some size → read_above (above ++ line ∷ []) ≡ at_group size (groups + 1)
group_begun most above line groups size is no_end written = begun most above line groups size is no_end written

pub inside_group : (most : ℕ) (above : List (List ℕ)) (groups size : ℕ) → is_nil above ≡ false
    → greatest_count (slice_index_or above 0 []) ≡ most → read_above above ≡ at_group size groups → IsInside most above size None groups
inside_group most above groups size some own is = record {
  some = some;
  greatest = own;
  wanted = ap (λ (s : ReadSoFar). s.wanted) is;
  pair = ap (λ (s : ReadSoFar). s.last) is;
  number = ap (λ (s : ReadSoFar). s.groups) is;
  over = ap (λ (s : ReadSoFar). s.over) is;
}

-- after the line of an entry
pub inside_more : (most : ℕ) (above : List (List ℕ)) (line : List ℕ) (left : ℕ) (last next : Option Pair) (groups : ℕ)
    → IsInside most above (suc left) last groups → pair_written line ≡ next → IsInside most (above ++ line ∷ []) left next groups
inside_more most above line left last next groups is writes =
    let now = next_at above line (suc left) is.some is.wanted in
    record {
      some = some_more above line is.some;
      greatest = greatest_more most above line is.some is.greatest;
      wanted = ap (λ (s : ReadSoFar). s.wanted) now;
      pair = ap (λ (s : ReadSoFar). s.last) now ∙ writes;
      number = ap (λ (s : ReadSoFar). s.groups) now ∙ is.number;
      over = ap (λ (s : ReadSoFar). s.over) now ∙ is.over;
    }

-- after a whole group
pub group_ended : (most : ℕ) (above : List (List ℕ)) (last : Option Pair) (groups : ℕ) → IsInside most above 0 last groups
    → IsBetween most above groups
group_ended most above last groups is =
    record { some = is.some; greatest = is.greatest; wanted = is.wanted; number = is.number; over = is.over }

-- after the end line
pub over_after : (most : ℕ) (above : List (List ℕ)) (line : List ℕ) (groups : ℕ) → IsBetween most above groups → is_end line ≡ true
    → (read_above (above ++ line ∷ [])).over ≡ true
over_after most above line groups is end =
    ap (λ (s : ReadSoFar). s.over) (next_at above line 0 is.some is.wanted ∙ cond-true (is_end line) _ _ end)

pub some_after_line : (above : List (List ℕ)) (line : List ℕ) → is_nil (above ++ line ∷ []) ≡ false
some_after_line [] line = refl
some_after_line (first ∷ above) line = refl
