-- The first fault of a text, past the lines of entries, of groups, and the end line.
use Rattle.std.proofs.Common.{◌≡◌, ℕ, suc, ◌+◌, ◌<◌, ◌≤◌, ◌^◌, false, Option, Some, None, Result, List, [], ◌∷◌, ◌++◌, All, length, map, refl, sym, ap, ◌∙◌, subst, arith, append_assoc}
use Rattle.std.specs.Prelude.{flat_map}
use Rattle.std.specs.Result.{result_err}
use Rattle.std.proofs.lemmas.List.{append-nil}
use Rattle.std.proofs.lemmas.List.Elements.{All-head, All-tail}
use Rattle.s2ix_bag_pairs.specs.Limits.{changes_limit}
use Rattle.s2ix_bag_pairs.specs.declared.limits.Limits.{Limits}
use Rattle.s2ix_bag_pairs.specs.declared.pair.Entry.{Entry}
use Rattle.s2ix_text_parts.specs.LineFaults.{fault_below}
use Rattle.s2ix_text_parts.specs.Lines.{is_nil}
use Rattle.s2ix_text_parts.proofs.FirstFault.{ended, found_here, found_later, place}
use Rattle.s2ix_text_parts.proofs.Rests.{some_joined}
use Rattle.s2ix_text.specs.declared.journal_error.JournalFault.{JournalFault}
use Rattle.s2ix_text.specs.declared.journal_error.JournalFault.TheVariants.{Truncated}
use Rattle.s2ix_text.specs.JournalFaults.{read_above, line_fault}
use Rattle.s2ix_text.specs.JournalLines.{change_text, entry_text, group_lines, last_pair}
use Rattle.s2ix_text.specs.Journals.{AreEntries, IsGroup}
use Rattle.s2ix_text.proofs.ChangeTexts.{change_is_no_end, line_from_size, size_of_text}
use Rattle.s2ix_text.proofs.NextEntries.{last_pair_pushed, next_from, next_here}
use Rattle.s2ix_text.proofs.JournalRows.{IsBetween, IsInside, entry_row, group_row, place_below, truncated_row}
use Rattle.s2ix_text.proofs.SoFar.{greatest_more, group_begun, group_ended, inside_group, inside_more, some_after_line}

abbrev pub fault_left : Limits → List (List ℕ) → List (List ℕ) → Option (ℕ × JournalFault)
fault_left limits above lines = fault_below line_fault limits above lines

-- ---- one line

pub passes : (limits : Limits) (above : List (List ℕ)) (line : List ℕ) (lines : List (List ℕ)) → is_nil lines ≡ false
    → line_fault (place_below limits above line) ≡ None
    → fault_left limits above (line ∷ lines) ≡ fault_left limits (above ++ line ∷ []) lines
passes limits above line lines some none =
    found_later line_fault limits above line lines (ap line_fault (ended limits above line lines some) ∙ none)

pub stops : (limits : Limits) (above : List (List ℕ)) (line : List ℕ) (lines : List (List ℕ)) (fault : JournalFault) → is_nil lines ≡ false
    → line_fault (place_below limits above line) ≡ Some fault → fault_left limits above (line ∷ lines) ≡ Some (length above + 1, fault)
stops limits above line lines fault some is =
    found_here line_fault limits above line lines fault (ap line_fault (ended limits above line lines some) ∙ is)

pub cut_short : (limits : Limits) (above : List (List ℕ)) (line : List ℕ) → (read_above above).over ≡ false
    → fault_left limits above (line ∷ []) ≡ Some (length above + 1, Truncated)
cut_short limits above line over =
    found_here line_fault limits above line [] Truncated (truncated_row (place limits above line []) over refl)

-- ---- past entries

-- the entries of a group that follow those before it
pub record ArePassed (most : ℕ) (limits : Limits) (above : List (List ℕ)) (before es : List Entry) (left groups : ℕ)
    (lines : List (List ℕ)) : Type 0 where
  pub fault : fault_left limits above (map entry_text es ++ lines) ≡ fault_left limits (above ++ map entry_text es) lines
  pub inside : IsInside most (above ++ map entry_text es) left (last_pair (before ++ es)) groups

nothing_passed : (most : ℕ) (limits : Limits) (above : List (List ℕ)) (before : List Entry) (left groups : ℕ) (lines : List (List ℕ))
    → IsInside most above left (last_pair before) groups → ArePassed most limits above before [] left groups lines
nothing_passed most limits above before left groups lines is =
    let same : above ≡ above ++ [] = sym (append-nil above) in
    record {
      fault = ap (λ (ls : List (List ℕ)). fault_left limits ls lines) same;
      inside =
          subst (λ (ls : List (List ℕ)). IsInside most ls left (last_pair (before ++ [])) groups) same
          (subst (λ (es : List Entry). IsInside most above left (last_pair es) groups) (sym (append-nil before)) is);
    }

pub entries_passed : (most : ℕ) → most < 2 ^ 32
    → (limits : Limits) (above : List (List ℕ)) (before es : List Entry) (left groups : ℕ) (lines : List (List ℕ))
    → IsInside most above (length es + left) (last_pair before) groups → AreEntries most limits (before ++ es) → is_nil lines ≡ false
    → ArePassed most limits above before es left groups lines
entries_passed most bounded limits above before [] left groups lines is are some =
    let none : 0 + left ≡ left = omega arith in
    nothing_passed most limits above before left groups lines (subst (λ n. IsInside most above n (last_pair before) groups) none is)
entries_passed most bounded limits above before (e ∷ es) left groups lines is are some =
    let number : length (e ∷ es) + left ≡ suc (length es + left) = omega arith in
    let here = subst (λ n. IsInside most above n (last_pair before) groups) number is in
    let writes = next_here most bounded limits before e es are in
    let next = next_from most bounded limits (last_pair before) (entry_text e) e writes in
    let sound =
    entry_row most limits above (entry_text e) (length es + left) (last_pair before) groups here
    ∙ ap (λ (r : Result Entry JournalFault). result_err r) writes in
    let inside =
    inside_more most above (entry_text e) (length es + left) (last_pair before) (last_pair (before ++ e ∷ [])) groups here
    (next.writes ∙ sym (last_pair_pushed before e)) in
    let assoc : before ++ e ∷ es ≡ (before ++ e ∷ []) ++ es = sym (append_assoc before (e ∷ []) es) in
    let later =
    entries_passed most bounded limits (above ++ entry_text e ∷ []) (before ++ e ∷ []) es left groups lines inside
    (subst (AreEntries most limits) assoc are) some in
    let lines_assoc : (above ++ entry_text e ∷ []) ++ map entry_text es ≡ above ++ entry_text e ∷ map entry_text es =
    append_assoc above (entry_text e ∷ []) (map entry_text es) in
    record {
      fault =
          passes limits above (entry_text e) (map entry_text es ++ lines) (some_joined (map entry_text es) lines some) sound
          ∙ later.fault ∙ ap (λ (ls : List (List ℕ)). fault_left limits ls lines) lines_assoc;
      inside = subst (λ (ls : List (List ℕ)). IsInside most ls left (last_pair (before ++ e ∷ es)) groups) lines_assoc
          (subst (λ (all : List Entry). IsInside most ((above ++ entry_text e ∷ []) ++ map entry_text es) left (last_pair all) groups)
          (sym assoc) later.inside);
    }

-- ---- past groups

pub record IsPassed (most : ℕ) (limits : Limits) (above more : List (List ℕ)) (groups : ℕ) (lines : List (List ℕ)) : Type 0 where
  pub fault : fault_left limits above (more ++ lines) ≡ fault_left limits (above ++ more) lines
  pub between : IsBetween most (above ++ more) groups

pub group_passed : (most : ℕ) → most < 2 ^ 32
    → (limits : Limits) (above : List (List ℕ)) (groups : ℕ) (es : List Entry) (lines : List (List ℕ)) → IsBetween most above groups
    → IsGroup most limits es → groups < changes_limit limits → is_nil lines ≡ false
    → IsPassed most limits above (group_lines es) (groups + 1) lines
group_passed most bounded limits above groups es lines is group room some =
    let line = change_text (length es) in
    let no_end = change_is_no_end (length es) (omega (arith, group.within_limit)) in
    let size = size_of_text limits groups (length es) group.some group.within_limit room in
    let sound = group_row most limits above line groups is no_end ∙ ap (λ (r : Result ℕ JournalFault). result_err r) size in
    let so_far = group_begun most above line groups (length es) is no_end (line_from_size limits groups line (length es) size).written in
    let whole : length es ≡ length es + 0 = omega arith in
    let inside =
    subst (λ n. IsInside most (above ++ line ∷ []) n None (groups + 1)) whole
    (inside_group most (above ++ line ∷ []) (groups + 1) (length es) (some_after_line above line)
    (greatest_more most above line is.some is.greatest) so_far) in
    let passed = entries_passed most bounded limits (above ++ line ∷ []) [] es 0 (groups + 1) lines inside group.entries some in
    let assoc : (above ++ line ∷ []) ++ map entry_text es ≡ above ++ group_lines es = append_assoc above (line ∷ []) (map entry_text es) in
    record {
      fault =
          passes limits above line (map entry_text es ++ lines) (some_joined (map entry_text es) lines some) sound
          ∙ passed.fault ∙ ap (λ (ls : List (List ℕ)). fault_left limits ls lines) assoc;
      between =
          subst (λ (ls : List (List ℕ)). IsBetween most ls (groups + 1)) assoc
          (group_ended most _ (last_pair es) (groups + 1) passed.inside);
    }

pub groups_passed : (most : ℕ) → most < 2 ^ 32
    → (limits : Limits) (above : List (List ℕ)) (groups : ℕ) (cs : List (List Entry)) (lines : List (List ℕ)) → IsBetween most above groups
    → All (IsGroup most limits) cs → groups + length cs ≤ changes_limit limits → is_nil lines ≡ false
    → IsPassed most limits above (flat_map group_lines cs) (groups + length cs) lines
groups_passed most bounded limits above groups [] lines is are room some =
    let same : above ≡ above ++ [] = sym (append-nil above) in
    let number : groups ≡ groups + 0 = omega arith in
    record {
      fault = ap (λ (ls : List (List ℕ)). fault_left limits ls lines) same;
      between = subst (λ (ls : List (List ℕ)). IsBetween most ls (groups + 0)) same (subst (λ n. IsBetween most above n) number is);
    }
groups_passed most bounded limits above groups (c ∷ cs) lines is are room some =
    let more = flat_map group_lines cs in
    let here =
    group_passed most bounded limits above groups c (more ++ lines) is (All-head (IsGroup most limits) c cs are) (omega (arith, room))
    (some_joined more lines some) in
    let later =
    groups_passed most bounded limits (above ++ group_lines c) (groups + 1) cs lines here.between
    (All-tail (IsGroup most limits) c cs are) (omega (arith, room)) some in
    let assoc : (above ++ group_lines c) ++ more ≡ above ++ (group_lines c ++ more) = append_assoc above (group_lines c) more in
    let number : groups + 1 + length cs ≡ groups + length (c ∷ cs) = omega arith in
    record {
      fault =
          ap (fault_left limits above) (append_assoc (group_lines c) more lines)
          ∙ here.fault ∙ later.fault ∙ ap (λ (ls : List (List ℕ)). fault_left limits ls lines) assoc;
      between =
          subst (λ (ls : List (List ℕ)). IsBetween most ls (groups + length (c ∷ cs))) assoc
          (subst (λ n. IsBetween most ((above ++ group_lines c) ++ more) n) number later.between);
    }
