-- A text has no fault exactly if it is a journal.
use Rattle.std.proofs.Common.{get_or, ◌≡◌, ℕ, zero, suc, ◌+◌, ◌<◌, ◌≤◌, ◌^◌, ◌⊎◌, inl, inr, true, false, cond, Option, Some, None, Result, Ok, Err, List, [], ◌∷◌, ◌++◌, All, length, map, refl, sym, ap, ap₂, ◌∙◌, subst, arith, append_assoc, ⊎_elim}
use Rattle.std.specs.Prelude.{flat_map, is_none}
use Rattle.std.specs.List.{join_with_byte}
use Rattle.std.specs.Result.{result_err}
use Rattle.std.specs.Str.{bytes_eq}
use Rattle.std.proofs.lemmas.Bool.{both_ways, cases_Bool, cond-false, cond-true}
use Rattle.std.proofs.lemmas.List.{flat_map_more, length_push, map_push}
use Rattle.std.proofs.lemmas.List.Elements.{All-push}
use Rattle.std.proofs.lemmas.Slice.Eq.{bytes_eq-Decides}
use Rattle.s2ix_bag_pairs.specs.Limits.{changes_limit}
use Rattle.s2ix_bag_pairs.specs.declared.limits.Limits.{Limits}
use Rattle.s2ix_bag_pairs.specs.declared.pair.Entry.{Entry}
use Rattle.s2ix_text_write.specs.declared.version.Version.{Version}
use Rattle.s2ix_text_write.specs.Version.{greatest_below, greatest_in, journal_header, journal_version}
use Rattle.s2ix_text_write.specs.Journal.{IsJournalText, IsWritableIn, change_line, entry_line, group_text, journal_in, last_line}
use Rattle.s2ix_text_write.proofs.Journals.{writable}
use Rattle.s2ix_text_write.proofs.Versions.{greatest_fits, journal_header_lacks_feed, journal_header_named, named_by_journal_header}
use Rattle.s2ix_text_parts.specs.Lines.{is_nil, lines_of}
use Rattle.s2ix_text_parts.proofs.FirstFault.{ended, found_here, found_later, place}
use Rattle.s2ix_text_parts.proofs.NoFault.{none_here, none_later}
use Rattle.s2ix_text_parts.proofs.Pieces.{lines_apart, lines_joined, lines_some}
use Rattle.s2ix_text_parts.proofs.Rests.{join_more, no_lines, some_joined}
use Rattle.s2ix_text.specs.declared.journal_error.JournalFault.{JournalFault}
use Rattle.s2ix_text.specs.declared.journal_error.JournalFault.TheVariants.{BadEnd, BadHeader, TrailingBytes, Truncated}
use Rattle.s2ix_text.specs.JournalFaults.{read_above, end_text, greatest_count, is_end, journal_fault, line_fault}
use Rattle.s2ix_text.specs.JournalLines.{change_text, entry_text, group_lines, last_pair, lines_down_to, next_entry, next_size}
use Rattle.s2ix_text.specs.Journals.{AreEntries, IsGroup, IsJournal}
use Rattle.s2ix_text.proofs.ChangeTexts.{IsSize, change_with_feed, end_is_end, end_lacks_feed, end_with_feed, line_from_size}
use Rattle.s2ix_text.proofs.EntryTexts.{line_with_feed}
use Rattle.s2ix_text.proofs.NextEntries.{IsNext, entries_more, last_pair_pushed, next_from, no_entries}
use Rattle.s2ix_text.proofs.Reading.{bytes_after, end_fault, lines_of_groups, nothing_after}
use Rattle.s2ix_text.proofs.JournalRows.{IsBetween, IsInside, entry_row, group_row, header_row, place_below, truncated_row}
use Rattle.s2ix_text.proofs.SoFar.{between_start, greatest_more, group_begun, group_ended, inside_group, inside_more, some_after_line}
use Rattle.s2ix_text.proofs.NextJournalLines.{fault_left, groups_passed}

-- ---- groups, and what a journal holds

writable_group : (version : Version) (limits : Limits) (es : List Entry) → IsGroup (greatest_in version) limits es → IsWritableIn version es
writable_group version limits es group = record {
  some = group.some;
  within_limit = group.within_limit;
  small_before = λ k d within. (group.entries.sides k d within).0;
  small_after = λ k d within. (group.entries.sides k d within).1;
}

pub groups_writable : (version : Version) (limits : Limits) (cs : List (List Entry)) → All (IsGroup (greatest_in version) limits) cs
    → All (IsWritableIn version) cs
groups_writable version limits cs groups = λ k d within. writable_group version limits (get_or cs k d) (groups k d within)

pub journal_of_groups : (version : Version) (limits : Limits) (cs : List (List Entry)) → All (IsGroup (greatest_in version) limits) cs
    → length cs ≤ changes_limit limits → IsJournal limits cs
journal_of_groups version limits cs groups within_limit = record {
  lists = λ k d within. (groups k d within).entries.list;
  within = record {
    writable = λ k d within. writable version (get_or cs k d) (groups_writable version limits cs groups k d within);
    small = λ k d within. (groups k d within).entries.small;
    within_limit = within_limit;
  };
}

groups_of_journal : (version : Version) (limits : Limits) (cs : List (List Entry)) → IsJournal limits cs → All (IsWritableIn version) cs
    → All (IsGroup (greatest_in version) limits) cs
groups_of_journal version limits cs is are = λ k d within.
    let held = are k d within in
    record {
      entries = record {
        list = is.lists k d within;
        sides = λ i e inside. (held.small_before i e inside, held.small_after i e inside);
        small = is.within.small k d within;
      };
      some = held.some;
      within_limit = held.within_limit;
    }

-- ---- the header

-- the greatest count that the lines below a version's header write
pub greatest_of_version : (header : List ℕ) (version : Version) → journal_version header ≡ Some version
    → greatest_count header ≡ greatest_in version
greatest_of_version header version named = ap greatest_below named

pub below_header : (limits : Limits) (text header below : List ℕ) (version : Version) → lines_of text ≡ header ∷ lines_of below
    → journal_version header ≡ Some version → journal_fault limits text ≡ fault_left limits (lines_down_to header []) (lines_of below)
unfolding journal_fault
below_header limits text header below version lines named =
    ap (fault_left limits []) lines
    ∙ found_later line_fault limits [] header (lines_of below)
    (ap line_fault (ended limits [] header (lines_of below) (lines_some below)) ∙ header_row limits header
    ∙ cond-false _ _ _ (ap is_none named))

pub bad_header : (limits : Limits) (text header below : List ℕ) → lines_of text ≡ header ∷ lines_of below → journal_version header ≡ None
    → journal_fault limits text ≡ Some (1, BadHeader)
unfolding journal_fault
bad_header limits text header below lines none =
    ap (fault_left limits []) lines
    ∙ found_here line_fault limits [] header (lines_of below) BadHeader
    (ap line_fault (ended limits [] header (lines_of below) (lines_some below)) ∙ header_row limits header
    ∙ cond-true _ _ _ (ap is_none none))

pub no_header : (limits : Limits) (text : List ℕ) → lines_of text ≡ text ∷ [] → journal_fault limits text ≡ Some (1, Truncated)
unfolding journal_fault read_above
no_header limits text lines =
    ap (fault_left limits []) lines
    ∙ found_here line_fault limits [] text [] Truncated (truncated_row (place limits [] text []) refl refl)

-- ---- a journal has no fault

lines_of_end : (cs : List (List Entry)) → length cs < 2 ^ 64 → lines_of (last_line cs) ≡ end_text (length cs) ∷ [] ∷ []
lines_of_end cs within_limit =
    ap lines_of (end_with_feed cs) ∙ lines_apart (end_text (length cs)) [] (end_lacks_feed (length cs) within_limit)
    ∙ ap (λ (ls : List (List ℕ)). end_text (length cs) ∷ ls) no_lines

pub journal_is_sound : (limits : Limits) (cs : List (List Entry)) → IsJournal limits cs → (version : Version)
    → All (IsWritableIn version) cs → journal_fault limits (journal_in version cs) ≡ None
unfolding journal_in
journal_is_sound limits cs is version are =
    let groups = groups_of_journal version limits cs is are in
    let within_limit : length cs ≤ changes_limit limits = is.within.within_limit in
    let all : changes_limit limits ≤ 100000 = limits.in_range.5 in
    let header = journal_header version in
    let most = greatest_in version in
    let named = named_by_journal_header version in
    let bounded = greatest_fits version in
    let below = flat_map group_text cs ++ last_line cs in
    let start = between_start most header (greatest_of_version header version named) in
    let passed =
    groups_passed most bounded limits (lines_down_to header []) 0 cs (lines_of (last_line cs)) start groups (omega (arith, within_limit))
    (lines_some (last_line cs)) in
    let between =
    subst (λ n. IsBetween most (lines_down_to header cs) n) (let whole : 0 + length cs ≡ length cs = omega arith in whole)
    passed.between in
    below_header limits (header ++ 10 ∷ below) header below version (lines_apart header below (journal_header_lacks_feed version)) named
    ∙ ap (fault_left limits (lines_down_to header [])) (lines_of_groups most bounded limits cs (last_line cs) groups)
    ∙ passed.fault
    ∙ ap (fault_left limits (lines_down_to header cs)) (lines_of_end cs (omega (arith, within_limit, all)))
    ∙ nothing_after most limits (lines_down_to header cs) (length cs) (end_text (length cs)) between
    (end_is_end (length cs) (omega (arith, within_limit, all))) refl

-- ---- a text without a fault is a journal

-- lines that are a whole journal's
record IsWhole (most : ℕ) (limits : Limits) (header : List ℕ) (lines : List (List ℕ)) (cs : List (List Entry)) : Type 0 where
  groups : All (IsGroup most limits) cs
  within_limit : length cs ≤ changes_limit limits
  are : lines ≡ lines_down_to header cs ++ end_text (length cs) ∷ [] ∷ []

-- lines down to the last of these groups
record IsOutside (most : ℕ) (limits : Limits) (header : List ℕ) (above : List (List ℕ)) (cs : List (List Entry)) : Type 0 where
  groups : All (IsGroup most limits) cs
  within_limit : length cs ≤ changes_limit limits
  are : above ≡ lines_down_to header cs
  between : IsBetween most above (length cs)

-- the same, and the first lines of one group more
record IsAmong (most : ℕ) (limits : Limits) (header : List ℕ) (above : List (List ℕ)) (cs : List (List Entry)) (es : List Entry)
    (more : ℕ) : Type 0 where
  groups : All (IsGroup most limits) cs
  room : length cs < changes_limit limits
  entries : AreEntries most limits es
  size : length es + suc more ≤ 2000000
  are : above ≡ lines_down_to header cs ++ change_text (length es + suc more) ∷ map entry_text es
  inside : IsInside most above (suc more) (last_pair es) (length cs + 1)

abbrev IsFront : ℕ → Limits → List ℕ → List (List ℕ) → Type 0
IsFront most limits header above =
    ((cs : List (List Entry)) × IsOutside most limits header above cs)
    ⊎ ((cs : List (List Entry)) × (es : List Entry) × (more : ℕ) × IsAmong most limits header above cs es more)

ok_from : {A : Type 0} (r : Result A JournalFault) → result_err r ≡ None → (x : A) × (r ≡ Ok x)
ok_from (Ok x) none = (x, refl)
ok_from (Err fault) none = cc

-- one entry more

group_lines_more : (header : List ℕ) (cs : List (List Entry)) (es : List Entry) (size : ℕ) → length es ≡ size
    → lines_down_to header cs ++ change_text size ∷ map entry_text es ≡ lines_down_to header (cs ++ es ∷ [])
group_lines_more header cs es size long =
    ap (λ n. lines_down_to header cs ++ change_text n ∷ map entry_text es) (sym long)
    ∙ ap (λ (ls : List (List ℕ)). header ∷ ls) (flat_map_more group_lines [] cs es)

entry_lines_more : (header : List ℕ) (cs : List (List Entry)) (es : List Entry) (e : Entry) (above : List (List ℕ)) (line : List ℕ)
    (size : ℕ)
    → above ≡ lines_down_to header cs ++ change_text size ∷ map entry_text es → line ≡ entry_text e
    → above ++ line ∷ [] ≡ lines_down_to header cs ++ change_text size ∷ map entry_text (es ++ e ∷ [])
entry_lines_more header cs es e above line size are text =
    ap₂ (λ (a : List (List ℕ)) (l : List ℕ). a ++ l ∷ []) are text
    ∙ append_assoc (lines_down_to header cs) (change_text size ∷ map entry_text es) (entry_text e ∷ [])
    ∙ ap (λ (ls : List (List ℕ)). lines_down_to header cs ++ change_text size ∷ ls) (sym (map_push entry_text es e))

front_after_entry : (most : ℕ) (limits : Limits) (header : List ℕ) (above : List (List ℕ)) (cs : List (List Entry)) (es : List Entry)
    (more : ℕ) (line : List ℕ) (e : Entry)
    → IsAmong most limits header above cs es more → IsNext most limits (last_pair es) line e
    → IsFront most limits header (above ++ line ∷ [])
front_after_entry most limits header above cs es zero line e is next =
    let inside = inside_more most above line 0 (last_pair es) (Some e.pair) (length cs + 1) is.inside next.writes in
    let all = es ++ e ∷ [] in
    let long : length all ≡ length es + suc 0 = omega (arith, length_push es e) in
    let size = is.size in
    let group : IsGroup most limits all =
    record {
      entries = entries_more most limits es line e is.entries next;
      some = omega (arith, long);
      within_limit = omega (arith, long, size);
    } in
    let number : length cs + 1 ≡ length (cs ++ all ∷ []) = omega (arith, length_push cs all) in
    inl (
      cs ++ all ∷ [],
      record {
        groups = All-push (IsGroup most limits) cs all is.groups group;
        within_limit = omega (arith, length_push cs all, is.room);
        are =
            entry_lines_more header cs es e above line (length es + suc 0) is.are next.text
            ∙ group_lines_more header cs all (length es + suc 0) long;
        between =
            subst (λ n. IsBetween most (above ++ line ∷ []) n) number
            (group_ended most (above ++ line ∷ []) (Some e.pair) (length cs + 1) inside);
      },
    )
front_after_entry most limits header above cs es (suc more) line e is next =
    let all = es ++ e ∷ [] in
    let long : length es + suc (suc more) ≡ length all + suc more = omega (arith, length_push es e) in
    let size = is.size in
    inr (
      cs,
      all,
      more,
      record {
        groups = is.groups;
        room = is.room;
        entries = entries_more most limits es line e is.entries next;
        size = omega (arith, long, size);
        are =
            entry_lines_more header cs es e above line (length es + suc (suc more)) is.are next.text
            ∙ ap (λ n. lines_down_to header cs ++ change_text n ∷ map entry_text all) long;
        inside =
            inside_more most above line (suc more) (last_pair es) (last_pair all) (length cs + 1) is.inside
            (next.writes ∙ sym (last_pair_pushed es e));
      },
    )

-- a group begins

front_after_size : (most : ℕ) (limits : Limits) (header : List ℕ) (above : List (List ℕ)) (cs : List (List Entry)) (size : ℕ)
    (line : List ℕ)
    → IsOutside most limits header above cs → is_end line ≡ false → IsSize limits (length cs) line size
    → IsFront most limits header (above ++ line ∷ [])
front_after_size most limits header above cs zero line is no_end writes = absurd (let none = writes.some in omega (arith, none))
front_after_size most limits header above cs (suc more) line is no_end writes =
    let number : suc more ≡ 0 + suc more = omega arith in
    let within_limit = writes.within_limit in
    inr (
      cs,
      [],
      more,
      record {
        groups = is.groups;
        room = writes.room;
        entries = no_entries most limits;
        size = omega (arith, within_limit);
        are = ap₂ (λ (a : List (List ℕ)) (l : List ℕ). a ++ l ∷ []) is.are (writes.text ∙ ap change_text number);
        inside =
            inside_group most (above ++ line ∷ []) (length cs + 1) (suc more) (some_after_line above line)
            (greatest_more most above line is.between.some is.between.greatest)
            (group_begun most above line (length cs) (suc more) is.between no_end writes.written);
      },
    )

-- the end

end_left : (most : ℕ) (limits : Limits) (above : List (List ℕ)) (groups : ℕ) (line last : List ℕ) (lines : List (List ℕ))
    → IsBetween most above groups → is_end line ≡ true → line ≡ end_text groups → fault_left limits above (line ∷ last ∷ lines) ≡ None
    → line ∷ last ∷ lines ≡ end_text groups ∷ [] ∷ []
end_left most limits above groups line [] [] is end same none = ap (λ x. x ∷ [] ∷ []) same
end_left most limits above groups line (byte ∷ last) [] is end same none =
    let clash : ◌≡◌ {A = Option (ℕ × JournalFault)} (Some (length above + 2, TrailingBytes)) None =
    sym (bytes_after most limits above groups line (byte ∷ last) [] is end same refl) ∙ none in cc
end_left most limits above groups line last (more ∷ lines) is end same none =
    let clash : ◌≡◌ {A = Option (ℕ × JournalFault)} (Some (length above + 2, TrailingBytes)) None =
    sym (bytes_after most limits above groups line last (more ∷ lines) is end same refl) ∙ none in cc

end_from : (most : ℕ) (limits : Limits) (above : List (List ℕ)) (groups : ℕ) (line : List ℕ) → IsBetween most above groups
    → is_end line ≡ true → line_fault (place_below limits above line) ≡ None → line ≡ end_text groups
end_from most limits above groups line is end none =
    ⊎_elim
    (λ same. (bytes_eq-Decides line (end_text groups)).0 same)
    (λ other.
    let fault =
    end_fault most limits above groups line is end
    (λ e. both_ways (bytes_eq line (end_text groups)) other ((bytes_eq-Decides line (end_text groups)).1 e)) in
    let clash : Some BadEnd ≡ None = sym fault ∙ none in cc)
    (cases_Bool (bytes_eq line (end_text groups)))

-- one line more: the text ends, or a longer front

front_over : (most : ℕ) (limits : Limits) (header : List ℕ) (above : List (List ℕ)) → IsFront most limits header above
    → (read_above above).over ≡ false
front_over most limits header above (inl outside) = outside.1.between.over
front_over most limits header above (inr among) = among.3.inside.over

one_line_more : (most : ℕ) → most < 2 ^ 32
    → (limits : Limits) (header : List ℕ) (above : List (List ℕ)) (line last : List ℕ) (lines : List (List ℕ))
    → IsFront most limits header above → fault_left limits above (line ∷ last ∷ lines) ≡ None
    → ((cs : List (List Entry)) × IsWhole most limits header (above ++ line ∷ last ∷ lines) cs)
    ⊎ IsFront most limits header (above ++ line ∷ [])
one_line_more most bounded limits header above line last lines (inl outside) none =
    let cs = outside.0 in
    let is = outside.1 in
    let sound = none_here line_fault limits above line (last ∷ lines) none in
    ⊎_elim
    (λ end.
    let same = end_from most limits above (length cs) line is.between end sound in
    inl (
      cs,
      record {
        groups = is.groups;
        within_limit = is.within_limit;
        are =
            ap₂ (λ (a ls : List (List ℕ)). a ++ ls) is.are
            (end_left most limits above (length cs) line last lines is.between end same none);
      },
    ))
    (λ no_end.
    let size = ok_from (next_size limits (length cs) line) (sym (group_row most limits above line (length cs) is.between no_end) ∙ sound) in
    inr (front_after_size most limits header above cs size.0 line is no_end (line_from_size limits (length cs) line size.0 size.1)))
    (cases_Bool (is_end line))
one_line_more most bounded limits header above line last lines (inr among) none =
    let cs = among.0 in
    let es = among.1 in
    let more = among.2 in
    let is = among.3 in
    let sound = none_here line_fault limits above line (last ∷ lines) none in
    let entry =
    ok_from (next_entry most limits (last_pair es) line)
    (sym (entry_row most limits above line more (last_pair es) (length cs + 1) is.inside) ∙ sound) in
    inr (front_after_entry most limits header above cs es more line entry.0 is
    (next_from most bounded limits (last_pair es) line entry.0 entry.1))

whole_from : (most : ℕ) → most < 2 ^ 32 → (limits : Limits) (header : List ℕ) (above lines : List (List ℕ))
    → IsFront most limits header above → is_nil lines ≡ false → fault_left limits above lines ≡ None
    → (cs : List (List Entry)) × IsWhole most limits header (above ++ lines) cs
whole_from most bounded limits header above [] front some none = cc
whole_from most bounded limits header above (line ∷ []) front some none =
    let fault = truncated_row (place limits above line []) (front_over most limits header above front) refl in
    let clash : Some Truncated ≡ None = sym fault ∙ none_here line_fault limits above line [] none in cc
whole_from most bounded limits header above (line ∷ (last ∷ lines)) front some none =
    ⊎_elim
    (λ whole. whole)
    (λ further.
    let later =
    whole_from most bounded limits header (above ++ line ∷ []) (last ∷ lines) further refl
    (none_later line_fault limits above line (last ∷ lines) none) in (
      later.0,
      subst (λ (ls : List (List ℕ)). IsWhole most limits header ls later.0) (append_assoc above (line ∷ []) (last ∷ lines))
          later.1,
    ))
    (one_line_more most bounded limits header above line last lines front none)

-- ---- lines put together

join_entries : (es : List Entry) (lines : List (List ℕ)) → is_nil lines ≡ false
    → join_with_byte 10 (map entry_text es ++ lines) ≡ flat_map entry_line es ++ join_with_byte 10 lines
join_entries [] lines some = refl
join_entries (e ∷ es) lines some =
    join_more (entry_text e) (map entry_text es ++ lines) (some_joined (map entry_text es) lines some)
    ∙ ap (λ x. entry_text e ++ 10 ∷ x) (join_entries es lines some)
    ∙ sym (append_assoc (entry_text e) (10 ∷ []) (flat_map entry_line es ++ join_with_byte 10 lines))
    ∙ ap (λ x. x ++ (flat_map entry_line es ++ join_with_byte 10 lines)) (sym (line_with_feed e))
    ∙ sym (append_assoc (entry_line e) (flat_map entry_line es) (join_with_byte 10 lines))

join_group : (es : List Entry) (lines : List (List ℕ)) → is_nil lines ≡ false
    → join_with_byte 10 (group_lines es ++ lines) ≡ group_text es ++ join_with_byte 10 lines
unfolding group_text
join_group es lines some =
    join_more (change_text (length es)) (map entry_text es ++ lines) (some_joined (map entry_text es) lines some)
    ∙ ap (λ x. change_text (length es) ++ 10 ∷ x) (join_entries es lines some)
    ∙ sym (append_assoc (change_text (length es)) (10 ∷ []) (flat_map entry_line es ++ join_with_byte 10 lines))
    ∙ ap (λ x. x ++ (flat_map entry_line es ++ join_with_byte 10 lines)) (sym (change_with_feed es))
    ∙ sym (append_assoc (change_line es) (flat_map entry_line es) (join_with_byte 10 lines))

join_groups : (cs : List (List Entry)) (lines : List (List ℕ)) → is_nil lines ≡ false
    → join_with_byte 10 (flat_map group_lines cs ++ lines) ≡ flat_map group_text cs ++ join_with_byte 10 lines
join_groups [] lines some = refl
join_groups (c ∷ cs) lines some =
    ap (join_with_byte 10) (append_assoc (group_lines c) (flat_map group_lines cs) lines)
    ∙ join_group c (flat_map group_lines cs ++ lines) (some_joined (flat_map group_lines cs) lines some)
    ∙ ap (λ x. group_text c ++ x) (join_groups cs lines some)
    ∙ sym (append_assoc (group_text c) (flat_map group_text cs) (join_with_byte 10 lines))

join_whole : (version : Version) (cs : List (List Entry))
    → join_with_byte 10 (lines_down_to (journal_header version) cs ++ end_text (length cs) ∷ [] ∷ []) ≡ journal_in version cs
unfolding journal_in
join_whole version cs =
    join_more (journal_header version) (flat_map group_lines cs ++ end_text (length cs) ∷ [] ∷ [])
    (some_joined (flat_map group_lines cs) (end_text (length cs) ∷ [] ∷ []) refl)
    ∙ ap (λ x. journal_header version ++ 10 ∷ x)
    (join_groups cs (end_text (length cs) ∷ [] ∷ []) refl ∙ ap (λ x. flat_map group_text cs ++ x) (sym (end_with_feed cs)))

-- ---- from the top

version_from : (found : Option Version) → cond (is_none found) (Some BadHeader) None ≡ None → (version : Version) × (found ≡ Some version)
version_from None none = cc
version_from (Some version) none = (version, refl)

header_from : (limits : Limits) (header next : List ℕ) (lines : List (List ℕ)) → fault_left limits [] (header ∷ next ∷ lines) ≡ None
    → (version : Version) × (journal_version header ≡ Some version)
header_from limits header next lines none =
    version_from (journal_version header) (sym (header_row limits header) ∙ none_here line_fault limits [] header (next ∷ lines) none)

front_start : (most : ℕ) (limits : Limits) (header : List ℕ) → greatest_count header ≡ most → IsFront most limits header (header ∷ [])
front_start most limits header own =
    inl ([], record { groups = λ k d within. absurd (omega arith); within_limit = omega arith; are = refl; between = between_start most header own })

lines_are_journal : (limits : Limits) (lines : List (List ℕ)) → is_nil lines ≡ false → fault_left limits [] lines ≡ None
    → (version : Version) × (cs : List (List Entry)) × IsWhole (greatest_in version) limits (journal_header version) lines cs
unfolding read_above
lines_are_journal limits [] some none = cc
lines_are_journal limits (header ∷ []) some none =
    let fault = truncated_row (place limits [] header []) refl refl in
    let clash : Some Truncated ≡ None = sym fault ∙ none_here line_fault limits [] header [] none in cc
lines_are_journal limits (header ∷ (next ∷ lines)) some none =
    let named = header_from limits header next lines none in
    let most = greatest_in named.0 in
    let later = none_later line_fault limits [] header (next ∷ lines) none in
    let start = front_start most limits header (greatest_of_version header named.0 named.1) in
    let whole = whole_from most (greatest_fits named.0) limits header (header ∷ []) (next ∷ lines) start refl later in (
      named.0,
      whole.0,
      subst (λ (h : List ℕ). IsWhole most limits h (header ∷ next ∷ lines) whole.0)
          (journal_header_named header named.0 named.1) whole.1,
    )

pub sound_is_journal : (limits : Limits) (text : List ℕ) → journal_fault limits text ≡ None
    → (cs : List (List Entry)) × IsJournal limits cs × IsJournalText text cs
unfolding journal_fault
sound_is_journal limits text none =
    let whole = lines_are_journal limits (lines_of text) (lines_some text) none in
    let version = whole.0 in
    let cs = whole.1 in
    let is = whole.2 in (
      cs,
      journal_of_groups version limits cs is.groups is.within_limit,
      (version, groups_writable version limits cs is.groups, sym (lines_joined text) ∙ ap (join_with_byte 10) is.are ∙ join_whole version cs),
    )
