-- If the front of a line gives up, no line of the common shape stands there that is the next.
use Rattle.std.proofs.Common.{◌≡◌, ℕ, ◌^◌, ◌<◌, ◌≤◌, true, Some, Ok, List, [], ◌∷◌, ◌++◌, length, refl, sym, ap, ◌∙◌, subst, arith}
use Rattle.std.specs.Prelude.{decimal}
use Rattle.std.proofs.lemmas.Fmt.{decimal_injective, decimal_nonempty}
use Rattle.std.proofs.lemmas.List.{length-append, length_push}
use Rattle.s2id_core.specs.CellId.{raw_of}
use Rattle.s2id_core.specs.Token.{canonical_token}
use Rattle.s2ix_bag_pairs.specs.Collection.{Collection}
use Rattle.s2ix_bag_pairs.specs.Label.{value_of}
use Rattle.s2ix_bag_pairs.specs.Limits.{count_limit, pairs_limit}
use Rattle.s2ix_bag_pairs.specs.declared.limits.Limits.{Limits}
use Rattle.s2ix_bag_pairs.specs.declared.pair.Held.{Held}
use Rattle.s2ix_text_write.proofs.Journals.{decimal_graphic, token_graphic}
use Rattle.s2ix_text.specs.DumpFaults.{greatest_count}
use Rattle.s2ix_text_parts.specs.Written.{comes_before}
use Rattle.s2ix_text_parts.proofs.PartCounts.{graphic_lacks}
use Rattle.s2ix_text_parts.proofs.Pieces.{one_cut}
use Rattle.s2ix_text.specs.PairLines.{IsCommonFront, IsNext, held_written, last_pair, line_text}
use Rattle.s2ix_text.proofs.Appended.{here_has, next_before}
use Rattle.s2ix_text.proofs.PairTexts.{HasCount, held_of_line, line_lacks_feed, line_of_parts}

-- ---- the parts of a line in front, and what is after each

-- a text with these three parts in front, each cut from the next
pub record IsOfParts (text after_token after_label rest : List ℕ) (h : Held) : Type 0 where
  pub token : text ≡ canonical_token (raw_of h.pair.cell) ++ 32 ∷ after_token
  pub label : after_token ≡ decimal (value_of h.pair.label) ++ 32 ∷ after_label
  pub count : after_label ≡ decimal h.count ++ 10 ∷ rest

pub parts_of_common : (most : ℕ) → most < 2 ^ 32 → (text rest : List ℕ) (h : Held) → IsCommonFront most text h rest
    → (after_token after_label : List ℕ) × IsOfParts text after_token after_label rest h × (9 < length after_token)
    × (9 < length after_label)
parts_of_common most bounded text rest h common =
    let after_label = decimal h.count ++ 10 ∷ rest in
    let after_token = decimal (value_of h.pair.label) ++ 32 ∷ after_label in
    let within_limit = common.within_limit in
    let small = common.label in
    let past = common.after in
    let count_some = decimal_nonempty h.count (omega arith) in
    let label_some = decimal_nonempty (value_of h.pair.label) (omega arith) in
    let long = length-append (decimal h.count) (10 ∷ rest) in
    let longer = length-append (decimal (value_of h.pair.label)) (32 ∷ after_label) in (
      after_token,
      after_label,
      record {
        token =
            common.whole ∙ sym (line_of_parts (canonical_token (raw_of h.pair.cell) ++ 32 ∷ after_token) after_token after_label rest h
            (value_of h.pair.label) refl refl refl refl);
        label = refl;
        count = refl;
      },
      omega (arith, longer, label_some, long, count_some, past),
      omega (arith, long, count_some, past),
    )

-- what is read in front is what stands there
pub one_token : (text after rest : List ℕ) (m n : ℕ) → text ≡ canonical_token m ++ 32 ∷ after → text ≡ canonical_token n ++ 32 ∷ rest
    → after ≡ rest
one_token text after rest m n read is =
    (one_cut 32 _ _ after rest (graphic_lacks 32 _ (omega arith) (token_graphic m)) (graphic_lacks 32 _ (omega arith) (token_graphic n))
    (sym read ∙ is)).1

pub one_number : (text after rest : List ℕ) (m n end : ℕ) → end ≤ 32 → m < 2 ^ 64 → n < 2 ^ 64 → text ≡ decimal m ++ end ∷ after
    → text ≡ decimal n ++ end ∷ rest → (m ≡ n) × (after ≡ rest)
one_number text after rest m n end low small_m small_n read is =
    let cut =
    one_cut end _ _ after rest (graphic_lacks end _ low (decimal_graphic m small_m))
    (graphic_lacks end _ low (decimal_graphic n small_n)) (sym read ∙ is) in
    (decimal_injective m n small_m small_n cut.0, cut.1)

-- after the token stands the label
pub label_is_due : (most : ℕ) → most < 2 ^ 32 → (text after rest : List ℕ) (m : ℕ) (h : Held) → text ≡ canonical_token m ++ 32 ∷ after
    → IsCommonFront most text h rest
    → (after_label : List ℕ) × (after ≡ decimal (value_of h.pair.label) ++ 32 ∷ after_label) × (9 < length after)
label_is_due most bounded text after rest m h read common =
    let p = parts_of_common most bounded text rest h common in
    let same = one_token text after p.0 m (raw_of h.pair.cell) read p.2.token in
    (p.1, same ∙ p.2.label, subst (λ t. 9 < length t) (sym same) p.3)

-- after the label the count
pub count_is_due : (most : ℕ) → most < 2 ^ 32 → (text after past rest : List ℕ) (m label : ℕ) (h : Held)
    → text ≡ canonical_token m ++ 32 ∷ after → after ≡ decimal label ++ 32 ∷ past → label < 2 ^ 64 → IsCommonFront most text h rest
    → (label ≡ value_of h.pair.label) × (past ≡ decimal h.count ++ 10 ∷ rest) × (9 < length past)
count_is_due most bounded text after past rest m label h read read_label small common =
    let p = parts_of_common most bounded text rest h common in
    let same = one_token text after p.0 m (raw_of h.pair.cell) read p.2.token in
    let own = common.label in
    let number =
    one_number after past p.1 label (value_of h.pair.label) 32 (omega arith) small (omega arith) read_label (same ∙ p.2.label) in
    (number.0, number.1 ∙ p.2.count, subst (λ t. 9 < length t) (sym number.1) p.4)

pub count_is : (most : ℕ) → most < 2 ^ 32 → (text after past below rest : List ℕ) (m label count : ℕ) (h : Held)
    → text ≡ canonical_token m ++ 32 ∷ after → after ≡ decimal label ++ 32 ∷ past → label < 2 ^ 64 → past ≡ decimal count ++ 10 ∷ below
    → count < 2 ^ 64
    → IsCommonFront most text h rest → (label ≡ value_of h.pair.label) × (count ≡ h.count)
count_is most bounded text after past below rest m label count h read read_label small read_count within_limit common =
    let is_due = count_is_due most bounded text after past rest m label h read read_label small common in
    let few_own = common.within_limit in
    (is_due.0, (one_number past below rest count h.count 10 (omega arith) within_limit (omega arith) read_count is_due.1).0)

-- ---- the pair of a line in front

one_pair : (header : List ℕ) (g h : Held) → HasCount header g → HasCount header h → line_text g ≡ line_text h → g ≡ h
one_pair header g h counted_g counted_h same =
    let both : Ok g ≡ Ok h =
    sym (held_of_line header g counted_g) ∙ ap (held_written (greatest_count header)) same ∙ held_of_line header h counted_h in
    let own : g ≡ h = cc in own

-- a pair that is read in front passes each test, where the line of the next pair stands there
pub record PassesAll (limits : Limits) (hs : Collection) (g : Held) : Type 0 where
  pub before : comes_before (last_pair hs) (Some g.pair) ≡ true
  pub small : g.count ≤ count_limit limits
  pub within_limit : length hs < pairs_limit limits

pub next_passes : (limits : Limits) (header : List ℕ) (hs : Collection) (text past rest : List ℕ) (g h : Held) → HasCount header g
    → text ≡ line_text g ++ 10 ∷ past → IsCommonFront (greatest_count header) text h rest → IsNext limits header hs (line_text h) h
    → PassesAll limits hs g
next_passes limits header hs text past rest g h counted read common next =
    let counts : HasCount header h = (common.some, common.within_limit) in
    let cut =
    one_cut 10 (line_text h) (line_text g) rest past (line_lacks_feed header h counts) (line_lacks_feed header g counted)
    (sym common.whole ∙ read) in
    subst (PassesAll limits hs) (one_pair header h g counts counted cut.0)
    (record {
      before = next_before hs h [] next.dumped.bag.rises;
      small = here_has (λ (x : Held). x.count ≤ count_limit limits) hs h [] next.dumped.bag.small;
      within_limit = omega (arith, length_push hs h, next.dumped.bag.within_limit);
    })
