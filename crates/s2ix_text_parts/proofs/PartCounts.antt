-- Lines of two parts and of four.
use Rattle.std.proofs.Common.{◌≡◌, ◌==◌, ◌&&◌, ℕ, ◌<◌, ◌≤◌, true, false, not, List, [], ◌∷◌, ◌++◌, All, length, get_or, refl, sym, ap, ◌∙◌, arith}
use Rattle.std.specs.Prelude.{is_some, IfNone, Option, None, Some, slice_index_or}
use Rattle.std.specs.List.{join_with_byte, list_all}
use Rattle.std.proofs.lemmas.Bool.{and_left, and_parts, eqb-true, ne_eqb}
use Rattle.std.proofs.lemmas.List.Elements.{All-append, All-cons}
use Rattle.std.proofs.lemmas.List.Splits.{join_with_byte-slice_split, slice_split_at, slice_split_none}
use Rattle.s2ix_text_parts.specs.Lines.{has_parts, is_nil, parts_of}
use Rattle.s2ix_text_parts.proofs.Pieces.{Lacks, some_parts}

-- bytes above the space have no space and no line feed
pub graphic_lacks : (x : ℕ) (text : List ℕ) → x ≤ 32 → All (λ byte. 32 < byte) text → Lacks x text
graphic_lacks x text low graphic =
    λ k d within. let above : 32 < get_or text k d = graphic k d within in ne_eqb (get_or text k d) x (λ same. omega (arith, same))

pub lacks_feed_more : (a b : List ℕ) → All (λ byte. 32 < byte) a → Lacks 10 b → Lacks 10 (a ++ 32 ∷ b)
lacks_feed_more a b graphic none =
    let Other : ℕ → Type 0 = λ byte. (byte == 10) ≡ false in
    All-append Other a (32 ∷ b) (graphic_lacks 10 a (omega arith) graphic) (All-cons Other 32 b refl none)

-- a line cut at its first space
pub parts_more : (a b : List ℕ) → All (λ byte. 32 < byte) a → parts_of (a ++ 32 ∷ b) ≡ a ∷ parts_of b
unfolding parts_of
parts_more a b graphic = slice_split_at (λ byte. byte == 32) a 32 b (graphic_lacks 32 a (omega arith) graphic) refl

pub parts_last : (a : List ℕ) → All (λ byte. 32 < byte) a → parts_of a ≡ a ∷ []
unfolding parts_of
parts_last a graphic = slice_split_none (λ byte. byte == 32) a (graphic_lacks 32 a (omega arith) graphic)

-- ---- two parts

-- three parts or more are not two
pub not_two : (line second third rest first : List ℕ) → parts_of line ≡ first ∷ parts_of second → parts_of second ≡ third ∷ parts_of rest
    → has_parts 2 line ≡ false
not_two line second third rest first one more =
    let long : length (parts_of line) ≡ 2 → ⊥ = λ two. omega (arith, two, ap length one, ap length more, some_parts rest) in
    and_left (length (parts_of line) == 2) _ (ne_eqb _ _ long)

pub two_joined : (line a b : List ℕ) → parts_of line ≡ a ∷ b ∷ [] → line ≡ a ++ 32 ∷ b
unfolding parts_of
two_joined line a b are = sym (join_with_byte-slice_split 32 line) ∙ ap (join_with_byte 32) are

pub two_from_parts : (line a b : List ℕ) → parts_of line ≡ a ∷ b ∷ [] → is_nil a ≡ false → is_nil b ≡ false → has_parts 2 line ≡ true
two_from_parts line a b are some_a some_b =
    ap (λ (ps : List (List ℕ)). (length ps == 2) && list_all (λ text. not (is_nil text)) ps) are ∙ rw (some_a, some_b) refl

two_list : (ps : List (List ℕ)) → length ps ≡ 2 → ps ≡ slice_index_or ps 0 [] ∷ slice_index_or ps 1 [] ∷ []
two_list [] long = absurd (omega arith)
two_list (a ∷ []) long = absurd (omega arith)
two_list (a ∷ (b ∷ [])) long = refl
two_list (a ∷ (b ∷ (c ∷ ps))) long = absurd (omega arith)

pub two_are : (line : List ℕ) → has_parts 2 line ≡ true
    → parts_of line ≡ slice_index_or (parts_of line) 0 [] ∷ slice_index_or (parts_of line) 1 [] ∷ []
two_are line two = two_list (parts_of line) (eqb-true _ _ (and_parts (length (parts_of line) == 2) _ two).0)

-- ---- four parts

-- five parts or more are not four
pub not_four : (line fourth fifth rest first second third : List ℕ) → parts_of line ≡ first ∷ second ∷ third ∷ parts_of fourth
    → parts_of fourth ≡ fifth ∷ parts_of rest → has_parts 4 line ≡ false
not_four line fourth fifth rest first second third three more =
    let long : length (parts_of line) ≡ 4 → ⊥ = λ four. omega (arith, four, ap length three, ap length more, some_parts rest) in
    and_left (length (parts_of line) == 4) _ (ne_eqb _ _ long)

pub four_joined : (line a b c d : List ℕ) → parts_of line ≡ a ∷ b ∷ c ∷ d ∷ [] → line ≡ a ++ 32 ∷ (b ++ 32 ∷ (c ++ 32 ∷ d))
unfolding parts_of
four_joined line a b c d are = sym (join_with_byte-slice_split 32 line) ∙ ap (join_with_byte 32) are

pub four_from_parts : (line a b c d : List ℕ) → parts_of line ≡ a ∷ b ∷ c ∷ d ∷ [] → is_nil a ≡ false → is_nil b ≡ false → is_nil c ≡ false
    → is_nil d ≡ false → has_parts 4 line ≡ true
four_from_parts line a b c d are some_a some_b some_c some_d =
    ap (λ (ps : List (List ℕ)). (length ps == 4) && list_all (λ text. not (is_nil text)) ps) are ∙ rw (some_a, some_b, some_c, some_d) refl

four_list : (ps : List (List ℕ)) → length ps ≡ 4
    → ps ≡ slice_index_or ps 0 [] ∷ slice_index_or ps 1 [] ∷ slice_index_or ps 2 [] ∷ slice_index_or ps 3 [] ∷ []
four_list [] long = absurd (omega arith)
four_list (a ∷ []) long = absurd (omega arith)
four_list (a ∷ (b ∷ [])) long = absurd (omega arith)
four_list (a ∷ (b ∷ (c ∷ []))) long = absurd (omega arith)
four_list (a ∷ (b ∷ (c ∷ (d ∷ [])))) long = refl
four_list (a ∷ (b ∷ (c ∷ (d ∷ (e ∷ ps))))) long = absurd (omega arith)

pub four_are : (line : List ℕ) → has_parts 4 line ≡ true
    → parts_of line ≡ slice_index_or (parts_of line) 0 [] ∷ slice_index_or (parts_of line) 1 [] ∷ slice_index_or (parts_of line) 2
    [] ∷ slice_index_or (parts_of line) 3 [] ∷ []
four_are line four = four_list (parts_of line) (eqb-true _ _ (and_parts (length (parts_of line) == 4) _ four).0)

-- what a clause says where an answer has no value
pub none_clause : {A : Type 0} (o : Option A) (P : Type 0) → is_some o ≡ false → IfNone o P → P
none_clause None P none clause = clause
none_clause (Some x) P none clause = cc
