-- The last change, which is the first to be taken back.
use Rattle.std.proofs.Common.{◌≡◌, ◌+◌, List, [], ◌∷◌, ◌++◌, length, take, Option, Some, None, sym, ap, ◌∙◌, subst, arith, length-append}
use Rattle.std.specs.Option.{option_map, option_or}
use Rattle.s2ix_bag_lists.specs.declared.errors.ApplyError.{ApplyError}
use Rattle.s2ix_bag_lists.specs.Apply.{apply_refusal}
use Rattle.s2ix_bag_pairs.specs.Change.{inverse_of}
use Rattle.s2ix_bag_pairs.specs.Collection.{LimitedCollection}
use Rattle.s2ix_bag_pairs.specs.declared.pair.Entry.{Entry}
use Rattle.s2ix_bag.specs.Replay.{Numbered, first_refusal, refusal_numbered, way_back, with_numbers}
use Rattle.s2ix_bag.proofs.Forth.{refusal_here}
use Rattle.s2ix_bag.proofs.Back.{change_at, numbered_push, way_back_push}

-- the way back begins with what takes the last change back
last_back : (rest : List (List Entry)) (es : List Entry)
    → take 1 (way_back (with_numbers (rest ++ es ∷ []))) ≡ change_at (length rest) (inverse_of es) ∷ []
last_back rest es =
    ap (λ cs. take 1 (way_back cs)) (numbered_push 1 rest es)
    ∙ ap (λ cs. take 1 cs) (way_back_push (with_numbers rest) (record { number = 1 + length rest; change = es }))
    ∙ ap (λ n. let c : Numbered = record { number = n; change = inverse_of es } in c ∷ []) (omega arith)

length_push : (rest : List (List Entry)) (es : List Entry) → length (rest ++ es ∷ []) ≡ length rest + 1
length_push rest es = length-append rest (es ∷ [])

-- it is refused
refused_after : (bag : LimitedCollection) (rest : List (List Entry)) (es : List Entry) (error : ApplyError)
    → apply_refusal bag (inverse_of es) ≡ Some error
    → first_refusal bag (take 1 (way_back (with_numbers (rest ++ es ∷ [])))) ≡ Some (refusal_numbered (length (rest ++ es ∷ [])) error)
refused_after bag rest es error refused =
    ap (first_refusal bag) (last_back rest es)
    ∙ refusal_here bag (change_at (length rest) (inverse_of es)) [] (refusal_numbered (length rest + 1) error)
    (ap (option_map (refusal_numbered (length rest + 1))) refused)
    ∙ ap (λ n. Some (refusal_numbered n error)) (sym (length_push rest es))

pub last_refused : (bag : LimitedCollection) (changes rest : List (List Entry)) (es : List Entry) (error : ApplyError)
    → changes ≡ rest ++ es ∷ [] → apply_refusal bag (inverse_of es) ≡ Some error
    → first_refusal bag (take 1 (way_back (with_numbers changes))) ≡ Some (refusal_numbered (length changes) error)
last_refused bag changes rest es error is refused =
    let Refused : List (List Entry) → Type 0 =
    λ cs. first_refusal bag (take 1 (way_back (with_numbers cs))) ≡ Some (refusal_numbered (length cs) error) in
    subst Refused (sym is) (refused_after bag rest es error refused)

-- it is taken
pub last_taken : (bag : LimitedCollection) (changes rest : List (List Entry)) (es : List Entry) → changes ≡ rest ++ es ∷ []
    → apply_refusal bag (inverse_of es) ≡ None → first_refusal bag (take 1 (way_back (with_numbers changes))) ≡ None
last_taken bag changes rest es is taken =
    let Taken : List (List Entry) → Type 0 = λ cs. first_refusal bag (take 1 (way_back (with_numbers cs))) ≡ None in
    subst Taken (sym is)
    (ap (first_refusal bag) (last_back rest es)
    ∙ ap (λ (r : Option ApplyError). option_or (option_map (refusal_numbered (length rest + 1)) r) None) taken)
