-- The first fault of a text, one line further.
use Rattle.std.proofs.Common.{◌≡◌, ℕ, ◌+◌, ◌≤◌, Bool, false, not, true, ◌&&◌, Option, Some, None, List, [], ◌∷◌, ◌++◌, length, refl, ap, ◌∙◌, arith}
use Rattle.std.specs.Option.{option_map, option_or}
use Rattle.std.proofs.lemmas.List.{length_push}
use Rattle.s2ix_bag_pairs.specs.declared.limits.Limits.{Limits}
use Rattle.s2ix_text_parts.specs.LineFaults.{IsFromLine, LineAt, fault_below}
use Rattle.s2ix_text_parts.specs.Lines.{is_nil}

-- where a line among others stands
abbrev pub place : Limits → List (List ℕ) → List ℕ → List (List ℕ) → LineAt
place limits above line lines = record { limits = limits; above = above; line = line; ended = not (is_nil lines) }

pub found_here : {F : Type 0} (fault : LineAt → Option F) (limits : Limits) (above : List (List ℕ)) (line : List ℕ) (lines : List (List ℕ))
    (it : F)
    → fault (place limits above line lines) ≡ Some it → fault_below fault limits above (line ∷ lines) ≡ Some (length above + 1, it)
unfolding fault_below
found_here {F = F} fault limits above line lines it is =
    ap (λ (o : Option F). option_or (option_map (λ (x : F). (length above + 1, x)) o) (fault_below fault limits (above ++ line ∷ []) lines))
    is

pub found_later : {F : Type 0} (fault : LineAt → Option F) (limits : Limits) (above : List (List ℕ)) (line : List ℕ) (lines : List (List ℕ))
    → fault (place limits above line lines) ≡ None
    → fault_below fault limits above (line ∷ lines) ≡ fault_below fault limits (above ++ line ∷ []) lines
unfolding fault_below
found_later {F = F} fault limits above line lines is =
    ap (λ (o : Option F). option_or (option_map (λ (x : F). (length above + 1, x)) o) (fault_below fault limits (above ++ line ∷ []) lines))
    is

pub found_nowhere : {F : Type 0} (fault : LineAt → Option F) (limits : Limits) (above : List (List ℕ))
    → fault_below fault limits above [] ≡ None
unfolding fault_below
found_nowhere fault limits above = refl

-- a fault of a text stands in its first line or after it
from_line_or : {F : Type 0} (n k : ℕ) (o : Option F) (later : Option (ℕ × F)) → n ≤ k → IsFromLine n later
    → IsFromLine n (option_or (option_map (λ (x : F). (k, x)) o) later)
from_line_or n k None later le from = from
from_line_or n k (Some it) later le from = le

pub found_from : {F : Type 0} (fault : LineAt → Option F) (limits : Limits) (n : ℕ) (above lines : List (List ℕ)) → n ≤ length above + 1
    → IsFromLine n (fault_below fault limits above lines)
unfolding fault_below
found_from fault limits n above [] le = tt
found_from fault limits n above (line ∷ lines) le =
    from_line_or n (length above + 1) _ _ le (found_from fault limits n (above ++ line ∷ []) lines (omega (arith, length_push above line)))

-- a line with its line feed has more lines below it
pub ended : (limits : Limits) (above : List (List ℕ)) (line : List ℕ) (lines : List (List ℕ)) → is_nil lines ≡ false
    → place limits above line lines ≡ record { limits = limits; above = above; line = line; ended = true }
ended limits above line lines some =
    ap (λ (b : Bool). let made : LineAt = record { limits = limits; above = above; line = line; ended = not b } in made) some

-- a test that is made if another one holds
pub applies : (b x y : Bool) → b ≡ true → x ≡ y → (b && x) ≡ y
applies b x y is same = ap (λ t. t && x) is ∙ same
