-- A text without a fault has none in any of its lines.
use Rattle.std.proofs.Common.{◌≡◌, ℕ, ◌+◌, Option, Some, None, List, [], ◌∷◌, ◌++◌, length, refl, sym, ◌∙◌, subst, append_assoc}
use Rattle.std.proofs.lemmas.List.{append-nil}
use Rattle.s2ix_bag_pairs.specs.declared.limits.Limits.{Limits}
use Rattle.s2ix_text_parts.specs.LineFaults.{LineAt, fault_below}
use Rattle.s2ix_text_parts.proofs.FirstFault.{found_here, found_later, place}

none_at : {F : Type 0} (fault : LineAt → Option F) (limits : Limits) (above : List (List ℕ)) (line : List ℕ) (lines : List (List ℕ))
    (o : Option F)
    → fault (place limits above line lines) ≡ o → fault_below fault limits above (line ∷ lines) ≡ None
    → fault (place limits above line lines) ≡ None
none_at {F = F} fault limits above line lines None is none = is
none_at {F = F} fault limits above line lines (Some it) is none =
    let clash : ◌≡◌ {A = Option (ℕ × F)} (Some (length above + 1, it)) None = sym (found_here fault limits above line lines it is) ∙ none in
    cc

pub none_here : {F : Type 0} (fault : LineAt → Option F) (limits : Limits) (above : List (List ℕ)) (line : List ℕ) (lines : List (List ℕ))
    → fault_below fault limits above (line ∷ lines) ≡ None → fault (place limits above line lines) ≡ None
none_here fault limits above line lines none = none_at fault limits above line lines (fault (place limits above line lines)) refl none

pub none_later : {F : Type 0} (fault : LineAt → Option F) (limits : Limits) (above : List (List ℕ)) (line : List ℕ) (lines : List (List ℕ))
    → fault_below fault limits above (line ∷ lines) ≡ None → fault_below fault limits (above ++ line ∷ []) lines ≡ None
none_later fault limits above line lines none =
    sym (found_later fault limits above line lines (none_here fault limits above line lines none)) ∙ none

pub none_among : {F : Type 0} (fault : LineAt → Option F) (limits : Limits) (front above : List (List ℕ)) (line : List ℕ)
    (below : List (List ℕ))
    → fault_below fault limits front (above ++ line ∷ below) ≡ None → fault (place limits (front ++ above) line below) ≡ None
none_among fault limits front [] line below none =
    subst (λ (ls : List (List ℕ)). fault (place limits ls line below) ≡ None) (sym (append-nil front))
    (none_here fault limits front line below none)
none_among fault limits front (first ∷ above) line below none =
    subst (λ (ls : List (List ℕ)). fault (place limits ls line below) ≡ None) (append_assoc front (first ∷ []) above)
    (none_among fault limits (front ++ first ∷ []) above line below (none_later fault limits front first (above ++ line ∷ below) none))
