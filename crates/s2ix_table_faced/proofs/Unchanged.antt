-- A change without an entry on a face leaves what is held there as it is.
use Rattle.std.proofs.Common.{◌≡◌, ℕ, Bool, false, List, [], ◌∷◌, refl, sym, ap, ◌∙◌, ⊎_elim, true≢false, eq-eqb, ne_eqb}
use Rattle.std.specs.Prelude.{◌==◌, ◌||◌}
use Rattle.std.proofs.lemmas.Bool.{cases_eq, cond-true, cond-false}
use Rattle.s2id_core.specs.CellId.{face_of}
use Rattle.s2ix_bag_pairs.specs.Change.{changed}
use Rattle.s2ix_bag_pairs.specs.Collection.{Collection, set_count}
use Rattle.s2ix_bag_pairs.specs.declared.pair.Entry.{Entry}
use Rattle.s2ix_bag_pairs.specs.declared.pair.Held.{Held}
use Rattle.s2ix_bag_pairs.specs.declared.pair.Pair.{Pair}
use Rattle.s2ix_table_kept.specs.Faces.{held_on, has_entry_on}
use Rattle.s2ix_table_parts.proofs.HeldWhere.{set_failed}

-- ---- one held pair before others

pub on_face : (face : ℕ) (h : Held) (hs : Collection) → face_of h.pair.cell ≡ face → held_on face (h ∷ hs) ≡ h ∷ held_on face hs
on_face face h hs e = cond-true _ _ _ (eq-eqb _ _ e)

pub off_face : (face : ℕ) (h : Held) (hs : Collection) → (face_of h.pair.cell ≡ face → ⊥) → held_on face (h ∷ hs) ≡ held_on face hs
off_face face h hs ne = cond-false _ _ _ (ne_eqb _ _ ne)

-- ---- one pair of another face

pub set_stays : (face : ℕ) (p : Pair) (n : ℕ) (hs : Collection) → (face_of p.cell ≡ face → ⊥)
    → held_on face (set_count p n hs) ≡ held_on face hs
set_stays face p n hs ne = set_failed (λ c. face_of c == face) p n hs (ne_eqb _ _ ne)

-- ---- a whole change

none_on : (face : ℕ) (e : Entry) (es : List Entry) → has_entry_on (e ∷ es) face ≡ false
    → (face_of e.pair.cell ≡ face → ⊥) × (has_entry_on es face ≡ false)
none_on face e es none =
    let Either : Bool → Bool = λ b. b || has_entry_on es face in
    ⊎_elim
    (λ on. absurd (true≢false (sym (ap Either (eq-eqb _ _ on)) ∙ none)))
    (λ apart. (apart, sym (ap Either (ne_eqb _ _ apart)) ∙ none))
    (cases_eq (face_of e.pair.cell) face)

pub unchanged_stay : (hs : Collection) (es : List Entry) (face : ℕ) → has_entry_on es face ≡ false
    → held_on face (changed hs es) ≡ held_on face hs
unchanged_stay hs [] face none = refl
unchanged_stay hs (e ∷ es) face none =
    let parts = none_on face e es none in
    unchanged_stay (set_count e.pair e.after hs) es face parts.1 ∙ set_stays face e.pair e.after hs parts.0
