-- One more target is answered, or the next one is not.
use Rattle.std.proofs.Common.{◌≡◌, ◌<◌, ◌≤◌, ◌+◌, ◌∙◌, ℕ, List, [], ◌∷◌, ◌++◌, length, take, get_or, slice_set, flat_map, refl, sym, ap, subst, inl, inr, arith, length-append}
use Rattle.std.proofs.lemmas.Bool.{cases_eq}
use Rattle.std.proofs.lemmas.List.{flat_map_more, get_or-append-add, get_or-set_other, get_or-set_same, get_or_append_left, length-set, length-take, length-take-le, take-append-le, take_all, take_at}
use Rattle.std.proofs.Math.Seq.{take-append-add}
use Rattle.s2id_core.specs.declared.cell_id.CellId.{CellId}
use Rattle.s2ix_c_calls.specs.Asked.{AreCells, LacksUnion}
use Rattle.s2ix_c_calls.specs.Each.{AreMet, IsNext, IsTarget, PutsNext, target_begin, target_count, target_end, target_ids}
use Rattle.s2ix_c_calls.specs.Lists.{FillsOf, IsFilled}
use Rattle.s2ix_c_calls.specs.Status.{done, out_of_memory}
use Rattle.s2ix_c_calls.proofs.OfNumbers.{lacks_cell}

-- ---- a list is put to a part of a buffer

module _ {A : Type 0} (from : ℕ) (old was part rest new : List A) (within : from ≤ length old) (long : from + length was ≡ length old)
    (same : length part ≡ length was) (is : new ≡ take from old ++ (part ++ rest)) where
  stays_before : take from new ≡ take from old
  stays_before = ap (take from) is ∙ take_at (take from old) (part ++ rest) from (length-take-le from old within)

  put_behind : (list : List A) (number : ℕ) → IsFilled list done number was part → IsNext list from (from + number) old new
  put_behind list number put =
      let front = put.put refl in
      let short : number ≤ length part = omega (arith, ap length front, put.long, length-take number part) in record {
        counted = ap (λ n. from + n) put.long;
        within = omega arith;
        put = ap (take (from + number)) is
            ∙ ap (λ n. take (n + number) (take from old ++ (part ++ rest))) (sym (length-take-le from old within))
            ∙ take-append-add (take from old) (part ++ rest) number
            ∙ ap (λ l. take from old ++ l) (take-append-le number part rest short ∙ front);
      }

  module _ (list : List CellId → List A) (wants : List ℕ → Type 0) (ids : List ℕ) (status number to : ℕ) (moved : status ≡ done → to ≡ from + number) where
    puts_list : (cells : List CellId) → AreCells ids cells → IsFilled (list cells) status number was part → PutsNext list wants ids status from to old new
    puts_list cells are put =
        elim (cases_eq status done) [
          | inl is_done ↦ record {
            before = stays_before;
            put = λ _. (
              cells,
              are,
              subst (λ (n : ℕ). IsNext (list cells) from n old new) (sym (moved is_done))
                  (put_behind (list cells) number (subst (λ (s : ℕ). IsFilled (list cells) s number was part) is_done put)),
            );
            wrong_cell = λ e. absurd (omega arith);
            memory = λ e. absurd (omega arith);
            short = λ e. absurd (omega arith);
            only = inl is_done;
          }
          | inr not_done ↦
              let short = put.short not_done in record {
                before = stays_before;
                put = λ e. absurd (not_done e);
                wrong_cell = λ e. absurd (omega (arith, short.0));
                memory = λ e. absurd (omega (arith, short.0));
                short = λ _. (cells, are, omega (arith, short.1, put.long));
                only = inr (inr (inr short.0));
              }
        ]

    puts_none : LacksUnion ids status number → (status ≡ out_of_memory → wants ids) → PutsNext list wants ids status from to old new
    puts_none lacks some =
        elim lacks [
          | inl wrong ↦
              let is_wrong = wrong.0 in record {
                before = stays_before;
                put = λ e. absurd (omega arith);
                wrong_cell = λ _. lacks_cell ids number wrong.1;
                memory = λ e. absurd (omega arith);
                short = λ e. absurd (omega arith);
                only = inr (inl is_wrong);
              }
          | inr wanted ↦
              let is_wanted = wanted.0 in record {
                before = stays_before;
                put = λ e. absurd (omega arith);
                wrong_cell = λ e. absurd (omega arith);
                memory = λ e. (wanted.2, some e);
                short = λ e. absurd (omega arith);
                only = inr (inr (inl is_wanted));
              }
        ]

    pub puts_next : FillsOf list ids status number was part → (status ≡ out_of_memory → wants ids) → PutsNext list wants ids status from to old new
    puts_next lists some =
        elim lists [
          | inl put ↦ puts_list put.0 put.1 put.2
          | inr refused ↦ puts_none refused.0 some
        ]

-- ---- one more target

-- so many targets are answered, and where the list of the next one will begin
pub record HasMet {A : Type 0} (list : List CellId → List A) (ids bounds : List ℕ) (answered count : ℕ) (ends : List ℕ) (out : List A) : Type 0 where
  pub targets : List (List CellId)
  pub places : answered ≡ length targets
  pub front : AreMet list ids bounds targets ends out
  pub counted : count ≡ length (flat_map list targets)
  pub room : count ≤ length out
  pub within : answered ≤ target_count bounds

pub nothing_met : {A : Type 0} (list : List CellId → List A) (ids bounds ends : List ℕ) (out : List A) → HasMet list ids bounds 0 0 ends out
nothing_met list ids bounds ends out = record {
  targets = [];
  places = refl;
  front = record { asked = λ k less. absurd (omega arith); listed = omega arith; counted = λ k less. absurd (omega arith); put = refl };
  counted = refl;
  room = omega arith;
  within = omega arith;
}

module _ {A : Type 0} (list : List CellId → List A) (ids bounds : List ℕ) (targets : List (List CellId)) (cells : List CellId) (ends : List ℕ)
    (old new : List A) (place count to : ℕ) (places : place ≡ length targets) (counted : count ≡ length (flat_map list targets))
    (front : AreMet list ids bounds targets ends old) (next : IsNext (list cells) count to old new) where
  more : List (List CellId)
  more = targets ++ cells ∷ []

  lists_more : flat_map list targets ++ list cells ≡ flat_map list more
  unfolding more
  lists_more = flat_map_more list [] targets cells

  one_longer : length more ≡ place + 1
  unfolding more
  one_longer = omega (arith, length-append targets (cells ∷ []))

  ends_there : to ≡ length (flat_map list more)
  ends_there = next.counted ∙ omega (arith, length-append (flat_map list targets) (list cells), ap length lists_more)

  target_at : IsTarget ids bounds place cells → (k : ℕ) → k < length more → IsTarget ids bounds k (get_or more k [])
  unfolding more
  target_at target k less =
      elim (cases_eq k place) [
        | inl is ↦
            let there : get_or more k [] ≡ cells =
            ap (λ n. get_or more n []) (is ∙ places ∙ omega arith) ∙ get_or-append-add targets (cells ∷ []) 0 [] in
            subst (λ (n : ℕ). IsTarget ids bounds n (get_or more k [])) (sym is) (subst (λ (t : List CellId). IsTarget ids bounds place t) (sym there) target)
        | inr other ↦
            let before : k < length targets = omega (arith, one_longer) in
            subst (λ (t : List CellId). IsTarget ids bounds k t) (sym (get_or_append_left targets (cells ∷ []) [] k before)) (front.asked k before)
      ]

  end_at : place < length ends → (k : ℕ) → k < length more → get_or (slice_set ends place to) k 0 ≡ length (flat_map list (take (k + 1) more))
  unfolding more
  end_at listed k less =
      elim (cases_eq k place) [
        | inl is ↦
            let whole : take (k + 1) more ≡ more = take_all (k + 1) more (omega (arith, one_longer)) in
            ap (λ n. get_or (slice_set ends place to) n 0) is ∙ get_or-set_same ends place to 0 listed ∙ ends_there
            ∙ sym (ap (λ l. length (flat_map list l)) whole)
        | inr other ↦
            let before : k < length targets = omega (arith, one_longer) in
            get_or-set_other ends place k to 0 other ∙ front.counted k before
            ∙ sym (ap (λ l. length (flat_map list l)) (take-append-le (k + 1) targets (cells ∷ []) (omega arith)))
      ]

  pub target_more : place < length ends → IsTarget ids bounds place cells → AreMet list ids bounds (targets ++ cells ∷ []) (slice_set ends place to) new
  unfolding more
  target_more listed target = record {
    asked = target_at target;
    listed = omega (arith, one_longer, length-set ends place to);
    counted = end_at listed;
    put = ap (λ n. take n new) (sym ends_there) ∙ next.put
        ∙ ap (λ l. l ++ list cells) (ap (λ n. take n old) counted ∙ front.put) ∙ lists_more;
  }

-- what was put for the next target is one more list
module _ {A : Type 0} (list : List CellId → List A) (ids bounds : List ℕ) (answered count : ℕ) (ends : List ℕ) (out : List A)
    (met : HasMet list ids bounds answered count ends out) (within : answered < target_count bounds)
    (rising : target_begin bounds answered ≤ target_end bounds answered) (listed : target_end bounds answered ≤ length ids) where
  is_target : (cells : List CellId) → AreCells (target_ids ids bounds answered) cells → IsTarget ids bounds answered cells
  is_target cells are = record { span = record { within = within; rising = rising; listed = listed }; named = are }

  pub met_more : (wants : List ℕ → Type 0) (status to : ℕ) (new : List A) → length new ≡ length out → answered < length ends → status ≡ done
      → PutsNext list wants (target_ids ids bounds answered) status count to out new
      → HasMet list ids bounds (answered + 1) to (slice_set ends answered to) new
  met_more wants status to new long_new has_end is_done puts =
      let put = puts.put is_done in
      let next = put.2 in
      let long = length-append met.targets (put.0 ∷ []) in record {
        targets = met.targets ++ put.0 ∷ [];
        places = omega (arith, met.places, long);
        front = target_more list ids bounds met.targets put.0 ends out new answered count to met.places met.counted met.front next has_end
            (is_target put.0 put.1);
        counted = next.counted ∙ omega (
          arith,
          met.counted,
          length-append (flat_map list met.targets) (list put.0),
          ap length (flat_map_more list [] met.targets put.0),
        );
        room = omega (arith, next.within, long_new);
        within = omega arith;
      }
