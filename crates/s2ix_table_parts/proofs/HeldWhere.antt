-- The held pairs and the entries whose cells pass a test.
use Rattle.std.proofs.Common.{◌≡◌, ℕ, zero, suc, ◌+◌, ◌<◌, inl, inr, Bool, true, false, cond, List, [], ◌∷◌, refl, sym, ◌∙◌, ap, arith, Contains, subst}
use Rattle.std.proofs.lemmas.Bool.{both_ways, cases_Bool, cases_eq, cases_lt, cond-true, cond-false}
use Rattle.std.proofs.lemmas.List.Elements.{All-contains, All-contains_itself, All-filter, filter_passes}
use Rattle.s2id_core.specs.declared.cell_id.CellId.{CellId}
use Rattle.s2id_core.proofs.Lists.{in_tail, at_head}
use Rattle.s2ix_bag_pairs.specs.Change.{IsChangeListFrom, changed}
use Rattle.s2ix_bag_pairs.specs.Collection.{Collection, IsCollection, IsCollectionFrom, count_at, count_in, held_with, set_count}
use Rattle.s2ix_bag_pairs.specs.Pair.{rank_of}
use Rattle.s2ix_bag_pairs.specs.declared.pair.Entry.{Entry}
use Rattle.s2ix_bag_pairs.specs.declared.pair.Held.{Held}
use Rattle.s2ix_bag_pairs.specs.declared.pair.Pair.{Pair}
use Rattle.s2ix_bag_pairs.proofs.Changes.{change_lower}
use Rattle.s2ix_bag_pairs.proofs.Collections.{set_keeps}
use Rattle.s2ix_bag_pairs.proofs.Counts.{count_head, count_tail, from_lower, set_before, set_at, set_after}
use Rattle.s2ix_bag_pairs.proofs.Pairs.{same_pair}
use Rattle.s2ix_table_parts.specs.Layers.{held_where, entries_where}

-- ---- one held pair before others

pub where_passed : (test : CellId → Bool) (h : Held) (hs : Collection) → test h.pair.cell ≡ true
    → held_where test (h ∷ hs) ≡ h ∷ held_where test hs
where_passed test h hs t = cond-true _ _ _ t

pub where_failed : (test : CellId → Bool) (h : Held) (hs : Collection) → test h.pair.cell ≡ false
    → held_where test (h ∷ hs) ≡ held_where test hs
where_failed test h hs f = cond-false _ _ _ f

-- pairs of one rank pass the same tests
same_test : (test : CellId → Bool) (p q : Pair) → rank_of p ≡ rank_of q → test p.cell ≡ test q.cell
same_test test p q e = ap (λ (r : Pair). test r.cell) (same_pair p q e)

-- ---- which they are

-- a pair of them is a held pair that passes
pub in_where : (test : CellId → Bool) (hs : Collection) (h : Held) → Contains (held_where test hs) h
    → Contains hs h × (test h.pair.cell ≡ true)
in_where test hs h c =
    let passes : Held → Bool = λ x. test x.pair.cell in (
      All-contains (Contains hs) (held_where test hs) h (All-filter passes (Contains hs) hs (All-contains_itself hs)) c,
      All-contains (λ x. passes x ≡ true) (held_where test hs) h (filter_passes passes hs) c,
    )

-- if all pass, they are all
pub all_where : (test : CellId → Bool) (hs : Collection) → ((h : Held) → Contains hs h → test h.pair.cell ≡ true) → held_where test hs ≡ hs
all_where test [] each = refl
all_where test (h ∷ hs) each =
    where_passed test h hs (each h (at_head h hs)) ∙ ap (λ xs. h ∷ xs) (all_where test hs (λ x held. each x (in_tail h hs x held)))

-- if all fail, there are none
pub none_where : (test : CellId → Bool) (hs : Collection) → ((h : Held) → Contains hs h → test h.pair.cell ≡ false) → held_where test hs ≡ []
none_where test [] each = refl
none_where test (h ∷ hs) each =
    where_failed test h hs (each h (at_head h hs)) ∙ none_where test hs (λ x held. each x (in_tail h hs x held))

-- they rise as all do
pub where_rises : (test : CellId → Bool) (n : ℕ) (hs : Collection) → IsCollectionFrom n hs → IsCollectionFrom n (held_where test hs)
where_rises test n [] c = tt
where_rises test n (h ∷ hs) c =
    let rest = where_rises test (rank_of h.pair + 1) hs c.2 in
    elim (test h.pair.cell) as (λ b. IsCollectionFrom n (cond b (h ∷ held_where test hs) (held_where test hs))) [
      | true ↦ (c.0, c.1, rest)
      | false ↦ from_lower n (rank_of h.pair + 1) (held_where test hs) (omega (arith, c.0)) rest
    ]

-- ---- their counts

-- a pair that passes has the count that it has among all
pub count_passed : (test : CellId → Bool) (hs : Collection) (p : Pair) → test p.cell ≡ true → count_in (held_where test hs) p ≡ count_in hs p
count_passed test [] p t = refl
count_passed test (h ∷ hs) p t =
    let k = rank_of p in
    let rest = count_passed test hs p t in
    elim (cases_Bool (test h.pair.cell)) [
      | inl passed ↦
          (let own = ap (λ xs. count_at xs k) (where_passed test h hs passed) in
          elim (cases_eq (rank_of h.pair) k) [
            | inl e ↦ own ∙ count_head h (held_where test hs) k e ∙ sym (count_head h hs k e)
            | inr ne ↦ own ∙ count_tail h (held_where test hs) k ne ∙ rest ∙ sym (count_tail h hs k ne)
          ])
      | inr failed ↦
          ap (λ xs. count_at xs k) (where_failed test h hs failed) ∙ rest
          ∙ sym (count_tail h hs k (λ e. both_ways (test p.cell) (sym (same_test test h.pair p e) ∙ failed) t))
    ]

-- and a pair that fails isn't one of them
pub count_failed : (test : CellId → Bool) (hs : Collection) (p : Pair) → test p.cell ≡ false → count_in (held_where test hs) p ≡ 0
count_failed test [] p f = refl
count_failed test (h ∷ hs) p f =
    let k = rank_of p in
    let rest = count_failed test hs p f in
    elim (cases_Bool (test h.pair.cell)) [
      | inl passed ↦
          ap (λ xs. count_at xs k) (where_passed test h hs passed)
          ∙ count_tail h (held_where test hs) k (λ e. both_ways (test p.cell) f (sym (same_test test h.pair p e) ∙ passed))
          ∙ rest
      | inr failed ↦ ap (λ xs. count_at xs k) (where_failed test h hs failed) ∙ rest
    ]

-- ---- the count of one pair set

-- equal lists stay equal after a held pair
past : (test : CellId → Bool) (h : Held) (hs ks : Collection) → held_where test hs ≡ held_where test ks
    → held_where test (h ∷ hs) ≡ held_where test (h ∷ ks)
past test h hs ks same =
    elim (cases_Bool (test h.pair.cell)) [
      | inl t ↦ where_passed test h hs t ∙ ap (λ x. h ∷ x) same ∙ sym (where_passed test h ks t)
      | inr f ↦ where_failed test h hs f ∙ same ∙ sym (where_failed test h ks f)
    ]

with_stays : (test : CellId → Bool) (p : Pair) (n : ℕ) (hs : Collection) → test p.cell ≡ false
    → held_where test (held_with p n hs) ≡ held_where test hs
with_stays test p zero hs f = refl
with_stays test p (suc n) hs f = where_failed test (record { pair = p; count = suc n }) hs f

-- of a pair that fails
pub set_failed : (test : CellId → Bool) (p : Pair) (n : ℕ) (hs : Collection) → test p.cell ≡ false
    → held_where test (set_count p n hs) ≡ held_where test hs
set_failed test p n [] f = with_stays test p n [] f
set_failed test p n (h ∷ hs) f =
    let On : Collection → Collection = held_where test in
    elim (cases_lt (rank_of p) (rank_of h.pair)) [
      | inl lt ↦ ap On (set_before p n h hs lt) ∙ with_stays test p n (h ∷ hs) f
      | inr le ↦
          elim (cases_eq (rank_of p) (rank_of h.pair)) [
            | inl e ↦
                ap On (set_at p n h hs e) ∙ with_stays test p n hs f ∙ sym (where_failed test h hs (sym (same_test test p h.pair e) ∙ f))
            | inr ne ↦ ap On (set_after p n h hs (omega (arith, le, ne))) ∙ past test h (set_count p n hs) hs (set_failed test p n hs f)
          ]
    ]

with_goes : (test : CellId → Bool) (p : Pair) (n : ℕ) (hs : Collection) → test p.cell ≡ true
    → held_where test (held_with p n hs) ≡ held_with p n (held_where test hs)
with_goes test p zero hs t = refl
with_goes test p (suc n) hs t = where_passed test (record { pair = p; count = suc n }) hs t

-- where no pair is by a rank, the pair of that rank comes first
set_first : (p : Pair) (n : ℕ) (hs : Collection) → IsCollectionFrom (rank_of p + 1) hs → set_count p n hs ≡ held_with p n hs
set_first p n [] c = refl
set_first p n (h ∷ hs) c = set_before p n h hs (omega (arith, c.0))

-- of a pair that passes
pub set_passed : (test : CellId → Bool) (p : Pair) (n m : ℕ) (hs : Collection) → IsCollectionFrom m hs → test p.cell ≡ true
    → held_where test (set_count p n hs) ≡ set_count p n (held_where test hs)
set_passed test p n m [] c t = with_goes test p n [] t
set_passed test p n m (h ∷ hs) c t =
    let On : Collection → Collection = held_where test in
    elim (cases_lt (rank_of p) (rank_of h.pair)) [
      | inl lt ↦
          (let above : IsCollectionFrom (rank_of p + 1) (h ∷ hs) = (omega (arith, lt), c.1, c.2) in
          ap On (set_before p n h hs lt) ∙ with_goes test p n (h ∷ hs) t
          ∙ sym (set_first p n (On (h ∷ hs)) (where_rises test (rank_of p + 1) (h ∷ hs) above)))
      | inr le ↦
          elim (cases_eq (rank_of p) (rank_of h.pair)) [
            | inl e ↦
                ap On (set_at p n h hs e) ∙ with_goes test p n hs t ∙ sym (set_at p n h (On hs) e)
                ∙ ap (set_count p n) (sym (where_passed test h hs (sym (same_test test p h.pair e) ∙ t)))
            | inr ne ↦
                (let more : rank_of h.pair < rank_of p = omega (arith, le, ne) in
                let rest = set_passed test p n (rank_of h.pair + 1) hs c.2 t in
                elim (cases_Bool (test h.pair.cell)) [
                  | inl passed ↦
                      ap On (set_after p n h hs more) ∙ where_passed test h (set_count p n hs) passed ∙ ap (λ x. h ∷ x) rest
                      ∙ sym (set_after p n h (On hs) more) ∙ ap (set_count p n) (sym (where_passed test h hs passed))
                  | inr failed ↦
                      ap On (set_after p n h hs more) ∙ where_failed test h (set_count p n hs) failed ∙ rest
                      ∙ ap (set_count p n) (sym (where_failed test h hs failed))
                ])
          ]
    ]

-- ---- a change

-- passing entries rise as all do
pub entries_rise : (test : CellId → Bool) (n : ℕ) (es : List Entry) → IsChangeListFrom n es → IsChangeListFrom n (entries_where test es)
entries_rise test n [] c = tt
entries_rise test n (e ∷ es) c =
    let kept = entries_where test es in
    let rest = entries_rise test (rank_of e.pair + 1) es c.2 in
    elim (cases_Bool (test e.pair.cell)) [
      | inl t ↦ subst (IsChangeListFrom n) (sym (cond-true _ (e ∷ kept) kept t)) (c.0, c.1, rest)
      | inr f ↦
          subst (IsChangeListFrom n) (sym (cond-false _ (e ∷ kept) kept f)) (change_lower n (rank_of e.pair + 1) kept (omega (arith, c.0)) rest)
    ]

-- what passes after a change is what the passing entries make of what passed before
pub changed_where : (test : CellId → Bool) (hs : Collection) (es : List Entry) → IsCollection hs
    → held_where test (changed hs es) ≡ changed (held_where test hs) (entries_where test es)
changed_where test hs [] c = refl
changed_where test hs (e ∷ es) c =
    let rest = changed_where test (set_count e.pair e.after hs) es (set_keeps e.pair e.after hs c) in
    let kept = entries_where test es in
    elim (cases_Bool (test e.pair.cell)) [
      | inl t ↦
          rest ∙ ap (λ x. changed x kept) (set_passed test e.pair e.after 0 hs c t)
          ∙ ap (changed (held_where test hs)) (sym (cond-true _ (e ∷ kept) kept t))
      | inr f ↦
          rest ∙ ap (λ x. changed x kept) (set_failed test e.pair e.after hs f)
          ∙ ap (changed (held_where test hs)) (sym (cond-false _ (e ∷ kept) kept f))
    ]
