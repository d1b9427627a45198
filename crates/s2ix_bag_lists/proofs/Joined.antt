-- Rising lists one after the other: counts, and what a change makes of one of them.
use Rattle.std.proofs.Common.{◌≡◌, ℕ, zero, suc, ◌+◌, ◌<◌, ◌≤◌, List, [], ◌∷◌, ◌++◌, refl, sym, ap, ◌∙◌, subst, ⊎_elim, arith}
use Rattle.std.proofs.lemmas.Bool.{cases_eq, cases_order}
use Rattle.s2ix_bag_pairs.specs.Collection.{Collection, IsCollectionFrom, AreBelow, count_at, held_with, set_count}
use Rattle.s2ix_bag_pairs.specs.Change.{IsChangeListFrom, changed}
use Rattle.s2ix_bag_pairs.specs.Pair.{rank_of}
use Rattle.s2ix_bag_pairs.specs.declared.pair.Pair.{Pair}
use Rattle.s2ix_bag_pairs.specs.declared.pair.Entry.{Entry}
use Rattle.s2ix_bag_pairs.proofs.Counts.{count_head, count_tail, count_below, from_lower, set_before, set_at, set_after}
use Rattle.s2ix_bag_pairs.proofs.Changes.{changed-append, set_in_front}
use Rattle.s2ix_bag_lists.specs.Faces.{AreEntriesBelow}
use Rattle.s2ix_bag_lists.specs.Apply.{AreBefore}
use Rattle.s2ix_bag_lists.proofs.Applied.{before_rest}
use Rattle.s2ix_bag_pairs.proofs.CutAtRank.{held_with_append}

-- ---- lists one after the other

pub below_more : (m n : ℕ) (hs : Collection) → m ≤ n → AreBelow m hs → AreBelow n hs
below_more m n [] le below = tt
below_more m n (h ∷ hs) le below = (omega (arith, le, below.0), below_more m n hs le below.1)

pub below_append : (n : ℕ) (hs ks : Collection) → AreBelow n hs → AreBelow n ks → AreBelow n (hs ++ ks)
below_append n [] ks hs_below ks_below = ks_below
below_append n (h ∷ hs) ks hs_below ks_below = (hs_below.0, below_append n hs ks hs_below.1 ks_below)

pub below_in_back : (n : ℕ) (fs hs : Collection) → AreBelow n (fs ++ hs) → AreBelow n hs
below_in_back n [] hs below = below
below_in_back n (f ∷ fs) hs below = below_in_back n fs hs below.1

pub from_append : (m n : ℕ) (hs ks : Collection) → m ≤ n → IsCollectionFrom m hs → AreBelow n hs → IsCollectionFrom n ks
    → IsCollectionFrom m (hs ++ ks)
from_append m n [] ks le hs_is below ks_is = from_lower m n ks le ks_is
from_append m n (h ∷ hs) ks le hs_is below ks_is =
    (hs_is.0, hs_is.1, from_append (rank_of h.pair + 1) n hs ks (omega (arith, below.0)) hs_is.2 below.1 ks_is)

-- nothing lies from a rank on and below it
pub none_between : (n : ℕ) (hs : Collection) → IsCollectionFrom n hs → AreBelow n hs → hs ≡ []
none_between n [] hs_is below = refl
none_between n (h ∷ hs) hs_is below = absurd (omega (arith, hs_is.0, below.0))

-- ---- counts

pub count_front : (n k : ℕ) (fs hs : Collection) → AreBelow n fs → n ≤ k → count_at (fs ++ hs) k ≡ count_at hs k
count_front n k [] hs below le = refl
count_front n k (f ∷ fs) hs below le =
    count_tail f (fs ++ hs) k (λ same. omega (arith, same, below.0, le)) ∙ count_front n k fs hs below.1 le

pub count_back : (n k : ℕ) (hs bs : Collection) → IsCollectionFrom n bs → k < n → count_at (hs ++ bs) k ≡ count_at hs k
count_back n k [] bs bs_is lt = count_below n bs k bs_is lt
count_back n k (h ∷ hs) bs bs_is lt =
    ⊎_elim
    (λ here. count_head h (hs ++ bs) k here ∙ sym (count_head h hs k here))
    (λ other. count_tail h (hs ++ bs) k other ∙ count_back n k hs bs bs_is lt ∙ sym (count_tail h hs k other))
    (cases_eq (rank_of h.pair) k)

-- ---- changes

append_held : (p : Pair) (c : ℕ) (hs bs : Collection) → held_with p c hs ++ bs ≡ held_with p c [] ++ (hs ++ bs)
append_held p zero hs bs = refl
append_held p (suc c) hs bs = refl

set_back : (p : Pair) (c n : ℕ) (hs bs : Collection) → rank_of p < n → IsCollectionFrom n bs
    → set_count p c (hs ++ bs) ≡ set_count p c hs ++ bs
set_back p c n [] bs lt bs_is = set_in_front p c n bs lt bs_is ∙ held_with_append p c bs
set_back p c n (h ∷ hs) bs lt bs_is =
    ⊎_elim
    (λ same.
    set_at p c h (hs ++ bs) same
    ∙ held_with_append p c (hs ++ bs)
    ∙ sym (append_held p c hs bs)
    ∙ ap (λ x. x ++ bs) (sym (set_at p c h hs same)))
    (λ order. ⊎_elim
    (λ before.
    set_before p c h (hs ++ bs) before
    ∙ held_with_append p c (h ∷ (hs ++ bs))
    ∙ sym (append_held p c (h ∷ hs) bs)
    ∙ ap (λ x. x ++ bs) (sym (set_before p c h hs before)))
    (λ past.
    set_after p c h (hs ++ bs) past ∙ ap (λ x. h ∷ x) (set_back p c n hs bs lt bs_is) ∙ ap (λ x. x ++ bs) (sym (set_after p c h hs past)))
    order)
    (cases_order (rank_of p) (rank_of h.pair))

-- what comes after the entries stays as it is
pub changed_back : (n : ℕ) (hs bs : Collection) (es : List Entry) → AreEntriesBelow n es → IsCollectionFrom n bs
    → changed (hs ++ bs) es ≡ changed hs es ++ bs
changed_back n hs bs [] below bs_is = refl
changed_back n hs bs (e ∷ es) below bs_is =
    ap (λ x. changed x es) (set_back e.pair e.after n hs bs below.0 bs_is)
    ∙ changed_back n (set_count e.pair e.after hs) bs es below.1 bs_is

-- and so does what comes before them
pub changed_between : (m n : ℕ) (fs hs bs : Collection) (es : List Entry) → AreBelow m fs → IsCollectionFrom n bs → IsChangeListFrom m es
    → AreEntriesBelow n es → changed (fs ++ (hs ++ bs)) es ≡ fs ++ (changed hs es ++ bs)
changed_between m n fs hs bs es fs_below bs_is es_is below =
    changed-append fs (hs ++ bs) m es fs_below es_is ∙ ap (λ x. fs ++ x) (changed_back n hs bs es below bs_is)

held_below : (p : Pair) (c n : ℕ) (hs : Collection) → rank_of p < n → AreBelow n hs → AreBelow n (held_with p c hs)
held_below p zero n hs lt below = below
held_below p (suc c) n hs lt below = (lt, below)

set_below : (p : Pair) (c n : ℕ) (hs : Collection) → rank_of p < n → AreBelow n hs → AreBelow n (set_count p c hs)
set_below p c n [] lt below = held_below p c n [] lt below
set_below p c n (h ∷ hs) lt below =
    let Below : Collection → Type 0 = λ x. AreBelow n x in
    ⊎_elim
    (λ same. subst Below (sym (set_at p c h hs same)) (held_below p c n hs lt below.1))
    (λ order. ⊎_elim
    (λ before. subst Below (sym (set_before p c h hs before)) (held_below p c n (h ∷ hs) lt below))
    (λ past. subst Below (sym (set_after p c h hs past)) (below.0, set_below p c n hs lt below.1))
    order)
    (cases_order (rank_of p) (rank_of h.pair))

pub changed_below : (n : ℕ) (hs : Collection) (es : List Entry) → AreEntriesBelow n es → AreBelow n hs → AreBelow n (changed hs es)
changed_below n hs [] es_below hs_below = hs_below
changed_below n hs (e ∷ es) es_below hs_below =
    changed_below n (set_count e.pair e.after hs) es es_below.1 (set_below e.pair e.after n hs es_below.0 hs_below)

-- ---- entries one after the other

pub changed_by_parts : (hs : Collection) (es fs : List Entry) → changed hs (es ++ fs) ≡ changed (changed hs es) fs
changed_by_parts hs [] fs = refl
changed_by_parts hs (e ∷ es) fs = changed_by_parts (set_count e.pair e.after hs) es fs

pub rise_in_front : (n : ℕ) (es fs : List Entry) → IsChangeListFrom n (es ++ fs) → IsChangeListFrom n es
rise_in_front n [] fs es_is = tt
rise_in_front n (e ∷ es) fs es_is = (es_is.0, es_is.1, rise_in_front (rank_of e.pair + 1) es fs es_is.2)

pub before_in_front : (hs : Collection) (es fs : List Entry) → AreBefore hs (es ++ fs) → AreBefore hs es
before_in_front hs [] fs befores = tt
before_in_front hs (e ∷ es) fs befores = (befores.0, before_in_front hs es fs befores.1)

pub before_later : (n : ℕ) (hs : Collection) (es fs : List Entry) → IsChangeListFrom n (es ++ fs) → AreBefore hs (es ++ fs)
    → AreBefore (changed hs es) fs
before_later n hs [] fs es_is befores = befores
before_later n hs (e ∷ es) fs es_is befores =
    before_later (rank_of e.pair + 1) (set_count e.pair e.after hs) es fs es_is.2 (before_rest n hs e (es ++ fs) es_is befores)
