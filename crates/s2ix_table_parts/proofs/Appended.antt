-- What lies over a leaf, of one collection after another.
use Rattle.std.proofs.Common.{◌≡◌, ℕ, ◌+◌, ◌*◌, ◌<◌, ◌≤◌, inl, inr, Bool, false, [], ◌∷◌, ◌++◌, refl, sym, ◌∙◌, ap, arith, Contains}
use Rattle.std.proofs.lemmas.Bool.{cases_Bool}
use Rattle.s2id_core.specs.CellId.{raw_of}
use Rattle.s2id_core.proofs.Nested.{span}
use Rattle.s2id_core.proofs.Lists.{in_tail, at_head}
use Rattle.s2ix_bag_pairs.specs.Collection.{Collection, IsCollection, IsCollectionFrom, AreBelow}
use Rattle.s2ix_bag_pairs.specs.Label.{value_of}
use Rattle.s2ix_bag_pairs.specs.declared.pair.Held.{Held}
use Rattle.s2ix_bag_lists.proofs.Joined.{from_append}
use Rattle.s2ix_table_walk.specs.InOrder.{insertion, choice}
use Rattle.s2ix_table_walk.specs.Contents.{covers, depth_key, contents_at}
use Rattle.s2ix_table_walk.proofs.InOrder.{choice_in, choice_out}
use Rattle.s2ix_table_walk.proofs.Over.{over-true}
use Rattle.s2ix_table_parts.specs.Parts.{EndsBy, BeginsFrom}

-- ---- chosen of both

none_chosen : (test : Held → Bool) (key : Held → ℕ) (hs : Collection) → ((h : Held) → Contains hs h → test h ≡ false)
    → choice test key hs ≡ []
unfolding choice
none_chosen test key [] none = refl
none_chosen test key (h ∷ hs) none =
    choice_out test key h hs (none h (at_head h hs)) ∙ none_chosen test key hs (λ x held. none x (in_tail h hs x held))

choice_front : (test : Held → Bool) (key : Held → ℕ) (hs ks : Collection) → ((h : Held) → Contains ks h → test h ≡ false)
    → choice test key (hs ++ ks) ≡ choice test key hs
unfolding choice
choice_front test key [] ks none = none_chosen test key ks none
choice_front test key (h ∷ hs) ks none =
    let rest = choice_front test key hs ks none in
    elim (cases_Bool (test h)) [
      | inl e ↦ choice_in test key h (hs ++ ks) e ∙ ap (insertion key h) rest ∙ sym (choice_in test key h hs e)
      | inr e ↦ choice_out test key h (hs ++ ks) e ∙ rest ∙ sym (choice_out test key h hs e)
    ]

choice_back : (test : Held → Bool) (key : Held → ℕ) (hs ks : Collection) → ((h : Held) → Contains hs h → test h ≡ false)
    → choice test key (hs ++ ks) ≡ choice test key ks
choice_back test key [] ks none = refl
choice_back test key (h ∷ hs) ks none =
    choice_out test key h (hs ++ ks) (none h (at_head h hs)) ∙ choice_back test key hs ks (λ x held. none x (in_tail h hs x held))

-- ---- contents

-- below a cut lies what the first collection holds
pub contents_front : (q b : ℕ) (hs ks : Collection) → q < b → BeginsFrom ks b → contents_at q (hs ++ ks) ≡ contents_at q hs
unfolding contents_at
contents_front q b hs ks lt begin =
    choice_front (covers q) depth_key hs ks (λ h held. elim (cases_Bool (covers q h)) [
      | inl t ↦ absurd (let o = over-true q h t in let from = o.from in let le = begin h held in omega arith)
      | inr f ↦ f
    ])

-- and from the cut on what the second one holds
pub contents_back : (q b : ℕ) (hs ks : Collection) → b ≤ q → EndsBy hs b → contents_at q (hs ++ ks) ≡ contents_at q ks
unfolding contents_at
contents_back q b hs ks le end =
    choice_back (covers q) depth_key hs ks (λ h held. elim (cases_Bool (covers q h)) [
      | inl t ↦ absurd (let o = over-true q h t in let to = o.to in let by = end h held in omega arith)
      | inr f ↦ f
    ])

-- ---- the order of both

pub rank_before : (raw label b : ℕ) → label ≤ 2147483647 → raw < b → raw * 2147483648 + label < b * 2147483648
rank_before raw label b fits lt = omega arith

pub below_cut : (b : ℕ) (hs : Collection) → EndsBy hs b → AreBelow (b * 2147483648) hs
below_cut b [] end = tt
below_cut b (h ∷ hs) end =
    let s = span (raw_of h.pair.cell) h.pair.cell.valid in
    let to = s.to in
    let by = end h (at_head h hs) in (
      rank_before (raw_of h.pair.cell) (value_of h.pair.label) b h.pair.label.in_range (omega arith),
      below_cut b hs (λ x held. end x (in_tail h hs x held)),
    )

pub from_cut : (b : ℕ) (hs : Collection) → IsCollection hs → BeginsFrom hs b → IsCollectionFrom (b * 2147483648) hs
from_cut b [] c begin = tt
from_cut b (h ∷ hs) c begin =
    let s = span (raw_of h.pair.cell) h.pair.cell.valid in
    let from = s.from in
    let le = begin h (at_head h hs) in
    let more : b ≤ raw_of h.pair.cell = omega arith in
    (omega arith, c.1, c.2)

-- pairs on both sides of a cut rise
pub both_rise : (b : ℕ) (hs ks : Collection) → EndsBy hs b → BeginsFrom ks b → IsCollection hs → IsCollection ks → IsCollection (hs ++ ks)
both_rise b hs ks end begin c d =
    from_append 0 (b * 2147483648) hs ks (omega arith) c (below_cut b hs end) (from_cut b ks d begin)
