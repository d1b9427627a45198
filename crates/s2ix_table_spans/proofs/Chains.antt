-- Chains of held pairs.
use Rattle.std.proofs.Common.{◌≡◌, ℕ, ◌+◌, ◌<◌, ◌≤◌, ◌⊎◌, inl, inr, Bool, true, false, leb, Option, Some, None, [], ◌∷◌, length, get_or, refl, sym, ◌∙◌, ap, arith, Contains, le-leb, subst, slice_get, option_map}
use Rattle.std.specs.Option.{unwrap_or}
use Rattle.std.proofs.lemmas.Option.{slice_get-get_or, slice_get_past}
use Rattle.std.proofs.lemmas.List.Elements.{Contains-get_or}
use Rattle.std.proofs.lemmas.Bool.{cases_lt, cases_Bool, and_parts, and_from, leb-true, both_ways}
use Rattle.s2id_core.specs.CellId.{first_of, end_of}
use Rattle.s2id_core.proofs.Lists.{cons_cases, in_tail, at_head, none_in_nil}
use Rattle.s2ix_bag_pairs.specs.Collection.{Collection, IsCollection, IsCollectionFrom}
use Rattle.s2ix_bag_pairs.specs.Pair.{rank_of}
use Rattle.s2ix_bag_pairs.specs.declared.pair.Held.{Held}
use Rattle.s2ix_table_walk.specs.InOrder.{choice, insertion}
use Rattle.s2ix_table_walk.specs.Contents.{covers, contents_at, depth_key}
use Rattle.s2ix_table_walk.proofs.InOrder.{every_choice, in_choice, choice_has, choice_agree, choice_in, choice_out, choice_none, insertion_after, insertion_before_all}
use Rattle.s2ix_table_walk.proofs.Over.{IsOver, over-true, covers-from, nested_over}
use Rattle.s2ix_table_walk.proofs.Lists.{later_rank}
use Rattle.s2ix_table_spans.specs.Chains.{is_outward, is_on_chain, chain_of}
use Rattle.s2ix_table_spans.proofs.Keys.{over_first}

-- ---- what lies outwards

pub record IsOutward (from h : Held) : Type 0 where
  pub over : IsOver h (first_of from.pair.cell)
  pub depth : depth_key from ≤ depth_key h

pub outward-true : (from h : Held) → is_outward from h ≡ true → IsOutward from h
outward-true from h t =
    let both = and_parts (covers (first_of from.pair.cell) h) (leb (depth_key from) (depth_key h)) t in
    record { over = over-true (first_of from.pair.cell) h both.0; depth = leb-true (depth_key from) (depth_key h) both.1 }

pub outward-from : (from h : Held) → IsOutward from h → is_outward from h ≡ true
outward-from from h o = and_from _ _ (covers-from (first_of from.pair.cell) h o.over) (le-leb _ _ o.depth)

-- what lies outwards ends no sooner
pub outward_ends : (from h : Held) → IsOutward from h → end_of from.pair.cell ≤ end_of h.pair.cell
outward_ends from h o = (nested_over (first_of from.pair.cell) from h (over_first from) o.over o.depth).to

pub outward_self : (h : Held) → IsOutward h h
outward_self h = record { over = over_first h; depth = omega arith }

-- ---- what is on a chain

pub on_at : (held : Collection) (place : ℕ) (from h : Held) → slice_get held place ≡ Some from
    → is_on_chain held place h ≡ is_outward from h
on_at held place from h is = ap (λ (o : Option Held). unwrap_or (option_map (λ (x : Held). is_outward x h) o) false) is

pub none_on : (held : Collection) (place : ℕ) (h : Held) → slice_get held place ≡ None → is_on_chain held place h ≡ false
none_on held place h is = ap (λ (o : Option Held). unwrap_or (option_map (λ (x : Held). is_outward x h) o) false) is

pub same_bool : (a b : Bool) → (a ≡ true → b ≡ true) → (b ≡ true → a ≡ true) → a ≡ b
same_bool true b to back = sym (to refl)
same_bool false true to back = absurd (both_ways false refl (back refl))
same_bool false false to back = refl

-- a chain whose pairs are those over a leaf is the leaf's contents
pub contents_are_chain : (held : Collection) (q place : ℕ) → ((h : Held) → Contains held h → IsOver h q → is_on_chain held place h ≡ true)
    → ((h : Held) → Contains held h → is_on_chain held place h ≡ true → IsOver h q) → contents_at q held ≡ chain_of held place
unfolding contents_at chain_of
contents_are_chain held q place to back =
    choice_agree (covers q) (is_on_chain held place) depth_key held (λ h is_held.
    same_bool (covers q h) (is_on_chain held place h) (λ t. to h is_held (over-true q h t)) (λ t. covers-from q h (back h is_held t)))

-- ---- one pair before a chosen list

none_again : (n : ℕ) (h : Held) (hs : Collection) (x : Held) → IsCollectionFrom n (h ∷ hs) → Contains hs x → h ≡ x → ⊥
none_again n h hs x c later same =
    let r = later_rank (rank_of h.pair + 1) hs x c.2 later in
    let s = ap (λ (y : Held). rank_of y.pair) same in
    omega arith

pub choice_cons : (n : ℕ) (s t : Held → Bool) (key : Held → ℕ) (hs : Collection) (x : Held) → IsCollectionFrom n hs → Contains hs x
    → s x ≡ true → t x ≡ false → ((h : Held) → Contains hs h → (h ≡ x) ⊎ (s h ≡ t h))
    → ((h : Held) → Contains hs h → t h ≡ true → key x < key h) → choice s key hs ≡ x ∷ choice t key hs
choice_cons n s t key [] x c is_held chosen off same above = absurd (none_in_nil x is_held)
choice_cons n s t key (h ∷ hs) x c is_held chosen off same above =
    elim (cons_cases h hs x is_held) [
      | inl e ↦
          (let rest = choice_agree s t key hs (λ y later.
          elim (same y (in_tail h hs y later)) [ inl f ↦ absurd (none_again n h hs y c later (e ∙ sym f)) | inr agree ↦ agree ]) in
          let before = every_choice (λ b. key x < key b) t key hs (λ y later. above y (in_tail h hs y later)) in
          choice_in s key h hs (subst (λ y. s y ≡ true) (sym e) chosen)
          ∙ ap (insertion key h) rest
          ∙ ap (λ y. insertion key y (choice t key hs)) e
          ∙ insertion_before_all key x (choice t key hs) before
          ∙ ap (λ ys. x ∷ ys) (sym (choice_out t key h hs (subst (λ y. t y ≡ false) (sym e) off))))
      | inr later ↦
          (let rest = choice_cons (rank_of h.pair + 1) s t key hs x c.2 later chosen off (λ y i. same y (in_tail h hs y i)) (λ y i. above y (in_tail h hs y i)) in
          elim (same h (at_head h hs)) [
            | inl e ↦ absurd (none_again n h hs x c later e)
            | inr agree ↦
                elim (cases_Bool (t h)) [
                  | inl u ↦
                      (let lt = above h (at_head h hs) u in
                      choice_in s key h hs (agree ∙ u) ∙ ap (insertion key h) rest
                      ∙ insertion_after key h x (choice t key hs) (omega arith)
                      ∙ ap (λ ys. x ∷ ys) (sym (choice_in t key h hs u)))
                  | inr u ↦ choice_out s key h hs (agree ∙ u) ∙ rest ∙ ap (λ ys. x ∷ ys) (sym (choice_out t key h hs u))
                ]
          ])
    ]

-- a place leads to another if that one's chain is all but the pair itself
pub chain_cons : (held : Collection) (place next : ℕ) (x : Held) → IsCollection held → Contains held x → slice_get held place ≡ Some x
    → is_on_chain held next x ≡ false → ((h : Held) → Contains held h → is_on_chain held next h ≡ true → IsOutward x h)
    → ((h : Held) → Contains held h → IsOutward x h → (h ≡ x) ⊎ (is_on_chain held next h ≡ true))
    → ((h : Held) → Contains held h → is_on_chain held next h ≡ true → depth_key x < depth_key h)
    → chain_of held place ≡ x ∷ chain_of held next
unfolding chain_of
chain_cons held place next x c is_held is off outward inward above =
    let on : (h : Held) → is_on_chain held place h ≡ is_outward x h = λ h. on_at held place x h is in
    choice_cons 0 (is_on_chain held place) (is_on_chain held next) depth_key held x c is_held (on x ∙ outward-from x x (outward_self x)) off
    (λ h i.
    elim (cases_Bool (is_outward x h)) [
      | inl t ↦
          elim (inward h i (outward-true x h t)) [ inl e ↦ inl e | inr u ↦ inr (on h ∙ t ∙ sym u) ]
      | inr f ↦
          elim (cases_Bool (is_on_chain held next h)) [
            | inl u ↦ absurd (both_ways (is_outward x h) f (outward-from x h (outward h i u)))
            | inr u ↦ inr (on h ∙ f ∙ sym u)
          ]
    ]) above

pub in_chain : (held : Collection) (place : ℕ) (h : Held) → Contains (chain_of held place) h
    → Contains held h × (is_on_chain held place h ≡ true)
unfolding chain_of
in_chain held place h i = in_choice (is_on_chain held place) depth_key held h i

pub chain_has : (held : Collection) (place : ℕ) (h : Held) → Contains held h → is_on_chain held place h ≡ true
    → Contains (chain_of held place) h
unfolding chain_of
chain_has held place h i t = choice_has (is_on_chain held place) depth_key held h i t

pub chain_none : (held : Collection) (place : ℕ) → slice_get held place ≡ None → chain_of held place ≡ []
unfolding chain_of
chain_none held place is = choice_none (is_on_chain held place) depth_key held (λ h. none_on held place h is)

-- the pair of a place is on its chain
pub chain_some : (held : Collection) (place : ℕ) → place < length held → 0 < length (chain_of held place)
chain_some [] place lt = absurd (omega arith)
chain_some (h ∷ hs) place lt =
    let x = get_or (h ∷ hs) place h in
    let is = slice_get-get_or (h ∷ hs) place h lt in
    let i = chain_has (h ∷ hs) place x (Contains-get_or (h ∷ hs) place h lt) (on_at (h ∷ hs) place x x is ∙ outward-from x x (outward_self x)) in
    let w = i.1 in
    omega arith

-- a place with a chain is that of a pair
pub place_within : (held : Collection) (place : ℕ) → 0 < length (chain_of held place) → place < length held
place_within held place lt =
    elim (cases_lt place (length held)) [
      | inl less ↦ less
      | inr past ↦ absurd (let e = ap length (chain_none held place (slice_get_past held place past)) in omega arith)
    ]
