-- Where two parts meet: their ranges there are one exactly if nothing light lies over them, and the same heavy pairs.
use Rattle.std.proofs.Common.{◌≡◌, ℕ, ◌-◌, ◌<◌, inl, inr, Bool, not, true, false, Option, Some, None, List, [], ◌∷◌, ◌++◌, length, refl, sym, ◌∙◌, ap, ap₂, arith, Contains, subst}
use Rattle.std.proofs.lemmas.Bool.{cases_Bool, false≢true}
use Rattle.std.specs.Option.{is_some}
use Rattle.s2ix_table_walk.specs.Places.{LeadsTo}
use Rattle.s2id_core.proofs.Lists.{at_head}
use Rattle.s2ix_bag_pairs.specs.Collection.{Collection}
use Rattle.s2ix_bag_pairs.specs.declared.pair.Held.{Held}
use Rattle.s2ix_table_walk.specs.Table.{Range, range_at}
use Rattle.s2ix_table_walk.proofs.Over.{in_contents, span_of}
use Rattle.s2ix_table_spans.specs.SpanTable.{SpanRanges, IsSpanTable}
use Rattle.s2ix_table_spans.proofs.OnePlace.{heads_agree}
use Rattle.s2ix_table_faced.specs.Joined.{is_same}
use Rattle.s2ix_table_parts.specs.Layers.{ShareNoPair}
use Rattle.s2ix_table_faced.specs.Layout.{with_over}
use Rattle.s2ix_table_faced.specs.Offsets.{is_joined}
use Rattle.s2ix_table_faced.proofs.Joining.{is_same_as, same_is}
use Rattle.s2ix_table_faced.proofs.RangesOver.{contents_over, length_over}

-- what lies over a range of a part is the part's
in_part : (t : SpanRanges) (k : ℕ) (h : Held) → IsSpanTable t → k < length t.ranges → Contains (range_at t.ranges k).contents h → Contains t.held h
in_part t k h is lt held =
    let r = range_at t.ranges k in
    let rises = is.table.rises k lt in
    let same = is.table.shared k r.start lt (is.table.odd k lt) (omega arith) rises in
    (in_contents r.start t.held h (subst (λ cs. Contains cs h) (sym same) held)).0

-- two parts that meet share no pair
share_none : (t u : SpanRanges) (h : Held) → IsSpanTable t → IsSpanTable u → t.to ≡ u.from → Contains t.held h → Contains u.held h → ⊥
share_none t u h one other meet held there =
    let by = one.within.ends h held in
    let from = other.within.begins h there in
    let rises = (span_of h).rises in
    omega arith

-- lists of light pairs that heavy ones follow are the same only if there are no light ones
pub none_light : (light next over next_over xs ys : Collection) → ((h : Held) → Contains xs h → Contains light h)
    → ((h : Held) → Contains ys h → Contains next h) → ((h : Held) → Contains light h → Contains next h → ⊥)
    → ShareNoPair light next_over → ShareNoPair next over → xs ++ over ≡ ys ++ next_over → (xs ≡ []) × (ys ≡ [])
none_light light next over next_over [] [] own other apart one two same = (refl, refl)
none_light light next over next_over [] (k ∷ ys) own other apart one two same =
    absurd (two k k (other k (at_head k ys)) (subst (λ cs. Contains cs k) (sym same) (at_head k (ys ++ next_over))) refl)
none_light light next over next_over (h ∷ xs) [] own other apart one two same =
    absurd (one h h (own h (at_head h xs)) (subst (λ cs. Contains cs h) same (at_head h (xs ++ over))) refl)
none_light light next over next_over (h ∷ xs) (k ∷ ys) own other apart one two same =
    let e = heads_agree h k (xs ++ over) (ys ++ next_over) same in
    absurd (apart h (own h (at_head h xs)) (subst (λ x. Contains next x) (sym e) (other k (at_head k ys))))

-- the contents of the ranges at a seam
joined_contents : (rs ss : List Range) (over next_over : Collection) → 0 < length rs → 0 < length ss
    → is_joined (with_over over rs) (with_over next_over ss)
    ≡ is_same ((range_at rs (length rs - 1)).contents ++ over) ((range_at ss 0).contents ++ next_over)
joined_contents rs ss over next_over some more =
    let last : length (with_over over rs) - 1 ≡ length rs - 1 = (let e = length_over over rs in omega arith) in
    ap (λ n. is_same (range_at (with_over over rs) n).contents (range_at (with_over next_over ss) 0).contents) last
    ∙ ap₂ is_same (contents_over over rs (length rs - 1) (omega arith)) (contents_over next_over ss 0 more)

-- they are one if nothing light lies there, and the same heavy pairs
pub seam_joined : (t u : SpanRanges) (over next_over : Collection) → IsSpanTable t → IsSpanTable u
    → (range_at t.ranges (length t.ranges - 1)).contents ≡ [] → (range_at u.ranges 0).contents ≡ [] → over ≡ next_over
    → is_joined (with_over over t.ranges) (with_over next_over u.ranges) ≡ true
seam_joined t u over next_over one other last first same =
    joined_contents t.ranges u.ranges over next_over one.table.some other.table.some
    ∙ ap₂ (λ xs ys. is_same (xs ++ over) (ys ++ next_over)) last first
    ∙ is_same_as over next_over same

-- and only then
pub seam_none : (t u : SpanRanges) (over next_over : Collection) → IsSpanTable t → IsSpanTable u → t.to ≡ u.from
    → ShareNoPair t.held next_over → ShareNoPair u.held over → is_joined (with_over over t.ranges) (with_over next_over u.ranges) ≡ true
    → ((range_at t.ranges (length t.ranges - 1)).contents ≡ []) × ((range_at u.ranges 0).contents ≡ []) × (over ≡ next_over)
seam_none t u over next_over one other meet own next joined =
    let xs = (range_at t.ranges (length t.ranges - 1)).contents in
    let ys = (range_at u.ranges 0).contents in
    let some = one.table.some in
    let is = same_is (xs ++ over) (ys ++ next_over) (sym (joined_contents t.ranges u.ranges over next_over some other.table.some) ∙ joined) in
    let none = none_light t.held u.held over next_over xs ys (λ h held. in_part t (length t.ranges - 1) h one (omega arith) held)
    (λ h held. in_part u 0 h other other.table.some held) (λ h held there. share_none t u h one other meet held there) own next is in
    (none.0, none.1, ap (λ cs. cs ++ over) (sym none.0) ∙ is ∙ ap (λ cs. cs ++ next_over) none.1)

pub seam_apart : (t u : SpanRanges) (over next_over : Collection) → IsSpanTable t → IsSpanTable u → t.to ≡ u.from
    → ShareNoPair t.held next_over → ShareNoPair u.held over
    → ((range_at t.ranges (length t.ranges - 1)).contents ≡ [] → (range_at u.ranges 0).contents ≡ [] → over ≡ next_over → ⊥)
    → is_joined (with_over over t.ranges) (with_over next_over u.ranges) ≡ false
seam_apart t u over next_over one other meet own next differ =
    elim (cases_Bool (is_joined (with_over over t.ranges) (with_over next_over u.ranges))) [
      | inl joined ↦ (let none = seam_none t u over next_over one other meet own next joined in absurd (differ none.0 none.1 none.2))
      | inr apart ↦ apart
    ]

-- of two ways to lie under heavy pairs one joins them if the other does, if in both the heavy pairs over them are the same, or in neither
pub seam_alike : (t u : SpanRanges) (a b c d : Collection) → IsSpanTable t → IsSpanTable u → t.to ≡ u.from → ShareNoPair t.held b
    → ShareNoPair u.held a → ShareNoPair t.held d → ShareNoPair u.held c → (a ≡ b → c ≡ d) → (c ≡ d → a ≡ b)
    → is_joined (with_over a t.ranges) (with_over b u.ranges) ≡ is_joined (with_over c t.ranges) (with_over d u.ranges)
seam_alike t u a b c d one other meet own next own_too next_too to back =
    elim (cases_Bool (is_joined (with_over a t.ranges) (with_over b u.ranges))) [
      | inl joined ↦
          (let none = seam_none t u a b one other meet own next joined in
          joined ∙ sym (seam_joined t u c d one other none.0 none.1 (to none.2)))
      | inr apart ↦
          apart
          ∙ sym (seam_apart t u c d one other meet own_too next_too
          (λ last first same. false≢true (sym apart ∙ seam_joined t u a b one other last first (back same))))
    ]

-- ---- what answers lead to

pub leads_no_more : {P : Type 0} (chain : P → Collection) (answer : Option P) (pairs : Collection) → LeadsTo chain answer pairs
    → is_some answer ≡ false → pairs ≡ []
leads_no_more chain None pairs leads none = sym leads.pairs_are
leads_no_more chain (Some p) pairs leads none = absurd (false≢true (sym none))

pub leads_on : {P : Type 0} (chain : P → Collection) (answer : Option P) (pairs : Collection) → LeadsTo chain answer pairs
    → is_some answer ≡ true → pairs ≡ [] → ⊥
leads_on chain None pairs leads some none = absurd (false≢true some)
leads_on chain (Some p) pairs leads some none =
    let long = leads.place p refl in
    let e = ap length (leads.pairs_are ∙ none) in
    omega arith

-- a test for none, by what holds in both cases
pub none_after : (some none joined : Bool) → some ≡ not none → (some ≡ true → joined ≡ false) → (some ≡ false → joined ≡ true) → none ≡ joined
none_after true false joined is one other = sym (one refl)
none_after true true joined is one other = absurd (false≢true (sym is))
none_after false true joined is one other = sym (other refl)
none_after false false joined is one other = absurd (false≢true is)
