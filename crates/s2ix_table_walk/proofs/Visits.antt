-- The calls of a closure along the meeting list.
use Rattle.std.proofs.Common.{◌≡◌, ℕ, ◌+◌, ◌≤◌, Bool, true, false, true≢false, inl, inr, [], ◌∷◌, length, refl, sym, subst, arith}
use Rattle.s2ix_bag_pairs.specs.Collection.{Collection}
use Rattle.s2ix_bag_pairs.specs.declared.pair.Held.{Held}
use Rattle.s2ix_table_walk.specs.Calls.{MayVisit, CallsOn}

pub may_same : {F : Type 0} (pre : F → Held → Type 0) (step : F → Held → Bool → F → Type 0) (f : F) (xs ys : Collection) → xs ≡ ys
    → MayVisit pre step f xs → MayVisit pre step f ys
may_same {F} pre step f xs ys e may = subst (λ (zs : Collection). MayVisit pre step f zs) e may

-- a closure that may be called on any pair may visit any list
pub may_always : {F : Type 0} (pre : F → Held → Type 0) (step : F → Held → Bool → F → Type 0) (f : F) (hs : Collection)
    → ((g : F) (h : Held) → pre g h) → MayVisit pre step f hs
may_always pre step f [] always = tt
may_always pre step f (h ∷ hs) always = (always f h, λ g called. may_always pre step g hs always)

-- ---- one call more in front

pub no_call : {F : Type 0} (step : F → Held → Bool → F → Type 0) (f : F) (hs : Collection) → hs ≡ [] → CallsOn step f hs 0 true f
no_call {F} step f hs e = subst (λ (zs : Collection). CallsOn step f zs 0 true f) (sym e) (refl, refl, refl)

pub last_call : {F : Type 0} (step : F → Held → Bool → F → Type 0) (f last : F) (h : Held) (hs rest : Collection) → hs ≡ h ∷ rest
    → step f h false last → CallsOn step f hs 1 false last
last_call {F} step f last h hs rest e called =
    subst (λ (zs : Collection). CallsOn step f zs 1 false last) (sym e) (inl (refl, called, refl))

pub one_call : {F : Type 0} (step : F → Held → Bool → F → Type 0) (f g last : F) (h : Held) (hs rest : Collection) (k : ℕ) (whole : Bool)
    → hs ≡ h ∷ rest → step f h true g → CallsOn step g rest k whole last → CallsOn step f hs (k + 1) whole last
one_call {F} step f g last h hs rest k whole e called calls =
    subst (λ (zs : Collection). CallsOn step f zs (k + 1) whole last) (sym e) (inr (g, k, refl, called, calls))

-- ---- how many calls

pub calls_most : {F : Type 0} (step : F → Held → Bool → F → Type 0) (f last : F) (hs : Collection) (k : ℕ) (whole : Bool)
    → CallsOn step f hs k whole last → k ≤ length hs
calls_most step f last [] k whole calls = let none = calls.0 in omega arith
calls_most step f last (h ∷ hs) k whole (inl end) = let one = end.0 in omega arith
calls_most step f last (h ∷ hs) k whole (inr on) = let less = calls_most step on.0 last hs on.1 whole on.4 in let more = on.2 in omega arith

pub calls_whole : {F : Type 0} (step : F → Held → Bool → F → Type 0) (f last : F) (hs : Collection) (k : ℕ) → CallsOn step f hs k true last
    → k ≡ length hs
calls_whole step f last [] k calls = calls.0
calls_whole step f last (h ∷ hs) k (inl end) = absurd (true≢false end.2)
calls_whole step f last (h ∷ hs) k (inr on) = let all = calls_whole step on.0 last hs on.1 on.4 in let more = on.2 in omega arith
