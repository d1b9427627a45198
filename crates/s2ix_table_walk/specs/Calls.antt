-- What a visitor asks of a closure, and what its calls come to.
use Rattle.std.specs.Prelude.{◌≡◌, ◌⊎◌, ℕ, ◌+◌, Bool, true, false, [], ◌∷◌}
use Rattle.s2ix_bag_pairs.specs.Collection.{Collection}
use Rattle.s2ix_bag_pairs.specs.declared.pair.Held.{Held}

-- a closure may be called on the first pair of a list, and after each answer true on the next
abbrev pub MayVisit : {F : Type 0} → (F → Held → Type 0) → (F → Held → Bool → F → Type 0) → F → Collection → Type 0
MayVisit pre step f [] = Unit {0}
MayVisit {F} pre step f (h ∷ hs) = pre f h × ((g : F) → step f h true g → MayVisit pre step g hs)

-- a closure was called on the first k pairs of a list, in order, up to and including the first answer false; `whole` says
-- whether every answer was true, and then k is the length of the list
abbrev pub CallsOn : {F : Type 0} → (F → Held → Bool → F → Type 0) → F → Collection → ℕ → Bool → F → Type 0
CallsOn step f [] k whole last = (k ≡ 0) × (whole ≡ true) × (last ≡ f)
CallsOn {F} step f (h ∷ hs) k whole last =
    ((k ≡ 1) × step f h false last × (whole ≡ false)) ⊎ ((g : F) × (n : ℕ) × (k ≡ n + 1) × step f h true g × CallsOn step g hs n whole last)

-- a closure was called so, some number of times
abbrev pub Visits : {F : Type 0} → (F → Held → Bool → F → Type 0) → F → Collection → Bool → F → Type 0
Visits step f hs whole last = (k : ℕ) × CallsOn step f hs k whole last
