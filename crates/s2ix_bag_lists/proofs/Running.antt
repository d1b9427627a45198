-- The running numbers of pairs before each part.
use Rattle.std.proofs.Common.{◌≡◌, ℕ, zero, suc, ◌+◌, ◌-◌, ◌<◌, ◌≤◌, List, [], ◌∷◌, ◌++◌, take, drop, get_or, length, refl, sym, ap, ◌∙◌, arith, append_assoc, length-append}
use Rattle.std.proofs.Math.Seq.{take-append-add}
use Rattle.std.proofs.lemmas.List.{take-append-drop, length-take-le, take_more}
use Rattle.s2ix_bag_pairs.specs.Collection.{Collection}
use Rattle.s2ix_bag_lists.specs.Faces.{all_of}
use Rattle.s2ix_bag_lists.specs.Parts.{starts_from}
use Rattle.s2ix_bag_lists.proofs.Joins.{all_append, all_split}

pub starts_at : (m n : ℕ) (ps : List Collection) → m ≡ n → starts_from m ps ≡ starts_from n ps
starts_at m n ps same = ap (λ (k : ℕ). starts_from k ps) same

pub starts_append : (n : ℕ) (ps qs : List Collection)
    → starts_from n (ps ++ qs) ≡ starts_from n ps ++ starts_from (n + length (all_of ps)) qs
starts_append n [] qs = starts_at n (n + 0) qs (omega arith)
starts_append n (p ∷ ps) qs =
    let lengths = length-append p (all_of ps) in
    ap (λ (x : List ℕ). n ∷ x)
    (starts_append (n + length p) ps qs
    ∙ ap (λ (x : List ℕ). starts_from (n + length p) ps ++ x)
    (starts_at (n + length p + length (all_of ps)) (n + length (p ++ all_of ps)) qs (omega (arith, lengths))))

pub length-starts : (n : ℕ) (ps : List Collection) → length (starts_from n ps) ≡ length ps
length-starts n [] = refl
length-starts n (p ∷ ps) = ap (λ (k : ℕ). suc k) (length-starts (n + length p) ps)

pub get-starts : (n : ℕ) (ps : List Collection) (i d : ℕ) → i < length ps → get_or (starts_from n ps) i d ≡ n + length (all_of (take i ps))
get-starts n [] i d within = absurd (omega arith)
get-starts n (p ∷ ps) zero d within = omega arith
get-starts n (p ∷ ps) (suc i) d within =
    omega (arith, get-starts (n + length p) ps i d (omega arith), length-append p (all_of (take i ps)))

-- ---- other parts in the place of some

pub starts_front : (n i : ℕ) (ps : List Collection) → take i (starts_from n ps) ≡ starts_from n (take i ps)
starts_front n zero ps = refl
starts_front n (suc i) [] = refl
starts_front n (suc i) (p ∷ ps) = ap (λ (x : List ℕ). n ∷ x) (starts_front (n + length p) i ps)

-- the parts up to a place behind others
upto : (ps : List Collection) (end j : ℕ) → end ≤ length ps → take (end + j) ps ≡ take end ps ++ take j (drop end ps)
upto ps end j le =
    ap (λ (x : List Collection). take (end + j) x) (sym (take-append-drop end ps))
    ∙ ap (λ (k : ℕ). take (k + j) (take end ps ++ drop end ps)) (sym (length-take-le end ps le))
    ∙ take-append-add (take end ps) (drop end ps) j

pub length_behind : (ps : List Collection) (end j : ℕ) → end ≤ length ps
    → length (all_of (take (end + j) ps)) ≡ length (all_of (take end ps)) + length (all_of (take j (drop end ps)))
length_behind ps end j le =
    ap (λ (x : List Collection). length (all_of x)) (upto ps end j le)
    ∙ ap (λ (x : Collection). length x) (all_append (take end ps) (take j (drop end ps)))
    ∙ length-append (all_of (take end ps)) (all_of (take j (drop end ps)))

-- one part more behind others
pub starts_one_more : (n i : ℕ) (ps : List Collection) → i < length ps
    → starts_from n (take (i + 1) ps) ≡ starts_from n (take i ps) ++ (n + length (all_of (take i ps))) ∷ []
starts_one_more n i ps within =
    ap (λ (x : List Collection). starts_from n x) (take_more ps i [] within) ∙ starts_append n (take i ps) (get_or ps i [] ∷ [])

-- the parts before some, others in the place of these, and the parts behind them
pub spliced_starts : (starts : List ℕ) (ps made : List Collection) (first end start now : ℕ) → starts ≡ starts_from 0 ps
    → start ≡ length (all_of (take first ps)) → now ≡ start + length (all_of made)
    → (take first starts ++ starts_from start made) ++ starts_from now (drop end ps) ≡ starts_from 0 (take first ps ++ (made ++ drop end ps))
spliced_starts starts ps made first end start now counted start_is now_is =
    let front : take first starts ≡ starts_from 0 (take first ps) =
    ap (λ (x : List ℕ). take first x) counted ∙ starts_front 0 first ps in
    let back : starts_from start made ++ starts_from now (drop end ps) ≡ starts_from start (made ++ drop end ps) =
    sym
    (starts_append start made (drop end ps)
    ∙ ap (λ (x : List ℕ). starts_from start made ++ x)
    (starts_at (start + length (all_of made)) now (drop end ps) (sym now_is))) in
    append_assoc (take first starts) (starts_from start made) (starts_from now (drop end ps))
    ∙ ap (λ (x : List ℕ). x ++ (starts_from start made ++ starts_from now (drop end ps))) front
    ∙ ap (λ (x : List ℕ). starts_from 0 (take first ps) ++ x) back
    ∙ ap (λ (x : List ℕ). starts_from 0 (take first ps) ++ x)
    (starts_at start (0 + length (all_of (take first ps))) (made ++ drop end ps) (omega (arith, start_is)))
    ∙ sym (starts_append 0 (take first ps) (made ++ drop end ps))

pub length_spliced : (ps made : List Collection) (first end : ℕ)
    → length (all_of (take first ps ++ (made ++ drop end ps)))
    ≡ length (all_of (take first ps)) + (length (all_of made) + length (all_of (drop end ps)))
length_spliced ps made first end =
    ap (λ (x : Collection). length x) (all_append (take first ps) (made ++ drop end ps))
    ∙ length-append (all_of (take first ps)) (all_of (made ++ drop end ps))
    ∙ ap (λ (k : ℕ). length (all_of (take first ps)) + k)
    (ap (λ (x : Collection). length x) (all_append made (drop end ps)) ∙ length-append (all_of made) (all_of (drop end ps)))

pub length_parted : (ps : List Collection) (i : ℕ) → length (all_of ps) ≡ length (all_of (take i ps)) + length (all_of (drop i ps))
length_parted ps i =
    ap (λ (x : Collection). length x) (all_split i ps) ∙ length-append (all_of (take i ps)) (all_of (drop i ps))

-- the start of a part from a place on
pub later_start : (starts : List ℕ) (ps : List Collection) (end part was : ℕ) → starts ≡ starts_from 0 ps → end ≤ part → part < length ps
    → was ≡ length (all_of (take end ps)) → get_or starts part 0 ≡ was + length (all_of (take (part - end) (drop end ps)))
later_start starts ps end part was counted le within is =
    let there : part ≡ end + (part - end) = omega (arith, le) in
    let got = get-starts 0 ps part 0 within in
    let both = length_behind ps end (part - end) (omega (arith, le, within)) in
    let same = ap (λ (k : ℕ). length (all_of (take k ps))) there in
    let value : get_or (starts_from 0 ps) part 0 ≡ was + length (all_of (take (part - end) (drop end ps))) =
    omega (arith, got, same, both, is) in
    ap (λ (x : List ℕ). get_or x part 0) counted ∙ value
