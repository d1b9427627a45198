-- Elements that give way to others in a list.
use Rattle.std.proofs.Common.{◌≡◌, ℕ, ◌+◌, ◌-◌, ◌≤◌, List, ◌++◌, length, map, take, drop, sym, ◌∙◌, ap, ap₂, arith}
use Rattle.std.proofs.lemmas.List.{append_assoc, take_at, drop_at, length-append, length-drop, length-take-le, map-append, take-map, drop-map}
use Rattle.s2ix_table_spans.proofs.Spliced.{three_parts}

-- the first elements behind a place come behind the others
turned : {A : Type 0} (front first rest ws out : List A) (f n : ℕ) → ws ≡ front ++ (first ++ rest) → length front ≡ f → length first ≡ n
    → out ≡ take f ws ++ (drop n (drop f ws) ++ take n (drop f ws)) → out ≡ front ++ (rest ++ first)
turned front first rest ws out f n is len_front len_first put =
    let before = ap (take f) is ∙ take_at front (first ++ rest) f len_front in
    let behind = ap (drop f) is ∙ drop_at front (first ++ rest) f len_front in
    put
    ∙ ap₂ (λ xs ys. xs ++ (drop n ys ++ take n ys)) before behind
    ∙ ap₂ (λ xs ys. front ++ (xs ++ ys)) (drop_at first rest n len_first) (take_at first rest n len_first)

pub length_turned : {A : Type 0} (ws out : List A) (f n : ℕ) → f + n ≤ length ws
    → out ≡ take f ws ++ (drop n (drop f ws) ++ take n (drop f ws)) → length out ≡ length ws
length_turned ws out f n le put =
    let all = ap length put ∙ length-append (take f ws) (drop n (drop f ws) ++ take n (drop f ws)) in
    let both = length-append (drop n (drop f ws)) (take n (drop f ws)) in
    let front = length-take-le f ws (omega arith) in
    let rest = length-drop f ws in
    let one = length-take-le n (drop f ws) (omega arith) in
    let other = length-drop n (drop f ws) in
    omega arith

-- new elements are put behind all, the old ones turned behind them and cut off, and the new ones turned to their place
pub replaced : {A : Type 0} (xs ys more turned_out cut out : List A) (f e m n : ℕ) → f ≤ e → e ≤ length xs → more ≡ xs ++ ys
    → turned_out ≡ take f more ++ (drop (e - f) (drop f more) ++ take (e - f) (drop f more)) → cut ≡ take m turned_out
    → m + (e - f) ≡ length xs + length ys → n + f + length ys ≡ m → out ≡ take f cut ++ (drop n (drop f cut) ++ take n (drop f cut))
    → out ≡ take f xs ++ (ys ++ drop e xs)
replaced xs ys more turned_out cut out f e m n order within put turn is_cut m_is n_is turn_back =
    let front = take f xs in
    let old = take (e - f) (drop f xs) in
    let back = drop e xs in
    let len_front : length front ≡ f = length-take-le f xs (omega arith) in
    let len_rest = length-drop f xs in
    let len_old : length old ≡ e - f = length-take-le (e - f) (drop f xs) (omega arith) in
    let len_back = length-drop e xs in
    let here : more ≡ front ++ (old ++ (back ++ ys)) =
    put ∙ ap (λ zs. zs ++ ys) (three_parts xs f e order) ∙ append_assoc front (old ++ back) ys ∙ ap (λ zs. front ++ zs) (append_assoc old back ys) in
    let there = turned front old (back ++ ys) more turned_out f (e - f) here len_front len_old turn in
    let len_both = length-append back ys in
    let len_kept = length-append front (back ++ ys) in
    let kept : cut ≡ front ++ (back ++ ys) =
    is_cut ∙ ap (take m) (there ∙ sym (append_assoc front (back ++ ys) old)) ∙ take_at (front ++ (back ++ ys)) old m (omega arith) in
    turned front back ys cut out f n kept len_front (omega arith) turn_back

-- the same of what is made of each element
pub mapped : {A B : Type 0} (g : A → B) (xs ys : List A) (f e : ℕ)
    → map g (take f xs ++ (ys ++ drop e xs)) ≡ take f (map g xs) ++ (map g ys ++ drop e (map g xs))
mapped g xs ys f e =
    map-append g (take f xs) (ys ++ drop e xs)
    ∙ ap (λ zs. map g (take f xs) ++ zs) (map-append g ys (drop e xs))
    ∙ ap₂ (λ zs ws. zs ++ (map g ys ++ ws)) (sym (take-map g f xs)) (sym (drop-map g e xs))

-- the same, by a list that is as another
pub replaced_in : {A : Type 0} (old same now ys : List A) (f e : ℕ) → same ≡ old → now ≡ take f same ++ (ys ++ drop e same)
    → now ≡ take f old ++ (ys ++ drop e old)
replaced_in old same now ys f e is put = put ∙ ap (λ xs. take f xs ++ (ys ++ drop e xs)) is

-- what is before them and what is behind them
pub before_new : {A : Type 0} (xs ys : List A) (f e : ℕ) → f ≤ length xs → take f (take f xs ++ (ys ++ drop e xs)) ≡ take f xs
before_new xs ys f e le = take_at (take f xs) (ys ++ drop e xs) f (length-take-le f xs le)

pub behind_new : {A : Type 0} (xs ys : List A) (f e k : ℕ) → f ≤ length xs → length ys ≡ k
    → drop (f + k) (take f xs ++ (ys ++ drop e xs)) ≡ drop e xs
behind_new xs ys f e k le many =
    let front = length-take-le f xs le in
    let both = length-append (take f xs) ys in
    ap (drop (f + k)) (sym (append_assoc (take f xs) ys (drop e xs))) ∙ drop_at (take f xs ++ ys) (drop e xs) (f + k) (omega arith)
