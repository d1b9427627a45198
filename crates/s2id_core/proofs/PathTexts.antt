-- A path in text, byte by byte.
use Rattle.std.proofs.Common.{◌≡◌, ℕ, zero, suc, ◌+◌, ◌<◌, ◌≤◌, List, ◌∷◌, length, map, take, get_or, sym, ◌∙◌, ap, arith}
use Rattle.std.proofs.lemmas.List.{length-take-le, length-map, get_or-take, get_or-map, ext_get_or}
use Rattle.s2id_core.specs.Path.{Path, readable_path}

text_at : (bytes : List ℕ) (k : ℕ) (p : Path) → k ≡ length p.digits → get_or bytes 0 0 ≡ 48 + p.face → get_or bytes 1 0 ≡ 47
    → ((j : ℕ) → j < k → get_or bytes (j + 2) 0 ≡ 48 + get_or p.digits j 0) → (i : ℕ) → i < k + 2
    → get_or bytes i 0 ≡ get_or ((48 + p.face) ∷ 47 ∷ map (λ d. 48 + d) p.digits) i 0
text_at bytes k p level face slash digits zero h = face
text_at bytes k p level face slash digits (suc zero) h = slash
text_at bytes k p level face slash digits (suc (suc j)) h =
    ap (λ x. get_or bytes x 0) (let e : suc (suc j) ≡ j + 2 = omega arith in e) ∙ digits j (omega arith) ∙ sym (get_or-map (λ d. 48 + d) p.digits j 0 0 (omega arith))

-- what the code has made
pub text_by_bytes : (bytes : List ℕ) (k : ℕ) (p : Path) → length bytes ≡ 32 → k ≤ 30 → k ≡ length p.digits → get_or bytes 0 0 ≡ 48 + p.face
    → get_or bytes 1 0 ≡ 47 → ((j : ℕ) → j < k → get_or bytes (j + 2) 0 ≡ 48 + get_or p.digits j 0) → take (k + 2) bytes ≡ readable_path p
unfolding readable_path
text_by_bytes bytes k p long most level face slash digits =
    let text = (48 + p.face) ∷ 47 ∷ map (λ d. 48 + d) p.digits in
    let front : length (take (k + 2) bytes) ≡ k + 2 = length-take-le (k + 2) bytes (omega arith) in
    let inner : length (map (λ d. 48 + d) p.digits) ≡ length p.digits = length-map p.digits (λ d. 48 + d) in
    ext_get_or 0 (take (k + 2) bytes) text (omega arith)
    (λ i h.
    let within : i < k + 2 = omega arith in
    get_or-take (k + 2) bytes i 0 within ∙ text_at bytes k p level face slash digits i within)
