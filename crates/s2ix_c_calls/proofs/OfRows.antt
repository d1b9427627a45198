-- Rows that name pairs, and the first that names none.
use Rattle.std.proofs.Common.{◌≡◌, ◌<◌, ◌≤◌, ◌+◌, ℕ, List, length, take, get_or, refl, subst, sym, ◌∙◌, ap}
use Rattle.std.specs.Prelude.{Ok, Err, IsOk, Result}
use Rattle.std.proofs.lemmas.List.{take_all}
use Rattle.std.proofs.lemmas.List.Elements.{All-more}
use Rattle.std.proofs.lemmas.Option.{slice_get_read}
use Rattle.s2ix_bag_pairs.specs.declared.pair.Held.{Held}
use Rattle.s2ix_c_calls.specs.declared.rows.Row.{Row}
use Rattle.s2ix_c_calls.specs.Asked.{AreRight, IsFirstWrong, held_asked}

module _ (rows : List Row) (place : ℕ) (row : Row) (within : place < length rows) (is : row ≡ get_or rows place row) where
  -- one more row that names a pair
  pub right_more : (held : Held) → AreRight (take place rows) → held_asked row ≡ Ok held → AreRight (take (place + 1) rows)
  right_more held before right =
      let Right : Result Held ℕ → Type 0 = λ r. IsOk r in
      record { each = All-more (λ r. IsOk (held_asked r)) rows place row within before.each (subst Right (sym right ∙ ap held_asked is) refl) }

  -- a row that names none, after rows that do, is the first that is wrong
  pub first_wrong : (why : ℕ) → AreRight (take place rows) → held_asked row ≡ Err why → IsFirstWrong rows place why
  first_wrong why right wrong = record {
    before = right;
    row = row;
    row_is = slice_get_read rows (length rows) place row refl within is;
    wrong = wrong;
  }

-- after the last row all are right
pub all_right : (rows : List Row) (place : ℕ) → AreRight (take place rows) → length rows ≤ place → AreRight rows
all_right rows place right long = subst (λ (l : List Row). AreRight l) (take_all place rows long) right
