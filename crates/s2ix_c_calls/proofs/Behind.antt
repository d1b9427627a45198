-- A list goes out to a buffer whose front has another list already.
use Rattle.std.proofs.Common.{◌≡◌, ◌<◌, ◌≤◌, ◌+◌, ◌-◌, ◌∙◌, ℕ, List, [], ◌++◌, length, map, take, drop, ap, subst, sym, refl, inl, inr, arith, length-append}
use Rattle.std.proofs.Math.Seq.{drop-append-add, drop-drop, take-append-add}
use Rattle.std.proofs.lemmas.Bool.{cases_lt}
use Rattle.std.proofs.lemmas.List.{append-nil, append_assoc, drop-append-le, length-drop, length-map, length-take-le, map-append, take_at}
use Rattle.s2ix_c_calls.specs.Lists.{IsFilled, IsPut}
use Rattle.s2ix_c_calls.specs.Status.{done, no_room}
use Rattle.s2ix_c_calls.proofs.Filling.{empty, puts_page}

-- of all items those in front are out as far as there is room, and those behind them go to what room is left
module _ {A B : Type 0} (f : A → B) (front left behind all : List A) (count more : ℕ) (old mid new tail_old tail : List B) (status number : ℕ)
    (is_all : all ≡ front ++ behind) (put : take count mid ++ map f left ≡ map f front) (after : drop count mid ≡ drop count old)
    (long : length mid ≡ length old) (within : count ≤ length old) (full : count < length old → left ≡ []) (is_more : more ≡ length left)
    (tail_is : tail_old ≡ drop count old) (filled : IsFilled (map f behind) status number tail_old tail) (tail_long : length tail ≡ length tail_old)
    (new_is : new ≡ take count mid ++ tail) where
  both : map f all ≡ map f front ++ map f behind
  both = ap (map f) is_all ∙ map-append f front behind

  out_long : length (take count mid) ≡ count
  out_long = length-take-le count mid (omega arith)

  total : count + (more + number) ≡ length (map f all)
  total =
      omega (
        arith,
        ap length both,
        length-append (map f front) (map f behind),
        ap length put,
        length-append (take count mid) (map f left),
        length-map left f,
        out_long,
        filled.long,
        is_more,
      )

  room_left : length tail_old ≡ length old - count
  room_left = ap length tail_is ∙ length-drop count old

  fills_behind : more ≡ 0 → IsFilled (map f all) status (count + (more + number)) old new
  fills_behind none =
      let front_out : take count mid ≡ map f front =
      sym (append-nil (take count mid)) ∙ ap (λ l. take count mid ++ map f l) (sym (empty left (omega arith))) ∙ put in
      let whole : map f all ≡ take count mid ++ map f behind = both ∙ ap (λ l. l ++ map f behind) (sym front_out) in
      let at : count + (more + number) ≡ length (take count mid) + number = omega (arith, out_long) in record {
        long = total;
        put = λ is_done.
            ap (λ n. take n new) at ∙ ap (take (length (take count mid) + number)) new_is
            ∙ take-append-add (take count mid) tail number
            ∙ ap (λ l. take count mid ++ l) (filled.put is_done)
            ∙ sym whole;
        after = λ is_done.
            ap (λ n. drop n new) at ∙ ap (drop (length (take count mid) + number)) new_is
            ∙ drop-append-add (take count mid) tail number
            ∙ filled.after is_done
            ∙ ap (drop number) tail_is
            ∙ drop_behind;
        short = λ refused.
            let why = filled.short refused in (
              why.0,
              omega (arith, why.1, room_left),
              new_is ∙ ap (λ l. take count mid ++ l) why.2
                  ∙ sym (take-append-add (take count mid) (map f behind) (length tail_old))
                  ∙ ap (λ n. take n (take count mid ++ map f behind)) at_end
                  ∙ ap (take (length old)) (sym whole),
            );
      }
    where
      drop_behind : drop number (drop count old) ≡ drop (count + (more + number)) old
      drop_behind = drop-drop number count old ∙ ap (λ n. drop n old) (omega (arith, none))

      at_end : length (take count mid) + length tail_old ≡ length old
      at_end = omega (arith, out_long, room_left)

  fills_before : 0 < more → IsFilled (map f all) no_room (count + (more + number)) old new
  fills_before some =
      let at_end : count ≡ length old =
      elim (cases_lt count (length old)) [
        | inl less ↦ absurd (omega (arith, ap length (full less), is_more))
        | inr at_least ↦ omega arith
      ] in
      let no_tail : tail ≡ [] = empty tail (omega (arith, tail_long, room_left, at_end)) in
      let same : new ≡ take count mid = new_is ∙ ap (λ l. take count mid ++ l) no_tail ∙ append-nil (take count mid) in record {
        long = total;
        put = λ e. absurd (omega arith);
        after = λ e. absurd (omega arith);
        short = λ _. (
          refl,
          omega (arith, at_end, some),
          same
              ∙ sym (take_at (take count mid) (map f left ++ map f behind) (length old) (out_long ∙ at_end))
              ∙ ap (take (length old)) (sym (append_assoc (take count mid) (map f left) (map f behind)))
              ∙ ap (λ l. take (length old) (l ++ map f behind)) put
              ∙ ap (take (length old)) (sym both),
        );
      }

  -- the status says whether pairs in front have no room
  pub fills_both : (told : ℕ) → (0 < more → told ≡ no_room) → (more ≡ 0 → told ≡ status) → IsFilled (map f all) told (count + (more + number)) old new
  fills_both told short same = elim (cases_lt 0 more) [
    | inl some ↦ subst (λ (s : ℕ). IsFilled (map f all) s (count + (more + number)) old new) (sym (short some)) (fills_before some)
    | inr at_most ↦
        let none : more ≡ 0 = omega arith in
        subst (λ (s : ℕ). IsFilled (map f all) s (count + (more + number)) old new) (sym (same none)) (fills_behind none)
  ]

-- a buffer whose part from a place on is written anew: behind that part is none
pub to_the_end : {A : Type 0} (count : ℕ) (mid tail : List A)
    → take count mid ++ (tail ++ drop (length mid - count) (drop count mid)) ≡ take count mid ++ tail
to_the_end count mid tail =
    let none = empty (drop (length mid - count) (drop count mid))
    (omega (arith, length-drop (length mid - count) (drop count mid), length-drop count mid)) in
    ap (λ l. take count mid ++ (tail ++ l)) none ∙ ap (λ l. take count mid ++ l) (append-nil tail)

-- ---- a page of two lists, one behind the other

-- what is left of both after some items of which so many were the first's
pub left_of_both : {A : Type 0} (xs ys front behind : List A) (from passed : ℕ) → passed ≤ from → passed ≤ length xs → (passed < from → front ≡ [])
    → front ≡ drop passed xs → behind ≡ drop (from - passed) ys → drop from (xs ++ ys) ≡ front ++ behind
left_of_both xs ys front behind from passed before within ends front_is behind_is =
    let rest : ℕ = from - passed in
    let split : from ≡ passed + rest = omega arith in
    let here : drop from (xs ++ ys) ≡ drop rest (front ++ ys) =
    ap (λ n. drop n (xs ++ ys)) split ∙ sym (drop-drop rest passed (xs ++ ys)) ∙ ap (drop rest) (drop-append-le passed xs ys within)
    ∙ ap (λ l. drop rest (l ++ ys)) (sym front_is) in
    here ∙ elim (cases_lt passed from) [
      | inl less ↦
          let none = ends less in ap (λ l. drop rest (l ++ ys)) none ∙ sym behind_is ∙ ap (λ l. l ++ behind) (sym none)
      | inr at_least ↦
          let zero : rest ≡ 0 = omega arith in
          ap (λ n. drop n (front ++ ys)) zero ∙ ap (λ l. front ++ l) (sym (behind_is ∙ ap (λ n. drop n ys) zero))
    ]

module _ {A B : Type 0} (f : A → B) (front left behind rest : List A) (count : ℕ) (old mid new tail_old tail : List B) (number : ℕ)
    (put : take count mid ++ map f left ≡ map f front) (after : drop count mid ≡ drop count old)
    (long : length mid ≡ length old) (within : count ≤ length old) (full : count < length old → left ≡ [])
    (tail_is : tail_old ≡ drop count old) (tail_put : take number tail ++ map f rest ≡ map f behind) (tail_after : drop number tail ≡ drop number tail_old)
    (tail_long : length tail ≡ length tail_old) (tail_within : number ≤ length tail_old) (tail_full : number < length tail_old → rest ≡ [])
    (new_is : new ≡ take count mid ++ tail) where
  mid_long : length (take count mid) ≡ count
  mid_long = length-take-le count mid (omega arith)

  tail_room : length tail_old ≡ length old - count
  tail_room = ap length tail_is ∙ length-drop count old

  new_long : length new ≡ length old
  new_long = omega (arith, ap length new_is, length-append (take count mid) tail, mid_long, tail_long, tail_room)

  at_end : take (count + number) new ≡ take count mid ++ take number tail
  at_end =
      ap (λ n. take (n + number) new) (sym mid_long) ∙ ap (take (length (take count mid) + number)) new_is
      ∙ take-append-add (take count mid) tail number

  new_after : drop (count + number) new ≡ drop (count + number) old
  new_after =
      ap (λ n. drop (n + number) new) (sym mid_long) ∙ ap (drop (length (take count mid) + number)) new_is
      ∙ drop-append-add (take count mid) tail number
      ∙ tail_after ∙ ap (drop number) tail_is ∙ drop-drop number count old

  page_of_both : IsPut (map f (take (length old) (front ++ behind))) done (count + number) old new
  page_of_both = elim (cases_lt count (length old)) [
    | inl less ↦
        let none = full less in
        let whole : take count mid ≡ map f front =
        sym (append-nil (take count mid)) ∙ ap (λ l. take count mid ++ map f l) (sym none) ∙ put in
        puts_page f (front ++ behind) (map f rest) (count + number) old new
        (ap (λ l. l ++ map f rest) at_end ∙ append_assoc (take count mid) (take number tail) (map f rest) ∙ ap (λ l. take count mid ++ l) tail_put
        ∙ ap (λ l. l ++ map f behind) whole ∙ sym (map-append f front behind))
        new_after new_long (omega (arith, tail_within, tail_room))
        (λ room. ap (map f) (tail_full (omega (arith, room, tail_room))))
    | inr at_least ↦
        let none : number ≡ 0 = omega (arith, tail_within, tail_room) in
        puts_page f (front ++ behind) (map f left ++ map f behind) (count + number) old new
        (ap (λ l. l ++ (map f left ++ map f behind)) (at_end ∙ ap (λ n. take count mid ++ take n tail) none ∙ append-nil (take count mid))
        ∙ sym (append_assoc (take count mid) (map f left) (map f behind)) ∙ ap (λ l. l ++ map f behind) put ∙ sym (map-append f front behind))
        new_after new_long (omega (arith, tail_within, tail_room)) (λ room. absurd (omega (arith, room)))
  ]

  pub page_of_all : (all : List A) → all ≡ front ++ behind → IsPut (map f (take (length old) all)) done (count + number) old new
  page_of_all all is = subst (λ (l : List A). IsPut (map f (take (length old) l)) done (count + number) old new) (sym is) page_of_both
