-- Face by face, each when the change has an entry on it.
use Rattle.std.proofs.Common.{ℕ, Option, None, List, map, sym, ◌<◌, true, false, refl, ap, ◌∙◌, arith}
use Rattle.std.proofs.lemmas.List.{map-id}
use Rattle.s2ix_bag_pairs.specs.Collection.{Collection}
use Rattle.s2ix_table_kept.specs.Faces.{held_on, changed_on}
use Rattle.s2ix_table_kept.specs.Reading.{two_searches}
use Rattle.s2ix_table_kept.proofs.ReadCounts.{read_within}
use Rattle.s2ix_table_faced.proofs.Summing.{face_was_read, face_was_left, face_was_refused, tested, put_next, same_next, all_renewed, some_on, none_on_face, nothing_read, all_read}
use Rattle.s2ix_table_faced.proofs.read_faces.read_changed_lists.Goals as goal
use Rattle.s2ix_table_faced.proofs.read_faces.read_changed_lists.Goals.{then-changed-from+in_ok-read_list+in-None-1, then-changed-from+in_ok-read_list+in-Some+in-None-1, then-changed-from+in_ok-read_list+in-Some+in-Some-read-from-2, else-changed-from}

pub loop-face-init : goal.loop-face-init
loop-face-init g c =
    let hs = g.B.PairReader.shown c.args.reader.now in
    (refl, nothing_read c.args.change.now hs (two_searches hs) _ _ refl, refl)

pub returns-clause-pairs : goal.returns-clause-pairs
returns-clause-pairs g c =
    let hs = g.B.PairReader.shown c.args.reader.now in
    sym (map-id c.loop-face.read) ∙ c.loop-face.invariant.0 ∙ all_renewed c.loop-face.face (changed_on c.args.change.now hs) (λ f. None) (omega arith)

pub returns-clause-reads : goal.returns-clause-reads
returns-clause-reads g c =
    let hs = g.B.PairReader.shown c.args.reader.now in
    all_read c.args.change.now hs (two_searches hs) c.loop-face.face _ _ (omega arith) c.loop-face.invariant.1

pub returns-in_err-read_list-clause-refused : goal.returns-in_err-read_list-clause-refused
returns-in_err-read_list-clause-refused g c =
    let change = c.args.change.now in
    let hs = g.B.PairReader.shown c.args.reader.now in
    let face : ℕ = c.loop-face.face in
    let within : face < 6 = c.loop-face-test.true in
    let i = c.loop-face.invariant in
    let on = tested change c.changed_faces-changed.result face c.from.result true c.changed_faces-changed.ensures c.from.ensures within
    c.if-changed-from.true in
    face_was_refused change hs _ face _ _ _ within on i.2 i.1 c.read_list.ensures.refused

pub returns-clause-refused : goal.returns-clause-refused
returns-clause-refused g c =
    let hs = g.B.PairReader.shown c.args.reader.now in
    read_within _ _ 0 _ _ _ (omega arith) (omega arith)
    (all_read c.args.change.now hs (two_searches hs) c.loop-face.face _ _ (omega arith) c.loop-face.invariant.1)

pub loop-face-preserved : goal.loop-face-preserved
loop-face-preserved g c =
    let change = c.args.change.now in
    let hs = g.B.PairReader.shown c.args.reader.now in
    let face : ℕ = c.loop-face.face in
    let own = changed_on change hs in
    let none_yet : ℕ → Option Collection = λ f. None in
    let items : Option Collection → Option Collection = λ x. x in
    let i = c.loop-face.invariant in
    let within : face < 6 = c.loop-face-test.true in
    elim c.if-changed-from.branch [
      | then-changed-from+in_ok-read_list+in-None-1 w ↦
          (let on =
          tested change c.changed_faces-changed.result face c.from.result true c.changed_faces-changed.ensures c.from.ensures within
          w.if-changed-from.true in
          let r = w.in_ok-read_list.ensures in
          let made = r.pairs ∙ ap (λ (xs : Collection). held_on face xs) i.2 in (
            put_next items face _ own none_yet _ _ _ within w.from-then-changed-from.ensures w.read-is i.0
                (some_on change hs _ face on made),
            face_was_read change hs _ face _ _ _ _ on i.2 (ap g.B.PairReader.spent w.reader-is) i.1 r.reads,
            ap g.B.PairReader.shown w.reader-is ∙ r.same ∙ i.2,
          ))
      | then-changed-from+in_ok-read_list+in-Some+in-None-1 w ↦
          (let on =
          tested change c.changed_faces-changed.result face c.from.result true c.changed_faces-changed.ensures c.from.ensures within
          w.if-changed-from.true in
          let r = w.in_ok-read_list.ensures in
          let made = r.pairs ∙ ap (λ (xs : Collection). held_on face xs) i.2 in (
            put_next items face _ own none_yet _ _ _ within w.from-then-changed-from.ensures w.read-is i.0
                (some_on change hs _ face on made),
            face_was_read change hs _ face _ _ _ _ on i.2 (ap g.B.PairReader.spent w.reader-is) i.1 r.reads,
            ap g.B.PairReader.shown w.reader-is ∙ r.same ∙ i.2,
          ))
      | then-changed-from+in_ok-read_list+in-Some+in-Some-read-from-2 w ↦
          (let on =
          tested change c.changed_faces-changed.result face c.from.result true c.changed_faces-changed.ensures c.from.ensures within
          w.if-changed-from.true in
          let r = w.in_ok-read_list.ensures in
          let made = r.pairs ∙ ap (λ (xs : Collection). held_on face xs) i.2 in (
            put_next items face _ own none_yet _ _ _ within w.from-then-changed-from.ensures w.read-is i.0
                (some_on change hs _ face on made),
            face_was_read change hs _ face _ _ _ _ on i.2 (ap g.B.PairReader.spent w.reader-is) i.1 r.reads,
            ap g.B.PairReader.shown w.reader-is ∙ r.same ∙ i.2,
          ))
      | else-changed-from w ↦
          (let none =
          tested change c.changed_faces-changed.result face c.from.result false c.changed_faces-changed.ensures c.from.ensures within
          w.if-changed-from.false in (
            ap (λ (xs : List (Option Collection)). map items xs) w.read-is ∙ i.0
                ∙ same_next face own none_yet within (none_on_face change hs face none),
            face_was_left change hs face _ _ _ none (ap g.B.PairReader.spent w.reader-is) i.1,
            ap g.B.PairReader.shown w.reader-is ∙ i.2,
          ))
    ]
