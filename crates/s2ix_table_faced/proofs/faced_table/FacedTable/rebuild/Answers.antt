use Rattle.std.proofs.Common.{◌+◌, ◌*◌, ◌≤◌, length, map, sym, ap, ◌∙◌, subst, arith}
use Rattle.s2ix_bag_pairs.specs.Collection.{Collection, IsCollection}
use Rattle.s2ix_table_walk.specs.Table.{IsRangeTable}
use Rattle.s2ix_table_kept.specs.Faces.{changed_count, changed_on, faces, faces_of}
use Rattle.s2ix_table_faced.specs.Layout.{ranges_of}
use Rattle.s2ix_table_kept.specs.Reading.{HasRead, AreChangedRead, two_searches}
use Rattle.s2ix_table_kept.proofs.ReadCounts.{few_reads}
use Rattle.s2ix_table_faced.proofs.faced_table.FacedTable.rebuild.Given.{Over}
use Rattle.s2ix_table_faced.proofs.faced_table.FacedTable.rebuild.Goals.{After-read_changed_lists}
use Rattle.s2ix_table_faced.proofs.faced_table.FacedTable.rebuild.Goals as goal

-- ---- what was read

pub change_faces-requires-clause-lists : goal.change_faces-requires-clause-lists
change_faces-requires-clause-lists g c =
    c.in_ok-lists.ensures.pairs ∙ ap (λ (hs : Collection). map (changed_on c.args.change.now hs) faces) (sym c.requires.made)

pub change_faces-requires-clause-rises : goal.change_faces-requires-clause-rises
change_faces-requires-clause-rises g c = subst IsCollection (sym c.requires.made) (g.met.B.PairReader.is_read c.args.bag.now).is_collection

pub change_faces-requires-clause-within_limit : goal.change_faces-requires-clause-within_limit
change_faces-requires-clause-within_limit g c =
    let within_limit = (g.met.B.PairReader.is_read c.args.bag.now).within_limit in
    omega (arith, within_limit, ap length c.requires.made)

-- at most what the change touches was read, and the searches for it
read_few : (g : Over) (c : After-read_changed_lists g)
    → g.B.PairReader.spent c.read_changed_lists.new.reader
    ≤ changed_count c.args.change.now (g.B.PairReader.shown c.args.bag.now)
    + faces_of c.args.change.now * two_searches (g.B.PairReader.shown c.args.bag.now)
read_few g c =
    let change = c.args.change.now in
    let hs = g.B.PairReader.shown c.args.bag.now in
    let is = g.met.B.PairReader.is_read c.args.bag.now in
    let after = g.B.PairReader.spent c.read_changed_lists.new.reader in
    let most = changed_count change hs + faces_of change * two_searches hs in
    let reads = subst (λ n. HasRead 0 most n after) c.requires.unread c.read_changed_lists.ensures.refused in
    (few_reads change hs 0 after is reads).1

pub returns-in_err-lists-clause-reads_few : goal.returns-in_err-lists-clause-reads_few
returns-in_err-lists-clause-reads_few g c = read_few g (goal.at.returns-in_err-lists-clause-reads_few g c).After-read_changed_lists

pub returns-in_err-change_faces-clause-reads_few : goal.returns-in_err-change_faces-clause-reads_few
returns-in_err-change_faces-clause-reads_few g c = read_few g (goal.at.returns-in_err-change_faces-clause-reads_few g c).After-read_changed_lists

pub returns-clause-reads_few : goal.returns-clause-reads_few
returns-clause-reads_few g c = read_few g (goal.at.returns-clause-reads_few g c).After-read_changed_lists

pub returns-clause-reads_all : goal.returns-clause-reads_all
returns-clause-reads_all g c =
    let change = c.args.change.now in
    let hs = g.B.PairReader.shown c.args.bag.now in
    let is = g.met.B.PairReader.is_read c.args.bag.now in
    let after = g.B.PairReader.spent c.read_changed_lists.new.reader in
    let reads = subst (λ n. AreChangedRead change hs n after) c.requires.unread c.in_ok-lists.ensures.reads in
    (few_reads change hs (changed_count change hs) after is reads).0

-- ---- the table then

pub returns-clause-pairs : goal.returns-clause-pairs
returns-clause-pairs g c = c.in_ok-change_faces.ensures.pairs ∙ c.requires.made

pub returns-clause-table : goal.returns-clause-table
returns-clause-table g c =
    let now = c.change_faces.new.self in
    subst (λ (hs : Collection). IsRangeTable hs (ranges_of now.parts.items now.heavy))
    (c.in_ok-change_faces.ensures.pairs ∙ c.requires.made) now.table
