use Rattle.std.proofs.Common.{sym, subst}
use Rattle.row_answers.specs.Sides.{IsAnswerOf}
use Rattle.row_answers.proofs.Sieving.{answer-of}
use Rattle.repair_clauses.proofs.Candidates.{candidates_are}
use Rattle.pair_formula.proofs.certain.of_candidates.Goals as goal

pub sift_rows-requires-clause-rows : goal.sift_rows-requires-clause-rows
sift_rows-requires-clause-rows c =
    candidates_are c.args.pair.now.bound.now.query.now c.args.pair.now.bound.now.db.now c.in_ok-candidates.field-0 c.into_vec-rows.result.items c.into_vec-rows.ensures c.in_ok-candidates.ensures.possible c.in_ok-candidates.ensures.candidates

pub returns-in-Ok : goal.returns-in-Ok
returns-in-Ok c =
    let q = c.args.pair.now.bound.now.query.now in
    let db = c.args.pair.now.bound.now.db.now in
    let rows = c.into_vec-rows.result.items in
    let are = candidates_are q db c.in_ok-candidates.field-0 rows c.into_vec-rows.ensures c.in_ok-candidates.ensures.possible c.in_ok-candidates.ensures.candidates in
    subst (IsAnswerOf db q c.args.side) (sym c.from_vec.ensures) (answer-of db q c.args.pair.now.bound.now.fits rows c.sift_rows.new.answers.items are.ascending are.exactly c.args.side c.in-Ok.ensures)
