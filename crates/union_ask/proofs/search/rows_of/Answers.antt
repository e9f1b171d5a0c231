use Rattle.std.proofs.Common.{ap, sym, subst}
use Rattle.std.specs.Option.{is_some}
use Rattle.union_ask.specs.Candidates.{AreCandidatesIn}
use Rattle.union_ask.specs.Searching.{IsAnswerIn}
use Rattle.union_ask.proofs.Searching.{answer-of}
use Rattle.union_ask.proofs.search.rows_of.Goals as goal

pub sift_all-requires-clause-rows : goal.sift_all-requires-clause-rows
sift_all-requires-clause-rows c = subst (AreCandidatesIn c.args.parts.now.db.now c.args.parts.now.queries.now) (sym c.into_vec-rows.ensures) c.in_ok-union_candidates.ensures.candidates

pub returns-in-Ok-None : goal.returns-in-Ok-None
returns-in-Ok-None c =
    let parts = c.args.parts.now in
    let rows = c.into_vec-rows.result.items in
    let answers = c.sift_all.new.answers.items in
    let are = subst (AreCandidatesIn parts.db.now parts.queries.now) (sym c.into_vec-rows.ensures) c.in_ok-union_candidates.ensures.candidates in
    let sifts = c.in-Ok-None.ensures.all (ap is_some c.in-Ok-None.field-0-is) in
    (subst (IsAnswerIn parts.db.now parts.queries.now c.args.side) (sym c.from_vec.ensures) (answer-of parts.db.now parts.queries.now parts.parts.fits rows answers are c.args.side sifts), λ row k. sifts.within row ((are.exactly row).1 k))
