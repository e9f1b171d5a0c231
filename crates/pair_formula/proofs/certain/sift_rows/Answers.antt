use Rattle.std.proofs.Common.{OnOk, sym, subst}
use Rattle.table_blocks.specs.declared.bound.Bound.{Bound}
use Rattle.cqa_model.specs.Graph.{IsPair}
use Rattle.pair_answers.proofs.Told.{pair-told}
use Rattle.repair_clauses.specs.Candidates.{AreCandidates}
use Rattle.row_answers.specs.Sides.{IsOf}
use Rattle.row_answers.specs.Sifting.{AreSifted}
use Rattle.pair_formula.proofs.certain.sift_rows.Goals as goal

pub sift_all-sifted-requires-clause-pair : goal.sift_all-sifted-requires-clause-pair
sift_all-sifted-requires-clause-pair c =
    let pair = c.args.pair.now in
    subst (λ (b : Bound). IsPair b.query.now) (sym c.in-Ok.ensures) (pair-told pair.bound.now.query.now pair.pair)

pub sift_all-sifted-requires-clause-rows : goal.sift_all-sifted-requires-clause-rows
sift_all-sifted-requires-clause-rows c = subst (λ (b : Bound). AreCandidates b.query.now b.db.now c.args.rows.items) (sym c.in-Ok.ensures) c.requires.rows

pub returns-in-Ok : goal.returns-in-Ok
returns-in-Ok c = subst (λ (b : Bound). OnOk c.sift_all-sifted.result (AreSifted (IsOf b.db.now b.query.now c.args.side) c.args.rows.items c.sift_all-sifted.new.answers.items)) c.in-Ok.ensures c.sift_all-sifted.ensures
