use Rattle.std.proofs.Common.{◌≡◌, ◌∙◌, length, refl, sym, subst}
use Rattle.std.proofs.lemmas.List.{nil_from_length}
use Rattle.std.specs.Vec.Iter.{into_iter_items}
use Rattle.table_blocks.specs.declared.bound.Bound.{Bound}
use Rattle.cqa_model.specs.Graph.{IsPair}
use Rattle.repair_clauses.specs.Candidates.{AreCandidates}
use Rattle.repair_clauses.proofs.Candidates.{has_length}
use Rattle.row_answers.specs.Sides.{IsOf}
use Rattle.row_answers.specs.Sifting.{Sifts, AreSifted}
use Rattle.row_answers.proofs.Sieving.{AreDone, done-none, done-more, done-all}
use Rattle.pair_formula.proofs.Sieving.{next-candidate}
use Rattle.pair_formula.proofs.certain.sift_all.Goals as goal

pub loop-row-init : goal.loop-row-init
loop-row-init c =
    let bound = c.args.lookup.now.bound.now in
    record {
      done = done-none (IsOf bound.db.now bound.query.now c.args.side) (into_iter_items c.into_iter-row-iterator.result) c.args.answers.now.items c.requires.none;
      same = refl;
    }

pub sift-requires-clause-pair : goal.sift-requires-clause-pair
sift-requires-clause-pair c = subst (λ (b : Bound). IsPair b.query.now) (sym c.loop-row.invariant.same) c.requires.pair

pub sift-requires-clause-long : goal.sift-requires-clause-long
sift-requires-clause-long c =
    let q = c.args.lookup.now.bound.now.query.now in
    let db = c.args.lookup.now.bound.now.db.now in
    let all = into_iter_items c.into_iter-row-iterator.result in
    let are = subst (AreCandidates q db) (sym c.into_iter-row-iterator.ensures.into_iter_gives.0) c.requires.rows in
    let long : length c.in-Some.row ≡ length q.answer =
    has_length q db c.in-Some.row (next-candidate db q c.args.side all c.loop-row.answers.items are c.in-Some.row (into_iter_items c.next.new.self) (subst (AreDone (IsOf db q c.args.side) all c.loop-row.answers.items) c.in-Some.ensures.steps.0 c.loop-row.invariant.done)) in
    subst (λ (b : Bound). length c.in-Some.row ≡ length b.query.now.answer) (sym c.loop-row.invariant.same) long

pub loop-row-preserved : goal.loop-row-preserved
loop-row-preserved c =
    let q = c.args.lookup.now.bound.now.query.now in
    let db = c.args.lookup.now.bound.now.db.now in
    let all = into_iter_items c.into_iter-row-iterator.result in
    let old = c.loop-row.answers.items in
    let new = c.sift.new.answers.items in
    let row = c.in-Some.row in
    record {
      done = done-more (IsOf db q c.args.side) all old new row (into_iter_items c.next.new.self) (subst (AreDone (IsOf db q c.args.side) all old) c.in-Some.ensures.steps.0 c.loop-row.invariant.done)
          (subst (λ (b : Bound). Sifts (IsOf b.db.now b.query.now c.args.side) row old new) c.loop-row.invariant.same c.in_ok-sift.ensures.sifted);
      same = c.sift.ensures.bound ∙ c.loop-row.invariant.same;
    }

pub returns : goal.returns
returns c =
    let q = c.args.lookup.now.bound.now.query.now in
    let db = c.args.lookup.now.bound.now.db.now in
    subst (λ rows. AreSifted (IsOf db q c.args.side) rows c.loop-row.answers.items) c.into_iter-row-iterator.ensures.into_iter_gives.0
    (done-all (IsOf db q c.args.side) (into_iter_items c.into_iter-row-iterator.result) c.loop-row.answers.items (into_iter_items c.loop-row.row-iterator) c.loop-row.invariant.done (nil_from_length (into_iter_items c.loop-row.row-iterator) (sym c.loop-row.row-iterator.rest.ok.0 ∙ c.in-None.ensures.steps.0)))
