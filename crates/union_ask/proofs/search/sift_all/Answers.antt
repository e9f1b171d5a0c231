use Rattle.std.proofs.Common.{◌∙◌, ℕ, List, refl, sym, subst}
use Rattle.std.specs.Option.{IfSome}
use Rattle.std.proofs.lemmas.Option.{IfSome_then}
use Rattle.std.proofs.lemmas.List.{nil_from_length}
use Rattle.std.specs.Vec.Iter.{into_iter_items}
use Rattle.cqa_value.specs.declared.value.Value.{Value}
use Rattle.union_ask.specs.Candidates.{AreCandidatesIn}
use Rattle.union_ask.specs.Searching.{IsStopOver, IsStopAtOver, SiftsAllIn}
use Rattle.union_ask.proofs.Searching.{AreDecided, next-candidate, candidate-long, stop_is, decided-none, decided-more, decided-all}
use Rattle.union_ask.proofs.search.sift_all.Goals as goal

pub loop-row-init : goal.loop-row-init
loop-row-init c =
    let parts = c.args.parts.now in
    record {
      decided = decided-none parts.db.now parts.queries.now c.args.side (into_iter_items c.into_iter-row-iterator.result) c.args.answers.now.items c.requires.none;
      lookups = c.requires.lookups;
      search = c.requires.search;
      budget = refl;
    }

pub sift-requires-clause-long : goal.sift-requires-clause-long
sift-requires-clause-long c =
    let parts = c.args.parts.now in
    let all = into_iter_items c.into_iter-row-iterator.result in
    let later = into_iter_items c.next.new.self in
    let are = subst (AreCandidatesIn parts.db.now parts.queries.now) (sym c.into_iter-row-iterator.ensures.into_iter_gives.0) c.requires.rows in
    let decided = subst (AreDecided parts.db.now parts.queries.now c.args.side all c.loop-row.answers.items) c.in-Some.ensures.steps.0 c.loop-row.invariant.decided in
    candidate-long parts.db.now parts.queries.now parts.parts c.in-Some.row (next-candidate parts.db.now parts.queries.now c.args.side all are c.loop-row.answers.items c.in-Some.row later decided)

pub returns-then-is_some-clause-stopped : goal.returns-then-is_some-clause-stopped
returns-then-is_some-clause-stopped c =
    let parts = c.args.parts.now in
    let budget = c.args.search.now.budget in
    let frame = c.args.scope.now.frame.tables in
    let row = c.in-Some.row in
    let all = into_iter_items c.into_iter-row-iterator.result in
    let later = into_iter_items c.next.new.self in
    let are = subst (AreCandidatesIn parts.db.now parts.queries.now) (sym c.into_iter-row-iterator.ensures.into_iter_gives.0) c.requires.rows in
    let decided = subst (AreDecided parts.db.now parts.queries.now c.args.side all c.loop-row.answers.items) c.in-Some.ensures.steps.0 c.loop-row.invariant.decided in
    let stopped = subst (λ (n : ℕ). IfSome c.in_ok-stop.stop (IsStopAtOver parts.db.now frame parts.queries.now n row)) c.loop-row.invariant.budget c.in_ok-stop.ensures.stopped in
    IfSome_then c.in_ok-stop.stop {P = IsStopAtOver parts.db.now frame parts.queries.now budget row} {Q = IsStopOver parts.db.now frame parts.queries.now budget} stopped (stop_is parts.db.now parts.queries.now c.args.side all are c.loop-row.answers.items row later decided frame budget)

pub loop-row-preserved : goal.loop-row-preserved
loop-row-preserved c =
    let parts = c.args.parts.now in
    let row = c.in-Some.row in
    let all = into_iter_items c.into_iter-row-iterator.result in
    let later = into_iter_items c.next.new.self in
    let are = subst (AreCandidatesIn parts.db.now parts.queries.now) (sym c.into_iter-row-iterator.ensures.into_iter_gives.0) c.requires.rows in
    let decided = subst (AreDecided parts.db.now parts.queries.now c.args.side all c.loop-row.answers.items) c.in-Some.ensures.steps.0 c.loop-row.invariant.decided in
    record {
      decided = decided-more parts.db.now parts.queries.now c.args.side all are c.loop-row.answers.items row later decided c.sift.new.answers.items (c.in_ok-stop.ensures.sifted (sym c.is_some.ensures ∙ c.if-is_some.false));
      lookups = c.sift.ensures.lookups;
      search = c.sift.ensures.search;
      budget = c.sift.ensures.budget ∙ c.loop-row.invariant.budget;
    }

pub returns-clause-all : goal.returns-clause-all
returns-clause-all c = λ none.
    let parts = c.args.parts.now in
    subst (λ (rows : List (List Value)). SiftsAllIn parts.db.now parts.queries.now c.args.side rows c.loop-row.answers.items) c.into_iter-row-iterator.ensures.into_iter_gives.0
    (decided-all parts.db.now parts.queries.now c.args.side (into_iter_items c.into_iter-row-iterator.result) c.loop-row.answers.items (into_iter_items c.loop-row.row-iterator) c.loop-row.invariant.decided
    (nil_from_length (into_iter_items c.loop-row.row-iterator) (sym c.loop-row.row-iterator.rest.ok.0 ∙ c.in-None.ensures.steps.0)))
