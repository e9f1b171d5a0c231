use Rattle.std.proofs.Common.{sym, subst, arith}
use Rattle.std.specs.List.Sorted.{IsStrictlySortedBy}
use Rattle.cqa_model.specs.Database.{block_cmp, stored}
use Rattle.cqa_model.specs.Query.{rows_of}
use Rattle.join_access.specs.Listing.{names_of}
use Rattle.row_witnesses.proofs.Told.{all_names}
use Rattle.row_lists.specs.Runs.{AreRowPlaces}
use Rattle.repair_clauses.proofs.Naming.{are_places}
use Rattle.pair_formula.specs.Full.{AreFullRuns}
use Rattle.pair_formula.proofs.FullRuns.{AreFullTo, full-none, full-more, full-all}
use Rattle.pair_formula.proofs.full.full_of_atom.Goals as goal

pub loop-at-init : goal.loop-at-init
loop-at-init c =
    let w = c.args.witnesses.now in
    let b = w.bound.now in
    let key = c.key_of-key.result.now in
    let rows = c.rows_of-rows.result in
    let places = c.column-places.result.now in
    record {
      places = subst (λ x. AreRowPlaces x places) (sym c.rows_of-rows.ensures.rows)
          (are_places b.query.now b.db.now w.row.now (names_of w.list) (all_names w) c.args.atom c.requires.there places c.column-places.ensures.column);
      done = subst (AreFullTo key rows places c.args.atom c.args.base 0 c.args.base) (sym c.requires.none) (full-none key rows places c.args.atom c.args.base);
    }

pub loop-at-preserved : goal.loop-at-preserved
loop-at-preserved c =
    let key = c.key_of-key.result.now in
    let rows = c.rows_of-rows.result in
    let order = subst (λ k. IsStrictlySortedBy (block_cmp k) rows) (sym c.key_of-key.ensures) (c.rows_of-rows.ensures.in_order c.requires.there) in
    let v = c.loop-at.invariant in
    let e = c.run_end-end.ensures in
    record {
      places = v.places;
      done = full-more key rows c.column-places.result.now order v.places c.args.atom c.args.base c.loop-at.at c.loop-at.vars c.loop-at.spans.items v.done
          (omega (arith, c.loop-at-test.true)) c.run_end-end.result e.some e.within e.run e.stops c.in_ok-vars.vars c.add_run.new.spans.items c.in_ok-vars.ensures;
    }

pub returns-clause-blocks : goal.returns-clause-blocks
returns-clause-blocks c =
    let b = c.args.witnesses.now.bound.now in
    let n = c.args.atom in
    let key = c.key_of-key.result.now in
    let rows = rows_of b.query.now (stored b.db.now) n in
    let places = c.column-places.result.now in
    let vars = c.loop-at.vars in
    let spans = c.loop-at.spans.items in
    let full = full-all key c.rows_of-rows.result places n c.args.base c.loop-at.at vars spans c.loop-at.invariant.done (omega (arith, c.loop-at-test.false)) in
    let of_rows = subst (λ rs. AreFullRuns key rs n c.args.base places vars spans) c.rows_of-rows.ensures.rows full in
    (places, c.column-places.ensures.column, subst (λ k. AreFullRuns k rows n c.args.base places vars spans) c.key_of-key.ensures of_rows)
