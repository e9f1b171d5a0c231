use Rattle.std.proofs.Common.{[], length, ap, subst, sym, arith}
use Rattle.std.proofs.lemmas.List.{take_all}
use Rattle.join_access.specs.Listing.{IsOver, names_of}
use Rattle.join_access.proofs.Naming.{zip-length}
use Rattle.join_witness.specs.declared.lookup.Lookup.{Lookup}
use Rattle.part_search.specs.Parts.{AreNamesIn, HasTooManyIn}
use Rattle.part_search.specs.Lookups.{IsBoundTo, TellCandidates}
use Rattle.part_search.proofs.PartByPart.{handed-on, over-weaker, row-long, lookups-more, gathered-more, told-more, over-here, over-together}
use Rattle.part_search.proofs.gathering.gather_into.Goals as goal

pub loop-at-init : goal.loop-at-init
loop-at-init c = record {
  lookups = c.requires.lookups;
  names = ap names_of c.requires.none;
  few = let e = ap length c.requires.none in omega (arith, e);
  given = subst (TellCandidates c.args.parts.now.db.now [] c.args.row.now) (sym c.requires.untold) tt;
}

pub bounds-lookups-at : goal.bounds-lookups-at
bounds-lookups-at c =
    let size = zip-length (λ q (lookup : Lookup). IsBoundTo c.args.parts.now.db.now q lookup.bound.now) c.args.parts.now.queries.now c.loop-at.lookups c.loop-at.invariant.lookups in
    let l = c.loop-at-test.true in
    omega (arith, l, size)

pub witness_list-requires : goal.witness_list-requires
witness_list-requires c =
    row-long c.args.parts.now.db.now c.args.parts.now.queries.now c.args.row.now c.loop-at.lookups c.loop-at.invariant.lookups c.loop-at.at c.loop-at-test.true c.index-lookups-at.result c.requires.long

pub returns-in_err-found-clause-lookups : goal.returns-in_err-found-clause-lookups
returns-in_err-found-clause-lookups c =
    lookups-more c.args.parts.now.db.now c.args.parts.now.queries.now c.args.row.now c.loop-at.lookups c.loop-at.invariant.lookups c.loop-at.at c.loop-at-test.true c.index-lookups-at.result
    c.witness_list.new.lookup c.witness_list.ensures.bound

pub returns-in_err-found-clause-over : goal.returns-in_err-found-clause-over
returns-in_err-found-clause-over c =
    handed-on c.from_residual.result c.in_err-found.field-0.0 (IsOver (HasTooManyIn c.args.parts.now.queries.now c.args.parts.now.db.now c.args.row.now)) c.from_residual.ensures.1
    (over-weaker c.in_err-found.field-0.0 (over-here c.args.parts.now.db.now c.args.parts.now.queries.now c.args.row.now c.loop-at.lookups c.loop-at.invariant.lookups c.loop-at.at c.loop-at-test.true c.index-lookups-at.result
    c.loop-at.lists.items c.loop-at.invariant.names) c.in_err-found.ensures.over)

pub returns-in_err-put_behind-clause-lookups : goal.returns-in_err-put_behind-clause-lookups
returns-in_err-put_behind-clause-lookups c =
    lookups-more c.args.parts.now.db.now c.args.parts.now.queries.now c.args.row.now c.loop-at.lookups c.loop-at.invariant.lookups c.loop-at.at c.loop-at-test.true c.index-lookups-at.result
    c.witness_list.new.lookup c.witness_list.ensures.bound

pub returns-in_err-put_behind-clause-over : goal.returns-in_err-put_behind-clause-over
returns-in_err-put_behind-clause-over c =
    handed-on c.from_residual-in_err-put_behind.result c.in_err-put_behind.field-0.0 (IsOver (HasTooManyIn c.args.parts.now.queries.now c.args.parts.now.db.now c.args.row.now)) c.from_residual-in_err-put_behind.ensures.1
    (over-weaker c.in_err-put_behind.field-0.0 (over-together c.args.parts.now.db.now c.args.parts.now.queries.now c.args.row.now c.loop-at.lookups c.loop-at.invariant.lookups c.loop-at.at c.loop-at-test.true c.index-lookups-at.result
    c.loop-at.lists.items c.loop-at.invariant.names c.in_ok-found.found c.in_ok-found.ensures.all) c.in_err-put_behind.ensures.over)

pub loop-at-preserved : goal.loop-at-preserved
loop-at-preserved c = record {
  lookups = lookups-more c.args.parts.now.db.now c.args.parts.now.queries.now c.args.row.now c.loop-at.lookups c.loop-at.invariant.lookups c.loop-at.at c.loop-at-test.true c.index-lookups-at.result
      c.witness_list.new.lookup c.witness_list.ensures.bound;
  names = gathered-more c.args.parts.now.db.now c.args.parts.now.queries.now c.args.row.now c.loop-at.lookups c.loop-at.invariant.lookups c.loop-at.at c.loop-at-test.true c.index-lookups-at.result
      c.loop-at.lists.items c.loop-at.invariant.names c.in_ok-found.found c.put_behind.new.lists.items c.in_ok-found.ensures.all c.in_ok-put_behind.ensures.items;
  few = c.in_ok-put_behind.ensures.few;
  given = told-more c.args.parts.now.db.now c.args.parts.now.queries.now c.args.row.now c.loop-at.lookups c.loop-at.invariant.lookups c.loop-at.at c.loop-at-test.true c.index-lookups-at.result
      c.loop-at.lists.items c.loop-at.invariant.names c.in_ok-found.found c.is_empty-gives.result c.loop-at.given.items c.push.new.self.items c.in_ok-found.ensures.all c.is_empty-gives.ensures c.in_ok-push.ensures.items c.loop-at.invariant.given;
}

pub returns-in_err-push-clause-lookups : goal.returns-in_err-push-clause-lookups
returns-in_err-push-clause-lookups c =
    lookups-more c.args.parts.now.db.now c.args.parts.now.queries.now c.args.row.now c.loop-at.lookups c.loop-at.invariant.lookups c.loop-at.at c.loop-at-test.true c.index-lookups-at.result
    c.witness_list.new.lookup c.witness_list.ensures.bound

pub returns-clause-lookups : goal.returns-clause-lookups
returns-clause-lookups c = c.loop-at.invariant.lookups

pub returns-clause-names : goal.returns-clause-names
returns-clause-names c =
    subst (λ ps. AreNamesIn ps c.args.parts.now.db.now c.args.row.now (names_of c.loop-at.lists.items)) (take_all c.loop-at.at c.args.parts.now.queries.now c.loop-at-test.false) c.loop-at.invariant.names

pub returns-clause-given : goal.returns-clause-given
returns-clause-given c =
    subst (λ ps. TellCandidates c.args.parts.now.db.now ps c.args.row.now c.loop-at.given.items) (take_all c.loop-at.at c.args.parts.now.queries.now c.loop-at-test.false) c.loop-at.invariant.given
