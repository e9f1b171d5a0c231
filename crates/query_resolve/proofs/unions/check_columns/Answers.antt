use Rattle.std.proofs.Common.{sym, refl, arith}
use Rattle.std.proofs.lemmas.List.{length-map}
use Rattle.std.proofs.lemmas.Option.{slice_get_within, get_or_from_slice_get}
use Rattle.std.specs.List.{zip}
use Rattle.cqa_value.specs.declared.memory.Fail.TheVariants.{Refused}
use Rattle.std.proofs.Common.{Some, None}
use Rattle.cqa_model.specs.Query.{kind_at}
use Rattle.query_resolve.specs.Checks.{answer_kinds}
use Rattle.query_resolve.proofs.Members.{passed_more, passed_stopped, passed_all}
use Rattle.query_resolve.proofs.Alike.{zip_get, zip_short, clash_there}
use Rattle.query_resolve.proofs.unions.check_columns.Goals as goal

pub loop-at-init : goal.loop-at-init
loop-at-init c = record { fault = refl }

pub loop-at-preserved : goal.loop-at-preserved
loop-at-preserved c =
    let firsts = answer_kinds c.args.first.now.db.now c.args.first.now.query.now in
    let kinds = answer_kinds c.args.part.now.db.now c.args.part.now.query.now in
    let here = zip_get firsts kinds c.loop-at.at c.answer_kind.result c.answer_kind-in-loop-at.result c.answer_kind.ensures c.answer_kind-in-loop-at.ensures in
    let inside = slice_get_within (zip firsts kinds) c.loop-at.at (c.answer_kind.result, c.answer_kind-in-loop-at.result) here in
    passed_more c.loop-at.invariant inside (sym (get_or_from_slice_get (zip firsts kinds) c.loop-at.at (c.answer_kind.result, c.answer_kind-in-loop-at.result) (c.answer_kind.result, c.answer_kind-in-loop-at.result) here))
    (clash_there c.args.number firsts kinds c.loop-at.at c.answer_kind.result c.answer_kind-in-loop-at.result None inside c.in_default.ensures)

pub returns-in-Some : goal.returns-in-Some
returns-in-Some c =
    let firsts = answer_kinds c.args.first.now.db.now c.args.first.now.query.now in
    let kinds = answer_kinds c.args.part.now.db.now c.args.part.now.query.now in
    let here = zip_get firsts kinds c.loop-at.at c.answer_kind.result c.answer_kind-in-loop-at.result c.answer_kind.ensures c.answer_kind-in-loop-at.ensures in
    let inside = slice_get_within (zip firsts kinds) c.loop-at.at (c.answer_kind.result, c.answer_kind-in-loop-at.result) here in
    passed_stopped (Refused c.in-Some.fault) c.loop-at.invariant inside (sym (get_or_from_slice_get (zip firsts kinds) c.loop-at.at (c.answer_kind.result, c.answer_kind-in-loop-at.result) (c.answer_kind.result, c.answer_kind-in-loop-at.result) here))
    (clash_there c.args.number firsts kinds c.loop-at.at c.answer_kind.result c.answer_kind-in-loop-at.result (Some c.in-Some.fault) inside c.in-Some.ensures) refl

pub returns : goal.returns
returns c =
    let first = c.args.first.now.query.now in
    let firsts = answer_kinds c.args.first.now.db.now first in
    let over = c.loop-at-test.false in
    record {
      refused = tt;
      valid = passed_all c.loop-at.invariant (omega (arith, over, zip_short firsts (answer_kinds c.args.part.now.db.now c.args.part.now.query.now), length-map first.answer (kind_at first c.args.first.now.db.now), c.len-at-end.ensures));
      is = tt;
    }
