use Rattle.std.proofs.Common.{◌<◌, length, arith}
use Rattle.query_replies.specs.Classes.{IsPartClassOf}
use Rattle.query_replies.proofs.Written.{as_many, written_at, one_beside, all_beside}
use Rattle.query_replies.proofs.unions.classes_of.Goals as goal

pub bounds-selects-at : goal.bounds-selects-at
bounds-selects-at c = omega (arith, c.loop-at-test.true, as_many c.args.database.now c.args.selects.now c.args.parts.now c.requires)

pub class_of_part-requires : goal.class_of_part-requires
class_of_part-requires c = written_at c.args.database.now c.args.selects.now c.args.parts.now c.requires c.loop-at.at c.index-selects-at.result c.index-parts-at.result c.loop-at-test.true c.index-selects-at.is c.index-parts-at.is

pub loop-at-preserved : goal.loop-at-preserved
loop-at-preserved c =
    let l : c.loop-at.at < length c.args.selects.now = omega (arith, c.loop-at-test.true, as_many c.args.database.now c.args.selects.now c.args.parts.now c.requires) in
    one_beside (IsPartClassOf c.args.database.now) c.args.selects.now c.loop-at.classes _ c.loop-at.at c.index-selects-at.result _ l c.loop-at.invariant c.index-selects-at.is c.in_ok-class_of_part.ensures c.in_ok-push.ensures.ok

pub returns : goal.returns
returns c =
    let many = as_many c.args.database.now c.args.selects.now c.args.parts.now c.requires in
    all_beside (IsPartClassOf c.args.database.now) c.args.selects.now c.loop-at.classes c.loop-at.at (omega (arith, many, c.loop-at-test.false)) c.loop-at.invariant
