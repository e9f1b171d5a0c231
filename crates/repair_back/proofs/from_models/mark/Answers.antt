use Rattle.std.proofs.Common.{◌<◌, [], length, get_or, refl, sym, subst, arith}
use Rattle.std.proofs.lemmas.List.{get_or_default}
use Rattle.std.proofs.lemmas.List.Elements.{Contains-get_or}
use Rattle.cqa_model.specs.declared.query.RowId.{RowId}
use Rattle.repair_back.proofs.Marking.{marked-more, marked-all}
use Rattle.repair_back.proofs.from_models.mark.Goals as goal

abbrev none : RowId
none = record { table = 0; place = 0 }

pub bounds-kept-name : goal.bounds-kept-name
bounds-kept-name c =
    let name : RowId = get_or c.args.listed.now c.loop-at.at none in
    subst (λ n. name.table < n) (sym c.loop-at.invariant.size) (c.requires.there name (Contains-get_or c.args.listed.now c.loop-at.at none c.loop-at-test.true))

pub loop-at-preserved : goal.loop-at-preserved
loop-at-preserved c =
    let s = c.set.ensures in
    let name : RowId = get_or c.args.listed.now c.loop-at.at none in
    let there : name.table < length c.loop-at.kept = subst (λ n. name.table < n) (sym c.loop-at.invariant.size) (c.requires.there name (Contains-get_or c.args.listed.now c.loop-at.at none c.loop-at-test.true)) in
    marked-more c.args.kept.now c.loop-at.kept c.args.listed.now c.args.model.now c.loop-at.at c.loop-at.invariant (get_or c.args.listed.now c.loop-at.at none) none _
    c.loop-at-test.true (subst (λ n. c.loop-at.at < n) c.requires.long c.loop-at-test.true) refl c.if-not-model-at.false
    (get_or c.loop-at.kept (get_or c.args.listed.now c.loop-at.at none).table c.index-kept-name.result) c.set.new.self there
    (get_or_default c.loop-at.kept (get_or c.args.listed.now c.loop-at.at none).table c.index-kept-name.result [] there) s.size s.is

pub returns-clause-is : goal.returns-clause-is
returns-clause-is c = marked-all c.args.kept.now c.loop-at.kept c.args.listed.now c.args.model.now c.loop-at.at c.loop-at.invariant (omega (arith, c.loop-at-test.false))
