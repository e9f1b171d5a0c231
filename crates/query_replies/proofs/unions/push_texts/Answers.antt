use Rattle.std.proofs.Common.{◌<◌, ◌≤◌, length, IfSome, IsNone, refl, sym, subst, arith}
use Rattle.query_replies.specs.Parts.{HasText}
use Rattle.query_replies.proofs.Written.{as_many, written_at, one_text, all_texts, planned_before, no_texts}
use Rattle.query_replies.proofs.unions.push_texts.Goals as goal

pub loop-at-init : goal.loop-at-init
loop-at-init c = no_texts c.args.database.now c.args.selects.now c.args.parts.now c.args.texts.now c.requires.none

pub bounds-selects-at : goal.bounds-selects-at
bounds-selects-at c = omega (arith, c.loop-at-test.true, as_many c.args.database.now c.args.selects.now c.args.parts.now c.requires.parts)

pub text_of_part-requires : goal.text_of_part-requires
text_of_part-requires c =
    written_at c.args.database.now c.args.selects.now c.args.parts.now c.requires.parts c.loop-at.at c.index-selects-at.result c.index-parts-at.result c.loop-at-test.true c.index-selects-at.is c.index-parts-at.is

pub loop-at-preserved : goal.loop-at-preserved
loop-at-preserved c =
    let db = c.args.database.now in
    let selects = c.args.selects.now in
    let parts = c.args.parts.now in
    let s = c.index-selects-at.result in
    let q = c.index-parts-at.result in
    let l : c.loop-at.at < length selects = omega (arith, c.loop-at-test.true, as_many db selects parts c.requires.parts) in
    let has = subst (λ o. IfSome o (HasText db s q)) c.in-Some.is c.in_ok-text.ensures.sql in
    one_text db selects parts c.loop-at.at s q c.in-Some.text c.loop-at.texts c.push.new.self l c.loop-at-test.true c.loop-at.invariant c.index-selects-at.is c.index-parts-at.is has c.in_ok-push-in-Some.ensures.ok

pub returns-in-None : goal.returns-in-None
returns-in-None c =
    let db = c.args.database.now in
    let selects = c.args.selects.now in
    let parts = c.args.parts.now in
    let low : c.loop-at.at ≤ length parts = omega (arith, c.loop-at-test.true) in
    record {
      all = λ u. absurd (cc);
      first = record {
        part = c.index-parts-at.result;
        place = c.loop-at.at;
        at = (c.loop-at-test.true, sym c.index-parts-at.is);
        counted = refl;
        cyclic = c.in_ok-text.ensures.none (subst IsNone (sym c.in-None.is) refl);
        before = planned_before db selects parts c.loop-at.at c.loop-at.texts low c.loop-at.invariant;
      };
    }

pub returns : goal.returns
returns c =
    let many = as_many c.args.database.now c.args.selects.now c.args.parts.now c.requires.parts in
    record {
      all = λ u. all_texts c.args.database.now c.args.selects.now c.args.parts.now c.loop-at.at c.loop-at.texts (omega (arith, many, c.loop-at-test.false)) c.loop-at-test.false c.loop-at.invariant;
      first = tt;
    }
