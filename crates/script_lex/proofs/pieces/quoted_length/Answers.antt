use Rattle.std.proofs.Common.{◌≡◌, length, subst, sym, arith}
use Rattle.script_lex.proofs.Quotes.{TextSoFar, text_goes, text_stuck, text_over}
use Rattle.script_lex.proofs.pieces.quoted_length.Goals as goal

pub returns-in_default : goal.returns-in_default
returns-in_default c = text_stuck c.args.bytes.now c.loop-i.i c.loop-i.inside c.loop-i.last c.loop-i-test.true c.loop-i.invariant (sym c.in_default.ensures)

pub loop-i-preserved : goal.loop-i-preserved
loop-i-preserved c = text_goes c.args.bytes.now c.loop-i.i c.loop-i.inside c.in-Some.now c.loop-i.last c.end_so_far-last.result c.loop-i-test.true c.loop-i.invariant (sym c.in-Some.ensures) c.end_so_far-last.ensures

pub returns : goal.returns
returns c =
    let e : c.loop-i.i ≡ length c.args.bytes.now = omega arith in
    text_over c.args.bytes.now c.loop-i.inside c.loop-i.last (subst (λ z. TextSoFar c.args.bytes.now z c.loop-i.inside c.loop-i.last) e c.loop-i.invariant)
