use Rattle.std.proofs.Common.{◌≢◌, ◌∙◌, sym, ap, length, rules, arith, refl}
use Rattle.cnf_form.specs.Formulas.{lrat_line}
use Rattle.cnf_form.specs.Lines.{lines}
use Rattle.cnf_form.proofs.ReadLines.{formula_headed, formula_lrat, formula_skipped, line_shorter, past_more}
use Rattle.cnf_form.proofs.header.find_header.Goals as goal

pub returns-then-is_lrat_line : goal.returns-then-is_lrat_line
returns-then-is_lrat_line c =
    let some : length c.loop-rest.rest.now ≢ 0 = search rules in
    formula_lrat c.loop-rest.number c.args.text.now c.loop-rest.rest.now some (sym c.is_lrat_line.ensures ∙ c.if-is_lrat_line.true) c.loop-rest.invariant.past c.loop-rest.invariant.same

pub returns-in-Some : goal.returns-in-Some
returns-in-Some c =
    let some : length c.loop-rest.rest.now ≢ 0 = search rules in (
      formula_headed c.loop-rest.number c.args.text.now c.loop-rest.rest.now c.in-Some.after.now _ some c.in-Some.ensures.1 (sym c.is_lrat_line.ensures ∙ c.if-is_lrat_line.false)
          (sym c.is_skipped_line.ensures ∙ c.if-not-is_skipped_line.true) c.in-Some.ensures.0 c.loop-rest.invariant.same,
      past_more 1 c.loop-rest.number c.args.text.now c.loop-rest.rest.now c.in-Some.after.now some c.in-Some.ensures.1 (sym c.is_lrat_line.ensures ∙ c.if-is_lrat_line.false) c.loop-rest.invariant.past,
    )

pub returns-in-None : goal.returns-in-None
returns-in-None c =
    let some : length c.loop-rest.rest.now ≢ 0 = search rules in
    formula_headed c.loop-rest.number c.args.text.now c.loop-rest.rest.now _ _ some refl (sym c.is_lrat_line.ensures ∙ c.if-is_lrat_line.false)
    (sym c.is_skipped_line.ensures ∙ c.if-not-is_skipped_line.true) c.in-None.ensures c.loop-rest.invariant.same (lrat_line 1 (lines c.args.text.now))

pub loop-rest-smaller : goal.loop-rest-smaller
loop-rest-smaller c =
    let some : length c.loop-rest.rest.now ≢ 0 = search rules in
    let s = line_shorter c.loop-rest.rest.now some in let e = ap length c.skip_line-rest.ensures in omega (arith, s, e)

pub loop-rest-preserved : goal.loop-rest-preserved
loop-rest-preserved c =
    let some : length c.loop-rest.rest.now ≢ 0 = search rules in record {
      past = past_more 1 c.loop-rest.number c.args.text.now c.loop-rest.rest.now c.skip_line-rest.result.now some c.skip_line-rest.ensures (sym c.is_lrat_line.ensures ∙ c.if-is_lrat_line.false) c.loop-rest.invariant.past;
      same = formula_skipped c.loop-rest.number c.args.text.now c.loop-rest.rest.now c.skip_line-rest.result.now some c.skip_line-rest.ensures (sym c.is_lrat_line.ensures ∙ c.if-is_lrat_line.false)
          (sym c.is_skipped_line.ensures ∙ c.if-not-is_skipped_line.false) c.loop-rest.invariant.same;
    }
