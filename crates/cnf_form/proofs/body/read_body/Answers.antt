use Rattle.std.proofs.Common.{◌≢◌, ◌∙◌, sym, ap, length, rules, arith, ℕ}
use Rattle.cnf_form.specs.Lines.{lines}
use Rattle.cnf_form.proofs.ReadLines.{at_lrat, end_bad, end_of_end, line_bad, line_end, line_more, line_shorter, lrat_bad, lrat_done, past_more}
use Rattle.cnf_form.specs.Reading.{IsEndOf}
use Rattle.std.proofs.Common.{subst, List}
use Rattle.cnf_form.proofs.body.read_body.Goals as goal

pub returns-then-body-eq0 : goal.returns-then-body-eq0
returns-then-body-eq0 c =
    let some : length c.loop-rest.rest.now ≢ 0 = search rules in
    let a = at_lrat c.args.first c.loop-rest.number c.args.text.now c.loop-rest.rest.now some (sym c.is_lrat_line.ensures ∙ c.if-is_lrat_line.true) c.loop-rest.invariant.past in (
      lrat_done c.args.vars c.args.body.now c.loop-rest.body c.args.first c.loop-rest.number c.args.text.now c.loop-rest.rest.now some (sym c.is_lrat_line.ensures ∙ c.if-is_lrat_line.true) c.if-body-eq0.true c.loop-rest.invariant.same,
      a.1,
      ap lines c.skip_line.ensures ∙ sym a.2,
      end_of_end c.args.text.now c.loop-rest.rest.now c.skip_line.result.now c.loop-rest.invariant.past.end
          (subst (λ (s : List ℕ). IsEndOf s c.loop-rest.rest.now) (sym c.skip_line.ensures) (line_end c.loop-rest.rest.now)),
    )

pub returns-then-is_lrat_line : goal.returns-then-is_lrat_line
returns-then-is_lrat_line c =
    let some : length c.loop-rest.rest.now ≢ 0 = search rules in
    lrat_bad c.args.vars c.args.body.now c.loop-rest.body c.args.first c.loop-rest.number c.args.text.now c.loop-rest.rest.now some (sym c.is_lrat_line.ensures ∙ c.if-is_lrat_line.true) c.if-body-eq0.false c.loop-rest.invariant.past c.loop-rest.invariant.same

pub returns-in_default : goal.returns-in_default
returns-in_default c =
    let some : length c.loop-rest.rest.now ≢ 0 = search rules in
    let bad = rw c.in_default.is at c.in_ok-after.ensures in
    line_bad c.args.vars c.args.body.now c.loop-rest.body c.args.first c.loop-rest.number c.args.text.now c.loop-rest.rest.now some (sym c.is_lrat_line.ensures ∙ c.if-is_lrat_line.false) bad c.loop-rest.invariant.same

pub loop-rest-smaller : goal.loop-rest-smaller
loop-rest-smaller c =
    let some : length c.loop-rest.rest.now ≢ 0 = search rules in
    let more = rw c.in-Some.is at c.in_ok-after.ensures in
    let s = line_shorter c.loop-rest.rest.now some in let e = ap length more.0 in omega (arith, s, e)

pub loop-rest-preserved : goal.loop-rest-preserved
loop-rest-preserved c =
    let some : length c.loop-rest.rest.now ≢ 0 = search rules in
    let more = rw c.in-Some.is at c.in_ok-after.ensures in record {
      past = past_more c.args.first c.loop-rest.number c.args.text.now c.loop-rest.rest.now c.in-Some.after.now some more.0 (sym c.is_lrat_line.ensures ∙ c.if-is_lrat_line.false) c.loop-rest.invariant.past;
      same = line_more c.args.vars c.args.body.now c.loop-rest.body c.take_content.new.body c.args.first c.loop-rest.number c.args.text.now c.loop-rest.rest.now c.in-Some.after.now some (sym c.is_lrat_line.ensures ∙ c.if-is_lrat_line.false) more.0 more.1 c.loop-rest.invariant.same;
    }

pub returns : goal.returns
returns c = end_bad c.args.vars c.args.body.now c.loop-rest.body c.args.first c.loop-rest.number c.args.text.now c.loop-rest.rest.now (search rules) c.loop-rest.invariant.past c.loop-rest.invariant.same
