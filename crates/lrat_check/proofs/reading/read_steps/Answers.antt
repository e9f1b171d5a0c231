use Rattle.std.proofs.Common.{◌≢◌, length, rules, arith, ap}
use Rattle.cnf_form.proofs.ReadLines.{line_shorter}
use Rattle.lrat_check.specs.LogTexts.{said_steps}
use Rattle.lrat_check.proofs.LogLines.{line_bad, log_more}
use Rattle.lrat_check.proofs.reading.read_steps.Goals as goal

pub returns-in_default : goal.returns-in_default
returns-in_default c =
    let some : length c.loop-rest.rest.now ≢ 0 = search rules in
    let bad = rw c.in_default.is at c.in_ok-line.ensures in
    line_bad c.args.vars c.loop-rest.number c.loop-rest.steps.items c.loop-rest.rest.now c.args.bytes.now c.line_fault.result some bad c.line_fault.ensures c.loop-rest.invariant.so_far

pub loop-rest-smaller : goal.loop-rest-smaller
loop-rest-smaller c =
    let some : length c.loop-rest.rest.now ≢ 0 = search rules in
    let more = rw c.in-Some.is at c.in_ok-line.ensures in
    let s = line_shorter c.loop-rest.rest.now some in let e = ap length more.1 in omega (arith, s, e)

pub loop-rest-preserved : goal.loop-rest-preserved
loop-rest-preserved c =
    let some : length c.loop-rest.rest.now ≢ 0 = search rules in
    let more = rw c.in-Some.is at c.in_ok-line.ensures in
    let s = line_shorter c.loop-rest.rest.now some in let e = ap length more.1 in let k = c.loop-rest.invariant.small in record {
      small = omega (arith, s, e, k);
      so_far = log_more c.args.vars c.loop-rest.number c.loop-rest.steps.items c.append.new.steps.items (said_steps c.in-Some.line.step) c.loop-rest.rest.now c.in-Some.line.rest.now _ some more.0 more.1 c.in_ok-append.ensures c.loop-rest.invariant.so_far;
    }
