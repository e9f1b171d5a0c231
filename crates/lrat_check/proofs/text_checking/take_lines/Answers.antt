use Rattle.std.proofs.Common.{[], ◌≡◌, ◌≢◌, ◌++◌, length, refl, rules, arith, ap}
use Rattle.cnf_form.proofs.ReadLines.{line_shorter}
use Rattle.lrat_check.proofs.LogLines.{log_bad, log_end, log_more, log_start}
use Rattle.lrat_check.proofs.text_checking.take_lines.Goals as goal

pub loop-rest-init : goal.loop-rest-init
loop-rest-init c = record { small = omega arith; count = let e = c.requires in omega (arith, e); so_far = ([], λ live top r. r, log_start _) }

pub returns-in_default : goal.returns-in_default
returns-in_default c =
    let some : length c.loop-rest.rest.now ≢ 0 = search rules in
    log_bad c.args.vars c.loop-rest.number c.loop-rest.invariant.so_far.0 c.loop-rest.rest.now _ some (rw c.in_default.is at c.in_ok-after.ensures) c.loop-rest.invariant.so_far.2

pub loop-rest-smaller : goal.loop-rest-smaller
loop-rest-smaller c =
    let some : length c.loop-rest.rest.now ≢ 0 = search rules in
    let more = rw c.in-Some.is at c.in_ok-after.ensures in
    let s = line_shorter c.loop-rest.rest.now some in let e = ap length more.0 in omega (arith, s, e)

pub loop-rest-preserved : goal.loop-rest-preserved
loop-rest-preserved c =
    let some : length c.loop-rest.rest.now ≢ 0 = search rules in
    let more = rw c.in-Some.is at c.in_ok-after.ensures in
    let s = line_shorter c.loop-rest.rest.now some in let e = ap length more.0 in let k = c.loop-rest.invariant.small in let n = c.loop-rest.invariant.count in let m = more.1 in
    let before = c.loop-rest.invariant.so_far in record {
      small = omega (arith, s, e, k);
      count = omega (arith, n, m);
      so_far = (
        before.0 ++ more.2.0,
        λ live top r. more.2.2 live top before.0 (before.1 live top r),
        log_more c.args.vars c.loop-rest.number before.0 (before.0 ++ more.2.0) more.2.0 c.loop-rest.rest.now c.in-Some.after.now _ some more.2.1 more.0 refl before.2,
      );
    }

pub returns : goal.returns
returns c =
    let none : length c.loop-rest.rest.now ≡ 0 = search rules in let so_far = c.loop-rest.invariant.so_far in
    (so_far.0, log_end c.args.vars c.loop-rest.number so_far.0 c.loop-rest.rest.now _ none so_far.2, so_far.1)
