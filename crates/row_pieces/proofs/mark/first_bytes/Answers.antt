use Rattle.std.proofs.Common.{◌≡◌, ◌+◌, ◌*◌, ◌-◌, ◌^◌, suc, ap, ◌∙◌, arith, drop}
use Rattle.std.proofs.Math.Nat.{pow-succ', pow-le-pow_right}
use Rattle.row_pieces.specs.Marks.{with_bytes}
use Rattle.row_pieces.proofs.Marking.{byte_next}
use Rattle.row_pieces.proofs.mark.first_bytes.Goals as goal

pub overflow_mul-number : goal.overflow_mul-number
overflow_mul-number c =
    let at = c.loop-at.at in
    let small = c.loop-at.invariant.small in
    let test = c.loop-at-test.true in
    let most = pow-le-pow_right {n = 256} (omega arith) {i = at} {j = 6} (omega (arith, test)) in
    omega (arith, small, most)

pub overflow_add-number : goal.overflow_add-number
overflow_add-number c =
    let small = c.loop-at.invariant.small in
    let test = c.loop-at-test.true in
    let most = pow-le-pow_right {n = 256} (omega arith) {i = c.loop-at.at} {j = 6} (omega (arith, test)) in
    let byte = c.type_inv.text c.loop-at.at in
    let is = c.byte_at.ensures in
    let same = c.from.ensures in
    omega (arith, small, most, byte, is, same)

pub loop-at-preserved : goal.loop-at-preserved
loop-at-preserved c =
    let at = c.loop-at.at in
    let test = c.loop-at-test.true in
    let byte = c.type_inv.text at in
    let is = c.from.ensures ∙ c.byte_at.ensures in
    let small = c.loop-at.invariant.small in
    let next = ap (λ n. 256 ^ n) (let e : at + 1 ≡ suc at = omega arith in e) in
    let grown = pow-succ' 256 at in
    record {
      most = omega (arith, test);
      goes_on = ap (λ b. with_bytes (c.loop-at.number * 256 + b) (7 - (at + 1)) (drop (at + 1) c.args.text.now)) is ∙ byte_next c.args.text.now c.loop-at.number at test (omega (arith, byte)) ∙ c.loop-at.invariant.goes_on;
      small = omega (arith, small, next, grown, byte, is);
    }

pub returns-clause-small : goal.returns-clause-small
returns-clause-small c =
    let small = c.loop-at.invariant.small in
    let done = c.loop-at-test.false in
    let most = c.loop-at.invariant.most in
    let last = ap (λ n. 256 ^ n) (let e : c.loop-at.at ≡ 7 = omega (arith, done, most) in e) in
    omega (arith, small, last)
