use Rattle.std.proofs.Common.{◌<◌, refl, length, drop, arith}
use Rattle.std.proofs.lemmas.List.{length-drop}
use Rattle.spj_syntax.specs.Lexemes.{undoubled}
use Rattle.spj_syntax.proofs.Values.{undoubled_some, undoubled_no_longer}
use Rattle.spj_syntax.proofs.leaf.is_short.Goals as goal

pub returns-then-length-eq-LONGEST_TEXT_VALUE : goal.returns-then-length-eq-LONGEST_TEXT_VALUE
returns-then-length-eq-LONGEST_TEXT_VALUE c =
    let some : 0 < length (undoubled (drop c.loop-at.at c.args.bytes.now)) = undoubled_some (drop c.loop-at.at c.args.bytes.now) (omega (arith, length-drop c.loop-at.at c.args.bytes.now)) in
    (λ h. (cc), λ h. absurd (omega arith))

pub returns-then-bytes-le-LONGEST_TEXT_VALUE : goal.returns-then-bytes-le-LONGEST_TEXT_VALUE
returns-then-bytes-le-LONGEST_TEXT_VALUE c = (λ _. omega (arith, undoubled_no_longer c.args.bytes.now, c.if-bytes-le-LONGEST_TEXT_VALUE.true), λ _. refl)
