use Rattle.std.proofs.Common.{◌∙◌}
use Rattle.std.proofs.lemmas.List.{take_rest}
use Rattle.cqa_value.proofs.Integers.{minus_none, minus_found}
use Rattle.cqa_value.proofs.digits.read_minus.Goals as goal

pub returns-in_err-number : goal.returns-in_err-number
returns-in_err-number c = c.from_residual.ensures ∙ minus_none c.args.bytes.now c.requires (rw (take_rest c.args.bytes.now 1) at c.in_err-number.ensures)

pub returns : goal.returns
returns c =
    let is = (rw (take_rest c.args.bytes.now 1) at c.in_ok-number.ensures) in
    minus_found c.args.bytes.now c.in_ok-number.number c.checked_sub_unsigned.result c.requires is.0 is.1 c.checked_sub_unsigned.ensures
