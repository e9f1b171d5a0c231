use Rattle.std.proofs.Common.{◌∙◌}
use Rattle.cqa_value.proofs.Integers.{plain_none, plain_found}
use Rattle.cqa_value.proofs.digits.read_plain.Goals as goal

pub returns-in_err-number : goal.returns-in_err-number
returns-in_err-number c = c.from_residual.ensures ∙ plain_none c.args.bytes.now c.requires c.in_err-number.ensures

pub returns : goal.returns
returns c = plain_found c.args.bytes.now c.in_ok-number.number c.checked_add_unsigned.result c.requires c.in_ok-number.ensures.0 c.in_ok-number.ensures.1 c.checked_add_unsigned.ensures
