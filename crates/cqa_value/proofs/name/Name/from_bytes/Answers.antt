use Rattle.std.proofs.Common.{ap, subst, Err, rules}
use Rattle.std.specs.Str.{IsValidUpTo}
use Rattle.cqa_value.specs.declared.memory.Fail.TheVariants.{Refused}
use Rattle.cqa_value.specs.declared.name.NameFault.TheVariants.{NotUtf8}
use Rattle.cqa_value.proofs.Prefixes.{no_fault, one_prefix, other_fault}
use Rattle.cqa_value.proofs.name.Name.from_bytes.Goals as goal

pub returns-in-Err-clause-not_utf8 : goal.returns-in-Err-clause-not_utf8
returns-in-Err-clause-not_utf8 c =
    let here : IsValidUpTo c.args.bytes.now c.valid_up_to.result = search rules in
    λ at. (λ e. subst (IsValidUpTo c.args.bytes.now) (cc) here, λ v. ap (λ n. Err (Refused (NotUtf8 n))) (one_prefix c.args.bytes.now c.valid_up_to.result at here v))

pub returns-then-text-gt-LONGEST_TEXT_VALUE-clause-not_utf8 : goal.returns-then-text-gt-LONGEST_TEXT_VALUE-clause-not_utf8
returns-then-text-gt-LONGEST_TEXT_VALUE-clause-not_utf8 c = λ at. (λ e. (cc), λ v. absurd (no_fault c.args.bytes.now at (search rules) v))

pub returns-in_err-of-clause-not_utf8 : goal.returns-in_err-of-clause-not_utf8
returns-in_err-of-clause-not_utf8 c = λ at. (λ e. absurd (other_fault c.from_residual.result at c.from_residual.ensures.1 e), λ v. absurd (no_fault c.args.bytes.now at (search rules) v))

pub returns-clause-not_utf8 : goal.returns-clause-not_utf8
returns-clause-not_utf8 c = λ at. (λ e. (cc), λ v. absurd (no_fault c.args.bytes.now at (search rules) v))
