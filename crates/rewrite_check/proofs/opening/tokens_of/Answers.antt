use Rattle.rewrite_check.proofs.opening.tokens_of.Goals as goal

pub returns-in-Err-Refused : goal.returns-in-Err-Refused
returns-in-Err-Refused c = λ tokens short spelled. let e = c.in-Err-Refused.ensures.only_tokens tokens short spelled in absurd (cc)
