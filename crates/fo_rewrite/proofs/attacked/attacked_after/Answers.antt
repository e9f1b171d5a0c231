use Rattle.fo_rewrite.proofs.attacked.attacked_after.Goals as goal

pub returns-then-is_empty : goal.returns-then-is_empty
returns-then-is_empty c = λ G. ((λ m. absurd (c.is_empty.ensures.0 c.if-is_empty.true G m)), c.requires G)
