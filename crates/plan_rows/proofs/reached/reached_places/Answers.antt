use Rattle.plan_rows.proofs.reached.reached_places.Goals as goal

pub returns-in-Ok-clause-all : goal.returns-in-Ok-clause-all
returns-in-Ok-clause-all c = λ i l f. (c.listed.ensures.same i).1 (c.in-Ok.ensures.added i l f)
