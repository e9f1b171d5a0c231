use Rattle.attack_graph.proofs.building.is_weak.Goals as goal

pub returns : goal.returns
returns c = (
  (λ t v k. (c.requires.derived v).0 (c.is_ready.ensures.0 t v k)),
  (λ h. c.is_ready.ensures.1 (λ v k. (c.requires.derived v).1 (h v k))),
)
