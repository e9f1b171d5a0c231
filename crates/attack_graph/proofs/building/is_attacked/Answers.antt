use Rattle.attack_graph.proofs.building.is_attacked.Goals as goal

pub returns-then-is_another : goal.returns-then-is_another
returns-then-is_another c = (
  (λ t. let o = c.is_another.ensures.0 c.if-is_another.true in let w = c.is_touched.ensures.0 t in (c.requires.from, (c.requires.atom, o.1), o.0, (w.0, (c.requires.reached w.0).0 w.1, w.2))),
  (λ a. c.is_touched.ensures.1 (a.3.0, (c.requires.reached a.3.0).1 a.3.1, a.3.2)),
)
