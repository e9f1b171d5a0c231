use Rattle.std.proofs.Common.{◌∷◌, [], List, ℕ, sym, subst, Contains}
use Rattle.std.proofs.lemmas.List.Elements.{Contains-append_left, Contains-append_right}
use Rattle.cqa_model.proofs.Classic.{mem-head}
use Rattle.plan_rows.proofs.place_set.PlaceSet.put.Goals as goal

pub returns-then-len-max-clause-kept : goal.returns-then-len-max-clause-kept
returns-then-len-max-clause-kept c = λ p m.
    (c.put_in_order.ensures.same p).1 (subst (λ ps. Contains ps p) (sym c.in_ok-push.ensures.items) (Contains-append_left c.self.inside.places.items (c.args.place ∷ []) p (subst (λ (ps : List ℕ). Contains ps p) (sym c.self.view_is) m)))

pub returns-then-len-max-clause-added : goal.returns-then-len-max-clause-added
returns-then-len-max-clause-added c =
    (c.put_in_order.ensures.same c.args.place).1 (subst (λ ps. Contains ps c.args.place) (sym c.in_ok-push.ensures.items) (Contains-append_right c.self.inside.places.items (c.args.place ∷ []) c.args.place (mem-head c.args.place [])))
