use Rattle.std.proofs.Common.{ℕ, List, subst, sym}
use Rattle.choice_values.specs.Values.{AreLists}
use Rattle.group_text.proofs.Fit.{fit_lists}
use Rattle.group_text.proofs.group.Group.greatest.Goals as goal

pub greatest-requires : goal.greatest-requires
greatest-requires c = subst (λ (xs : List ℕ). AreLists xs c.self.inside.lists) (sym c.as_slice.ensures.value) (fit_lists c.self.inside.sizes.items c.self.inside.lists c.self.inside.named c.self.invariant)
