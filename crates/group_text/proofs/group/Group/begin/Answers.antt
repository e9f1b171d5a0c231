use Rattle.std.proofs.Common.{◌≡◌, [], sym, ◌∙◌, ap, subst}
use Rattle.group_text.specs.Groups.{Draft}
use Rattle.group_text.specs.Sizes.{AreSizes}
use Rattle.group_text.proofs.Fit.{fit_begun, no_sizes}
use Rattle.group_text.proofs.group.Group.begin.Goals as goal

pub invariant_of-self : goal.invariant_of-self
invariant_of-self c =
    let read = rw c.in-Ok-Ok.field-0-is at c.in-Ok-Ok.ensures in
    let none : c.self.inside.lists ≡ [] = ap (λ (d : Draft). d.lists) (c.self.view_is ∙ c.clear.ensures) in
    fit_begun c.read_sizes.new.sizes.items c.self.inside.lists c.self.inside.named read.1 none c.self.invariant.counted

pub invariant_of-self-in_default : goal.invariant_of-self-in_default
invariant_of-self-in_default c =
    let none : c.self.inside.lists ≡ [] = ap (λ (d : Draft). d.lists) (c.self.view_is ∙ c.clear.ensures) in
    fit_begun c.clear-in_default.new.self.items c.self.inside.lists c.self.inside.named (subst AreSizes (sym c.clear-in_default.ensures.items) no_sizes) none c.self.invariant.counted
