use Rattle.std.proofs.Common.{◌≡◌, ◌++◌, ◌∷◌, [], List, ap, sym, ◌∙◌, subst}
use Rattle.choice_values.specs.Values.{Weighted}
use Rattle.choice_values.specs.Parts.{AreNoLists}
use Rattle.choice_values.proofs.Apart.{none-push}
use Rattle.choice_values.proofs.parts.no_lists.Goals as goal

pub loop-part-preserved : goal.loop-part-preserved
loop-part-preserved c =
    subst AreNoLists (sym (c.in_ok-push.ensures.items ∙ ap (λ (p : List Weighted). c.loop-part.parts.items ++ p ∷ []) c.new.ensures)) (none-push c.loop-part.parts.items c.loop-part.invariant)
