use Rattle.std.proofs.Common.{◌≡◌, ◌+◌, ◌∷◌, [], take, get_or, sym, ◌∙◌, subst}
use Rattle.std.proofs.lemmas.List.{take_more}
use Rattle.choice_values.specs.Parts.{number_at, IsOf}
use Rattle.choice_values.proofs.Worths.{in-append}
use Rattle.choice_values.proofs.parts.is_of.Goals as goal

pub loop-name-preserved : goal.loop-name-preserved
loop-name-preserved c =
    let names = c.args.names.now in
    let i = c.loop-name.name-index in
    let number = number_at c.args.numbers.now in
    subst (IsOf number c.args.number) (sym (take_more names i (record { block = 0; row = 0 }) c.loop-name-test.true))
    (in-append (λ x. number x ≡ c.args.number) (take i names) (get_or names i (record { block = 0; row = 0 }) ∷ []) c.loop-name.invariant ((sym c.number_of.ensures ∙ c.if-number_of-number.false), tt))
