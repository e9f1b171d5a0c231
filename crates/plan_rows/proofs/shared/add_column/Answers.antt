use Rattle.std.proofs.Common.{◌∷◌, [], ◌∙◌, sym, subst, Contains}
use Rattle.std.proofs.lemmas.Bool.{false≢true}
use Rattle.std.proofs.lemmas.List.Elements.{Contains-append_left, Contains-append_right}
use Rattle.cqa_model.proofs.Classic.{mem-head}
use Rattle.plan_rows.proofs.shared.add_column.Goals as goal

pub returns-then-not-is_told-clause-added : goal.returns-then-not-is_told-clause-added
returns-then-not-is_told-clause-added c = λ h. absurd (false≢true (sym c.if-not-is_told.true ∙ c.is_told.ensures.1 h))

pub returns-clause-kept : goal.returns-clause-kept
returns-clause-kept c = λ x m. subst (λ z. Contains z x) (sym c.in_ok-push.ensures.items) (Contains-append_left c.args.columns.now.items (c.args.column ∷ []) x m)

pub returns-clause-added : goal.returns-clause-added
returns-clause-added c = λ h. subst (λ z. Contains z c.args.column) (sym c.in_ok-push.ensures.items) (Contains-append_right c.args.columns.now.items (c.args.column ∷ []) c.args.column (mem-head c.args.column []))
