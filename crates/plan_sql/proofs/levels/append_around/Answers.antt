use Rattle.std.proofs.Common.{◌≡◌, ◌∙◌, ◌++◌, ◌∷◌, ◌-◌, ◌||◌, not, List, [], ap, length}
use Rattle.std.specs.List.{filter, list_any}
use Rattle.std.proofs.lemmas.List.{append_assoc}
use Rattle.std.proofs.lemmas.Result.{on_ok_weaker}
use Rattle.sql_text.specs.declared.syntax.Step.{Step}
use Rattle.sql_steps.specs.declared.part.Part.{Part}
use Rattle.sql_steps.specs.Variables.{key_variables, variables_of}
use Rattle.sql_steps.specs.Steps.{are_single, hangs}
use Rattle.plan_sql.specs.Statement.{context_of, is_value_test, level_steps}
use Rattle.plan_sql.proofs.levels.append_around.Goals as goal

pub returns-clause-steps : goal.returns-clause-steps
returns-clause-steps c =
    let q = c.args.shape.now.query.now in
    let level = c.args.level.now in
    let before = c.args.steps.now in
    let steps = λ (parts : List Part). before ++ level_steps q level.number level.atom (context_of q c.args.known.now level.atom parts) level.only.now level.bounds.now parts (length before) in
    on_ok_weaker c.append_beside.result (λ e. c.in_ok-part.ensures.steps ∙ ap steps (c.as_slice.ensures ∙ c.in_ok-parts.ensures)) c.append_beside.ensures

pub returns-clause-parts : goal.returns-clause-parts
returns-clause-parts c =
    let q = c.args.shape.now.query.now in
    let level = c.args.level.now in
    let known = c.args.known.now in
    let before = c.args.steps.now in
    let list = c.args.list.now in
    let kids = filter (λ (p : Part). hangs q known level.atom p) c.args.later.now in
    let rest = filter (λ (p : Part). not (hangs q known level.atom p)) c.args.later.now in
    let steps = λ (parts : List Part). before ++ level_steps q level.number level.atom (context_of q known level.atom parts) level.only.now level.bounds.now parts (length before) in
    let made : List Step → List Part → Part = λ now parts. record {
      number = level.number;
      step = length now - 1;
      columns = context_of q known level.atom parts;
      keys = key_variables q level.atom;
      single = are_single (variables_of q level.atom) parts;
      rare = list_any (λ k. is_value_test level.atom k) q.conds || list_any (λ (p : Part). p.rare) parts;
    } in
    let same = c.as_slice.ensures ∙ c.in_ok-parts.ensures in
    let part = c.in_ok-part.field-0 in
    let first : part ≡ made (steps kids) kids = c.in_ok-part.ensures.part ∙ ap (made c.push_part-part.new.steps) same ∙ ap (λ now. made now kids) (c.in_ok-part.ensures.steps ∙ ap steps same) in
    on_ok_weaker c.append_beside.result
    (λ e. e ∙ ap (λ z. z ++ rest) c.in_ok-push.ensures.ok ∙ append_assoc list (part ∷ []) rest ∙ ap (λ z. list ++ z ∷ rest) first)
    c.append_beside.ensures
