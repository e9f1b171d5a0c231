-- The row that is looked for where an atom comes next.
use Rattle.std.proofs.Common.{◌≡◌, ℕ, List, sym, subst}
use Rattle.cqa_model.specs.Plan.{Placed}
use Rattle.plan_rows.specs.Over.{rows_before, look_taken}
use Rattle.plan_rows.specs.declared.look.Look.{Look}
use Rattle.plan_rows.specs.declared.setting.Setting.{Setting}
use Rattle.plan_rows.specs.declared.steps.Step.{Step}

module _ (step : Step) (look : Look) (setting : look.setting.now ≡ step.course.now.setting) (taken : look_taken look ≡ rows_before step) (atom : look.atom ≡ step.atom) where
  -- what is said of it is said of the next atom's row
  pub of-look : (P : Setting → List Placed → ℕ → Type 0) → P look.setting.now (look_taken look) look.atom → P step.course.now.setting (rows_before step) step.atom
  of-look P h = subst (λ F. P step.course.now.setting (rows_before step) F) atom (subst (λ rows. P step.course.now.setting rows look.atom) taken (subst (λ s. P s (look_taken look) look.atom) setting h))

  -- and the other way round
  pub to-look : (P : Setting → List Placed → ℕ → Type 0) → P step.course.now.setting (rows_before step) step.atom → P look.setting.now (look_taken look) look.atom
  to-look P h = subst (λ s. P s (look_taken look) look.atom) (sym setting) (subst (λ rows. P step.course.now.setting rows look.atom) (sym taken) (subst (λ F. P step.course.now.setting (rows_before step) F) (sym atom) h))
