use Rattle.std.proofs.Common.{◌<◌, ◌∙◌, not, ap, sym, subst}
use Rattle.std.proofs.lemmas.Bool.{false≢true, eqb-true, false_from_ne_true}
use Rattle.cqa_model.proofs.ClassNames.{untold}
use Rattle.plan_rows.specs.Joining.{joined_in}
use Rattle.plan_rows.proofs.Joining.{joined-agrees, agrees-joined, agrees-same}
use Rattle.plan_rows.proofs.fitting.agrees.Goals as goal

pub returns-then-not-agrees_joined : goal.returns-then-not-agrees_joined
returns-then-not-agrees_joined c =
    let setting = c.args.setting.now in
    let q = setting.bound.now.query.now in
    let v = setting.bound.now.variables in
    let F = c.args.atom in
    let G = c.args.other in (
      (λ e. absurd (false≢true e)),
      (λ h. absurd (false≢true (sym c.if-not-agrees_joined.true ∙ c.agrees_joined.ensures.1
          (agrees-joined q v (untold q v setting.bound.now.named) F G (joined_in setting.joined F) (joined_in setting.joined G) (setting.found F) (setting.found G) c.args.x.now c.args.y.now h)))),
    )

pub returns-then-atom-other : goal.returns-then-atom-other
returns-then-atom-other c =
    let setting = c.args.setting.now in
    let q = setting.bound.now.query.now in
    let v = setting.bound.now.variables in
    let F = c.args.atom in
    let G = c.args.other in (
      (λ t. joined-agrees q v (untold q v setting.bound.now.named) F G (joined_in setting.joined F) (joined_in setting.joined G) (setting.found F) (setting.found G) c.args.x.now c.args.y.now
          (c.agrees_joined.ensures.0 c.if-not-agrees_joined.false) (λ e. absurd (c.if-atom-other.true e))),
      (λ h. ap not (false_from_ne_true _ (λ t. c.if-atom-other.true (eqb-true F G t)))),
    )

pub returns-else-atom-other : goal.returns-else-atom-other
returns-else-atom-other c =
    let setting = c.args.setting.now in
    let q = setting.bound.now.query.now in
    let v = setting.bound.now.variables in
    let F = c.args.atom in
    let G = c.args.other in
    let same = c.if-atom-other.false in (
      (λ t. joined-agrees q v (untold q v setting.bound.now.named) F G (joined_in setting.joined F) (joined_in setting.joined G) (setting.found F) (setting.found G) c.args.x.now c.args.y.now
          (c.agrees_joined.ensures.0 c.if-not-agrees_joined.false) (λ e i l. c.are_same.ensures.0 t i (subst (λ n. i < n) (sym c.width_of.ensures) l))),
      (λ h. c.are_same.ensures.1 (λ i l. agrees-same q F G c.args.x.now c.args.y.now same h i (subst (λ n. i < n) c.width_of.ensures l))),
    )
