use Rattle.std.proofs.Common.{refl}
use Rattle.cqa_model.proofs.ClassNames.{untold}
use Rattle.plan_rows.specs.Joining.{joined_in}
use Rattle.plan_rows.proofs.Joining.{joined-agrees, agrees-joined}
use Rattle.plan_rows.proofs.fitting.agrees_within.Goals as goal

pub returns : goal.returns
returns c =
    let setting = c.args.setting.now in
    let q = setting.bound.now.query.now in
    let v = setting.bound.now.variables in
    let hv = untold q v setting.bound.now.named in
    let F = c.args.atom in
    let own = joined_in setting.joined F in
    let x = c.args.x.now in (
      (λ t. joined-agrees q v hv F F own own (setting.found F) (setting.found F) x x (c.agrees_joined.ensures.0 t) (λ e i l. refl)),
      (λ h. c.agrees_joined.ensures.1 (agrees-joined q v hv F F own own (setting.found F) (setting.found F) x x h)),
    )
