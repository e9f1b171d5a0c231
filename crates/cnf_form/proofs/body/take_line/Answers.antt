use Rattle.std.proofs.Common.{◌∙◌, ◌++◌, rules}
use Rattle.cnf_form.specs.Lines.{line_of, tokens}
use Rattle.cnf_form.specs.Formulas.{tagged}
use Rattle.cnf_form.proofs.ReadTokens.{goes_bad, goes_on, line_token, other_bad}
use Rattle.cnf_form.proofs.body.take_line.Goals as goal

pub returns-then-not-branch : goal.returns-then-not-branch
returns-then-not-branch c missing n later =
    let e = c.in-Number.ensures in
    line_token c.args.vars c.args.body.now c.loop-after.body _ _ _ _ e.1.token_is c.loop-after.invariant.so_far missing n later
    ∙ goes_bad _ _ n c.in_ok-take_number-in-Number.field-0 (search rules)
    (c.in_ok-take_number-in-Number.ensures c.args.vars missing n e.0 (tagged n (tokens (line_of c.in-Number.after.now)) ++ later) e.2)

pub loop-after-preserved : goal.loop-after-preserved
loop-after-preserved c = let e = c.in-Number.ensures in record {
  line = c.loop-after.invariant.line ∙ e.1.same_line;
  so_far = λ missing n later.
      line_token c.args.vars c.args.body.now c.loop-after.body _ _ _ _ e.1.token_is c.loop-after.invariant.so_far missing n later
      ∙ goes_on _ _ n c.in_ok-take_number-in-Number.field-0 (search rules)
      (c.in_ok-take_number-in-Number.ensures c.args.vars missing n e.0 (tagged n (tokens (line_of c.in-Number.after.now)) ++ later) e.2);
}

pub returns-in-Other : goal.returns-in-Other
returns-in-Other c missing n later =
    let e = c.in-Other.ensures in
    line_token c.args.vars c.args.body.now c.loop-after.body _ _ _ _ e.2.token_is c.loop-after.invariant.so_far missing n later
    ∙ other_bad c.args.vars missing n c.loop-after.body e.0 (tagged n (tokens (line_of e.1)) ++ later) e.3
