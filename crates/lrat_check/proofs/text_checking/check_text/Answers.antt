use Rattle.std.proofs.Common.{ℕ, ◌<◌, ◌≤◌, ◌^◌, arith}
use Rattle.cnf_form.specs.declared.header.TheConstants.{MOST_VARIABLES}
use Rattle.lrat_check.proofs.Exact.{text_only_fault, text_only_line, text_only_yes}
use Rattle.lrat_check.proofs.RoundTrip.{says_written}
use Rattle.lrat_check.proofs.text_checking.check_text.Goals as goal

in_range : (n : ℕ) → n ≤ MOST_VARIABLES → n < 2 ^ 64
in_range n l = omega arith

pub returns : goal.returns
returns c = record {
  exact = c.check_lines.ensures;
  only_yes = text_only_yes c.args.cnf.now _ _ c.check_lines.ensures;
  only_fault = text_only_fault c.args.cnf.now _ _ c.check_lines.ensures;
  only_line = text_only_line c.args.cnf.now _ _ c.check_lines.ensures;
  written = λ steps f w e. text_only_yes c.args.cnf.now _ _ c.check_lines.ensures steps (says_written c.args.cnf.now.vars steps c.args.text.now (in_range c.args.cnf.now.vars f.vars) w e);
}
