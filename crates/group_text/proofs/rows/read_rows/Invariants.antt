use Rattle.std.proofs.Common.{◌≡◌, [], length}
use Rattle.cnf_form.specs.Lines.{line_of, tokens}
use Rattle.group_text.specs.Names.{AreNamed, rows_after}
use Rattle.group_text.specs.Weights.{before_weight, from_weight}
use Rattle.group_text.proofs.rows.read_rows.Given as goal

-- the tokens so far have named these rows
abbrev pub invariant-loop-token : goal.invariant-loop-token
invariant-loop-token l = record {
  told : rows_after l.fn.sizes l.fn.named [] (before_weight l.fn.may (tokens (line_of l.fn.line))) ≡ rows_after l.fn.sizes l.fn.named l.rows.items (before_weight l.fn.may (tokens (line_of l.text)));
  from : from_weight l.fn.may (tokens (line_of l.fn.line)) ≡ from_weight l.fn.may (tokens (line_of l.text));
  are : AreNamed l.fn.sizes l.fn.named l.rows.items;
}

abbrev pub decreases-loop-token : goal.decreases-loop-token
decreases-loop-token l = length (tokens (line_of l.text))
