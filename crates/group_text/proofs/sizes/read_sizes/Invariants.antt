use Rattle.std.proofs.Common.{◌≡◌, length}
use Rattle.std.specs.List.{sum}
use Rattle.cnf_form.specs.Lines.{line_of, tokens}
use Rattle.group_text.specs.Sizes.{AreSizes, sizes_after, sizes_of}
use Rattle.group_text.proofs.sizes.read_sizes.Given as goal

-- the tokens so far have told these sizes
abbrev pub invariant-loop-token : goal.invariant-loop-token
invariant-loop-token l = record {
  told : sizes_of (tokens (line_of l.fn.line)) ≡ sizes_after l.sizes.items (tokens (line_of l.text));
  are : AreSizes l.sizes.items;
  rows : l.rows ≡ sum l.sizes.items;
}

abbrev pub decreases-loop-token : goal.decreases-loop-token
decreases-loop-token l = length (tokens (line_of l.text))
