use Rattle.cdcl.specs.Watching.{AreLists}
use Rattle.cdcl.proofs.watch.no_lists.Given as goal

abbrev pub invariant-loop-var : goal.invariant-loop-var
invariant-loop-var l = AreLists l.lists.items l._var 0
