use Rattle.std.proofs.Common.{◌+◌, sym, ◌∙◌, arith}
use Rattle.std.proofs.lemmas.List.{take_rest}
use Rattle.script_lex.specs.declared.modes.Mode.TheVariants.{Outside}
use Rattle.script_lex.specs.ScriptParts.{passes_in}
use Rattle.script_lex.proofs.Leading.{Leads-more, reaches_on}
use Rattle.script_lex.proofs.modes.region_on.Goals as goal

pub loop-at-init : goal.loop-at-init
loop-at-init c = reaches_on c.args.region c.args.bytes.now c.args.known.at c.staying.result c.args.known.mode c.requires (rw take_rest at c.staying.ensures)

pub loop-at-preserved : goal.loop-at-preserved
loop-at-preserved c = reaches_on c.args.region c.args.bytes.now (c.loop-at.at + 1) c.staying-in-loop-at.result c.next_mode-mode.result (record {
  within = omega (arith, c.loop-at-test.true);
  leads =
      rw c.next_mode-mode.ensures
      (Leads-more (passes_in c.args.region) c.args.bytes.now c.loop-at.at Outside c.loop-at.mode c.loop-at-test.true c.loop-at.invariant.leads (sym c.belongs.ensures ∙ c.if-not-belongs.false));
}) (rw take_rest at c.staying-in-loop-at.ensures)
