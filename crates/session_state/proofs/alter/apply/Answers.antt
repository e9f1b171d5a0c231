use Rattle.std.proofs.Common.{sym, ap, ◌∙◌, subst}
use Rattle.refusals.specs.Refusal.{Checked}
use Rattle.spj_syntax.specs.declared.tree.Change.TheVariants.{SetKey}
use Rattle.session_state.specs.Alter.{change_fault, Changes}
use Rattle.session_state.proofs.Altering.{set_checked}
use Rattle.session_state.proofs.alter.apply.Goals as goal

pub returns-in_ok-key-in-SetKey-clause-checked : goal.returns-in_ok-key-in-SetKey-clause-checked
returns-in_ok-key-in-SetKey-clause-checked c =
    let db = c.args.database.now in
    let key = c.in_ok-key-in-SetKey in
    let set = set_checked db c.args.table c.as_slice.result.now key.key c.set_key.new.db c.set_key.result key.ensures.checked.valid key.ensures.checked.is c.set_key.ensures.checked in
    subst (λ change. Checked c.set_key.result (change_fault db change c.args.table) (λ _. Changes db c.args.table change c.set_key.new.db)) (ap SetKey c.as_slice.ensures ∙ sym c.in-SetKey.is) set
