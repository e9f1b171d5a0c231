use Rattle.std.proofs.Common.{◌≡◌, ◌∙◌, ◌++◌, true, IsTrue, None, sym, subst}
use Rattle.std.specs.Prelude.{if◌then◌else◌}
use Rattle.cqa_model.specs.Database.{AreConsistent}
use Rattle.refusals.specs.Refusal.{Checked}
use Rattle.table_blocks.specs.Tables.{rows_at, key_at, mark_at}
use Rattle.table_changes.specs.Taken.{taken_fault}
use Rattle.table_changes.proofs.Taking.{checked_weaker}
use Rattle.table_changes.proofs.changes.check_keys.Goals as goal

pub returns : goal.returns
returns c =
    let db = c.args.db.now in
    let table = c.args.table in
    let rows = c.args.rows.now in
    let r = c.check_taken.result in
    let strict : mark_at db table ≡ true = sym c.is_strict.ensures.is ∙ c.if-not-is_strict.false in
    subst (λ b. Checked r (if b then taken_fault (key_at db table) (rows_at db table) 1 rows else None) (λ _. IsTrue b → AreConsistent (key_at db table) (rows_at db table ++ rows))) (sym strict)
    (checked_weaker r _ (λ _. AreConsistent (key_at db table) (rows_at db table ++ rows)) (λ _. IsTrue true → AreConsistent (key_at db table) (rows_at db table ++ rows)) (λ _ p t. p)
    (subst (λ key. Checked r (taken_fault key (rows_at db table) 1 rows) (λ _. AreConsistent key (rows_at db table ++ rows))) c.key_of.ensures
    (subst (λ stored. Checked r (taken_fault c.key_of.result.now stored 1 rows) (λ _. AreConsistent c.key_of.result.now (stored ++ rows))) c.rows.ensures.is c.check_taken.ensures)))
