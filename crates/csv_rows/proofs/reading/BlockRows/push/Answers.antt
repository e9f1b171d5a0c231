use Rattle.std.proofs.Common.{◌≡◌, ℕ, List, [], ap, sym, subst, ◌∙◌}
use Rattle.std.specs.List.Sorted.{IsStrictlySortedBy}
use Rattle.cqa_value.specs.declared.value.Value.{Value}
use Rattle.cqa_model.specs.Database.{block_cmp}
use Rattle.csv_rows.specs.declared.reading.BlockRows.{BlockRows}
use Rattle.csv_rows.proofs.reading.BlockRows.push.Goals as goal
use Rattle.csv_rows.proofs.reading.BlockRows.push.Goals.{then-is_empty+else-comes_behind+in_ok-self, else-is_empty}

none : (key : List ℕ) (rows : List (List Value)) → rows ≡ [] → IsStrictlySortedBy (block_cmp key) rows
unfolding IsStrictlySortedBy
none key rows e = rw e tt

pub returns-clause-ascending : goal.returns-clause-ascending
returns-clause-ascending c =
    let key = c.args.key.now in
    elim c.if-is_empty.branch [
      | then-is_empty+else-comes_behind+in_ok-self w ↦ none key c.if-is_empty.self.sorted (ap (λ (b : BlockRows). b.sorted) w.self-is ∙ w.replace-sorted.ensures.after ∙ w.new.ensures)
      | else-is_empty w ↦ subst (λ (b : BlockRows). IsStrictlySortedBy (block_cmp key) b.sorted) (sym w.self-is) c.requires.ascending
    ]
