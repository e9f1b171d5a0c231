use Rattle.std.proofs.Common.{inl, inr, subst, sym, arith, get_or, Contains}
use Rattle.std.proofs.lemmas.List.{get_or_default, take_all}
use Rattle.cqa_model.specs.declared.query.ColRef.{ColRef}
use Rattle.part_search.specs.Spoken.{HasColumn}
use Rattle.list_search.proofs.ClassLists.{taken}
use Rattle.part_search.proofs.spoken.add_answered.Goals as goal

abbrev no_column : ColRef
no_column = record { atom = 0; col = 0 }

pub loop-column-init : goal.loop-column-init
loop-column-init c = record { kept = λ p m. m; added = λ col m. absurd (Rattle.cqa_model.proofs.Classic.mem-nil col m) }

pub loop-column-preserved : goal.loop-column-preserved
loop-column-preserved c = record {
  kept = λ p m. c.in_ok-add_column.ensures.kept p (c.loop-column.invariant.kept p m);
  added = λ col m e. elim (taken c.args.answer.now c.loop-column.column-index (get_or c.args.answer.now c.loop-column.column-index no_column) col (omega arith)
      (get_or_default c.args.answer.now c.loop-column.column-index no_column (get_or c.args.answer.now c.loop-column.column-index no_column) (omega arith)) m) [
        | inl o ↦ c.in_ok-add_column.ensures.kept col.col (c.loop-column.invariant.added col o e)
        | inr s ↦ subst (λ (z : ColRef). HasColumn c.args.atom c.add_column.new.columns.items z) s c.in_ok-add_column.ensures.added e
      ];
}

pub returns-clause-kept : goal.returns-clause-kept
returns-clause-kept c = c.loop-column.invariant.kept

pub returns-clause-added : goal.returns-clause-added
returns-clause-added c col m = c.loop-column.invariant.added col (subst (λ ks. Contains ks col) (sym (take_all c.loop-column.column-index c.args.answer.now (omega arith))) m)
