-- The laws over a database.
use Rattle.std.proofs.Common.{inl, inr, List}
use Rattle.cqa_value.specs.declared.value.Value.{Value}
use Rattle.cqa_model.specs.Database.{stored, keys_of}
use Rattle.cqa_model.specs.Query.{IsWitness}
use Rattle.cqa_model.specs.Variables.{whole}
use Rattle.cqa_model.specs.Laws.{EliminationIsExact, RewritingIsExact, CertainOrRejected, FormulaIsExact, CertainOverOne, PossibleIsCandidate}
use Rattle.cqa_model.proofs.Fitting.{fits_tables}
use Rattle.cqa_model.proofs.Elimination.{plan-eliminates}
use Rattle.cqa_model.proofs.Witnesses.{dec_witness}
use Rattle.cqa_model.proofs.EachRepair.{each_repair}
use Rattle.cqa_model.proofs.Mending as mending
use Rattle.cqa_model.proofs.Formula as formula
use Rattle.cqa_model.proofs.OverOne.{certain-from_block, block-from_certain}
use Rattle.cqa_model.proofs.Possible.{candidate-from_certain, candidate-from_possible, possible-from_candidate}

pub elimination_is_exact : EliminationIsExact
elimination_is_exact db q row order fits long eliminates = mending.elimination_is_exact q (keys_of db) (stored db) row order (fits_tables q db fits) long eliminates

pub rewriting_is_exact : RewritingIsExact
rewriting_is_exact db q row plan fits long is_plan = elimination_is_exact db q row plan fits long (plan-eliminates q (whole q) plan is_plan)

pub certain_or_rejected : CertainOrRejected
certain_or_rejected db q row = elim (each_repair (keys_of db) (stored db) (λ r. (w : List (List Value)) × IsWitness q r row w) (λ r. dec_witness q r row)) [
  | inl h ↦ inl h
  | inr f ↦ inr (f.0, f.1, λ w is. f.2 (w, is))
]

pub formula_is_exact : FormulaIsExact
formula_is_exact db q row fits = formula.formula_is_exact q (keys_of db) (stored db) row (fits_tables q db fits)

pub certain_over_one : CertainOverOne
certain_over_one db q row fits one = (
  block-from_certain q (keys_of db) (stored db) (fits_tables q db fits) row one,
  certain-from_block q (keys_of db) (stored db) (fits_tables q db fits) row one,
)

pub possible_is_candidate : PossibleIsCandidate
possible_is_candidate = record {
  possible = λ db q row fits. (
    candidate-from_possible q (keys_of db) (stored db) (fits_tables q db fits) row,
    possible-from_candidate q (keys_of db) (stored db) (fits_tables q db fits) row,
  );
  certain = λ db q row fits. candidate-from_certain q (keys_of db) (stored db) (fits_tables q db fits) row;
}
