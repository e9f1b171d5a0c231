-- A group has its formula.
use Rattle.std.proofs.Common.{◌≡◌, ◌≤◌, ◌<◌, ◌+◌, ℕ, List, map, Contains, refl, arith}
use Rattle.std.specs.List.{sum}
use native.Mathlib.Decide.{ℕ_discrete}
use Rattle.cqa_model.proofs.Classic.{dec_some}
use Rattle.cqa_model.proofs.Zips.{zip-choose}
use Rattle.cnf_form.specs.declared.formula.Cnf.{Cnf}
use Rattle.block_choices.specs.declared.row.BlockRow.{BlockRow}
use Rattle.block_choices.specs.Choices.{AreThere, IsThere}
use Rattle.block_lists.specs.Formulas.{AreNumbersIn, IsGroupFormula, group_clauses, number}
use Rattle.block_lists.proofs.Bases.{based, bases-within}
use Rattle.existence_law.proofs.Numbering.{numbers_with}
use Rattle.existence_law.proofs.Verifying.{literals_back}

abbrev IsNumberOf : List ℕ → List BlockRow → ℕ → Type 0
IsNumberOf sizes names m = (x : BlockRow) × Contains names x × (number 0 sizes x.block x.row ≡ m)

numbers_of : (sizes : List ℕ) (names : List BlockRow) → ((x : BlockRow) → Contains names x → IsThere sizes x) → (numbers : List ℕ) × AreNumbersIn sizes names numbers
numbers_of sizes names there =
    let n = numbers_with (IsNumberOf sizes names) (λ m. dec_some (λ (x : BlockRow). number 0 sizes x.block x.row ≡ m) (λ x. ℕ_discrete (number 0 sizes x.block x.row) m) names) (sum sizes) within in
    (n.0, record { rises = n.1.0; exactly = n.1.1 })
  where
    within : (m : ℕ) → IsNumberOf sizes names m → (1 ≤ m) × (m < 1 + sum sizes)
    within m (x, i, e) =
        let l = there x i in
        let b = based 0 sizes x.block x.row l in
        let w = (bases-within 0 sizes x.block x.row l).1 in
        (omega (arith, b, w, e), omega (arith, b, w, e))

pub group_formula : (sizes : List ℕ) (lists : List (List BlockRow)) → AreThere sizes lists → (cnf : Cnf) × IsGroupFormula sizes lists cnf
group_formula sizes lists there =
    let z = zip-choose (AreNumbersIn sizes) lists (λ names m. numbers_of sizes names (there names m)) in (
      record { vars = sum sizes; clauses = map (λ c. record { lits = c }) (group_clauses sizes z.0) },
      record { vars = refl; numbers = z.0; numbered = z.1; clauses = literals_back (group_clauses sizes z.0) },
    )
