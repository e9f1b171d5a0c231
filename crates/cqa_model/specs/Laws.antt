-- The laws of certain answers.
use Rattle.std.specs.Prelude.{◌≡◌, ◌≢◌, ℕ, ◌↔◌, ◌⊎◌, List, ◌∷◌, length, Contains, Bool}
use Rattle.cqa_value.specs.declared.value.Value.{Value}
use Rattle.cqa_model.specs.declared.query.ColRef.{ColRef}
use Rattle.cqa_model.specs.declared.query.Query.{Query}
use Rattle.cqa_model.specs.Database.{Table, stored}
use Rattle.cqa_model.specs.Repairs.{SharesKey, IsRepair}
use Rattle.cqa_model.specs.Query.{atom_key, rows_of, row_at, value, IsStrict, IsWitness, FitsDatabase}
use Rattle.cqa_model.specs.Certain.{IsCertain, IsPossible, IsCandidate}
use Rattle.cqa_model.specs.Variables.{whole, after}
use Rattle.cqa_model.specs.Closures.{InPlus}
use Rattle.cqa_model.specs.Graph.{Attacks, HasCycle}
use Rattle.cqa_model.specs.Plan.{Placed, Fits, HoldsOver, IsUnattacked, IsEliminationOf, IsPlanOf}
use Rattle.cqa_model.specs.Partial.{view_of, AllFit, IsPartial, HoldsPartial, HasKey, IsExchange}
use Rattle.cqa_model.specs.Formula.{Satisfies}
use Rattle.cqa_model.specs.OneTable.{FitsRow, SomeBlockFits}

-- Each elimination order of a query holds exactly where the row is certain (Koutris and Wijsen, ACM TODS 2017).
abbrev pub EliminationIsExact : Type 0
EliminationIsExact =
    (db : List Table) (q : Query) (row : List Value) (order : List ℕ) →
    FitsDatabase q db → length row ≡ length q.answer → IsEliminationOf q order → HoldsOver db q row order ↔ IsCertain db q row

-- The plan of a query holds exactly where the row is certain (Koutris and Wijsen, ACM TODS 2017).
abbrev pub RewritingIsExact : Type 0
RewritingIsExact =
    (db : List Table) (q : Query) (row : List Value) (plan : List ℕ) →
    FitsDatabase q db → length row ≡ length q.answer → IsPlanOf q plan → HoldsOver db q row plan ↔ IsCertain db q row

-- A query has a plan exactly where its attacks have no cycle, and at most one; where they have a cycle, it has no
-- elimination order either. Which of the two it is is decided (Koutris and Wijsen, ACM TODS 2017).
pub record PlanOrCycle : Type 0 where
  pub not_both : (q : Query) (order : List ℕ) → IsEliminationOf q order → HasCycle q (whole q) → ⊥
  pub either : (q : Query) → ((plan : List ℕ) × IsPlanOf q plan) ⊎ HasCycle q (whole q)
  pub some : (q : Query) → (HasCycle q (whole q) → ⊥) → (plan : List ℕ) × IsPlanOf q plan
  pub one : (q : Query) (plan other : List ℕ) → IsPlanOf q plan → IsPlanOf q other → plan ≡ other

-- An atom of a strict table attacks no other (Koutris and Wijsen, ACM TODS 2017).
abbrev pub StrictAttacksNothing : Type 0
StrictAttacksNothing = (q : Query) (F G : ℕ) → IsStrict q F → Attacks q (whole q) F G → ⊥

-- a repair holds no witness of a row
abbrev pub IsRejected : List Table → Query → List Value → Type 0
IsRejected db q row = (kept : List (List (List Value))) × IsRepair db kept × ((w : List (List Value)) → IsWitness q kept row w → ⊥)

-- Each row of a query is certain, or some repair holds no witness of it.
abbrev pub CertainOrRejected : Type 0
CertainOrRejected = (db : List Table) (q : Query) (row : List Value) → IsCertain db q row ⊎ IsRejected db q row

-- A row is certain exactly where no assignment satisfies its formula (Dixit and Kolaitis, SAT 2019).
abbrev pub FormulaIsExact : Type 0
FormulaIsExact =
    (db : List Table) (q : Query) (row : List Value) → FitsDatabase q db →
    IsCertain db q row ↔ ((a : ℕ → List Value → Bool) → Satisfies q (stored db) row a → ⊥)

-- A row of a query of one atom is certain exactly where all rows of some block fit it.
abbrev pub CertainOverOne : Type 0
CertainOverOne =
    (db : List Table) (q : Query) (row : List Value) → FitsDatabase q db → length q.atoms ≡ 1 →
    IsCertain db q row ↔ SomeBlockFits (atom_key q 0) (rows_of q (stored db) 0) (FitsRow q row)

-- The possible rows are exactly the candidates, and every certain row is one.
pub record PossibleIsCandidate : Type 0 where
  pub possible : (db : List Table) (q : Query) (row : List Value) → FitsDatabase q db → IsPossible db q row ↔ IsCandidate db q row
  pub certain : (db : List Table) (q : Query) (row : List Value) → FitsDatabase q db → IsCertain db q row → IsCandidate db q row

-- Agreement: where one row of a witness is exchanged for another of its block, a witness that uses the new one agrees with
-- it on G+, G being the row's atom (Koutris and Wijsen, ACM TODS 2017).
abbrev pub WitnessesAgree : Type 0
WitnessesAgree =
    (db : List Table) (q : Query) (row : List Value) (taken : List Placed) (G : ℕ) (old new : List (List (List Value))) (S T : List (List Value)) →
    FitsDatabase q db → (view_of q taken).has G → IsPartial q row taken old S → IsPartial q row taken new T →
    IsExchange db q G (row_at S G) (row_at T G) old new → (v : ColRef) → InPlus q (view_of q taken) G v → value S v ≡ value T v

-- Exchange: where a row of a witness is exchanged for another of its block, each witness afterwards has one before with the
-- same row of an atom that the row's atom doesn't attack, and one with the same key of the row's atom (Koutris and Wijsen,
-- ACM TODS 2017).
pub record WitnessesStay : Type 0 where
  pub other : (db : List Table) (q : Query) (row : List Value) (taken : List Placed) (G F : ℕ) (b : List Value) (old new : List (List (List Value))) (S T : List (List Value)) →
      FitsDatabase q db → AllFit q row taken → (view_of q taken).has G → IsPartial q row taken old S → IsExchange db q G (row_at S G) b old new →
      (view_of q taken).has F → G ≢ F → (Attacks q (view_of q taken) G F → ⊥) → IsPartial q row taken new T →
      (U : List (List Value)) × IsPartial q row taken old U × (row_at U F ≡ row_at T F)
  pub own : (db : List Table) (q : Query) (row : List Value) (taken : List Placed) (G : ℕ) (b : List Value) (old new : List (List (List Value))) (S T : List (List Value)) →
      FitsDatabase q db → AllFit q row taken → (view_of q taken).has G → IsPartial q row taken old S → IsExchange db q G (row_at S G) b old new →
      IsPartial q row taken new T → HasKey q row taken G old (row_at T G)

-- Reification: where no atom attacks F, a key of F that some repair hasn't can be taken from another, and no key comes; and
-- where every repair holds a witness, one key is a key of every repair (Koutris and Wijsen, ACM TODS 2017).
pub record KeysGo : Type 0 where
  pub less : (db : List Table) (q : Query) (row : List Value) (taken : List Placed) (F : ℕ) (r s : List (List (List Value))) (x : List Value) →
      FitsDatabase q db → AllFit q row taken → (view_of q taken).has F → IsUnattacked q (view_of q taken) F →
      IsRepair db r → IsRepair db s → (HasKey q row taken F s x → ⊥) →
      (z : List (List (List Value))) × IsRepair db z × ((y : List Value) → HasKey q row taken F z y → HasKey q row taken F r y) × (HasKey q row taken F z x → ⊥)
  pub one : (db : List Table) (q : Query) (row : List Value) (taken : List Placed) (F : ℕ) →
      FitsDatabase q db → AllFit q row taken → (view_of q taken).has F → IsUnattacked q (view_of q taken) F →
      ((r : List (List (List Value))) → IsRepair db r → HoldsPartial q row taken r) →
      (x : List Value) × ((r : List (List (List Value))) → IsRepair db r → HasKey q row taken F r x)

-- Every repair holds a witness with a given key of F exactly where F has a block with that key, all its rows fit, and for
-- each of them every repair holds a witness with that row taken.
abbrev pub KeysByBlock : Type 0
KeysByBlock =
    (db : List Table) (q : Query) (row : List Value) (taken : List Placed) (F : ℕ) (x : List Value) →
    FitsDatabase q db → AllFit q row taken → (view_of q taken).has F →
    ((r : List (List (List Value))) → IsRepair db r → HasKey q row taken F r x) ↔
    ((b : List Value) × Contains (rows_of q (stored db) F) b × SharesKey (atom_key q F) x b ×
    ((y : List Value) → Contains (rows_of q (stored db) F) y → SharesKey (atom_key q F) x y →
    Fits q row taken F y × ((r : List (List (List Value))) → IsRepair db r → HoldsPartial q row (record { atom = F; row = y } ∷ taken) r)))

-- The view after an atom has no attack that the view before it had not (Koutris and Wijsen, ACM TODS 2017).
abbrev pub NoAttackComes : Type 0
NoAttackComes =
    (q : Query) (taken : List Placed) (F G H : ℕ) → Attacks q (after q (view_of q taken) F) G H → Attacks q (view_of q taken) G H

-- Where no atom attacks F, the view after F has every attack between two other atoms that the view before it had (Koutris
-- and Wijsen, ACM TODS 2017).
abbrev pub AttacksStay : Type 0
AttacksStay =
    (q : Query) (taken : List Placed) (F G H : ℕ) → (view_of q taken).has F → IsUnattacked q (view_of q taken) F → G ≢ F → H ≢ F →
    Attacks q (view_of q taken) G H → Attacks q (after q (view_of q taken) F) G H
