-- A repair of a pair's tables by the names of its rows.
use Rattle.std.specs.Prelude.{◌≡◌, ◌↔◌, ℕ, ◌+◌, ◌-◌, ◌<◌, ◌≤◌, nat_lt, if◌then◌else◌, List, [], ◌∷◌, length, map, filter_map, Contains}
use Rattle.cqa_value.specs.declared.value.Value.{Value}
use Rattle.cqa_model.specs.declared.query.Query.{Query}
use Rattle.cqa_model.specs.declared.query.RowId.{RowId}
use Rattle.cqa_model.specs.Database.{Table, stored}
use Rattle.cqa_model.specs.Repairs.{IsRepair}
use Rattle.cqa_model.specs.Query.{atom_at, rows_of, IsWitness}
use Rattle.cqa_model.specs.Certain.{IsCertain}
use Rattle.weak_pairs.specs.declared.decide.Decision.{Decision}
use Rattle.weak_pairs.specs.declared.decide.Decision.TheVariants.{Certain, Rejected}
use Rattle.pair_answers.specs.Numbers.{numbered, place_of}

-- the name of the row of a number
abbrev pub id_of : Query → List (List (List Value)) → ℕ → RowId
id_of q tables i =
    if nat_lt i (length (rows_of q tables 0)) then record { table = (atom_at q 0).table; place = i } else record { table = (atom_at q 1).table; place = i - length (rows_of q tables 0) }

-- each number is greater than those before it, and the first is this one at least
abbrev pub AreAscendingFrom : ℕ → List ℕ → Type 0
AreAscendingFrom least [] = Unit {0}
AreAscendingFrom least (n ∷ ns) = (least ≤ n) × AreAscendingFrom (n + 1) ns

-- the rows of these numbers are what a repair keeps of the query's tables
pub record AreKeptNumbers (q : Query) (tables kept : List (List (List Value))) (numbers : List ℕ) : Type 0 where
  pub ascending : AreAscendingFrom 0 numbers
  pub within : (i : ℕ) → Contains numbers i → i < length (numbered q tables)
  pub exactly : (F : ℕ) → F < length q.atoms → (x : List Value) → Contains (rows_of q kept F) x ↔ ((i : ℕ) × Contains numbers i × (place_of q tables i ≡ record { atom = F; row = x }))

-- the names are those of the rows that a repair keeps of the query's tables, in `from` order and block order, and it holds
-- no witness of the row
pub record RejectsByNumbers (q : Query) (db : List Table) (row : List Value) (ids : List RowId) : Type 0 where
  pub kept : List (List (List Value))
  pub numbers : List ℕ
  pub repair : IsRepair db kept
  pub none : (w : List (List Value)) → IsWitness q kept row w → ⊥
  pub are : AreKeptNumbers q (stored db) kept numbers
  pub named : ids ≡ map (id_of q (stored db)) numbers

-- the rows that blocks took are what some repair without a witness keeps
abbrev pub IsPairAnswer : Query → List Table → List Value → Decision → Type 0
IsPairAnswer q db row Certain = IsCertain db q row
IsPairAnswer q db row (Rejected own) =
    (kept : List (List (List Value))) × IsRepair db kept × ((w : List (List Value)) → IsWitness q kept row w → ⊥) × AreKeptNumbers q (stored db) kept (filter_map (λ taken. taken) own.items)
