-- Naming the variables of a query by one join after another.
use Rattle.std.specs.Prelude.{ℕ, ◌/◌, ◌%◌, min, max, List, [], ◌∷◌}
use native.Mathlib.Decide.{ℕ_discrete}
use Rattle.cqa_value.specs.declared.row.TheConstants.{MOST_COLUMNS}
use Rattle.cqa_model.specs.declared.query.Cond.{Cond}
use Rattle.cqa_model.specs.declared.query.Cond.TheVariants.{Join, Test}
use Rattle.cqa_model.specs.declared.query.ColRef.{ColRef}
use Rattle.cqa_model.specs.Variables.{number}

abbrev pub pick : {A : Type 0} → Dec A → ℕ → ℕ → ℕ
pick (yes a) x y = x
pick (no f) x y = y

-- z, or where it is the greater of x and y the lesser of them
unfoldable pub relabel : ℕ → ℕ → ℕ → ℕ
relabel x y z = pick (ℕ_discrete z (max x y)) (min x y) z

-- the name of a column's variable, where these are all conditions
abbrev pub label : List Cond → ColRef → ℕ
label [] c = number c
label (Join a b ∷ ks) c = relabel (label ks a) (label ks b) (label ks c)
label (Test a op x ∷ ks) c = label ks c

-- the column of a number
abbrev pub column : ℕ → ColRef
column i = record { atom = i / MOST_COLUMNS; col = i % MOST_COLUMNS }
