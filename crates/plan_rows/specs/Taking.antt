-- The rows that were taken so far.
use Rattle.std.specs.Prelude.{◌≡◌, ℕ, ◌<◌, ◌==◌, if◌then◌else◌, List, [], ◌∷◌, slice_index_or, Contains}
use Rattle.cqa_value.specs.declared.value.Value.{Value}
use Rattle.cqa_model.specs.declared.query.ColRef.{ColRef}
use Rattle.cqa_model.specs.declared.query.Query.{Query}
use Rattle.cqa_value.specs.Values.{nothing}
use Rattle.cqa_model.specs.Query.{atom_at}
use Rattle.cqa_model.specs.Plan.{Placed}
use Rattle.plan_rows.specs.declared.taken_rows.Taken.{Taken, Nothing, Before'}

-- the rows taken, the last first
abbrev pub placed : Taken → List Placed
placed Nothing = []
placed (Before' atom row p before) = record { atom = atom; row = row.now } ∷ placed before

-- the value of a column in the last row of its atom
abbrev pub taken_value : List Placed → ColRef → Value
taken_value [] c = nothing
taken_value (t ∷ ts) c = if t.atom == c.atom then slice_index_or t.row c.col nothing else taken_value ts c

-- rows of one atom agree in its columns
abbrev pub AreAgreed : Query → List Placed → Type 0
AreAgreed q taken = (t u : Placed) → Contains taken t → Contains taken u → t.atom ≡ u.atom →
    (i : ℕ) → i < (atom_at q t.atom).width → slice_index_or t.row i nothing ≡ slice_index_or u.row i nothing
