-- The rows of a table that the witnesses of a group have, and both ends of the values that these give, whichever row is
-- kept of each block.
use Rattle.std.specs.Prelude.{◌≡◌, ℕ, ◌+◌, ◌<◌, ◌≤◌, if◌then◌else◌, nat_eq, List, [], ◌∷◌, Option, Some, None, Contains}
use Rattle.cqa_value.specs.declared.value.Value.{Value}
use Rattle.cqa_model.specs.Database.{Table}
use Rattle.range_ask.specs.Ranges.{cell}
use Rattle.range_join.specs.declared.carriers.Extreme.{Extreme}
use Rattle.range_join.specs.declared.carriers.Extreme.TheVariants.{Least, Greatest}
use Rattle.range_join.specs.declared.spans.Span.{Span}
use Rattle.range_join.specs.Firsts.{IsFirst}
use Rattle.range_join.specs.Peaks.{lags, further, held_value, value_end, EndPlaces, IsPeak, IsGreatestChoice, IsLeastChoice}
use Rattle.range_join.specs.Worths.{atom_row}
use Rattle.range_groups.specs.declared.members.Member.{Member}
use Rattle.range_groups.specs.declared.touched.Carrier.{Carrier}
use Rattle.range_groups.specs.declared.surest.OpenBlock.{OpenBlock}
use Rattle.range_groups.specs.Members.{names_by}

-- the places of carriers ascend, from one on
abbrev pub AscendFrom : ℕ → List Carrier → Type 0
AscendFrom n [] = Unit {0}
AscendFrom n (carrier ∷ carriers) = (n ≤ carrier.place) × AscendFrom (carrier.place + 1) carriers

-- carriers of rows of a table that has so many, in the order of their places
pub record AreCarriers (n : ℕ) (carriers : List Carrier) : Type 0 where
  pub ascend : AscendFrom 0 carriers
  pub below : (carrier : Carrier) → Contains carriers carrier → carrier.place < n

-- the value that is carried to a place, if there is one
abbrev pub carried_at : ℕ → List Carrier → ℕ → Option Value
carried_at col [] p = None
carried_at col (carrier ∷ carriers) p = if nat_eq carrier.place p then Some (cell carrier.row.now col) else carried_at col carriers p

-- a value that is carried to some place
abbrev pub IsCarried : ℕ → List Carrier → Value → Type 0
IsCarried col carriers v = (carrier : Carrier) × Contains carriers carrier × (cell carrier.row.now col ≡ v)

-- members whose row of the lax atom stands at a place have a value in a column of their row of an atom
abbrev pub GivesAt : List Table → ℕ → ℕ → List Member → ℕ → Value → Type 0
GivesAt db atom col members p v = (m : Member) × Contains members m × (m.place ≡ p) × (cell (atom_row db atom (names_by m)) col ≡ v)

-- a carrier for each place of members, with the value that lies furthest of theirs
pub record AreFurthestCarriers (way : Extreme) (db : List Table) (atom col : ℕ) (members : List Member) (carriers : List Carrier) : Type 0 where
  pub ascend : AscendFrom 0 carriers
  pub best : (p : ℕ) → IsPeak way (GivesAt db atom col members p) (carried_at col carriers p)
  pub of_members : (c : Carrier) → Contains carriers c → (m : Member) × Contains members m × (m.place ≡ c.place)

-- the other way
abbrev pub other_way : Extreme → Extreme
other_way Least = Greatest
other_way Greatest = Least

-- a block gives this value, or one further that way, whichever of its rows is kept: it is that of a place of the block
-- whose value lies least far
abbrev pub GivesSurely : Extreme → (ℕ → Option Value) → Span → Value → Type 0
GivesSurely way best span v = (p : ℕ) × IsFirst (λ p q. lags way (best p) (best q)) span p × (best p ≡ Some v)

-- some block does
abbrev pub IsSure : Extreme → (ℕ → Option Value) → List Span → Value → Type 0
IsSure way best spans v = (span : Span) × Contains spans span × GivesSurely way best span v

-- a block with one carrier more that was read
pub record IsReadMore (way : Extreme) (col : ℕ) (old : OpenBlock) (carrier : Carrier) (new : OpenBlock) : Type 0 where
  pub span : new.span ≡ old.span
  pub next : new.next ≡ (if nat_eq carrier.place old.next then carrier.place + 1 else old.next)
  pub near : held_value col new.near ≡ further (other_way way) (held_value col old.near) (Some (cell carrier.row.now col))

-- the value of a block that was read, if all of its places are carriers'
abbrev pub sure_value : ℕ → OpenBlock → Option Value
sure_value col block = if nat_eq block.next block.span.behind then held_value col block.near else None

-- places of both ends, one of each block
abbrev pub IsChoice : Extreme → (ℕ → Option Value) → ℕ → List Table → ℕ → EndPlaces → Type 0
IsChoice Least best n db table ends = IsLeastChoice best n db table ends
IsChoice Greatest best n db table ends = IsGreatestChoice best db table ends

-- there are such places with these values, or with none
pub record AreEndValues (way : Extreme) (best : ℕ → Option Value) (n : ℕ) (db : List Table) (table : ℕ) (least greatest : Option Value) : Type 0 where
  pub low : List ℕ
  pub high : List ℕ
  pub choice : IsChoice way best n db table (record { least = value_end least; low = low; greatest = value_end greatest; high = high })
