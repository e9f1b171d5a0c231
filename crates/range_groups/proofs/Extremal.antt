-- Both ends of a least or a greatest value over the members of a group.
use Rattle.std.proofs.Common.{◌≡◌, ℕ, ◌<◌, List, length, map, Option, Result, Ok, Err, IfOk, Contains, refl, sym, ◌∙◌, ap, subst}
use Rattle.cqa_value.specs.declared.value.Value.{Value}
use Rattle.cqa_value.proofs.Words.{Contains-map, Contains-from_map}
use Rattle.aggregate_range.specs.declared.aggregate.End.{End}
use Rattle.cqa_model.specs.declared.query.Query.{Query}
use Rattle.cqa_model.specs.declared.query.RowId.{RowId}
use Rattle.cqa_model.specs.Database.{Table, IsDatabase, stored}
use Rattle.cqa_model.specs.Query.{atom_at, rows_of, FitsDatabase}
use Rattle.row_witnesses.specs.Columns.{place_at}
use Rattle.range_ask.specs.Ranges.{cell}
use Rattle.table_blocks.specs.Tables.{names_in}
use Rattle.range_ask.specs.declared.range.Range.{Range}
use Rattle.range_join.specs.declared.carriers.Extreme.{Extreme}
use Rattle.range_join.specs.declared.sought.Sought.{Sought}
use Rattle.range_join.specs.declared.spans.Span.{Span}
use Rattle.range_join.specs.Extremes.{goal_by}
use Rattle.range_join.specs.Joins.{IsPartRange}
use Rattle.range_join.specs.Parts.{AreNamesIn}
use Rattle.range_join.specs.Peaks.{given_by, value_end, AreBest}
use Rattle.range_join.specs.Worths.{AreOthersStrict, named_row, atom_row}
use Rattle.range_join.proofs.Kept.{stored_for}
use Rattle.range_join.proofs.Named.{own_at, atom_told}
use Rattle.range_join.proofs.Peaked.{gives, given-is, peaked}
use Rattle.range_join.proofs.Peaking.{peak-same}
use Rattle.range_groups.specs.declared.members.Member.{Member}
use Rattle.range_groups.specs.declared.touched.Carrier.{Carrier}
use Rattle.range_groups.specs.Members.{names_by}
use Rattle.range_groups.specs.Spans.{AreSpansOfPlaces}
use Rattle.range_groups.specs.Touched.{carried_at, AreCarriers, GivesAt, AreFurthestCarriers, AreEndValues}
use Rattle.range_groups.proofs.Valued.{end-peaks, carried-below}

pub if_ok-both : {A E : Type 0} (r : Result A E) (P Q R : A → Type 0) → IfOk r P → IfOk r Q → ((x : A) → P x → Q x → R x) → IfOk r R
if_ok-both (Ok x) P Q R p q f = f x p q
if_ok-both (Err e) P Q R p q f = tt

-- carriers of members stand at rows
pub carriers-there : (way : Extreme) (db : List Table) (atom col : ℕ) (members : List Member) (carriers : List Carrier) (n : ℕ) → AreFurthestCarriers way db atom col members carriers → ((m : Member) → Contains members m → m.place < n) → AreCarriers n carriers
carriers-there way db atom col members carriers n are below = record {
  ascend = are.ascend;
  below = λ c k. let m = are.of_members c k in subst (λ p. p < n) m.2 (below m.0 m.1);
}

module _ (db : List Table) (q : Query) (fits : FitsDatabase q db) (base : IsDatabase db) (lax : ℕ) (strict : AreOthersStrict q lax) (in_q : lax < length q.atoms) (Of : List (List Value) → Type 0) (members : List Member) (h : AreNamesIn db q Of (map names_by members))
    (atom : ℕ) (of_q : atom < length q.atoms) (col : ℕ) (places : (m : Member) → Contains members m → m.place ≡ place_at (names_by m) lax) (way : Extreme) (carriers : List Carrier) (are : AreFurthestCarriers way db atom col members carriers) where
  abbrev part : List (List RowId)
  part = map names_by members

  -- what a member gives is what its row of the atom has
  told : (m : Member) → Contains members m → given_by (rows_of q (stored db) atom) atom col (names_by m) ≡ cell (atom_row db atom (names_by m)) col
  told m k =
      let c = Contains-map names_by members m k in
      let own = own_at db q.atoms (names_by m) (map (named_row db) (names_by m)) (stored_for db q fits base lax strict in_q Of part h (names_by m) c).1 atom of_q in
      given-is db q fits base lax strict in_q Of part h atom of_q col (names_by m) c ∙ ap (λ r. cell r col) (atom_told db (names_by m) atom own.within)

  -- so for each place the carriers have the value that lies furthest
  best : (n : ℕ) → AreBest way (gives db q fits base lax strict in_q Of part h atom of_q col) n (carried_at col carriers)
  best n p l =
      peak-same way (GivesAt db atom col members p) (gives db q fits base lax strict in_q Of part h atom of_q col p)
      (λ v g. (names_by g.0, Contains-map names_by members g.0 g.1, sym (places g.0 g.1) ∙ g.2, told g.0 g.1 ∙ g.3))
      (λ v g. let m = Contains-from_map names_by members g.0 g.1 in
      (m.0, m.1, places m.0 m.1 ∙ (ap (λ ns. place_at ns lax) m.2 ∙ g.2), sym (told m.0 m.1) ∙ (ap (given_by (rows_of q (stored db) atom) atom col) m.2 ∙ g.3)))
      (carried_at col carriers p) (are.best p)

  -- and what one of each block chosen by them has is both ends of the part
  pub group-range : (spans : List Span) → AreSpansOfPlaces db (atom_at q lax).table spans → ((m : Member) → Contains members m → m.place < length spans) → (least greatest : Option Value) →
      (e : AreEndValues way (carried_at col carriers) (length spans) db (atom_at q lax).table least greatest) →
      IsPartRange db q lax Of (record { goal = goal_by way col; atom = atom }) (record { least = value_end least; low = names_in (atom_at q lax).table e.low; greatest = value_end greatest; high = names_in (atom_at q lax).table e.high })
  group-range spans s below least greatest e =
      peaked db q fits base lax strict in_q Of part h atom of_q col way (record { least = value_end least; low = e.low; greatest = value_end greatest; high = e.high })
      (end-peaks db (atom_at q lax).table s.parted (carried_at col carriers) (length spans) s.size (carried-below col (length spans) carriers (carriers-there way db atom col members carriers (length spans) are below))
      (gives db q fits base lax strict in_q Of part h atom of_q col) way least greatest (best (length spans)) e)
      (record { least = value_end least; low = names_in (atom_at q lax).table e.low; greatest = value_end greatest; high = names_in (atom_at q lax).table e.high }) refl refl refl refl

  -- so it is a group with these ends
  pub group-ends : (spans : List Span) → AreSpansOfPlaces db (atom_at q lax).table spans → ((m : Member) → Contains members m → m.place < length spans) → (least greatest : Option Value) → AreEndValues way (carried_at col carriers) (length spans) db (atom_at q lax).table least greatest →
      (sought : Sought) → sought ≡ record { goal = goal_by way col; atom = atom } → (a b : End) → a ≡ value_end least → b ≡ value_end greatest →
      (low : List RowId) × (high : List RowId) × IsPartRange db q lax Of sought (record { least = a; low = low; greatest = b; high = high })
  group-ends spans s below least greatest e sought same a b f g = (
    names_in (atom_at q lax).table e.low,
    names_in (atom_at q lax).table e.high,
    subst (λ x. IsPartRange db q lax Of x (ends a b)) (sym same) (subst (λ x. IsPartRange db q lax Of asked (ends x b)) (sym f) (subst (λ x. IsPartRange db q lax Of asked (ends (value_end least) x)) (sym g) (group-range spans s below least greatest e))),
  )
    where
      asked : Sought
      asked = record { goal = goal_by way col; atom = atom }

      ends : End → End → Range
      ends x y = record { least = x; low = names_in (atom_at q lax).table e.low; greatest = y; high = names_in (atom_at q lax).table e.high }
