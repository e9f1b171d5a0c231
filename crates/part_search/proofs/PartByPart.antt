-- The witnesses of the parts so far, one part more.
use Rattle.std.proofs.Common.{◌≡◌, ◌↔◌, ℕ, ◌<◌, ◌+◌, ◌∙◌, Bool, true, false, not, IsTrue, List, [], ◌∷◌, ◌++◌, length, refl, get_or, set, take, ap, sym, subst, arith, length-append}
use Rattle.std.specs.Prelude.{Result, Ok, Err, IfErr}
use Rattle.std.specs.Result.{IsErrAnd}
use Rattle.std.proofs.lemmas.List.{map-append, length-map}
use Rattle.std.proofs.lemmas.List.Elements.{Contains-get_or}
use Rattle.cqa_value.specs.declared.memory.Fail.{Fail}
use Rattle.cqa_value.specs.declared.memory.Fail.TheVariants.{NoMemory, Refused}
use Rattle.cqa_value.specs.declared.value.Value.{Value}
use Rattle.cqa_value.proofs.Words.{clash, mem-head, mem-nil}
use Rattle.cqa_model.specs.declared.query.Query.{Query}
use Rattle.cqa_model.specs.Database.{Table}
use Rattle.cqa_model.specs.Certain.{IsCandidate}
use Rattle.table_blocks.specs.declared.bound.Bound.{Bound}
use Rattle.join_access.specs.declared.witness.Witness.{Witness}
use Rattle.join_access.specs.declared.witness.TooMany.{TooMany}
use Rattle.join_access.specs.declared.witness.TheConstants.{MOST_WITNESSES}
use Rattle.join_access.specs.Listing.{AreAllNames, HasTooMany, IsOver, names_of}
use Rattle.join_witness.specs.declared.lookup.Lookup.{Lookup}
use Rattle.part_search.specs.Parts.{AreNamesIn, HasTooManyIn}
use Rattle.part_search.specs.Lookups.{IsBoundTo, AreLookupsOf, HasLengthOf, TellCandidates}
use Rattle.row_lists.proofs.Making.{witness-names}
use Rattle.part_search.proofs.Parts.{names-more, over-first, over-part}
use Rattle.part_search.proofs.Taking.{zip-at, zip-more, zip-set}

-- what is over for one is over for another
pub over-weaker : {P Q : Type 0} (f : Fail TooMany) → (P → Q) → IsOver P f → IsOver Q f
over-weaker NoMemory g h = tt
over-weaker (Refused x) g h = g h

-- an error that is handed on says the same
pub handed-on : {T E : Type 0} (r : Result T E) (fault : E) (P : E → Type 0) → IsErrAnd r (λ e. e ≡ fault) → P fault → IfErr r P
handed-on (Ok x) fault P h p = tt
handed-on (Err e) fault P h p = subst P (sym h) p

-- a row is a candidate exactly where it has a list
pub gives-candidate : (q : Query) (db : List Table) (row : List Value) (found : List Witness) (empty : Bool) → AreAllNames q db row (names_of found) → (IsTrue empty ↔ (found ≡ [])) → IsTrue (not empty) ↔ IsCandidate db q row
gives-candidate q db row [] false all e = absurd (clash false (e.1 refl) refl)
gives-candidate q db row [] true all e = (
  λ t. absurd (clash false t refl),
  λ c. let n = witness-names q db row c.0 c.1 in absurd (mem-nil n.0 ((all.exactly n.0).1 (c.0, c.1, n.1))),
)
gives-candidate q db row (x ∷ found) true all e = absurd (nil_not_cons (e.0 refl))
  where
    nil_not_cons : x ∷ found ≡ [] → ⊥
    nil_not_cons s = cc s
gives-candidate q db row (x ∷ found) false all e = (
  λ t. let n = (all.exactly x.rows).0 (mem-head x.rows (names_of found)) in (n.0, n.1),
  λ c. refl,
)

module _ (db : List Table) (parts : List Query) (row : List Value) (lookups : List Lookup) (are : AreLookupsOf db parts lookups) (at : ℕ) (l : at < length parts) (item : Lookup) where
  -- the part at a place
  abbrev q : Query
  q = get_or parts at item.bound.now.query.now

  abbrev bound : Bound
  bound = (get_or lookups at item).bound.now

  beside : IsBoundTo db q bound
  beside = zip-at (λ p (lookup : Lookup). IsBoundTo db p lookup.bound.now) parts lookups at item.bound.now.query.now item are l

  pub row-long : HasLengthOf parts row → length row ≡ length bound.query.now.answer
  row-long long = long q (Contains-get_or parts at item.bound.now.query.now l) ∙ ap (λ (p : Query). length p.answer) (sym beside.0)

  -- another lookup of the part
  pub lookups-more : (new : Lookup) → new.bound.now ≡ bound → AreLookupsOf db parts (set lookups at new)
  lookups-more new e = zip-set (λ p (lookup : Lookup). IsBoundTo db p lookup.bound.now) parts lookups at item.bound.now.query.now new are l (subst (IsBoundTo db q) (sym e) beside)

  module _ (lists : List Witness) (names : AreNamesIn (take at parts) db row (names_of lists)) where
    joined : (found : List Witness) → AreAllNames bound.query.now bound.db.now row (names_of found) → AreNamesIn (take (at + 1) parts) db row (names_of (lists ++ found))
    joined found all =
        let of_db = subst (λ (t : List Table). AreAllNames bound.query.now t row (names_of found)) beside.1 all in
        let of_part = subst (λ (p : Query). AreAllNames p db row (names_of found)) beside.0 of_db in
        subst (AreNamesIn (take (at + 1) parts) db row) (sym (map-append (λ (w : Witness). w.rows) lists found))
        (names-more db row parts at item.bound.now.query.now (names_of lists) (names_of found) l names of_part)

    -- the witnesses of one part more
    pub gathered-more : (found new : List Witness) → AreAllNames bound.query.now bound.db.now row (names_of found) → new ≡ lists ++ found → AreNamesIn (take (at + 1) parts) db row (names_of new)
    gathered-more found new all e = subst (λ (ls : List Witness). AreNamesIn (take (at + 1) parts) db row (names_of ls)) (sym e) (joined found all)

    -- and whether the row is a candidate of it
    pub told-more : (found : List Witness) (empty : Bool) (given new : List Bool) → AreAllNames bound.query.now bound.db.now row (names_of found) → (IsTrue empty ↔ (found ≡ [])) → new ≡ given ++ not empty ∷ [] →
        TellCandidates db (take at parts) row given → TellCandidates db (take (at + 1) parts) row new
    told-more found empty given new all is e told =
        let here = gives-candidate bound.query.now bound.db.now row found empty all is in
        let of_db = subst (λ (t : List Table). IsTrue (not empty) ↔ IsCandidate t bound.query.now row) beside.1 here in
        let of_part = subst (λ (p : Query). IsTrue (not empty) ↔ IsCandidate db p row) beside.0 of_db in
        subst (TellCandidates db (take (at + 1) parts) row) (sym e) (zip-more (λ p (gives : Bool). IsTrue gives ↔ IsCandidate db p row) parts given at item.bound.now.query.now (not empty) l told of_part)

    -- too many for one part, or for the parts so far
    pub over-here : HasTooMany bound.query.now bound.db.now row → HasTooManyIn parts db row
    over-here t = over-part db row parts at item.bound.now.query.now (names_of lists) l names (subst (λ (p : Query). HasTooMany p db row) beside.0 (subst (λ (tables : List Table). HasTooMany bound.query.now tables row) beside.1 t))

    pub over-together : (found : List Witness) → AreAllNames bound.query.now bound.db.now row (names_of found) → MOST_WITNESSES < length lists + length found → HasTooManyIn parts db row
    over-together found all more =
        let size = length-map (lists ++ found) (λ (w : Witness). w.rows) in
        let both = length-append lists found in
        over-first db row parts (at + 1) (names_of (lists ++ found)) (joined found all) (let z : MOST_WITNESSES < length (names_of (lists ++ found)) = omega (arith, size, both, more) in z)
