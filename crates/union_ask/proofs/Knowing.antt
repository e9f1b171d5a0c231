-- What known rows of the parts tell of a candidate.
use Rattle.std.proofs.Common.{◌≡◌, ◌↔◌, ◌∙◌, ◌<◌, ℕ, Bool, true, false, IsTrue, Option, Some, None, List, [], ◌∷◌, length, get_or, refl, sym, subst, Contains}
use Rattle.std.specs.List.{AllZip}
use Rattle.std.proofs.lemmas.List.{get_or_default}
use Rattle.std.proofs.lemmas.List.Elements.{Contains-get_or}
use Rattle.cqa_value.specs.declared.value.Value.{Value}
use Rattle.cqa_value.proofs.Words.{all_zip_right, clash}
use Rattle.cqa_model.specs.declared.query.Query.{Query}
use Rattle.cqa_model.specs.Database.{Table}
use Rattle.cqa_model.specs.Certain.{IsCandidate, IsCertain}
use Rattle.cqa_model.specs.Unions.{IsCertainIn}
use Rattle.cqa_model.proofs.Databases.{possible_is_candidate}
use Rattle.join_access.proofs.Naming.{zip-length}
use Rattle.table_blocks.specs.declared.bound.Bound.{Bound}
use Rattle.union_ask.specs.Known.{AreAscending, AreKnownAmong, IsAmong, IsKnown, IsKnownFor}
use Rattle.part_search.specs.declared.judging.Verdict.{Verdict}
use Rattle.part_search.specs.Judging.{IsVerdictOver}
use Rattle.part_search.specs.Parts.{AllFit, HasTooManyIn}
use Rattle.part_search.specs.Lookups.{AreBoundsOf, TellCandidates}
use Rattle.part_search.proofs.Taking.{zip-at}
use Rattle.union_ask.specs.Apart.{AreApartAmong, AreApartFor}
use Rattle.union_ask.specs.Knowing.{AreKnownIn, IsVerdictOf}
use Rattle.union_ask.proofs.Apart.{candidates_decide}

-- it is told of each part whether the row is a candidate of it
pub given-long : (db : List Table) (parts : List Query) (row : List Value) (given : List Bool) → TellCandidates db parts row given → length given ≡ length parts
given-long db parts row given told = sym (zip-length (λ p (gives : Bool). IsTrue gives ↔ IsCandidate db p row) parts given told)

module _ (db : List Table) (parts : List Query) (known : List (Option (List (List Value)))) (are : AreKnownIn db parts known) where
  -- the known rows of a part
  part_of : (rows : List (List Value)) → Contains known (Some rows) → (q : Query) × Contains parts q × IsKnown db q (Some rows)
  part_of rows m = all_zip_right (IsKnown db) parts known (Some rows) are m

  pub ascending : AreAscending known
  ascending rows m = (part_of rows m).2.0.ascending

  module _ (row : List Value) (given : List Bool) where
    pub among-certain : IsAmong known given row → IsCertainIn db parts row
    among-certain (i, (l, g), (rows, e, m)) kept hr =
        let p = part_of rows (subst (Contains known) e (Contains-get_or known i None l)) in
        (p.0, p.1, (p.2.0.exactly row).0 m kept hr)

    module _ (told : TellCandidates db parts row given) where
      pub known-long : length given ≡ length known
      known-long = given-long db parts row given told ∙ zip-length (IsKnown db) parts known are

      given-at : (i : ℕ) (q : Query) → i < length parts → get_or parts i q ≡ q → IsCandidate db q row → get_or given i false ≡ true
      given-at i q l e c = (zip-at (λ p (gives : Bool). IsTrue gives ↔ IsCandidate db p row) parts given i q false told l).1 (subst (λ p. IsCandidate db p row) (sym e) c)

      pub apart-for : AreApartAmong parts given → AreApartFor db parts row
      apart-for apart i j p q l cp cq s = apart i j p q l (cp.0, given-at i p cp.0.0 cp.0.1 cp.1) (cq.0, given-at j q cq.0.0 cq.0.1 cq.1) s

      -- a row that is certain for a part whose rows are known is one of them
      found_in : AllFit parts db → AreKnownAmong known given → (q : Query) → Contains parts q → IsCertain db q row → IsAmong known given row
      found_in fits all q (i, l, e) certain = (i, (within, gives), (rows.0, rows.1, (is.0.exactly row).1 (subst (λ p. IsCertain db p row) (sym part) certain)))
        where
          part : get_or parts i q ≡ q
          part = get_or_default parts i q q l ∙ e

          within : i < length known
          within = subst (λ n. i < n) (zip-length (IsKnown db) parts known are) l

          gives : get_or given i false ≡ true
          gives = given-at i q l part ((possible_is_candidate.certain db q row (fits q (i, l, e))) certain)

          rows : (rows : List (List Value)) × (get_or known i None ≡ Some rows)
          rows = all i (within, gives)

          is : IsKnown db (get_or parts i q) (Some rows.0)
          is = subst (IsKnown db (get_or parts i q)) rows.1 (zip-at (IsKnown db) parts known i q None are l)

      pub not-among : AllFit parts db → AreKnownAmong known given → AreApartAmong parts given → (IsAmong known given row → ⊥) → IsCertainIn db parts row → ⊥
      not-among fits all apart none certain =
          let found = (candidates_decide db parts row fits (apart-for apart)).0 certain in
          none (found_in fits all found.0 found.1 found.2)

-- what is known of the parts over the database
pub known-in : (db : List Table) (parts : List Query) (bounds : List Bound) (known : List (Option (List (List Value)))) → AreBoundsOf db parts bounds → AllZip IsKnownFor bounds known → AreKnownIn db parts known
known-in db [] [] [] h k = tt
known-in db [] [] (x ∷ known) h k = absurd k
known-in db [] (b ∷ bounds) known h k = absurd h
known-in db (q ∷ parts) [] known h k = absurd h
known-in db (q ∷ parts) (b ∷ bounds) [] h k = absurd k
known-in db (q ∷ parts) (b ∷ bounds) (x ∷ known) h k =
    (subst (λ (p : Query). IsKnown db p x) h.0.0 (subst (λ (t : List Table). IsKnown t b.query.now x) h.0.1 k.0), known-in db parts bounds known h.1 k.1)

-- the verdict on a row of which it is known
pub verdict-known : (db : List Table) (tables : List ℕ) (parts : List Query) (row : List Value) (budget : ℕ) (certain : Bool) (v : Verdict) → IsVerdictOf certain v → (IsTrue certain ↔ IsCertainIn db parts row) → (HasTooManyIn parts db row → ⊥) →
    IsVerdictOver db tables parts row budget v
verdict-known db tables parts row budget true v e is few = subst (IsVerdictOver db tables parts row budget) (sym e) (is.0 refl, few)
verdict-known db tables parts row budget false v e is few = subst (IsVerdictOver db tables parts row budget) (sym e) (λ c. clash false (is.1 c) refl, few)

-- whether a row is certain, by what its verdict says
pub certain-said : (db : List Table) (tables : List ℕ) (parts : List Query) (row : List Value) (budget : ℕ) (certain : Bool) (v : Verdict) → IsVerdictOf certain v → IsVerdictOver db tables parts row budget v → IsTrue certain ↔ IsCertainIn db parts row
certain-said db tables parts row budget true v e h = (λ t. (subst (IsVerdictOver db tables parts row budget) e h).0, λ k. refl)
certain-said db tables parts row budget false v e h = (λ t. absurd (clash false t refl), λ k. absurd ((subst (IsVerdictOver db tables parts row budget) e h).0 k))
