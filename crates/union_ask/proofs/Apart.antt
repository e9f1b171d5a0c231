-- Parts of which a row is a candidate, without a common table that isn't strict: what each of them lacks in a repair, all of them lack in one.
use Rattle.std.proofs.Common.{◌≡◌, ℕ, ◌<◌, ◌⊎◌, inl, inr, List, [], length, get_or, refl, sym, ◌∙◌, ap, subst, Contains, Bool, true, false}
use Rattle.std.proofs.Math.Bool.{Bool-discrete}
use Rattle.std.proofs.lemmas.Bool.{cases_order}
use Rattle.std.proofs.lemmas.List.{get_or_default}
use Rattle.std.proofs.lemmas.List.Elements.{Contains-get_or}
use native.Mathlib.Decide.{ℕ_discrete}
use Rattle.cqa_value.specs.declared.value.Value.{Value}
use Rattle.cqa_value.proofs.Words.{dec_both, dec_one_below}
use Rattle.cqa_model.specs.declared.query.Query.{Query}
use Rattle.cqa_model.specs.Database.{Table, stored, keys_of}
use Rattle.cqa_model.specs.Repairs.{SharesKey, HasOne, IsTableRepair, IsRepair}
use Rattle.cqa_model.specs.Query.{atom_at, rows_of, row_at, IsStrict, IsWitness, FitsDatabase}
use Rattle.cqa_model.specs.Certain.{IsCandidate, IsCertain}
use Rattle.cqa_model.specs.Unions.{HoldsSome, IsCertainIn}
use Rattle.cqa_model.proofs.Classic.{Classically, stable, choice, choose, dec_some}
use Rattle.cqa_model.proofs.Databases.{certain_or_rejected}
use Rattle.cqa_model.proofs.Existence.{last_rows, last_rows-repair, some_repair}
use Rattle.cqa_model.proofs.Fitting.{fits_tables}
use Rattle.cqa_model.proofs.Repairs.{sublist-stored}
use Rattle.cqa_model.proofs.Values.{dec_by}
use Rattle.cqa_model.proofs.Witnesses.{dec_witness, witness-stored}
use Rattle.query_strategy.specs.Apart.{AreApart, HasLoose}
use Rattle.part_search.specs.Parts.{AllFit}
use Rattle.union_ask.specs.Apart.{AreApartFor, IsCandidateAt}
use Rattle.union_ask.specs.Laws.{ApartDecide, CandidatesDecide}

pub dec_has_loose : (q : Query) (t : ℕ) → Dec (HasLoose q t)
dec_has_loose q t = dec_by (λ h. (h.0, (h.1, h.2.0, h.2.1))) (λ h. (h.0, h.1.0, (h.1.1, h.1.2)))
    (dec_one_below (λ F. ((atom_at q F).table ≡ t) × ((atom_at q F).strict ≡ false)) (λ F. dec_both (ℕ_discrete (atom_at q F).table t) (Bool-discrete (atom_at q F).strict false)) (length q.atoms))

-- what follows for an atom whose table isn't strict, or its table is strict
loose-or : (q : Query) (F t : ℕ) {K : Type 0} → F < length q.atoms → (atom_at q F).table ≡ t → (HasLoose q t → K) → K ⊎ IsStrict q F
loose-or q F t {K} l e f = go (Bool-discrete (atom_at q F).strict false)
  where
    marked : (b : Bool) → (b ≡ false → ⊥) → b ≡ true
    marked true n = refl
    marked false n = absurd (n refl)

    go : Dec ((atom_at q F).strict ≡ false) → K ⊎ IsStrict q F
    go (yes s) = inl (f (F, (l, e, s)))
    go (no n) = inr (marked (atom_at q F).strict n)

module _ (db : List Table) (d : Query) (parts : List Query) (row : List Value) (fits : AllFit parts db) (apart : AreApartFor db parts row) where
  abbrev part_at : ℕ → Query
  part_at i = get_or parts i d

  abbrev IsGiven : ℕ → Type 0
  IsGiven i = (i < length parts) × IsCandidate db (part_at i) row

  fits_at : (i : ℕ) → i < length parts → FitsDatabase (part_at i) db
  fits_at i l = fits (part_at i) (Contains-get_or parts i d l)

  candidate : (i : ℕ) → IsGiven i → IsCandidateAt db parts row i (part_at i)
  candidate i g = ((g.0, get_or_default parts i (part_at i) d g.0), g.1)

  same_part : (i j t : ℕ) → IsGiven i → IsGiven j → HasLoose (part_at i) t → HasLoose (part_at j) t → i ≡ j
  same_part i j t gi gj hi hj = go (cases_order i j)
    where
      go : (i ≡ j) ⊎ ((i < j) ⊎ (j < i)) → i ≡ j
      go (inl e) = e
      go (inr (inl l)) = absurd (apart i j (part_at i) (part_at j) l (candidate i gi) (candidate j gj) (t, hi, hj))
      go (inr (inr l)) = absurd (apart j i (part_at j) (part_at i) l (candidate j gj) (candidate i gi) (t, hj, hi))

  abbrev IsRejectedBy : ℕ → List (List (List Value)) → Type 0
  IsRejectedBy i r = IsRepair db r × ((w : List (List Value)) → IsWitness (part_at i) r row w → ⊥)

  rejected : (i : ℕ) → (IsCertain db (part_at i) row → ⊥) → Classically ((r : List (List (List Value))) × IsRejectedBy i r)
  rejected i n f = n (λ kept hr. stable (dec_witness (part_at i) kept row) (λ nw. f (kept, (hr, λ w hw. nw (w, hw)))))

  module _ (rs : List (List (List (List Value)))) (each : (i : ℕ) → i < length parts → IsRejectedBy i (get_or rs i [])) where
    abbrev kept_by : ℕ → ℕ → List (List Value)
    kept_by i t = get_or (get_or rs i []) t []

    abbrev IsLoose : ℕ → ℕ → Type 0
    IsLoose t i = IsCandidate db (part_at i) row × HasLoose (part_at i) t

    dec_given : (t : ℕ) → Dec ((i : ℕ) × (i < length parts) × IsLoose t i)
    dec_given t = dec_one_below (IsLoose t) (λ i. dec_both (dec_witness (part_at i) (stored db) row) (dec_has_loose (part_at i) t)) (length parts)

    -- a repair of a table that each part with it has of which the row is a candidate, unless it is strict
    abbrev IsGood : ℕ → List (List Value) → Type 0
    IsGood t k = IsTableRepair (get_or (keys_of db) t []) (get_or (stored db) t []) k
        × ((i F : ℕ) → IsGiven i → F < length (part_at i).atoms → (atom_at (part_at i) F).table ≡ t → (k ≡ kept_by i t) ⊎ IsStrict (part_at i) F)

    good : (t : ℕ) → t < length (stored db) → (k : List (List Value)) × IsGood t k
    good t l = go (dec_given t)
      where
        go : Dec ((i : ℕ) × (i < length parts) × IsLoose t i) → (k : List (List Value)) × IsGood t k
        go (yes (j, lj, (cj, hj))) = (
          kept_by j t,
          ((each j lj).0.each t l, λ i F gi lF e. loose-or (part_at i) F t lF e (λ hi. ap (λ (k : ℕ). kept_by k t) (sym (same_part i j t gi (lj, cj) hi hj)))),
        )
        go (no f) = (
          last_rows (get_or (keys_of db) t []) (get_or (stored db) t []),
          (
            last_rows-repair (get_or (keys_of db) t []) (get_or (stored db) t []),
            λ i F gi lF e. loose-or (part_at i) F t lF e (λ hi. absurd (f (i, gi.0, (gi.1, hi)))),
          ),
        )

    clash_with : IsCertainIn db parts row → ((r : List (List (List Value))) × (length r ≡ length (stored db)) × ((t : ℕ) → t < length (stored db) → IsGood t (get_or r t []))) → ⊥
    clash_with certain (r, size, h) = of_part (certain r hr)
      where
        hr : IsRepair db r
        hr = record { size = size; each = λ t l. (h t l).0 }

        in_own : (i : ℕ) (gi : IsGiven i) (w : List (List Value)) → IsWitness (part_at i) r row w → (F : ℕ) → F < length (part_at i).atoms → Contains (rows_of (part_at i) (get_or rs i []) F) (row_at w F)
        in_own i gi w hw F l = go ((h t lt).1 i F gi l refl)
          where
            fit : FitsDatabase (part_at i) db
            fit = fits_at i gi.0

            t : ℕ
            t = (atom_at (part_at i) F).table

            lt : t < length (stored db)
            lt = (fits_tables (part_at i) db fit).in_tables F l

            x : List Value
            x = row_at w F

            mx : Contains (get_or (stored db) t []) x
            mx = sublist-stored (get_or r t []) (get_or (stored db) t []) (h t lt).0.stored x (hw.kept F l)

            own : IsTableRepair (get_or (keys_of db) t []) (get_or (stored db) t []) (kept_by i t)
            own = (each i gi.0).0.each t lt

            of_one : IsStrict (part_at i) F → HasOne (get_or (keys_of db) t []) (kept_by i t) x → Contains (kept_by i t) x
            of_one s o = subst (Contains (kept_by i t)) (sym (fit.strict F l s x o.row mx (sublist-stored (kept_by i t) (get_or (stored db) t []) own.stored o.row o.is_kept)
                (subst (λ k. SharesKey k x o.row) (sym (fit.keyed F l)) o.shares))) o.is_kept

            go : (get_or r t [] ≡ kept_by i t) ⊎ IsStrict (part_at i) F → Contains (kept_by i t) x
            go (inl e) = subst (λ k. Contains k x) e (hw.kept F l)
            go (inr s) = of_one s (own.one x mx)

        of_index : (i : ℕ) → i < length parts → (w : List (List Value)) → IsWitness (part_at i) r row w → ⊥
        of_index i li w hw =
            let stored_one = witness-stored (part_at i) (keys_of db) (stored db) (fits_tables (part_at i) db (fits_at i li)) row r hr w hw in
            (each i li).1 w (record { size = hw.size; kept = in_own i (li, (w, stored_one)) w hw; holds = hw.holds; answers = hw.answers })

        of_part : HoldsSome parts r row → ⊥
        of_part (q, (k, l, e), (w, hw)) = of_index k l w (subst (λ p. IsWitness p r row w) (sym (get_or_default parts k d q l ∙ e)) hw)

  none : ((q : Query) → Contains parts q → IsCertain db q row → ⊥) → IsCertainIn db parts row → ⊥
  none no_part certain =
      choice [] (length parts) IsRejectedBy (λ i l. rejected i (no_part (part_at i) (Contains-get_or parts i d l)))
      (λ c. clash_with c.0 c.2 certain (choose [] (length (stored db)) (IsGood c.0 c.2) (good c.0 c.2)))

dec_certain : (db : List Table) (row : List Value) (q : Query) → Dec (IsCertain db q row)
dec_certain db row q = elim (certain_or_rejected db q row) [
  | inl h ↦ yes h
  | inr f ↦ no (λ h. let w = h f.0 f.1 in f.2 w.0 w.1)
]

pub candidates_decide : CandidatesDecide
candidates_decide db parts row fits apart = (
  λ certain.
      let r = some_repair (keys_of db) (stored db) in
      let some = dec_some (λ q. IsCertain db q row) (dec_certain db row) parts in
      stable some (λ n. none db (certain r.0 r.1).0 parts row fits apart (λ q mq c. n (q, mq, c)) certain),
  λ s kept hr. (s.0, s.1, s.2 kept hr),
)

pub apart_decide : ApartDecide
apart_decide = record {
  some = λ db parts row q mq certain kept hr. (q, mq, certain kept hr);
  only = λ db parts row fits apart certain. (candidates_decide db parts row fits (apart_for db parts row apart)).0 certain;
}
  where
    apart_for : (db : List Table) (parts : List Query) (row : List Value) → AreApart parts → AreApartFor db parts row
    apart_for db parts row apart i j p q l cp cq s =
        apart (record { first = i; second = j; atom = s.1.0; table = s.0 }) (record { first = (p, cp.0, s.1.1); second = (l, (q, cq.0, s.2)) })
