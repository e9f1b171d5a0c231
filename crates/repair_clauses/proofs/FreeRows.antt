-- A row each of whose witnesses has a loose row isn't certain.
use Rattle.std.proofs.Common.{◌≡◌, ℕ, ◌<◌, List, [], length, get_or, Some, refl, sym, ◌∙◌, ap, subst, Contains, slice_get, Bool, true, false}
use native.Mathlib.Decide.{ℕ_discrete}
use Rattle.std.proofs.lemmas.Option.{get_or_from_slice_get, slice_get-get_or}
use Rattle.std.proofs.lemmas.List.Elements.{Contains-get_or}
use Rattle.cqa_value.specs.declared.value.Value.{Value}
use Rattle.cqa_value.proofs.Words.{Contains-from_map, yes_of, no_of, is_yes, dec_one_below}
use Rattle.cqa_model.specs.declared.query.Query.{Query}
use Rattle.cqa_model.specs.declared.query.RowId.{RowId}
use Rattle.cqa_model.specs.Database.{Table, IsDatabase, stored}
use Rattle.cqa_model.specs.Repairs.{SharesKey}
use Rattle.cqa_model.specs.Query.{atom_at, atom_key, rows_of, row_at, IsWitness, FitsDatabase}
use Rattle.cqa_model.specs.Certain.{IsCertain}
use Rattle.cqa_model.specs.Formula.{Satisfies}
use Rattle.cqa_model.proofs.Classic.{choose, dec_both}
use Rattle.cqa_model.proofs.Values.{dec_not, row_discrete}
use Rattle.cqa_model.proofs.Repairs.{shares-self}
use Rattle.cqa_model.proofs.Databases as databases
use Rattle.join_access.specs.Listing.{AreAllNames, places_of}
use Rattle.join_access.proofs.Naming.{stand-once}
use Rattle.row_lists.specs.Clauses.{Variable}
use Rattle.repair_clauses.specs.Clauses.{variable_row}
use Rattle.row_lists.specs.Spans.{at}
use Rattle.row_lists.specs.Loose.{HasFreePlace}
use Rattle.row_witnesses.specs.Columns.{place_at}
use Rattle.row_witnesses.specs.Columns.{AreColumn}
use Rattle.repair_clauses.specs.Avoiding.{IsAvoidable}
use Rattle.row_lists.proofs.Numbers.{place_of}
use Rattle.repair_clauses.proofs.Naming.{of_names, placed}

module _ (q : Query) (db : List Table) (row : List Value) (all : List (List RowId)) (d : IsDatabase db) (h : AreAllNames q db row all) where
  abbrev no_row : Variable
  no_row = at 0 0

  -- a loose row of the witness at a place of the list
  pub record IsLooseOf (i : ℕ) (x : Variable) : Type 0 where
    pub there : x.slot < length q.atoms
    pub is : place_at (get_or all i []) x.slot ≡ x.place
    pub places : List ℕ
    pub column : AreColumn all x.slot places
    pub free : HasFreePlace (atom_key q x.slot) (rows_of q (stored db) x.slot) places x.place

  loose_of : (i : ℕ) → IsAvoidable q db all (get_or all i []) → (x : Variable) × IsLooseOf i x
  loose_of i a = (at a.atom (place_at (get_or all i []) a.atom), record { there = a.there; is = refl; places = a.places; column = a.column; free = a.free })

  abbrev pub IsPlace : List (List Value) → ℕ → ℕ → Type 0
  IsPlace w F p = (p < length (rows_of q (stored db) F)) × (variable_row q db (at F p) ≡ row_at w F)

  -- the names of a witness
  abbrev pub IsNamed : List (List Value) → ℕ → Type 0
  IsNamed w i = (i < length all) × ((F : ℕ) → F < length q.atoms → variable_row q db (at F (place_at (get_or all i []) F)) ≡ row_at w F)

  pub named : (w : List (List Value)) → IsWitness q (stored db) row w → (i : ℕ) × IsNamed w i
  named w hw = go (choose 0 (length q.atoms) (IsPlace w) (λ F lF. there F (place_of (rows_of q (stored db) F) (row_at w F) (hw.kept F lF))))
    where
      there : (F : ℕ) → ((j : ℕ) × (j < length (rows_of q (stored db) F)) × (slice_get (rows_of q (stored db) F) j ≡ Some (row_at w F))) → (j : ℕ) × IsPlace w F j
      there F (j, lj, e) = (j, (lj, get_or_from_slice_get (rows_of q (stored db) F) j (row_at w F) [] e))

      go : ((ps : List ℕ) × (length ps ≡ length q.atoms) × ((F : ℕ) → F < length q.atoms → IsPlace w F (get_or ps F 0))) → (i : ℕ) × IsNamed w i
      go (ps, size, each) =
          let f = Contains-from_map places_of all ps (((placed q db row all h).exactly ps).1 (record { rows = w; witness = hw; size = size; each = each })) in
          let i = place_of all f.0 f.1 in
          let e : places_of (get_or all i.0 []) ≡ ps = ap places_of (get_or_from_slice_get all i.0 f.0 [] i.2) ∙ f.2 in
          (i.0, (i.1, λ F l. ap (λ ns. variable_row q db (at F (get_or ns F 0))) e ∙ (each F l).1))

  -- a row at two places of an atom stands at one
  pub one_place : (F p r : ℕ) → p < length (rows_of q (stored db) F) → r < length (rows_of q (stored db) F) → variable_row q db (at F p) ≡ variable_row q db (at F r) → p ≡ r
  one_place F p r lp lr e =
      stand-once db d (atom_at q F).table p r (variable_row q db (at F r))
      (slice_get-get_or (rows_of q (stored db) F) p [] lp ∙ ap Some e) (slice_get-get_or (rows_of q (stored db) F) r [] lr)

  module _ (loose : List Variable) (size : length loose ≡ length all) (each : (i : ℕ) → i < length all → IsLooseOf i (get_or loose i no_row)) where
    -- the row is one of the loose rows
    abbrev IsOut : ℕ → List Value → Type 0
    IsOut F x = (k : ℕ) × (k < length all) × (((get_or loose k no_row).slot ≡ F) × (variable_row q db (get_or loose k no_row) ≡ x))

    dec_out : (F : ℕ) (x : List Value) → Dec (IsOut F x)
    dec_out F x = dec_one_below (λ k. ((get_or loose k no_row).slot ≡ F) × (variable_row q db (get_or loose k no_row) ≡ x))
        (λ k. dec_both (ℕ_discrete (get_or loose k no_row).slot F) (row_discrete (variable_row q db (get_or loose k no_row)) x)) (length all)

    -- all others stay
    abbrev stays : ℕ → List Value → Bool
    stays F x = is_yes (dec_not (dec_out F x))

    abbrev Stays : ℕ → List Value → Type 0
    Stays F x = (y : List Value) × Contains (rows_of q (stored db) F) y × SharesKey (atom_key q F) x y × (stays F y ≡ true)

    -- a row that is free is none of them
    free_stays : (k : ℕ) (l : k < length all) → IsOut (get_or loose k no_row).slot (variable_row q db (at (get_or loose k no_row).slot (each k l).free.free)) → ⊥
    free_stays k l (j, lj, (ea, er)) = x.free.apart (subst (Contains x.places) (ap (place_at names) (sym ea) ∙ (u.is ∙ same)) (x.column.to names member))
      where
        x : IsLooseOf k (get_or loose k no_row)
        x = each k l

        u : IsLooseOf j (get_or loose j no_row)
        u = each j lj

        names : List RowId
        names = get_or all j []

        member : Contains all names
        member = Contains-get_or all j [] lj

        stored_at : (F : ℕ) → (get_or loose j no_row).slot ≡ F → (get_or loose j no_row).place < length (rows_of q (stored db) F)
        stored_at F e = subst (λ G. (get_or loose j no_row).place < length (rows_of q (stored db) G)) e
            (subst (λ p. p < length (rows_of q (stored db) (get_or loose j no_row).slot)) u.is ((of_names q db row names ((h.exactly names).0 member)).each (get_or loose j no_row).slot u.there).0)

        same : (get_or loose j no_row).place ≡ x.free.free
        same = one_place (get_or loose k no_row).slot (get_or loose j no_row).place x.free.free (stored_at (get_or loose k no_row).slot ea) x.free.there
            (subst (λ F. variable_row q db (at F (get_or loose j no_row).place) ≡ variable_row q db (at (get_or loose k no_row).slot x.free.free)) ea er)

    beside : (k : ℕ) → k < length all → Stays (get_or loose k no_row).slot (variable_row q db (get_or loose k no_row))
    beside k l =
        let F = (get_or loose k no_row).slot in
        let f = (each k l).free in
        let y = variable_row q db (at F f.free) in
        (y, Contains-get_or (rows_of q (stored db) F) f.free [] f.there, f.shares, yes_of (dec_not (dec_out F y)) (free_stays k l))

    block : (F : ℕ) (x : List Value) → Contains (rows_of q (stored db) F) x → Stays F x
    block F x m = go (dec_out F x)
      where
        go : Dec (IsOut F x) → Stays F x
        go (no n) = (x, m, shares-self (atom_key q F) x, yes_of (dec_not (dec_out F x)) n)
        go (yes (k, l, (ea, er))) = subst (λ G. Stays G x) ea (subst (Stays (get_or loose k no_row).slot) er (beside k l))

    witness : (w : List (List Value)) → IsWitness q (stored db) row w → (F : ℕ) × (F < length q.atoms) × (stays F (row_at w F) ≡ false)
    witness w hw =
        let n = named w hw in
        let k = n.0 in
        let x = each k n.1.0 in
        let F = (get_or loose k no_row).slot in
        let is : variable_row q db (get_or loose k no_row) ≡ row_at w F = ap (λ p. variable_row q db (at F p)) (sym x.is) ∙ n.1.1 F x.there in
        (F, x.there, no_of (dec_not (dec_out F (row_at w F))) (λ f. f (k, n.1.0, (refl, is))))

    satisfied : Satisfies q (stored db) row stays
    satisfied = record { blocks = λ F l x m rel. block F x m; witnesses = witness }

  pub avoided : FitsDatabase q db → ((i : ℕ) → i < length all → IsAvoidable q db all (get_or all i [])) → IsCertain db q row → ⊥
  avoided fits avoid certain = go (choose no_row (length all) IsLooseOf (λ i l. loose_of i (avoid i l)))
    where
      go : ((loose : List Variable) × (length loose ≡ length all) × ((i : ℕ) → i < length all → IsLooseOf i (get_or loose i no_row))) → ⊥
      go (loose, size, each) = (databases.formula_is_exact db q row fits).0 certain (stays loose size each) (satisfied loose size each)
