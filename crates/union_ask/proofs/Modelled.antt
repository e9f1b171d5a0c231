-- The repair that a model of a row's formula gives holds no witness of the row.
use Rattle.std.proofs.Common.{◌≡◌, ◌<◌, ◌-◌, ℕ, zero, suc, Bool, true, false, Some, List, [], length, get_or, slice_get, Contains, sym, ap, ◌∙◌, subst, arith}
use Rattle.std.proofs.lemmas.List.{length-map}
use Rattle.std.proofs.lemmas.List.Elements.{Contains-get_or}
use Rattle.std.proofs.lemmas.Option.{get_or_from_slice_get}
use Rattle.cqa_value.specs.declared.value.Value.{Value}
use Rattle.cqa_value.proofs.Words.{Contains-map, Contains-from_map, Contains-flat_map, Contains-slice_get}
use Rattle.cqa_model.specs.declared.query.Query.{Query}
use Rattle.cqa_model.specs.declared.query.RowId.{RowId}
use Rattle.cqa_model.specs.Database.{Table, stored}
use Rattle.cqa_model.specs.Repairs.{IsRepair, IsTableRepair}
use Rattle.cqa_model.specs.Blocks.{IsPick}
use Rattle.cqa_model.specs.Query.{atom_at, atom_key, rows_of, FitsDatabase}
use Rattle.cnf_form.specs.Literals.{SatisfiesAll}
use Rattle.cdcl.specs.Outcomes.{assignment, IsModel}
use Rattle.row_lists.specs.declared.formula.Encoded.{Encoded}
use Rattle.row_lists.specs.Clauses.{Variable}
use Rattle.repair_clauses.specs.Clauses.{IsStoredVariable, variable_name}
use Rattle.repair_clauses.specs.Encodings.{IsEncoded}
use Rattle.repair_clauses.specs.Models.{IsTrueVariable, IsPicked}
use Rattle.repair_clauses.proofs.Models.{models_reject}
use Rattle.part_search.proofs.Mapped.{get-map, of-map, true-there}
use Rattle.repair_back.specs.Results.{AreKept, IsTrueName, ArePicks, Rejects}
use Rattle.table_blocks.specs.Tables.{AreStored, names_in}

same-variable : (x : Variable) (F i : ℕ) → x.slot ≡ F → x.place ≡ i → ◌≡◌ {A = Variable} x (record { slot = F; place = i })
same-variable x F i a p = λ j. record { slot = a j; place = p j }

module _ (q : Query) (db : List Table) (row : List Value) (e : Encoded) (model : List Bool) (h : IsEncoded q db row e) (m : IsModel e.cnf model) (fits : FitsDatabase q db) where
  variable-stored : (x : Variable) → Contains h.formula.variables x → IsStoredVariable q db x
  variable-stored x c = ((h.is.variables.exactly x).0 c).0

  pub names-stored : AreStored db e.rows
  names-stored name c =
      let x = Contains-from_map (variable_name q) h.formula.variables name (subst (λ ns. Contains ns name) h.rows c) in
      let s = variable-stored x.0 x.1 in
      (subst (λ (n : RowId). n.table < length db) x.2 (fits.there x.0.slot s.0), subst (λ (n : RowId). n.place < length (get_or (stored db) n.table [])) x.2 s.1)

  abbrev name_at : ℕ → ℕ → RowId
  name_at F i = record { table = (atom_at q F).table; place = i }

  -- a name is listed with true exactly where its variable is true
  listed-true : (F i : ℕ) → F < length q.atoms → IsTrueName e.rows model (name_at F i) → IsTrueVariable h.formula.variables (assignment model) (record { slot = F; place = i })
  listed-true F i l (k, nk, mk) =
      let x = of-map (variable_name q) h.formula.variables k (name_at F i) (subst (λ ns. slice_get ns k ≡ Some (name_at F i)) h.rows nk) in
      let s = variable-stored x.0 (Contains-slice_get h.formula.variables k x.0 x.1) in
      let atom : x.0.slot ≡ F = q.kept.apart x.0.slot F s.0 l (ap (λ (n : RowId). n.table) x.2) in
      let same = same-variable x.0 F i atom (ap (λ (n : RowId). n.place) x.2) in
      (suc k, x.1 ∙ ap Some same, subst (λ n. get_or model n false ≡ true) (let z : k ≡ suc k - 1 = omega arith in z) (get_or_from_slice_get model k true false mk))

  true-listed : (F i : ℕ) → IsTrueVariable h.formula.variables (assignment model) (record { slot = F; place = i }) → IsTrueName e.rows model (name_at F i)
  true-listed F i (zero, hn, vn) = absurd hn
  true-listed F i (suc k, hn, vn) = (
    k,
    subst (λ ns. slice_get ns k ≡ Some (name_at F i)) (sym h.rows) (get-map (variable_name q) h.formula.variables k (record { slot = F; place = i }) hn),
    true-there model k (subst (λ n. get_or model n false ≡ true) (let z : suc k - 1 ≡ k = omega arith in z) vn),
  )

  pick-of : (F at : ℕ) → F < length q.atoms → IsPick (atom_key q F) (rows_of q (stored db) F) (λ i. IsTrueName e.rows model (name_at F i)) at →
      IsPick (atom_key q F) (rows_of q (stored db) F) (λ i. IsTrueVariable h.formula.variables (assignment model) (record { slot = F; place = i })) at
  pick-of F at l p = record {
    there = p.there;
    best = λ i li s t. listed-true F at l (p.best i li s (true-listed F i t));
    first = λ i li s. let r = p.first i li s in (listed-true F at l r.0, λ t. r.1 (true-listed F i t));
  }

  module _ (names : List RowId) (kept : List (List (List Value))) (r : IsRepair db kept) (k : AreKept q db names kept) (picks : ArePicks q db e.rows model names) where
    picked : (F : ℕ) → F < length q.atoms → IsPicked q db h.formula.variables (assignment model) F (rows_of q kept F)
    picked F l =
        let t = (atom_at q F).table in
        let there : t < length (stored db) = subst (λ n. t < n) (sym (length-map db (λ table. table.rows))) (fits.there F l) in
        record {
          repair = subst (λ key. IsTableRepair key (rows_of q (stored db) F) (rows_of q kept F)) (sym (fits.keyed F l)) (r.each t there);
          picks = λ x mx.
              let p = Contains-from_map (λ at. get_or (rows_of q (stored db) F) at []) (k.places t) x (subst (λ xs. Contains xs x) (k.rows F l) mx) in
              let named : Contains names (name_at F p.0) = subst (λ ns. Contains ns (name_at F p.0)) (sym k.are)
              (Contains-flat_map (λ atom. names_in atom.table (k.places atom.table)) q.atoms (atom_at q F) (name_at F p.0) (Contains-get_or q.atoms F (record { table = 0; width = 0; key = []; strict = false }) l) (Contains-map (λ at. record { table = t; place = at }) (k.places t) p.0 p.1)) in
              (p.0, p.2, pick-of F p.0 l (picks F l p.0 named));
        }

    pub model-rejects : Rejects q db row names
    model-rejects = (kept, r, k, λ w is. models_reject db q row h.formula (assignment model) kept fits h.is (subst (SatisfiesAll (assignment model)) h.are m.1) r picked w is)
