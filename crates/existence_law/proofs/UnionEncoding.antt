-- The formula of a row for a union: that of the lists of its witnesses over the tables of the parts.
use Rattle.std.proofs.Common.{◌≡◌, ℕ, List, length, map, flat_map, refl, subst, arith, Contains}
use Rattle.std.specs.List.{range_with_len}
use Rattle.std.specs.Ordering.{nat_cmp}
use Rattle.std.proofs.lemmas.Cmp.{nat_cmp_total}
use native.Mathlib.Decide.{ℕ_discrete}
use Rattle.cqa_value.proofs.Words.{dec_one_below, Contains-map, Contains-flat_map, Contains-range}
use Rattle.cqa_model.specs.declared.query.Query.{Query}
use Rattle.cqa_model.specs.declared.query.RowId.{RowId}
use Rattle.cqa_model.specs.Query.{atom_at}
use Rattle.cqa_model.proofs.Classic.{dec_some}
use Rattle.cnf_form.specs.Literals.{AreVarsInRange}
use Rattle.existence_law.proofs.Encoding.{as_clauses, same_literals}
use Rattle.join_witness.proofs.Sorting.{decided_list}
use Rattle.part_search.specs.Parts.{AreNamesIn, IsTableOf, IsTableIn}
use Rattle.row_lists.specs.declared.formula.Encoded.{Encoded}
use Rattle.row_lists.specs.Clauses.{Formula, clauses}
use Rattle.row_lists.specs.Formulas.{name_in, IsFormulaOf}
use Rattle.row_lists.proofs.Formulas.{list_clauses_rise}
use Rattle.row_lists.proofs.Order.{from_equal}
use Rattle.union_ask.specs.Candidates.{AreTablesIn}
use Rattle.union_ask.specs.Encodings.{IsEncodedIn}
use Rattle.existence_law.specs.UnionFormulas.{UnionFormulasExist}
use Rattle.existence_law.proofs.UnionAnswering.{names_in_parts}
use Rattle.existence_law.proofs.Numbering.{list_formula}

-- ---- the tables of the parts

module _ (parts : List Query) where
  abbrev tables_of : Query → List ℕ
  tables_of q = map (λ F. (atom_at q F).table) (range_with_len 0 (length q.atoms))

  dec_table_in : (t : ℕ) → Dec (IsTableIn parts t)
  dec_table_in t = dec_some (λ q. IsTableOf q t) (λ q. dec_one_below (λ F. (atom_at q F).table ≡ t) (λ F. ℕ_discrete (atom_at q F).table t) (length q.atoms)) parts

  table_given : (t : ℕ) → IsTableIn parts t → Contains (flat_map tables_of parts) t
  table_given t (q, m, (F, l, e)) = Contains-flat_map tables_of parts q t m
      (subst (Contains (tables_of q)) e (Contains-map (λ G. (atom_at q G).table) (range_with_len 0 (length q.atoms)) F (Contains-range 0 (length q.atoms) F (omega arith) (omega (arith, l)))))

  pub tables_in : (tables : List ℕ) × AreTablesIn parts tables
  tables_in =
      let l = decided_list nat_cmp nat_cmp_total (IsTableIn parts) dec_table_in (λ x y h k e. from_equal x y e) (flat_map tables_of parts) table_given in
      (l.0, record { in_order = l.1.0; exactly = l.1.1 })

-- ---- the formula

pub union_formulas_exist : UnionFormulasExist
union_formulas_exist db parts row = make (tables_in parts) (names_in_parts db row parts)
  where
    make : (tables : List ℕ) × AreTablesIn parts tables → (lists : List (List RowId)) × AreNamesIn parts db row lists → (e : Encoded) × (IsEncodedIn db parts row e × AreVarsInRange e.cnf)
    make (tables, are) (lists, named) = of_formula (list_formula db tables lists)
      where
        of_formula : (f : Formula) × IsFormulaOf db tables lists f → (e : Encoded) × (IsEncodedIn db parts row e × AreVarsInRange e.cnf)
        of_formula (f, h) = (
          record { cnf = record { vars = length f.variables; clauses = as_clauses (clauses f) }; rows = map (name_in tables) f.variables },
          (
            record {
              tables = tables;
              are_tables = are;
              lists = lists;
              are_lists = named;
              encoded = record { formula = f; is = h; vars = refl; are = same_literals (clauses f); rows = refl };
            },
            λ c m l k.
                let r = list_clauses_rise db tables lists f h c (subst (λ cs. Contains cs c) (same_literals (clauses f)) m) in
                let b = r.in_range l k in
                let low = b.0 in
                let high = b.1 in
                (low, omega (arith, high)),
          ),
        )
