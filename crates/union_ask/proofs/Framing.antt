-- The tables of a union are a frame for its parts.
use Rattle.std.proofs.Common.{◌≡◌, ℕ, ◌<◌, List, length, get_or, ap, sym, ◌∙◌, subst, Some, slice_get, Contains}
use Rattle.std.specs.Ordering.{nat_cmp}
use Rattle.std.proofs.lemmas.Cmp.{nat_cmp_total}
use Rattle.std.proofs.lemmas.List.Elements.{Contains-get_or}
use Rattle.std.proofs.lemmas.Option.{slice_get-get_or}
use Rattle.cqa_model.specs.declared.query.Query.{Query}
use Rattle.cqa_model.specs.Database.{Table}
use Rattle.join_access.proofs.Sorted.{one_sorted, one_place}
use Rattle.repair_back.specs.Flags.{AreTablesOf}
use Rattle.row_lists.specs.Formulas.{IsFrame}
use Rattle.part_search.specs.Parts.{AllFit, IsFrameFor}
use Rattle.union_ask.specs.Candidates.{AreTablesIn}

-- a union has one list of tables
pub one-tables : (parts : List Query) (a b : List ℕ) → AreTablesIn parts a → AreTablesIn parts b → a ≡ b
one-tables parts a b h k =
    one_sorted nat_cmp nat_cmp_total a b h.in_order k.in_order (λ t m. (k.exactly t).1 ((h.exactly t).0 m)) (λ t m. (h.exactly t).1 ((k.exactly t).0 m))

module _ (db : List Table) (parts : List Query) (fits : AllFit parts db) (tables : List ℕ) (are : AreTablesIn parts tables) where
  stands : (i : ℕ) → i < length tables → slice_get tables i ≡ Some (get_or tables i 0)
  stands i l = slice_get-get_or tables i 0 l

  there : (t : ℕ) → Contains tables t → t < length db
  there t m = let u = (are.exactly t).0 m in subst (λ n. n < length db) u.2.2 ((fits u.0 u.1).there u.2.0 u.2.1)

  apart : (i j : ℕ) → i < length tables → j < length tables → get_or tables i 0 ≡ get_or tables j 0 → i ≡ j
  apart i j li lj e = one_place nat_cmp nat_cmp_total tables i j (get_or tables i 0) are.in_order (stands i li) (stands j lj ∙ ap Some (sym e))

  pub are-frame : IsFrame db tables
  are-frame = record { there = λ s l. there (get_or tables s 0) (Contains-get_or tables s 0 l); apart = apart }

  pub are-tables : AreTablesOf db tables
  are-tables = record { there = there; apart = apart }

  pub frame-for : IsFrameFor db parts tables
  frame-for = record { is = are-frame; all = λ t s. (are.exactly t).1 s }
