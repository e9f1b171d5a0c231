-- A row is certain exactly where the group of its witnesses is, as told.
use Rattle.std.proofs.Common.{◌↔◌, ◌<◌, inl, inr, List, [], ◌∷◌, ◌++◌, length, Option, refl, sym, subst}
use Rattle.cqa_value.specs.declared.value.Value.{Value}
use Rattle.cqa_value.proofs.Words.{mem-cases, mem-head, mem-nil}
use Rattle.cqa_model.specs.declared.query.Query.{Query}
use Rattle.cqa_model.specs.declared.query.RowId.{RowId}
use Rattle.cqa_model.specs.Database.{Table}
use Rattle.cqa_model.specs.Query.{FitsDatabase, IsWitness}
use Rattle.cqa_model.specs.Certain.{IsCertain}
use Rattle.cqa_model.specs.Unions.{HoldsSome, IsCertainIn}
use Rattle.row_lists.specs.Lists.{AreStoredLists}
use Rattle.row_lists.proofs.Naming.{named-place}
use Rattle.join_witness.proofs.Listing.{all_names}
use Rattle.part_search.specs.Parts.{AllFit, AreNamesIn}
use Rattle.part_search.proofs.Forced.{certain_is_forced, names_of_parts}
use Rattle.block_choices.specs.declared.row.BlockRow.{BlockRow}
use Rattle.block_lists.specs.declared.judging.Judged.TheVariants.{Certain, Open, Spent}
use Rattle.told_lists.specs.Telling.{AreListsTold, AreWitnessesTold}
use Rattle.told_lists.specs.Laws.{JudgedIsCertain, JudgedIsCertainIn, VerdictsHold}
use Rattle.told_lists.proofs.Told.{told_decide}

-- all witnesses of a row have names
names_in_parts : (db : List Table) (row : List Value) (parts : List Query) → (all : List (List RowId)) × AreNamesIn parts db row all
names_in_parts db row [] = ([], refl)
names_in_parts db row (q ∷ parts) = let first = all_names db q row in let rest = names_in_parts db row parts in (first.0 ++ rest.0, (first.0, rest.0, first.1, rest.1, refl))

module _ (db : List Table) (parts : List Query) (row : List Value) (fits : AllFit parts db) (all : List (List RowId)) (h : AreNamesIn parts db row all) where
  is-stored : AreStoredLists db all
  is-stored id (names, m, i) =
      let s = (names_of_parts db parts row all h names).0 m in
      let p = named-place db s.0.atoms names s.2.0 s.2.2 id i in
      (subst (λ n. n < length db) (sym p.2) ((fits s.0 s.1).there p.0 p.1), p.3)

  are-told : (told : RowId → Option BlockRow) (lists : List (List BlockRow)) → AreWitnessesTold db parts row told lists → AreListsTold db told all lists
  are-told told lists w = record {
    clean = λ id i. w.clean i.0 ((names_of_parts db parts row all h i.0).0 i.1) id i.2;
    each = λ names m. w.each names ((names_of_parts db parts row all h names).0 m);
    only = λ rows m. let p = w.only rows m in (p.0, (names_of_parts db parts row all h p.0).1 p.1, p.2);
  }

pub judged_is_certain_in : JudgedIsCertainIn
judged_is_certain_in db parts row sizes told lists d fits t w =
    let n = names_in_parts db row parts in
    let c = certain_is_forced db parts row n.0 fits n.1 in
    let f = told_decide db sizes told n.0 lists d (is-stored db parts row fits n.0 n.1) t (are-told db parts row fits n.0 n.1 told lists w) in
    (λ k. f.0 (c.0 k), λ k. c.1 (f.1 k))

-- a query is a union of one part
one-part : (db : List Table) (q : Query) (row : List Value) → IsCertain db q row ↔ IsCertainIn db (q ∷ []) row
one-part db q row = (λ c kept r. (q, mem-head q [], c kept r), λ c kept r. of_part kept (c kept r))
  where
    of_part : (kept : List (List (List Value))) → HoldsSome (q ∷ []) kept row → (w : List (List Value)) × IsWitness q kept row w
    of_part kept (p, m, w) = elim (mem-cases p q [] m) [
      | inl e ↦ subst (λ (z : Query). (w : List (List Value)) × IsWitness z kept row w) (sym {A = Query} e) w
      | inr n ↦ absurd (mem-nil p n)
    ]

pub judged_is_certain : JudgedIsCertain
judged_is_certain db q row sizes told lists d fits t w =
    let one = one-part db q row in
    let f = judged_is_certain_in db (q ∷ []) row sizes told lists d (λ p m. elim (mem-cases p q [] m) [ inl e ↦ subst (λ (z : Query). FitsDatabase z db) e fits | inr n ↦ absurd (mem-nil p n) ]) t w in
    (λ c. f.0 (one.0 c), λ k. one.1 (f.1 k))

pub verdicts_hold : VerdictsHold
verdicts_hold db parts row sizes told lists budget choice Certain d fits t w j = (judged_is_certain_in db parts row sizes told lists d fits t w).1 j
verdicts_hold db parts row sizes told lists budget choice Open d fits t w j = λ c. j.avoids ((judged_is_certain_in db parts row sizes told lists d fits t w).0 c choice j.choice)
verdicts_hold db parts row sizes told lists budget choice Spent d fits t w j = tt
