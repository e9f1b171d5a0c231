-- The names of the witnesses of parts, and what is certain by them.
use Rattle.std.proofs.Common.{ℕ, ◌<◌, inl, inr, List, [], ◌∷◌, length, get_or, map, sym, subst, Contains}
use Rattle.std.proofs.lemmas.List.Elements.{Contains-append_left, Contains-append_right, Contains-append_cases}
use Rattle.cqa_value.specs.declared.value.Value.{Value}
use Rattle.cqa_value.proofs.Words.{Contains-slice_get}
use Rattle.cqa_model.specs.declared.query.Query.{Query}
use Rattle.cqa_model.specs.declared.query.RowId.{RowId}
use Rattle.cqa_model.specs.Database.{Table, stored, keys_of}
use Rattle.cqa_model.specs.Repairs.{IsRepair}
use Rattle.cqa_model.specs.Query.{atom_at, rows_of, row_at, IsWitness}
use Rattle.cqa_model.specs.Unions.{HoldsSome, IsCertainIn}
use Rattle.cqa_model.proofs.Classic.{mem-head, mem-tail, mem-nil, mem-cases}
use Rattle.cqa_model.proofs.Fitting.{fits_tables}
use Rattle.cqa_model.proofs.Witnesses.{witness-stored}
use Rattle.join_access.specs.Witnesses.{AreNamedRows}
use Rattle.join_access.specs.Listing.{AreNamesOf}
use Rattle.row_lists.specs.Lists.{named, KeepsAll, IsForced}
use Rattle.row_lists.specs.Classes.{AreClosed}
use Rattle.row_lists.proofs.Making.{named-each, witness-names}
use Rattle.part_search.specs.Parts.{AllFit, AreNamesIn, IsOfSome, HaveSpoken}
use Rattle.part_search.specs.Laws.{NamesOfParts, CertainIsForced, ClosedByParts}
use Rattle.part_search.proofs.Alike.{alike_witness}
use Rattle.row_lists.proofs.Naming.{named-id, named-at, renamed, alike-at, zip-long}

pub names_of_parts : NamesOfParts
names_of_parts db [] row all e names = (λ m. absurd (mem-nil names (subst (λ ls. Contains ls names) e m)), λ h. absurd (mem-nil h.0 h.1))
names_of_parts db (q ∷ parts) row all (first, rest, h, k, e) names = (to (names_of_parts db parts row rest k names).0, from (names_of_parts db parts row rest k names).1)
  where
    to : (Contains rest names → IsOfSome parts db row names) → Contains all names → IsOfSome (q ∷ parts) db row names
    to ih m = elim (Contains-append_cases first rest names (subst (λ ls. Contains ls names) e m)) [
      | inl n ↦ (q, mem-head q parts, (h.exactly names).0 n)
      | inr n ↦ (let o = ih n in (o.0, mem-tail o.0 q parts o.1, o.2))
    ]

    from : (IsOfSome parts db row names → Contains rest names) → IsOfSome (q ∷ parts) db row names → Contains all names
    from ih (p, mp, n) = subst (λ ls. Contains ls names) (sym e) (elim (mem-cases p q parts mp) [
      | inl same ↦ Contains-append_left first rest names ((h.exactly names).1 (subst (λ z. AreNamesOf z db row names) (sym same) n))
      | inr later ↦ Contains-append_right first rest names (ih (p, later, n))
    ])

module _ (db : List Table) (parts : List Query) (row : List Value) (all : List (List RowId)) (fits : AllFit parts db) (h : AreNamesIn parts db row all) where
  -- a witness in a repair is one of the lists, kept whole
  pub whole : (q : Query) → Contains parts q → (kept : List (List (List Value))) → IsRepair db kept → (w : List (List Value)) → IsWitness q kept row w →
      (names : List RowId) × Contains all names × KeepsAll db kept names
  whole q mq kept hr w hw = (n.0, (names_of_parts db parts row all h n.0).1 (q, mq, (w, ws, n.1)), keeps)
    where
      ws : IsWitness q (stored db) row w
      ws = witness-stored q (keys_of db) (stored db) (fits_tables q db (fits q mq)) row kept hr w hw

      n : (names : List RowId) × AreNamedRows db q.atoms names w
      n = witness-names q db row w ws

      keeps : (id : RowId) → Contains n.0 id → Contains (get_or kept id.table []) (named db id)
      keeps id m =
          let k = named-id db q.atoms n.0 w n.1 id m in
          subst (λ x. Contains (get_or kept id.table []) x) (sym k.3) (subst (λ t. Contains (get_or kept t []) (row_at w k.0)) (sym k.2) (hw.kept k.0 k.1))

  forced : IsCertainIn db parts row → IsForced db all
  forced certain kept hr = let c = certain kept hr in whole c.0 c.1 kept hr c.2.0 c.2.1

  certain : IsForced db all → IsCertainIn db parts row
  certain forced kept hr = of_list (forced kept hr)
    where
      of_list : ((names : List RowId) × Contains all names × KeepsAll db kept names) → HoldsSome parts kept row
      of_list (names, m, keeps) = of_part ((names_of_parts db parts row all h names).0 m)
        where
          of_part : IsOfSome parts db row names → HoldsSome parts kept row
          of_part (q, mq, (w, ws, n)) = (q, mq, (w, record { size = ws.size; kept = in_kept; holds = ws.holds; answers = ws.answers }))
            where
              in_kept : (F : ℕ) → F < length q.atoms → Contains (rows_of q kept F) (row_at w F)
              in_kept F l =
                  let k = named-at db q.atoms names w n F l in
                  subst (λ t. Contains (get_or kept t []) (row_at w F)) k.2 (subst (λ x. Contains (get_or kept k.0.table []) x) k.3 (keeps k.0 k.1))

  closed : (columns : ℕ → List ℕ) → HaveSpoken parts columns → AreClosed db columns all
  closed columns spoken names others m z = of_part ((names_of_parts db parts row all h names).0 m)
    where
      of_part : IsOfSome parts db row names → (found : List RowId) × Contains all found × ((id : RowId) → Contains found id → Contains others id)
      of_part (q, mq, (w, ws, n)) =
          (others, (names_of_parts db parts row all h others).1 (q, mq, (u, hu, nu)), λ id i. i)
        where
          u : List (List Value)
          u = map (named db) others

          nu : AreNamedRows db q.atoms others u
          nu = renamed db columns q.atoms names others w n z

          hu : IsWitness q (stored db) row u
          hu = alike_witness q (stored db) row w u ws (zip-long db columns q.atoms names others w n z)
              (λ F l. Contains-slice_get (rows_of q (stored db) F) (get_or _ F 0) (row_at u F) (named-each db q.atoms others u nu F l))
              (λ F l c s e. alike-at db columns q.atoms names others w n z F l c.col
              (subst (λ G. Contains (columns (atom_at q G).table) c.col) e (spoken q mq c s (subst (λ G. G < length q.atoms) (sym e) l))))

pub certain_is_forced : CertainIsForced
certain_is_forced db parts row all fits h = (forced db parts row all fits h, certain db parts row all fits h)

pub closed_by_parts : ClosedByParts
closed_by_parts db parts row all columns fits spoken h = closed db parts row all fits h columns spoken
