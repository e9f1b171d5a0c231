-- The repair that a model of a row's formula gives holds no witness of the row for any part.
use Rattle.std.proofs.Common.{◌≡◌, ℕ, zero, suc, ◌<◌, ◌-◌, Bool, true, false, Some, List, [], get_or, slice_get, length, map, Contains, sym, ap, ◌∙◌, subst, arith}
use Rattle.std.proofs.lemmas.List.Elements.{Contains-get_or}
use Rattle.std.proofs.lemmas.Option.{slice_get-get_or, get_or_from_slice_get}
use Rattle.cqa_value.specs.declared.value.Value.{Value}
use Rattle.cqa_value.proofs.Words.{Contains-map, Contains-from_map, Contains-flat_map}
use Rattle.cqa_model.specs.declared.query.Query.{Query}
use Rattle.cqa_model.specs.declared.query.RowId.{RowId}
use Rattle.cqa_model.specs.Database.{Table, IsDatabase}
use Rattle.cqa_model.specs.Repairs.{SharesKey, IsRepair}
use Rattle.cqa_model.specs.Unions.{HoldsSome}
use Rattle.cnf_form.specs.Literals.{SatisfiesAll}
use Rattle.cdcl.specs.Outcomes.{assignment}
use Rattle.join_access.proofs.Naming.{stand-once}
use Rattle.table_blocks.specs.Tables.{rows_at, key_at, names_in, AreStored}
use Rattle.repair_back.specs.Results.{AreKeptOver, AreTablePicks}
use Rattle.repair_back.specs.Results as repairs
use Rattle.part_search.proofs.Mapped.{get-map, of-map, true-there}
use Rattle.row_lists.specs.declared.formula.Encoded.{Encoded}
use Rattle.row_lists.specs.Lists.{name, named, IsStored, IsOfBlock}
use Rattle.row_lists.specs.Clauses.{Variable}
use Rattle.row_lists.specs.Formulas.{name_in}
use Rattle.row_lists.specs.Picks.{IsTrueName, AreTruePicks}
use Rattle.row_lists.proofs.Formulas.{lists_decide, picks_reject_lists}
use Rattle.row_lists.proofs.Rows.{numbered}
use Rattle.union_ask.specs.Encodings.{IsEncodedIn}
use Rattle.union_ask.specs.Laws.{UnionModelRejects, UnionsDecide}
use Rattle.part_search.proofs.Forced.{whole, certain_is_forced}
use Rattle.part_search.proofs.Framing.{lists-within, lists-stored}
use Rattle.union_ask.proofs.Framing.{one-tables, are-frame, frame-for}

module _ (tables : List ℕ) (variables : List Variable) (rows : List RowId) (model : List Bool) (is : rows ≡ map (name_in tables) variables) where
  -- a name is listed with true exactly where its variable is true
  listed-true : (id : RowId) → repairs.IsTrueName rows model id → IsTrueName tables variables (assignment model) id
  listed-true id (k, nk, mk) =
      let x = of-map (name_in tables) variables k id (subst (λ ns. slice_get ns k ≡ Some id) is nk) in
      (suc k, (x.0, x.1, x.2), subst (λ n. get_or model n false ≡ true) (let z : k ≡ suc k - 1 = omega arith in z) (get_or_from_slice_get model k true false mk))

  true-listed : (id : RowId) → IsTrueName tables variables (assignment model) id → repairs.IsTrueName rows model id
  true-listed id (zero, (x, hn, e), vn) = absurd hn
  true-listed id (suc k, (x, hn, e), vn) = (
    k,
    subst (λ ns. slice_get ns k ≡ Some id) (sym is) (get-map (name_in tables) variables k x hn ∙ ap Some e),
    true-there model k (subst (λ n. get_or model n false ≡ true) (let z : suc k - 1 ≡ k = omega arith in z) vn),
  )

  module _ (db : List Table) (d : IsDatabase db) (within : (x : Variable) → Contains variables x → x.slot < length tables) (names : List RowId) (kept : List (List (List Value)))
      (repair : IsRepair db kept) (k : AreKeptOver db tables names kept) (picks : AreTablePicks db tables rows model names) where
    -- a kept row of a block that has a true one is true
    prefers-at : (t i j : ℕ) → Contains tables t → i < length (rows_at db t) → j < length (rows_at db t) → SharesKey (key_at db t) (get_or (rows_at db t) i []) (get_or (rows_at db t) j []) →
        IsTrueName tables variables (assignment model) (name t j) → Contains (get_or kept t []) (get_or (rows_at db t) i []) → IsTrueName tables variables (assignment model) (name t i)
    prefers-at t i j mt li lj s b m =
        let p = Contains-from_map (λ at. get_or (rows_at db t) at []) (k.places t) (get_or (rows_at db t) i []) (subst (λ xs. Contains xs (get_or (rows_at db t) i [])) (k.rows t mt) m) in
        let same : p.0 ≡ i = stand-once db d t p.0 i (get_or (rows_at db t) i []) (slice_get-get_or (rows_at db t) p.0 [] (k.there t mt p.0 p.1) ∙ ap Some p.2) (slice_get-get_or (rows_at db t) i [] li) in
        let named : Contains names (name t p.0) = subst (λ ns. Contains ns (name t p.0)) (sym k.are)
        (Contains-flat_map (λ u. names_in u (k.places u)) tables t (name t p.0) mt (Contains-map (λ at. name t at) (k.places t) p.0 p.1)) in
        let pick = picks t mt i (subst (λ at. Contains names (name t at)) same named) in
        listed-true (name t i) (pick.best j lj s (true-listed (name t j) b))

    true-picks : AreTruePicks db tables variables (assignment model) kept
    true-picks = record { repair = repair; prefers = prefers }
      where
        prefers : (m n : RowId) → IsStored db m → IsStored db n → IsOfBlock db m n → IsTrueName tables variables (assignment model) n → Contains (get_or kept m.table []) (named db m) → IsTrueName tables variables (assignment model) m
        prefers m n sm sn b t km =
            let x : Variable = t.1.0 in
            let slot = within x (numbered variables t.0 x t.1.1) in
            let in_tables : Contains tables m.table = subst (Contains tables) (ap (λ (id : RowId). id.table) t.1.2 ∙ sym b.0) (Contains-get_or tables x.slot 0 slot) in
            prefers-at m.table m.place n.place in_tables sm.1 (subst (λ u. n.place < length (rows_at db u)) (sym b.0) sn.1)
            (subst (λ u. SharesKey (key_at db m.table) (named db m) (get_or (rows_at db u) n.place [])) (sym b.0) b.1)
            (subst (λ u. IsTrueName tables variables (assignment model) (name u n.place)) (sym b.0) t) km

pub names-stored : (db : List Table) (parts : List Query) (row : List Value) (e : Encoded) → IsEncodedIn db parts row e → AreStored db e.rows
names-stored db parts row e h id m =
    let f = h.encoded.formula in
    let x = Contains-from_map (name_in h.tables) f.variables id (subst (λ ns. Contains ns id) h.encoded.rows m) in
    subst (IsStored db) x.2 ((h.encoded.is.variables.exactly x.0).0 x.1).1.0

pub union_model_rejects : UnionModelRejects
union_model_rejects db parts row e model names d fits h m repaired picks = record { repair = repaired; holds_none = none }
  where
    same : h.tables ≡ repaired.tables
    same = one-tables parts h.tables repaired.tables h.are_tables repaired.are_tables

    none : HoldsSome parts repaired.kept row → ⊥
    none (q, mq, (w, hw)) =
        let list = whole db parts row h.lists fits h.are_lists q mq repaired.kept repaired.repair w hw in
        picks_reject_lists db h.tables h.lists h.encoded.formula (assignment model) repaired.kept (are-frame db parts fits h.tables h.are_tables)
        (lists-within db parts h.tables (frame-for db parts fits h.tables h.are_tables) row h.lists h.are_lists) (lists-stored db parts h.tables (frame-for db parts fits h.tables h.are_tables) row h.lists h.are_lists)
        h.encoded.is (subst (SatisfiesAll (assignment model)) h.encoded.are m.1)
        (true-picks h.tables h.encoded.formula.variables e.rows model h.encoded.rows db d (λ x c. ((h.encoded.is.variables.exactly x).0 c).0) names repaired.kept repaired.repair
        (subst (λ ts. AreKeptOver db ts names repaired.kept) (sym same) repaired.are_kept) (λ t mt. picks t ((h.are_tables.exactly t).0 mt)))
        list.0 list.1 list.2

-- a row is certain exactly where its formula has no model
pub unions_decide : UnionsDecide
unions_decide db parts row e d fits h =
    let frame = are-frame db parts fits h.tables h.are_tables in
    let within = lists-within db parts h.tables (frame-for db parts fits h.tables h.are_tables) row h.lists h.are_lists in
    let stored = lists-stored db parts h.tables (frame-for db parts fits h.tables h.are_tables) row h.lists h.are_lists in
    let forced = certain_is_forced db parts row h.lists fits h.are_lists in
    let decided = lists_decide db h.tables h.lists h.encoded.formula d frame within stored h.encoded.is in (
      λ certain v s. decided.0 (forced.0 certain) v (subst (SatisfiesAll v) h.encoded.are s),
      λ none. forced.1 (decided.1 (λ v s. none v (subst (SatisfiesAll v) (sym h.encoded.are) s))),
    )
