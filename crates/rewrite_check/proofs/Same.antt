-- The queries of a select over two databases whose tables have the same schemas.
use Rattle.std.proofs.Common.{◌≡◌, inl, inr, ℕ, zero, suc, true, false, is_some, List, [], ◌∷◌, length, get_or, map, slice_get, Option, Some, None, refl, ap, sym, ◌∙◌, arith}
use mathlib.Core.HLevel.{is_prop→PathP}
use Rattle.std.proofs.Props.{props}
use Rattle.std.specs.List.{AllZip}
use Rattle.std.specs.Option.{option_map, option_map_or}
use Rattle.std.proofs.lemmas.Option.{slice_get_cases, same_Some}
use Rattle.cqa_model.specs.declared.schema.Schema.{Schema}
use Rattle.cqa_model.specs.declared.schema.Column.{Column}
use Rattle.cqa_model.specs.declared.query.Atom.{Atom}
use Rattle.cqa_model.specs.declared.query.ColRef.{ColRef}
use Rattle.cqa_model.specs.declared.query.Cond.{Cond}
use Rattle.cqa_model.specs.declared.query.Cond.TheVariants.{Join, Test}
use Rattle.cqa_model.specs.Database.{Table}
use Rattle.cqa_model.specs.Shape.{IsQuery, nth_atom}
use Rattle.cqa_value.proofs.Words.{mem-head, mem-tail}
use Rattle.cqa_model.proofs.Places.{map-at}
use Rattle.spj_syntax.specs.declared.tree.RawCol.{RawCol}
use Rattle.spj_syntax.specs.declared.tree.RawCond.{RawCond}
use Rattle.spj_syntax.specs.declared.tree.RawCond.TheVariants.{Join as WrittenJoin, Test as WrittenTest}
use Rattle.table_blocks.specs.Tables.{table_named, key_at, mark_at}
use Rattle.query_resolve.specs.Names.{column_named, has_column, columns_at, columns_named, scope, atom_columns}
use Rattle.query_resolve.specs.Resolved.{IsAtomOf, IsAtomFor, IsColumnOf, IsCondOf}
use Rattle.query_resolve.proofs.Scopes.{columns-found, table_there}
use Rattle.rewrite_check.specs.Queries.{named_schema, SameSchemas, SameQueries, QueryOnce}

-- what a schema tells is the same at both places
module _ (own db : List Table) (name : List ℕ) (same : named_schema own name ≡ named_schema db name) (s t : ℕ) (fs : table_named own name ≡ Some s) (ft : table_named db name ≡ Some t) where
  schemas : option_map (λ (x : Table). x.schema) (slice_get own s) ≡ option_map (λ (x : Table). x.schema) (slice_get db t)
  schemas =
      sym (ap (λ o. option_map_or (λ at. option_map (λ (x : Table). x.schema) (slice_get own at)) o None) fs)
      ∙ same ∙ ap (λ o. option_map_or (λ at. option_map (λ (x : Table). x.schema) (slice_get db at)) o None) ft

  told : {B : Type 0} (f : Schema → B) (d : B) → get_or (map (λ (x : Table). f x.schema) own) s d ≡ get_or (map (λ (x : Table). f x.schema) db) t d
  told f d = elim (slice_get_cases own s).1 [
    | inl a ↦ elim (slice_get_cases db t).1 [
      | inl b ↦
          let e : a.0.schema ≡ b.0.schema = same_Some a.0.schema b.0.schema (sym (ap (λ o. option_map (λ (x : Table). x.schema) o) a.2) ∙ schemas ∙ ap (λ o. option_map (λ (x : Table). x.schema) o) b.2) in
          map-at (λ (x : Table). f x.schema) own s a.0 d a.2 ∙ ap f e ∙ sym (map-at (λ (x : Table). f x.schema) db t b.0 d b.2)
      | inr n ↦ absurd (omega (arith, n.0, table_there db name t ft))
    ]
    | inr n ↦ absurd (omega (arith, n.0, table_there own name s fs))
  ]

-- two atoms differ in the places of their tables alone
record SameAtom (a b : Atom) : Type 0 where
  width : b.width ≡ a.width
  key : b.key ≡ a.key
  mark : b.strict ≡ a.strict

module _ (own db : List Table) where
  atom_same : (name : List ℕ) → named_schema own name ≡ named_schema db name → (a b : Atom) → IsAtomOf own name a → IsAtomOf db name b → SameAtom a b
  atom_same name same a b ia ib = record {
    width = ib.width ∙ ap length (sym (told own db name same a.table b.table ia.table ib.table (λ schema. schema.columns) [])) ∙ sym ia.width;
    key = ib.key ∙ sym (told own db name same a.table b.table ia.table ib.table (λ schema. schema.key) []) ∙ sym ia.key;
    mark = ib.mark ∙ sym (told own db name same a.table b.table ia.table ib.table (λ schema. schema.strict) false) ∙ sym ia.mark;
  }

  atoms_same : (names : List (List ℕ)) → SameSchemas names own db → (us bs : List Atom) → AllZip (IsAtomOf own) names us → AllZip (IsAtomOf db) names bs →
      (length bs ≡ length us) × ((F : ℕ) → SameAtom (nth_atom us F) (nth_atom bs F))
  atoms_same [] same [] [] h k = (refl, λ F. record { width = refl; key = refl; mark = refl })
  atoms_same [] same [] (b ∷ bs) h k = absurd k
  atoms_same [] same (a ∷ us) bs h k = absurd h
  atoms_same (n ∷ names) same [] bs h k = absurd h
  atoms_same (n ∷ names) same (a ∷ us) [] h k = absurd k
  atoms_same (n ∷ names) same (a ∷ us) (b ∷ bs) h k =
      let more = atoms_same names (λ m i. same m (mem-tail m n names i)) us bs h.1 k.1 in
      (ap suc more.0, λ F. at F more.1)
    where
      at : (F : ℕ) → ((G : ℕ) → SameAtom (nth_atom us G) (nth_atom bs G)) → SameAtom (nth_atom (a ∷ us) F) (nth_atom (b ∷ bs) F)
      at zero next = atom_same n (same n (mem-head n names)) a b h.0 k.0
      at (suc F) next = next F

  scope_same : (names : List (List ℕ)) → SameSchemas names own db → (us bs : List Atom) → AllZip (IsAtomOf own) names us → AllZip (IsAtomOf db) names bs → scope own names ≡ scope db names
  scope_same [] same [] [] h k = refl
  scope_same [] same [] (b ∷ bs) h k = absurd k
  scope_same [] same (a ∷ us) bs h k = absurd h
  scope_same (n ∷ names) same [] bs h k = absurd h
  scope_same (n ∷ names) same (a ∷ us) [] h k = absurd k
  scope_same (n ∷ names) same (a ∷ us) (b ∷ bs) h k =
      let e : columns_named own n ≡ columns_named db n =
      columns-found own n a.table h.0.table ∙ told own db n (same n (mem-head n names)) a.table b.table h.0.table k.0.table (λ schema. schema.columns) [] ∙ sym (columns-found db n b.table k.0.table) in
      let es : scope own names ≡ scope db names = scope_same names (λ m i. same m (mem-tail m n names i)) us bs h.1 k.1 in
      λ i. e i ∷ es i

  module _ (names : List (List ℕ)) (scopes : scope own names ≡ scope db names) where
    has_it : (columns : List Column) (name : List ℕ) (col : ℕ) → column_named columns name ≡ Some col → has_column columns name ≡ true
    has_it columns name col e = ap is_some e

    atom_for : (table : Option (List ℕ)) (name : List ℕ) (a b col : ℕ) → IsAtomFor own names table name a → IsAtomFor db names table name b → column_named (atom_columns db names b) name ≡ Some col → b ≡ a
    atom_for (Some table) name a b col h k e = same_Some b a (sym k ∙ h)
    atom_for None name a b col h k e = h b (has_it (atom_columns own names b) name col (ap (λ s. column_named (get_or s b []) name) scopes ∙ e))

    column_same : (written : RawCol) (c d : ColRef) → IsColumnOf own names written c → IsColumnOf db names written d → d ≡ c
    column_same written c d h k =
        let atom : d.atom ≡ c.atom = atom_for written.table written.name c.atom d.atom d.col h.atom k.atom k.place in
        let col : d.col ≡ c.col = same_Some d.col c.col (sym k.place ∙ sym (ap (λ s. column_named (get_or s d.atom []) written.name) scopes) ∙ ap (λ F. column_named (atom_columns own names F) written.name) atom ∙ h.place) in
        λ i. record { atom = atom i; col = col i }

    columns_same : (ws : List RawCol) (cs ds : List ColRef) → AllZip (IsColumnOf own names) ws cs → AllZip (IsColumnOf db names) ws ds → ds ≡ cs
    columns_same [] [] [] h k = refl
    columns_same [] [] (d ∷ ds) h k = absurd k
    columns_same [] (c ∷ cs) ds h k = absurd h
    columns_same (w ∷ ws) [] ds h k = absurd h
    columns_same (w ∷ ws) (c ∷ cs) [] h k = absurd k
    columns_same (w ∷ ws) (c ∷ cs) (d ∷ ds) h k =
        let e = column_same w c d h.0 k.0 in
        let es = columns_same ws cs ds h.1 k.1 in
        λ i. e i ∷ es i

    cond_same : (w : RawCond) (c d : Cond) → IsCondOf own names w c → IsCondOf db names w d → d ≡ c
    cond_same (WrittenJoin left right) (Join l r) (Join m s) h k =
        let e = column_same left l m h.0 k.0 in
        let f = column_same right r s h.1 k.1 in
        λ i. Join (e i) (f i)
    cond_same (WrittenJoin left right) (Join l r) (Test c o v) h k = absurd k
    cond_same (WrittenJoin left right) (Test c o v) d h k = absurd h
    cond_same (WrittenTest col op value) (Join l r) d h k = absurd h
    cond_same (WrittenTest col op value) (Test c o v) (Join l r) h k = absurd k
    cond_same (WrittenTest col op value) (Test c o v) (Test d p w) h k =
        let e = column_same col c d h.0 k.0 in
        let f = k.1 ∙ sym h.1 in
        let g = k.2 ∙ sym h.2 in
        λ i. Test (e i) (f i) (g i)

    conds_same : (ws : List RawCond) (cs ds : List Cond) → AllZip (IsCondOf own names) ws cs → AllZip (IsCondOf db names) ws ds → ds ≡ cs
    conds_same [] [] [] h k = refl
    conds_same [] [] (d ∷ ds) h k = absurd k
    conds_same [] (c ∷ cs) ds h k = absurd h
    conds_same (w ∷ ws) [] ds h k = absurd h
    conds_same (w ∷ ws) (c ∷ cs) [] h k = absurd k
    conds_same (w ∷ ws) (c ∷ cs) (d ∷ ds) h k =
        let e = cond_same w c d h.0 k.0 in
        let es = conds_same ws cs ds h.1 k.1 in
        λ i. e i ∷ es i

pub same_queries : SameQueries
same_queries own db select q p same iq ip =
    let scopes = scope_same own db select.tables same q.atoms p.atoms iq.atoms ip.atoms in
    let atoms = atoms_same own db select.tables same q.atoms p.atoms iq.atoms ip.atoms in
    record {
      size = atoms.0;
      widths = λ F. (atoms.1 F).width;
      keys = λ F. (atoms.1 F).key;
      conds = conds_same own db select.tables scopes select.conds q.conds p.conds iq.conds ip.conds;
      answer = columns_same own db select.tables scopes select.columns q.answer p.answer iq.answer ip.answer;
    }

-- a name has one atom in a database
atom_once : (db : List Table) (name : List ℕ) (a b : Atom) → IsAtomOf db name a → IsAtomOf db name b → a ≡ b
atom_once db name a b ia ib =
    let t : a.table ≡ b.table = same_Some a.table b.table (sym ia.table ∙ ib.table) in
    let w : a.width ≡ b.width = ia.width ∙ ap (λ z. length (columns_at db z)) t ∙ sym ib.width in
    let k : a.key ≡ b.key = ia.key ∙ ap (key_at db) t ∙ sym ib.key in
    let m : a.strict ≡ b.strict = ia.mark ∙ ap (mark_at db) t ∙ sym ib.mark in
    λ i. record { table = t i; width = w i; key = k i; strict = m i }

atoms_once : (db : List Table) (names : List (List ℕ)) (us bs : List Atom) → AllZip (IsAtomOf db) names us → AllZip (IsAtomOf db) names bs → us ≡ bs
atoms_once db [] [] [] h k = refl
atoms_once db [] [] (b ∷ bs) h k = absurd k
atoms_once db [] (a ∷ us) bs h k = absurd h
atoms_once db (n ∷ names) [] bs h k = absurd h
atoms_once db (n ∷ names) (a ∷ us) [] h k = absurd k
atoms_once db (n ∷ names) (a ∷ us) (b ∷ bs) h k =
    let e = atom_once db n a b h.0 k.0 in
    let es = atoms_once db names us bs h.1 k.1 in
    λ i. e i ∷ es i

kept_once : (atoms : List Atom) (conds : List Cond) (answer : List ColRef) → IsProp (IsQuery atoms conds answer)
kept_once atoms conds answer = hlevel props

pub query_once : QueryOnce
query_once db select q p iq ip =
    let a : q.atoms ≡ p.atoms = atoms_once db select.tables q.atoms p.atoms iq.atoms ip.atoms in
    let c : p.conds ≡ q.conds = conds_same db db select.tables refl select.conds q.conds p.conds iq.conds ip.conds in
    let s : p.answer ≡ q.answer = columns_same db db select.tables refl select.columns q.answer p.answer iq.answer ip.answer in
    let d = sym c in
    let r = sym s in
    λ i. record { atoms = a i; conds = d i; answer = r i; kept = is_prop→PathP (λ j. IsQuery (a j) (d j) (r j)) (λ j. kept_once (a j) (d j) (r j)) q.kept p.kept i }
