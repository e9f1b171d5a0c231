-- The steps of an atom have the contexts for which the atom and the parts that hang on it hold.
use Rattle.std.proofs.Common.{◌≡◌, ℕ, suc, ◌<◌, ◌+◌, inl, inr, true, ◌||◌, ◌&&◌, List, [], ◌∷◌, ◌++◌, length, map, get_or, refl, ap, sym, ◌∙◌, subst, arith, Contains}
use Rattle.std.proofs.lemmas.List.{get_or-map, length-map, ext_get_or}
use Rattle.std.proofs.lemmas.List.Elements.{Contains-get_or, Contains-append_left, Contains-append_right, Contains-append_cases}
use Rattle.cqa_value.specs.declared.value.Value.{Value}
use Rattle.cqa_value.proofs.Words.{map_alike}
use Rattle.cqa_model.specs.declared.query.Query.{Query}
use Rattle.cqa_model.specs.Database.{nothing, AreConsistent}
use Rattle.cqa_model.specs.Repairs.{SharesKey}
use Rattle.cqa_model.specs.Query.{atom_key}
use Rattle.cqa_model.proofs.Classic.{mem-head, mem-tail, mem-nil, mem-cases, map_agree}
use Rattle.cqa_model.proofs.Repairs.{shares-self}
use Rattle.sql_text.specs.declared.syntax.Source.TheVariants.{Step as Earlier}
use Rattle.sql_text.specs.declared.syntax.Alias.TheVariants.{Context}
use Rattle.sql_text.specs.declared.syntax.Cell.{Cell}
use Rattle.sql_text.specs.declared.syntax.Child.{Child}
use Rattle.sql_text.specs.declared.syntax.Listed.{Listed}
use Rattle.sql_text.specs.declared.syntax.Within.{Within}
use Rattle.sql_text.specs.Meaning.{IsRowOfEach, cell_value, MeetsAll, AreWithin, IsChoice, Selects, Ends, AreLed, Shows, Groups, ShowsToo, Shares}
use Rattle.sql_steps.specs.declared.fitting.Known.{Known}
use Rattle.sql_steps.specs.declared.part.Part.{Part}
use Rattle.sql_steps.specs.Variables.{covers, all_below, variables_of, key_variables}
use Rattle.sql_steps.specs.Steps.{cell, held, member, cells_at, keyed, fitted, children_of, on_of, rows_of_atom, group_of, block_group, context_group, are_single}
use Rattle.plan_sql.specs.Statement.{context_of, block_of}
use Rattle.sql_steps.proofs.Membership.{dec_has, columns-into}
use Rattle.sql_steps.proofs.Seeing.{IsKnown, IsRight, held-at, held-known, held-right, cells-right, meets-left, meets-right, meets-both}
use Rattle.sql_steps.proofs.Suiting.{variable, Suits}
use Rattle.sql_steps.proofs.Atoms.{variables-into, key-width, keys-from, keys-into, keys-within}
use Rattle.sql_steps.proofs.Rows.{start-known, row-known, row-into, row-from, Follows, keyed-same, key-values}
use Rattle.sql_steps.proofs.Telling.{fitted-below}
use Rattle.sql_steps.proofs.Joining.{covers-into, IsBelow, AreWide, AreOver, Hold, IsSingle, Joins, ends-from, rows-from, rows-into, ends-into, led-ends, led-into}
use Rattle.plan_sql.proofs.Contexts.{IsOf, context-from, context-into, end, end-known, block-cases, block-key, block-context}
use Rattle.plan_sql.proofs.Holding.{Keeps}

pub suits-moved : (q : Query) (F : ℕ) (d c : ℕ → Value) (y : List Value) → ((v : ℕ) → Contains (variables_of q F) v → c v ≡ d v) → Suits q d F y → Suits q c F y
suits-moved q F d c y h s = record { values = λ i l. s.values i l ∙ sym (h (variable q F i) (variables-into q F i l)); tests = s.tests }

-- the cells of columns of a source
cells-same : (w u : List (List Value)) (place : ℕ) (is : List ℕ) → ((i : ℕ) → Contains is i → cell_value w (cell place i) ≡ cell_value u (cell place i)) → map (cell_value w) (cells_at place is) ≡ map (cell_value u) (cells_at place is)
cells-same w u place [] h = refl
cells-same w u place (i ∷ is) h =
    let e : cell_value w (cell place i) ≡ cell_value u (cell place i) = h i (mem-head i is) in
    let es : map (cell_value w) (cells_at place is) ≡ map (cell_value u) (cells_at place is) = cells-same w u place is (λ j m. h j (mem-tail j i is m)) in
    cc

pub cells-agree : (w u : List (List Value)) (place : ℕ) (is : List ℕ) → map (cell_value w) (cells_at place is) ≡ map (cell_value u) (cells_at place is) → (i : ℕ) → Contains is i → cell_value w (cell place i) ≡ cell_value u (cell place i)
cells-agree w u place [] e i m = absurd (mem-nil i m)
cells-agree w u place (j ∷ is) e i m = elim (mem-cases i j is m) [
  | inl h ↦ let e0 : cell_value w (cell place j) ≡ cell_value u (cell place j) = cc in subst (λ z. cell_value w (cell place z) ≡ cell_value u (cell place z)) h e0
  | inr h ↦ let e1 : map (cell_value w) (cells_at place is) ≡ map (cell_value u) (cells_at place is) = cc in cells-agree w u place is e1 i h
]

-- where all variables of parts are known, they are single
all-single : (parts : List Part) (vs : List ℕ) → ((p : Part) → Contains parts p → (v : ℕ) → Contains p.columns v → Contains vs v) → are_single vs parts ≡ true
all-single [] vs h = refl
all-single (p ∷ ps) vs h =
    let one : covers vs p.columns ≡ true = covers-into vs p.columns (h p (mem-head p ps)) in
    let rest : are_single (vs ++ p.columns) ps ≡ true = all-single ps (vs ++ p.columns) (λ o m v n. Contains-append_left vs p.columns v (h o (mem-tail o p ps m) v n)) in
    ap (λ z. (z || (p.single && covers vs p.keys)) && are_single (vs ++ p.columns) ps) one ∙ rest

abbrev pub mixed : {A : Type 0} → Dec A → Value → Value → Value
mixed (yes a) x y = x
mixed (no f) x y = y

mixed-left : {A : Type 0} (d : Dec A) (x y : Value) → A → mixed d x y ≡ x
mixed-left (yes a) x y b = refl
mixed-left (no f) x y b = absurd (f b)

mixed-right : {A : Type 0} (d : Dec A) (x y : Value) → (A → ⊥) → mixed d x y ≡ y
mixed-right (yes a) x y h = absurd (h a)
mixed-right (no f) x y h = refl

module _ (q : Query) (F : ℕ) (lF : F < length q.atoms) (T : ℕ → List (List Value)) (R : ℕ → List Value → Type 0) (known : List ℕ) (parts : List Part) where
  abbrev pub context : List ℕ
  context = context_of q known F parts

  -- what is known of the parts that hang on F
  pub record AreReady : Type 0 where
    pub wide : AreWide T R parts
    pub single : (p : Part) → Contains parts p → p.single ≡ true → IsSingle T R p
    pub small : (p : Part) → Contains parts p → (v : ℕ) → Contains p.columns v → v < 192
    pub over : AreOver T R (known ++ variables_of q F) parts

  -- F has a block each row of which suits an assignment that keeps what is known, for which the parts hold
  abbrev pub IsHeld : (ℕ → Value) → Type 0
  IsHeld e =
      (x : List Value) × Contains (T F) x ×
      ((y : List Value) → Contains (T F) y → SharesKey (atom_key q F) x y → (d : ℕ → Value) × Keeps known e d × Suits q d F y × Hold T R parts d)

  module _ (ready : AreReady) where
    -- an assignment that has a context's values keeps what is known
    keeps : (e e0 d : ℕ → Value) → map d context ≡ map e context → ((v : ℕ) → (IsOf q F lF known parts v → ⊥) → d v ≡ e0 v) → ((v : ℕ) → Contains known v → (Contains context v → ⊥) → e0 v ≡ e v) → Keeps known e d
    keeps e e0 d same far base v m = go (dec_has context v)
      where
        go : Dec (Contains context v) → d v ≡ e v
        go (yes n) = map_agree d e context same v n
        go (no f) = far v (λ o. f (context-into q F lF known parts ready.small v m o)) ∙ base v m f

    context-same : (e d : ℕ → Value) → Keeps known e d → map d context ≡ map e context
    context-same e d k = map_alike d e context (λ v m. k v (context-from q F lF known parts v m).0)

    -- a choice of a group, whose first row is one of F, where what is known of the others is right
    module _ (start : List Known) (sources : List Listed) (ws : List (List Value)) (only : List Within) (by : List Cell) where
      ended-from : (w : List (List Value)) (e e0 : ℕ → Value) (y : List Value) → IsBelow (length sources) start → w ≡ y ∷ ws → length sources ≡ length (y ∷ ws) → IsRight w e0 start → MeetsAll w (keyed q F start).all →
          ((v : ℕ) → Contains known v → (Contains context v → ⊥) → e0 v ≡ e v) → ShowsToo T R (group_of q F sources start only by parts context) (map e context) w → (d : ℕ → Value) × Keeps known e d × Suits q d F y × Hold T R parts d
      ended-from w e e0 y b ew l r mk base sh = from (row-from q F lF start w e0 r mk sh.meets)
        where
          from : (d : ℕ → Value) × Follows q F lF start w e0 d → (d : ℕ → Value) × Keeps known e d × Suits q d F y × Hold T R parts d
          from (c, f) = take (ends-from T R parts (length sources) (fitted q F start).known w sh.end c (ap length ew ∙ sym l) (fitted-below q F start (length sources) (omega (arith, l)) b) ready.wide f.right sh.ends)
            where
              take : (d : ℕ → Value) × Joins T R parts sh.end (fitted q F start).known (end q F lF known parts start (length sources)) c d → (d : ℕ → Value) × Keeps known e d × Suits q d F y × Hold T R parts d
              take (d, j) = (
                d,
                keeps e e0 d
                    (sym (cells-right sh.end d (end q F lF known parts start (length sources)) context j.right (λ v m. end-known q F lF known parts start (length sources) v (context-from q F lF known parts v m).1)) ∙ sh.row_is)
                    (λ v n. j.far v (λ p m k. n (inr (p, m, k))) ∙ f.far v (λ m. n (inl m))) base,
                suits-moved q F c d y (λ v m. j.kept v (row-known q F lF start v m)) (subst (λ z. Suits q c F (get_or z 0 [])) ew f.suits),
                j.hold,
              )

      shown-from : (w : List (List Value)) (e e0 : ℕ → Value) (y : List Value) → IsBelow (length sources) start → w ≡ y ∷ ws → length sources ≡ length (y ∷ ws) → IsRight w e0 start → MeetsAll w (keyed q F start).all →
          ((v : ℕ) → Contains known v → (Contains context v → ⊥) → e0 v ≡ e v) → Shows T R (group_of q F sources start only by parts context) (map e context) w → (d : ℕ → Value) × Keeps known e d × Suits q d F y × Hold T R parts d
      shown-from w e e0 y b ew l r mk base sh = ended-from w e e0 y b ew l r mk base (record { meets = sh.meets; end = u.0; ends = u.1; row_is = sh.alike u.0 u.1 })
        where
          u : (u : List (List Value)) × Ends T R (children_of (length sources) parts (fitted q F start).known) w u
          u = led-ends T R (children_of (length sources) parts (fitted q F start).known) w sh.led

      shown-into : (w : List (List Value)) (d : ℕ → Value) (vs : List ℕ) → ((v : ℕ) → Contains vs v → Contains (known ++ variables_of q F) v) → length w ≡ length sources → IsBelow (length sources) start → IsRight w d start → Suits q d F (get_or w 0 []) → Hold T R parts d →
          are_single vs parts ≡ true → ((v : ℕ) → Contains vs v → IsKnown (fitted q F start).known v) → 0 < length sources → Shows T R (group_of q F sources start only by parts context) (map d context) w
      shown-into w d vs sub l b r s hold t have some = record {
        meets = a.2;
        led = n.0;
        alike = λ u g. cells-right u d (end q F lF known parts start (length sources)) context (n.1 u g) (λ v m. end-known q F lF known parts start (length sources) v (context-from q F lF known parts v m).1);
      }
        where
          a : IsRight w d (fitted q F start).known × MeetsAll w (keyed q F start).all × MeetsAll w (fitted q F start).all
          a = row-into q F lF start w d r s

          n : AreLed T R (children_of (length sources) parts (fitted q F start).known) w × ((u : List (List Value)) → Ends T R (children_of (length sources) parts (fitted q F start).known) w u → IsRight u d (end q F lF known parts start (length sources)))
          n = led-into T R parts (length sources) (fitted q F start).known w d vs (known ++ variables_of q F) ready.over sub l (fitted-below q F start (length sources) some b) ready.wide ready.single have t a.0 hold

    -- only columns of F are looked up
    module _ (only : List Within) (own : (o : Within) → Contains only o → (k : ℕ) × (o.cell ≡ cell 0 k)) where
      -- a row of F, with one of each part
      pub plain-from : (columns : List ℕ) → ((v : ℕ) → Contains columns v → IsOf q F lF known parts v) → (row : List Value) → Selects T R (rows_of_atom q F only parts columns) row → (e : ℕ → Value) →
          (y : List Value) × Contains (T F) y × ((d : ℕ → Value) × Suits q d F y × Hold T R parts d × (row ≡ map d columns) × ((v : ℕ) → (IsOf q F lF known parts v → ⊥) → d v ≡ e v))
      plain-from columns of row ([], c, g) e = absurd c.rows
      plain-from columns of row (y ∷ hs, c, g) e = (y, c.rows.0, from (row-from q F lF [] (y ∷ hs) e (λ k m. absurd (mem-nil k m)) mk mf))
        where
          children : List Child
          children = children_of 1 parts (fitted q F []).known

          rest : MeetsAll (y ∷ hs) ((fitted q F []).all ++ on_of children)
          rest = meets-right (y ∷ hs) (keyed q F []).all ((fitted q F []).all ++ on_of children) c.meets

          mk : MeetsAll (y ∷ hs) (keyed q F []).all
          mk = meets-left (y ∷ hs) (keyed q F []).all ((fitted q F []).all ++ on_of children) c.meets

          mf : MeetsAll (y ∷ hs) (fitted q F []).all
          mf = meets-left (y ∷ hs) (fitted q F []).all (on_of children) rest

          from : (d : ℕ → Value) × Follows q F lF [] (y ∷ hs) e d → (d : ℕ → Value) × Suits q d F y × Hold T R parts d × (row ≡ map d columns) × ((v : ℕ) → (IsOf q F lF known parts v → ⊥) → d v ≡ e v)
          from (c0, f) = take (rows-from T R parts 1 (fitted q F []).known (y ∷ hs) hs c0 (λ j. ap (λ n. get_or (y ∷ hs) n []) (let l : 1 + j ≡ suc j = omega arith in l)) ready.wide f.right c.rows.1 (meets-right (y ∷ hs) (fitted q F []).all (on_of children) rest))
            where
              take : (d : ℕ → Value) × Joins T R parts (y ∷ hs) (fitted q F []).known (end q F lF known parts [] 1) c0 d × (hs ≡ map (λ (p : Part). map d p.columns) parts) → (d : ℕ → Value) × Suits q d F y × Hold T R parts d × (row ≡ map d columns) × ((v : ℕ) → (IsOf q F lF known parts v → ⊥) → d v ≡ e v)
              take (d, j, shape) = (
                d,
                suits-moved q F c0 d y (λ v m. j.kept v (row-known q F lF [] v m)) f.suits,
                j.hold,
                sym g ∙ cells-right (y ∷ hs) d (end q F lF known parts [] 1) columns j.right (λ v m. end-known q F lF known parts [] 1 v (of v m)),
                λ v n. j.far v (λ p m k. n (inr (p, m, k))) ∙ f.far v (λ m. n (inl m)),
              )

      pub plain-into : (columns : List ℕ) → ((v : ℕ) → Contains columns v → IsOf q F lF known parts v) → (y : List Value) (d : ℕ → Value) → Contains (T F) y → Suits q d F y → Hold T R parts d → AreWithin R (y ∷ []) only →
          Selects T R (rows_of_atom q F only parts columns) (map d columns)
      plain-into columns of y d my s hold pass = (
        w,
        record {
          rows = (my, b.0);
          meets = meets-both w (keyed q F []).all ((fitted q F []).all ++ on_of (children_of 1 parts (fitted q F []).known)) a.1 (meets-both w (fitted q F []).all (on_of (children_of 1 parts (fitted q F []).known)) a.2 b.1);
          within = λ o m. let g = pass o m in let e = (own o m).1 in (g.0, g.1, g.2 ∙ ap (cell_value (y ∷ [])) e ∙ sym (ap (cell_value w) e));
        },
        cells-right w d (end q F lF known parts [] 1) columns b.2 (λ v m. end-known q F lF known parts [] 1 v (of v m)),
      )
        where
          w : List (List Value)
          w = y ∷ map (λ (p : Part). map d p.columns) parts

          a : IsRight w d (fitted q F []).known × MeetsAll w (keyed q F []).all × MeetsAll w (fitted q F []).all
          a = row-into q F lF [] w d (λ k m. absurd (mem-nil k m)) s

          b : IsRowOfEach T R (map (λ (c : Child). c.listed) (children_of 1 parts (fitted q F []).known)) (map (λ (p : Part). map d p.columns) parts) × MeetsAll w (on_of (children_of 1 parts (fitted q F []).known)) × IsRight w d (end q F lF known parts [] 1)
          b = rows-into T R parts 1 (fitted q F []).known w d (λ j. ap (λ n. get_or w n []) (let l : 1 + j ≡ suc j = omega arith in l)) a.0 hold

    -- only key columns of F are looked up
    module _ (only : List Within) (of_key : (o : Within) → Contains only o → (k : ℕ) × Contains (atom_key q F) k × (o.cell ≡ cell 0 k)) where
      pub within-same : (x y : List Value) (ws us : List (List Value)) → SharesKey (atom_key q F) x y → AreWithin R (x ∷ ws) only → AreWithin R (y ∷ us) only
      within-same x y ws us s h o m =
          let k = of_key o m in
          let g = h o m in
          (g.0, g.1, g.2 ∙ ap (cell_value (x ∷ ws)) k.2 ∙ s k.0 k.1 ∙ sym (ap (cell_value (y ∷ us)) k.2))

      abbrev own : (o : Within) → Contains only o → (k : ℕ) × (o.cell ≡ cell 0 k)
      own o m = let k = of_key o m in (k.0, k.2)

      -- the rows of an atom without two rows of one key
      pub strict-from : AreConsistent (atom_key q F) (T F) → (e : ℕ → Value) → Selects T R (rows_of_atom q F only parts context) (map e context) → IsHeld e
      strict-from one e h = go (plain-from only own context (λ v m. (context-from q F lF known parts v m).1) (map e context) h e)
        where
          go : (y : List Value) × Contains (T F) y × ((d : ℕ → Value) × Suits q d F y × Hold T R parts d × (map e context ≡ map d context) × ((v : ℕ) → (IsOf q F lF known parts v → ⊥) → d v ≡ e v)) → IsHeld e
          go (y, my, (d, s, hold, same, far)) = (y, my, λ z mz k. (d, keeps e e d (sym same) far (λ v m f. refl), subst (Suits q d F) (one y z my mz k) s, hold))

      -- what passes for each fitting row
      abbrev pub Passes : (ℕ → Value) → Type 0
      Passes e = (y : List Value) (d : ℕ → Value) → Contains (T F) y → Keeps known e d → Suits q d F y → Hold T R parts d → AreWithin R (y ∷ []) only

      pub strict-into : (e : ℕ → Value) → Passes e → IsHeld e → Selects T R (rows_of_atom q F only parts context) (map e context)
      strict-into e pass (x, mx, each) =
          let d = each x mx (shares-self (atom_key q F) x) in
          subst (Selects T R (rows_of_atom q F only parts context)) (context-same e d.0 d.1) (plain-into only own context (λ v m. (context-from q F lF known parts v m).1) x d.0 mx d.2 d.3 (pass x d.0 mx d.1 d.2 d.3))

      abbrev Member : List (List Value) → Type 0
      Member w = IsChoice T R (member F ∷ []) (keyed q F []).all only w

      abbrev Alike : List (List Value) → List (List Value) → Type 0
      Alike u w = map (cell_value u) (cells_at 0 (atom_key q F)) ≡ map (cell_value w) (cells_at 0 (atom_key q F))

      -- a block of F, of each row of which something is known
      held-from : (e : ℕ → Value) (Each : List (List Value) → Type 0) → ((y : List Value) → MeetsAll (y ∷ []) (keyed q F []).all → Each (y ∷ []) → (d : ℕ → Value) × Keeps known e d × Suits q d F y × Hold T R parts d) →
          (w : List (List Value)) → Member w → ((u : List (List Value)) → Member u → Alike u w → Each u) → IsHeld e
      held-from e Each suits [] c each = absurd c.rows
      held-from e Each suits (x ∷ y ∷ w) c each = absurd c.rows.1
      held-from e Each suits (x ∷ []) c each = (
        x,
        c.rows.0,
        λ y my s.
            let chosen : Member (y ∷ []) = record {
              rows = (my, tt);
              meets = keyed-same q F lF [] (x ∷ []) (y ∷ []) e (λ k m. absurd (mem-nil k m)) (λ k m. absurd (mem-nil k m)) s c.meets;
              within = within-same x y [] [] s c.within;
            } in
            suits y chosen.meets (each (y ∷ []) chosen (cells-same (y ∷ []) (x ∷ []) 0 (atom_key q F) (λ i m. sym (s i m)))),
      )

      -- and each of whose rows has what each row that suits has
      held-into : (e : ℕ → Value) → Passes e → (Each : List (List Value) → Type 0) → ((y : List Value) → (d : ℕ → Value) → Keeps known e d → Suits q d F y → Hold T R parts d → Each (y ∷ [])) → IsHeld e →
          (w : List (List Value)) × Member w × ((u : List (List Value)) → Member u → Alike u w → Each u)
      held-into e pass Each shows (x, mx, each) = (x ∷ [], chosen, go)
        where
          d : (d : ℕ → Value) × Keeps known e d × Suits q d F x × Hold T R parts d
          d = each x mx (shares-self (atom_key q F) x)

          chosen : Member (x ∷ [])
          chosen = record { rows = (mx, tt); meets = (row-into q F lF [] (x ∷ []) d.0 (λ k m. absurd (mem-nil k m)) d.2).1; within = pass x d.0 mx d.1 d.2 d.3 }

          go : (u : List (List Value)) → Member u → Alike u (x ∷ []) → Each u
          go [] c same = absurd c.rows
          go (y ∷ z ∷ w) c same = absurd c.rows.1
          go (y ∷ []) c same = let k = each y c.rows.0 (λ p m. sym (cells-agree (y ∷ []) (x ∷ []) 0 (atom_key q F) same p m)) in shows y k.0 k.1 k.2 k.3

      -- the blocks of F
      pub block-from : (e : ℕ → Value) → Groups T R (block_group q F only parts context) (map e context) → IsHeld e
      block-from e g = held-from e (Shows T R (block_group q F only parts context) (map e context))
          (λ y mk sh. shown-from [] (member F ∷ []) [] only (cells_at 0 (atom_key q F)) (y ∷ []) e e y (λ k m. absurd (mem-nil k m)) refl refl (λ k m. absurd (mem-nil k m)) mk (λ v m f. refl) sh) g.choice g.chosen g.each

      -- and what their rows share
      pub shared-from : (e : ℕ → Value) → Shares T R (block_group q F only parts context) (map e context) → IsHeld e
      shared-from e g = held-from e (ShowsToo T R (block_group q F only parts context) (map e context))
          (λ y mk sh. ended-from [] (member F ∷ []) [] only (cells_at 0 (atom_key q F)) (y ∷ []) e e y (λ k m. absurd (mem-nil k m)) refl refl (λ k m. absurd (mem-nil k m)) mk (λ v m f. refl) sh) g.choice g.chosen g.each

      pub shared-into : (e : ℕ → Value) → Passes e → IsHeld e → Shares T R (block_group q F only parts context) (map e context)
      shared-into e pass h = record { choice = all.0; chosen = all.1; each = all.2 }
        where
          shows : (y : List Value) (d : ℕ → Value) → Keeps known e d → Suits q d F y → Hold T R parts d → ShowsToo T R (block_group q F only parts context) (map e context) (y ∷ [])
          shows y d k s hold = record {
            meets = a.2;
            end = u.0;
            ends = u.1;
            row_is = cells-right u.0 d (end q F lF known parts [] 1) context u.2 (λ v m. end-known q F lF known parts [] 1 v (context-from q F lF known parts v m).1) ∙ context-same e d k;
          }
            where
              a : IsRight (y ∷ []) d (fitted q F []).known × MeetsAll (y ∷ []) (keyed q F []).all × MeetsAll (y ∷ []) (fitted q F []).all
              a = row-into q F lF [] (y ∷ []) d (λ j m. absurd (mem-nil j m)) s

              u : (u : List (List Value)) × Ends T R (children_of 1 parts (fitted q F []).known) (y ∷ []) u × IsRight u d (end q F lF known parts [] 1)
              u = ends-into T R parts 1 (fitted q F []).known (y ∷ []) d refl (fitted-below q F [] 1 (omega arith) (λ j m. absurd (mem-nil j m))) a.0 hold

          all : (w : List (List Value)) × Member w × ((u : List (List Value)) → Member u → Alike u w → ShowsToo T R (block_group q F only parts context) (map e context) u)
          all = held-into e pass (ShowsToo T R (block_group q F only parts context) (map e context)) shows h

      pub block-into : are_single (variables_of q F) parts ≡ true → (e : ℕ → Value) → Passes e → IsHeld e → Groups T R (block_group q F only parts context) (map e context)
      block-into t e pass h = record { choice = all.0; chosen = all.1; each = all.2 }
        where
          all : (w : List (List Value)) × Member w × ((u : List (List Value)) → Member u → Alike u w → Shows T R (block_group q F only parts context) (map e context) u)
          all = held-into e pass (Shows T R (block_group q F only parts context) (map e context))
              (λ y d k s hold. subst (λ z. Shows T R (block_group q F only parts context) z (y ∷ [])) (context-same e d k)
              (shown-into [] (member F ∷ []) [] only (cells_at 0 (atom_key q F)) (y ∷ []) d (variables_of q F) (λ v m. Contains-append_right known (variables_of q F) v m) refl (λ z m. absurd (mem-nil z m)) (λ z m. absurd (mem-nil z m)) s hold t (λ v m. row-known q F lF [] v m) (omega arith)))
              h

      -- two contexts with the same key are of one block
      pub block-single : (d e : ℕ → Value) → ((v : ℕ) → Contains (key_variables q F) v → Contains context v) → ((v : ℕ) → Contains (key_variables q F) v → d v ≡ e v) →
          Groups T R (block_group q F only parts context) (map d context) → Groups T R (block_group q F only parts context) (map e context) → map d context ≡ map e context
      block-single d e inside same g h = go g.choice h.choice g.chosen h.chosen g.each h.each
        where
          Chosen : List (List Value) → Type 0
          Chosen w = IsChoice T R (member F ∷ []) (keyed q F []).all only w

          Each : (ℕ → Value) → List (List Value) → Type 0
          Each c w = (u : List (List Value)) → Chosen u → map (cell_value u) (cells_at 0 (atom_key q F)) ≡ map (cell_value w) (cells_at 0 (atom_key q F)) → Shows T R (block_group q F only parts context) (map c context) u

          key-of : (c : ℕ → Value) (x : List Value) → Chosen (x ∷ []) → Each c (x ∷ []) → (p : ℕ) → Contains (atom_key q F) p → get_or x p nothing ≡ c (variable q F p)
          key-of c x chosen each p m =
              let b = shown-from [] (member F ∷ []) [] only (cells_at 0 (atom_key q F)) (x ∷ []) c c x (λ k n. absurd (mem-nil k n)) refl refl (λ k n. absurd (mem-nil k n)) chosen.meets (λ v n f. refl) (each (x ∷ []) chosen refl) in
              b.2.values p (key-width q F lF p m) ∙ b.1 (variable q F p) (context-from q F lF known parts (variable q F p) (inside (variable q F p) (keys-into q F lF p m))).0

          go : (w u : List (List Value)) → Chosen w → Chosen u → Each d w → Each e u → map d context ≡ map e context
          go [] u c k each other = absurd c.rows
          go (x ∷ z ∷ w) u c k each other = absurd c.rows.1
          go (x ∷ []) [] c k each other = absurd k.rows
          go (x ∷ []) (y ∷ z ∷ u) c k each other = absurd k.rows.1
          go (x ∷ []) (y ∷ []) c k each other =
              let a = each (y ∷ []) k (cells-same (y ∷ []) (x ∷ []) 0 (atom_key q F) (λ p m. key-of e y k other p m ∙ sym (same (variable q F p) (keys-into q F lF p m)) ∙ sym (key-of d x c each p m))) in
              let b = other (y ∷ []) k refl in
              let u = led-ends T R (children_of 1 parts (fitted q F []).known) (y ∷ []) a.led in
              sym (a.alike u.0 u.1) ∙ b.alike u.0 u.1

    -- the blocks of F for each of its contexts, which a step has, with the key's variables
    module _ (place : ℕ) (shaped : (s : List Value) → R place s → (c : ℕ → Value) × (s ≡ map c (block_of q F context))) where
      abbrev block : List ℕ
      block = block_of q F context

      right : (y s : List Value) (d c : ℕ → Value) → s ≡ map c block → ((v : ℕ) → Contains block v → d v ≡ c v) → IsRight (y ∷ s ∷ []) d (held 1 0 block)
      right y s d c e h = held-right (y ∷ s ∷ []) d 1 block (λ j l. ap (λ z. get_or z j nothing) e ∙ get_or-map c block j 0 nothing l ∙ sym (h (get_or block j 0) (Contains-get_or block j 0 l)))

      below : IsBelow 2 (held 1 0 block)
      below k m = let r = held-at 1 0 block k m in subst (λ (z : Cell). z.place < 2) (sym r.2) (omega arith)

      abbrev Chosen : List (List Value) → Type 0
      Chosen w = IsChoice T R (member F ∷ record { source = Earlier place; alias = Context } ∷ []) (keyed q F (held 1 0 block)).all [] w

      pub context-group-from : (e : ℕ → Value) → Groups T R (context_group q F place block parts context) (map e context) → IsHeld e
      context-group-from e g = go g.choice g.chosen g.each
        where
          go : (w : List (List Value)) → Chosen w → ((u : List (List Value)) → Chosen u → map (cell_value u) (cells_at 1 (all_below (length block))) ≡ map (cell_value w) (cells_at 1 (all_below (length block))) →
              Shows T R (context_group q F place block parts context) (map e context) u) → IsHeld e
          go [] c each = absurd c.rows
          go (x ∷ []) c each = absurd c.rows.1
          go (x ∷ s ∷ y ∷ w) c each = absurd c.rows.1.1
          go (x ∷ s ∷ []) c each = (x, c.rows.0, from (shaped s c.rows.1.0))
            where
              from : (b : ℕ → Value) × (s ≡ map b block) → (y : List Value) → Contains (T F) y → SharesKey (atom_key q F) x y → (d : ℕ → Value) × Keeps known e d × Suits q d F y × Hold T R parts d
              from (b, eb) y my share =
                  shown-from (held 1 0 block) (member F ∷ record { source = Earlier place; alias = Context } ∷ []) (s ∷ []) [] (cells_at 1 (all_below (length block))) (y ∷ s ∷ []) e e0 y below refl refl (r y) chosen.meets base
                  (each (y ∷ s ∷ []) chosen (cells-same (y ∷ s ∷ []) (x ∷ s ∷ []) 1 (all_below (length block)) (λ i m. refl)))
                where
                  e0 : ℕ → Value
                  e0 v = mixed (dec_has block v) (b v) (e v)

                  r : (z : List Value) → IsRight (z ∷ s ∷ []) e0 (held 1 0 block)
                  r z = right z s e0 b eb (λ v m. mixed-left (dec_has block v) (b v) (e v) m)

                  base : (v : ℕ) → Contains known v → (Contains context v → ⊥) → e0 v ≡ e v
                  base v m f = mixed-right (dec_has block v) (b v) (e v) (λ n. elim (block-cases q F lF known parts v n) [ inl a ↦ f a | inr k ↦ f (context-into q F lF known parts ready.small v m (inl (keys-within q F lF v k))) ])

                  chosen : Chosen (y ∷ s ∷ [])
                  chosen = record { rows = (my, (c.rows.1.0, tt)); meets = keyed-same q F lF (held 1 0 block) (x ∷ s ∷ []) (y ∷ s ∷ []) e0 (r x) (r y) share c.meets; within = λ o m. absurd (mem-nil o m) }

      pub context-group-into : (e : ℕ → Value) → ((y : List Value) (d : ℕ → Value) → Contains (T F) y → Keeps known e d → Suits q d F y → Hold T R parts d → R place (map d block)) → IsHeld e →
          Groups T R (context_group q F place block parts context) (map e context)
      context-group-into e there (x, mx, each) = record { choice = x ∷ map d.0 block ∷ []; chosen = chosen; each = λ w c same. go w c same }
        where
          d : (d : ℕ → Value) × Keeps known e d × Suits q d F x × Hold T R parts d
          d = each x mx (shares-self (atom_key q F) x)

          chosen : Chosen (x ∷ map d.0 block ∷ [])
          chosen = record {
            rows = (mx, (there x d.0 mx d.1 d.2 d.3, tt));
            meets = (row-into q F lF (held 1 0 block) (x ∷ map d.0 block ∷ []) d.0 (right x (map d.0 block) d.0 d.0 refl (λ v m. refl)) d.2).1;
            within = λ o m. absurd (mem-nil o m);
          }

          go : (w : List (List Value)) → Chosen w → map (cell_value w) (cells_at 1 (all_below (length block))) ≡ map (cell_value (x ∷ map d.0 block ∷ [])) (cells_at 1 (all_below (length block))) →
              Shows T R (context_group q F place block parts context) (map e context) w
          go [] c same = absurd c.rows
          go (y ∷ []) c same = absurd c.rows.1
          go (y ∷ s ∷ z ∷ w) c same = absurd c.rows.1.1
          go (y ∷ s ∷ []) c same = subst (λ z. Shows T R (context_group q F place block parts context) z (y ∷ s ∷ [])) (context-same e k.0 k.1)
              (shown-into (held 1 0 block) (member F ∷ record { source = Earlier place; alias = Context } ∷ []) (s ∷ []) [] (cells_at 1 (all_below (length block))) (y ∷ s ∷ []) k.0 (block ++ variables_of q F) sub refl below
              (right y s k.0 d.0 es alike) k.2 k.3 (all-single parts (block ++ variables_of q F) covered) have (omega arith))
            where
              es : s ≡ map d.0 block
              es =
                  let b = shaped s c.rows.1.0 in
                  let l : length s ≡ length block = ap length b.1 ∙ length-map block b.0 in
                  ext_get_or nothing s (map d.0 block) (l ∙ sym (length-map block d.0))
                  (λ j h. cells-agree (y ∷ s ∷ []) (x ∷ map d.0 block ∷ []) 1 (all_below (length block)) same j (columns-into (length block) j (omega (arith, h, l))))

              share : SharesKey (atom_key q F) x y
              share p m =
                  d.2.values p (key-width q F lF p m)
                  ∙ sym (key-values q F lF (held 1 0 block) (y ∷ s ∷ []) d.0 (right y s d.0 d.0 es (λ v n. refl)) c.meets p m (held-known 1 0 block (variable q F p) (block-key q F lF known parts (variable q F p) (keys-into q F lF p m))))

              k : (d : ℕ → Value) × Keeps known e d × Suits q d F y × Hold T R parts d
              k = each y c.rows.0 share

              alike : (v : ℕ) → Contains block v → k.0 v ≡ d.0 v
              alike v m = elim (block-cases q F lF known parts v m) [
                | inl n ↦ let f = (context-from q F lF known parts v n).0 in k.1 v f ∙ sym (d.1 v f)
                | inr n ↦
                    let p = keys-from q F lF v n in
                    let l = key-width q F lF p.0 p.1 in
                    ap k.0 (sym p.2) ∙ sym (k.2.values p.0 l) ∙ sym (share p.0 p.1) ∙ d.2.values p.0 l ∙ ap d.0 p.2
              ]

              covered : (p : Part) → Contains parts p → (v : ℕ) → Contains p.columns v → Contains (block ++ variables_of q F) v
              covered p m v n = elim (Contains-append_cases known (variables_of q F) v (ready.over.columns p m v n)) [
                | inl a ↦ Contains-append_left block (variables_of q F) v (block-context q F lF known parts v (context-into q F lF known parts ready.small v a (inr (p, m, n))))
                | inr a ↦ Contains-append_right block (variables_of q F) v a
              ]

              sub : (v : ℕ) → Contains (block ++ variables_of q F) v → Contains (known ++ variables_of q F) v
              sub v m = elim (Contains-append_cases block (variables_of q F) v m) [
                | inl a ↦ elim (block-cases q F lF known parts v a) [
                  | inl n ↦ Contains-append_left known (variables_of q F) v (context-from q F lF known parts v n).0
                  | inr n ↦ Contains-append_right known (variables_of q F) v (keys-within q F lF v n)
                ]
                | inr a ↦ Contains-append_right known (variables_of q F) v a
              ]

              have : (v : ℕ) → Contains (block ++ variables_of q F) v → IsKnown (fitted q F (held 1 0 block)).known v
              have v m = elim (Contains-append_cases block (variables_of q F) v m) [
                | inl a ↦ start-known q F lF (held 1 0 block) v (held-known 1 0 block v a)
                | inr a ↦ row-known q F lF (held 1 0 block) v a
              ]

-- an atom without parts
pub ready-none : (q : Query) (F : ℕ) (lF : F < length q.atoms) (T : ℕ → List (List Value)) (R : ℕ → List Value → Type 0) (known : List ℕ) → AreReady q F lF T R known []
ready-none q F lF T R known = record {
  wide = λ z n. absurd (mem-nil z n);
  single = λ z n. absurd (mem-nil z n);
  small = λ z n. absurd (mem-nil z n);
  over = record { columns = λ z n. absurd (mem-nil z n); keys = λ z n. absurd (mem-nil z n) };
}
