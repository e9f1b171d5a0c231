-- The steps of a plan have the contexts for which the plan holds, by induction on the plan.
use Rattle.std.proofs.Common.{◌≡◌, ℕ, ◌<◌, ◌+◌, ◌-◌, Bool, true, false, not, ◌||◌, List, [], ◌∷◌, ◌++◌, length, map, refl, ap, sym, ◌∙◌, subst, arith, cond, Contains, Option, Some, None, inl, inr}
use Rattle.std.proofs.lemmas.Bool.{false≢true, and_parts}
use Rattle.std.proofs.lemmas.List.{append_assoc, length-append, length-map, length_push}
use Rattle.std.proofs.lemmas.List.Elements.{Contains-append_cases}
use Rattle.cqa_value.specs.declared.value.Value.{Value}
use Rattle.cqa_model.specs.declared.query.Query.{Query}
use Rattle.cqa_model.specs.Database.{AreConsistent, nothing}
use Rattle.cqa_model.specs.Query.{atom_at, atom_key, IsStrict}
use Rattle.cqa_model.proofs.Classic.{mem-nil}
use Rattle.sql_text.specs.declared.syntax.Body.TheVariants.{Distinct, Grouped}
use Rattle.sql_text.specs.declared.syntax.Step.{Step}
use Rattle.sql_text.specs.declared.syntax.StepKind.TheVariants.{Rows, Blocks, Holds}
use Rattle.sql_text.specs.declared.syntax.Within.{Within}
use Rattle.sql_text.specs.declared.syntax.Select.{Select}
use Rattle.sql_text.specs.declared.syntax.Group.{Group}
use Rattle.sql_text.specs.Meaning.{cell_value, Gives, Groups, Shares, Selects, AreWithin}
use Rattle.plan_sql.specs.declared.bounds.Bound.{Bound}
use Rattle.sql_steps.specs.declared.part.Part.{Part}
use Rattle.sql_steps.specs.Variables.{covers, variables_of, key_variables, ascending}
use Rattle.sql_steps.specs.Steps.{cell, cell_of, held, rows_of_atom, block_group, context_group, are_single}
use Rattle.plan_sql.specs.Statement.{context_of, block_of, step, guard_for, is_guarded, is_joined, first_of, completes, far_columns, rows_part, one_step, two_steps, far_steps, near_steps, looked_steps, context_steps, by_block, block_steps, behind_steps, level_steps, keys_in, rare_only, has_few, few_step}
use Rattle.plan_sql.proofs.Rel.{Rel, new-into, new-from, Stays, stays-self, stays-push}
use Rattle.sql_steps.proofs.Joining.{Hold, IsSingle, led-ends}
use Rattle.plan_sql.proofs.Holding.{Keeps}
use Rattle.plan_sql.proofs.Level.{AreReady, ready-none, IsHeld, Passes, plain-from, plain-into, strict-from, strict-into, block-from, block-into, block-single, shared-from, shared-into, context-group-from, context-group-into}
use Rattle.plan_sql.proofs.Asking.{IsBound, IsPassed, passed-stays, passed-keeps, bound-into, bound-from, guard_for-in}
use Rattle.plan_sql.proofs.Steps.{first-in}
use Rattle.plan_sql.proofs.Pairs.{columns-of, of-part, of-two, two-ready}
use Rattle.plan_sql.proofs.Looking.{keys-own, keys-pass, rare-own, rare-pass}
use Rattle.sql_steps.proofs.Atoms.{keys-within}
use Rattle.sql_steps.proofs.Membership.{ascending-from}
use Rattle.plan_sql.proofs.Contexts.{IsOf, end}

-- rows of steps are as long as their cells
pub selects-long : (T : ℕ → List (List Value)) (R : ℕ → List Value → Type 0) (select : Select) (row : List Value) → Selects T R select row → length row ≡ length select.cells
selects-long T R select row (w, c, g) = ap length (sym g) ∙ length-map select.cells (cell_value w)

pub groups-long : (T : ℕ → List (List Value)) (R : ℕ → List Value → Type 0) (group : Group) (row : List Value) → Groups T R group row → length row ≡ length group.cells
groups-long T R group row g =
    let s = g.each g.choice g.chosen refl in
    let u = led-ends T R group.children g.choice s.led in
    ap length (sym (s.alike u.0 u.1)) ∙ length-map group.cells (cell_value u.0)

pub shares-long : (T : ℕ → List (List Value)) (R : ℕ → List Value → Type 0) (group : Group) (row : List Value) → Shares T R group row → length row ≡ length group.cells
shares-long T R group row g = let s = g.each g.choice g.chosen refl in ap length (sym s.row_is) ∙ length-map group.cells (cell_value s.end)

blocks-long : (T : ℕ → List (List Value)) (R : ℕ → List Value → Type 0) (a : Bool) (group : Group) (row : List Value) → Gives T R (by_block a group) row → length row ≡ length group.cells
blocks-long T R true group row g = groups-long T R group row g
blocks-long T R false group row g = shares-long T R group row g

-- a part, whose context is of these variables, within steps
pub record IsPart (T : ℕ → List (List Value)) (ks : List ℕ) (ss : List Step) (p : Part) : Type 0 where
  pub there : p.step < length ss
  pub wide : (h : List Value) → Rel T ss p.step h → length h ≡ length p.columns
  pub single : p.single ≡ true → IsSingle T (Rel T ss) p
  pub small : (v : ℕ) → Contains p.columns v → v < 192
  pub columns : (v : ℕ) → Contains p.columns v → Contains ks v
  pub keys : (v : ℕ) → Contains p.keys v → Contains ks v → Contains p.columns v

module _ (T : ℕ → List (List Value)) where
  pub part-stays : (ks : List ℕ) (ss ts : List Step) (p : Part) → Stays T ss ts → IsPart T ks ss p → IsPart T ks ts p
  part-stays ks ss ts p s h = record {
    there = omega (arith, h.there, s.longer);
    wide = λ x r. h.wide x (s.back p.step h.there x r);
    single = λ t inside d e a b. h.single t inside d e (s.back p.step h.there (map d p.columns) a) (s.back p.step h.there (map e p.columns) b);
    small = h.small;
    columns = h.columns;
    keys = h.keys;
  }

  hold-stays : (ks : List ℕ) (ss ts : List Step) (parts : List Part) → Stays T ss ts → ((p : Part) → Contains parts p → IsPart T ks ss p) → (d : ℕ → Value) → Hold T (Rel T ss) parts d → Hold T (Rel T ts) parts d
  hold-stays ks ss ts parts s each d h p m = s.into p.step (each p m).there (map d p.columns) (h p m)

  hold-back : (ks : List ℕ) (ss ts : List Step) (parts : List Part) → Stays T ss ts → ((p : Part) → Contains parts p → IsPart T ks ss p) → (d : ℕ → Value) → Hold T (Rel T ts) parts d → Hold T (Rel T ss) parts d
  hold-back ks ss ts parts s each d h p m = s.back p.step (each p m).there (map d p.columns) (h p m)

  pub ready-of : (q : Query) (F : ℕ) (lF : F < length q.atoms) (known : List ℕ) (parts : List Part) (ss : List Step) → ((p : Part) → Contains parts p → IsPart T (known ++ variables_of q F) ss p) → AreReady q F lF T (Rel T ss) known parts
  ready-of q F lF known parts ss each = record {
    wide = λ p m. (each p m).wide;
    single = λ p m. (each p m).single;
    small = λ p m. (each p m).small;
    over = record { columns = λ p m. (each p m).columns; keys = λ p m. (each p m).keys };
  }

-- the steps of an atom
module _ (q : Query) (T : ℕ → List (List Value)) (F : ℕ) (lF : F < length q.atoms) (strict : IsStrict q F → AreConsistent (atom_key q F) (T F)) (number : ℕ) (known : List ℕ) (parts : List Part) (before : List Step)
    (only : List Within) (each : (p : Part) → Contains parts p → IsPart T (known ++ variables_of q F) before p) (of_key : (o : Within) → Contains only o → (k : ℕ) × Contains (atom_key q F) k × (o.cell ≡ cell 0 k))
    (bounds : List Bound) (bound : (b : Bound) → Contains bounds b → IsBound q T known before b) where
  abbrev pub context : List ℕ
  context = context_of q known F parts

  abbrev ready : AreReady q F lF T (Rel T before) known parts
  ready = ready-of T q F lF known parts before each

  abbrev Held : (ℕ → Value) → Type 0
  Held e = IsHeld q F lF T (Rel T before) known parts e

  -- the atoms before have rows that suit
  abbrev ArePassed : (ℕ → Value) → Type 0
  ArePassed e = (b : Bound) → Contains bounds b → IsPassed q T before e b

  -- what the last of these steps has
  pub record IsLevel (steps : List Step) (single : Bool) : Type 0 where
    pub stays : Stays T before steps
    pub some : length before < length steps
    pub wide : (h : List Value) → Rel T steps (length steps - 1) h → length h ≡ length context
    pub from : (e : ℕ → Value) → Rel T steps (length steps - 1) (map e context) → Held e
    pub into : (e : ℕ → Value) → ArePassed e → Passes q F lF T (Rel T before) known parts ready only of_key e → Held e → Rel T steps (length steps - 1) (map e context)
    pub one : single ≡ true → (d e : ℕ → Value) → ((v : ℕ) → Contains (key_variables q F) v → Contains context v) → ((v : ℕ) → Contains (key_variables q F) v → d v ≡ e v) →
        Rel T steps (length steps - 1) (map d context) → Rel T steps (length steps - 1) (map e context) → map d context ≡ map e context

  -- the contexts of blocks, over steps
  module _ (ss : List Step) (now : AreReady q F lF T (Rel T ss) known parts) (o : List Within) (of : (i : Within) → Contains o i → (k : ℕ) × Contains (atom_key q F) k × (i.cell ≡ cell 0 k)) where
    abbrev Blocks-have : Bool → (ℕ → Value) → Type 0
    Blocks-have a e = Gives T (Rel T ss) (by_block a (block_group q F o parts context)) (map e context)

    blocks-from : (a : Bool) (e : ℕ → Value) → Blocks-have a e → IsHeld q F lF T (Rel T ss) known parts e
    blocks-from true e g = block-from q F lF T (Rel T ss) known parts now o of e g
    blocks-from false e g = shared-from q F lF T (Rel T ss) known parts now o of e g

    blocks-into : (a : Bool) → (a ≡ true → are_single (variables_of q F) parts ≡ true) → (e : ℕ → Value) → Passes q F lF T (Rel T ss) known parts now o of e → IsHeld q F lF T (Rel T ss) known parts e → Blocks-have a e
    blocks-into true t e pass h = block-into q F lF T (Rel T ss) known parts now o of (t refl) e pass h
    blocks-into false t e pass h = shared-into q F lF T (Rel T ss) known parts now o of e pass h

    blocks-one : (a : Bool) → a ≡ true → (d e : ℕ → Value) → ((v : ℕ) → Contains (key_variables q F) v → Contains context v) → ((v : ℕ) → Contains (key_variables q F) v → d v ≡ e v) →
        Blocks-have a d → Blocks-have a e → map d context ≡ map e context
    blocks-one true u d e inside same g h = block-single q F lF T (Rel T ss) known parts now o of d e inside same g h
    blocks-one false u d e inside same g h = absurd (false≢true u)

  -- each block
  block-level : (a : Bool) → (a ≡ true → are_single (variables_of q F) parts ≡ true) → IsLevel (before ++ step Holds number context (by_block a (block_group q F only parts context)) ∷ []) a
  block-level a t = record {
    stays = stays-push T before before s (stays-self T before);
    some = omega (arith, length_push before s);
    wide = λ h r. blocks-long T (Rel T before) a (block_group q F only parts context) h (new-from T before s (length (before ++ s ∷ []) - 1) h last r) ∙ length-map context (λ v. cell_of (end q F lF known parts [] 1) v);
    from = λ e r. blocks-from before ready only of_key a e (new-from T before s (length (before ++ s ∷ []) - 1) (map e context) last r);
    into = λ e passed pass h. new-into T before s (length (before ++ s ∷ []) - 1) (map e context) last (blocks-into before ready only of_key a t e pass h);
    one = λ u d e inside same g h. blocks-one before ready only of_key a u d e inside same
        (new-from T before s (length (before ++ s ∷ []) - 1) (map d context) last g) (new-from T before s (length (before ++ s ∷ []) - 1) (map e context) last h);
  }
    where
      s : Step
      s = step Holds number context (by_block a (block_group q F only parts context))

      last : length (before ++ s ∷ []) - 1 ≡ length before
      last = omega (arith, length_push before s)

  -- where each part has one context at most, so has a row of an atom without two rows of one key
  held-single : are_single (variables_of q F) parts ≡ true → (d e : ℕ → Value) → ((v : ℕ) → Contains (key_variables q F) v → Contains context v) → ((v : ℕ) → Contains (key_variables q F) v → d v ≡ e v) → Held d → Held e → map d context ≡ map e context
  held-single t d e inside same h k = block-single q F lF T (Rel T before) known parts ready [] (λ o m. absurd (mem-nil o m)) d e inside same (grouped d h) (grouped e k)
    where
      grouped : (c : ℕ → Value) → Held c → Groups T (Rel T before) (block_group q F [] parts context) (map c context)
      grouped c g = block-into q F lF T (Rel T before) known parts ready [] (λ o m. absurd (mem-nil o m)) t c (λ y b my n s hold o m. absurd (mem-nil o m)) g

  -- the rows of an atom without two rows of one key
  strict-level : (atom_at q F).strict ≡ true → IsLevel (before ++ step Holds number context (Distinct (rows_of_atom q F only parts context)) ∷ []) (are_single (variables_of q F) parts)
  strict-level t = record {
    stays = stays-push T before before s (stays-self T before);
    some = omega (arith, length_push before s);
    wide = λ h r. selects-long T (Rel T before) (rows_of_atom q F only parts context) h (new-from T before s (length (before ++ s ∷ []) - 1) h last r) ∙ length-map context (λ v. cell_of (end q F lF known parts [] 1) v);
    from = read;
    into = λ e passed pass h. new-into T before s (length (before ++ s ∷ []) - 1) (map e context) last (strict-into q F lF T (Rel T before) known parts ready only of_key e pass h);
    one = λ u d e inside same a b. held-single u d e inside same (read d a) (read e b);
  }
    where
      s : Step
      s = step Holds number context (Distinct (rows_of_atom q F only parts context))

      last : length (before ++ s ∷ []) - 1 ≡ length before
      last = omega (arith, length_push before s)

      read : (e : ℕ → Value) → Rel T (before ++ s ∷ []) (length (before ++ s ∷ []) - 1) (map e context) → Held e
      read e r = strict-from q F lF T (Rel T before) known parts ready only of_key (strict t) e (new-from T before s (length (before ++ s ∷ []) - 1) (map e context) last r)

  own : (o : Within) → Contains only o → (k : ℕ) × (o.cell ≡ cell 0 k)
  own o m = let k = of_key o m in (k.0, k.2)

  -- with a step more
  held-back : (ss : List Step) → Stays T before ss → (e : ℕ → Value) → IsHeld q F lF T (Rel T ss) known parts e → Held e
  held-back ss s e (x, mx, f) = (x, mx, λ y my h. let d = f y my h in (d.0, d.1, d.2, hold-back T (known ++ variables_of q F) before ss parts s each d.0 d.3))

  held-on : (ss : List Step) → Stays T before ss → (e : ℕ → Value) → Held e → IsHeld q F lF T (Rel T ss) known parts e
  held-on ss s e (x, mx, f) = (x, mx, λ y my h. let d = f y my h in (d.0, d.1, d.2, hold-stays T (known ++ variables_of q F) before ss parts s each d.0 d.3))

  ready-on : (ss : List Step) → Stays T before ss → AreReady q F lF T (Rel T ss) known parts
  ready-on ss s = ready-of T q F lF known parts ss (λ p m. part-stays T (known ++ variables_of q F) before ss p s (each p m))

  -- few blocks are looked for, and then each of them
  abbrev keys : List ℕ
  keys = ascending (key_variables q F)

  abbrev few : Step
  few = few_step q number F only parts

  abbrev sifted : List Step
  sifted = before ++ few ∷ []

  sifted-stays : Stays T before sifted
  sifted-stays = stays-push T before before few (stays-self T before)

  abbrev of_few : List Within
  of_few = keys_in q F (length before) keys

  few-own : (o : Within) → Contains of_few o → (k : ℕ) × Contains (atom_key q F) k × (o.cell ≡ cell 0 k)
  few-own = keys-own q F lF (length before) keys (ascending-from (key_variables q F))

  abbrev each_few : Bool → Step
  each_few a = step Holds number context (by_block a (block_group q F of_few parts context))

  few-found : (e : ℕ → Value) → Passes q F lF T (Rel T before) known parts ready only of_key e → Passes q F lF T (Rel T sifted) known parts (ready-on sifted sifted-stays) of_few few-own e
  few-found e pass y d my k s hold = keys-pass q F lF (length before) keys (ascending-from (key_variables q F)) (Rel T sifted) d y s
      (new-into T before few (length before) (map d keys) refl
      (plain-into q F lF T (Rel T before) known [] (ready-none q F lF T (Rel T before) known) (only ++ rare_only q F parts) at keys (λ v m. inl (keys-within q F lF v (ascending-from (key_variables q F) v m))) y d my s
      (λ z n. absurd (mem-nil z n)) within))
    where
      below : Hold T (Rel T before) parts d
      below = hold-back T (known ++ variables_of q F) before sifted parts sifted-stays each d hold

      at : (o : Within) → Contains (only ++ rare_only q F parts) o → (k : ℕ) × (o.cell ≡ cell 0 k)
      at o m = elim (Contains-append_cases only (rare_only q F parts) o m) [ inl n ↦ own o n | inr n ↦ (let c = rare-own q F lF parts o n in (c.0, c.2)) ]

      within : AreWithin (Rel T before) (y ∷ []) (only ++ rare_only q F parts)
      within o m = elim (Contains-append_cases only (rare_only q F parts) o m) [ inl n ↦ pass y d my k s below o n | inr n ↦ rare-pass q F lF T (Rel T before) parts d y s below o n ]

  few-level : (a : Bool) → (a ≡ true → are_single (variables_of q F) parts ≡ true) → IsLevel (sifted ++ each_few a ∷ []) a
  few-level a t = record {
    stays = stays-push T before sifted s sifted-stays;
    some = omega (arith, length_push sifted s, length_push before few);
    wide = λ h r. blocks-long T (Rel T sifted) a (block_group q F of_few parts context) h (new-from T sifted s (length (sifted ++ s ∷ []) - 1) h last r) ∙ length-map context (λ v. cell_of (end q F lF known parts [] 1) v);
    from = λ e r. held-back sifted sifted-stays e (blocks-from sifted now of_few few-own a e (new-from T sifted s (length (sifted ++ s ∷ []) - 1) (map e context) last r));
    into = λ e passed pass h. new-into T sifted s (length (sifted ++ s ∷ []) - 1) (map e context) last
        (blocks-into sifted now of_few few-own a t e (few-found e pass) (held-on sifted sifted-stays e h));
    one = λ u d e inside same g h. blocks-one sifted now of_few few-own a u d e inside same
        (new-from T sifted s (length (sifted ++ s ∷ []) - 1) (map d context) last g) (new-from T sifted s (length (sifted ++ s ∷ []) - 1) (map e context) last h);
  }
    where
      s : Step
      s = each_few a

      now : AreReady q F lF T (Rel T sifted) known parts
      now = ready-on sifted sifted-stays

      last : length (sifted ++ s ∷ []) - 1 ≡ length sifted
      last = omega (arith, length_push sifted s)

  blocks-level : (a : Bool) → (a ≡ true → are_single (variables_of q F) parts ≡ true) → IsLevel (before ++ block_steps q number F context only bounds parts (length before) a) a
  blocks-level a t = go (has_few q bounds F parts)
    where
      go : (f : Bool) → IsLevel (before ++ cond f (few ∷ each_few a ∷ []) (step Holds number context (by_block a (block_group q F only parts context)) ∷ [])) a
      go true = subst (λ z. IsLevel z a) (append_assoc before (few ∷ []) (each_few a ∷ [])) (few-level a t)
      go false = block-level a t

  -- contexts are looked for, and then each block of them
  abbrev block : List ℕ
  block = block_of q F context

  -- the last of these steps has each context of a row that suits
  record IsLooked (steps : List Step) : Type 0 where
    stays : Stays T before steps
    some : length before < length steps
    shaped : (s : List Value) → Rel T steps (length steps - 1) s → (c : ℕ → Value) × (s ≡ map c block)
    into : (e : ℕ → Value) → ArePassed e → (d : ℕ → Value) → Keeps known e d → Rel T steps (length steps - 1) (map d block)

  -- so where a select has them
  looked-by : (ss : List Step) → Stays T before ss → (select : Select) → ((s : List Value) → Selects T (Rel T ss) select s → (c : ℕ → Value) × (s ≡ map c block)) →
      ((e : ℕ → Value) → ArePassed e → (d : ℕ → Value) → Keeps known e d → Selects T (Rel T ss) select (map d block)) →
      IsLooked (ss ++ step Blocks number block (Distinct select) ∷ [])
  looked-by ss stays select shaped into = record {
    stays = stays-push T before ss b stays;
    some = omega (arith, length_push ss b, stays.longer);
    shaped = λ s r. shaped s (new-from T ss b (length (ss ++ b ∷ []) - 1) s last r);
    into = λ e passed d k. new-into T ss b (length (ss ++ b ∷ []) - 1) (map d block) last (into e passed d k);
  }
    where
      b : Step
      b = step Blocks number block (Distinct select)

      last : length (ss ++ b ∷ []) - 1 ≡ length ss
      last = omega (arith, length_push ss b)

  guard-looked : (g : Bound) → Contains bounds g → ((v : ℕ) → Contains block v → Contains (variables_of q g.atom) v) → IsLooked (before ++ one_step q number g.atom g.only [] block)
  guard-looked g m of = looked-by before (stays-self T before) (rows_of_atom q g.atom g.only [] block) (λ s h. bound-from q T known before g (bound g m) block of s h)
      (λ e passed d k. bound-into q T known before g (bound g m) block of d (passed-keeps q T known before g e d (bound g m) k (passed g m)))

  -- two atoms before, whose rows are joined
  module _ (near far : Bound) (mn : Contains bounds near) (mf : Contains bounds far) (t : completes q near block far ≡ true) where
    abbrev two_columns : List ℕ
    two_columns = far_columns q near far block

    abbrev two_part : Part
    two_part = rows_part number (length before) two_columns

    abbrev rows : Step
    rows = step Rows number two_columns (Distinct (rows_of_atom q far.atom far.only [] two_columns))

    abbrev widened : List Step
    widened = before ++ rows ∷ []

    widened-stays : Stays T before widened
    widened-stays = stays-push T before before rows (stays-self T before)

    columns-far : (v : ℕ) → Contains two_columns v → Contains (variables_of q far.atom) v
    columns-far = columns-of q near far (bound near mn).atom (bound far mf).atom block number (length before)

    rows-long : (h : List Value) → Rel T widened (length before) h → length h ≡ length two_columns
    rows-long h r =
        let c = bound-from q T known before far (bound far mf) two_columns columns-far h (new-from T before rows (length before) h refl r) in
        ap length c.1 ∙ length-map two_columns c.0

    two-parts : AreReady q near.atom (bound near mn).atom T (Rel T widened) known (two_part ∷ [])
    two-parts = two-ready q near far (bound near mn).atom (bound far mf).atom block number (length before) T (Rel T widened) known (bound far mf).within rows-long

    near-own : (o : Within) → Contains near.only o → (k : ℕ) × (o.cell ≡ cell 0 k)
    near-own o m = let k = (bound near mn).of_key o m in (k.0, k.2)

    of : (v : ℕ) → Contains block v → IsOf q near.atom (bound near mn).atom known (two_part ∷ []) v
    of = of-two q near far (bound near mn).atom (bound far mf).atom block number (length before) known t

    two-into : (e : ℕ → Value) → ArePassed e → (d : ℕ → Value) → Keeps known e d → Selects T (Rel T widened) (rows_of_atom q near.atom near.only (two_part ∷ []) block) (map d block)
    two-into e passed d k = plain-into q near.atom (bound near mn).atom T (Rel T widened) known (two_part ∷ []) two-parts near.only near-own block of z.0 d z.1 z.2
        (of-part q near far (bound near mn).atom (bound far mf).atom block number (length before) (λ p. Rel T widened p.step (map d p.columns)) there) z.3
      where
        z : IsPassed q T widened d near
        z = passed-stays q T known before widened near d widened-stays (bound near mn) (passed-keeps q T known before near e d (bound near mn) k (passed near mn))

        there : Rel T widened (length before) (map d two_columns)
        there = new-into T before rows (length before) (map d two_columns) refl (bound-into q T known before far (bound far mf) two_columns columns-far d (passed-keeps q T known before far e d (bound far mf) k (passed far mf)))

    two-looked : IsLooked (before ++ two_steps q number near far block (length before))
    two-looked = subst IsLooked (append_assoc before (rows ∷ []) (step Blocks number block (Distinct (rows_of_atom q near.atom near.only (two_part ∷ []) block)) ∷ []))
        (looked-by widened widened-stays (rows_of_atom q near.atom near.only (two_part ∷ []) block)
        (λ s h. let b = plain-from q near.atom (bound near mn).atom T (Rel T widened) known (two_part ∷ []) two-parts near.only near-own block of s h (λ v. nothing) in (b.2.0, b.2.3))
        (λ e passed d k. two-into e passed d k))

  -- so for steps that may be there
  abbrev AreLooked : Option (List Step) → Type 0
  AreLooked None = Unit {0}
  AreLooked (Some looked) = IsLooked (before ++ looked)

  all-looked : AreLooked (looked_steps q number F bounds block (length before) (guard_for q bounds block))
  all-looked = go (guard_for q bounds block) refl
    where
      by-near : (near : Bound) → Contains bounds near → (found : Option Bound) → first_of (λ b. completes q near block b) bounds ≡ found → AreLooked (far_steps q number block (length before) near found)
      by-near near m None e = tt
      by-near near m (Some far) e = let r = first-in (λ b. completes q near block b) bounds far e in two-looked near far m r.0 r.1

      by-key : (found : Option Bound) → guard_for q bounds (key_variables q F) ≡ found → AreLooked (near_steps q number bounds block (length before) found)
      by-key None e = tt
      by-key (Some near) e = by-near near (first-in (λ b. covers (variables_of q b.atom) (key_variables q F)) bounds near e).0 (first_of (λ b. completes q near block b) bounds) refl

      go : (found : Option Bound) → guard_for q bounds block ≡ found → AreLooked (looked_steps q number F bounds block (length before) found)
      go None e = by-key (guard_for q bounds (key_variables q F)) refl
      go (Some g) e = let r = guard_for-in q T bounds block g e in guard-looked g r.0 r.1

  abbrev holds : ℕ → Step
  holds place = step Holds number context (Grouped (context_group q F place block parts context))

  contexts-level : (opened : List Step) → IsLooked opened → IsLevel (opened ++ holds (length opened - 1) ∷ []) false
  contexts-level opened h = record {
    stays = stays-push T before opened (holds place) h.stays;
    some = omega (arith, length_push opened (holds place), h.some);
    wide = λ x r. groups-long T (Rel T opened) (context_group q F place block parts context) x (new-from T opened (holds place) (length (opened ++ holds place ∷ []) - 1) x last r) ∙ length-map context (λ v. cell_of (end q F lF known parts (held 1 0 block) 2) v);
    from = λ e r. held-back opened h.stays e (context-group-from q F lF T (Rel T opened) known parts now place h.shaped e (new-from T opened (holds place) (length (opened ++ holds place ∷ []) - 1) (map e context) last r));
    into = λ e passed pass held. new-into T opened (holds place) (length (opened ++ holds place ∷ []) - 1) (map e context) last
        (context-group-into q F lF T (Rel T opened) known parts now place h.shaped e
        (λ y d my k s hold. h.into e passed d k) (held-on opened h.stays e held));
    one = λ u. absurd (false≢true u);
  }
    where
      place : ℕ
      place = length opened - 1

      now : AreReady q F lF T (Rel T opened) known parts
      now = ready-on opened h.stays

      last : length (opened ++ holds place ∷ []) - 1 ≡ length opened
      last = omega (arith, length_push opened (holds place))

  contexts-behind : (looked : List Step) → IsLooked (before ++ looked) → IsLevel (before ++ context_steps q number F context parts (length before) looked) false
  contexts-behind looked h = subst (λ z. IsLevel z false)
      (ap (λ n. (before ++ looked) ++ holds n ∷ []) (let l : length (before ++ looked) - 1 ≡ length before + length looked - 1 = omega (arith, length-append before looked) in l)
      ∙ append_assoc before looked (holds (length before + length looked - 1) ∷ []))
      (contexts-level (before ++ looked) h)

  behind-level : (found : Option (List Step)) → AreLooked found → IsLevel (before ++ behind_steps q number F context only bounds parts (length before) found) false
  behind-level None h = blocks-level false (λ u. absurd (false≢true u))
  behind-level (Some looked) h = contexts-behind looked h

  pub level : IsLevel (before ++ level_steps q number F context only bounds parts (length before)) (are_single (variables_of q F) parts)
  level = go (is_joined q F context bounds parts) (are_single (variables_of q F) parts) refl refl
    where
      looked : Option (List Step)
      looked = looked_steps q number F bounds block (length before) (guard_for q bounds block)

      joined : Step
      joined = step Holds number context (Distinct (rows_of_atom q F only parts context))

      go : (b a : Bool) → is_joined q F context bounds parts ≡ b → are_single (variables_of q F) parts ≡ a →
          IsLevel (before ++ cond b (joined ∷ []) (cond a (block_steps q number F context only bounds parts (length before) true) (behind_steps q number F context only bounds parts (length before) looked))) a
      go true a u t = subst (λ z. IsLevel (before ++ joined ∷ []) z) t (strict-level (and_parts (atom_at q F).strict (are_single (variables_of q F) parts || not (is_guarded q bounds block)) u).0)
      go false true u t = blocks-level true (λ v. t)
      go false false u t = behind-level looked all-looked
