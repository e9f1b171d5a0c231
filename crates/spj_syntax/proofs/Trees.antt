-- Tokens are written by one tree at most.
use Rattle.std.proofs.Common.{◌≡◌, ◌⊎◌, inl, inr, ℕ, List, [], ◌∷◌, ◌++◌, Option, Some, None, refl, sym, ◌∙◌, ap, append_assoc, codes, length, ◌<◌, get_or, arith}
use Rattle.std.proofs.Common.{◌≤◌, ◌+◌, ◌*◌, Bool, true, false, nat_eq}
use Rattle.std.specs.List.{list_any}
use Rattle.std.specs.Coded.{le_prop}
use Rattle.std.proofs.Props.{props}
use Rattle.std.proofs.lemmas.List.{append-nil}
use mathlib.Core.HLevel.{is_prop→PathP}
use Rattle.spj_syntax.specs.Limits.{most_items}
use Rattle.spj_syntax.specs.Names.{AreNames}
use Rattle.script_lex.specs.declared.kinds.Symbol.{Symbol}
use Rattle.script_lex.specs.declared.kinds.Symbol.TheVariants as s
use Rattle.cqa_value.specs.declared.value.Kind.{Kind}
use Rattle.cqa_value.specs.declared.value.Kind.TheVariants as kinds
use Rattle.cqa_model.specs.declared.schema.Column.{Column}
use Rattle.schema_text.specs.Text.{kind_word}
use Rattle.cqa_model.specs.declared.query.Op.{Op}
use Rattle.cqa_model.specs.declared.query.Op.TheVariants as ops
use Rattle.cqa_value.specs.declared.value.Value.{Value}
use Rattle.cqa_value.specs.declared.value.Value.TheVariants.{Int, Text}
use Rattle.spj_syntax.specs.declared.tree.RawSchema.{RawSchema}
use Rattle.spj_syntax.specs.declared.tree.RawTest.{RawTest}
use Rattle.spj_syntax.specs.declared.tree.RawCol.{RawCol}
use Rattle.spj_syntax.specs.declared.tree.RawCond.{RawCond}
use Rattle.spj_syntax.specs.declared.tree.RawCond.TheVariants.{Join, Test}
use Rattle.spj_syntax.specs.Lexemes.{Lexeme, Word, Number, Quoted, Mark}
use Rattle.spj_syntax.specs.Written.{name_tokens, literal_tokens, column_tokens, listed_tokens, row_tokens, schema_tokens, op_symbol, test_tokens, col_tokens_of, col_tokens, cond_tokens, each_after, between, filtered_tokens, head_tokens, select_tokens, selects_tokens, row_for_tokens, verb_tokens, strict_tokens, change_tokens, order_tokens, block_tokens, goal_tokens, grouped_tokens, anded_tokens, join_goal_tokens, join_grouped_tokens, range_tokens, statement_tokens}
use Rattle.spj_syntax.specs.declared.tree.Change.{Change}
use Rattle.spj_syntax.specs.declared.tree.Change.TheVariants as changes
use Rattle.spj_syntax.specs.declared.tree.Select.{Select}
use Rattle.spj_syntax.specs.declared.tree.Selects.{Selects}
use Rattle.spj_syntax.specs.declared.tree.Verb.{Verb}
use Rattle.spj_syntax.specs.declared.tree.Verb.TheVariants as verbs
use Rattle.spj_syntax.specs.declared.tree.RawGoal.{RawGoal}
use Rattle.spj_syntax.specs.declared.tree.RawGoal.TheVariants as goals
use Rattle.spj_syntax.specs.declared.tree.RawJoinGoal.{RawJoinGoal}
use Rattle.spj_syntax.specs.declared.tree.RawJoinGoal.TheVariants as join_goals
use Rattle.spj_syntax.specs.declared.tree.RawRange.{RawRange}
use Rattle.spj_syntax.specs.declared.tree.RawBlock.{RawBlock}
use Rattle.spj_syntax.specs.declared.tree.Statement.{Statement}
use Rattle.spj_syntax.specs.declared.tree.Statement.TheVariants as statements

-- the tokens don't go on with one of these
abbrev Fine : (Lexeme → Type 0) → List Lexeme → Type 0
Fine S [] = Unit {0}
Fine S (t ∷ ts) = S t → ⊥

abbrev Never : Lexeme → Type 0
Never t = ⊥

name_decodes : (a b : List ℕ) (r z : List Lexeme) → name_tokens a ++ r ≡ name_tokens b ++ z → (a ≡ b) × (r ≡ z)
name_decodes a b r z e = ((cc), (cc))

literal_decodes : (a b : Value) (r z : List Lexeme) → literal_tokens a ++ r ≡ literal_tokens b ++ z → (a ≡ b) × (r ≡ z)
literal_decodes (Int m) (Int n) r z e = let h : m ≡ n = cc in (ap Int h, (cc))
literal_decodes (Int m) (Text t) r z e = absurd (cc)
literal_decodes (Text t) (Int m) r z e = absurd (cc)
literal_decodes (Text t) (Text u) r z e = let h : t ≡ u = cc in (ap Text h, (cc))

op_same : (a b : Op) → op_symbol a ≡ op_symbol b → a ≡ b
op_same ops.Eq ops.Eq e = refl
op_same ops.Ne ops.Ne e = refl
op_same ops.Lt ops.Lt e = refl
op_same ops.Le ops.Le e = refl
op_same ops.Gt ops.Gt e = refl
op_same ops.Ge ops.Ge e = refl
op_same _ _ e = (cc)

test_decodes : (a b : RawTest) (r z : List Lexeme) → test_tokens a ++ r ≡ test_tokens b ++ z → (a ≡ b) × (r ≡ z)
test_decodes a b r z e =
    let n : a.col ≡ b.col = cc in
    let o : op_symbol a.op ≡ op_symbol b.op = cc in
    let t : literal_tokens a.value ++ r ≡ literal_tokens b.value ++ z = cc in
    let l = literal_decodes a.value b.value r z t in
    let p = op_same a.op b.op o in
    let v = l.0 in
    (λ i. record { col = n i; op = p i; value = v i }, l.1)

abbrev IsDot : Lexeme → Type 0
IsDot t = t ≡ Mark s.Dot

col_decodes : (t u : Option (List ℕ)) (n m : List ℕ) (r z : List Lexeme) → Fine IsDot r → Fine IsDot z → col_tokens_of t n ++ r ≡ col_tokens_of u m ++ z → (t ≡ u) × (n ≡ m) × (r ≡ z)
col_decodes None None n m r z f g e = (refl, (cc), (cc))
col_decodes None (Some u) n m [] z f g e = absurd (cc)
col_decodes None (Some u) n m (t ∷ r) z f g e = absurd (f (let h : t ≡ Mark s.Dot = cc in h))
col_decodes (Some t) None n m r [] f g e = absurd (cc)
col_decodes (Some t) None n m r (u ∷ z) f g e = absurd (g (let h : u ≡ Mark s.Dot = cc in h))
col_decodes (Some t) (Some u) n m r z f g e = let h : t ≡ u = cc in (ap Some h, (cc), (cc))

cols_decode : (a b : RawCol) (r z : List Lexeme) → Fine IsDot r → Fine IsDot z → col_tokens a ++ r ≡ col_tokens b ++ z → (a ≡ b) × (r ≡ z)
cols_decode a b r z f g e = let d = col_decodes a.table b.table a.name b.name r z f g e in let x = d.0 in let y = d.1 in (λ i. record { table = x i; name = y i }, d.2)

not_dot : (y : Symbol) → (y ≡ s.Dot → ⊥) → (Mark y ≡ Mark s.Dot) → ⊥
not_dot y n e = n (cc)

op_not_dot : (o : Op) → op_symbol o ≡ s.Dot → ⊥
op_not_dot ops.Eq e = (cc)
op_not_dot ops.Ne e = (cc)
op_not_dot ops.Lt e = (cc)
op_not_dot ops.Le e = (cc)
op_not_dot ops.Gt e = (cc)
op_not_dot ops.Ge e = (cc)

col_no_literal : (c : Option (List ℕ)) (n : List ℕ) (v : Value) (r z : List Lexeme) → col_tokens_of c n ++ r ≡ literal_tokens v ++ z → ⊥
col_no_literal None n (Int x) r z e = absurd (cc)
col_no_literal None n (Text x) r z e = absurd (cc)
col_no_literal (Some t) n (Int x) r z e = absurd (cc)
col_no_literal (Some t) n (Text x) r z e = absurd (cc)

cond_decodes : (a b : RawCond) (r z : List Lexeme) → Fine IsDot r → Fine IsDot z → cond_tokens a ++ r ≡ cond_tokens b ++ z → (a ≡ b) × (r ≡ z)
cond_decodes (Join a c) (Join b d) r z f g e =
    let k = sym (append_assoc (col_tokens a) (Mark s.Eq ∷ col_tokens c) r) ∙ e ∙ append_assoc (col_tokens b) (Mark s.Eq ∷ col_tokens d) z in
    let h = cols_decode a b (Mark s.Eq ∷ (col_tokens c ++ r)) (Mark s.Eq ∷ (col_tokens d ++ z)) (λ x. not_dot s.Eq (λ y. (cc)) x) (λ x. not_dot s.Eq (λ y. (cc)) x) k in
    let t : col_tokens c ++ r ≡ col_tokens d ++ z = cc (h.1) in
    let l = cols_decode c d r z f g t in
    let x = h.0 in
    let y = l.0 in
    (λ i. Join (x i) (y i), l.1)
cond_decodes (Join a c) (Test b o v) r z f g e =
    let k = sym (append_assoc (col_tokens a) (Mark s.Eq ∷ col_tokens c) r) ∙ e ∙ append_assoc (col_tokens b) (Mark (op_symbol o) ∷ literal_tokens v) z in
    let h = cols_decode a b (Mark s.Eq ∷ (col_tokens c ++ r)) (Mark (op_symbol o) ∷ (literal_tokens v ++ z)) (λ x. not_dot s.Eq (λ y. (cc)) x) (λ x. not_dot (op_symbol o) (op_not_dot o) x) k in
    let t : col_tokens c ++ r ≡ literal_tokens v ++ z = cc (h.1) in
    absurd (col_no_literal c.table c.name v r z t)
cond_decodes (Test b o v) (Join a c) r z f g e =
    let k = sym (append_assoc (col_tokens b) (Mark (op_symbol o) ∷ literal_tokens v) r) ∙ e ∙ append_assoc (col_tokens a) (Mark s.Eq ∷ col_tokens c) z in
    let h = cols_decode b a (Mark (op_symbol o) ∷ (literal_tokens v ++ r)) (Mark s.Eq ∷ (col_tokens c ++ z)) (λ x. not_dot (op_symbol o) (op_not_dot o) x) (λ x. not_dot s.Eq (λ y. (cc)) x) k in
    let t : literal_tokens v ++ r ≡ col_tokens c ++ z = cc (h.1) in
    absurd (col_no_literal c.table c.name v z r (sym t))
cond_decodes (Test a o v) (Test b q w) r z f g e =
    let k = sym (append_assoc (col_tokens a) (Mark (op_symbol o) ∷ literal_tokens v) r) ∙ e ∙ append_assoc (col_tokens b) (Mark (op_symbol q) ∷ literal_tokens w) z in
    let h = cols_decode a b (Mark (op_symbol o) ∷ (literal_tokens v ++ r)) (Mark (op_symbol q) ∷ (literal_tokens w ++ z)) (λ x. not_dot (op_symbol o) (op_not_dot o) x) (λ x. not_dot (op_symbol q) (op_not_dot q) x) k in
    let t : literal_tokens v ++ r ≡ literal_tokens w ++ z = cc (h.1) in
    let y : op_symbol o ≡ op_symbol q = cc (h.1) in
    let l = literal_decodes v w r z t in
    let x = h.0 in
    let p = op_same o q y in
    let n = l.0 in
    (λ i. Test (x i) (p i) (n i), l.1)

-- a list whose items are told apart, with a token before each that none of them goes on with
abbrev OrAlso : Lexeme → (Lexeme → Type 0) → Lexeme → Type 0
OrAlso l S t = (t ≡ l) ⊎ S t

fine_more : {A : Type 0} (l : Lexeme) (S : Lexeme → Type 0) (f : A → List Lexeme) (xs : List A) (r : List Lexeme) → (S l → ⊥) → Fine (OrAlso l S) r → Fine S (each_after l f xs ++ r)
fine_more l S f [] [] n h = tt
fine_more l S f [] (t ∷ r) n h = λ k. h (inr k)
fine_more l S f (x ∷ xs) r n h = n

each_decodes : {A : Type 0} (l : Lexeme) (S : Lexeme → Type 0) (f : A → List Lexeme) → (S l → ⊥)
    → ((a b : A) (r z : List Lexeme) → Fine S r → Fine S z → f a ++ r ≡ f b ++ z → (a ≡ b) × (r ≡ z))
    → (xs ys : List A) (r z : List Lexeme) → Fine (OrAlso l S) r → Fine (OrAlso l S) z → each_after l f xs ++ r ≡ each_after l f ys ++ z → (xs ≡ ys) × (r ≡ z)
each_decodes l S f n d [] [] r z h k e = (refl, e)
each_decodes l S f n d [] (y ∷ ys) [] z h k e = absurd (cc)
each_decodes l S f n d [] (y ∷ ys) (t ∷ r) z h k e = absurd (h (inl (let g : t ≡ l = cc in g)))
each_decodes l S f n d (x ∷ xs) [] r [] h k e = absurd (cc)
each_decodes l S f n d (x ∷ xs) [] r (t ∷ z) h k e = absurd (k (inl (let g : t ≡ l = cc in g)))
each_decodes l S f n d (x ∷ xs) (y ∷ ys) r z h k e =
    let g : (f x ++ each_after l f xs) ++ r ≡ (f y ++ each_after l f ys) ++ z = cc in
    let i = d x y (each_after l f xs ++ r) (each_after l f ys ++ z) (fine_more l S f xs r n h) (fine_more l S f ys z n k) (sym (append_assoc (f x) (each_after l f xs) r) ∙ g ∙ append_assoc (f y) (each_after l f ys) z) in
    let j = each_decodes l S f n d xs ys r z h k i.1 in
    (ap (λ a. a ∷ xs) i.0 ∙ ap (λ a. y ∷ a) j.0, j.1)

between_decodes : {A : Type 0} (l : Lexeme) (S : Lexeme → Type 0) (f : A → List Lexeme) → (S l → ⊥)
    → ((a b : A) (r z : List Lexeme) → Fine S r → Fine S z → f a ++ r ≡ f b ++ z → (a ≡ b) × (r ≡ z))
    → (xs ys : List A) (r z : List Lexeme) → 0 < length xs → 0 < length ys → Fine (OrAlso l S) r → Fine (OrAlso l S) z → between l f xs ++ r ≡ between l f ys ++ z → (xs ≡ ys) × (r ≡ z)
between_decodes l S f n d [] ys r z p q h k e = absurd (omega arith)
between_decodes l S f n d (x ∷ xs) [] r z p q h k e = absurd (omega arith)
between_decodes l S f n d (x ∷ xs) (y ∷ ys) r z p q h k e =
    let i = d x y (each_after l f xs ++ r) (each_after l f ys ++ z) (fine_more l S f xs r n h) (fine_more l S f ys z n k) (sym (append_assoc (f x) (each_after l f xs) r) ∙ e ∙ append_assoc (f y) (each_after l f ys) z) in
    let j = each_decodes l S f n d xs ys r z h k i.1 in
    (ap (λ a. a ∷ xs) i.0 ∙ ap (λ a. y ∷ a) j.0, j.1)

-- what may follow "where" and the list behind it, or nothing
abbrev After : (Lexeme → Type 0) → Lexeme → Type 0
After S = OrAlso (Word (codes "where")) (OrAlso (Word (codes "and")) S)

fine_after : (S : Lexeme → Type 0) (r : List Lexeme) → Fine (After S) r → Fine (OrAlso (Word (codes "and")) S) r
fine_after S [] h = tt
fine_after S (t ∷ r) h = λ k. h (inr k)

filtered_decode : {A : Type 0} (S : Lexeme → Type 0) (f : A → List Lexeme) → (S (Word (codes "and")) → ⊥)
    → ((a b : A) (r z : List Lexeme) → Fine S r → Fine S z → f a ++ r ≡ f b ++ z → (a ≡ b) × (r ≡ z))
    → (xs ys : List A) (r z : List Lexeme) → Fine (After S) r → Fine (After S) z → filtered_tokens f xs ++ r ≡ filtered_tokens f ys ++ z → (xs ≡ ys) × (r ≡ z)
filtered_decode S f n d [] [] r z h k e = (refl, e)
filtered_decode S f n d [] (y ∷ ys) [] z h k e = absurd (cc)
filtered_decode S f n d [] (y ∷ ys) (t ∷ r) z h k e = absurd (h (inl (let g : t ≡ Word (codes "where") = cc in g)))
filtered_decode S f n d (x ∷ xs) [] r [] h k e = absurd (cc)
filtered_decode S f n d (x ∷ xs) [] r (t ∷ z) h k e = absurd (k (inl (let g : t ≡ Word (codes "where") = cc in g)))
filtered_decode S f n d (x ∷ xs) (y ∷ ys) r z h k e =
    let g : between (Word (codes "and")) f (x ∷ xs) ++ r ≡ between (Word (codes "and")) f (y ∷ ys) ++ z = cc in
    between_decodes (Word (codes "and")) S f n d (x ∷ xs) (y ∷ ys) r z (omega arith) (omega arith) (fine_after S r h) (fine_after S z k) g

filtered_decodes : {A : Type 0} (S : Lexeme → Type 0) (f : A → List Lexeme) → (S (Word (codes "and")) → ⊥)
    → ((a b : A) (r z : List Lexeme) → Fine S r → Fine S z → f a ++ r ≡ f b ++ z → (a ≡ b) × (r ≡ z))
    → (xs ys : List A) → filtered_tokens f xs ≡ filtered_tokens f ys → xs ≡ ys
filtered_decodes S f n d xs ys e = (filtered_decode S f n d xs ys [] [] tt tt (ap (λ w. w ++ []) e)).0

fine_filtered : {A : Type 0} (f : A → List Lexeme) (xs : List A) (r : List Lexeme) → Fine (OrAlso (Mark s.Comma) Never) r → Fine (OrAlso (Mark s.Comma) Never) (filtered_tokens f xs ++ r)
fine_filtered f [] r g = g
fine_filtered f (x ∷ xs) r g = λ h. elim h [ inl e ↦ absurd (cc) | inr b ↦ b ]

fine_from : (r : List Lexeme) → Fine (OrAlso (Mark s.Comma) IsDot) (Word (codes "from") ∷ r)
fine_from r = λ h. elim h [ inl e ↦ absurd (cc) | inr e ↦ absurd (cc) ]

initial : List Lexeme → ℕ
initial [] = 0
initial (Word w ∷ ls) = get_or w 0 0
initial (Number z ∷ ls) = 0
initial (Quoted t ∷ ls) = 0
initial (Mark y ∷ ls) = 0

no_literal : (y : Value) (ys r t : List Lexeme) → Mark s.Close ∷ r ≡ (literal_tokens y ++ ys) ++ t → ⊥
no_literal (Int m) ys r t e = absurd (cc)
no_literal (Text m) ys r t e = absurd (cc)

fine_close : (r : List Lexeme) → Fine (OrAlso (Mark s.Comma) Never) (Mark s.Close ∷ r)
fine_close r = λ h. elim h [ inl e ↦ absurd (cc) | inr b ↦ b ]

exists_select : (r z : List Lexeme) → Word (codes "exists") ∷ r ≡ Word (codes "select") ∷ z → ⊥
unfolding initial
exists_select r z e = absurd (omega (arith, ap initial e))

head_decodes : (cs ds : List RawCol) (r z : List Lexeme) → head_tokens cs ++ (Word (codes "from") ∷ r) ≡ head_tokens ds ++ (Word (codes "from") ∷ z) → (cs ≡ ds) × (r ≡ z)
head_decodes [] [] r z e = (refl, (cc))
head_decodes [] (d ∷ ds) r z e = absurd (exists_select _ _ e)
head_decodes (c ∷ cs) [] r z e = absurd (exists_select _ _ (sym e))
head_decodes (c ∷ cs) (d ∷ ds) r z e =
    let g : between (Mark s.Comma) col_tokens (c ∷ cs) ++ (Word (codes "from") ∷ r) ≡ between (Mark s.Comma) col_tokens (d ∷ ds) ++ (Word (codes "from") ∷ z) = cc in
    let i = between_decodes (Mark s.Comma) IsDot col_tokens (λ x. not_dot s.Comma (λ y. (cc)) x) cols_decode (c ∷ cs) (d ∷ ds) _ _ (omega arith) (omega arith) (fine_from r) (fine_from z) g in
    (i.0, (cc (i.1)))

-- with what a query may go on
abbrev OfQuery : Lexeme → Type 0
OfQuery = OrAlso (Mark s.Comma) (After IsDot)

no_comma_there : (r : List Lexeme) → Fine OfQuery r → Fine (OrAlso (Mark s.Comma) Never) r
no_comma_there [] f = tt
no_comma_there (t ∷ r) f = λ h. elim h [ inl e ↦ f (inl e) | inr b ↦ b ]

no_cond_there : (r : List Lexeme) → Fine OfQuery r → Fine (After IsDot) r
no_cond_there [] f = tt
no_cond_there (t ∷ r) f = λ h. f (inr h)

-- a query is told apart where none of its tokens goes on it
select_decodes : (p q : Select) (r z : List Lexeme) → Fine OfQuery r → Fine OfQuery z → select_tokens p ++ r ≡ select_tokens q ++ z → (p ≡ q) × (r ≡ z)
select_decodes p q r z f g e =
    let tables = λ (q : Select). listed_tokens name_tokens q.tables in
    let conds = λ (q : Select). filtered_tokens cond_tokens q.conds in
    let a = head_decodes p.columns q.columns ((tables p ++ conds p) ++ r) ((tables q ++ conds q) ++ z)
    (sym (append_assoc (head_tokens p.columns) (Word (codes "from") ∷ (tables p ++ conds p)) r) ∙ e ∙ append_assoc (head_tokens q.columns) (Word (codes "from") ∷ (tables q ++ conds q)) z) in
    let b = between_decodes (Mark s.Comma) Never name_tokens (λ x. x) (λ x y r z f g e. name_decodes x y r z e) p.tables q.tables (conds p ++ r) (conds q ++ z) p.some_table q.some_table
    (fine_filtered cond_tokens p.conds r (no_comma_there r f)) (fine_filtered cond_tokens q.conds z (no_comma_there z g))
    (sym (append_assoc (tables p) (conds p) r) ∙ a.1 ∙ append_assoc (tables q) (conds q) z) in
    let c = filtered_decode IsDot cond_tokens (λ x. absurd (cc)) cond_decodes p.conds q.conds r z (no_cond_there r f) (no_cond_there z g) b.1 in
    let x = a.0 in
    let y = b.0 in
    let w = c.0 in (
      λ i. record {
        columns = x i;
        tables = y i;
        conds = w i;
        some_table = is_prop→PathP (λ j. 1 ≤ length (y j)) (λ j. le_prop) p.some_table q.some_table i;
        few = is_prop→PathP (λ j. length (w j) ≤ most_items) (λ j. le_prop) p.few q.few i;
      },
      c.1,
    )

select_same : (p q : Select) → select_tokens p ≡ select_tokens q → p ≡ q
select_same p q e = (select_decodes p q [] [] tt tt (ap (λ w. w ++ []) e)).0

-- "union" goes on no query
no_union : OfQuery (Word (codes "union")) → ⊥
unfolding initial
no_union h = elim h [
  | inl e ↦ absurd (cc)
  | inr h ↦ elim h [
    | inl e ↦ absurd (omega (arith, ap (λ l. initial (l ∷ [])) e))
    | inr h ↦ elim h [ inl e ↦ absurd (omega (arith, ap (λ l. initial (l ∷ [])) e)) | inr e ↦ absurd (cc) ]
  ]
]

parts_same : (ps qs : List Select) → 0 < length ps → 0 < length qs → between (Word (codes "union")) select_tokens ps ≡ between (Word (codes "union")) select_tokens qs → ps ≡ qs
parts_same ps qs m n e = (between_decodes (Word (codes "union")) OfQuery select_tokens no_union select_decodes ps qs [] [] m n tt tt (ap (λ w. w ++ []) e)).0

selects_same : (a b : Selects) → selects_tokens a ≡ selects_tokens b → a ≡ b
selects_same a b e =
    let p = parts_same a.parts b.parts (omega (arith, a.two)) (omega (arith, b.two)) e in
    λ i. record { parts = p i; two = is_prop→PathP (λ j. 2 ≤ length (p j)) (λ j. le_prop) a.two b.two i }

-- one query is no union
one_no_union : (q : Select) (u : Selects) → select_tokens q ≡ selects_tokens u → ⊥
one_no_union q u e =
    let p = parts_same (q ∷ []) u.parts (omega arith) (omega (arith, u.two)) (append-nil (select_tokens q) ∙ e) in
    absurd (omega (arith, ap length p, u.two))

-- what a list of literals goes on with, where a `)` ends it
literals_decode : (xs ys : List Value) (r z : List Lexeme) → listed_tokens literal_tokens xs ++ Mark s.Close ∷ r ≡ listed_tokens literal_tokens ys ++ Mark s.Close ∷ z → (xs ≡ ys) × (r ≡ z)
literals_decode [] [] r z e = (refl, (cc))
literals_decode [] (y ∷ ys) r z e = absurd (no_literal y (each_after (Mark s.Comma) literal_tokens ys) r (Mark s.Close ∷ z) e)
literals_decode (x ∷ xs) [] r z e = absurd (no_literal x (each_after (Mark s.Comma) literal_tokens xs) z (Mark s.Close ∷ r) (sym e))
literals_decode (x ∷ xs) (y ∷ ys) r z e =
    let i = between_decodes (Mark s.Comma) Never literal_tokens (λ x. x) (λ a b u v f g h. literal_decodes a b u v h) (x ∷ xs) (y ∷ ys) _ _ (omega arith) (omega arith) (fine_close r) (fine_close z) e in
    (i.0, (cc (i.1)))

row_decodes : (a b : List Value) (r z : List Lexeme) → row_tokens a ++ r ≡ row_tokens b ++ z → (a ≡ b) × (r ≡ z)
row_decodes a b r z e =
    let g : (listed_tokens literal_tokens a ++ Mark s.Close ∷ []) ++ r ≡ (listed_tokens literal_tokens b ++ Mark s.Close ∷ []) ++ z = cc in
    literals_decode a b r z (sym (append_assoc (listed_tokens literal_tokens a) (Mark s.Close ∷ []) r) ∙ g ∙ append_assoc (listed_tokens literal_tokens b) (Mark s.Close ∷ []) z)

kind_same : (a b : Kind) → kind_word a ≡ kind_word b → a ≡ b
kind_same kinds.Int kinds.Int e = refl
kind_same kinds.Text kinds.Text e = refl
kind_same kinds.Int kinds.Text e = absurd (omega (arith, ap (λ w. get_or w 0 0) e))
kind_same kinds.Text kinds.Int e = absurd (omega (arith, ap (λ w. get_or w 0 0) e))

column_decodes : (a b : Column) (r z : List Lexeme) → column_tokens a ++ r ≡ column_tokens b ++ z → (a ≡ b) × (r ≡ z)
column_decodes a b r z e =
    let n : a.name ≡ b.name = cc in
    let w : kind_word a.kind ≡ kind_word b.kind = cc in
    let k = kind_same a.kind b.kind w in
    (λ i. record { name = n i; kind = k i }, (cc))

-- the key, which no column begins with
abbrev Key : List Lexeme → List Lexeme
Key r = Mark s.Comma ∷ Word (codes "primary") ∷ Word (codes "key") ∷ r

kind_no_key : (k : Kind) → kind_word k ≡ codes "key" → ⊥
kind_no_key kinds.Int e = absurd (omega (arith, ap (λ w. get_or w 0 0) e))
kind_no_key kinds.Text e = absurd (omega (arith, ap (λ w. get_or w 0 0) e))

column_no_key : (c : Column) (t r : List Lexeme) → Mark s.Comma ∷ (column_tokens c ++ t) ≡ Key r → ⊥
column_no_key c t r e = kind_no_key c.kind (cc)

columns_decode : (xs ys : List Column) (r z : List Lexeme) → each_after (Mark s.Comma) column_tokens xs ++ Key r ≡ each_after (Mark s.Comma) column_tokens ys ++ Key z → (xs ≡ ys) × (r ≡ z)
columns_decode [] [] r z e = (refl, (cc))
columns_decode [] (y ∷ ys) r z e = absurd (column_no_key y (each_after (Mark s.Comma) column_tokens ys ++ Key z) r (sym e))
columns_decode (x ∷ xs) [] r z e = absurd (column_no_key x (each_after (Mark s.Comma) column_tokens xs ++ Key r) z e)
columns_decode (x ∷ xs) (y ∷ ys) r z e =
    let g : column_tokens x ++ (each_after (Mark s.Comma) column_tokens xs ++ Key r) ≡ column_tokens y ++ (each_after (Mark s.Comma) column_tokens ys ++ Key z) = cc in
    let i = column_decodes x y _ _ g in
    let j = columns_decode xs ys r z i.1 in
    (ap (λ a. a ∷ xs) i.0 ∙ ap (λ a. y ∷ a) j.0, j.1)

all_columns_decode : (xs ys : List Column) (r z : List Lexeme) → 0 < length xs → 0 < length ys → listed_tokens column_tokens xs ++ Key r ≡ listed_tokens column_tokens ys ++ Key z → (xs ≡ ys) × (r ≡ z)
all_columns_decode [] ys r z p q e = absurd (omega arith)
all_columns_decode (x ∷ xs) [] r z p q e = absurd (omega arith)
all_columns_decode (x ∷ xs) (y ∷ ys) r z p q e =
    let i = column_decodes x y (each_after (Mark s.Comma) column_tokens xs ++ Key r) (each_after (Mark s.Comma) column_tokens ys ++ Key z) e in
    let j = columns_decode xs ys r z i.1 in
    (ap (λ a. a ∷ xs) i.0 ∙ ap (λ a. y ∷ a) j.0, j.1)

abbrev key_rest : List (List ℕ) → List Lexeme
key_rest names = Mark s.Open ∷ (listed_tokens name_tokens names ++ (Mark s.Close ∷ Mark s.Close ∷ []))

are_names-prop : {n : List ℕ} {cs : List Column} {k : List (List ℕ)} → IsProp (AreNames n cs k)
are_names-prop = hlevel props

schema_same : (a b : RawSchema) → a.strict ≡ b.strict → schema_tokens a ≡ schema_tokens b → a ≡ b
schema_same a b m e =
    let n : a.name ≡ b.name = cc in
    let c : listed_tokens column_tokens a.columns ++ Key (key_rest a.key) ≡ listed_tokens column_tokens b.columns ++ Key (key_rest b.key) = cc in
    let i = all_columns_decode a.columns b.columns (key_rest a.key) (key_rest b.key) a.some_column b.some_column c in
    let d : listed_tokens name_tokens a.key ++ (Mark s.Close ∷ Mark s.Close ∷ []) ≡ listed_tokens name_tokens b.key ++ (Mark s.Close ∷ Mark s.Close ∷ []) = cc (i.1) in
    let j = between_decodes (Mark s.Comma) Never name_tokens (λ x. x) (λ x y u v f g d. name_decodes x y u v d) a.key b.key _ _ a.some_key b.some_key (fine_close (Mark s.Close ∷ [])) (fine_close (Mark s.Close ∷ [])) d in
    let x = i.0 in
    let y = j.0 in
    λ i. record {
      name = n i;
      columns = x i;
      key = y i;
      strict = m i;
      some_column = is_prop→PathP (λ j. 1 ≤ length (x j)) (λ j. le_prop) a.some_column b.some_column i;
      some_key = is_prop→PathP (λ j. 1 ≤ length (y j)) (λ j. le_prop) a.some_key b.some_key i;
      named = is_prop→PathP (λ j. AreNames (n j) (x j) (y j)) (λ j. are_names-prop) a.named b.named i;
    }

rows_same : (xs ys : List (List Value)) → listed_tokens row_tokens xs ≡ listed_tokens row_tokens ys → xs ≡ ys
rows_same [] [] e = refl
rows_same [] (y ∷ ys) e = absurd (cc)
rows_same (x ∷ xs) [] e = absurd (cc)
rows_same (x ∷ xs) (y ∷ ys) e = (between_decodes (Mark s.Comma) Never row_tokens (λ x. x) (λ a b u v f g h. row_decodes a b u v h) (x ∷ xs) (y ∷ ys) [] [] (omega arith) (omega arith) tt tt (ap (λ w. w ++ []) e)).0

-- the first three bytes of the first word, in one number
mark_of : List Lexeme → ℕ
mark_of [] = 0
mark_of (Word v ∷ ls) = (get_or v 0 0 * 256 + get_or v 1 0) * 256 + get_or v 2 0
mark_of (Number z ∷ ls) = 0
mark_of (Quoted t ∷ ls) = 0
mark_of (Mark y ∷ ls) = 0

second_mark : List Lexeme → ℕ
second_mark [] = 0
second_mark (l ∷ ls) = mark_of ls

row_for_decodes : (a b : List Value) (r z : List Lexeme) → row_for_tokens a ++ r ≡ row_for_tokens b ++ z → (a ≡ b) × (r ≡ z)
row_for_decodes a b r z e =
    let g : (row_tokens a ++ Word (codes "for") ∷ []) ++ r ≡ (row_tokens b ++ Word (codes "for") ∷ []) ++ z = cc in
    let i = row_decodes a b (Word (codes "for") ∷ r) (Word (codes "for") ∷ z) (sym (append_assoc (row_tokens a) (Word (codes "for") ∷ []) r) ∙ g ∙ append_assoc (row_tokens b) (Word (codes "for") ∷ []) z) in
    (i.0, (cc (i.1)))

-- the verbs differ in them
verb_decodes : (a b : Verb) (r z : List Lexeme) → verb_tokens a ++ r ≡ verb_tokens b ++ z → (a ≡ b) × (r ≡ z)
unfolding mark_of
verb_decodes verbs.Ask verbs.Ask r z e = (refl, (cc))
verb_decodes verbs.Possible verbs.Possible r z e = (refl, (cc))
verb_decodes verbs.Disputed verbs.Disputed r z e = (refl, (cc))
verb_decodes verbs.Classify verbs.Classify r z e = (refl, (cc))
verb_decodes verbs.Plan verbs.Plan r z e = (refl, (cc))
verb_decodes verbs.Sql verbs.Sql r z e = (refl, (cc))
verb_decodes (verbs.Explain a) (verbs.Explain b) r z e = let i = row_for_decodes a b r z (cc) in (ap verbs.Explain i.0, i.1)
verb_decodes (verbs.Against a) (verbs.Against b) r z e = let i = row_for_decodes a b r z (cc) in (ap verbs.Against i.0, i.1)
verb_decodes (verbs.Prove a) (verbs.Prove b) r z e = let i = row_for_decodes a b r z (cc) in (ap verbs.Prove i.0, i.1)
verb_decodes _ _ r z e = absurd (omega (arith, ap mark_of e))

verb_marks : List ℕ
verb_marks = mark_of (verb_tokens verbs.Ask) ∷ mark_of (verb_tokens verbs.Possible) ∷ mark_of (verb_tokens verbs.Disputed) ∷ mark_of (verb_tokens verbs.Classify) ∷ mark_of (verb_tokens verbs.Plan) ∷ mark_of (verb_tokens verbs.Sql) ∷ mark_of (verb_tokens (verbs.Explain [])) ∷ mark_of (verb_tokens (verbs.Against [])) ∷ mark_of (verb_tokens (verbs.Prove [])) ∷ []

is_verb : List Lexeme → Bool
is_verb ls = list_any (λ m. nat_eq m (mark_of ls)) verb_marks

opens_verb : (v : Verb) (r : List Lexeme) → is_verb (verb_tokens v ++ r) ≡ true
unfolding is_verb verb_marks mark_of
opens_verb verbs.Ask r = refl
opens_verb verbs.Possible r = refl
opens_verb verbs.Disputed r = refl
opens_verb verbs.Classify r = refl
opens_verb verbs.Plan r = refl
opens_verb verbs.Sql r = refl
opens_verb (verbs.Explain row) r = refl
opens_verb (verbs.Against row) r = refl
opens_verb (verbs.Prove row) r = refl

-- what is asked of one query is asked of no union
asked_no_union : (v w : Verb) (q : Select) (u : Selects) → verb_tokens v ++ select_tokens q ≡ verb_tokens w ++ selects_tokens u → ⊥
asked_no_union v w q u e = one_no_union q u (verb_decodes v w (select_tokens q) (selects_tokens u) e).1

-- what is told apart from each verb begins with none
no_verb : (v : Verb) (r ls : List Lexeme) → verb_tokens v ++ r ≡ ls → is_verb ls ≡ false → ⊥
no_verb v r ls e n = let h : true ≡ false = sym (opens_verb v r) ∙ ap is_verb e ∙ n in absurd (cc)

strict_table : (r z : List Lexeme) → Word (codes "strict") ∷ r ≡ Word (codes "table") ∷ z → ⊥
unfolding mark_of
strict_table r z e = absurd (omega (arith, ap mark_of e))

-- the mark stands before the word that begins the rest, or not
strict_decodes : (a b : Bool) (r z : List Lexeme) → strict_tokens a ++ (Word (codes "table") ∷ r) ≡ strict_tokens b ++ (Word (codes "table") ∷ z) → (a ≡ b) × (r ≡ z)
strict_decodes true true r z e = (refl, (cc))
strict_decodes false false r z e = (refl, (cc))
strict_decodes true false r z e = absurd (strict_table (Word (codes "table") ∷ r) z e)
strict_decodes false true r z e = absurd (strict_table (Word (codes "table") ∷ z) r (sym e))

-- what a list of names goes on with, where a `)` ends it
names_decode : (xs ys : List (List ℕ)) (r z : List Lexeme) → listed_tokens name_tokens xs ++ Mark s.Close ∷ r ≡ listed_tokens name_tokens ys ++ Mark s.Close ∷ z → (xs ≡ ys) × (r ≡ z)
names_decode [] [] r z e = (refl, (cc))
names_decode [] (y ∷ ys) r z e = absurd (cc)
names_decode (x ∷ xs) [] r z e = absurd (cc)
names_decode (x ∷ xs) (y ∷ ys) r z e =
    let i = between_decodes (Mark s.Comma) Never name_tokens (λ x. x) (λ a b u v f g h. name_decodes a b u v h) (x ∷ xs) (y ∷ ys) _ _ (omega arith) (omega arith) (fine_close r) (fine_close z) e in
    (i.0, (cc (i.1)))

-- the changes differ in their first word, or in their second
change_same : (a b : Change) → change_tokens a ≡ change_tokens b → a ≡ b
unfolding mark_of second_mark
change_same changes.SetStrict changes.SetStrict e = refl
change_same changes.DropStrict changes.DropStrict e = refl
change_same (changes.SetKey xs) (changes.SetKey ys) e =
    let g : listed_tokens name_tokens xs ++ Mark s.Close ∷ [] ≡ listed_tokens name_tokens ys ++ Mark s.Close ∷ [] = cc in
    ap changes.SetKey (names_decode xs ys [] [] g).0
change_same changes.SetStrict (changes.SetKey ys) e = absurd (omega (arith, ap second_mark e))
change_same (changes.SetKey xs) changes.SetStrict e = absurd (omega (arith, ap second_mark e))
change_same _ _ e = absurd (omega (arith, ap mark_of e))

-- the goals differ in their first word
goal_decodes : (a b : RawGoal) (r z : List Lexeme) → goal_tokens a ++ r ≡ goal_tokens b ++ z → (a ≡ b) × (r ≡ z)
unfolding mark_of
goal_decodes goals.Count goals.Count r z e = (refl, (cc))
goal_decodes (goals.Sum c) (goals.Sum d) r z e = let h : c ≡ d = cc in (ap goals.Sum h, (cc))
goal_decodes (goals.Min c) (goals.Min d) r z e = let h : c ≡ d = cc in (ap goals.Min h, (cc))
goal_decodes (goals.Max c) (goals.Max d) r z e = let h : c ≡ d = cc in (ap goals.Max h, (cc))
goal_decodes _ _ r z e = absurd (omega (arith, ap mark_of e))

-- "group" goes on no list of tests
fine_grouped : (g : Option (List ℕ)) → Fine (After Never) (grouped_tokens g)
unfolding initial
fine_grouped None = tt
fine_grouped (Some c) = λ h. elim h [
  | inl e ↦ absurd (omega (arith, ap (λ l. initial (l ∷ [])) e))
  | inr h ↦ elim h [ inl e ↦ absurd (omega (arith, ap (λ l. initial (l ∷ [])) e)) | inr b ↦ b ]
]

grouped_same : (a b : Option (List ℕ)) → grouped_tokens a ≡ grouped_tokens b → a ≡ b
grouped_same None None e = refl
grouped_same None (Some d) e = absurd (cc)
grouped_same (Some c) None e = absurd (cc)
grouped_same (Some c) (Some d) e = let h : c ≡ d = cc in ap Some h

tests_decode : (xs ys : List RawTest) → anded_tokens test_tokens xs ≡ anded_tokens test_tokens ys → xs ≡ ys
tests_decode [] [] e = refl
tests_decode [] (y ∷ ys) e = absurd (cc)
tests_decode (x ∷ xs) [] e = absurd (cc)
tests_decode (x ∷ xs) (y ∷ ys) e = (between_decodes (Word (codes "and")) Never test_tokens (λ x. x) (λ a b u v f g h. test_decodes a b u v h) (x ∷ xs) (y ∷ ys) [] [] (omega arith) (omega arith) tt tt (ap (λ w. w ++ []) e)).0

from_no_dot : (r : List Lexeme) → Fine IsDot (Word (codes "from") ∷ r)
from_no_dot r = λ e. absurd (cc)

-- the goals over several tables differ in their first word
join_goal_decodes : (a b : RawJoinGoal) (r z : List Lexeme) → Fine IsDot r → Fine IsDot z → join_goal_tokens a ++ r ≡ join_goal_tokens b ++ z → (a ≡ b) × (r ≡ z)
unfolding mark_of
join_goal_decodes join_goals.Count join_goals.Count r z f g e = (refl, (cc))
join_goal_decodes (join_goals.Sum c) (join_goals.Sum d) r z f g e = let i = cols_decode c d r z f g (cc) in (ap join_goals.Sum i.0, i.1)
join_goal_decodes (join_goals.Min c) (join_goals.Min d) r z f g e = let i = cols_decode c d r z f g (cc) in (ap join_goals.Min i.0, i.1)
join_goal_decodes (join_goals.Max c) (join_goals.Max d) r z f g e = let i = cols_decode c d r z f g (cc) in (ap join_goals.Max i.0, i.1)
join_goal_decodes _ _ r z f g e = absurd (omega (arith, ap mark_of e))

-- a goal over one table, as one over several
lifted : RawGoal → RawJoinGoal
lifted goals.Count = join_goals.Count
lifted (goals.Sum c) = join_goals.Sum (record { table = None; name = c })
lifted (goals.Min c) = join_goals.Min (record { table = None; name = c })
lifted (goals.Max c) = join_goals.Max (record { table = None; name = c })

lifted_same : (g : RawGoal) → goal_tokens g ≡ join_goal_tokens (lifted g)
unfolding lifted
lifted_same goals.Count = refl
lifted_same (goals.Sum c) = refl
lifted_same (goals.Min c) = refl
lifted_same (goals.Max c) = refl

-- "group" goes on no list of conditions
fine_join_grouped : (g : Option RawCol) → Fine (After IsDot) (join_grouped_tokens g)
unfolding initial
fine_join_grouped None = tt
fine_join_grouped (Some c) = λ h. elim h [
  | inl e ↦ absurd (omega (arith, ap (λ l. initial (l ∷ [])) e))
  | inr h ↦ elim h [ inl e ↦ absurd (omega (arith, ap (λ l. initial (l ∷ [])) e)) | inr e ↦ absurd (cc) ]
]

join_grouped_same : (a b : Option RawCol) → join_grouped_tokens a ≡ join_grouped_tokens b → a ≡ b
join_grouped_same None None e = refl
join_grouped_same None (Some d) e = absurd (cc)
join_grouped_same (Some c) None e = absurd (cc)
join_grouped_same (Some c) (Some d) e = let h : col_tokens c ≡ col_tokens d = cc in ap Some (cols_decode c d [] [] tt tt (ap (λ w. w ++ []) h)).0

-- what stands behind the tables goes on no list of names
fine_behind : (cs : List RawCond) (g : Option RawCol) → Fine (OrAlso (Mark s.Comma) Never) (filtered_tokens cond_tokens cs ++ join_grouped_tokens g)
fine_behind cs g = fine_filtered cond_tokens cs (join_grouped_tokens g) (go g)
  where
    go : (g : Option RawCol) → Fine (OrAlso (Mark s.Comma) Never) (join_grouped_tokens g)
    go None = tt
    go (Some c) = λ h. elim h [ inl e ↦ absurd (cc) | inr b ↦ b ]

range_same : (p q : RawRange) → range_tokens p ≡ range_tokens q → p ≡ q
range_same p q e =
    let r : List Lexeme = listed_tokens name_tokens p.tables ++ (filtered_tokens cond_tokens p.conds ++ join_grouped_tokens p.group) in
    let z : List Lexeme = listed_tokens name_tokens q.tables ++ (filtered_tokens cond_tokens q.conds ++ join_grouped_tokens q.group) in
    let g : join_goal_tokens p.goal ++ (Word (codes "from") ∷ r) ≡ join_goal_tokens q.goal ++ (Word (codes "from") ∷ z) = cc in
    let a = join_goal_decodes p.goal q.goal (Word (codes "from") ∷ r) (Word (codes "from") ∷ z) (from_no_dot r) (from_no_dot z) g in
    let h : r ≡ z = cc (a.1) in
    let b = between_decodes (Mark s.Comma) Never name_tokens (λ x. x) (λ x y r z f g e. name_decodes x y r z e) p.tables q.tables _ _ (omega (arith, p.some_other)) (omega (arith, q.some_other)) (fine_behind p.conds p.group) (fine_behind q.conds q.group) h in
    let c = filtered_decode IsDot cond_tokens (λ x. absurd (cc)) cond_decodes p.conds q.conds (join_grouped_tokens p.group) (join_grouped_tokens q.group) (fine_join_grouped p.group) (fine_join_grouped q.group) b.1 in
    let w = a.0 in
    let x = b.0 in
    let y = c.0 in
    let v = join_grouped_same p.group q.group c.1 in
    λ i. record {
      goal = w i;
      tables = x i;
      conds = y i;
      group = v i;
      some_other = is_prop→PathP (λ j. 2 ≤ length (x j)) (λ j. le_prop) p.some_other q.some_other i;
      few = is_prop→PathP (λ j. length (y j) ≤ most_items) (λ j. le_prop) p.few q.few i;
    }

-- no comma follows the only table
no_comma : (xs : List RawTest) (a : Option (List ℕ)) (r : List Lexeme) → filtered_tokens test_tokens xs ++ grouped_tokens a ≡ Mark s.Comma ∷ r → ⊥
no_comma [] None r e = absurd (cc)
no_comma [] (Some c) r e = absurd (cc)
no_comma (x ∷ xs) a r e = absurd (cc)

behind_first : (t : List ℕ) (ts : List (List ℕ)) (r z : List Lexeme) → 2 ≤ length ts → Word t ∷ r ≡ listed_tokens name_tokens ts ++ z → (l : List Lexeme) × (r ≡ Mark s.Comma ∷ l)
behind_first t [] r z h e = absurd (omega arith)
behind_first t (u ∷ []) r z h e = absurd (omega arith)
behind_first t (u ∷ v ∷ ts) r z h e = (Word v ∷ (each_after (Mark s.Comma) name_tokens ts ++ z), (cc))

-- one table isn't several
one_not_several : (g : RawGoal) (t : List ℕ) (xs : List RawTest) (a : Option (List ℕ)) (q : RawRange) → statement_tokens (statements.Range g t xs a) ≡ range_tokens q → ⊥
one_not_several g t xs a q e =
    let rest : List Lexeme = Word t ∷ (filtered_tokens test_tokens xs ++ grouped_tokens a) in
    let others : List Lexeme = listed_tokens name_tokens q.tables ++ (filtered_tokens cond_tokens q.conds ++ join_grouped_tokens q.group) in
    let h : goal_tokens g ++ (Word (codes "from") ∷ rest) ≡ join_goal_tokens q.goal ++ (Word (codes "from") ∷ others) = cc in
    let i = join_goal_decodes (lifted g) q.goal (Word (codes "from") ∷ rest) (Word (codes "from") ∷ others) (from_no_dot rest) (from_no_dot others) (ap (λ w. w ++ (Word (codes "from") ∷ rest)) (sym (lifted_same g)) ∙ h) in
    let j : rest ≡ others = cc (i.1) in
    let k = behind_first t q.tables _ _ q.some_other j in
    no_comma xs a k.0 k.1

-- no tokens are written by two statements
pub statement_same : (a b : Statement) → statement_tokens a ≡ statement_tokens b → a ≡ b
unfolding mark_of second_mark is_verb verb_marks
statement_same (statements.Create c) (statements.Create d) e =
    let g : strict_tokens c.strict ++ (Word (codes "table") ∷ schema_tokens c) ≡ strict_tokens d.strict ++ (Word (codes "table") ∷ schema_tokens d) = cc in
    let i = strict_decodes c.strict d.strict (schema_tokens c) (schema_tokens d) g in
    ap statements.Create (schema_same c d i.0 i.1)
statement_same (statements.Alter t c) (statements.Alter u d) e =
    let h : t ≡ u = cc in
    let g : change_tokens c ≡ change_tokens d = cc in
    let i = change_same c d g in
    λ l. statements.Alter (h l) (i l)
statement_same (statements.Insert t xs) (statements.Insert u ys) e =
    let h : t ≡ u = cc in
    let g : listed_tokens row_tokens xs ≡ listed_tokens row_tokens ys = cc in
    let c = rows_same xs ys g in
    λ i. statements.Insert (h i) (c i)
statement_same (statements.Delete t xs) (statements.Delete u ys) e =
    let h : t ≡ u = cc in
    let g : filtered_tokens test_tokens xs ≡ filtered_tokens test_tokens ys = cc in
    let c = filtered_decodes Never test_tokens (λ x. x) (λ x y r z f g e. test_decodes x y r z e) xs ys g in
    λ i. statements.Delete (h i) (c i)
statement_same (statements.Prefer t xs) (statements.Prefer u ys) e =
    let h : t ≡ u = cc in
    let g : anded_tokens test_tokens xs ≡ anded_tokens test_tokens ys = cc in
    let c = tests_decode xs ys g in
    λ i. statements.Prefer (h i) (c i)
statement_same (statements.Asking v c) (statements.Asking w d) e =
    let i = verb_decodes v w (select_tokens c) (select_tokens d) e in
    let g = select_same c d i.1 in
    let h = i.0 in
    λ l. statements.Asking (h l) (g l)
statement_same (statements.AskUnion a) (statements.AskUnion b) e = ap statements.AskUnion (selects_same a b (cc))
statement_same (statements.PossibleUnion a) (statements.PossibleUnion b) e = ap statements.PossibleUnion (selects_same a b (cc))
statement_same (statements.ClassifyUnion a) (statements.ClassifyUnion b) e = ap statements.ClassifyUnion (selects_same a b (cc))
statement_same (statements.SqlUnion a) (statements.SqlUnion b) e = ap statements.SqlUnion (selects_same a b (cc))
statement_same (statements.ExplainUnion f a) (statements.ExplainUnion g b) e =
    let i = row_for_decodes f g (selects_tokens a) (selects_tokens b) (cc) in
    let row = i.0 in
    let parts = selects_same a b i.1 in
    λ l. statements.ExplainUnion (row l) (parts l)
statement_same (statements.Asking v c) (statements.AskUnion u) e = absurd (asked_no_union v verbs.Ask c u e)
statement_same (statements.Asking v c) (statements.PossibleUnion u) e = absurd (asked_no_union v verbs.Possible c u e)
statement_same (statements.Asking v c) (statements.ClassifyUnion u) e = absurd (asked_no_union v verbs.Classify c u e)
statement_same (statements.Asking v c) (statements.SqlUnion u) e = absurd (asked_no_union v verbs.Sql c u e)
statement_same (statements.Asking v c) (statements.ExplainUnion row u) e = absurd (asked_no_union v (verbs.Explain row) c u e)
statement_same (statements.AskUnion u) (statements.Asking v c) e = absurd (asked_no_union v verbs.Ask c u (sym e))
statement_same (statements.PossibleUnion u) (statements.Asking v c) e = absurd (asked_no_union v verbs.Possible c u (sym e))
statement_same (statements.ClassifyUnion u) (statements.Asking v c) e = absurd (asked_no_union v verbs.Classify c u (sym e))
statement_same (statements.SqlUnion u) (statements.Asking v c) e = absurd (asked_no_union v verbs.Sql c u (sym e))
statement_same (statements.ExplainUnion row u) (statements.Asking v c) e = absurd (asked_no_union v (verbs.Explain row) c u (sym e))
statement_same (statements.SetConflicts n) (statements.SetConflicts m) e = ap statements.SetConflicts (cc)
statement_same (statements.Copy t) (statements.Copy u) e = ap statements.Copy (cc)
statement_same (statements.Range f t xs a) (statements.Range g u ys b) e =
    let rest : goal_tokens f ++ (Word (codes "from") ∷ (name_tokens t ++ (filtered_tokens test_tokens xs ++ grouped_tokens a))) ≡ goal_tokens g ++ (Word (codes "from") ∷ (name_tokens u ++ (filtered_tokens test_tokens ys ++ grouped_tokens b))) = cc in
    let goals = goal_decodes f g _ _ rest in
    let table : t ≡ u = cc (goals.1) in
    let behind : filtered_tokens test_tokens xs ++ grouped_tokens a ≡ filtered_tokens test_tokens ys ++ grouped_tokens b = cc (goals.1) in
    let parts = filtered_decode Never test_tokens (λ x. x) (λ x y r z f g e. test_decodes x y r z e) xs ys (grouped_tokens a) (grouped_tokens b) (fine_grouped a) (fine_grouped b) behind in
    let goal = goals.0 in
    let tests = parts.0 in
    let group = grouped_same a b parts.1 in
    λ i. statements.Range (goal i) (table i) (tests i) (group i)
statement_same (statements.RangeJoin p) (statements.RangeJoin q) e = ap statements.RangeJoin (range_same p q e)
statement_same (statements.Range g t xs a) (statements.RangeJoin q) e = absurd (one_not_several g t xs a q e)
statement_same (statements.RangeJoin p) (statements.Range g t xs a) e = absurd (one_not_several g t xs a p (sym e))
statement_same statements.Dump statements.Dump e = refl
statement_same statements.ShowTables statements.ShowTables e = refl
statement_same statements.ShowLog statements.ShowLog e = refl
statement_same statements.ShowConflicts statements.ShowConflicts e = refl
statement_same statements.ShowTables statements.ShowLog e = absurd (omega (arith, ap second_mark e))
statement_same statements.ShowTables statements.ShowConflicts e = absurd (omega (arith, ap second_mark e))
statement_same statements.ShowLog statements.ShowTables e = absurd (omega (arith, ap second_mark e))
statement_same statements.ShowLog statements.ShowConflicts e = absurd (omega (arith, ap second_mark e))
statement_same statements.ShowConflicts statements.ShowTables e = absurd (omega (arith, ap second_mark e))
statement_same statements.ShowConflicts statements.ShowLog e = absurd (omega (arith, ap second_mark e))
statement_same (statements.Asking v c) _ e = absurd (no_verb v (select_tokens c) _ e refl)
statement_same _ (statements.Asking w d) e = absurd (no_verb w (select_tokens d) _ (sym e) refl)
statement_same _ _ e = absurd (omega (arith, ap mark_of e))

names_same : (xs ys : List (List ℕ)) → listed_tokens name_tokens xs ≡ listed_tokens name_tokens ys → xs ≡ ys
names_same [] [] e = refl
names_same [] (y ∷ ys) e = absurd (cc)
names_same (x ∷ xs) [] e = absurd (cc)
names_same (x ∷ xs) (y ∷ ys) e = (between_decodes (Mark s.Comma) Never name_tokens (λ x. x) (λ a b u v f g h. name_decodes a b u v h) (x ∷ xs) (y ∷ ys) [] [] (omega arith) (omega arith) tt tt (ap (λ w. w ++ []) e)).0

-- no tokens are written by two orders
pub order_same : (a b : List (List ℕ)) → order_tokens a ≡ order_tokens b → a ≡ b
order_same a b e = let g : listed_tokens name_tokens a ≡ listed_tokens name_tokens b = cc in names_same a b g

-- no tokens are written by two blocks
pub block_same : (a b : RawBlock) → block_tokens a ≡ block_tokens b → a ≡ b
block_same a b e =
    let table : a.table ≡ b.table = cc in
    let g : listed_tokens row_tokens a.rows ≡ listed_tokens row_tokens b.rows = cc in
    let rows = rows_same a.rows b.rows g in
    λ i. record { table = table i; rows = rows i }
