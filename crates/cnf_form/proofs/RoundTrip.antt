-- What is written of a formula is read as the formula.
use Rattle.std.proofs.Common.{◌≡◌, ℕ, suc, ◌<◌, ◌≤◌, ◌+◌, ◌^◌, ◌||◌, Bool, true, false, cond, List, [], ◌∷◌, ◌++◌, refl, sym, ◌∙◌, ap, subst, arith, append_assoc, length, map, codes, Option, Some, Ok, Err}
use Rattle.std.specs.Prelude.{Contains, Result, option_map}
use Rattle.std.specs.Fmt.{decimal}
use Rattle.std.specs.List.{flat_map}
use Rattle.std.proofs.lemmas.List.{append-nil}
use Rattle.cqa_value.specs.declared.memory.Fail.{Fail}
use Rattle.cqa_value.specs.declared.memory.Fail.TheVariants.{NoMemory, Refused}
use Rattle.cqa_value.proofs.Words.{mem-tail, mem-head}
use Rattle.cnf_form.specs.declared.fault.FormatFault.{FormatFault}
use Rattle.cnf_form.specs.declared.formula.Lit.{Lit}
use Rattle.cnf_form.specs.declared.formula.Clause.{Clause}
use Rattle.cnf_form.specs.declared.formula.Cnf.{Cnf}
use Rattle.cnf_form.specs.Literals.{AreVars, literals, negated}
use Rattle.cnf_form.specs.Lines.{is_comment, is_nil, is_skipped, lines, tokens}
use Rattle.cnf_form.specs.Numbers.{signed_of, unsigned_of}
use Rattle.cnf_form.specs.Formulas.{FormulaIs, Token, after_lrat, body_tokens, both, by_header, clauses_from, content, ended, formula_in, formula_of, has_lrat, header, is_lrat, literal, lrat_line, numbers, tagged, with_vars}
use Rattle.cnf_form.specs.Writing.{IsWritable, ReadsBack, clause_bytes, clause_line, header_line, lit_bytes, proof_bytes}
use Rattle.cnf_form.proofs.Lits.{negated-negated}
use Rattle.cnf_form.proofs.ReadTokens.{other_goes, zero_goes}
use Rattle.cnf_form.proofs.Numerals.{NoEnds, decimal_begins, decimal_no_ends, decimal_signed, decimal_some, decimal_unsigned, fits, minus_signed}
use Rattle.cnf_form.proofs.Cuts.{NoLf, line_cut, no_lf, no_lf_both, no_mark, token_last, token_space}

-- the token of a literal
abbrev pub lit_token : Lit → List ℕ
lit_token l = cond l.positive [] (45 ∷ []) ++ decimal l.var

pub lit_some : (p : Bool) (v : ℕ) → v < 2 ^ 64 → 0 < length (cond p [] (45 ∷ []) ++ decimal v)
lit_some true v s = decimal_some v s
lit_some false v s = omega arith

pub lit_no_ends : (p : Bool) (v : ℕ) → v < 2 ^ 64 → NoEnds (cond p [] (45 ∷ []) ++ decimal v)
lit_no_ends true v s = decimal_no_ends v s
lit_no_ends false v s = (refl, decimal_no_ends v s)

pub lit_signed : (limit : ℕ) (p : Bool) (v : ℕ) → v ≤ limit → v < 2 ^ 64 → signed_of limit (cond p [] (45 ∷ []) ++ decimal v) ≡ Some (negated p, v)
lit_signed limit true v h s = decimal_signed limit v h s
lit_signed limit false v h s = minus_signed limit v h s

pub literal_back : (l : Lit) → literal (negated l.positive, l.var) ≡ l
literal_back l = let e : negated (negated l.positive) ≡ l.positive = negated-negated l.positive in
    ap (λ (b : Bool). let r : Lit = record { var = l.var; positive = b } in r) e

pub zero_signed : (limit : ℕ) → signed_of limit (48 ∷ []) ≡ Some (false, 0)
zero_signed limit = ap (option_map (λ n. (false, n))) (fits limit 0 (omega arith))

-- the literals are of variables that fit
abbrev pub AreSmall : ℕ → List Lit → Type 0
AreSmall limit [] = Unit {0}
AreSmall limit (l ∷ c) = (1 ≤ l.var) × (l.var ≤ limit) × AreSmall limit c

pub are_small : (limit : ℕ) (c : List Lit) → AreVars limit c → AreSmall limit c
are_small limit [] a = tt
are_small limit (l ∷ c) a = let k = a l (mem-head l c) in (k.0, k.1, are_small limit c (λ m i. a m (mem-tail m l c i)))

-- a literal and the bytes after it
lit_split : (l : Lit) (c : List Lit) (more : List ℕ) → flat_map lit_bytes (l ∷ c) ++ more ≡ lit_token l ++ 32 ∷ (flat_map lit_bytes c ++ more)
lit_split l c more = go l.positive
  where
    inner : (ds : List ℕ) → ((ds ++ 32 ∷ []) ++ flat_map lit_bytes c) ++ more ≡ ds ++ 32 ∷ (flat_map lit_bytes c ++ more)
    inner ds = append_assoc (ds ++ 32 ∷ []) (flat_map lit_bytes c) more ∙ append_assoc ds (32 ∷ []) (flat_map lit_bytes c ++ more)

    go : (p : Bool) → ((cond p [] (45 ∷ []) ++ decimal l.var ++ 32 ∷ []) ++ flat_map lit_bytes c) ++ more ≡ (cond p [] (45 ∷ []) ++ decimal l.var) ++ 32 ∷ (flat_map lit_bytes c ++ more)
    go true = inner (decimal l.var)
    go false = ap (λ (r : List ℕ). 45 ∷ r) (inner (decimal l.var))

pub clause_tokens : (limit : ℕ) (c : List Lit) (rest : List ℕ) (ts : List (List ℕ)) → limit < 2 ^ 64 → AreSmall limit c → tokens rest ≡ ts → tokens (flat_map lit_bytes c ++ rest) ≡ map lit_token c ++ ts
clause_tokens limit [] rest ts s a e = e
clause_tokens limit (l ∷ c) rest ts s a e =
    ap tokens (lit_split l c rest)
    ∙ token_space (lit_token l) (flat_map lit_bytes c ++ rest) (lit_some l.positive l.var (omega (arith, a.1, s))) (lit_no_ends l.positive l.var (omega (arith, a.1, s)))
    ∙ ap (λ (r : List (List ℕ)). lit_token l ∷ r) (clause_tokens limit c rest ts s a.2 e)

pub clause_no_lf : (limit : ℕ) (c : List Lit) (rest : List ℕ) → limit < 2 ^ 64 → AreSmall limit c → NoLf rest → NoLf (flat_map lit_bytes c ++ rest)
clause_no_lf limit [] rest s a n = n
clause_no_lf limit (l ∷ c) rest s a n =
    subst NoLf (sym (lit_split l c rest))
    (no_lf_both (lit_token l) (32 ∷ (flat_map lit_bytes c ++ rest)) (no_lf (lit_token l) (lit_no_ends l.positive l.var (omega (arith, a.1, s)))) (refl, clause_no_lf limit c rest s a.2 n))

-- a clause's line begins with a digit or a `-`
abbrev pub Begins : List ℕ → Type 0
Begins l = (b : ℕ) × (bs : List ℕ) × (l ≡ b ∷ bs) × (b < 58)

pub begins_more : (xs ys : List ℕ) → Begins xs → Begins (xs ++ ys)
begins_more xs ys b = (b.0, b.1 ++ ys, ap (λ (r : List ℕ). r ++ ys) b.2, b.3)

pub lit_begins : (p : Bool) (v : ℕ) → v < 2 ^ 64 → Begins (cond p [] (45 ∷ []) ++ decimal v)
lit_begins true v s = decimal_begins v s
lit_begins false v s = (45, decimal v, refl, omega arith)

clause_begins : (limit : ℕ) (c : List Lit) (rest : List ℕ) → limit < 2 ^ 64 → AreSmall limit c → Begins rest → Begins (flat_map lit_bytes c ++ rest)
clause_begins limit [] rest s a b = b
clause_begins limit (l ∷ c) rest s a b = subst Begins (sym (lit_split l c rest)) (begins_more (lit_token l) (32 ∷ (flat_map lit_bytes c ++ rest)) (lit_begins l.positive l.var (omega (arith, a.1, s))))

-- the numbers of a clause
clause_numbers : (limit missing m n : ℕ) (done : List (List Lit)) (partial c : List Lit) (later : List Token) → limit < 2 ^ 64 → AreSmall limit c
    → clauses_from done partial (numbers limit missing (suc m) (tagged n (map lit_token c ++ (48 ∷ []) ∷ []) ++ later)) ≡ clauses_from (done ++ (partial ++ c) ∷ []) [] (numbers limit missing m later)
clause_numbers limit missing m n done partial [] later s a =
    zero_goes limit missing (suc m) m n done partial (48 ∷ []) later (false, 0) refl (sym (zero_signed limit)) refl
    ∙ ap (λ (p : List Lit). clauses_from (done ++ p ∷ []) [] (numbers limit missing m later)) (sym (append-nil partial))
clause_numbers limit missing m n done partial (l ∷ c) later s a =
    let rest : List Token = tagged n (map lit_token c ++ (48 ∷ []) ∷ []) ++ later in
    other_goes limit missing (suc m) m n done partial (lit_token l) rest (negated l.positive, l.var) refl (sym (lit_signed limit l.positive l.var a.1 (omega (arith, a.1, s)))) (λ e. omega (arith, e, a.0))
    ∙ ap (λ (x : Lit). clauses_from done (partial ++ x ∷ []) (numbers limit missing (suc m) rest)) (literal_back l)
    ∙ clause_numbers limit missing m n done (partial ++ l ∷ []) c later s a.2
    ∙ ap (λ (p : List Lit). clauses_from (done ++ p ∷ []) [] (numbers limit missing m later)) (append_assoc partial (l ∷ []) c)

abbrev AllSmall : ℕ → List Clause → Type 0
AllSmall limit [] = Unit {0}
AllSmall limit (c ∷ cs) = AreSmall limit c.lits × AllSmall limit cs

all_small : (limit : ℕ) (cs : List Clause) → ((c : List Lit) → Contains (literals cs) c → AreVars limit c) → AllSmall limit cs
all_small limit [] a = tt
all_small limit (c ∷ cs) a = (are_small limit c.lits (a c.lits (mem-head c.lits (literals cs))), all_small limit cs (λ d i. a d (mem-tail d c.lits (literals cs) i)))

mark : List ℕ
mark = 108 ∷ 114 ∷ 97 ∷ 116 ∷ []

-- the line of a clause, without its LF
abbrev line : Clause → List ℕ
line c = clause_bytes c.lits

zero_tokens : tokens (48 ∷ []) ≡ (48 ∷ []) ∷ []
zero_tokens = refl

line_content : (limit n : ℕ) (c : List Lit) → limit < 2 ^ 64 → AreSmall limit c → content n (clause_bytes c) ≡ tagged n (map lit_token c ++ (48 ∷ []) ∷ [])
line_content limit n c s a =
    let b = clause_begins limit c (48 ∷ []) s a (48, [], refl, omega arith) in
    ap (λ (x : Bool). cond x [] (tagged n (tokens (clause_bytes c)))) (no_mark (clause_bytes c) b.1 b.0 b.2 (λ e. omega (arith, e, b.3)) (λ e. omega (arith, e, b.3))).0
    ∙ ap (tagged n) (clause_tokens limit c (48 ∷ []) ((48 ∷ []) ∷ []) s a zero_tokens)

line_is_clause : (limit : ℕ) (c : List Lit) → limit < 2 ^ 64 → AreSmall limit c → is_lrat (clause_bytes c) ≡ false
line_is_clause limit c s a =
    let b = clause_begins limit c (48 ∷ []) s a (48, [], refl, omega arith) in
    (no_mark (clause_bytes c) b.1 b.0 b.2 (λ e. omega (arith, e, b.3)) (λ e. omega (arith, e, b.3))).1

body_reads : (limit missing n : ℕ) (done : List (List Lit)) (cs : List Clause) (ls : List (List ℕ)) → limit < 2 ^ 64 → AllSmall limit cs
    → clauses_from done [] (numbers limit missing (length cs) (body_tokens n (map line cs ++ mark ∷ ls))) ≡ Ok (done ++ literals cs)
unfolding mark
body_reads limit missing n done [] ls s a = refl
body_reads limit missing n done (c ∷ cs) ls s a =
    let rest : List (List ℕ) = map line cs ++ mark ∷ ls in
    ap (λ (b : Bool). clauses_from done [] (numbers limit missing (suc (length cs)) (cond b [] (content n (line c) ++ body_tokens (n + 1) rest)))) (line_is_clause limit c.lits s a.0)
    ∙ ap (λ (ts : List Token). clauses_from done [] (numbers limit missing (suc (length cs)) (ts ++ body_tokens (n + 1) rest))) (line_content limit n c.lits s a.0)
    ∙ clause_numbers limit missing (length cs) n done [] c.lits (body_tokens (n + 1) rest) s a.0
    ∙ body_reads limit missing (n + 1) (done ++ c.lits ∷ []) cs ls s a.1
    ∙ ap (λ (x : List (List Lit)). Ok x) (append_assoc done (c.lits ∷ []) (literals cs))

-- the `lrat` line comes after the clauses
marked : (limit : ℕ) (cs : List Clause) (ls : List (List ℕ)) → limit < 2 ^ 64 → AllSmall limit cs → (has_lrat (map line cs ++ mark ∷ ls) ≡ true) × (after_lrat (map line cs ++ mark ∷ ls) ≡ ls)
unfolding mark
marked limit [] ls s a = (refl, refl)
marked limit (c ∷ cs) ls s a = let r = marked limit cs ls s a.1 in (
  ap (λ (b : Bool). b || has_lrat (map line cs ++ mark ∷ ls)) (line_is_clause limit c.lits s a.0) ∙ r.0,
  ap (λ (b : Bool). cond b (map line cs ++ mark ∷ ls) (after_lrat (map line cs ++ mark ∷ ls))) (line_is_clause limit c.lits s a.0) ∙ r.1,
)

body_lines : (limit : ℕ) (cs : List Clause) (rest : List ℕ) → limit < 2 ^ 64 → AllSmall limit cs → lines (flat_map clause_line cs ++ rest) ≡ map line cs ++ lines rest
body_lines limit [] rest s a = refl
body_lines limit (c ∷ cs) rest s a =
    ap lines (append_assoc (line c ++ 10 ∷ []) (flat_map clause_line cs) rest ∙ append_assoc (line c) (10 ∷ []) (flat_map clause_line cs ++ rest))
    ∙ line_cut (line c) (flat_map clause_line cs ++ rest) (clause_no_lf limit c.lits (48 ∷ []) s a.0 (refl, tt))
    ∙ ap (λ (ls : List (List ℕ)). line c ∷ ls) (body_lines limit cs rest s a.1)

-- the header
head : ℕ → ℕ → List ℕ
head v m = codes "p cnf " ++ decimal v ++ 32 ∷ decimal m

head_tokens : (v m : ℕ) → v < 2 ^ 64 → m < 2 ^ 64 → tokens (head v m) ≡ (112 ∷ []) ∷ (99 ∷ 110 ∷ 102 ∷ []) ∷ decimal v ∷ decimal m ∷ []
unfolding head
head_tokens v m s t =
    ap (λ (ts : List (List ℕ)). (112 ∷ []) ∷ (99 ∷ 110 ∷ 102 ∷ []) ∷ ts)
    (token_space (decimal v) (decimal m) (decimal_some v s) (decimal_no_ends v s) ∙ ap (λ (ts : List (List ℕ)). decimal v ∷ ts) (token_last (decimal m) (decimal_some m t) (decimal_no_ends m t)))

head_reads : (v m : ℕ) → v ≤ 10000000 → m ≤ 4294967295 → header (tokens (head v m)) ≡ Some (v, m)
head_reads v m h k =
    ap header (head_tokens v m (omega (arith, h)) (omega (arith, k)))
    ∙ ap (λ (o : Option ℕ). both o (unsigned_of 4294967295 (decimal m))) (decimal_unsigned 10000000 v h (omega (arith, h)))
    ∙ ap (λ (o : Option ℕ). both (Some v) o) (decimal_unsigned 4294967295 m k (omega (arith, k)))

head_no_lf : (v m : ℕ) → v < 2 ^ 64 → m < 2 ^ 64 → NoLf (head v m)
unfolding head
head_no_lf v m s t = (refl, (refl, (refl, (refl, (refl, (refl, no_lf_both (decimal v) (32 ∷ decimal m) (no_lf (decimal v) (decimal_no_ends v s)) (refl, no_lf (decimal m) (decimal_no_ends m t))))))))

head_marks : (v m : ℕ) → (is_comment (head v m) ≡ false) × (is_lrat (head v m) ≡ false)
unfolding head
head_marks v m = (refl, refl)

head_not_skipped : (v m : ℕ) → v < 2 ^ 64 → m < 2 ^ 64 → is_skipped (head v m) ≡ false
head_not_skipped v m s t = ap (λ (b : Bool). b || is_nil (tokens (head v m))) (head_marks v m).0 ∙ ap is_nil (head_tokens v m s t)

text_lines : (cnf : Cnf) (log : List ℕ) → IsWritable cnf → lines (proof_bytes cnf log) ≡ head cnf.vars (length cnf.clauses) ∷ (map line cnf.clauses ++ mark ∷ lines log)
unfolding mark head
text_lines cnf log w =
    let v = w.vars in let k = w.clauses in
    ap lines (append_assoc (header_line cnf) (10 ∷ flat_map clause_line cnf.clauses) (mark ++ 10 ∷ log))
    ∙ line_cut (header_line cnf) (flat_map clause_line cnf.clauses ++ (mark ++ 10 ∷ log)) (head_no_lf cnf.vars (length cnf.clauses) (omega (arith, v)) (omega (arith, k)))
    ∙ ap (λ (ls : List (List ℕ)). header_line cnf ∷ ls) (body_lines cnf.vars cnf.clauses (mark ++ 10 ∷ log) (omega (arith, v)) (all_small cnf.vars cnf.clauses w.literals))

text_reads : (v : ℕ) (cs : List Clause) (ls : List (List ℕ)) → v ≤ 10000000 → length cs ≤ 4294967295 → AllSmall v cs
    → (formula_in (head v (length cs) ∷ (map line cs ++ mark ∷ ls)) ≡ Ok (v, literals cs)) × (after_lrat (head v (length cs) ∷ (map line cs ++ mark ∷ ls)) ≡ ls)
text_reads v cs ls h k a =
    let rest : List (List ℕ) = map line cs ++ mark ∷ ls in
    let all : List (List ℕ) = head v (length cs) ∷ rest in
    let m : ℕ = lrat_line 1 all in
    let q = marked v cs ls (omega (arith, h)) a in
    let no = (head_marks v (length cs)).1 in (
      ap (λ (b : Bool). ended (b || has_lrat rest) m (formula_of m 1 all)) no
          ∙ ap (λ (b : Bool). ended b m (formula_of m 1 all)) q.0
          ∙ ap (λ (b : Bool). cond b (Err m) (cond (is_skipped (head v (length cs))) (formula_of m (1 + 1) rest) (by_header m 1 (header (tokens (head v (length cs)))) rest))) no
          ∙ ap (λ (b : Bool). cond b (formula_of m (1 + 1) rest) (by_header m 1 (header (tokens (head v (length cs)))) rest)) (head_not_skipped v (length cs) (omega (arith, h)) (omega (arith, k)))
          ∙ ap (λ (o : Option (ℕ × ℕ)). by_header m 1 o rest) (head_reads v (length cs) h k)
          ∙ ap (with_vars v) (body_reads v m (1 + 1) [] cs ls (omega (arith, h)) a),
      ap (λ (b : Bool). cond b rest (after_lrat rest)) no ∙ q.1,
    )

clauses_same : (a b : List Clause) → literals a ≡ literals b → a ≡ b
clauses_same [] [] e = refl
clauses_same [] (c ∷ b) e = absurd (cc)
clauses_same (c ∷ a) [] e = absurd (cc)
clauses_same (c ∷ a) (d ∷ b) e =
    let h : c.lits ≡ d.lits = cc in let t : literals a ≡ literals b = cc in
    ap (λ (x : List Lit). let r : Clause = record { lits = x } in r ∷ a) h ∙ ap (λ (x : List Clause). d ∷ x) (clauses_same a b t)

formula_same : (x y : Cnf) (r : Result (ℕ × List (List Lit)) ℕ) → r ≡ Ok (x.vars, literals x.clauses) → r ≡ Ok (y.vars, literals y.clauses) → x ≡ y
formula_same x y r e f =
    let p : (x.vars, literals x.clauses) ≡ (y.vars, literals y.clauses) = same r (x.vars, literals x.clauses) (y.vars, literals y.clauses) e f in
    ap (λ (n : ℕ). let c : Cnf = record { vars = n; clauses = x.clauses } in c) (ap (λ (q : ℕ × List (List Lit)). q.0) p)
    ∙ ap (λ (ds : List Clause). let c : Cnf = record { vars = y.vars; clauses = ds } in c) (clauses_same x.clauses y.clauses (ap (λ (q : ℕ × List (List Lit)). q.1) p))
  where
    same : (r : Result (ℕ × List (List Lit)) ℕ) (a b : ℕ × List (List Lit)) → r ≡ Ok a → r ≡ Ok b → a ≡ b
    same r a b e f = cc

no_fault : (r : Result (ℕ × List (List Lit)) ℕ) (x : ℕ × List (List Lit)) (n : ℕ) → r ≡ Ok x → r ≡ Err n → ⊥
no_fault r x n e f = cc

-- the lines that are written of a formula say it, and those of the log follow
pub says_written : (cnf : Cnf) (log : List ℕ) → IsWritable cnf →
    (formula_in (lines (proof_bytes cnf log)) ≡ Ok (cnf.vars, literals cnf.clauses)) × (after_lrat (lines (proof_bytes cnf log)) ≡ lines log)
says_written cnf log w =
    let l : lines (proof_bytes cnf log) ≡ head cnf.vars (length cnf.clauses) ∷ (map line cnf.clauses ++ mark ∷ lines log) = text_lines cnf log w in
    let t = text_reads cnf.vars cnf.clauses (lines log) w.vars w.clauses (all_small cnf.vars cnf.clauses w.literals) in
    (ap formula_in l ∙ t.0, ap after_lrat l ∙ t.1)

-- what is written is read again
pub reads_back : (cnf : Cnf) (log bytes : List ℕ) (r : Result (Cnf × ℕ) (Fail FormatFault)) → FormulaIs bytes r → IsWritable cnf → bytes ≡ proof_bytes cnf log → ReadsBack cnf log bytes r
reads_back cnf log bytes r f w e =
    let s = says_written cnf log w in
    go r f (ap (λ b. formula_in (lines b)) e ∙ s.0) (ap (λ b. after_lrat (lines b)) e ∙ s.1)
  where
    go : (r : Result (Cnf × ℕ) (Fail FormatFault)) → FormulaIs bytes r → formula_in (lines bytes) ≡ Ok (cnf.vars, literals cnf.clauses) → after_lrat (lines bytes) ≡ lines log → ReadsBack cnf log bytes r
    go (Ok x) f a b = (formula_same x.0 cnf (formula_in (lines bytes)) f.0 a, f.1 ∙ b)
    go (Err (Refused fault)) f a b = no_fault (formula_in (lines bytes)) (cnf.vars, literals cnf.clauses) fault.line a f.0
    go (Err NoMemory) f a b = tt
