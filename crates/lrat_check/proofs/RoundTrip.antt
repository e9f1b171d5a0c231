-- What is written of a log of additions is read as the log.
use Rattle.std.proofs.Common.{◌≡◌, ℕ, ℤ, pos, negsuc, suc, ◌<◌, ◌≤◌, ◌+◌, ◌-◌, ◌^◌, ◌||◌, ◌&&◌, Bool, true, false, cond, nat_eq, List, [], ◌∷◌, ◌++◌, refl, sym, ◌∙◌, ap, subst, arith, append_assoc, length, map, Option, Some, None, Ok, Err}
use Rattle.std.specs.Prelude.{Result, option_map}
use Rattle.std.specs.Cmp.Lexicographic.{pointwise}
use Rattle.std.specs.Fmt.{decimal, signed_decimal}
use Rattle.std.specs.List.{flat_map}
use Rattle.std.proofs.lemmas.Bool.{ne_eqb}
use Rattle.cqa_value.specs.declared.memory.Fail.{Fail}
use Rattle.cqa_value.specs.declared.memory.Fail.TheVariants.{NoMemory, Refused}
use Rattle.cnf_form.specs.declared.fault.FormatFault.{FormatFault}
use Rattle.cnf_form.specs.declared.formula.Lit.{Lit}
use Rattle.cnf_form.specs.declared.formula.Clause.{Clause}
use Rattle.cnf_form.specs.declared.log.Log.{Log}
use Rattle.cnf_form.specs.declared.log.Step.{Step}
use Rattle.cnf_form.specs.declared.log.Step.TheVariants.{Add, Delete}
use Rattle.cnf_form.specs.Literals.{negated}
use Rattle.cnf_form.specs.Lines.{is_nil, is_skipped, lines, tokens}
use Rattle.cnf_form.specs.Numbers.{signed_of}
use Rattle.cnf_form.specs.Formulas.{literal}
use Rattle.cnf_form.specs.Writing.{lit_bytes}
use Rattle.cnf_form.proofs.Numerals.{NoEnds, decimal_begins, decimal_no_ends, decimal_signed, decimal_some, decimal_unsigned, minus_signed}
use Rattle.cnf_form.proofs.Cuts.{NoLf, line_cut, no_lf, no_lf_both, no_mark, token_space}
use Rattle.cnf_form.proofs.RoundTrip.{AreSmall, Begins, are_small, begins_more, clause_no_lf, clause_tokens, lit_begins, lit_signed, lit_token, literal_back, zero_signed}
use Rattle.lrat_check.specs.declared.reading.TheConstants.{GREATEST_ID}
use Rattle.lrat_check.specs.LogTexts.{LogIs, add_step, addition_of, by_first, by_hint, by_lit, by_line, ended, hint_value, hints_of, ids_of, line_steps, log_of, one_step, step_after, step_of, then_steps}
use Rattle.lrat_check.specs.Writing.{AreHints, IsHint, IsWritableLog, ReadsBack, hint_bytes, log_bytes, log_lines, step_line, used_after}

-- hints
hint_some : (h : ℤ) → IsHint h → 0 < length (signed_decimal h)
hint_some (pos n) i = decimal_some n (omega (arith, i.1))
hint_some (negsuc n) i = omega arith

hint_no_ends : (h : ℤ) → IsHint h → NoEnds (signed_decimal h)
hint_no_ends (pos n) i = decimal_no_ends n (omega (arith, i.1))
hint_no_ends (negsuc n) i = (refl, decimal_no_ends (suc n) (omega (arith, i)))

-- how a hint is read
hint_number : ℤ → Bool × ℕ
hint_number (pos n) = (false, n)
hint_number (negsuc n) = (true, suc n)

hint_signed : (h : ℤ) → IsHint h → signed_of GREATEST_ID (signed_decimal h) ≡ Some (hint_number h)
unfolding hint_number
hint_signed (pos n) i = decimal_signed GREATEST_ID n i.1 (omega (arith, i.1))
hint_signed (negsuc n) i = minus_signed GREATEST_ID (suc n) (omega (arith, i)) (omega (arith, i))

hint_back : (h : ℤ) → hint_value (hint_number h) ≡ h
unfolding hint_number
hint_back (pos n) = refl
hint_back (negsuc n) = ap negsuc (let e : suc n - 1 ≡ n = omega arith in e)

hint_not_zero : (h : ℤ) → IsHint h → (hint_number h).1 ≡ 0 → ⊥
unfolding hint_number
hint_not_zero (pos n) i e = omega (arith, i.0, e)
hint_not_zero (negsuc n) i e = omega (arith, e)

hint_split : (h : ℤ) (hs : List ℤ) (more : List ℕ) → flat_map hint_bytes (h ∷ hs) ++ more ≡ signed_decimal h ++ 32 ∷ (flat_map hint_bytes hs ++ more)
hint_split h hs more = append_assoc (signed_decimal h ++ 32 ∷ []) (flat_map hint_bytes hs) more ∙ append_assoc (signed_decimal h) (32 ∷ []) (flat_map hint_bytes hs ++ more)

hints_tokens : (hs : List ℤ) → AreHints hs → tokens (flat_map hint_bytes hs ++ 48 ∷ []) ≡ map signed_decimal hs ++ (48 ∷ []) ∷ []
hints_tokens [] a = refl
hints_tokens (h ∷ hs) a =
    ap tokens (hint_split h hs (48 ∷ []))
    ∙ token_space (signed_decimal h) (flat_map hint_bytes hs ++ 48 ∷ []) (hint_some h a.0) (hint_no_ends h a.0)
    ∙ ap (λ (r : List (List ℕ)). signed_decimal h ∷ r) (hints_tokens hs a.1)

hints_no_lf : (hs : List ℤ) → AreHints hs → NoLf (flat_map hint_bytes hs ++ 48 ∷ [])
hints_no_lf [] a = (refl, tt)
hints_no_lf (h ∷ hs) a = subst NoLf (sym (hint_split h hs (48 ∷ [])))
    (no_lf_both (signed_decimal h) (32 ∷ (flat_map hint_bytes hs ++ 48 ∷ [])) (no_lf (signed_decimal h) (hint_no_ends h a.0)) (refl, hints_no_lf hs a.1))

hints_back : (hs : List ℤ) → AreHints hs → hints_of (map signed_decimal hs ++ (48 ∷ []) ∷ []) ≡ Some hs
hints_back [] a = ap (λ (o : Option (Bool × ℕ)). by_hint o (Some []) None) (zero_signed GREATEST_ID)
hints_back (h ∷ hs) a =
    let rest : List (List ℕ) = map signed_decimal hs ++ (48 ∷ []) ∷ [] in
    ap (λ (o : Option (Bool × ℕ)). by_hint o (ended rest) (hints_of rest)) (hint_signed h a.0)
    ∙ ap (λ (b : Bool). cond b (ended rest) (option_map (λ ks. hint_value (hint_number h) ∷ ks) (hints_of rest))) (ne_eqb (hint_number h).1 0 (hint_not_zero h a.0))
    ∙ ap (option_map (λ ks. hint_value (hint_number h) ∷ ks)) (hints_back hs a.1)
    ∙ ap (λ (k : ℤ). Some (k ∷ hs)) (hint_back h)

-- literals
lits_back : (vars : ℕ) (c : List Lit) (ts : List (List ℕ)) (hs : List ℤ) → vars < 2 ^ 64 → AreSmall vars c → hints_of ts ≡ Some hs → addition_of vars (map lit_token c ++ (48 ∷ []) ∷ ts) ≡ Some (c, hs)
lits_back vars [] ts hs s a e = ap (λ (o : Option (Bool × ℕ)). by_lit o (hints_of ts) (addition_of vars ts)) (zero_signed vars) ∙ ap (option_map (λ ks. ([], ks))) e
lits_back vars (l ∷ c) ts hs s a e =
    let rest : List (List ℕ) = map lit_token c ++ (48 ∷ []) ∷ ts in
    ap (λ (o : Option (Bool × ℕ)). by_lit o (hints_of rest) (addition_of vars rest)) (lit_signed vars l.positive l.var a.1 (omega (arith, a.1, s)))
    ∙ ap (λ (b : Bool). cond b (option_map (λ ks. ([], ks)) (hints_of rest)) (option_map (λ p. (literal (negated l.positive, l.var) ∷ p.0, p.1)) (addition_of vars rest))) (ne_eqb l.var 0 (λ z. omega (arith, z, a.0)))
    ∙ ap (option_map (λ p. (literal (negated l.positive, l.var) ∷ p.0, p.1))) (lits_back vars c ts hs s a.2 e)
    ∙ ap (λ (x : Lit). Some (x ∷ c, hs)) (literal_back l)

-- the line of an addition, without its LF
add_line : ℕ → List Lit → List ℤ → List ℕ
add_line id c hs = decimal id ++ 32 ∷ (flat_map lit_bytes c ++ 48 ∷ 32 ∷ (flat_map hint_bytes hs ++ 48 ∷ []))

add_tokens : (vars id : ℕ) (c : List Lit) (hs : List ℤ) → vars < 2 ^ 64 → id ≤ GREATEST_ID → AreSmall vars c → AreHints hs
    → tokens (add_line id c hs) ≡ decimal id ∷ (map lit_token c ++ (48 ∷ []) ∷ (map signed_decimal hs ++ (48 ∷ []) ∷ []))
unfolding add_line
add_tokens vars id c hs s i a k =
    token_space (decimal id) (flat_map lit_bytes c ++ 48 ∷ 32 ∷ (flat_map hint_bytes hs ++ 48 ∷ [])) (decimal_some id (omega (arith, i))) (decimal_no_ends id (omega (arith, i)))
    ∙ ap (λ (r : List (List ℕ)). decimal id ∷ r)
    (clause_tokens vars c (48 ∷ 32 ∷ (flat_map hint_bytes hs ++ 48 ∷ [])) ((48 ∷ []) ∷ (map signed_decimal hs ++ (48 ∷ []) ∷ [])) s a
    (token_space (48 ∷ []) (flat_map hint_bytes hs ++ 48 ∷ []) (omega arith) (refl, tt) ∙ ap (λ (r : List (List ℕ)). (48 ∷ []) ∷ r) (hints_tokens hs k)))

add_no_lf : (vars id : ℕ) (c : List Lit) (hs : List ℤ) → vars < 2 ^ 64 → id ≤ GREATEST_ID → AreSmall vars c → AreHints hs → NoLf (add_line id c hs)
unfolding add_line
add_no_lf vars id c hs s i a k =
    no_lf_both (decimal id) (32 ∷ (flat_map lit_bytes c ++ 48 ∷ 32 ∷ (flat_map hint_bytes hs ++ 48 ∷ []))) (no_lf (decimal id) (decimal_no_ends id (omega (arith, i))))
    (refl, clause_no_lf vars c (48 ∷ 32 ∷ (flat_map hint_bytes hs ++ 48 ∷ [])) s a (refl, (refl, hints_no_lf hs k)))

add_begins : (id : ℕ) (c : List Lit) (hs : List ℤ) → id ≤ GREATEST_ID → Begins (add_line id c hs)
unfolding add_line
add_begins id c hs i = begins_more (decimal id) (32 ∷ (flat_map lit_bytes c ++ 48 ∷ 32 ∷ (flat_map hint_bytes hs ++ 48 ∷ []))) (decimal_begins id (omega (arith, i)))

no_d : (t : List ℕ) (b : ℕ) (bs : List ℕ) → t ≡ b ∷ bs → b < 58 → pointwise nat_eq t (100 ∷ []) ≡ false
no_d t b bs e h = ap (λ (x : List ℕ). pointwise nat_eq x (100 ∷ [])) e ∙ ap (λ (c : Bool). c && pointwise nat_eq bs []) (ne_eqb b 100 (λ k. omega (arith, h, k)))

after_back : (vars id : ℕ) (c : List Lit) (ts : List (List ℕ)) (hs : List ℤ) → vars < 2 ^ 64 → AreSmall vars c → hints_of ts ≡ Some hs
    → step_after vars id (map lit_token c ++ (48 ∷ []) ∷ ts) ≡ Some (Add id (record { lits = c }) hs)
after_back vars id [] ts hs s a e = ap (option_map (add_step id)) (lits_back vars [] ts hs s a e)
after_back vars id (l ∷ c) ts hs s a e =
    let b = lit_begins l.positive l.var (omega (arith, a.1, s)) in
    ap (λ (x : Bool). cond x (option_map (λ ids. Delete ids) (ids_of (map lit_token c ++ (48 ∷ []) ∷ ts))) (option_map (add_step id) (addition_of vars (map lit_token (l ∷ c) ++ (48 ∷ []) ∷ ts)))) (no_d (lit_token l) b.0 b.1 b.2 b.3)
    ∙ ap (option_map (add_step id)) (lits_back vars (l ∷ c) ts hs s a e)

add_back : (vars id : ℕ) (c : List Lit) (hs : List ℤ) → vars < 2 ^ 64 → 1 ≤ id → id ≤ GREATEST_ID → AreSmall vars c → AreHints hs → line_steps vars (add_line id c hs) ≡ Some (Add id (record { lits = c }) hs ∷ [])
add_back vars id c hs s o i a k =
    let ts : List (List ℕ) = map lit_token c ++ (48 ∷ []) ∷ (map signed_decimal hs ++ (48 ∷ []) ∷ []) in
    let t = add_tokens vars id c hs s i a k in
    ap (λ (b : Bool). cond b (Some []) (option_map one_step (step_of vars (tokens (add_line id c hs))))) (not_skipped t)
    ∙ ap (λ (r : List (List ℕ)). option_map one_step (step_of vars r)) t
    ∙ ap (λ (n : Option ℕ). option_map one_step (by_first vars n ts)) (decimal_unsigned GREATEST_ID id i (omega (arith, i)))
    ∙ ap (λ (b : Bool). option_map one_step (cond b None (step_after vars id ts))) (ne_eqb id 0 (λ z. omega (arith, z, o)))
    ∙ ap (option_map one_step) (after_back vars id c (map signed_decimal hs ++ (48 ∷ []) ∷ []) hs s a (hints_back hs k))
  where
    begins : Begins (add_line id c hs)
    begins = add_begins id c hs i

    not_skipped : tokens (add_line id c hs) ≡ decimal id ∷ (map lit_token c ++ (48 ∷ []) ∷ (map signed_decimal hs ++ (48 ∷ []) ∷ [])) → is_skipped (add_line id c hs) ≡ false
    not_skipped t = ap (λ (x : Bool). x || is_nil (tokens (add_line id c hs))) (no_mark (add_line id c hs) begins.1 begins.0 begins.2 (λ e. omega (arith, e, begins.3)) (λ e. omega (arith, e, begins.3))).0 ∙ ap is_nil t

-- a step's line and the lines after it
step_split : (top : Option ℕ) (id : ℕ) (clause : Clause) (hs : List ℤ) (more : List ℕ) → step_line top (Add id clause hs) ++ more ≡ add_line id clause.lits hs ++ 10 ∷ more
unfolding add_line
step_split top id clause hs more = simp append_assoc refl

no_fault : (r : Result (List Step) ℕ) (x : List Step) (n : ℕ) → r ≡ Ok x → r ≡ Err n → ⊥
no_fault r x n e f = cc

log_back : (vars n : ℕ) (top : Option ℕ) (steps : List Step) → vars < 2 ^ 64 → IsWritableLog vars steps → log_of vars n (lines (log_lines top steps)) ≡ Ok steps
log_back vars n top [] s w = refl
log_back vars n top (Add id clause hs ∷ steps) s w =
    let i = w.0.1 in let a = are_small vars clause.lits w.0.2 in let k = w.0.3 in
    let more : List ℕ = log_lines (used_after top (Add id clause hs)) steps in
    ap (λ (t : List ℕ). log_of vars n (lines t)) (step_split top id clause hs more)
    ∙ ap (log_of vars n) (line_cut (add_line id clause.lits hs) more (add_no_lf vars id clause.lits hs s i a k))
    ∙ ap (λ (o : Option (List Step)). by_line n o (log_of vars (n + 1) (lines more))) (add_back vars id clause.lits hs s w.0.0 i a k)
    ∙ ap (then_steps (Add id clause hs ∷ [])) (log_back vars (n + 1) (used_after top (Add id clause hs)) steps s w.1)
log_back vars n top (Delete ids ∷ steps) s w = absurd w.0

-- the lines that are written of additions say them
pub says_written : (vars : ℕ) (steps : List Step) (bytes : List ℕ) → vars < 2 ^ 64 → IsWritableLog vars steps → bytes ≡ log_bytes steps → log_of vars 1 (lines bytes) ≡ Ok steps
says_written vars steps bytes s w e = ap (λ (t : List ℕ). log_of vars 1 (lines t)) e ∙ log_back vars 1 None steps s w

pub reads_back : (vars : ℕ) (log : Log) (bytes : List ℕ) (r : Result Log (Fail FormatFault)) → vars < 2 ^ 64 → LogIs vars bytes r → IsWritableLog vars log.steps → bytes ≡ log_bytes log.steps → ReadsBack log r
reads_back vars log bytes r s f w e = go r f (says_written vars log.steps bytes s w e)
  where
    same : (x : Result (List Step) ℕ) (a b : List Step) → x ≡ Ok a → x ≡ Ok b → a ≡ b
    same x a b e f = cc

    go : (r : Result Log (Fail FormatFault)) → LogIs vars bytes r → log_of vars 1 (lines bytes) ≡ Ok log.steps → ReadsBack log r
    go (Ok x) f h = ap (λ (ss : List Step). let l : Log = record { steps = ss } in l) (same (log_of vars 1 (lines bytes)) x.steps log.steps f h)
    go (Err (Refused fault)) f h = no_fault (log_of vars 1 (lines bytes)) log.steps fault.line h f.0
    go (Err NoMemory) f h = tt
