-- One statement of a certificate: what it says, and whether it leads on.
use Rattle.std.proofs.Common.{◌≡◌, ◌≤◌, ℕ, List, length, Option, Some, None, MatchOption, Bor, Result, Ok, Err, IfOk, IfErr, refl, sym, ◌∙◌, subst}
use Rattle.std.proofs.lemmas.Option.{same_Some}
use Rattle.cqa_value.specs.declared.value.Value.{Value}
use Rattle.cqa_value.specs.declared.memory.Fail.{Fail}
use Rattle.cqa_value.specs.declared.memory.Fail.TheVariants.{NoMemory, Refused}
use Rattle.refusals.specs.declared.refusal.Refusal.{Refusal}
use Rattle.query_resolve.specs.Checks.{answer_fault}
use Rattle.cqa_model.specs.declared.query.Query.{Query}
use Rattle.cqa_model.specs.Database.{Table}
use Rattle.script_lex.specs.declared.kinds.Token.{Token}
use Rattle.script_lex.specs.Tokens.{Spells, longest_text}
use Rattle.script_lex.proofs.Spelling.{spells_same}
use Rattle.spj_syntax.specs.declared.fault.SyntaxFault.{SyntaxFault}
use Rattle.spj_syntax.specs.declared.tree.Statement.{Statement}
use Rattle.spj_syntax.specs.declared.tree.Statement.TheVariants as statements
use Rattle.spj_syntax.specs.declared.tree.Verb.TheVariants as verbs
use Rattle.spj_syntax.specs.declared.tree.RawSchema.{RawSchema}
use Rattle.spj_syntax.specs.declared.tree.Select.{Select}
use Rattle.spj_syntax.specs.Parsed.{lexemes, IsStatement, AllLexemesFit}
use Rattle.spj_syntax.specs.declared.tree.RawBlock.{RawBlock}
use Rattle.rewrite_check.specs.declared.certificate.Claim.{Claim}
use Rattle.rewrite_check.specs.declared.certificate.Certificate.{Certificate}
use Rattle.rewrite_check.specs.declared.opening.Opening.{Opening}
use Rattle.rewrite_check.specs.declared.opening.Opening.TheVariants as openings
use Rattle.spj_syntax.specs.Texts.{HasStatement, IsOrderText, IsBlockText}
use Rattle.rewrite_check.specs.Spelling.{Stage, Created, Asked, Ordered, CanAsk, CanCreate, CanList, IsOrderBy, LeadsOn}
use Rattle.rewrite_check.specs.Reading.{Position, TakesText, IsAtEnd, GoesFrom, HasOpening, IfRefused, IsBadStatement, IsClaimOf, Means, asked_stage, certificate_of}
use Rattle.spj_syntax.proofs.Once.{statement_once, order_once}
use Rattle.rewrite_check.proofs.Moving.{one_read, bad_on, bad_text}

-- tokens that are refused are no statement
pub not_said : (text : List ℕ) (tokens : List Token) (fail : Fail SyntaxFault) (fault : SyntaxFault) → fail ≡ Refused fault → Spells text tokens →
    (IsStatement (lexemes text tokens) → AllLexemesFit (lexemes text tokens) → fail ≡ NoMemory) → (other : Statement) → HasStatement text other → ⊥
not_said text tokens fail fault is spelled complete other h =
    let same = spells_same h.spelled spelled in
    let e = complete (subst (λ z. IsStatement (lexemes text z)) same h.allowed) (subst (λ z. AllLexemesFit (lexemes text z)) same h.fit) in
    cc

-- what a statement means is what its text says
pub opened : (text : List ℕ) (said : Statement) (o : Opening) → HasStatement text said → Means said o → HasOpening text o
opened text said (openings.Create raw) h m = subst (HasStatement text) m h
opened text said (openings.Prove row select) h m = subst (HasStatement text) m h
opened text said openings.Other h m = (λ raw k. m.0 raw (statement_once text said (statements.Create raw) h k), λ row select k. m.1 row select (statement_once text said (statements.Asking (verbs.Prove row) select) h k))

pub unsaid : (text : List ℕ) → ((other : Statement) → HasStatement text other → ⊥) → HasOpening text openings.Other
unsaid text none = (λ raw. none (statements.Create raw), λ row select. none (statements.Asking (verbs.Prove row) select))

-- a table that can't be created
pub no_create : (db : List Table) (raw : RawSchema) → (CanCreate db raw → ⊥) → (text : List ℕ) → HasOpening text (openings.Create raw) → (next : Stage) → LeadsOn (Created db) text next → ⊥
no_create db raw none text h (Created new) l =
    let said = statement_once text (statements.Create l.0) (statements.Create raw) l.1 h in
    let same : l.0 ≡ raw = cc in
    none (subst (CanCreate db) same l.2)
no_create db raw none text h (Asked own s q r) l = let said = statement_once text (statements.Asking (verbs.Prove r) s) (statements.Create raw) l.1 h in absurd (cc)
no_create db raw none text h (Ordered c) l = l

-- a row that can't be proved
pub no_claim : (db : List Table) (row : List Value) (select : Select) → ((q : Query) → CanAsk db select q row → ⊥) → (text : List ℕ) → HasOpening text (openings.Prove row select) →
    (next : Stage) → LeadsOn (Created db) text next → ⊥
no_claim db row select none text h (Created new) l = let said = statement_once text (statements.Create l.0) (statements.Asking (verbs.Prove row) select) l.1 h in absurd (cc)
no_claim db row select none text h (Asked own s q r) l =
    let said = statement_once text (statements.Asking (verbs.Prove r) s) (statements.Asking (verbs.Prove row) select) l.1 h in
    let rows : r ≡ row = cc in
    let selects : s ≡ select = cc in
    none q (subst (λ z. CanAsk db z q row) selects (subst (λ z. CanAsk db s q z) rows l.2))
no_claim db row select none text h (Ordered c) l = l

-- another statement
pub no_opening : (db : List Table) (text : List ℕ) → HasOpening text openings.Other → (next : Stage) → LeadsOn (Created db) text next → ⊥
no_opening db text h (Created new) l = h.0 l.0 l.1
no_opening db text h (Asked own s q r) l = h.1 r s l.1
no_opening db text h (Ordered c) l = l

-- a row that can be proved
pub leads_claim : (db : List Table) (row : List Value) (select : Select) (claim : Claim) → IsClaimOf db row select claim → (text : List ℕ) → HasOpening text (openings.Prove row select) → LeadsOn (Created db) text (asked_stage db claim)
leads_claim db row select claim is text h =
    let r = is.row_is in
    let s = is.select_is in
    (refl, subst (λ z. HasStatement text (statements.Asking (verbs.Prove claim.row) z)) (sym s) (subst (λ z. HasStatement text (statements.Asking (verbs.Prove z) select)) (sym r) h), is.can)

-- what a statement of the first part leads to
pub step_leads : (old new : List Table) (a b : Position) (text : List ℕ) (said : Opening) (found : Option Claim) → TakesText a text b → HasOpening text said →
    ((text : List ℕ) → HasOpening text said → MatchOption found (LeadsOn (Created old) text (Created new)) (λ claim. LeadsOn (Created old) text (asked_stage new claim))) →
    MatchOption found (GoesFrom (Created old) a (Created new) b) (λ claim. GoesFrom (Created old) a (asked_stage new claim) b)
step_leads old new a b text said None t h leads = one_read (Created old) (Created new) a b text t (leads text h)
step_leads old new a b text said (Some claim) t h leads = one_read (Created old) (asked_stage new claim) a b text t (leads text h)

-- no order
pub no_order : (db : List Table) (claim : Claim) (text : List ℕ) → ((names : List (List ℕ)) (other : List ℕ) → IsOrderText text names → IsOrderBy claim.select claim.query names other → ⊥) →
    (next : Stage) → LeadsOn (asked_stage db claim) text next → ⊥
no_order db claim text none (Created new) l = l
no_order db claim text none (Asked own s q r) l = l
no_order db claim text none (Ordered c) l = none l.0 c.order l.1 l.2

-- no block
pub no_block : (c : Certificate) (text : List ℕ) → ((raw : RawBlock) → IsBlockText text raw → CanList c.tables raw → ⊥) → (next : Stage) → LeadsOn (Ordered c) text next → ⊥
no_block c text none (Created new) l = l
no_block c text none (Asked own s q r) l = l
no_block c text none (Ordered e) l = none l.0 l.1 l.2

-- the row of a query over the tables of a value that is made of both
pub answered : (db e : List Table) (q p : Query) (row : List Value) (fault : Option Refusal) → e ≡ db → p ≡ q → answer_fault e p row ≡ fault → answer_fault db q row ≡ fault
answered db e q p row fault same is h = subst (λ z. answer_fault db z row ≡ fault) is (subst (λ z. answer_fault z p row ≡ fault) same h)

-- ---- what is found, or isn't

pub no_tokens : (text : List ℕ) (found : Option (List Token)) → found ≡ None →
    MatchOption found ((other : List Token) → length text ≤ longest_text → Spells text other → ⊥) (λ tokens. (length text ≤ longest_text) × Spells text tokens) →
    (other : List Token) → length text ≤ longest_text → Spells text other → ⊥
no_tokens text None e h = h
no_tokens text (Some tokens) e h = absurd (cc e)

pub some_said : (text : List ℕ) (found : Option Statement) (said : Statement) → found ≡ Some said → MatchOption found ((other : Statement) → HasStatement text other → ⊥) (HasStatement text) → HasStatement text said
some_said text None said e h = absurd (cc e)
some_said text (Some other) said e h = subst (HasStatement text) (same_Some other said e) h

pub none_said : (text : List ℕ) (found : Option Statement) → found ≡ None → MatchOption found ((other : Statement) → HasStatement text other → ⊥) (HasStatement text) → (other : Statement) → HasStatement text other → ⊥
none_said text None e h = h
none_said text (Some other) e h = absurd (cc e)

pub none_asked : (db : List Table) (row : List Value) (select : Select) (found : Option Claim) → found ≡ None → MatchOption found ((q : Query) → CanAsk db select q row → ⊥) (IsClaimOf db row select) → (q : Query) → CanAsk db select q row → ⊥
none_asked db row select None e h = h
none_asked db row select (Some claim) e h = absurd (cc e)

pub some_names : (text : List ℕ) (found : Option (List (List ℕ))) (names : List (List ℕ)) → found ≡ Some names → MatchOption found ((other : List (List ℕ)) → IsOrderText text other → ⊥) (IsOrderText text) → IsOrderText text names
some_names text None names e h = absurd (cc e)
some_names text (Some other) names e h = subst (IsOrderText text) (same_Some other names e) h

-- an order by the names of a text
abbrev OrderFound : List ℕ → Select → Query → Option (List ℕ) → Type 0
OrderFound text select q found = MatchOption found ((names : List (List ℕ)) (other : List ℕ) → IsOrderText text names → IsOrderBy select q names other → ⊥) (λ order. (names : List (List ℕ)) × IsOrderText text names × IsOrderBy select q names order)

pub order_told : {E : Type 0} (text : List ℕ) (select : Select) (q : Query) (names seen : List (List ℕ)) (result : Result (Option (List ℕ)) E) → IsOrderText text names → seen ≡ names →
    IfOk result (λ found. MatchOption found ((other : List ℕ) → IsOrderBy select q seen other → ⊥) (IsOrderBy select q seen)) → IfOk result (OrderFound text select q)
order_told text select q names seen (Err e) is same h = tt
order_told text select q names seen (Ok None) is same h = λ other order k by. h order (subst (λ z. IsOrderBy select q z order) (order_once text other names k is ∙ sym same) by)
order_told text select q names seen (Ok (Some order)) is same h = (names, is, subst (λ z. IsOrderBy select q z order) same h)

pub order_leads : (claim : Claim) (text : List ℕ) (found : Option (List ℕ)) (order : List ℕ) → found ≡ Some order → OrderFound text claim.select claim.query found → (db : List Table) →
    LeadsOn (asked_stage db claim) text (Ordered (certificate_of db claim order))
order_leads claim text None order e h db = absurd (cc e)
order_leads claim text (Some other) order e h db = (h.0, h.1, subst (IsOrderBy claim.select claim.query h.0) (same_Some other order e) h.2, refl)

pub order_none : (claim : Claim) (text : List ℕ) (found : Option (List ℕ)) → found ≡ None → OrderFound text claim.select claim.query found → (names : List (List ℕ)) (other : List ℕ) → IsOrderText text names → IsOrderBy claim.select claim.query names other → ⊥
order_none claim text None e h = h
order_none claim text (Some other) e h = absurd (cc e)

-- ---- a statement of the first part

pub step_told : (old new : List Table) (a b : Position) (text : List ℕ) (said : Opening) (result : Result (Option Claim) (Fail ℕ)) → TakesText a text b → HasOpening text said →
    IfOk result (λ found. (text : List ℕ) → HasOpening text said → MatchOption found (LeadsOn (Created old) text (Created new)) (λ claim. LeadsOn (Created old) text (asked_stage new claim))) →
    IfOk result (λ found. MatchOption found (GoesFrom (Created old) a (Created new) b) (λ claim. GoesFrom (Created old) a (asked_stage new claim) b))
step_told old new a b text said (Ok found) t h leads = step_leads old new a b text said found t h leads
step_told old new a b text said (Err e) t h leads = tt

pub step_bad : (db : List Table) (a b : Position) (text : List ℕ) (said : Opening) (number : ℕ) (result : Result (Option Claim) (Fail ℕ)) → TakesText a text b → HasOpening text said → number ≡ b.before →
    IfErr result (IfRefused (λ n. (n ≡ number) × ((text : List ℕ) → HasOpening text said → (next : Stage) → LeadsOn (Created db) text next → ⊥))) → IfErr result (IfRefused (IsBadStatement (Created db) a))
step_bad db a b text said number result t h is bad =
    bad_on result (λ n. (n ≡ number) × ((text : List ℕ) → HasOpening text said → (next : Stage) → LeadsOn (Created db) text next → ⊥)) (IsBadStatement (Created db) a)
    (λ n k. bad_text (Created db) a b text n t (k.0 ∙ is) (k.1 text h)) bad

pub step_some : (old new : List Table) (a b : Position) (found : Option Claim) (claim : Claim) → found ≡ Some claim →
    MatchOption found (GoesFrom (Created old) a (Created new) b) (λ claim. GoesFrom (Created old) a (asked_stage new claim) b) → GoesFrom (Created old) a (asked_stage new claim) b
step_some old new a b None claim e h = absurd (cc e)
step_some old new a b (Some other) claim e h = subst (λ z. GoesFrom (Created old) a (asked_stage new z) b) (same_Some other claim e) h

pub step_none : (old new : List Table) (a b : Position) (found : Option Claim) → found ≡ None →
    MatchOption found (GoesFrom (Created old) a (Created new) b) (λ claim. GoesFrom (Created old) a (asked_stage new claim) b) → GoesFrom (Created old) a (Created new) b
step_none old new a b None e h = h
step_none old new a b (Some other) e h = absurd (cc e)

-- ---- a statement behind the order

pub some_text : (old new : Position) (found : Option (Bor (List ℕ))) (text : Bor (List ℕ)) → found ≡ Some text → MatchOption found (IsAtEnd old × (new ≡ old)) (λ t. TakesText old t.now new) → TakesText old text.now new
some_text old new None text e h = absurd (cc e)
some_text old new (Some other) text e h = subst (λ (z : Bor (List ℕ)). TakesText old z.now new) (same_Some other text e) h

pub some_block : (text : List ℕ) (found : Option RawBlock) (raw : RawBlock) → found ≡ Some raw → MatchOption found ((other : RawBlock) → IsBlockText text other → ⊥) (IsBlockText text) → IsBlockText text raw
some_block text None raw e h = absurd (cc e)
some_block text (Some other) raw e h = subst (IsBlockText text) (same_Some other raw e) h
