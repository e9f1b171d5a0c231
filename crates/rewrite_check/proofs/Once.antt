-- A statement leads on to one stage at most.
use Rattle.std.proofs.Common.{◌≡◌, List, [], ◌∷◌, ◌++◌, Option, Some, refl, ap, sym, ◌∙◌, subst}
use Rattle.std.proofs.lemmas.Option.{same_Some}
use Rattle.std.specs.List.{AllZip}
use mathlib.Core.HLevel.{is_prop→PathP}
use Rattle.cqa_model.specs.declared.schema.Schema.{Schema}
use Rattle.cqa_model.specs.Shape.{IsSchema}
use Rattle.spj_syntax.specs.declared.tree.Statement.TheVariants as statements
use Rattle.spj_syntax.specs.declared.tree.Verb.TheVariants as verbs
use Rattle.spj_syntax.specs.declared.tree.RawSchema.{RawSchema}
use Rattle.query_resolve.specs.Names.{name_place}
use Rattle.query_resolve.specs.Resolved.{IsSchemaOf, IsQueryOf}
use Rattle.rewrite_check.proofs.Same.{query_once}
use Rattle.spj_syntax.proofs.Once.{statement_once, order_once, block_once}
use Rattle.spj_syntax.specs.declared.tree.RawBlock.{RawBlock}
use Rattle.rewrite_check.specs.declared.certificate.Certificate.{Certificate}
use Rattle.rewrite_check.specs.Spelling.{Created, Asked, Ordered, node_of}
use Rattle.rewrite_check.specs.Laws.{LeadsOnce}
use Rattle.table_blocks.proofs.Changing.{kept_once}

pub zip_once : {A B : Type 0} (f : A → Option B) (names : List A) (xs ys : List B) → AllZip (λ n x. f n ≡ Some x) names xs → AllZip (λ n x. f n ≡ Some x) names ys → xs ≡ ys
zip_once f [] [] [] a b = refl
zip_once f [] [] (y ∷ ys) a b = absurd b
zip_once f [] (x ∷ xs) ys a b = absurd a
zip_once f (n ∷ names) [] ys a b = absurd a
zip_once f (n ∷ names) (x ∷ xs) [] a b = absurd b
zip_once f (n ∷ names) (x ∷ xs) (y ∷ ys) a b =
    let e = same_Some x y (sym a.0 ∙ b.0) in
    let r = zip_once f names xs ys a.1 b.1 in
    λ i. e i ∷ r i

pub schema_once : (raw : RawSchema) (s t : Schema) → IsSchemaOf raw s → IsSchemaOf raw t → s ≡ t
schema_once raw s t a b =
    let n = a.name ∙ sym b.name in
    let c = a.columns ∙ sym b.columns in
    let p : s.key ≡ t.key = zip_once _ raw.key s.key t.key a.key b.key in
    let m = a.strict ∙ sym b.strict in
    λ i. record { name = n i; columns = c i; key = p i; strict = m i; kept = is_prop→PathP (λ j. IsSchema (c j) (p j)) (λ j. kept_once (c j) (p j)) s.kept t.kept i }

pub leads_once : LeadsOnce
leads_once (Created db) text (Created n) (Created m) a b =
    let said = statement_once text (statements.Create a.0) (statements.Create b.0) a.1 b.1 in
    let raw : a.0 ≡ b.0 = cc in
    let s = schema_once b.0 a.3.0 b.3.0 (subst (λ r. IsSchemaOf r a.3.0) raw a.3.1) b.3.1 in
    ap Created (a.3.2 ∙ ap (λ z. db ++ (record { schema = z; rows = [] }) ∷ []) s ∙ sym b.3.2)
leads_once (Created db) text (Created n) (Asked o s q r) a b = let said = statement_once text (statements.Create a.0) (statements.Asking (verbs.Prove r) s) a.1 b.1 in absurd (cc)
leads_once (Created db) text (Asked o s q r) (Created n) a b = let said = statement_once text (statements.Asking (verbs.Prove r) s) (statements.Create b.0) a.1 b.1 in absurd (cc)
leads_once (Created db) text (Asked o s q r) (Asked p t k w) a b =
    let said = statement_once text (statements.Asking (verbs.Prove r) s) (statements.Asking (verbs.Prove w) t) a.1 b.1 in
    let rows : r ≡ w = cc in
    let selects : s ≡ t = cc in
    let tables : o ≡ p = a.0 ∙ sym b.0 in
    let queries = query_once db t q k (subst (λ z. IsQueryOf db z q) selects a.2.1) b.2.1 in
    λ i. Asked (tables i) (selects i) (queries i) (rows i)
leads_once (Created db) text (Ordered c) y a b = absurd a
leads_once (Created db) text (Created n) (Ordered c) a b = absurd b
leads_once (Created db) text (Asked o s q r) (Ordered c) a b = absurd b
leads_once (Asked db s q r) text (Created n) y a b = absurd a
leads_once (Asked db s q r) text (Asked o t k w) y a b = absurd a
leads_once (Asked db s q r) text (Ordered c) (Created n) a b = absurd b
leads_once (Asked db s q r) text (Ordered c) (Asked o t k w) a b = absurd b
leads_once (Asked db s q r) text (Ordered c) (Ordered e) a b =
    let names = order_once text a.0 b.0 a.1 b.1 in
    let order = zip_once (λ n. name_place s.tables n) b.0 c.order e.order (subst (λ z. AllZip (λ n F. name_place s.tables n ≡ Some F) z c.order) names a.2.0) b.2.0 in
    ap Ordered (a.3 ∙ ap (λ z. record { tables = db; select = s; query = q; row = r; order = z; nodes = [] }) order ∙ sym b.3)
leads_once (Ordered c) text (Created n) y a b = absurd a
leads_once (Ordered c) text (Asked o s q r) y a b = absurd a
leads_once (Ordered c) text (Ordered d) (Created n) a b = absurd b
leads_once (Ordered c) text (Ordered d) (Asked o s q r) a b = absurd b
leads_once (Ordered c) text (Ordered d) (Ordered e) a b =
    let same = block_once text a.0 b.0 a.1 b.1 in
    let next : RawBlock → Certificate = λ raw. record c { nodes = c.nodes ++ node_of c raw ∷ [] } in
    ap Ordered (a.3 ∙ ap next same ∙ sym b.3)
