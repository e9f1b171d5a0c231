-- Statements that are read one after another, and how their text is cut.
use Rattle.std.proofs.Common.{◌≡◌, ◌+◌, ◌<◌, ◌≤◌, ℕ, List, [], ◌∷◌, ◌++◌, codes, Contains, None, length, map, refl, sym, ap, subst, arith, append_assoc, length-append}
use Rattle.std.proofs.lemmas.List.{append-nil}
use Rattle.cqa_value.proofs.Words.{mem-head, mem-tail}
use Rattle.cqa_model.specs.declared.query.Atom.{Atom}
use Rattle.cqa_model.specs.declared.schema.Schema.{Schema}
use Rattle.cqa_model.specs.Database.{Table, names_of}
use Rattle.schema_text.specs.Text.{schema_bytes}
use Rattle.cqa_model.specs.Valid.{HasNames}
use Rattle.csv_rows.specs.Dumps.{create_words}
use Rattle.script_lex.specs.Scripts.{Statement as Part}
use Rattle.spj_syntax.specs.declared.tree.Statement.TheVariants as statements
use Rattle.table_blocks.specs.Tables.{table_named}
use Rattle.rewrite_check.specs.declared.certificate.Certificate.{Certificate}
use Rattle.rewrite_check.specs.Spelling.{Stage, Created, Ordered, LeadsOn, LeadsThrough, SpellsCertificate}
use Rattle.rewrite_text.specs.Texts.{certificate_create, certificate_creates, statements_bytes}
use Rattle.reading_law.proofs.Cut.{IsCutInto, no_text, both_texts, plain_cut, whole_cut}
use Rattle.reading_law.proofs.Grammar.{create_generated}
use Rattle.reading_law.proofs.Resolved.{Differ, last_free, schema_is, schema_fits}
use Rattle.reading_law.proofs.Says.{has_statement}
use Rattle.reading_law.proofs.WrittenStatements.{raw_of, columns_named, key_named, create_spelled}
use Rattle.reading_law.proofs.WrittenTexts.{create_is_text, create_copies_not}
use Rattle.rewrite_text.proofs.Quiet.{IsSound}
use Rattle.rewrite_text.proofs.Tables.{AreTablesOf, emptied}

-- statements lead from one stage to another, each cut off by its `;`
abbrev pub AreRead : Stage → List (List ℕ) → Stage → Type 0
AreRead stage [] last = stage ≡ last
AreRead stage (text ∷ texts) last = (mid : Stage) × IsSound text × LeadsOn stage text mid × AreRead mid texts last

pub read_both : (stage mid last : Stage) (xs ys : List (List ℕ)) → AreRead stage xs mid → AreRead mid ys last → AreRead stage (xs ++ ys) last
read_both stage mid last [] ys a b = subst (λ z. AreRead z ys last) (sym a) b
read_both stage mid last (x ∷ xs) ys a b = (a.0, a.1, a.2, read_both a.0 mid last xs ys a.3 b)

-- a statement without a block
abbrev plain : List ℕ → Part
plain text = (text, None)

cut_of : (stage last : Stage) (texts : List (List ℕ)) → AreRead stage texts last → IsCutInto (statements_bytes texts) (map plain texts)
cut_of stage last [] a = no_text
cut_of stage last (text ∷ texts) a =
    both_texts (text ++ codes ";\n") (statements_bytes texts) (plain text ∷ []) (map plain texts) (plain_cut text a.1.is a.1.no_copy) (cut_of a.0 last texts a.3)

leads_of : (stage last : Stage) (texts : List (List ℕ)) → AreRead stage texts last → LeadsThrough stage (map plain texts) last
leads_of stage last [] a = a
leads_of stage last (text ∷ texts) a = (a.0, a.2, leads_of a.0 last texts a.3)

-- statements that lead to a certificate spell it
pub spells : (texts : List (List ℕ)) (c : Certificate) → AreRead (Created []) texts (Ordered c) → SpellsCertificate (statements_bytes texts) c
spells texts c a =
    let cut = whole_cut (statements_bytes texts) (map plain texts) (cut_of (Created []) (Ordered c) texts a) in
    record { parts = map plain texts; rest = cut.0; begins = cut.1.begins; ends = cut.1.over; blank = cut.2; leads = leads_of (Created []) (Ordered c) texts a }

-- ---- tables

abbrev pub create_of : Table → List ℕ
create_of table = create_words table.schema.strict ++ schema_bytes table.schema

pub creates_are : (db : List Table) (atoms : List Atom) (tables : List Table) → AreTablesOf db atoms tables → certificate_creates db atoms ≡ map create_of tables
creates_are db [] [] are = refl
creates_are db [] (table ∷ tables) are = absurd are
creates_are db (atom ∷ atoms) [] are = absurd are
creates_are db (atom ∷ atoms) (table ∷ tables) are =
    let e : certificate_create _ ≡ create_of table = ap certificate_create are.0 in
    let es = creates_are db atoms tables are.1 in
    λ i. e i ∷ es i

create_leads : (done : List Table) (schema : Schema) (h : HasNames schema) → table_named done schema.name ≡ None → length done < 12 → length (create_words schema.strict ++ schema_bytes schema) ≤ 1_048_576
    → LeadsOn (Created done) (create_words schema.strict ++ schema_bytes schema) (Created (done ++ (record { schema = schema; rows = [] }) ∷ []))
create_leads done schema h free room short = (
  raw_of schema h,
  has_statement (create_words schema.strict ++ schema_bytes schema) (statements.Create (raw_of schema h)) (create_spelled schema h) refl (create_generated (raw_of schema h) (columns_named schema h) (key_named schema h)) short,
  (room, schema_fits done schema h free (omega (arith, room))),
  (schema, schema_is schema h, refl),
)

pub creates_read : (done tables : List Table) → ((table : Table) → Contains tables table → HasNames table.schema) → ((table : Table) → Contains tables table → length (create_of table) ≤ 1_048_576)
    → Differ (names_of (done ++ map emptied tables)) → length done + length tables ≤ 12 → AreRead (Created done) (map create_of tables) (Created (done ++ map emptied tables))
creates_read done [] named short differ few = ap Created (sym (append-nil done))
creates_read done (table ∷ tables) named short differ few =
    let h = named table (mem-head table tables) in
    let more = done ++ emptied table ∷ [] in
    let next : more ++ map emptied tables ≡ done ++ emptied table ∷ map emptied tables = append_assoc done (emptied table ∷ []) (map emptied tables) in
    let long : length more ≡ length done + 1 = length-append done (emptied table ∷ []) in (
      Created more,
      record { is = create_is_text table.schema h; no_copy = create_copies_not table.schema },
      create_leads done table.schema h (last_free done (emptied table) (map emptied tables) differ) (omega (arith, few)) (short table (mem-head table tables)),
      subst (λ all. AreRead (Created more) (map create_of tables) (Created all)) next
          (creates_read more tables (λ t m. named t (mem-tail t table tables m)) (λ t m. short t (mem-tail t table tables m)) (subst (λ all. Differ (names_of all)) (sym next) differ) (omega (arith, few, long))),
    )
