-- The formula of lists, from their numbered blocks, the names of its rows, and its clauses.
use Rattle.std.proofs.Common.{◌≡◌, ℕ, ◌<◌, ◌+◌, List, [], ◌∷◌, ◌++◌, length, get_or, map, take, sym, ◌∙◌, ap, arith}
use Rattle.std.specs.List.{range_with_len}
use Rattle.std.proofs.lemmas.Grind.{flat_map-append}
use Rattle.std.proofs.lemmas.Simd.{map-map}
use Rattle.std.proofs.lemmas.List.{append-nil, map-append, take_more}
use Rattle.cqa_model.specs.declared.query.RowId.{RowId}
use Rattle.cqa_model.specs.Database.{Table}
use Rattle.cnf_form.specs.Literals.{literals}
use Rattle.row_lists.specs.declared.span.Span.{Span}
use Rattle.row_lists.specs.declared.formula.Encoded.{Encoded}
use Rattle.row_lists.specs.Clauses.{Variable, positive}
use Rattle.row_lists.specs.Lists.{name}
use Rattle.row_lists.specs.Formulas.{name_in, IsFrame}
use Rattle.row_lists.specs.Spans.{at, variables_in, variables_of_spans, numbers_in, formula_of_spans}
use Rattle.row_lists.specs.Encodings.{AreListSpansTo, AddsLists, IsListEncoded}
use Rattle.row_lists.proofs.Spans.{variables-length}
use Rattle.row_lists.proofs.Reading.{no_span}
use Rattle.row_lists.proofs.Blocks.{are_list_variables, are_list_blocks}

pub variables-push : (spans : List Span) (s : Span) → variables_of_spans (spans ++ s ∷ []) ≡ variables_of_spans spans ++ variables_in s
variables-push spans s = flat_map-append variables_in spans (s ∷ []) ∙ ap (λ xs. variables_of_spans spans ++ xs) (append-nil (variables_in s))

-- the names of the rows of one more block, where the variables of its slot have names of a table
pub names_more : (f : Variable → RowId) (table : ℕ) (spans : List Span) (i : ℕ) → i < length spans → ((p : ℕ) → f (at (get_or spans i no_span).slot p) ≡ name table p) → (old new : List RowId) →
    old ≡ map f (variables_of_spans (take i spans)) → new ≡ old ++ map (name table) (range_with_len (get_or spans i no_span).start (get_or spans i no_span).count) → new ≡ map f (variables_of_spans (take (i + 1) spans))
names_more f table spans i l named old new h e =
    let s = get_or spans i no_span in
    let range = range_with_len s.start s.count in
    let mine : map f (variables_in s) ≡ map (name table) range = map-map f (at s.slot) range ∙ ap (λ (g : ℕ → RowId). map g range) (λ j p. named p j) in
    e ∙ (ap (λ ns. ns ++ map (name table) range) h ∙ (ap (λ ns. map f (variables_of_spans (take i spans)) ++ ns) (sym mine)
    ∙ (sym (map-append f (variables_of_spans (take i spans)) (variables_in s)) ∙ ap (map f) (sym (ap variables_of_spans (take_more spans i no_span l) ∙ variables-push (take i spans) s)))))

pub list_encoded : (db : List Table) (frame : List ℕ) (lists : List (List RowId)) → IsFrame db frame → (m : ℕ) (spans : List Span) → AreListSpansTo db frame lists (length frame) m spans → (e : Encoded) → e.cnf.vars ≡ m →
    e.rows ≡ map (name_in frame) (variables_of_spans spans) → AddsLists frame spans lists (map (map positive) (map numbers_in spans)) (literals e.cnf.clauses) → IsListEncoded db frame lists e
list_encoded db frame lists fr m spans h e vars rows c = record {
  formula = formula_of_spans spans c.numbers;
  is = record { variables = are_list_variables db frame lists m spans h fr; blocks = are_list_blocks db frame lists m spans h fr; witnesses = c.numbered };
  vars = let long = variables-length 0 m spans h.based in omega (arith, vars, long);
  are = c.is;
  rows = rows;
}
