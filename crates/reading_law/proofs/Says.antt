-- What a text says by its tokens.
use Rattle.std.proofs.Common.{◌≡◌, ◌≤◌, ℕ, false, List, [], length, refl, sym, subst}
use Rattle.std.specs.List.{AllByRecursion}
use Rattle.script_lex.specs.Tokens.{tokens_of}
use Rattle.spj_syntax.specs.declared.tree.Statement.{Statement as Tree}
use Rattle.spj_syntax.specs.Grammar.{statement}
use Rattle.spj_syntax.specs.Lexemes.{Lexeme}
use Rattle.spj_syntax.specs.Parsed.{Fits, is_set}
use Rattle.spj_syntax.specs.Shapes.{Shape, Generates}
use Rattle.spj_syntax.specs.Texts.{HasStatement, IsFormOf}
use Rattle.spj_syntax.specs.Written.{statement_tokens}
use Rattle.reading_law.proofs.Tokens.{Spelled}

-- the text is this statement
pub has_statement : (text : List ℕ) (tree : Tree) → Spelled text (statement_tokens tree) → is_set (statement_tokens tree) ≡ false → Generates statement (statement_tokens tree) → length text ≤ 1_048_576 → HasStatement text tree
has_statement text tree spelled no_set generated short =
    let h = spelled text [] refl in
    record {
      tokens = tokens_of h.pieces;
      short = short;
      spelled = record { pieces = h.pieces; splits = h.splits; clean = h.clean; tokens_are = refl };
      allowed = record { generated = subst (Generates statement) (sym h.are) generated };
      fit = subst (λ ls. AllByRecursion (Fits (is_set ls)) ls) (sym h.are) (subst (λ b. AllByRecursion (Fits b) (statement_tokens tree)) (sym no_set) h.fit);
      written = record { tokens = h.are };
    }

-- the text is of this shape
pub has_form : (p : Shape) (text : List ℕ) (ls : List Lexeme) → Spelled text ls → Generates p ls → length text ≤ 1_048_576 → IsFormOf p text ls
has_form p text ls spelled generated short =
    let h = spelled text [] refl in
    record {
      tokens = tokens_of h.pieces;
      short = short;
      spelled = record { pieces = h.pieces; splits = h.splits; clean = h.clean; tokens_are = refl };
      allowed = subst (Generates p) (sym h.are) generated;
      fit = subst (AllByRecursion (Fits false)) (sym h.are) h.fit;
      is = h.are;
    }
