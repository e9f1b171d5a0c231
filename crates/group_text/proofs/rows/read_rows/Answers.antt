use Rattle.std.proofs.Common.{◌≡◌, ℕ, ◌<◌, ◌+◌, ◌&&◌, Bool, false, List, ◌∷◌, [], ◌++◌, Ok, length, sym, ◌∙◌, ap, subst, arith}
use Rattle.block_choices.specs.declared.row.BlockRow.{BlockRow}
use Rattle.cnf_form.specs.Lines.{line_of, tokens}
use Rattle.group_text.specs.Names.{AreNamed, row_of, rows_after}
use Rattle.group_text.specs.Saying.{is_word}
use Rattle.group_text.specs.Weights.{before_weight, from_weight}
use Rattle.group_text.proofs.Telling.{before_more, from_more, row_more, rows_are_more}
use Rattle.group_text.proofs.rows.read_rows.Goals.{then-may, else-may}
use Rattle.group_text.proofs.rows.read_rows.Goals as goal

pub loop-token-preserved : goal.loop-token-preserved
loop-token-preserved c =
    let ts = tokens (line_of c.next_token.result.1.now) in
    let named : Ok c.in-Ok.row ≡ row_of c.args.sizes.now (c.args.named + length c.loop-token.rows.items) c.next_token.result.0.now = search (arith, c.in-Ok.ensures.row) in
    let pushed : c.push.new.self.items ≡ c.loop-token.rows.items ++ c.in-Ok.row ∷ [] = c.in_ok-push-in-Ok.ensures.items in
    let some : 0 < length c.next_token.result.0.now = search arith in
    let row : (c.args.may && is_word 61 c.next_token.result.0.now) ≡ false = elim c.if-may.branch [
      | then-may w ↦ ap (λ (b : Bool). b && is_word 61 c.next_token.result.0.now) w.if-may.true ∙ (let is = w.is_word.ensures in let value = w.value-is in let none = c.if-is_word.false in cc)
      | else-may w ↦ ap (λ (b : Bool). b && is_word 61 c.next_token.result.0.now) w.if-may.false
    ] in
    let told = c.loop-token.invariant.told ∙ ap (λ (us : List (List ℕ)). rows_after c.args.sizes.now c.args.named c.loop-token.rows.items (before_weight c.args.may us)) c.next_token.ensures.tokens
    ∙ ap (rows_after c.args.sizes.now c.args.named c.loop-token.rows.items) (before_more c.args.may c.next_token.result.0.now ts some row) in
    record {
      told = told ∙ row_more c.args.sizes.now c.args.named c.loop-token.rows.items c.next_token.result.0.now (before_weight c.args.may ts) c.in-Ok.row some named ∙ ap (λ (xs : List BlockRow). rows_after c.args.sizes.now c.args.named xs (before_weight c.args.may ts)) (sym pushed);
      from = c.loop-token.invariant.from ∙ ap (from_weight c.args.may) c.next_token.ensures.tokens ∙ from_more c.args.may c.next_token.result.0.now ts some row;
      are = subst (AreNamed c.args.sizes.now c.args.named) (sym pushed) (rows_are_more c.args.sizes.now c.args.named c.loop-token.rows.items c.in-Ok.row c.loop-token.invariant.are c.in-Ok.ensures.there (omega (arith, c.in-Ok.ensures.room, c.len.ensures)));
    }
