use Rattle.std.proofs.Common.{◌++◌, ◌∷◌, [], Some, inl, ◌∙◌, ap, arith}
use Rattle.std.proofs.lemmas.List.{map_push}
use Rattle.cnf_form.specs.declared.formula.Clause.{Clause}
use Rattle.cnf_form.specs.Literals.{literals}
use Rattle.pair_formula.proofs.Pairing.{no-number, read-number, pair-none-left, pair-none-right}
use Rattle.pair_formula.proofs.formula.add_pair.Goals as goal

pub returns-in_ok-push : goal.returns-in_ok-push
returns-in_ok-push c =
    let spans = c.args.blocks.now.spans in
    let names = c.as_slice-names.result.now in
    let rows = c.args.witness.now.rows in
    let two = c.requires in
    inl (
      record { left = c.in-Some.left; right = c.in-Some-number_of.right },
      (
        read-number spans names rows 0 (Some c.in-Some.left) c.as_slice-names.ensures (omega (arith, two)) c.in-Some.ensures,
        read-number spans names rows 1 (Some c.in-Some-number_of.right) c.as_slice-names.ensures (omega (arith, two)) c.in-Some-number_of.ensures,
      ),
      ap literals c.in_ok-push.ensures.items ∙ (map_push (λ (x : Clause). x.lits) c.args.clauses.now.items c.in_ok-not_both_of.field-0 ∙ ap (λ l. literals c.args.clauses.now.items ++ l ∷ []) c.in_ok-not_both_of.ensures),
    )

pub returns-in_default-number_of : goal.returns-in_default-number_of
returns-in_default-number_of c =
    let spans = c.args.blocks.now.spans in
    let rows = c.args.witness.now.rows in
    let two = c.requires in
    let n = read-number spans c.as_slice-names.result.now rows 1 c.number_of-in-Some.result c.as_slice-names.ensures (omega (arith, two)) c.number_of-in-Some.ensures in
    pair-none-right spans rows _ (no-number spans 1 _ c.number_of-in-Some.result c.in_default-number_of.not-Some n)

pub returns-in_default : goal.returns-in_default
returns-in_default c =
    let spans = c.args.blocks.now.spans in
    let rows = c.args.witness.now.rows in
    let two = c.requires in
    let n = read-number spans c.as_slice-names.result.now rows 0 c.number_of.result c.as_slice-names.ensures (omega (arith, two)) c.number_of.ensures in
    pair-none-left spans rows _ (no-number spans 0 _ c.number_of.result c.in_default.not-Some n)
