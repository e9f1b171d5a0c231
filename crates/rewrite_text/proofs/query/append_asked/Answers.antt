use Rattle.std.proofs.Common.{◌≡◌, ◌∷◌, ◌++◌, ◌∙◌, Contains, ap, codes, rules, subst, sym}
use Rattle.std.specs.List.{flat_map}
use Rattle.std.proofs.lemmas.Result.{on_ok_weaker}
use Rattle.cqa_model.proofs.Classic.{mem-head, mem-tail}
use Rattle.rewrite_text.specs.Texts.{asked_text, qualified_name}
use Rattle.rewrite_text.proofs.Drafting.{three_parts}
use Rattle.rewrite_text.proofs.query.append_asked.Goals as goal

pub append_column-requires : goal.append_column-requires
append_column-requires c =
    let e : c.args.columns.now ≡ c.in-Some.first.now ∷ c.in-Some.rest.now = search rules in
    c.requires c.in-Some.first.now (subst (λ z. Contains z c.in-Some.first.now) (sym e) (mem-head c.in-Some.first.now c.in-Some.rest.now))

pub append_more_columns-requires : goal.append_more_columns-requires
append_more_columns-requires c =
    let e : c.args.columns.now ≡ c.in-Some.first.now ∷ c.in-Some.rest.now = search rules in
    λ k m. c.requires k (subst (λ z. Contains z k) (sym e) (mem-tail k c.in-Some.first.now c.in-Some.rest.now m))

pub returns : goal.returns
returns c =
    let e : c.args.columns.now ≡ c.in-Some.first.now ∷ c.in-Some.rest.now = search rules in
    let old = c.args.out.now.items in
    on_ok_weaker c.append_more_columns.result (λ h. three_parts old (codes "select ") (qualified_name c.args.bound.now.db.now c.args.bound.now.query.now c.in-Some.first.now) (flat_map (λ column. codes ", " ++ qualified_name c.args.bound.now.db.now c.args.bound.now.query.now column) c.in-Some.rest.now)
    c.append-2.new.out.items c.append_column.new.out.items c.append_more_columns.new.out.items c.in_ok-append.ensures c.in_ok-append_column.ensures h ∙ ap (λ z. old ++ asked_text c.args.bound.now.db.now c.args.bound.now.query.now z) (sym e)) c.append_more_columns.ensures
