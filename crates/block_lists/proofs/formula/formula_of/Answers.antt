use Rattle.std.proofs.Common.{◌≡◌, ◌++◌, ◌∙◌, List, ℕ, map, ap, sym, subst}
use Rattle.cnf_form.specs.declared.formula.Clause.{Clause}
use Rattle.cnf_form.specs.Literals.{literals, positive}
use Rattle.block_lists.specs.Formulas.{blocks_from}
use Rattle.block_lists.specs.Numbers.{AddsLists, IsBasedOver}
use Rattle.block_lists.proofs.Bases.{all-numbers-of, is-based}
use Rattle.block_lists.proofs.formula.formula_of.Goals as goal

pub add_lists-requires : goal.add_lists-requires
add_lists-requires c = λ names m x i.
    subst (λ (bs : List ℕ). IsBasedOver bs x) (sym (c.as_slice.ensures.value ∙ c.in_ok-fill_bases.ensures))
    (is-based c.args.sizes.now x c.requires.few (c.requires.there names m x i))

pub returns : goal.returns
returns c =
    let sizes = c.args.sizes.now in
    let lists = c.args.lists.now in
    let blocks = map (map positive) (blocks_from 0 sizes) in
    let first : literals c.add_blocks.new.clauses.items ≡ blocks = c.in_ok-add_blocks.ensures ∙ ap (λ (cs : List Clause). literals cs ++ blocks) c.in_ok-clauses.ensures.items in
    let added = subst (λ (bs : List ℕ). AddsLists bs lists (literals c.add_blocks.new.clauses.items) (literals c.add_lists.new.clauses.items)) (c.as_slice.ensures.value ∙ c.in_ok-fill_bases.ensures) c.in_ok-add_lists.ensures in
    record {
      vars = c.total.ensures;
      numbers = added.numbers;
      numbered = all-numbers-of sizes lists added.numbers c.requires.there added.numbered;
      clauses = ap literals c.from_vec.ensures ∙ (added.is ∙ ap (λ cs. cs ++ map (map Rattle.cnf_form.specs.Literals.negative) added.numbers) first);
    }
