use Rattle.std.proofs.Common.{◌≡◌, ◌↔◌, ◌-◌, ◌++◌, IsTrue, not, Bool, List, Contains, length, take, drop, subst, sym, refl, ◌∙◌, ap, arith, rules}
use Rattle.std.specs.List.{filter}
use Rattle.std.specs.List.Sorted.{IsStrictlySortedBy}
use Rattle.std.proofs.lemmas.List.Kept.{IsStrictlySortedBy-filter}
use Rattle.std.proofs.lemmas.List.Filters.{length-filter_both}
use Rattle.cqa_value.specs.declared.value.Value.{Value}
use Rattle.cqa_value.proofs.Words.{Contains-filter}
use Rattle.cqa_model.specs.Database.{block_cmp}
use Rattle.table_blocks.specs.Tables.{IsToldStretch, TestsHold}
use Rattle.table_blocks.proofs.Passing.{dec_tests, is_yes, is_no, turned_round}
use Rattle.std.proofs.lemmas.Fn.{always_returns_same}
use Rattle.table_blocks.proofs.Sparing.{spared_all}
use Rattle.table_blocks.proofs.rows.remove.Goals as goal
use Rattle.table_blocks.proofs.rows.remove.Goals.{After-retain_in}

-- the rows that stay are those for which not all tests hold
left : (c : After-retain_in) → c.retain_in.new.self ≡ filter (λ row. not (is_yes (dec_tests c.args.tests.now row))) c.args.rows.now
left c =
    let key = c.args.key.now in
    let rows = c.args.rows.now in
    let from = c.told_places-from.result.0 in
    let told = subst (λ xs. IsToldStretch key xs c.args.tests.now from c.told_places-from.result.1) c.rows.ensures c.told_places-from.ensures.told in
    let stays : List Value → Bool = λ row. not (is_yes (dec_tests c.args.tests.now row)) in
    c.retain_in.ensures.retained stays (always_returns_same _ _ _ (λ a r f k. let both : IsTrue r ↔ (TestsHold c.args.tests.now a.0.now → ⊥) = search rules in (turned_round (dec_tests c.args.tests.now a.0.now) r both.0 both.1, search rules)))
    ∙ ap (λ to. (take from rows ++ filter stays (take (to - from) (drop from rows))) ++ drop to rows) told.end
    ∙ spared_all stays key rows told.values from told.stretch told.is (λ row n. (is_no (dec_tests c.args.tests.now row)).1 (λ t. n (told.known row t)))

pub retain_in-requires-clause-order : goal.retain_in-requires-clause-order
retain_in-requires-clause-order c = let to = c.told_places-from.ensures.told.end in omega (arith, to)

pub returns-clause-spared : goal.returns-clause-spared
returns-clause-spared c = record {
  in_order = subst (IsStrictlySortedBy (block_cmp c.args.key.now)) (sym (left c)) (IsStrictlySortedBy-filter (block_cmp c.args.key.now) (λ row. not (is_yes (dec_tests c.args.tests.now row))) c.args.rows.now c.requires);
  members = λ row. (let kept = Contains-filter (λ row. not (is_yes (dec_tests c.args.tests.now row))) c.args.rows.now row in
      let no_test = is_no (dec_tests c.args.tests.now row) in (
        λ h. let k = kept.0 (subst (λ rows. Contains rows row) (left c) h) in (k.0, no_test.0 k.1),
        λ h. subst (λ rows. Contains rows row) (sym (left c)) (kept.1 (h.0, no_test.1 h.1)),
      ));
}

pub returns-clause-fewer : goal.returns-clause-fewer
returns-clause-fewer c =
    let stays : List Value → Bool = λ row. not (is_yes (dec_tests c.args.tests.now row)) in
    let both = length-filter_both stays (λ row. not (stays row)) (λ row. refl) c.args.rows.now in
    let same = ap length (left c) in
    omega (arith, both, same)
