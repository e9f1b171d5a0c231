use Rattle.std.proofs.Common.{◌≡◌, ◌+◌, ℕ, List, [], ◌∷◌, ◌++◌, Some, Contains, take, sym, subst}
use Rattle.std.proofs.lemmas.List.{take_more}
use Rattle.std.specs.List.{AllZip}
use Rattle.cqa_value.proofs.Words.{all_zip_push}
use Rattle.cqa_model.specs.Shape.{AreDistinct}
use Rattle.query_resolve.specs.Names.{name_place}
use Rattle.rewrite_check.proofs.Places.{stands_twice, apart_more}
use Rattle.rewrite_check.proofs.order.add_places.Goals as goal

pub returns-in-None-clause-none : goal.returns-in-None-clause-none
returns-in-None-clause-none c = λ e other named apart.
    let tables = c.args.tables.now in
    let name = c.name-item.result in
    stands_twice (λ n. name_place tables n) c.args.names.now c.loop-name.name-index name c.loop-name.order.items other c.loop-name-test.true (sym c.name-item.is) c.loop-name.invariant.0
    (subst (λ z. (place : ℕ) → name_place tables name ≡ Some place → Contains z place) c.as_slice.ensures.value c.in-None.ensures) named apart

pub loop-name-preserved : goal.loop-name-preserved
loop-name-preserved c =
    let names = c.args.names.now in
    let name = c.name-item.result in
    let at = c.loop-name.name-index in
    let order = c.loop-name.order.items in
    let place = c.in-Some.place in
    let R : List ℕ → ℕ → Type 0 = λ n F. name_place c.args.tables.now n ≡ Some F in
    let pushed : c.push.new.self.items ≡ order ++ place ∷ [] = c.in_ok-push-in-Some.ensures.items in
    let zipped = subst (λ z. AllZip R (take at names ++ z ∷ []) (order ++ place ∷ [])) c.name-item.is (all_zip_push R (take at names) order name place c.loop-name.invariant.0 c.in-Some.ensures.0) in
    let whole = subst (λ z. AllZip R z (order ++ place ∷ [])) (sym (take_more names at name c.loop-name-test.true)) zipped in
    let apart = apart_more order place c.loop-name.invariant.1 (λ m. c.in-Some.ensures.1 (subst (λ z. Contains z place) (sym c.as_slice.ensures.value) m)) in
    (subst (λ z. AllZip R (take (at + 1) names) z) (sym pushed) whole, subst AreDistinct (sym pushed) apart)
