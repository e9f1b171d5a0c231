use Rattle.std.proofs.Common.{◌∙◌, List, ℕ, Option, ap, arith, Contains, get_or, length, map, subst, sym}
use Rattle.std.proofs.lemmas.List.{length-map}
use Rattle.std.proofs.lemmas.Result.{IfOk-weaker}
use Rattle.join_access.specs.declared.witness.Witness.{Witness}
use Rattle.join_access.specs.Listing.{names_of, no_name}
use Rattle.row_witnesses.proofs.Told.{all_names}
use Rattle.rows_against.specs.Against.{IsAgainst}
use Rattle.rows_against.specs.Fewest.{AreFewest, HasHit}
use Rattle.rows_against.proofs.Ending.{against, below, each_hit, hits_from}
use Rattle.rows_against.proofs.Rejecting.{rejecting_chosen}
use Rattle.rows_against.proofs.minimal.minimal_rows.Goals as goal

pub all_hits-requires : goal.all_hits-requires
all_hits-requires c =
    let w = c.args.witnesses.now in
    let b = w.bound.now in
    rejecting_chosen b.db.now b.query.now w.row.now b.database b.fits (names_of w.list) (all_names w) c.args.rejecting.now c.requires.rejecting

pub fewest-requires-clause-hit : goal.fewest-requires-clause-hit
fewest-requires-clause-hit c = λ witness l.
    let w = c.args.witnesses.now in
    let b = w.bound.now in
    let chosen = rejecting_chosen b.db.now b.query.now w.row.now b.database b.fits (names_of w.list) (all_names w) c.args.rejecting.now c.requires.rejecting in
    let size = length-map w.list (λ (x : Witness). x.rows) in
    let count = c.len-count.ensures in
    subst (λ (hs : List (List (Option ℕ))). (number : ℕ) × HasHit hs witness number) (sym c.as_slice.ensures)
    (each_hit b.db.now b.query.now w.row.now b.database b.fits (names_of w.list) (all_names w) c.args.rejecting.now chosen c.in_ok-hits.hits c.in_ok-hits.ensures.atoms c.in_ok-hits.ensures.hits witness (omega (arith, l, size, count)))

pub fewest-requires-clause-below : goal.fewest-requires-clause-below
fewest-requires-clause-below c = λ witness number l hit.
    let w = c.args.witnesses.now in
    let b = w.bound.now in
    let chosen = rejecting_chosen b.db.now b.query.now w.row.now b.database b.fits (names_of w.list) (all_names w) c.args.rejecting.now c.requires.rejecting in
    let size = length-map w.list (λ (x : Witness). x.rows) in
    let count = c.len-count.ensures in
    (hits_from b.db.now b.query.now w.row.now b.database b.fits (names_of w.list) (all_names w) c.args.rejecting.now chosen c.in_ok-hits.hits c.in_ok-hits.ensures.atoms c.in_ok-hits.ensures.hits witness (omega (arith, l, size, count)) number
    (subst (λ (hs : List (List (Option ℕ))). HasHit hs witness number) c.as_slice.ensures hit)).0

pub numbered-requires : goal.numbered-requires
numbered-requires c = λ number m.
    let w = c.args.witnesses.now in
    let b = w.bound.now in
    let chosen = rejecting_chosen b.db.now b.query.now w.row.now b.database b.fits (names_of w.list) (all_names w) c.args.rejecting.now c.requires.rejecting in
    let count = c.len-count.ensures ∙ sym (length-map w.list (λ (x : Witness). x.rows)) in
    let few = subst (λ (hs : List (List (Option ℕ))). AreFewest hs (length (names_of w.list)) c.in_ok-numbers.numbers.items) c.as_slice.ensures
    (subst (λ n. AreFewest c.as_slice.result.now n c.in_ok-numbers.numbers.items) count c.in_ok-numbers.ensures) in
    below b.db.now b.query.now w.row.now b.database b.fits (names_of w.list) (all_names w) c.args.rejecting.now chosen c.in_ok-hits.hits c.in_ok-hits.ensures.atoms c.in_ok-hits.ensures.hits c.in_ok-numbers.numbers.items few number
    (subst (λ (ns : List ℕ). Contains ns number) c.as_slice-2.ensures.value m)

pub returns : goal.returns
returns c =
    let w = c.args.witnesses.now in
    let b = w.bound.now in
    let names = c.args.rejecting.now in
    let numbers = c.in_ok-numbers.numbers.items in
    let chosen = rejecting_chosen b.db.now b.query.now w.row.now b.database b.fits (names_of w.list) (all_names w) names c.requires.rejecting in
    let count = c.len-count.ensures ∙ sym (length-map w.list (λ (x : Witness). x.rows)) in
    let few = subst (λ (hs : List (List (Option ℕ))). AreFewest hs (length (names_of w.list)) numbers) c.as_slice.ensures (subst (λ n. AreFewest c.as_slice.result.now n numbers) count c.in_ok-numbers.ensures) in
    IfOk-weaker c.numbered.result _ _ (λ some e.
    subst (IsAgainst b.db.now b.query.now w.row.now) (sym (e ∙ ap (map (λ number. get_or names number no_name)) c.as_slice-2.ensures.value))
    (against b.db.now b.query.now w.row.now b.database b.fits (names_of w.list) (all_names w) names chosen c.in_ok-hits.hits c.in_ok-hits.ensures.atoms c.in_ok-hits.ensures.hits numbers few)) c.numbered.ensures
