-- The blocks of a made tree, written one after another.
use Rattle.std.proofs.Common.{◌≡◌, ℕ, ◌+◌, zero, suc, Some, List, [], ◌∷◌, ◌++◌, length, take, map, Contains, slice_get, refl, ap, sym, ◌∙◌, subst, arith}
use Rattle.std.proofs.lemmas.Option.{same_Some, none-some}
use Rattle.std.proofs.lemmas.List.{append-nil, map-append}
use Rattle.std.proofs.lemmas.Grind.{flat_map-append}
use Rattle.std.specs.List.{AllZip}
use Rattle.cqa_value.specs.declared.value.Value.{Value}
use Rattle.cqa_value.proofs.Words.{all_zip_push}
use Rattle.cqa_model.specs.declared.query.Query.{Query}
use Rattle.cqa_model.specs.Database.{Table, stored}
use Rattle.cqa_model.proofs.Classic.{mem-head, mem-tail}
use Rattle.cqa_model.specs.Query.{atom_key, rows_of}
use Rattle.cqa_model.specs.Plan.{Placed}
use Rattle.plan_rows.specs.Links.{RowHolds}
use Rattle.fo_plan.specs.FirstBlock.{IsFirstWith}
use Rattle.block_tree.specs.declared.node.Node.{Node}
use Rattle.block_tree.specs.Trees.{listing}
use Rattle.rewrite_text.specs.declared.draft.Draft.{Draft}
use Rattle.rewrite_text.specs.Made.{IsMade}
use Rattle.rewrite_text.specs.Texts.{certificate_block}
use Rattle.rewrite_text.specs.Drafts.{AddsStatements, IsBetween, IsTooLongBehind}
use Rattle.rewrite_text.specs.Growing.{AddsNodes, AddsTree, AddsTreesUnder, AreLongTreesUnder, AreMadeUnder, AreTooLongBehind, IsLongTree}
use Rattle.rewrite_text.proofs.Made.{once, first_once, zip_once}
use Rattle.rewrite_text.proofs.Drafting.{adds_none, adds_both, front_over, rest_over}

one_more : (n : ℕ) → suc n ≡ n + 1
one_more n = omega arith

take_suc : {A : Type 0} (xs : List A) (i : ℕ) (x : A) → slice_get xs i ≡ Some x → take (suc i) xs ≡ take i xs ++ x ∷ []
take_suc [] i x e = absurd (none-some x e)
take_suc (y ∷ xs) zero x e = ap (λ z. z ∷ []) (same_Some y x e)
take_suc (y ∷ xs) (suc i) x e = ap (λ z. y ∷ z) (take_suc xs i x e)

take_more : {A : Type 0} (xs : List A) (i : ℕ) (x : A) → slice_get xs i ≡ Some x → take (i + 1) xs ≡ take i xs ++ x ∷ []
take_more xs i x e = ap (λ n. take n xs) (sym (one_more i)) ∙ take_suc xs i x e

pub get_there : {A : Type 0} (xs : List A) (i : ℕ) (x : A) → slice_get xs i ≡ Some x → Contains xs x
get_there [] i x e = absurd (none-some x e)
get_there (y ∷ xs) zero x e = subst (λ z. Contains (y ∷ xs) z) (same_Some y x e) (mem-head y xs)
get_there (y ∷ xs) (suc i) x e = mem-tail x y xs (get_there xs i x e)

-- what is so of all is so of the first ones, of one behind them, and of those behind it
pub record IsPartedAt {A B : Type 0} (R : A → B → Type 0) (xs : List A) (ys : List B) (i : ℕ) (x : A) : Type 0 where
  pub front : List B
  pub one : B
  pub rest : List B
  pub parts : ys ≡ (front ++ one ∷ []) ++ rest
  pub fronts : AllZip R (take i xs) front
  pub mine : R x one

zip_part : {A B : Type 0} (R : A → B → Type 0) (xs : List A) (ys : List B) (i : ℕ) (x : A) → slice_get xs i ≡ Some x → AllZip R xs ys → IsPartedAt R xs ys i x
zip_part R [] ys i x e h = absurd (none-some x e)
zip_part R (a ∷ xs) [] i x e h = absurd h
zip_part R (a ∷ xs) (b ∷ ys) zero x e h = record { front = []; one = b; rest = ys; parts = refl; fronts = tt; mine = subst (λ z. R z b) (same_Some a x e) h.0 }
zip_part R (a ∷ xs) (b ∷ ys) (suc i) x e h =
    let p = zip_part R xs ys i x e h.1 in
    record { front = b ∷ p.front; one = p.one; rest = p.rest; parts = ap (λ z. b ∷ z) p.parts; fronts = (h.0, p.fronts); mine = p.mine }

listing_both : (ps qs : List (List Node)) → listing (ps ++ qs) ≡ listing ps ++ listing qs
listing_both ps qs = flat_map-append (λ part. part) ps qs

listing_push : (ps : List (List Node)) (p : List Node) → listing (ps ++ p ∷ []) ≡ listing ps ++ p
listing_push ps p = listing_both ps (p ∷ []) ∙ ap (λ z. listing ps ++ z) (append-nil p)

module _ (db : List Table) (q : Query) where
  blocks_both : (a b : List Node) → map (certificate_block db q) (a ++ b) ≡ map (certificate_block db q) a ++ map (certificate_block db q) b
  blocks_both a b = map-append (certificate_block db q) a b

  pub nodes_none : (draft : Draft) → IsBetween draft → AddsNodes db q [] draft draft
  nodes_none draft begun = adds_none draft begun

  nodes_both : (a b : List Node) (old mid new : Draft) → AddsNodes db q a old mid → AddsNodes db q b mid new → AddsNodes db q (a ++ b) old new
  nodes_both a b old mid new f r = subst (λ z. AddsStatements z old new) (sym (blocks_both a b)) (adds_both (map (certificate_block db q) a) (map (certificate_block db q) b) old mid new f r)

  nodes_front_over : (a b : List Node) (before : ℕ) → AreTooLongBehind db q before a → AreTooLongBehind db q before (a ++ b)
  nodes_front_over a b before h = subst (IsTooLongBehind before) (sym (blocks_both a b)) (front_over (map (certificate_block db q) a) (map (certificate_block db q) b) before h)

  nodes_rest_over : (a b : List Node) (old mid : Draft) → AddsNodes db q a old mid → AreTooLongBehind db q (length mid.out.items) b → AreTooLongBehind db q (length old.out.items) (a ++ b)
  nodes_rest_over a b old mid f h = subst (IsTooLongBehind (length old.out.items)) (sym (blocks_both a b)) (rest_over (map (certificate_block db q) a) (map (certificate_block db q) b) old mid f h)

  module _ (row : List Value) (taken : List Placed) where
    module _ (F : ℕ) (plan : List ℕ) where
      abbrev below : List Value → List Node → Type 0
      below x part = IsMade q (stored db) row (record { atom = F; row = x } ∷ taken) plan part

      pub under_starts : (block : List (List Value)) (old : Draft) → IsBetween old → AddsTreesUnder db q row taken F plan (take 0 block) old old
      under_starts block old begun = record { parts = []; made = tt; added = nodes_none old begun }

      pub under_more : (block : List (List Value)) (i : ℕ) (y : List Value) (old mid new : Draft) → slice_get block i ≡ Some y → AddsTreesUnder db q row taken F plan (take i block) old mid →
          AddsTree db q row (record { atom = F; row = y } ∷ taken) plan mid new → AddsTreesUnder db q row taken F plan (take (i + 1) block) old new
      under_more block i y old mid new e so tree = record {
        parts = so.parts ++ tree.nodes ∷ [];
        made = subst (λ z. AllZip below z (so.parts ++ tree.nodes ∷ [])) (sym (take_more block i y e)) (all_zip_push below (take i block) so.parts y tree.nodes so.made tree.made);
        added = subst (λ z. AddsNodes db q z old new) (sym (listing_push so.parts tree.nodes)) (nodes_both (listing so.parts) tree.nodes old mid new so.added tree.added);
      }

      -- the tree under a row is too long behind those under the rows before it, which are the only ones
      pub under_over : (block : List (List Value)) (i : ℕ) (y : List Value) (old mid : Draft) → slice_get block i ≡ Some y → AddsTreesUnder db q row taken F plan (take i block) old mid →
          IsLongTree db q row (record { atom = F; row = y } ∷ taken) plan (length mid.out.items) → AreLongTreesUnder db q row taken F plan block (length old.out.items)
      under_over block i y old mid e so long parts made =
          let p = zip_part below block parts i y e made in
          let same : so.parts ≡ p.front = zip_once below (λ x a b m n. once q (stored db) row plan (record { atom = F; row = x } ∷ taken) a b m n) (take i block) so.parts p.front so.made p.fronts in
          let added = subst (λ z. AddsNodes db q (listing z) old mid) same so.added in
          let two = nodes_rest_over (listing p.front) p.one old mid added (long p.one p.mine) in
          let all = nodes_front_over (listing p.front ++ p.one) (listing p.rest) (length old.out.items) two in
          subst (AreTooLongBehind db q (length old.out.items)) (sym (ap listing p.parts ∙ listing_both (p.front ++ p.one ∷ []) p.rest ∙ ap (λ z. z ++ listing p.rest) (listing_push p.front p.one))) all

      abbrev node : List (List Value) → Node
      node rows = record { atom = F; rows = rows }

      pub tree_added : (block : List (List Value)) (old mid new : Draft) → IsFirstWith (atom_key q F) (rows_of q (stored db) F) (RowHolds q (stored db) row taken F plan) block →
          AddsStatements (certificate_block db q (node block) ∷ []) old mid → AddsTreesUnder db q row taken F plan block mid new → AddsTree db q row taken (F ∷ plan) old new
      tree_added block old mid new first added under = record {
        nodes = node block ∷ listing under.parts;
        made = (block, under.parts, refl, first, under.made);
        added = adds_both (certificate_block db q (node block) ∷ []) (map (certificate_block db q) (listing under.parts)) old mid new added under.added;
      }

      -- its first block is too long
      pub block_over : (block : List (List Value)) (before : ℕ) → IsFirstWith (atom_key q F) (rows_of q (stored db) F) (RowHolds q (stored db) row taken F plan) block →
          IsTooLongBehind before (certificate_block db q (node block) ∷ []) → IsLongTree db q row taken (F ∷ plan) before
      block_over block before first long nodes (rows, parts, is, other, under) =
          let same : block ≡ rows = first_once q (stored db) row (atom_key q F) (rows_of q (stored db) F) (RowHolds q (stored db) row taken F plan) block rows first other in
          let here = subst (λ z. AreTooLongBehind db q before (node z ∷ [])) same long in
          subst (AreTooLongBehind db q before) (sym is) (nodes_front_over (node rows ∷ []) (listing parts) before here)

      -- the trees under its rows are
      pub tree_over : (block : List (List Value)) (old mid : Draft) → IsFirstWith (atom_key q F) (rows_of q (stored db) F) (RowHolds q (stored db) row taken F plan) block →
          AddsStatements (certificate_block db q (node block) ∷ []) old mid → AreLongTreesUnder db q row taken F plan block (length mid.out.items) → IsLongTree db q row taken (F ∷ plan) (length old.out.items)
      tree_over block old mid first added long nodes (rows, parts, is, other, under) =
          let same : rows ≡ block = first_once q (stored db) row (atom_key q F) (rows_of q (stored db) F) (RowHolds q (stored db) row taken F plan) rows block other first in
          let trees = long parts (subst (λ z. AreMadeUnder db q row taken F plan z parts) same under) in
          subst (AreTooLongBehind db q (length old.out.items)) (sym (is ∙ ap (λ z. node z ∷ listing parts) same)) (nodes_rest_over (node block ∷ []) (listing parts) old mid added trees)
