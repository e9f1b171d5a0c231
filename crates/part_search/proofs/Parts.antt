-- The lists of parts: parts one behind the other, that there are such lists, and how many.
use Rattle.std.proofs.Common.{◌≡◌, ℕ, ◌<◌, ◌≤◌, ◌+◌, List, [], ◌∷◌, ◌++◌, length, get_or, take, drop, refl, sym, ◌∙◌, ap, subst, arith, append_assoc, length-append}
use Rattle.std.proofs.lemmas.List.{append-nil, length-map, take_more, take-append-drop}
use Rattle.cqa_value.specs.declared.value.Value.{Value}
use Rattle.cqa_model.specs.declared.query.Query.{Query}
use Rattle.cqa_model.specs.declared.query.RowId.{RowId}
use Rattle.cqa_model.specs.Database.{Table}
use Rattle.join_access.specs.declared.witness.Witness.{Witness}
use Rattle.join_access.specs.Listing.{AreAllNames, HasTooMany, names_of}
use Rattle.join_access.specs.declared.witness.TheConstants.{MOST_WITNESSES}
use Rattle.join_access.proofs.Naming.{one-count}
use Rattle.join_witness.proofs.Listing.{all_names}
use Rattle.part_search.specs.Parts.{AreNamesIn, HasTooManyIn}

module _ (db : List Table) (row : List Value) where
  -- parts one behind the other
  names-join : (parts more : List Query) (xs ys : List (List RowId)) → AreNamesIn parts db row xs → AreNamesIn more db row ys → AreNamesIn (parts ++ more) db row (xs ++ ys)
  names-join [] more xs ys e k = subst (λ ls. AreNamesIn more db row (ls ++ ys)) (sym e) k
  names-join (q ∷ parts) more xs ys (first, rest, h, r, e) k =
      (first, rest ++ ys, h, names-join parts more rest ys r k, ap (λ ls. ls ++ ys) e ∙ append_assoc first rest ys)

  -- there are lists of parts
  names-exist : (parts : List Query) → (all : List (List RowId)) × AreNamesIn parts db row all
  names-exist [] = ([], refl)
  names-exist (q ∷ parts) = let first = all_names db q row in let rest = names-exist parts in (first.0 ++ rest.0, (first.0, rest.0, first.1, rest.1, refl))

  -- and how many is told
  names-count : (parts : List Query) (a b : List (List RowId)) → AreNamesIn parts db row a → AreNamesIn parts db row b → length a ≡ length b
  names-count [] a b e f = ap length (e ∙ sym f)
  names-count (q ∷ parts) a b (xs, as', h, k, e) (ys, bs, i, m, f) =
      let first : length xs ≡ length ys = one-count q db row xs ys h i in
      let rest : length as' ≡ length bs = names-count parts as' bs k m in
      let left : length a ≡ length xs + length as' = ap length e ∙ length-append xs as' in
      let right : length b ≡ length ys + length bs = ap length f ∙ length-append ys bs in
      omega (arith, first, rest, left, right)

  not-over : (parts : List Query) (all : List (List RowId)) → AreNamesIn parts db row all → length all ≤ MOST_WITNESSES → HasTooManyIn parts db row → ⊥
  not-over parts all h few t =
      let same = names-count parts all t.0 h t.1 in
      let more = t.2 in
      absurd (omega (arith, same, more, few))

  -- so of lists in code
  pub not-over-lists : (parts : List Query) (lists : List Witness) → AreNamesIn parts db row (names_of lists) → length lists ≤ MOST_WITNESSES → HasTooManyIn parts db row → ⊥
  not-over-lists parts lists h few = not-over parts (names_of lists) h (let size = length-map lists (λ (w : Witness). w.rows) in omega (arith, size, few))

  -- the first parts, one more
  pub names-more : (parts : List Query) (at : ℕ) (d : Query) (xs ys : List (List RowId)) → at < length parts → AreNamesIn (take at parts) db row xs → AreAllNames (get_or parts at d) db row ys →
      AreNamesIn (take (at + 1) parts) db row (xs ++ ys)
  names-more parts at d xs ys l h k =
      subst (λ ps. AreNamesIn ps db row (xs ++ ys)) (sym (take_more parts at d l))
      (names-join (take at parts) (get_or parts at d ∷ []) xs ys h (ys, [], k, refl, sym (append-nil ys)))

  -- where the first parts have too many, all have
  pub over-first : (parts : List Query) (at : ℕ) (xs : List (List RowId)) → AreNamesIn (take at parts) db row xs → MOST_WITNESSES < length xs → HasTooManyIn parts db row
  over-first parts at xs h l =
      let rest = names-exist (drop at parts) in
      let all = names-join (take at parts) (drop at parts) xs rest.0 h rest.1 in
      let size = length-append xs rest.0 in
      (xs ++ rest.0, subst (λ ps. AreNamesIn ps db row (xs ++ rest.0)) (take-append-drop at parts) all, (let z : MOST_WITNESSES < length (xs ++ rest.0) = omega (arith, l, size) in z))

  -- and where one part has
  pub over-part : (parts : List Query) (at : ℕ) (d : Query) (xs : List (List RowId)) → at < length parts → AreNamesIn (take at parts) db row xs → HasTooMany (get_or parts at d) db row → HasTooManyIn parts db row
  over-part parts at d xs l h (ys, k, more) =
      over-first parts (at + 1) (xs ++ ys) (names-more parts at d xs ys l h k) (let size = length-append xs ys in let z : MOST_WITNESSES < length (xs ++ ys) = omega (arith, more, size) in z)
