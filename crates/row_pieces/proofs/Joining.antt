-- Pieces one after the other, the places at which they begin, and the piece for a place.
use Rattle.std.proofs.Common.{◌≡◌, ℕ, zero, suc, ◌+◌, ◌-◌, ◌<◌, ◌≤◌, Bool, true, false, List, [], ◌∷◌, ◌++◌, length, take, drop, get_or, set, refl, sym, ap, subst, ◌∙◌, arith, leb, Some, slice_get, not, eqb, cond, filter}
use Rattle.std.specs.List.Sorted.{IsPartitionedBy, IsPartitionPoint}
use Rattle.std.proofs.lemmas.List.{append-nil, length-append, length-drop, length-take, nil_from_length, take-append-drop, take-take, take_more, take_more_set, drop_more, take_all, set_split, drop-append-le, drop-take, get_or-append-add, get_or-append_right, get_or_append_left, get_or-take}
use Rattle.std.proofs.lemmas.List.Concat.{flat_map-append}
use Rattle.std.proofs.lemmas.Option.{get_or_from_slice_get, slice_get_within, slice_get-get_or}
use Rattle.std.proofs.lemmas.Bool.{eqb-true, le-leb, leb-true, leb-false}
use Rattle.std.proofs.Math.Seq.{take-append-add, drop-append-add}
use native.Mathlib.Decide.{dec_lt}
use Rattle.cqa_value.specs.declared.value.Value.{Value as Cell}
use Rattle.row_pieces.specs.declared.piece.Piece.{Piece}
use Rattle.row_pieces.specs.Joined.{joined, ArePlaced, IsPieceOf}

-- ---- parts of lists that are appended

pub take_past : {A : Type 0} (xs ys : List A) (n m : ℕ) → m ≡ length xs + n → take m (xs ++ ys) ≡ xs ++ take n ys
take_past xs ys n m e = ap (λ k. take k (xs ++ ys)) e ∙ take-append-add xs ys n

pub drop_past : {A : Type 0} (xs ys : List A) (n m : ℕ) → m ≡ length xs + n → drop m (xs ++ ys) ≡ drop n ys
drop_past xs ys n m e = ap (λ k. drop k (xs ++ ys)) e ∙ drop-append-add xs ys n

-- the last element, and those before it
pub split_last : {A : Type 0} (xs : List A) (x : A) → slice_get xs (length xs - 1) ≡ Some x → xs ≡ take (length xs - 1) xs ++ x ∷ []
split_last xs x e =
    let there = slice_get_within xs (length xs - 1) x e in
    sym (take_all (length xs - 1 + 1) xs (omega (arith, there)))
    ∙ take_more xs (length xs - 1) x there
    ∙ ap (λ y. take (length xs - 1) xs ++ y ∷ []) (get_or_from_slice_get xs (length xs - 1) x x e)

-- ---- the rows of pieces

pub joined-append : (xs ys : List Piece) → joined (xs ++ ys) ≡ joined xs ++ joined ys
joined-append xs ys = flat_map-append (λ piece. piece.rows) xs ys

pub joined_parts : (ps : List Piece) (i : ℕ) → joined ps ≡ joined (take i ps) ++ joined (drop i ps)
joined_parts ps i = ap joined (sym (take-append-drop i ps)) ∙ joined-append (take i ps) (drop i ps)

pub joined_rest : (ps : List Piece) (i : ℕ) (d : Piece) → i < length ps → joined (drop i ps) ≡ (get_or ps i d).rows ++ joined (drop (i + 1) ps)
joined_rest ps i d l = ap joined (drop_more ps i d l)

pub joined_at : (ps : List Piece) (i : ℕ) (d : Piece) → i < length ps → joined ps ≡ joined (take i ps) ++ ((get_or ps i d).rows ++ joined (drop (i + 1) ps))
joined_at ps i d l = joined_parts ps i ∙ ap (λ z. joined (take i ps) ++ z) (joined_rest ps i d l)

pub joined_more : (ps : List Piece) (i : ℕ) (d : Piece) → i < length ps → joined (take (i + 1) ps) ≡ joined (take i ps) ++ (get_or ps i d).rows
joined_more ps i d l =
    ap joined (take_more ps i d l)
    ∙ joined-append (take i ps) (get_or ps i d ∷ [])
    ∙ ap (λ z. joined (take i ps) ++ z) (append-nil (get_or ps i d).rows)

pub joined_set : (ps : List Piece) (i : ℕ) (q : Piece) → i < length ps → joined (set ps i q) ≡ joined (take i ps) ++ (q.rows ++ joined (drop (i + 1) ps))
joined_set ps i q l =
    let one : suc i ≡ i + 1 = omega arith in
    ap joined (set_split ps i q l)
    ∙ joined-append (take i ps) (q ∷ drop (suc i) ps)
    ∙ ap (λ k. joined (take i ps) ++ (q.rows ++ joined (drop k ps))) one

pub joined_same : (ps : List Piece) (i : ℕ) (d q : Piece) → i < length ps → q.rows ≡ (get_or ps i d).rows → joined (set ps i q) ≡ joined ps
joined_same ps i d q l e =
    joined_set ps i q l
    ∙ ap (λ xs. joined (take i ps) ++ (xs ++ joined (drop (i + 1) ps))) e
    ∙ sym (joined_at ps i d l)

pub joined_rise : (ps : List Piece) (i j : ℕ) → i ≤ j → length (joined (take i ps)) ≤ length (joined (take j ps))
joined_rise ps i j l =
    let parts = joined_parts (take j ps) i in
    let front = take-take i j ps l in
    let whole : joined (take j ps) ≡ joined (take i ps) ++ joined (drop i (take j ps)) = parts ∙ ap (λ z. joined z ++ joined (drop i (take j ps))) front in
    let e = ap length whole in
    let a = length-append (joined (take i ps)) (joined (drop i (take j ps))) in
    omega (arith, e, a)

pub some_piece : (ps : List Piece) → 0 < length (joined ps) → 0 < length ps
some_piece [] l = l
some_piece (p ∷ ps) l = omega arith

-- ---- the places at which pieces begin

pub numbered_at : (from : ℕ) (ps : List Piece) (i : ℕ) (d : Piece) → ArePlaced from ps → i < length ps → (get_or ps i d).start ≡ from + length (joined (take i ps))
numbered_at from [] i d n l = absurd (omega (arith, l))
numbered_at from (p ∷ ps) zero d n l = let e = n.0 in omega (arith, e)
numbered_at from (p ∷ ps) (suc i) d n l =
    let e = numbered_at (from + length p.rows) ps i d n.1 (omega (arith, l)) in
    let a = length-append p.rows (joined (take i ps)) in
    omega (arith, e, a)

pub numbered_take : (from : ℕ) (ps : List Piece) (i : ℕ) → ArePlaced from ps → ArePlaced from (take i ps)
numbered_take from ps zero n = tt
numbered_take from [] (suc i) n = tt
numbered_take from (p ∷ ps) (suc i) n = (n.0, numbered_take (from + length p.rows) ps i n.1)

pub numbered_drop : (from : ℕ) (ps : List Piece) (i : ℕ) → ArePlaced from ps → ArePlaced (from + length (joined (take i ps))) (drop i ps)
numbered_drop from ps zero n = let e : from ≡ from + 0 = omega arith in subst (λ k. ArePlaced k ps) e n
numbered_drop from [] (suc i) n = tt
numbered_drop from (p ∷ ps) (suc i) n =
    let a = length-append p.rows (joined (take i ps)) in
    let e : from + length p.rows + length (joined (take i ps)) ≡ from + length (p.rows ++ joined (take i ps)) = omega (arith, a) in
    subst (λ k. ArePlaced k (drop i ps)) e (numbered_drop (from + length p.rows) ps i n.1)

pub numbered_push : (from : ℕ) (ps : List Piece) (q : Piece) → ArePlaced from ps → q.start ≡ from + length (joined ps) → ArePlaced from (ps ++ q ∷ [])
numbered_push from [] q n e = (omega (arith, e), tt)
numbered_push from (p ∷ ps) q n e =
    let a = length-append p.rows (joined ps) in
    (n.0, numbered_push (from + length p.rows) ps q n.1 (omega (arith, e, a)))

-- the last piece may have other rows
pub numbered_reset : (from : ℕ) (ps : List Piece) (at : ℕ) (p q : Piece) → length ps ≡ at + 1 → p ≡ get_or ps at p → q.start ≡ p.start → ArePlaced from ps → ArePlaced from (take (length ps) (set ps at q))
numbered_reset from ps at p q last is e numbered =
    let there : at < length ps = omega (arith, last) in
    let start = numbered_at from ps at p numbered there in
    let front : take (length ps) (set ps at q) ≡ take at ps ++ q ∷ [] = ap (λ n. take n (set ps at q)) last ∙ take_more_set ps at q there in
    subst (λ qs. ArePlaced from qs) (sym front) (numbered_push from (take at ps) q (numbered_take from ps at numbered) (e ∙ ap (λ z. z.start) is ∙ start))

-- ---- the piece for a place

module _ (from : ℕ) (ps : List Piece) (numbered : ArePlaced from ps) (place : ℕ) where
  pub parted : IsPartitionedBy (λ piece. leb piece.start place) ps
  parted i j d l w t =
      let late = leb-true (get_or ps j d).start place t in
      let a = numbered_at from ps i d numbered (omega (arith, l, w)) in
      let b = numbered_at from ps j d numbered w in
      let rise = joined_rise ps i j l in
      le-leb (get_or ps i d).start place (omega (arith, late, a, b, rise))

  pub found : (k : ℕ) → k ≤ length ps → from ≤ place → place ≤ from + length (joined ps) → 0 < length ps → IsPartitionPoint (λ piece. leb piece.start place ≡ true) (λ piece. leb piece.start place ≡ false) ps k → IsPieceOf from ps place (k - 1)
  found k w low high some point = go (head ps some)
    where
      head : (xs : List Piece) → 0 < length xs → Piece
      head [] l = absurd (omega (arith, l))
      head (x ∷ xs) l = x

      go : Piece → IsPieceOf from ps place (k - 1)
      go d = case (dec_lt 0 k)
        where
          case : Dec (0 < k) → IsPieceOf from ps place (k - 1)
          case (no n) =
              let first = leb-false (get_or ps 0 d).start place (point.1 0 d (omega (arith, n)) some) in
              let a = numbered_at from ps 0 d numbered some in
              absurd (omega (arith, first, a, low))
          case (yes l) =
              let before = leb-true (get_or ps (k - 1) d).start place (point.0 (k - 1) d (omega arith) (omega (arith, l))) in
              let a = numbered_at from ps (k - 1) d numbered (omega (arith, l, w)) in
              let same : k - 1 + 1 ≡ k = omega (arith, l) in
              let next = behind (dec_lt k (length ps)) in
              record {
                within = omega (arith, l, w);
                above = omega (arith, before, a);
                below = subst (λ m. place ≤ from + length (joined (take m ps))) (sym same) next.0;
                inside = λ h. subst (λ m. place < from + length (joined (take m ps))) (sym same) (next.1 h);
              }
            where
              behind : Dec (k < length ps) → (place ≤ from + length (joined (take k ps))) × (place < from + length (joined ps) → place < from + length (joined (take k ps)))
              behind (yes m) =
                  let late = leb-false (get_or ps k d).start place (point.1 k d (omega arith) m) in
                  let a = numbered_at from ps k d numbered m in
                  (omega (arith, late, a), λ h. omega (arith, late, a))
              behind (no m) =
                  let all = ap (λ z. length (joined z)) (take_all k ps (omega (arith, m))) in
                  (omega (arith, all, high), λ h. omega (arith, all, h))

  -- a piece that begins by the place, with none behind it that does
  pub last_has : (at : ℕ) (d : Piece) → at < length ps → (get_or ps at d).start ≤ place → place ≤ from + length (joined ps) → at + 1 ≡ length ps → IsPieceOf from ps place at
  last_has at d w begins high last =
      let a = numbered_at from ps at d numbered w in
      let all = ap (λ z. length (joined z)) (take_all (at + 1) ps (omega (arith, last))) in
      record { within = w; above = omega (arith, begins, a); below = omega (arith, all, high); inside = λ h. omega (arith, all, h) }

  pub inner_has : (at : ℕ) (d e : Piece) → at + 1 < length ps → (get_or ps at d).start ≤ place → place < (get_or ps (at + 1) e).start → IsPieceOf from ps place at
  inner_has at d e w begins before =
      let here : at < length ps = omega (arith, w) in
      let a = numbered_at from ps at d numbered here in
      let b = numbered_at from ps (at + 1) e numbered w in
      record { within = here; above = omega (arith, begins, a); below = omega (arith, before, b); inside = λ h. omega (arith, before, b) }

-- the piece, its rows and what is behind it
module _ (from : ℕ) (ps : List Piece) (numbered : ArePlaced from ps) (place i : ℕ) (found : IsPieceOf from ps place i) (piece : Piece) (is : piece ≡ get_or ps i piece) where
  pub starts : piece.start ≡ from + length (joined (take i ps))
  starts = ap (λ p. p.start) is ∙ numbered_at from ps i piece numbered found.within

  pub ends : from + length (joined (take (i + 1) ps)) ≡ piece.start + length piece.rows
  ends =
      let more : joined (take (i + 1) ps) ≡ joined (take i ps) ++ piece.rows = joined_more ps i piece found.within ∙ ap (λ p. joined (take i ps) ++ p.rows) (sym is) in
      let e = ap length more in
      let a = length-append (joined (take i ps)) piece.rows in
      omega (arith, e, a, starts)

  pub begun : piece.start ≤ place
  begun = let above = found.above in omega (arith, above, starts)

  pub reached : place - piece.start ≤ length piece.rows
  reached = let below = found.below in omega (arith, below, ends)

  pub holds : place < from + length (joined ps) → place - piece.start < length piece.rows
  holds h = let inside = found.inside h in omega (arith, inside, ends, begun)

  pub whole : joined ps ≡ joined (take i ps) ++ (piece.rows ++ joined (drop (i + 1) ps))
  whole = joined_at ps i piece found.within ∙ ap (λ p. joined (take i ps) ++ (p.rows ++ joined (drop (i + 1) ps))) (sym is)

  pub rest : drop (place - from) (joined ps) ≡ drop (place - piece.start) piece.rows ++ joined (drop (i + 1) ps)
  rest =
      ap (drop (place - from)) whole
      ∙ drop_past (joined (take i ps)) (piece.rows ++ joined (drop (i + 1) ps)) (place - piece.start) (place - from) (omega (arith, begun, starts))
      ∙ drop-append-le (place - piece.start) piece.rows (joined (drop (i + 1) ps)) reached

  pub behind : ArePlaced (place + length (drop (place - piece.start) piece.rows)) (drop (i + 1) ps)
  behind =
      let long = length-drop (place - piece.start) piece.rows in
      let e : from + length (joined (take (i + 1) ps)) ≡ place + length (drop (place - piece.start) piece.rows) = omega (arith, long, ends, begun, reached) in
      subst (λ k. ArePlaced k (drop (i + 1) ps)) e (numbered_drop from ps (i + 1) numbered)

  -- the row at the place
  pub row_there : (row : List Cell) → place < from + length (joined ps) → row ≡ get_or piece.rows (place - piece.start) row → slice_get (joined ps) (place - from) ≡ Some row
  row_there row h read =
      let inside = holds h in
      let far : place - from ≡ length (joined (take i ps)) + (place - piece.start) = omega (arith, begun, starts) in
      slice_get-get_or (joined ps) (place - from) row (omega (arith, h, begun, starts))
      ∙ ap (λ k. Some (get_or (joined ps) k row)) far
      ∙ ap (λ xs. Some (get_or xs (length (joined (take i ps)) + (place - piece.start)) row)) whole
      ∙ ap (λ x. Some x) (get_or-append-add (joined (take i ps)) (piece.rows ++ joined (drop (i + 1) ps)) (place - piece.start) row)
      ∙ ap (λ x. Some x) (get_or_append_left piece.rows (joined (drop (i + 1) ps)) row (place - piece.start) inside)
      ∙ ap (λ x. Some x) (sym read)

-- ---- the front of rows that are appended, without its own front

pub drop_taken : {A : Type 0} (at count : ℕ) (xs : List A) → at ≤ count → drop at (take count xs) ≡ take (count - at) (drop at xs)
drop_taken at count xs l = let e : count ≡ at + (count - at) = omega (arith, l) in ap (λ n. drop at (take n xs)) e ∙ drop-take at (count - at) xs

pub few_taken : {A : Type 0} (count at : ℕ) (xs rows : List A) → take count xs ≡ rows → at ≤ length rows → at ≤ count
few_taken count at xs rows e l =
    let long = length-take count xs in
    let same = ap length e in
    omega (arith, l, long, same)

pub drop_viewed : {A : Type 0} (count at : ℕ) (xs rows : List A) → take count xs ≡ rows → at ≤ length rows → take (count - at) (drop at xs) ≡ drop at rows
drop_viewed count at xs rows e l = sym (drop_taken at count xs (few_taken count at xs rows e l)) ∙ ap (drop at) e

-- ---- pieces without rows

abbrev pub has_rows : Piece → Bool
has_rows piece = not (eqb (length piece.rows) 0)

kept_one : (p : Piece) (all : List (List Cell)) (rest : List Piece) → joined rest ≡ all → (b : Bool) → eqb (length p.rows) 0 ≡ b → joined (cond (not (eqb (length p.rows) 0)) (p ∷ rest) rest) ≡ p.rows ++ all
kept_one p all rest e true h =
    let none : p.rows ≡ [] = nil_from_length p.rows (eqb-true (length p.rows) 0 h) in
    ap (λ b. joined (cond (not b) (p ∷ rest) rest)) h ∙ e ∙ ap (λ xs. xs ++ all) (sym none)
kept_one p all rest e false h = ap (λ b. joined (cond (not b) (p ∷ rest) rest)) h ∙ ap (λ xs. p.rows ++ xs) e

pub joined_kept : (ps : List Piece) → joined (filter has_rows ps) ≡ joined ps
joined_kept [] = refl
joined_kept (p ∷ ps) = kept_one p (joined ps) (filter has_rows ps) (joined_kept ps) (eqb (length p.rows) 0) refl

-- ---- the rows of a piece

pub row_placed : (from : ℕ) (ps : List Piece) (i : ℕ) (piece : Piece) (k : ℕ) (row : List Cell) → ArePlaced from ps → slice_get ps i ≡ Some piece → slice_get piece.rows k ≡ Some row
    → (from ≤ piece.start) × (slice_get (joined ps) (piece.start + k - from) ≡ Some row)
row_placed from ps i piece k row numbered e f =
    let there = slice_get_within ps i piece e in
    let is = get_or_from_slice_get ps i piece piece e in
    let some = slice_get_within piece.rows k row f in
    let begin : piece.start ≡ from + length (joined (take i ps)) = ap (λ p. p.start) (sym is) ∙ numbered_at from ps i piece numbered there in
    let more = joined_more ps i piece there ∙ ap (λ p. joined (take i ps) ++ p.rows) is in
    let long = ap length more in
    let sum = length-append (joined (take i ps)) piece.rows in
    let found : IsPieceOf from ps (piece.start + k) i = record {
      within = there;
      above = omega (arith, begin);
      below = omega (arith, begin, long, sum, some);
      inside = λ h. omega (arith, begin, long, sum, some);
    } in
    let rise = joined_rise ps (i + 1) (length ps) (omega (arith, there)) in
    let all = ap (λ qs. length (joined qs)) (take_all (length ps) ps (omega arith)) in
    let here : piece.start + k - piece.start ≡ k = omega arith in (
      omega (arith, begin),
      row_there from ps numbered (piece.start + k) i found piece (sym is) row (omega (arith, begin, long, sum, some, rise, all))
          (sym (get_or_from_slice_get piece.rows k row row f) ∙ ap (λ n. get_or piece.rows n row) (sym here)),
    )

pub seen_there : {A : Type 0} (count at : ℕ) (front behind rows : List A) (row : A) → take count (front ++ behind) ≡ rows → at < count → length front ≤ at → slice_get behind (at - length front) ≡ Some row → slice_get rows at ≡ Some row
seen_there count at front behind rows row e few past seen =
    let inside = slice_get_within behind (at - length front) row seen in
    let sum = length-append front behind in
    let long = length-take count (front ++ behind) in
    sym (ap (λ xs. slice_get xs at) e)
    ∙ slice_get-get_or (take count (front ++ behind)) at row (omega (arith, few, inside, sum, long, past))
    ∙ ap (λ x. Some x) (get_or-take count (front ++ behind) at row few)
    ∙ ap (λ x. Some x) (get_or-append_right front behind (length front) at row refl past)
    ∙ ap (λ x. Some x) (get_or_from_slice_get behind (at - length front) row row seen)
