-- Replies to the first bytes of an input go on to its end.
use Rattle.std.proofs.Common.{◌≡◌, ◌∙◌, ◌+◌, ◌==◌, ◌||◌, ℕ, Bool, true, false, cond, List, [], ◌∷◌, ◌++◌, length, append_assoc, append-nil, refl, sym, ap, subst, arith}
use Rattle.std.specs.Prelude.{⊤}
use Rattle.std.specs.List.{AllByRecursion, flat_map}
use Rattle.std.proofs.lemmas.Bool.{eqb-true}
use Rattle.std.proofs.lemmas.List.Concat.{flat_map-append}
use Rattle.cnf_form.specs.Lines.{line_of}
use Rattle.group_text.specs.declared.wanted.Wanted.{Wanted}
use Rattle.group_text.specs.Groups.{Event, Underway, after, asked, events, left_open, next}
use Rattle.group_text.specs.Groups.Underway.{Outside}
use Rattle.group_text.specs.Replies.{Replies}
use Rattle.group_text.specs.Saying.{said}
use Rattle.group_text.proofs.Replying.{replies_both}
use Rattle.group_stream.specs.Cuts.{AreCut, IsLine, ended_line, last_line}
use Rattle.group_stream.specs.Judges.{BeginsReplies, events_of}
use Rattle.existence_law.specs.GroupReplies.{GroupRepliesExist, WrittenBeginsReplies}
use Rattle.existence_law.proofs.Drafts.{after_fits}
use Rattle.existence_law.proofs.Replying.{HaveReplies, both, events_have, left_has}

-- ---- bytes as lines

record Cut (bytes : List ℕ) : Type 0 where
  done : List (List ℕ)
  rest : List ℕ
  cut : AreCut bytes done rest

-- a byte before lines
byte_first : (b : ℕ) (bs : List ℕ) → Cut bs → Cut (b ∷ bs)
byte_first b bs c = go (b == 10) refl c.done c.rest c.cut
  where
    joins : (l : List ℕ) → (b == 10) ≡ false → IsLine l → IsLine (b ∷ l)
    joins l e is = ap (λ (x : Bool). cond x [] (b ∷ line_of l)) e ∙ ap (λ (m : List ℕ). b ∷ m) is

    feed : (b == 10) ≡ true → b ≡ 10
    feed e = eqb-true b 10 e

    go : (lf : Bool) → (b == 10) ≡ lf → (done : List (List ℕ)) (rest : List ℕ) → AreCut bs done rest → Cut (b ∷ bs)
    go true e done rest cut = record {
      done = [] ∷ done;
      rest = rest;
      cut = record { bytes_are = ap (λ (x : ℕ). x ∷ bs) (feed e) ∙ ap (λ (xs : List ℕ). 10 ∷ xs) cut.bytes_are; each = (refl, cut.each); rest_is = cut.rest_is };
    }
    go false e [] rest cut = record { done = []; rest = b ∷ rest; cut = record { bytes_are = ap (λ (xs : List ℕ). b ∷ xs) cut.bytes_are; each = tt; rest_is = joins rest e cut.rest_is } }
    go false e (l ∷ ls) rest cut = record {
      done = (b ∷ l) ∷ ls;
      rest = rest;
      cut = record { bytes_are = ap (λ (xs : List ℕ). b ∷ xs) cut.bytes_are; each = (joins l e cut.each.0, cut.each.1); rest_is = cut.rest_is };
    }

cut_of : (bytes : List ℕ) → Cut bytes
cut_of [] = record { done = []; rest = []; cut = record { bytes_are = refl; each = tt; rest_is = refl } }
cut_of (b ∷ bs) = byte_first b bs (cut_of bs)

each_both : (ls ms : List (List ℕ)) → AllByRecursion IsLine ls → AllByRecursion IsLine ms → AllByRecursion IsLine (ls ++ ms)
each_both [] ms a b = b
each_both (l ∷ ls) ms a b = (a.0, each_both ls ms a.1 b)

-- lines of the first bytes are the first lines
cut_later : (first later : List ℕ) (done : List (List ℕ)) (rest : List ℕ) (more : List (List ℕ)) (end : List ℕ) → AreCut first done rest → AreCut (rest ++ later) more end → AreCut (first ++ later) (done ++ more) end
cut_later first later done rest more end a b = record {
  bytes_are = ap (λ (xs : List ℕ). xs ++ later) a.bytes_are ∙ append_assoc (flat_map ended_line done) rest later ∙ ap (λ (xs : List ℕ). flat_map ended_line done ++ xs) b.bytes_are
      ∙ sym (append_assoc (flat_map ended_line done) (flat_map ended_line more) end) ∙ ap (λ (xs : List ℕ). xs ++ end) (sym (flat_map-append ended_line done more));
  each = each_both done more a.each b.each;
  rest_is = b.rest_is;
}

-- ---- events

after_both : (w : Wanted) (u : Underway) (ls ms : List (List ℕ)) → after w u (ls ++ ms) ≡ after w (after w u ls) ms
after_both w u [] ms = refl
after_both w u (l ∷ ls) ms = after_both w (next w u (said l)) ls ms

events_both : (w : Wanted) (n : ℕ) (u : Underway) (ls ms : List (List ℕ)) → events w n u (ls ++ ms) ≡ events w n u ls ++ events w (n + length ls) (after w u ls) ms
events_both w n u [] ms = let e : n ≡ n + 0 = omega arith in ap (λ (k : ℕ). events w k u ms) e
events_both w n u (l ∷ ls) ms =
    let e : (n + 1) + length ls ≡ n + length (l ∷ ls) = omega arith in
    ap (λ (es : List Event). asked w n u (said l) ++ es) (events_both w (n + 1) (next w u (said l)) ls ms ∙ ap (λ (k : ℕ). events w (n + 1) (next w u (said l)) ls ++ events w k (after w (next w u (said l)) ls) ms) e)
    ∙ sym (append_assoc (asked w n u (said l)) (events w (n + 1) (next w u (said l)) ls) (events w (n + length (l ∷ ls)) (after w (next w u (said l)) ls) ms))

-- what is asked for behind the first lines
abbrev later_events : Wanted → Bool → List (List ℕ) → List (List ℕ) → List ℕ → List Event
later_events w true done more end = events w (1 + length done) (after w Outside done) (more ++ last_line end) ++ left_open (length ((done ++ more) ++ last_line end) + 1) (after w Outside ((done ++ more) ++ last_line end))
later_events w false done more end = events w (1 + length done) (after w Outside done) more

later_are : (w : Wanted) (ended : Bool) (done more : List (List ℕ)) (end : List ℕ) → events_of w ended (done ++ more) end ≡ events w 1 Outside done ++ later_events w ended done more end
later_are w true done more end =
    let all = (done ++ more) ++ last_line end in
    let rest = left_open (length all + 1) (after w Outside all) in
    ap (λ (es : List Event). es ++ rest) (ap (events w 1 Outside) (append_assoc done more (last_line end)) ∙ events_both w 1 Outside done (more ++ last_line end))
    ∙ append_assoc (events w 1 Outside done) (events w (1 + length done) (after w Outside done) (more ++ last_line end)) rest
later_are w false done more end = events_both w 1 Outside done more

later_have : (w : Wanted) (budget : ℕ) (ended : Bool) (done more : List (List ℕ)) (end : List ℕ) → HaveReplies w budget (later_events w ended done more end)
later_have w budget true done more end =
    both w budget (events w (1 + length done) (after w Outside done) (more ++ last_line end)) (left_open (length ((done ++ more) ++ last_line end) + 1) (after w Outside ((done ++ more) ++ last_line end)))
    (events_have w budget (1 + length done) (after w Outside done) (more ++ last_line end) (after_fits w Outside done tt)) (left_has w budget (length ((done ++ more) ++ last_line end) + 1) (after w Outside ((done ++ more) ++ last_line end)))
later_have w budget false done more end = events_have w budget (1 + length done) (after w Outside done) more (after_fits w Outside done tt)

-- ---- replies

-- replies to the lines of the first bytes begin those to all
go_on : (wanted : Wanted) (budget : ℕ) (first later written : List ℕ) (ended : Bool) → BeginsReplies wanted budget first false written → BeginsReplies wanted budget (first ++ later) ended written
go_on wanted budget first later written ended begins = all (cut_of (begins.judges.rest ++ later))
  where
    all : Cut (begins.judges.rest ++ later) → BeginsReplies wanted budget (first ++ later) ended written
    all c =
        let done = begins.judges.done in
        let more = later_have wanted budget ended done c.done c.rest in
        record {
          all = begins.all ++ more.text;
          refused = begins.refused || more.refused;
          judges = record {
            done = done ++ c.done;
            rest = c.rest;
            cut = cut_later first later done begins.judges.rest c.done c.rest begins.judges.cut c.cut;
            replied = subst (λ (es : List Event). Replies wanted budget es (begins.all ++ more.text) (begins.refused || more.refused)) (sym (later_are wanted ended done c.done c.rest))
                (replies_both wanted budget (events wanted 1 Outside done) (later_events wanted ended done c.done c.rest) begins.all more.text begins.refused more.refused begins.judges.replied more.replied);
          };
          left = begins.left ++ more.text;
          begins = ap (λ (xs : List ℕ). xs ++ more.text) begins.begins ∙ append_assoc written begins.left more.text;
        }

nothing : (wanted : Wanted) (budget : ℕ) → BeginsReplies wanted budget [] false []
nothing wanted budget = record {
  all = [];
  refused = false;
  judges = record { done = []; rest = []; cut = record { bytes_are = refl; each = tt; rest_is = refl }; replied = record { replies = []; each = tt; text_is = refl; refused_is = refl } };
  left = [];
  begins = refl;
}

pub group_replies_exist : GroupRepliesExist
group_replies_exist wanted budget bytes ended = let b = go_on wanted budget [] bytes [] ended (nothing wanted budget) in (b.all, b.refused, b.judges)

pub written_begins_replies : WrittenBeginsReplies
written_begins_replies wanted budget bytes written cut ended whole = subst (λ (xs : List ℕ). BeginsReplies wanted budget xs ended written) (sym cut.bytes_are) (go cut.ended cut.begins cut.whole whole)
  where
    go : (e : Bool) → BeginsReplies wanted budget cut.first e written → (e ≡ true → (cut.later ≡ []) × ⊤) → (e ≡ true → ended ≡ true) → BeginsReplies wanted budget (cut.first ++ cut.later) ended written
    go false begins at_end whole = go_on wanted budget cut.first cut.later written ended begins
    go true begins at_end whole =
        subst (λ (x : Bool). BeginsReplies wanted budget (cut.first ++ cut.later) x written) (sym (whole refl))
        (subst (λ (xs : List ℕ). BeginsReplies wanted budget xs true written) (sym (append-nil cut.first) ∙ ap (λ (xs : List ℕ). cut.first ++ xs) (sym (at_end refl).0)) begins)
