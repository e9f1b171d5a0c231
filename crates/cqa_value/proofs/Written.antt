-- What stands in front stays, and literals that are joined one by one.
use Rattle.std.proofs.Common.{◌≡◌, ℕ, ◌≤◌, List, ◌∷◌, ◌++◌, length, take, sym, ap, ◌∙◌, arith, codes}
use Rattle.std.proofs.Math.Seq.{take-append_seam}
use Rattle.std.proofs.lemmas.List.{append_assoc, length-append, take-take, take_all}
use Rattle.std.specs.Io.{StartsWith}
use Rattle.std.specs.List.{flat_map, join_by}
use Rattle.cqa_value.specs.declared.value.Value.{Value}
use Rattle.cqa_value.specs.Literals.{literal_bytes}

-- what begins with a longer front begins with a shorter one
pub begins_shorter : (start more front now : List ℕ) → front ≡ start ++ more → StartsWith now front → StartsWith now start
begins_shorter start more front now e s =
    let within : length start ≤ length front = omega (arith, ap length e, length-append start more) in
    sym (take-take (length start) (length front) now within) ∙ ap (take (length start)) (s ∙ e) ∙ take-append_seam start more

pub begins_over : (start one two three front now : List ℕ) → front ≡ start ++ one ++ two ++ three → StartsWith now front → StartsWith now start
begins_over start one two three front now e = begins_shorter start (one ++ (two ++ three)) front now (simp append_assoc at e)

abbrev pub separated : Value → List ℕ
separated value = codes ", " ++ literal_bytes value

-- the first literal, and then the others
pub joined : (start front now : List ℕ) (first : Value) (rest values : List Value) (count : ℕ) → values ≡ first ∷ rest → length rest ≤ count → front ≡ start ++ literal_bytes first → now ≡ front ++ flat_map separated (take count rest) → now ≡ start ++ join_by literal_bytes (codes ", ") values
joined start front now first rest values count v all f n =
    n ∙ rw (v, f, take_all count rest all) (append_assoc start (literal_bytes first) (flat_map separated rest))
