-- How long a script is at most.
use Rattle.std.proofs.Common.{ℕ, zero, suc, ◌+◌, ◌*◌, ◌≤◌, ◌%◌, ◌==◌, Bool, true, false, if◌then◌else◌, List, [], ◌++◌, length, codes, arith, length-append}
use Rattle.std.proofs.lemmas.Fmt.{length-decimal-le}
use Rattle.std.specs.Fmt.{decimal}
use Rattle.std.specs.List.{flat_map, range_with_len}
use Rattle.case_maker.specs.declared.lines.Part.{Part}
use Rattle.case_maker.specs.declared.script.TheConstants.{TABLES, QUERIES}
use Rattle.case_maker.specs.declared.lines.Part.TheVariants.{Person, Town, Lhs, Rhs}
use Rattle.case_maker.specs.Scripts.{pair_line, triple_line, lines_of, script_bytes}

-- two pieces
both : (x y : List ℕ) (n m : ℕ) → length x ≤ n → length y ≤ m → length (x ++ y) ≤ n + m
both x y n m lx ly = omega (arith, length-append x y, lx, ly)

-- one of two pieces
either : (b : Bool) (x y : List ℕ) (n : ℕ) → length x ≤ n → length y ≤ n → length (if b then x else y) ≤ n
either true x y n lx ly = lx
either false x y n lx ly = ly

nothing_short : (n : ℕ) → length {A = ℕ} [] ≤ n
nothing_short n = omega arith

number_short : (n : ℕ) → n ≤ 100_000 → length (decimal n) ≤ 6
number_short n few = length-decimal-le 6 n (omega arith) (omega (arith, few)) (omega (arith, few))

sign_short : length (codes ",") ≤ 1
sign_short = omega arith

end_short : length (codes "\n") ≤ 1
end_short = omega arith

pair_short : (a b : ℕ) → a ≤ 100_000 → b ≤ 100_000 → length (pair_line a b) ≤ 14
pair_short a b la lb = both (decimal a ++ codes "," ++ decimal b) (codes "\n") 13 1 (both (decimal a ++ codes ",") (decimal b) 7 6 (both (decimal a) (codes ",") 6 1 (number_short a la) sign_short) (number_short b lb)) end_short

triple_short : (a b c : ℕ) → a ≤ 100_000 → b ≤ 100_000 → c ≤ 100_000 → length (triple_line a b c) ≤ 21
triple_short a b c la lb lc = both (decimal a ++ codes ",") (pair_line b c) 7 14 (both (decimal a) (codes ",") 6 1 (number_short a la) sign_short) (pair_short b c lb lc)

few_0 : 0 ≤ 100_000
few_0 = omega arith

few_1 : 1 ≤ 100_000
few_1 = omega arith

few_2 : 2 ≤ 100_000
few_2 = omega arith

lines_short : (part : Part) (i : ℕ) → i ≤ 100_000 → length (lines_of part i) ≤ 42
lines_short Person i few =
    let city : i % 100 ≤ 100_000 = omega (arith, few) in
    let lines = both (pair_line i (i % 100)) (if i % 4 == 1 then pair_line i 100 else []) 14 14 (pair_short i (i % 100) few city) (either (i % 4 == 1) (pair_line i 100) [] 14 (pair_short i 100 few (omega arith)) (nothing_short 14)) in
    omega (arith, lines)
lines_short Town i few =
    let lines = both (pair_line i 1) (if i % 2 == 0 then pair_line i 2 else []) 14 14 (pair_short i 1 few few_1) (either (i % 2 == 0) (pair_line i 2) [] 14 (pair_short i 2 few few_2) (nothing_short 14)) in
    omega (arith, lines)
lines_short Lhs i few = both (triple_line i 1 0) (triple_line i 1 1) 21 21 (triple_short i 1 0 few few_1 few_0) (triple_short i 1 1 few few_1 few_1)
lines_short Rhs i few =
    let two = both (triple_line i 1 0) (triple_line i 2 1) 21 21 (triple_short i 1 0 few few_1 few_0) (triple_short i 2 1 few few_2 few_1) in
    let one = both (triple_line i 1 0) (triple_line i 1 1) 21 21 (triple_short i 1 0 few few_1 few_0) (triple_short i 1 1 few few_1 few_1) in
    let none = triple_short i 1 2 few few_1 few_2 in
    either (i % 3 == 0) (triple_line i 1 0 ++ triple_line i 2 1) _ 42 two (either (i % 3 == 1) (triple_line i 1 0 ++ triple_line i 1 1) (triple_line i 1 2) 42 one (omega (arith, none)))

part_short : (part : Part) (first count : ℕ) → first + count ≤ 100_001 → length (flat_map (lines_of part) (range_with_len first count)) ≤ 42 * count
part_short part first zero few = omega arith
part_short part first (suc count) few =
    let lines = both (lines_of part first) (flat_map (lines_of part) (range_with_len (first + 1) count)) 42 (42 * count) (lines_short part first (omega (arith, few))) (part_short part (first + 1) count (omega (arith, few))) in
    omega (arith, lines)

within : (x n m : ℕ) → x ≤ n → n ≤ m → x ≤ m
within x n m few less = omega (arith, few, less)

-- a script has far fewer bytes than the program reads
pub script_short : (size : ℕ) → size ≤ 100_000 → length (script_bytes size) ≤ 268_435_456
script_short size few =
    let persons = flat_map (lines_of Person) (range_with_len 1 size) in
    let towns = flat_map (lines_of Town) (range_with_len 0 100) in
    let lefts = flat_map (lines_of Lhs) (range_with_len 1 size) in
    let rights = flat_map (lines_of Rhs) (range_with_len 1 size) in
    let many : ℕ = 42 * size in
    let all : 1 + size ≤ 100_001 = omega (arith, few) in
    let a1 = TABLES.now in
    let a2 = a1 ++ persons in
    let a3 = a2 ++ codes "\\.\ncopy town;\n" in
    let a4 = a3 ++ towns in
    let a5 = a4 ++ codes "\\.\ncopy lhs;\n" in
    let a6 = a5 ++ lefts in
    let a7 = a6 ++ codes "\\.\ncopy rhs;\n" in
    let a8 = a7 ++ rights in
    let n1 : ℕ = 1000 in
    let n2 : ℕ = n1 + many in
    let n3 : ℕ = n2 + 20 in
    let n4 : ℕ = n3 + 42 * 100 in
    let n5 : ℕ = n4 + 20 in
    let n6 : ℕ = n5 + many in
    let n7 : ℕ = n6 + 20 in
    let n8 : ℕ = n7 + many in
    let l2 : length a2 ≤ n2 = both a1 persons n1 many tables_short (part_short Person 1 size all) in
    let l3 : length a3 ≤ n3 = both a2 (codes "\\.\ncopy town;\n") n2 20 l2 (omega arith) in
    let l4 : length a4 ≤ n4 = both a3 towns n3 (42 * 100) l3 (part_short Town 0 100 (omega arith)) in
    let l5 : length a5 ≤ n5 = both a4 (codes "\\.\ncopy lhs;\n") n4 20 l4 (omega arith) in
    let l6 : length a6 ≤ n6 = both a5 lefts n5 many l5 (part_short Lhs 1 size all) in
    let l7 : length a7 ≤ n7 = both a6 (codes "\\.\ncopy rhs;\n") n6 20 l6 (omega arith) in
    let l8 : length a8 ≤ n8 = both a7 rights n7 many l7 (part_short Rhs 1 size all) in
    let l9 : length (a8 ++ QUERIES.now) ≤ n8 + 1000 = both a8 QUERIES.now n8 1000 l8 queries_short in
    within (length (script_bytes size)) (n8 + 1000) 268_435_456 l9 (less size few)
  where
    tables_short : length TABLES.now ≤ 1000
    tables_short = omega arith

    queries_short : length QUERIES.now ≤ 1000
    queries_short = omega arith

    less : (n : ℕ) → n ≤ 100_000 → 1000 + 42 * n + 20 + 42 * 100 + 20 + 42 * n + 20 + 42 * n + 1000 ≤ 268_435_456
    less n l = omega (arith, l)
