-- The script of a size.
use Rattle.std.specs.Prelude.{ℕ, ◌%◌, ◌==◌, if◌then◌else◌, List, [], ◌++◌, codes}
use Rattle.std.specs.Fmt.{decimal}
use Rattle.std.specs.List.{flat_map, range_with_len}
use Rattle.case_maker.specs.declared.lines.Part.{Part}
use Rattle.case_maker.specs.declared.lines.Part.TheVariants.{Person, Town, Lhs, Rhs}

-- numbers with a comma between two, and a line feed
abbrev pub pair_line : ℕ → ℕ → List ℕ
pair_line a b = decimal a ++ codes "," ++ decimal b ++ codes "\n"

abbrev pub triple_line : ℕ → ℕ → ℕ → List ℕ
triple_line a b c = decimal a ++ codes "," ++ pair_line b c

-- the lines of a table for a number: every fourth person has two cities, every second town two zones; each group of the
-- left table has two rows in one block, and the groups of the right table match both of them, one of them or none
abbrev pub lines_of : Part → ℕ → List ℕ
lines_of Person i = pair_line i (i % 100) ++ (if i % 4 == 1 then pair_line i 100 else [])
lines_of Town c = pair_line c 1 ++ (if c % 2 == 0 then pair_line c 2 else [])
lines_of Lhs g = triple_line g 1 0 ++ triple_line g 1 1
lines_of Rhs g = if g % 3 == 0 then triple_line g 1 0 ++ triple_line g 2 1 else if g % 3 == 1 then triple_line g 1 0 ++ triple_line g 1 1 else triple_line g 1 2

-- four tables, a block for each, and two queries asked in both ways
abbrev pub script_bytes : ℕ → List ℕ
script_bytes size =
    codes "create table person (id int, city int, primary key (id));\ncreate table town (city int, zone int, primary key (city));\ncreate table lhs (g int, x int, z int, primary key (g, x));\ncreate table rhs (g int, y int, z int, primary key (g, y));\ncopy person;\n"
    ++ flat_map (lines_of Person) (range_with_len 1 size)
    ++ codes "\\.\ncopy town;\n"
    ++ flat_map (lines_of Town) (range_with_len 0 100)
    ++ codes "\\.\ncopy lhs;\n"
    ++ flat_map (lines_of Lhs) (range_with_len 1 size)
    ++ codes "\\.\ncopy rhs;\n"
    ++ flat_map (lines_of Rhs) (range_with_len 1 size)
    ++ codes "\\.\nask select id from person, town where person.city = town.city and zone = 1;\npossible select id from person, town where person.city = town.city and zone = 1;\nask select lhs.g from lhs, rhs where lhs.g = rhs.g and lhs.z = rhs.z;\npossible select lhs.g from lhs, rhs where lhs.g = rhs.g and lhs.z = rhs.z;\n"
