use Rattle.std.proofs.Common.{◌++◌, ◌∙◌, codes}
use Rattle.std.proofs.lemmas.List.{append_assoc}
use Rattle.std.specs.List.{flat_map, range_with_len}
use Rattle.case_maker.specs.declared.lines.Part.TheVariants.{Person, Town, Lhs, Rhs}
use Rattle.case_maker.specs.declared.script.TheConstants.{TABLES, QUERIES}
use Rattle.case_maker.specs.Scripts.{lines_of}
use Rattle.case_maker.proofs.Ranges.{appended, block}
use Rattle.case_maker.proofs.script.append_script.Goals as goal

pub returns : goal.returns
returns c =
    let old = c.args.out.now.items in
    let size = c.args.size in
    let persons = flat_map (lines_of Person) (range_with_len 1 size) in
    let towns = flat_map (lines_of Town) (range_with_len 0 100) in
    let lefts = flat_map (lines_of Lhs) (range_with_len 1 size) in
    let rights = flat_map (lines_of Rhs) (range_with_len 1 size) in
    let a1 = TABLES.now in
    let a2 = a1 ++ persons in
    let a3 = a2 ++ codes "\\.\ncopy town;\n" in
    let a4 = a3 ++ towns in
    let a5 = a4 ++ codes "\\.\ncopy lhs;\n" in
    let a6 = a5 ++ lefts in
    let a7 = a6 ++ codes "\\.\ncopy rhs;\n" in
    let a8 = a7 ++ rights in
    let e2 = c.in_ok-append_block.ensures ∙ append_assoc old a1 persons in
    let e4 = block old a2 (codes "\\.\ncopy town;\n") towns e2 c.in_ok-append_block-2.ensures in
    let e6 = block old a4 (codes "\\.\ncopy lhs;\n") lefts e4 c.in_ok-append_block-3.ensures in
    let e8 = block old a6 (codes "\\.\ncopy rhs;\n") rights e6 c.in_ok-append_block-4.ensures in
    appended old a8 QUERIES.now e8 c.in_ok-extend_from_slice.ensures.items
