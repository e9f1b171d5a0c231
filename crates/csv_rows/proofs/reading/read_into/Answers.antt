use Rattle.std.proofs.Common.{◌++◌, ◌∷◌, ◌∙◌, [], inl, Some, sym, refl, arith}
use Rattle.std.specs.List.Sorted.{IsStrictlySortedBy}
use Rattle.std.proofs.lemmas.List.{length-append}
use Rattle.cqa_value.proofs.Words.{all_zip_push}
use Rattle.csv.specs.Reading.{Reached, default_config, reader_source, reader_state, strip_bom}
use Rattle.csv.specs.Records.{fields_of}
use Rattle.csv.specs.declared.parser.State.TheVariants.{StartRecord}
use Rattle.csv.proofs.ReadFacts.{rows-end, rows-more}
use Rattle.csv_rows.specs.Blocks.{IsRecordOf, kinds}
use Rattle.csv_rows.proofs.reading.read_into.Goals as goal

pub loop-number-init : goal.loop-number-init
unfolding Reached IsStrictlySortedBy
loop-number-init c =
    let start = c.requires.start in
    (start.0, start.1, start.2, [], strip_bom (reader_source c.args.reader.now).now, start.4, (sym start.3, refl), rw (c.requires.empty.0, c.requires.empty.1) tt, refl, rw (c.requires.empty.0, c.requires.empty.1) refl, rw c.requires.empty.0 tt, inl c.requires.empty.0)

pub returns-then-not-branch-clause-rows : goal.returns-then-not-branch-clause-rows
returns-then-not-branch-clause-rows c =
    let inv = c.loop-number.invariant in
    let read = rw c.if-not-branch.true at c.in_ok-next_record.ensures.reads in
    record {
      records = inv.3;
      are_all = (reader_state c.loop-number.reader, inv.4, inv.6, rows-end (λ s. Some s.now) c.loop-number.reader c.next_record.new.reader (fields_of c.next_record.new.fields) default_config inv.4 inv.2 inv.5 read);
      are_rows = inv.7;
    }

pub returns-then-not-branch-clause-few_rows : goal.returns-then-not-branch-clause-few_rows
returns-then-not-branch-clause-few_rows c = omega (arith, c.loop-number.invariant.9, c.loop-number-test.true)

pub returns-in-None-clause-refused : goal.returns-in-None-clause-refused
returns-in-None-clause-refused c =
    let inv = c.loop-number.invariant in
    let read = rw c.if-not-branch.false at c.in_ok-next_record.ensures.reads in
    let fields = fields_of c.next_record.new.fields in
    let more = rows-more (λ s. Some s.now) c.loop-number.reader c.next_record.new.reader fields default_config StartRecord (strip_bom (reader_source c.args.reader.now).now) inv.4 inv.3 inv.2 inv.5 inv.6 read in (
      c.loop-number.number,
      refl,
      record {
        before = inv.3;
        rows = c.loop-number.block.sorted ++ c.loop-number.block.rest.items;
        bad = fields;
        state = reader_state c.next_record.new.reader;
        rest = more.0;
        begins = more.2;
        are_rows = inv.7;
        no_row = rw c.in-None.is at c.in_ok-row.ensures;
        counted = sym inv.8;
      },
    )

pub loop-number-preserved : goal.loop-number-preserved
loop-number-preserved c =
    let inv = c.loop-number.invariant in
    let read = rw c.if-not-branch.false at c.in_ok-next_record.ensures.reads in
    let fields = fields_of c.next_record.new.fields in
    let row = c.in-Some.row in
    let more = rows-more (λ s. Some s.now) c.loop-number.reader c.next_record.new.reader fields default_config StartRecord (strip_bom (reader_source c.args.reader.now).now) inv.4 inv.3 inv.2 inv.5 inv.6 read in
    let is = rw c.in-Some.is at c.in_ok-row.ensures in
    let pushed = c.in_ok-push-in-Some.ensures.rows in (
      read.3 ∙ inv.0,
      c.in_ok-next_record.ensures.ready,
      read.2 ∙ inv.2,
      inv.3 ++ fields ∷ [],
      more.0,
      more.1,
      more.2,
      rw pushed (all_zip_push (IsRecordOf (kinds c.args.columns.now)) inv.3 (c.loop-number.block.sorted ++ c.loop-number.block.rest.items) fields row inv.7 is),
      omega (arith, inv.8, length-append inv.3 (fields ∷ [])),
      rw pushed (omega (arith, inv.9, length-append (c.loop-number.block.sorted ++ c.loop-number.block.rest.items) (row ∷ []))),
      c.in_ok-push-in-Some.ensures.ascending,
      c.in_ok-push-in-Some.ensures.either,
    )
