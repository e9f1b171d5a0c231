use Rattle.query_resolve.proofs.AnswerColumns.{answer-atom, answer-table, answer-column, answer-kind}
use Rattle.query_resolve.proofs.answer.answer_kind.Goals as goal

pub kind_of_column-requires-clause-atom : goal.kind_of_column-requires-clause-atom
kind_of_column-requires-clause-atom c = answer-atom c.args.bound.now.db.now c.args.bound.now.query.now c.args.bound.now.fits c.args.at c.requires c.as_slice.result.now _ c.as_slice.ensures c.as_slice-2.result.now c.as_slice-2.ensures

pub kind_of_column-requires-clause-table : goal.kind_of_column-requires-clause-table
kind_of_column-requires-clause-table c = answer-table c.args.bound.now.db.now c.args.bound.now.query.now c.args.bound.now.fits c.args.at c.requires c.as_slice.result.now _ c.as_slice.ensures c.as_slice-2.result.now c.as_slice-2.ensures

pub kind_of_column-requires-clause-column : goal.kind_of_column-requires-clause-column
kind_of_column-requires-clause-column c = answer-column c.args.bound.now.db.now c.args.bound.now.query.now c.args.bound.now.fits c.args.at c.requires c.as_slice.result.now _ c.as_slice.ensures c.as_slice-2.result.now c.as_slice-2.ensures

pub returns : goal.returns
returns c = answer-kind c.args.bound.now.db.now c.args.bound.now.query.now c.args.bound.now.fits c.args.at c.requires c.as_slice.result.now _ c.as_slice.ensures c.as_slice-2.result.now c.as_slice-2.ensures c.kind_of_column.result c.kind_of_column.ensures
