use Rattle.lucid_top.proofs.Common.{length, ap, arith, table_of, plain_words}
use Rattle.lucid_top.proofs.Carrying.{root_lines, root_figures, spaces_lines, spaces_figures}
use Rattle.lucid_top.proofs.Answering.{at_none, at_these}
use Rattle.lucid_top.proofs.running.run_streams.Goals as goal

pub overflow_cast-columns : goal.overflow_cast-columns
overflow_cast-columns g c =
    let these = at_these _ _ (plain_words c.args.terms.words.now) c.in-Some.names c.in-Some.is c.requires.asked in
    let same = ap length these.1 in
    omega (arith, same, c.requires.columns)

pub run_columns-requires-clause-columns : goal.run_columns-requires-clause-columns
run_columns-requires-clause-columns g c =
    let these = at_these _ _ (plain_words c.args.terms.words.now) c.in-Some.names c.in-Some.is c.requires.asked in
    let same = ap length these.1 in
    omega (arith, same, c.requires.columns)

pub returns-in-None : goal.returns-in-None
returns-in-None g c =
    let w = plain_words c.args.terms.words.now in
    let none = at_none _ _ w c.in-None.is c.requires.asked in
    let ran = c.run.ensures in record {
      headline = root_lines w (table_of c.args.program) _ c.run.result none ran.headline;
      figures = root_figures w (table_of c.args.program) _ c.run.result none ran.figures;
      causes = ran.causes;
      reads_only = ran.reads_only;
    }

pub returns-in-Some : goal.returns-in-Some
returns-in-Some g c =
    let w = plain_words c.args.terms.words.now in
    let these = at_these _ _ w c.in-Some.names c.in-Some.is c.requires.asked in
    let long = ap length these.1 in
    let ran = c.run_columns.ensures in record {
      headline = spaces_lines w (table_of c.args.program) _ c.run_columns.result _ long these.0 ran.headline;
      figures = spaces_figures w (table_of c.args.program) _ c.run_columns.result _ long these.0 ran.figures;
      causes = ran.causes;
      reads_only = ran.reads_only;
    }
