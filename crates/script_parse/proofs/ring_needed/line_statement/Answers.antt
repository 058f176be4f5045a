use Rattle.std.proofs.Common.{ap, sym, ◌∙◌}
use Rattle.std.specs.Option.{option_copied}
use Rattle.script_parse.proofs.Answering.{degree_refused, kind_refused, line_stated, name_refused, rank_refused, ring_refused}
use Rattle.script_parse.proofs.Stating.{workable}
use Rattle.script_parse.proofs.ring_needed.line_statement.Goals as goal

pub returns-then-not-number_fits : goal.returns-then-not-number_fits
returns-then-not-number_fits c = λ w is. ring_refused (option_copied c.args.ring) c.in-Some.ring.now c.args.names.now c.args.line.now w c.args.head c.args.polynomials.now (ap option_copied c.in-Some.is) is (sym c.number_fits.ensures ∙ c.if-not-number_fits.true)

pub returns-then-not-names_known : goal.returns-then-not-names_known
returns-then-not-names_known c = λ w is. name_refused (option_copied c.args.ring) c.in-Some.ring.now c.args.names.now c.args.line.now w c.args.head c.args.polynomials.now (ap option_copied c.in-Some.is) is (sym c.number_fits.ensures ∙ c.if-not-number_fits.false)
    (sym c.names_known.ensures ∙ c.if-not-names_known.true)

pub returns-then-not-kinds_right : goal.returns-then-not-kinds_right
returns-then-not-kinds_right c = λ w is. kind_refused (option_copied c.args.ring) c.in-Some.ring.now c.args.names.now c.args.line.now w c.args.head c.args.polynomials.now (ap option_copied c.in-Some.is) is (sym c.number_fits.ensures ∙ c.if-not-number_fits.false)
    (sym c.names_known.ensures ∙ c.if-not-names_known.false) (sym c.kinds_right.ensures ∙ c.if-not-kinds_right.true)

pub returns-then-not-rank_fits : goal.returns-then-not-rank_fits
returns-then-not-rank_fits c = λ w is. rank_refused (option_copied c.args.ring) c.in-Some.ring.now c.args.names.now c.args.line.now w c.args.head c.args.polynomials.now (ap option_copied c.in-Some.is) is (sym c.number_fits.ensures ∙ c.if-not-number_fits.false)
    (sym c.names_known.ensures ∙ c.if-not-names_known.false) (sym c.kinds_right.ensures ∙ c.if-not-kinds_right.false) (sym c.rank_fits.ensures ∙ c.if-not-rank_fits.true)

pub returns-then-not-branch : goal.returns-then-not-branch
returns-then-not-branch c = λ w is. degree_refused (option_copied c.args.ring) c.in-Some.ring.now c.args.names.now c.args.line.now w c.args.head c.args.polynomials.now (ap option_copied c.in-Some.is) is (sym c.number_fits.ensures ∙ c.if-not-number_fits.false)
    (sym c.names_known.ensures ∙ c.if-not-names_known.false) (sym c.kinds_right.ensures ∙ c.if-not-kinds_right.false) (sym c.rank_fits.ensures ∙ c.if-not-rank_fits.false)
    (sym c.in_ok-degrees_fit.ensures ∙ c.if-not-branch.true)

pub stated-requires-clause-workable : goal.stated-requires-clause-workable
stated-requires-clause-workable c = workable c.in-Some.ring.now c.args.names.now c.args.line.now c.args.head c.args.polynomials.now (sym c.names_known.ensures ∙ c.if-not-names_known.false) (sym c.kinds_right.ensures ∙ c.if-not-kinds_right.false) (sym c.in_ok-degrees_fit.ensures ∙ c.if-not-branch.false) c.requires.numerals

pub returns : goal.returns
returns c = λ w is. line_stated (option_copied c.args.ring) c.in-Some.ring.now c.args.names.now c.args.line.now w c.args.head c.args.polynomials.now (ap option_copied c.in-Some.is) is (sym c.number_fits.ensures ∙ c.if-not-number_fits.false)
    (sym c.names_known.ensures ∙ c.if-not-names_known.false) (sym c.kinds_right.ensures ∙ c.if-not-kinds_right.false) (sym c.rank_fits.ensures ∙ c.if-not-rank_fits.false) (sym c.in_ok-degrees_fit.ensures ∙ c.if-not-branch.false)
    c.stated.result c.stated.ensures

pub degrees_fit-requires : goal.degrees_fit-requires
degrees_fit-requires c = c.requires.polynomials

pub stated-requires-clause-written : goal.stated-requires-clause-written
stated-requires-clause-written c = c.requires.written

pub stated-requires-clause-ascii : goal.stated-requires-clause-ascii
stated-requires-clause-ascii c = c.requires.ascii
