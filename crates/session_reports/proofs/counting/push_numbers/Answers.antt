use Rattle.std.proofs.Common.{refl, rules}
use Rattle.std.proofs.lemmas.Result.{IfOk-weaker}
use Rattle.std.specs.Prelude.{string_bytes}
use Rattle.session_values.specs.Numbers.{numbers_text}
use Rattle.session_reports.proofs.counting.push_numbers.Goals as goal

pub numbers_of-requires-clause-rank : goal.numbers_of-requires-clause-rank
numbers_of-requires-clause-rank c = c.requires.rank

pub numbers_of-requires-clause-basis : goal.numbers_of-requires-clause-basis
numbers_of-requires-clause-basis c = c.requires.basis

pub returns-in-Err-clause-reports : goal.returns-in-Err-clause-reports
returns-in-Err-clause-reports c =
    IfOk-weaker c.refused.result _ _
    (λ step h list positions reduced kept.
    h c.args.ring.now (record { name = string_bytes c.args.info.now.name; rank = c.args.info.now.rank; list = list; kept = kept }) c.args.basis.now
    c.args.out.now reduced c.in-Err.ensures.stop)
    c.refused.ensures

pub returns-in-Ok-whole_or_none-clause-reports : goal.returns-in-Ok-whole_or_none-clause-reports
returns-in-Ok-whole_or_none-clause-reports c = λ list positions reduced kept.
    let told = c.in-Ok.ensures in (
      numbers_text (string_bytes c.args.info.now.name) c.in-Ok.numbers.series.coefficients.items c.in-Ok.numbers.dimension c.in-Ok.numbers.degree,
      record {
        basis = c.args.basis.now;
        reduced = reduced;
        few = told.few;
        numerator = c.in-Ok.numbers.series.coefficients.items;
        counts = told.counts;
        narrow = told.narrow;
        dimension = c.in-Ok.numbers.dimension;
        degree = c.in-Ok.numbers.degree;
        measured = told.measured;
        text_is = refl;
      },
      search rules,
    )
