use Rattle.std.proofs.Common.{refl, rules}
use Rattle.session_reports.specs.Minimising.{table_text}
use Rattle.session_reports.proofs.minimising.push_betti.Goals as goal

pub table_of-requires-clause-basis : goal.table_of-requires-clause-basis
table_of-requires-clause-basis c = c.requires

pub table_of-requires-clause-homogeneous : goal.table_of-requires-clause-homogeneous
table_of-requires-clause-homogeneous c = c.is_inhomogeneous.ensures.none c.if-is_inhomogeneous.false

pub returns-in-Err-clause-stop : goal.returns-in-Err-clause-stop
returns-in-Err-clause-stop c = c.in-Err.ensures.stop

pub returns-in-Ok-whole_or_none-clause-reports : goal.returns-in-Ok-whole_or_none-clause-reports
returns-in-Ok-whole_or_none-clause-reports c = λ list positions reduced kept.
    let told = c.in-Ok.ensures.table in (
      table_text c.in-Ok.entries.items,
      record {
        basis = c.args.basis.now;
        reduced = reduced;
        resolution = told.resolution;
        resolved = told.resolved;
        entries = c.in-Ok.entries.items;
        table = told.table;
        text_is = refl;
      },
      search rules,
    )
