use Rattle.std.proofs.Common.{refl, rules, subst, sym}
use Rattle.std.specs.Prelude.{string_bytes}
use Rattle.betti_laws.specs.Tables.{step_count}
use Rattle.minimal_betti.specs.Tables.{IsBettiTable}
use Rattle.session_reports.specs.Minimising.{regularity_text}
use Rattle.session_reports.proofs.minimising.push_regularity.Goals as goal

pub returns-in-Ok-whole_or_none-clause-reports : goal.returns-in-Ok-whole_or_none-clause-reports
returns-in-Ok-whole_or_none-clause-reports c = λ list positions reduced kept.
    let told = c.in-Ok.ensures.table in (
      regularity_text (string_bytes c.args.info.now.name) c.measures_of-measures.result.dimension c.measures_of-measures.result.regularity,
      record {
        basis = c.args.basis.now;
        reduced = reduced;
        resolution = told.resolution;
        resolved = told.resolved;
        dimension = c.measures_of-measures.result.dimension;
        regularity = c.measures_of-measures.result.regularity;
        invariants = c.measures_of-measures.ensures (step_count told.resolution.positions told.resolution.maps)
            (subst (IsBettiTable (step_count told.resolution.positions told.resolution.maps)) (sym c.deref.ensures.value) told.table);
        text_is = refl;
      },
      search rules,
    )

pub table_of-requires-clause-basis : goal.table_of-requires-clause-basis
table_of-requires-clause-basis c = c.requires

pub table_of-requires-clause-homogeneous : goal.table_of-requires-clause-homogeneous
table_of-requires-clause-homogeneous c = c.is_inhomogeneous.ensures.none c.if-is_inhomogeneous.false

pub returns-in-Err-clause-stop : goal.returns-in-Err-clause-stop
returns-in-Err-clause-stop c = c.in-Err.ensures.stop
