use Rattle.std.proofs.Common.{refl, rules, subst, sym}
use Rattle.std.proofs.lemmas.Result.{IfOk-weaker}
use Rattle.std.specs.Prelude.{codes, string_bytes}
use Rattle.groebner_iface.specs.Runs.{IsReducedBasisOf}
use Rattle.order_change.specs.Reordered.{with_order}
use Rattle.session_reports.proofs.Reporting.{of_list, over_variables, own_basis}
use Rattle.session_values.specs.Texts.{listing}
use Rattle.session_reports.proofs.reordering.push_reordered.Goals as goal

pub convert-requires : goal.convert-requires
convert-requires c =
    subst (λ r. IsReducedBasisOf c.args.ring.now r c.args.basis.now c.args.basis.now) c.requires.ideal
    (own_basis c.args.ring.now c.args.info.now.rank c.requires.basis.0 c.args.basis.now c.requires.basis.1 c.requires.basis.2)

pub returns-in-Err-clause-reports : goal.returns-in-Err-clause-reports
returns-in-Err-clause-reports c =
    IfOk-weaker c.refused.result _ _
    (λ step h list positions reduced kept.
    h c.args.ring.now (record { name = string_bytes c.args.info.now.name; rank = c.args.info.now.rank; list = list; kept = kept }) c.args.order
    c.args.basis.now c.args.out.now reduced c.in-Err.ensures.stop)
    c.refused.ensures

pub push_listing-requires : goal.push_listing-requires
push_listing-requires c = over_variables c.args.ring.now c.args.order 1 c.args.basis.now c.in-Ok.list c.in-Ok.ensures.basis

pub returns-in-Ok-push_listing-clause-reports : goal.returns-in-Ok-push_listing-clause-reports
returns-in-Ok-push_listing-clause-reports c = λ list positions reduced kept. (
  listing (codes "fglm") c.args.ring.now (record { name = string_bytes c.args.info.now.name; rank = c.args.info.now.rank; list = list; kept = kept })
      c.in-Ok.list,
  record {
    basis = c.args.basis.now;
    reduced = reduced;
    few = c.in-Ok.ensures.few;
    reordered = c.in-Ok.list;
    reduced_anew = of_list c.args.ring.now c.args.info.now.rank list c.args.basis.now positions reduced c.args.order c.in-Ok.list
        (subst (λ r. IsReducedBasisOf (with_order c.args.order c.args.ring.now) r c.args.basis.now c.in-Ok.list) (sym c.requires.ideal) c.in-Ok.ensures.basis);
    text_is = refl;
  },
  search rules,
)
