use Rattle.std.proofs.lemmas.Bool.{false≢true}
use Rattle.basis_steps.proofs.RuleTests.{leaves, leaves_first, leaves_second}
use Rattle.pair_updates.proofs.Negating.{not_both, not_of}
use Rattle.pair_updates.proofs.CriterionTests.{not_true}
use Rattle.pair_updates.specs.Leads.{sums_shown}
use Rattle.pair_updates.proofs.dropping.leaves_for.Goals as goal

pub returns-then-not-divides_lcm : goal.returns-then-not-divides_lcm
returns-then-not-divides_lcm c = (
  (λ e. absurd (false≢true e)),
  (λ l. absurd (not_true _ c.if-not-divides_lcm.true (c.divides_lcm.ensures.1 l.divides))),
)

pub returns-then-divides_lcm : goal.returns-then-divides_lcm
returns-then-divides_lcm c = (
  (λ e. absurd (false≢true e)),
  (λ l. absurd (leaves_first (sums_shown c.args.leads.now) c.args.h c.args.i c.args.j c.requires.pair l
      (c.divides_lcm-2.ensures.0 c.if-divides_lcm.true))),
)

pub returns : goal.returns
returns c =
    let G = sums_shown c.args.leads.now in (
      (λ t. leaves G c.args.h c.args.i c.args.j c.requires.pair (c.divides_lcm.ensures.0 c.if-not-divides_lcm.false)
          (λ d. not_true _ c.if-divides_lcm.false (c.divides_lcm-2.ensures.1 d))
          (λ d. not_both c.divides_lcm-3.result t (c.divides_lcm-3.ensures.1 d))),
      (λ l. not_of c.divides_lcm-3.result
          (λ t. leaves_second G c.args.h c.args.i c.args.j c.requires.pair l (c.divides_lcm-3.ensures.0 t))),
    )
