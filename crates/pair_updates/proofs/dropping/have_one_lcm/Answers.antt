use Rattle.std.proofs.lemmas.Bool.{false≢true}
use Rattle.basis_steps.proofs.RuleTests.{group, group_first, group_second}
use Rattle.pair_updates.proofs.CriterionTests.{not_true}
use Rattle.pair_updates.proofs.MetPairs.{kept_same}
use Rattle.pair_updates.specs.Leads.{sums_shown}
use Rattle.pair_updates.proofs.dropping.have_one_lcm.Goals as goal

pub lcm_is_reached-requires : goal.lcm_is_reached-requires
lcm_is_reached-requires c = record { pair = record { pair = c.requires.pair.pair; above = c.requires.pair.above }; other = c.requires.other }

pub lcm_is_reached-requires-2 : goal.lcm_is_reached-requires-2
lcm_is_reached-requires-2 c = record { pair = c.requires.other; other = record { pair = c.requires.pair.pair; above = c.requires.pair.above } }

pub returns-then-above-pair : goal.returns-then-above-pair
returns-then-above-pair c =
    let m = c.args.leads.now in
    let x = c.args.pair.now in
    let o = c.requires.other in (
      (λ e. absurd (false≢true e)),
      (λ g. absurd (c.if-above-pair.true (kept_same m x.i x.j c.args.j c.args.above x.above o.above c.requires.pair.above
          (group_first (sums_shown m) x.j x.i c.args.j o.pair.within o.pair.ordered c.requires.pair.pair g)
          (group_second (sums_shown m) x.j x.i c.args.j o.pair.within o.pair.ordered c.requires.pair.pair g)))),
    )

pub returns-then-not-lcm_is_reached : goal.returns-then-not-lcm_is_reached
returns-then-not-lcm_is_reached c =
    let m = c.args.leads.now in
    let x = c.args.pair.now in
    let o = c.requires.other in (
      (λ e. absurd (false≢true e)),
      (λ g. absurd (not_true _ c.if-not-lcm_is_reached.true (c.lcm_is_reached.ensures.1
          (group_first (sums_shown m) x.j x.i c.args.j o.pair.within o.pair.ordered c.requires.pair.pair g)))),
    )

pub returns : goal.returns
returns c =
    let m = c.args.leads.now in
    let x = c.args.pair.now in
    let o = c.requires.other in (
      (λ t. group (sums_shown m) x.j x.i c.args.j o.pair.within o.pair.ordered c.requires.pair.pair
          (c.lcm_is_reached.ensures.0 c.if-not-lcm_is_reached.false) (c.lcm_is_reached-2.ensures.0 t)),
      (λ g. c.lcm_is_reached-2.ensures.1
          (group_second (sums_shown m) x.j x.i c.args.j o.pair.within o.pair.ordered c.requires.pair.pair g)),
    )
