use Rattle.std.proofs.Common.{[], subst, sym, ◌∷◌}
use Rattle.std.specs.Prelude.{Some}
use Rattle.formal_sums.proofs.WeightedSums.{Each_append}
use Rattle.formal_sums.specs.FormalSums.{Each}
use Rattle.term_lists.specs.Rings.{variables}
use Rattle.term_lists.specs.Vectors.{key_of}
use Rattle.induced_leads.specs.Spans.{IsFoundLast}
use Rattle.remainders.specs.Leaving.{AreFactors}
use Rattle.remainders.proofs.substituting.look_at.Goals as goal

pub returns-in_ok-keep_factors-in-Some-clause-way : goal.returns-in_ok-keep_factors-in-Some-clause-way
returns-in_ok-keep_factors-in-Some-clause-way c =
    let ring = c.args.ring.now in
    let n = variables ring in
    let list = c.args.list.now in
    let way = c.requires.way in
    let s = c.in-Some.found in
    let k = key_of n c.index-keys-number.result in
    let found : IsFoundLast n ring.weights list k (Some s) = subst (IsFoundLast n ring.weights list k) c.in-Some.is c.in_ok-last_divisor.ensures in
    record {
      taken = way.taken;
      flags = way.flags;
      factors = subst (Each (AreFactors ring list)) (sym c.in_ok-keep_factors-in-Some.ensures)
          (Each_append _ c.args.work.now.factors.items (s ∷ []) way.factors (record { index = found.0.index; monomial = found.0.variables }, tt));
    }
