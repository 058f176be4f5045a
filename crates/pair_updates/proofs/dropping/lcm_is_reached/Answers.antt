use Rattle.std.proofs.Common.{arith, refl, sym, ◌∙◌}
use Rattle.std.proofs.lemmas.Bool.{false≢true}
use Rattle.pair_updates.proofs.CriterionTests.{not_true}
use Rattle.pair_updates.proofs.MetPairs.{divides_told, kept_within}
use Rattle.pair_updates.proofs.dropping.lcm_is_reached.Goals as goal

pub returns-then-not-is_within : goal.returns-then-not-is_within
returns-then-not-is_within c =
    let a = c.args in (
      (λ e. absurd (false≢true e)),
      (λ d. absurd (not_true _ c.if-not-is_within.true (c.is_within.ensures.1
          (kept_within a.leads.now a.i a.h a.j a.above_j a.above_i c.requires.other.above c.requires.pair.above d)))),
    )

pub returns-then-len-le16 : goal.returns-then-len-le16
returns-then-len-le16 c =
    let a = c.args in (
      (λ e. divides_told a.leads.now a.i a.h a.j a.above_j a.above_i c.requires.other.above c.requires.pair.above
          (c.is_within.ensures.0 c.if-not-is_within.false) (c.tells_all.ensures.0 c.if-tells_all.true)
          (omega (arith, c.weights.ensures.variables, c.len.ensures, c.if-len-le16.true))
          (c.requires.other.pair.position ∙ sym c.requires.pair.pair.position)),
      (λ d. refl),
    )
