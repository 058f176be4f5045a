use Rattle.std.proofs.Common.{length, rules}
use Rattle.hilbert_series.specs.Generators.{IsNumeratorOf, IsNumeratorWith}
use Rattle.hilbert_series.proofs.Lists.{nothing_done, with_nothing_done}
use Rattle.hilbert_series.proofs.Loops.{ok_more}
use Rattle.monomial_orders.specs.Kept.{monomials}
use Rattle.hilbert_series.proofs.recurrence.ideal_numerator.Goals as goal

pub by_steps-requires-clause-start : goal.by_steps-requires-clause-start
by_steps-requires-clause-start c =
    nothing_done (length c.args.weights.now) c.args.weights.now c.new-none.result.items c.push.new.self.items (search rules) (search rules)

pub returns : goal.returns
returns c =
    let ws = c.args.weights.now in
    let n = length ws in
    record {
      numerator = ok_more (λ v. IsNumeratorWith n ws (monomials n c.new-none.result.items) c.in_ok-least.least.items v.items)
          (λ v. IsNumeratorOf n ws c.args.generators.items v.items) c.by_steps.result
          (λ v h. with_nothing_done n ws c.new-none.result.items c.args.generators.items c.in_ok-least.least.items v.items (search rules)
          c.in_ok-least.ensures.shorter h)
          c.by_steps.ensures.numerator;
    }
