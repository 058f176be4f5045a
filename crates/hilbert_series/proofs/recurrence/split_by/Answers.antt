use Rattle.std.proofs.Common.{arith, length, refl, rules}
use Rattle.hilbert_series.proofs.Lists.{split_by_pivot}
use Rattle.monomial_orders.specs.Kept.{monomials}
use Rattle.hilbert_series.proofs.recurrence.split_by.Goals as goal

pub returns : goal.returns
returns c =
    let ws = c.args.weights.now in
    let ms = monomials (length ws) c.args.done.now in
    let apart = c.if-not-is_apart.ensures refl in
    record {
      split = split_by_pivot (length ws) ws ms c.args.list.now c.in_ok-left.left.items c.in_ok-all.all.items c.in_ok-right.right.items c.args.p.now
          c.in_ok-degree.degree c.requires.monomial c.in_ok-degree.ensures c.in_ok-left.ensures.generators c.in_ok-left.ensures.same
          (search (arith, rules)) c.in_ok-all.ensures.long c.in_ok-all.ensures.items c.in_ok-right.ensures.shorter
          apart c.requires.apart (c.in_ok-left.ensures.apart ms apart c.requires.apart);
    }

pub is_apart-requires-clause-generators : goal.is_apart-requires-clause-generators
is_apart-requires-clause-generators c = c.requires.done

pub is_apart-requires-clause-monomial : goal.is_apart-requires-clause-monomial
is_apart-requires-clause-monomial c = c.requires.monomial

pub with_generator-requires-clause-generators : goal.with_generator-requires-clause-generators
with_generator-requires-clause-generators c = c.requires.generators

pub with_generator-requires-clause-monomial : goal.with_generator-requires-clause-monomial
with_generator-requires-clause-monomial c = c.requires.monomial

pub quotients-requires-clause-generators : goal.quotients-requires-clause-generators
quotients-requires-clause-generators c = c.requires.generators

pub quotients-requires-clause-monomial : goal.quotients-requires-clause-monomial
quotients-requires-clause-monomial c = c.requires.monomial
