use Rattle.std.proofs.Common.{ap, arith, length, refl, rules, ◌+◌, ◌∙◌, ◌≡◌, ◌≤◌}
use Rattle.hilbert_laws.specs.Shifting.{minus, shifted}
use Rattle.hilbert_series.specs.Generators.{HaveSameCoefficients, IsNumeratorWith}
use Rattle.hilbert_series.proofs.Lists.{by_last, by_last_apart, last_generator, last_quotients_apart, no_generators, slice_small_with}
use Rattle.hilbert_series.proofs.Loops.{ok_more}
use Rattle.monomial_orders.specs.Kept.{monomials}
use Rattle.hilbert_series.proofs.recurrence.+by_generators.Goals as goal

pub returns-in_default : goal.returns-in_default
returns-in_default t c = record {
  numerator = no_generators (length c.args.weights.now) c.args.weights.now c.args.done.now.items c.args.list.items c.args.start.now.items c.in_ok-same.same.items
      (search rules) (c.in_ok-same.ensures.items ∙ c.as_slice.ensures.value) c.requires.start;
}

pub is_apart-requires-clause-monomial : goal.is_apart-requires-clause-monomial
is_apart-requires-clause-monomial t c =
    let l = last_generator (length c.args.weights.now) c.args.weights.now (monomials (length c.args.weights.now) c.args.done.now.items) c.args.list.items
    c.pop.new.self.items c.in-Some.last c.in-Some.ensures.items c.requires.generators c.requires.apart in
    l.weighed

pub quotients-requires-clause-monomial : goal.quotients-requires-clause-monomial
quotients-requires-clause-monomial t c =
    let l = last_generator (length c.args.weights.now) c.args.weights.now (monomials (length c.args.weights.now) c.args.done.now.items) c.args.list.items
    c.pop.new.self.items c.in-Some.last c.in-Some.ensures.items c.requires.generators c.requires.apart in
    l.weighed

pub minus_shifted-requires-clause-small_left : goal.minus_shifted-requires-clause-small_left
minus_shifted-requires-clause-small_left t c =
    let l = last_generator (length c.args.weights.now) c.args.weights.now (monomials (length c.args.weights.now) c.args.done.now.items) c.args.list.items
    c.pop.new.self.items c.in-Some.last c.in-Some.ensures.items c.requires.generators c.requires.apart in
    let a = l.long in let f = c.requires.few in
    (slice_small_with (length c.args.weights.now) c.args.weights.now c.args.done.now.items c.pop.new.self.items c.in_ok-left.left.items c.as_slice-then-is_apart.result.now
    (omega (arith, a, f)) c.in_ok-left.ensures.numerator c.as_slice-then-is_apart.ensures.value).0

pub minus_shifted-requires-clause-small_right : goal.minus_shifted-requires-clause-small_right
minus_shifted-requires-clause-small_right t c =
    let l = last_generator (length c.args.weights.now) c.args.weights.now (monomials (length c.args.weights.now) c.args.done.now.items) c.args.list.items
    c.pop.new.self.items c.in-Some.last c.in-Some.ensures.items c.requires.generators c.requires.apart in
    let a = l.long in let f = c.requires.few in
    (slice_small_with (length c.args.weights.now) c.args.weights.now c.args.done.now.items c.pop.new.self.items c.in_ok-left.left.items c.as_slice-then-is_apart-2.result.now
    (omega (arith, a, f)) c.in_ok-left.ensures.numerator c.as_slice-then-is_apart-2.ensures.value).1

pub returns-then-is_apart : goal.returns-then-is_apart
returns-then-is_apart t c =
    let ws = c.args.weights.now in
    let l = last_generator (length ws) ws (monomials (length ws) c.args.done.now.items) c.args.list.items c.pop.new.self.items c.in-Some.last
    c.in-Some.ensures.items c.requires.generators c.requires.apart in
    record {
      numerator = ok_more
          (λ v. HaveSameCoefficients v.items (minus c.as_slice-then-is_apart.result.now (shifted c.in_ok-degree.degree
          c.as_slice-then-is_apart-2.result.now)))
          (λ v. IsNumeratorWith (length ws) ws (monomials (length ws) c.args.done.now.items) c.args.list.items v.items) c.minus_shifted.result
          (λ v s. by_last_apart (length ws) ws (monomials (length ws) c.args.done.now.items) c.args.list.items c.pop.new.self.items c.as_slice-2.result.now c.in-Some.last c.in_ok-degree.degree
          c.in_ok-left.left.items c.as_slice-then-is_apart.result.now c.as_slice-then-is_apart-2.result.now v.items l
          c.in_ok-degree.ensures c.as_slice-2.ensures.value (c.if-is_apart.ensures refl) c.in_ok-left.ensures.numerator
          c.as_slice-then-is_apart.ensures.value c.as_slice-then-is_apart-2.ensures.value s)
          c.minus_shifted.ensures.difference;
    }

pub by_generators-requires-3 : goal.by_generators-requires-3
by_generators-requires-3 t c =
    let ws = c.args.weights.now in
    let ms = monomials (length ws) c.args.done.now.items in
    let l = last_generator (length ws) ws ms c.args.list.items c.pop.new.self.items c.in-Some.last c.in-Some.ensures.items c.requires.generators
    c.requires.apart in
    let a = l.long in
    let f = c.requires.few in
    let q : length c.in_ok-quotient.quotient.items ≡ length c.pop.new.self.items = c.in_ok-quotient.ensures.long ∙ ap length c.as_slice-3.ensures.value in
    let few : length c.args.done.now.items + length c.in_ok-quotient.quotient.items ≤ 120 = omega (arith, a, f, q) in
    let apart = last_quotients_apart (length ws) ws ms c.args.list.items c.pop.new.self.items c.as_slice-3.result.now c.in_ok-quotient.quotient.items
    c.in-Some.last l c.as_slice-3.ensures.value c.in_ok-quotient.ensures.items in
    search (arith, rules)

pub minus_shifted-requires-2-clause-small_left : goal.minus_shifted-requires-2-clause-small_left
minus_shifted-requires-2-clause-small_left t c =
    let l = last_generator (length c.args.weights.now) c.args.weights.now (monomials (length c.args.weights.now) c.args.done.now.items) c.args.list.items
    c.pop.new.self.items c.in-Some.last c.in-Some.ensures.items c.requires.generators c.requires.apart in
    let a = l.long in let f = c.requires.few in
    (slice_small_with (length c.args.weights.now) c.args.weights.now c.args.done.now.items c.pop.new.self.items c.in_ok-left-2.left.items c.as_slice-4.result.now
    (omega (arith, a, f)) c.in_ok-left-2.ensures.numerator c.as_slice-4.ensures.value).0

pub minus_shifted-requires-2-clause-small_right : goal.minus_shifted-requires-2-clause-small_right
minus_shifted-requires-2-clause-small_right t c =
    let l = last_generator (length c.args.weights.now) c.args.weights.now (monomials (length c.args.weights.now) c.args.done.now.items) c.args.list.items
    c.pop.new.self.items c.in-Some.last c.in-Some.ensures.items c.requires.generators c.requires.apart in
    (slice_small_with (length c.args.weights.now) c.args.weights.now c.args.done.now.items c.in_ok-quotient.quotient.items c.in_ok-right.right.items c.as_slice-5.result.now
    (let a = l.long in let f = c.requires.few in search (arith, rules)) c.in_ok-right.ensures.numerator c.as_slice-5.ensures.value).1

pub returns : goal.returns
returns t c =
    let ws = c.args.weights.now in
    let l = last_generator (length ws) ws (monomials (length ws) c.args.done.now.items) c.args.list.items c.pop.new.self.items c.in-Some.last
    c.in-Some.ensures.items c.requires.generators c.requires.apart in
    record {
      numerator = ok_more
          (λ v. HaveSameCoefficients v.items (minus c.as_slice-4.result.now (shifted c.in_ok-degree.degree c.as_slice-5.result.now)))
          (λ v. IsNumeratorWith (length ws) ws (monomials (length ws) c.args.done.now.items) c.args.list.items v.items) c.minus_shifted-2.result
          (λ v s. by_last (length ws) ws (monomials (length ws) c.args.done.now.items) c.args.list.items c.pop.new.self.items c.as_slice-3.result.now c.in_ok-quotient.quotient.items c.in-Some.last
          c.in_ok-degree.degree c.in_ok-left-2.left.items c.in_ok-right.right.items c.as_slice-4.result.now c.as_slice-5.result.now v.items l
          c.in_ok-degree.ensures c.as_slice-3.ensures.value c.in_ok-quotient.ensures.items c.in_ok-left-2.ensures.numerator c.in_ok-right.ensures.numerator
          c.as_slice-4.ensures.value c.as_slice-5.ensures.value s)
          c.minus_shifted-2.ensures.difference;
    }
