use Rattle.std.proofs.Common.{arith, length, subst, subst₂, sym}
use Rattle.hilbert_laws.specs.Numerators.{plus}
use Rattle.hilbert_laws.specs.Shifting.{shifted}
use Rattle.hilbert_series.specs.Generators.{AreCoprimeToAll, AreMonomialGenerators, HaveSameCoefficients, IsNumeratorWith, IsNumeratorSplit}
use Rattle.hilbert_series.proofs.Lists.{numerator_split, slice_small_with, some_holds, split_of_slice}
use Rattle.hilbert_series.proofs.Loops.{ok_more}
use Rattle.monomial_orders.specs.Kept.{monomials}
use Rattle.hilbert_series.proofs.recurrence.+by_steps.Goals as goal

pub plus_shifted-requires-clause-small_left : goal.plus_shifted-requires-clause-small_left
plus_shifted-requires-clause-small_left t c =
    let ws = c.args.weights.now in
    let n = length ws in
    let p = c.in-Some-2.branches in
    let s = split_of_slice n ws c.args.done.now.items c.args.list.items c.as_slice-3.result.now c.as_slice-4.result.now p.left.items p.right.items p.degree
    c.as_slice-3.ensures.value c.as_slice-4.ensures.value
    (some_holds (λ x. IsNumeratorSplit n ws (monomials n c.as_slice-3.result.now) c.as_slice-4.result.now x.left.items x.right.items x.degree)
    c.in_ok-branches.field-0 p c.in-Some-2.is c.in_ok-branches.ensures.split) in
    let a = s.left_fewer in
    let f = c.requires.few in
    (slice_small_with n ws c.args.done.now.items p.left.items c.in_ok-left.left.items c.as_slice-5.result.now (omega (arith, a, f))
    c.in_ok-left.ensures.numerator c.as_slice-5.ensures.value).0

pub plus_shifted-requires-clause-small_right : goal.plus_shifted-requires-clause-small_right
plus_shifted-requires-clause-small_right t c =
    let ws = c.args.weights.now in
    let n = length ws in
    let p = c.in-Some-2.branches in
    let s = split_of_slice n ws c.args.done.now.items c.args.list.items c.as_slice-3.result.now c.as_slice-4.result.now p.left.items p.right.items p.degree
    c.as_slice-3.ensures.value c.as_slice-4.ensures.value
    (some_holds (λ x. IsNumeratorSplit n ws (monomials n c.as_slice-3.result.now) c.as_slice-4.result.now x.left.items x.right.items x.degree)
    c.in_ok-branches.field-0 p c.in-Some-2.is c.in_ok-branches.ensures.split) in
    let a = s.right_fewer in
    let f = c.requires.few in
    (slice_small_with n ws c.args.done.now.items p.right.items c.in_ok-right.right.items c.as_slice-6.result.now (omega (arith, a, f))
    c.in_ok-right.ensures.numerator c.as_slice-6.ensures.value).1

pub returns : goal.returns
returns t c =
    let ws = c.args.weights.now in
    let n = length ws in
    let p = c.in-Some-2.branches in
    let s = split_of_slice n ws c.args.done.now.items c.args.list.items c.as_slice-3.result.now c.as_slice-4.result.now p.left.items p.right.items p.degree
    c.as_slice-3.ensures.value c.as_slice-4.ensures.value
    (some_holds (λ x. IsNumeratorSplit n ws (monomials n c.as_slice-3.result.now) c.as_slice-4.result.now x.left.items x.right.items x.degree)
    c.in_ok-branches.field-0 p c.in-Some-2.is c.in_ok-branches.ensures.split) in
    let ms = monomials n c.args.done.now.items in
    record {
      numerator = ok_more (λ v. HaveSameCoefficients v.items (plus c.as_slice-5.result.now (shifted p.degree c.as_slice-6.result.now)))
          (λ v. IsNumeratorWith n ws ms c.args.list.items v.items) c.plus_shifted.result
          (λ v same. numerator_split n ws ms c.args.list.items p.left.items p.right.items p.degree c.in_ok-left.left.items c.in_ok-right.right.items
          c.as_slice-5.result.now c.as_slice-6.result.now v.items s c.in_ok-left.ensures.numerator c.in_ok-right.ensures.numerator
          c.as_slice-5.ensures.value c.as_slice-6.ensures.value same)
          c.plus_shifted.ensures.sum;
    }

pub by_generators-requires-clause-generators : goal.by_generators-requires-clause-generators
by_generators-requires-clause-generators t c = c.requires.generators

pub by_generators-requires-clause-few : goal.by_generators-requires-clause-few
by_generators-requires-clause-few t c = c.requires.few

pub by_generators-requires-clause-apart : goal.by_generators-requires-clause-apart
by_generators-requires-clause-apart t c = c.requires.apart

pub by_generators-requires-clause-start : goal.by_generators-requires-clause-start
by_generators-requires-clause-start t c = c.requires.start

pub by_generators-requires-in_default-2-clause-generators : goal.by_generators-requires-in_default-2-clause-generators
by_generators-requires-in_default-2-clause-generators t c = c.requires.generators

pub by_generators-requires-in_default-2-clause-few : goal.by_generators-requires-in_default-2-clause-few
by_generators-requires-in_default-2-clause-few t c = c.requires.few

pub by_generators-requires-in_default-2-clause-apart : goal.by_generators-requires-in_default-2-clause-apart
by_generators-requires-in_default-2-clause-apart t c = c.requires.apart

pub by_generators-requires-in_default-2-clause-start : goal.by_generators-requires-in_default-2-clause-start
by_generators-requires-in_default-2-clause-start t c = c.requires.start

pub parted-requires-clause-done : goal.parted-requires-clause-done
parted-requires-clause-done t c = subst (AreMonomialGenerators (length c.args.weights.now) c.args.weights.now) (sym c.as_slice.ensures.value) c.requires.done

pub parted-requires-clause-generators : goal.parted-requires-clause-generators
parted-requires-clause-generators t c =
    subst (AreMonomialGenerators (length c.args.weights.now) c.args.weights.now) (sym c.as_slice-2.ensures.value) c.requires.generators

pub parted-requires-clause-apart : goal.parted-requires-clause-apart
parted-requires-clause-apart t c =
    let n = length c.args.weights.now in
    subst₂ (λ ds gs. AreCoprimeToAll n (monomials n ds) gs) (sym c.as_slice.ensures.value) (sym c.as_slice-2.ensures.value) c.requires.apart

pub split-requires-clause-done : goal.split-requires-clause-done
split-requires-clause-done t c = subst (AreMonomialGenerators (length c.args.weights.now) c.args.weights.now) (sym c.as_slice-3.ensures.value) c.requires.done

pub split-requires-clause-generators : goal.split-requires-clause-generators
split-requires-clause-generators t c =
    subst (AreMonomialGenerators (length c.args.weights.now) c.args.weights.now) (sym c.as_slice-4.ensures.value) c.requires.generators

pub split-requires-clause-apart : goal.split-requires-clause-apart
split-requires-clause-apart t c =
    let n = length c.args.weights.now in
    subst₂ (λ ds gs. AreCoprimeToAll n (monomials n ds) gs) (sym c.as_slice-3.ensures.value) (sym c.as_slice-4.ensures.value) c.requires.apart
