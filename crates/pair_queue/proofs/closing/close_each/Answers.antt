use Rattle.std.proofs.Common.{ap, arith, inl, inr, sym, ◌+◌, ◌-◌, ◌∙◌, ◌≡◌}
use Rattle.std.specs.Int.{bit_at}
use Rattle.std.proofs.lemmas.Bool.{cases_lt, false≢true}
use Rattle.std.proofs.lemmas.Nat.Bits.{bit_at-zero}
use Rattle.pair_queue.proofs.ClosedWords.{apart_of, closed_more, free_more, next_member, place_within}
use Rattle.pair_queue.proofs.closing.close_each.Goals as goal

pub loop-left-init : goal.loop-left-init
loop-left-init c = record {
  later = omega arith;
  bits = λ r. (let e : r ≡ c.args.first - c.args.first + r = omega arith in ap (bit_at c.args.found) e);
  sizes = c.requires.sizes;
  fewer = λ x e. e;
  closed = λ x e f. absurd (false≢true (sym e ∙ f));
  free = λ r l. absurd (omega (arith, l));
}

pub close_one-requires-clause-c : goal.close_one-requires-clause-c
close_one-requires-clause-c c =
    omega (
      arith,
      next_member c.args.due.now c.args.a c.args.first c.args.found (c.loop-left.next - c.args.first) c.lowest-place.result c.loop-left.left c.loop-left.next
          c.ranges.found.fits (c.loop-left.invariant.bits c.lowest-place.result) c.lowest-place.ensures.here c.requires.found
          (omega (arith, c.loop-left.invariant.later)),
      c.requires.sizes,
    )

pub close_one-requires-clause-apart : goal.close_one-requires-clause-apart
close_one-requires-clause-apart c =
    let done = c.loop-left.next - c.args.first in
    let place = c.lowest-place.result in
    let bit : bit_at c.args.found (done + place) ≡ 1 = sym (c.loop-left.invariant.bits place) ∙ c.lowest-place.ensures.here in
    let same : c.args.first + (done + place) ≡ c.loop-left.next + place = omega (arith, c.loop-left.invariant.later) in
    λ e. apart_of c.args.due.now c.args.a (c.args.first + (done + place))
    (c.requires.found (done + place) (place_within c.args.found (done + place) c.ranges.found.fits bit) bit) (e ∙ sym same)

pub loop-left-preserved : goal.loop-left-preserved
loop-left-preserved c =
    let m = c.args.leads.now in
    let inv = c.loop-left.invariant in
    let first = c.args.first in
    let done = c.loop-left.next - first in
    let place = c.lowest-place.result in
    let bit : bit_at c.args.found (done + place) ≡ 1 = sym (inv.bits place) ∙ c.lowest-place.ensures.here in
    let low = place_within c.args.found (done + place) c.ranges.found.fits bit in
    let same : c.loop-left.next + place ≡ first + (done + place) = omega (arith, inv.later) in
    record {
      later = omega (arith, inv.later);
      bits = λ r.
          let e : done + (place + 1 + r) ≡ c.loop-left.next + place + 1 - first + r = omega (arith, inv.later) in
          c.behind-left.ensures.bits r ∙ inv.bits (place + 1 + r) ∙ ap (bit_at c.args.found) e;
      sizes = c.close_one.ensures.sizes ∙ inv.sizes;
      fewer = λ x e. inv.fewer x (c.close_one.ensures.fewer x e);
      closed = closed_more m c.args.due.now c.loop-left.due c.close_one.new.due c.args.a c.args.k first c.args.found (done + place) (c.loop-left.next + place) same low bit
          c.close_one.ensures.other c.close_one.ensures.closed inv.closed;
      free = λ r l.
          free_more m c.loop-left.due c.close_one.new.due c.args.a c.args.k first c.args.found done place c.loop-left.left (c.loop-left.next + place) same inv.bits
          c.lowest-place.ensures.below c.close_one.ensures.fewer c.close_one.ensures.free inv.free r (omega (arith, l, inv.later));
    }

pub returns-clause-free : goal.returns-clause-free
returns-clause-free c = λ r l one t d.
    let inv = c.loop-left.invariant in
    let done = c.loop-left.next - c.args.first in
    elim (cases_lt r done) [
      | inl q ↦ inv.free r q one t d
      | inr q ↦
          (let back : done + (r - done) ≡ r = omega (arith, q) in
          let none : bit_at c.loop-left.left (r - done) ≡ 0 = ap (λ w. bit_at w (r - done)) (omega (arith, c.loop-left-test.false)) ∙ bit_at-zero (r - done) in
          let same : bit_at c.loop-left.left (r - done) ≡ bit_at c.args.found r = inv.bits (r - done) ∙ ap (bit_at c.args.found) back in
          absurd (omega (arith, none, same, one)))
    ]

pub overflow_add-next : goal.overflow_add-next
overflow_add-next c =
    omega (
      arith,
      next_member c.args.due.now c.args.a c.args.first c.args.found (c.loop-left.next - c.args.first) c.lowest-place.result c.loop-left.left c.loop-left.next
          c.ranges.found.fits (c.loop-left.invariant.bits c.lowest-place.result) c.lowest-place.ensures.here c.requires.found
          (omega (arith, c.loop-left.invariant.later)),
      c.requires.sizes,
      c.requires.few,
    )

pub overflow_add-next-in-loop-left : goal.overflow_add-next-in-loop-left
overflow_add-next-in-loop-left c =
    omega (
      arith,
      next_member c.args.due.now c.args.a c.args.first c.args.found (c.loop-left.next - c.args.first) c.lowest-place.result c.loop-left.left c.loop-left.next
          c.ranges.found.fits (c.loop-left.invariant.bits c.lowest-place.result) c.lowest-place.ensures.here c.requires.found
          (omega (arith, c.loop-left.invariant.later)),
      c.requires.sizes,
      c.requires.few,
    )

pub overflow_add-next-in-loop-left-2 : goal.overflow_add-next-in-loop-left-2
overflow_add-next-in-loop-left-2 c =
    omega (
      arith,
      next_member c.args.due.now c.args.a c.args.first c.args.found (c.loop-left.next - c.args.first) c.lowest-place.result c.loop-left.left c.loop-left.next
          c.ranges.found.fits (c.loop-left.invariant.bits c.lowest-place.result) c.lowest-place.ensures.here c.requires.found
          (omega (arith, c.loop-left.invariant.later)),
      c.requires.sizes,
      c.requires.few,
    )
