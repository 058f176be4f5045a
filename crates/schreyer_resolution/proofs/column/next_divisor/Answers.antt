use Rattle.std.proofs.Common.{None, Some, subst, subst₂, sym}
use Rattle.term_lists.specs.Rings.{variables}
use Rattle.term_lists.specs.Vectors.{IsMonomialOver, key_of}
use Rattle.vector_division.proofs.Looping.{are_weighed}
use Rattle.vector_division.specs.Progress.{AreWeighed}
use Rattle.induced_leads.specs.Spans.{IsFoundLast, IsIndexOf}
use Rattle.schreyer_resolution.proofs.Dividing.{divisible}
use Rattle.schreyer_resolution.proofs.column.next_divisor.Goals as goal

pub last_divisor-requires-clause-key : goal.last_divisor-requires-clause-key
last_divisor-requires-clause-key g c = subst (λ r. IsMonomialOver r c.args.term.now.0.monomial) (sym c.ring.ensures) c.requires.variables

pub last_divisor-requires-clause-columns : goal.last_divisor-requires-clause-columns
last_divisor-requires-clause-columns g c =
    let ring = g.F.Frame.over c.args.frame.now in
    let n = variables ring in
    subst₂ (λ r z. AreWeighed (variables r) r.weights z) (sym c.ring.ensures) (sym c.as_slice.ensures)
    (are_weighed n ring.weights ring.modulus.value (g.F.Frame.compare c.args.frame.now n) c.args.columns.now c.requires.vectors)

pub last_divisor-requires-clause-index : goal.last_divisor-requires-clause-index
last_divisor-requires-clause-index g c = subst (λ z. IsIndexOf z c.args.index.now) (sym c.as_slice.ensures) c.requires.index

pub unreachable-requires : goal.unreachable-requires
unreachable-requires g c =
    let ring = g.F.Frame.over c.args.frame.now in
    let n = variables ring in
    let base = c.requires.base in
    let t = c.args.term.now in
    let key = key_of (variables c.ring.result.now) t.0 in
    divisible ring (g.F.Frame.compare c.args.frame.now) base.rank (c.lawful_setting.ensures base.rank) (g.met.F.Frame.laws c.args.frame.now n 0) c.args.columns.now c.requires.vectors base.monic base.basis
    c.args.key.now c.requires.pair c.args.quotients.now t c.args.buckets.now c.requires.variables c.requires.nonzero c.requires.reduced c.requires.below c.requires.underway
    (subst₂ (λ r z. IsFoundLast (variables r) r.weights z (key_of (variables r) t.0) None) c.ring.ensures c.as_slice.ensures
    (subst (IsFoundLast (variables c.ring.result.now) c.ring.result.now.weights c.as_slice.result.now key) c.in-None.is c.in_ok-divisor.ensures))

pub returns : goal.returns
returns g c =
    let t = c.args.term.now in
    let key = key_of (variables c.ring.result.now) t.0 in
    subst₂ (λ r z. IsFoundLast (variables r) r.weights z (key_of (variables r) t.0) (Some c.in-Some.divisor)) c.ring.ensures c.as_slice.ensures
    (subst (IsFoundLast (variables c.ring.result.now) c.ring.result.now.weights c.as_slice.result.now key) c.in-Some.is c.in_ok-divisor.ensures)
