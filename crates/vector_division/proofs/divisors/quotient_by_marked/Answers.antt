use Rattle.std.proofs.Common.{None, false, length, subst, sym, ◌∙◌, ◌≡◌}
use Rattle.formal_sums.proofs.Combining.{Each_map}
use Rattle.term_lists.specs.Vectors.{HasVariables, IsMonomialOver, key_of}
use Rattle.vector_division.specs.Progress.{IsTried}
use Rattle.vector_division.proofs.divisors.quotient_by_marked.Goals as goal

pub returns-then-not-is_possible : goal.returns-then-not-is_possible
returns-then-not-is_possible g c =
    let ring = g.F.Frame.over c.args.frame.now in
    let v = c.args.v.now in
    let key = c.args.key.now in
    let n = length key.monomial.exponents in
    let e = c.requires.key.variables in
    let no : c.is_possible.result ≡ false = cc in
    let have = Each_map (λ t. IsMonomialOver ring t.0.monomial) (HasVariables n) v (λ t h. h.variables ∙ sym e) c.requires.vector in
    subst (λ m. IsTried m ring.weights v (key_of m key) None) e (c.is_possible.ensures no ring.weights v have c.requires.mark)

pub is_possible-requires : goal.is_possible-requires
is_possible-requires g c = c.requires.bits

pub quotient_by_lead-requires-clause-key : goal.quotient_by_lead-requires-clause-key
quotient_by_lead-requires-clause-key g c = c.requires.key

pub quotient_by_lead-requires-clause-vector : goal.quotient_by_lead-requires-clause-vector
quotient_by_lead-requires-clause-vector g c = c.requires.vector
