use Rattle.std.proofs.Common.{[], arith, length, subst, sym, ◌-◌, ◌<◌, ◌∙◌}
use Rattle.std.proofs.lemmas.List.{get_or_default}
use Rattle.formal_sums.specs.FormalSums.{Each}
use Rattle.term_lists.specs.Rings.{variables}
use Rattle.term_lists.specs.Vectors.{IsMonomialOver, key_of}
use Rattle.vector_division.specs.Marks.{IsMarkOf}
use Rattle.induced_leads.proofs.Finding.{behind_span, none_in_span, none_spanned}
use Rattle.induced_leads.proofs.LeastLeads.{each_at}
use Rattle.induced_leads.proofs.divisors.last_divisor.Goals as goal

pub returns-then-key-len : goal.returns-then-key-len
returns-then-key-len c =
    let ring = c.args.ring.now in
    none_spanned (variables ring) c.args.columns.now (key_of (variables ring) c.args.key.now) c.args.index.now c.requires.index ring.weights (omega arith)

pub returns : goal.returns
returns c =
    let ring = c.args.ring.now in
    none_in_span (variables ring) c.args.columns.now (key_of (variables ring) c.args.key.now) c.args.index.now c.requires.index c.index-span.result.now c.index-span.ensures ring.weights c.loop-i.i (omega arith) c.loop-i.invariant.tried

pub quotient_by_marked-requires-clause-bits : goal.quotient_by_marked-requires-clause-bits
quotient_by_marked-requires-clause-bits c = c.occurring_variables-occurring.ensures

pub quotient_by_marked-requires-clause-key : goal.quotient_by_marked-requires-clause-key
quotient_by_marked-requires-clause-key c = c.requires.key

pub quotient_by_marked-requires-clause-vector : goal.quotient_by_marked-requires-clause-vector
quotient_by_marked-requires-clause-vector c =
    each_at (Each (λ t. IsMonomialOver c.args.ring.now t.0.monomial)) c.args.columns.now c.index-columns-i.result c.requires.columns
    (c.loop-i.i - 1, omega (arith, c.loop-i.invariant.inside), sym c.index-columns-i.is)

pub quotient_by_marked-requires-clause-mark : goal.quotient_by_marked-requires-clause-mark
quotient_by_marked-requires-clause-mark c =
    let cols = c.args.columns.now in
    let i = c.loop-i.i - 1 in
    let lt : i < length cols = omega (arith, c.loop-i.invariant.inside) in
    subst (λ z. IsMarkOf z c.index-mark.result.now) (sym (c.index-columns-i.is ∙ get_or_default cols i c.index-columns-i.result [] lt))
    (c.requires.index.marks.each i c.index-mark.result.now lt c.index-mark.ensures)

pub loop-i-init : goal.loop-i-init
loop-i-init c =
    let ring = c.args.ring.now in
    record {
      inside = omega (arith, c.min-i.ensures);
      tried = λ j le lt some d. behind_span (variables ring) c.args.columns.now (key_of (variables ring) c.args.key.now) c.args.index.now c.requires.index
          c.index-span.result.now c.index-span.ensures c.min-i.result j c.min-i.ensures le lt some d;
    }
