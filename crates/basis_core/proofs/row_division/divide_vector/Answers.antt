use Rattle.std.proofs.Common.{[], subst, sym, ◌++◌}
use Rattle.formal_sums.specs.Combinations.{combination}
use Rattle.formal_sums.specs.FormalSums.{Each}
use Rattle.bases.specs.Leads.{head_key}
use Rattle.term_lists.specs.Rings.{ring_comparison, variables}
use Rattle.term_lists.specs.Vectors.{AreVectorsOver, StandsFor, sum_of, sums_of}
use Rattle.term_lists.specs.declared.ring.Ring.{Ring}
use Rattle.vector_division.specs.Divisions.{HasReducedLead}
use Rattle.vector_division.specs.Reductions.{AreMetFrom, HaveLeadsUpTo, IsScaledProduct, cofactors_of}
use Rattle.member_products.specs.Generators.{IsVectorOf}
use Rattle.basis_core.proofs.Failing.{vector_trail}
use Rattle.basis_core.proofs.Tracking.{vectors_over}
use Rattle.basis_core.specs.Rows.{IsRowTrail, vectors_in}
use Rattle.basis_core.proofs.row_division.divide_vector.Goals as goal

pub reduce_lead-requires-clause-vector : goal.reduce_lead-requires-clause-vector
reduce_lead-requires-clause-vector c = subst (λ (x : Ring). IsVectorOf x c.args.v.now) (sym c.ring.ensures) c.requires.over.vector

pub reduce_lead-requires-clause-list : goal.reduce_lead-requires-clause-list
reduce_lead-requires-clause-list c =
    subst (λ (x : Ring). AreVectorsOver x (ring_comparison x) (vectors_in c.args.members.now.list)) (sym c.ring.ensures)
    (vectors_over c.args.members.now.shared c.args.members.now.list c.kept.ensures)

pub returns-in-Ok-clause-quotients : goal.returns-in-Ok-clause-quotients
returns-in-Ok-clause-quotients c =
    let ms = c.args.members.now.list in
    let v = c.args.v.now in
    let qs = c.in-Ok.reduction.quotients.items in
    record {
      each = subst (λ (x : Ring). Each (IsScaledProduct (variables x) x.weights x.modulus.value (vectors_in ms)) qs) c.ring.ensures c.in-Ok.ensures.quotients;
      met = subst (λ (x : Ring). AreMetFrom (variables x) (sum_of (variables x) v) (vectors_in ms) [] qs) c.ring.ensures c.in-Ok.ensures.met;
      bounded = subst (λ (x : Ring). HaveLeadsUpTo (variables x) (ring_comparison x (variables x)) (vectors_in ms)
          (head_key (sum_of (variables x) v)) qs) c.ring.ensures c.in-Ok.ensures.bounded;
    }

pub returns-in-Ok-clause-rest : goal.returns-in-Ok-clause-rest
returns-in-Ok-clause-rest c =
    let ms = c.args.members.now.list in
    let v = c.args.v.now in
    let r = c.in-Ok.reduction in
    record {
      sum = subst (λ (x : Ring). StandsFor x v
          (combination (sums_of (variables x) (vectors_in ms)) (cofactors_of (variables x) r.quotients.items) ++ sum_of (variables x) r.rest))
          c.ring.ensures c.in-Ok.ensures.sum;
      vector = subst (λ (x : Ring). IsVectorOf x r.rest) c.ring.ensures c.in-Ok.ensures.rest;
      reduced = subst (λ (x : Ring). HasReducedLead (sums_of (variables x) (vectors_in ms)) (sum_of (variables x) r.rest))
          c.ring.ensures c.in-Ok.ensures.reduced;
    }

pub returns-in-Err-Degree-clause-stop : goal.returns-in-Err-Degree-clause-stop
returns-in-Err-Degree-clause-stop c =
    let ms = c.args.members.now.list in
    let t = c.in-Err-Degree.trail in
    rw (c.into_chain-products.ensures.products, c.into_chain-products.ensures.last)
    (subst (λ (x : Ring). IsRowTrail (variables x) x.weights ms c.args.v.now t.products.items t.last) c.ring.ensures
    (vector_trail c.ring.result.now ms c.args.v.now t c.in-Err-Degree.field-0 c.in-Err-Degree.field-0-is c.in-Err-Degree.ensures.stop))
