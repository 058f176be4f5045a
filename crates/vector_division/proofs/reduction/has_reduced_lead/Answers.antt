use Rattle.std.proofs.Common.{subst, sym}
use Rattle.term_lists.specs.Rings.{variables}
use Rattle.term_lists.specs.Vectors.{IsVectorOver, key_of, sum_of, sums_of}
use Rattle.vector_division.specs.Divisions.{HasReducedLead, IsUncovered}
use Rattle.vector_division.specs.Progress.{HaveVariables}
use Rattle.vector_division.proofs.Looping.{have_variables}
use Rattle.vector_division.proofs.reduction.has_reduced_lead.Goals as goal

pub is_uncovered-requires : goal.is_uncovered-requires
is_uncovered-requires g c =
    let ring = g.F.Frame.over c.args._frame.now in
    let compare = g.F.Frame.compare c.args._frame.now in
    let list = g.L.Vectors.listed c.args.list.now in
    let first = (subst (IsVectorOver ring compare) c.in-Some.ensures.1 c.requires.vector).each.0 in
    subst (λ m. HaveVariables m list) (sym first.weighed.variables)
    (have_variables (variables ring) ring.weights ring.modulus.value (compare (variables ring)) list c.requires.list)

pub returns-in-Some : goal.returns-in-Some
returns-in-Some g c =
    let ring = g.F.Frame.over c.args._frame.now in
    let compare = g.F.Frame.compare c.args._frame.now in
    let list = g.L.Vectors.listed c.args.list.now in
    let key = c.in-Some.lead.key.now in
    let first = (subst (IsVectorOver ring compare) c.in-Some.ensures.1 c.requires.vector).each.0 in
    λ yes. subst (λ v. HasReducedLead (sums_of (variables ring) list) (sum_of (variables ring) v)) (sym c.in-Some.ensures.1)
    (subst (λ m. IsUncovered (sums_of m list) (key_of m key)) first.weighed.variables (c.is_uncovered.ensures yes))
