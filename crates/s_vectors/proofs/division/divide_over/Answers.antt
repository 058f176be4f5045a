use Rattle.std.proofs.Common.{subst, subst₂, sym}
use Rattle.formal_sums.specs.Combinations.{combination}
use Rattle.formal_sums.specs.FormalSums.{Each}
use Rattle.term_lists.specs.Rings.{ring_comparison, variables}
use Rattle.term_lists.specs.Vectors.{AreVectorsOver, IsVectorOver, StandsFor, key_of, sums_of}
use Rattle.term_lists.specs.declared.ring.Ring.{Ring}
use Rattle.vector_division.specs.Reductions.{cofactors_of}
use Rattle.basis_steps.specs.Criteria.{IsPair}
use Rattle.basis_steps.specs.Divisions.{IsMonicMember}
use Rattle.basis_steps.specs.States.{vectors}
use Rattle.basis_core.proofs.Tracking.{vectors_over}
use Rattle.basis_core.specs.Jobs.{HasLcmOfMembers, index_pair_of}
use Rattle.basis_core.specs.Members.{members_of, setting_of}
use Rattle.basis_core.specs.Rows.{vectors_in}
use Rattle.s_vectors.proofs.Leaving.{first_steps}
use Rattle.s_vectors.specs.Parts.{ArePairParts, PartsStop}
use Rattle.s_vectors.specs.PairProducts.{PairStops}
use Rattle.s_vectors.proofs.division.divide_over.Goals as goal

pub pair_parts-requires-clause-list : goal.pair_parts-requires-clause-list
pair_parts-requires-clause-list c =
    subst (λ (r : Ring). AreVectorsOver r (ring_comparison r) (vectors_in c.args.members.now.list)) (sym c.requires.over)
    (vectors_over c.args.members.now.shared c.args.members.now.list c.kept.ensures)

pub pair_parts-requires-clause-monic : goal.pair_parts-requires-clause-monic
pair_parts-requires-clause-monic c =
    let m = c.args.members.now in
    subst (λ (r : Ring). Each (IsMonicMember (setting_of (variables r) m.shared)) (vectors (members_of (variables r) m.list))) (sym c.requires.over) c.requires.pair.monic

pub pair_parts-requires-clause-real : goal.pair_parts-requires-clause-real
pair_parts-requires-clause-real c =
    subst (λ (r : Ring). IsPair (vectors (members_of (variables r) c.args.members.now.list)) (index_pair_of c.args.pair.now)) (sym c.requires.over) c.requires.pair.real

pub pair_parts-requires-clause-lcm : goal.pair_parts-requires-clause-lcm
pair_parts-requires-clause-lcm c =
    subst (λ (r : Ring). HasLcmOfMembers (variables r) r.weights c.args.members.now.list c.args.pair.now) (sym c.requires.over) c.requires.pair.lcm

pub sum_of_parts-requires-clause-list : goal.sum_of_parts-requires-clause-list
sum_of_parts-requires-clause-list c =
    subst (λ (r : Ring). AreVectorsOver r (ring_comparison r) (vectors_in c.args.members.now.list)) (sym c.requires.over)
    (vectors_over c.args.members.now.shared c.args.members.now.list c.kept.ensures)

pub returns-in-Err-clause-stop : goal.returns-in-Err-clause-stop
returns-in-Err-clause-stop c =
    let m = c.args.members.now in
    let x = c.args.pair.now in
    let n = variables m.shared.ring in
    let two : ArePairParts n m.shared.ring.weights m.shared.ring.modulus.value (vectors_in m.list) x c.in_ok-parts.parts.items =
    subst (λ (r : Ring). ArePairParts (variables r) r.weights r.modulus.value (vectors_in m.list) x c.in_ok-parts.parts.items) c.requires.over c.in_ok-parts.ensures in
    subst (λ (r : Ring). PairStops (variables r) r.weights m.list (key_of (variables r) x.lcm) c.stop_of_sum.result) (sym c.requires.over)
    (c.stop_of_sum.ensures n m.shared.ring.weights m.list (key_of n x.lcm) (first_steps m x c.requires.pair c.in_ok-parts.parts.items two)
    (subst (λ ps. PartsStop (vectors_in m.list) ps c.in-Err.stop) c.deref.ensures.value c.in-Err.ensures.stop))

pub divide_top-requires-clause-top : goal.divide_top-requires-clause-top
divide_top-requires-clause-top c =
    let m = c.args.members.now in
    let x = c.args.pair.now in
    let parts = c.in_ok-parts.parts.items in
    record {
      two = subst (λ (r : Ring). ArePairParts (variables r) r.weights r.modulus.value (vectors_in m.list) x parts) c.requires.over c.in_ok-parts.ensures;
      vector = subst (λ (r : Ring). IsVectorOver r (ring_comparison r) c.in-Ok.vector) c.requires.over c.in-Ok.ensures.vector;
      sum = subst₂ (λ (r : Ring) ps. StandsFor r c.in-Ok.vector (combination (sums_of (variables r) (vectors_in m.list)) (cofactors_of (variables r) ps))) c.requires.over c.deref.ensures.value c.in-Ok.ensures.sum;
    }

pub pair_parts-requires-clause-over : goal.pair_parts-requires-clause-over
pair_parts-requires-clause-over c = c.requires.over

pub divide_top-requires-clause-over : goal.divide_top-requires-clause-over
divide_top-requires-clause-over c = c.requires.over

pub divide_top-requires-clause-pair : goal.divide_top-requires-clause-pair
divide_top-requires-clause-pair c = c.requires.pair
