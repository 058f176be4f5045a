-- What a job says to its matrix
use Rattle.std.proofs.Common.{List, [], ap, ap₂, arith, get_or, length, sym, ℕ, ◌<◌, ◌∙◌, ◌∷◌, ◌≡◌}
use Rattle.std.proofs.lemmas.List.{get_or_default, length-map}
use Rattle.residues.proofs.Congruences.{IsCongruent_equal, IsCongruent_of, IsCongruent_sym, IsCongruent_trans}
use Rattle.formal_sums.specs.FormalSums.{Each, FormalSum, Key}
use Rattle.bases.proofs.Leading.{one_not_zero}
use Rattle.bases.proofs.NormalForms.{at_head}
use Rattle.bases.specs.Leads.{head_key, leads}
use Rattle.bases.specs.Settings.{IsLawful, Setting}
use Rattle.bases.specs.Representations.{key_lcm}
use Rattle.term_lists.proofs.Scaling.{Each_at}
use Rattle.row_matrix.specs.Hashes.{no_key}
use Rattle.term_lists.specs.Rings.{variables}
use Rattle.term_lists.specs.Vectors.{IsVector, key_of, sum_of, sums_of}
use Rattle.term_lists.specs.declared.key.Key.{Key as CodeKey}
use Rattle.module_vectors.specs.Trails.{lead_at}
use Rattle.pair_criteria.specs.declared.pair.Pair.{Pair as CodePair}
use Rattle.vector_division.proofs.Members.{sums_at}
use Rattle.basis_steps.specs.Divisions.{IsMonicMember}
use Rattle.basis_steps.specs.States.{vectors}
use Rattle.basis_core.specs.Jobs.{IsJob, JobShown}
use Rattle.basis_core.specs.Members.{IsMemberShown, Shared, MemberShown, members_of, setting_of}
use Rattle.basis_core.specs.Rows.{vectors_in}
use Rattle.s_vectors.proofs.JobTrails.{job_pair}
use Rattle.s_vectors.proofs.Lists.{vectors_are}
use Rattle.s_vectors.proofs.TopParts.{shared_lawful}
use Rattle.symbolic_prep.proofs.Matrices.{Each_index}
use Rattle.symbolic_prep.specs.Plans.{IsMemberPair}
use Rattle.symbolic_prep.specs.Prepared.{IsMonicVector}

monic_vector :
    (n : ℕ) (S : Setting n) (lawful : IsLawful S) (v : List (CodeKey × ℕ))
    → IsVector n S.weights S.modulus S.compare v → IsMonicMember S (sum_of n v) → IsMonicVector n v
monic_vector n S lawful [] h m = absurd (one_not_zero S lawful (IsCongruent_sym m.monic.one))
monic_vector n S lawful (t ∷ v) h m = (
  omega arith,
  IsCongruent_equal S.modulus t.1 1 h.each.0.reduced lawful.domain.above_one
      (IsCongruent_trans (IsCongruent_of S.modulus _ _ (sym (at_head S lawful (key_of n t.0, t.1) (sum_of n v) h.descends))) m.monic.one),
)

pub job_monic :
    (shared : Shared) (ms : List MemberShown)
    → Each (IsMemberShown shared) ms → Each (IsMonicMember (setting_of (variables shared.ring) shared)) (vectors (members_of (variables shared.ring) ms))
    → Each (IsMonicVector (variables shared.ring)) (vectors_in ms)
job_monic shared [] a b = tt
job_monic shared (m ∷ ms) a b = (
  monic_vector (variables shared.ring) (setting_of (variables shared.ring) shared)
      (shared_lawful (variables shared.ring) shared) m.vector a.0.vector.vector b.0,
  job_monic shared ms a.1 b.1,
)

-- a pair of the job
one_pair : (j : JobShown) (i : ℕ) → IsJob (variables j.shared.ring) j → i < length j.pairs → (x : CodePair) → x ≡ get_or j.pairs i x
    → Each (λ (v : List (CodeKey × ℕ)). 0 < length v) (vectors_in j.members)
    → IsMemberPair (variables j.shared.ring) j.shared.ring.weights (vectors_in j.members) x
one_pair j i h lt x is some =
    let n = variables j.shared.ring in
    let list = vectors_in j.members in
    let o = job_pair j i x h lt is in
    let G = vectors (members_of n j.members) in
    let same : G ≡ sums_of n list = vectors_are n j.members in
    let size : length G ≡ length list = ap length same ∙ length-map list (λ (v : List (CodeKey × ℕ)). sum_of n v) in
    let right : x.j < length list = omega (arith, o.real.within) in
    let left : x.i < length list = omega (arith, o.real.ordered) in
    let lead : (k : ℕ) → leads G k ≡ lead_at n list k = λ k. ap (λ (g : List (FormalSum n)). leads g k) same ∙ ap head_key (sums_at n list k) in
    record {
      left = left;
      right = right;
      left_some = Each_at (λ (v : List (CodeKey × ℕ)). 0 < length v) list x.i (get_or list x.i []) some left
          (get_or_default list x.i [] (get_or list x.i []) left);
      right_some = Each_at (λ (v : List (CodeKey × ℕ)). 0 < length v) list x.j (get_or list x.j []) some right
          (get_or_default list x.j [] (get_or list x.j []) right);
      weighed = o.lcm.weighed;
      position = ap (λ (k : Key n). k.0) (sym (lead x.i)) ∙ o.real.position ∙ ap (λ (k : Key n). k.0) (lead x.j);
      lcm = o.lcm.lcm ∙ ap₂ (λ (a b : Key n). key_lcm a b) (lead x.i) (lead x.j);
    }

somes : (n : ℕ) (list : List (List (CodeKey × ℕ))) → Each (IsMonicVector n) list → Each (λ (v : List (CodeKey × ℕ)). 0 < length v) list
somes n [] h = tt
somes n (v ∷ list) h = (h.0.0, somes n list h.1)

pub job_pairs : (j : JobShown) → IsJob (variables j.shared.ring) j → Each (IsMonicVector (variables j.shared.ring)) (vectors_in j.members)
    → Each (IsMemberPair (variables j.shared.ring) j.shared.ring.weights (vectors_in j.members)) j.pairs
job_pairs j h m =
    Each_index (IsMemberPair (variables j.shared.ring) j.shared.ring.weights (vectors_in j.members)) j.pairs none
    (λ i lt. one_pair j i h lt (get_or j.pairs i none) (get_or_default j.pairs i none (get_or j.pairs i none) lt)
    (somes (variables j.shared.ring) (vectors_in j.members) m))
  where
    none : CodePair
    none = record { i = 0; j = 0; lcm = no_key }
