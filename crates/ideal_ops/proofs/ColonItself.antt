-- A colon that is the ideal itself
use Rattle.std.proofs.Common.{List, [], ap₂, arith, get_or, length, refl, subst, sym, take, ℕ, ◌+◌, ◌<◌, ◌∙◌, ◌∷◌, ◌≡◌}
use Rattle.std.proofs.lemmas.List.{length-map}
use Rattle.monomials.proofs.Monomials.{times-unit}
use Rattle.monomials.specs.Exponents.{Exponents, cons, exponents_of, lcm, nil, times, unit}
use Rattle.formal_sums.proofs.Combining.{Each_map}
use Rattle.formal_sums.proofs.WeightedSums.{Each_append}
use Rattle.formal_sums.specs.Combinations.{IsMember}
use Rattle.formal_sums.specs.FormalSums.{Each, FormalSum, HasRank, IsOfRank, product}
use Rattle.bases.proofs.Leading.{positive}
use Rattle.bases.specs.Leads.{head_key}
use Rattle.bases.specs.Settings.{IsLawful}
use Rattle.operation_laws.proofs.Linear.{Each_at}
use Rattle.operation_laws.proofs.RunFacts.{run_of}
use Rattle.term_lists.proofs.NormalVectors.{vector_normal}
use Rattle.term_lists.specs.Rings.{ring_comparison, setting, variables}
use Rattle.term_lists.specs.Vectors.{AreVectorsOver, HasPositions, IsVectorOver, sum_of, sums_of}
use Rattle.term_lists.specs.declared.key.Key.{Key as CodeKey}
use Rattle.term_lists.specs.declared.ring.Ring.{Ring}
use Rattle.vector_division.proofs.Members.{sums_at}
use Rattle.groebner_iface.specs.Runs.{IsReducedBasisOf}
use Rattle.syzygy_engine.specs.Answers.{IsBasisOfThose}
use Rattle.syzygy_engine.proofs.RunAnswers.{members_of_run, own_basis}
use Rattle.syzygy_engine.proofs.Standing.{Terms, rank_of_positions, ranks_of_positions}
use Rattle.ideal_ops.specs.CoprimeLeads.{HasCoprimeLead}
use Rattle.ideal_ops.proofs.CoprimeLeads.{member_times, nonzerodivisor}
use Rattle.ideal_ops.proofs.Dividing.{member_rank}
use Rattle.ideal_ops.proofs.Shared.{take_next}

-- ---- leads of the code's vectors
lcm-unit : {n : ℕ} (m : Exponents n) → lcm (unit n) m ≡ m
lcm-unit nil = refl
lcm-unit (cons a m) = ap₂ cons (omega arith) (lcm-unit m)

-- zero has the lead 1, which has no variables
pub apart_of_zero : (n : ℕ) (v : Terms) (m : Exponents n) → v ≡ [] → times (head_key (sum_of n v)).1 m ≡ lcm (head_key (sum_of n v)).1 m
apart_of_zero n [] m e = times-unit m ∙ sym (lcm-unit m)
apart_of_zero n (t ∷ v) m e = absurd (cc)

-- the first term's monomial is the lead's
pub apart_of_lead :
    (n : ℕ) (v rest : Terms) (k : CodeKey) (r : ℕ) (m : List ℕ) → v ≡ (k, r) ∷ rest → length k.monomial.exponents ≡ n
    → times (exponents_of (length k.monomial.exponents) k.monomial.exponents) (exponents_of (length k.monomial.exponents) m)
    ≡ lcm (exponents_of (length k.monomial.exponents) k.monomial.exponents) (exponents_of (length k.monomial.exponents) m)
    → times (head_key (sum_of n v)).1 (exponents_of n m) ≡ lcm (head_key (sum_of n v)).1 (exponents_of n m)
apart_of_lead n v rest k r m e count apart =
    subst (λ w. times (head_key (sum_of n w)).1 (exponents_of n m) ≡ lcm (head_key (sum_of n w)).1 (exponents_of n m)) (sym e)
    (subst (λ d. times (exponents_of d k.monomial.exponents) (exponents_of d m) ≡ lcm (exponents_of d k.monomial.exponents) (exponents_of d m)) count apart)

-- the lead of a vector has the ring's variables
pub lead_variables :
    (ring : Ring) (v rest : Terms) (k : CodeKey) (r : ℕ) → v ≡ (k, r) ∷ rest → IsVectorOver ring (ring_comparison ring) v
    → length k.monomial.exponents ≡ variables ring
lead_variables ring v rest k r e h = (subst (λ w. IsVectorOver ring (ring_comparison ring) w) e h).each.0.weighed.variables

-- one vector more
pub apart_next :
    (n : ℕ) (list : List Terms) (i : ℕ) (x : Terms) (m : Exponents n) → i < length list → x ≡ get_or list i x
    → Each (λ g. times (head_key g).1 m ≡ lcm (head_key g).1 m) (sums_of n (take i list))
    → times (head_key (sum_of n x)).1 m ≡ lcm (head_key (sum_of n x)).1 m
    → Each (λ g. times (head_key g).1 m ≡ lcm (head_key g).1 m) (sums_of n (take (i + 1) list))
apart_next n list i x m lt e h a =
    subst (Each (λ g. times (head_key g).1 m ≡ lcm (head_key g).1 m)) (sym (take_next n list i x lt e))
    (Each_append _ (sums_of n (take i list)) (sum_of n x ∷ []) h (a, tt))

-- of a vector that is not 0
pub coprime_of_lead :
    (n : ℕ) (b rest : Terms) (k : CodeKey) (r : ℕ) (G : List (FormalSum n)) → b ≡ (k, r) ∷ rest
    → Each (λ g. times (head_key g).1 (exponents_of n k.monomial.exponents) ≡ lcm (head_key g).1 (exponents_of n k.monomial.exponents)) G
    → HasCoprimeLead (sum_of n b) G
coprime_of_lead n b rest k r G e h = subst (λ w. HasCoprimeLead (sum_of n w) G) (sym e) (record { nonzero = λ q. absurd (cc); coprime = h })

-- ---- the colon
-- the reduced basis of an ideal is that of the colon, where some polynomial of `by` has a lead without a variable in common with each of its leads
pub colon_itself :
    (ring : Ring) (list by answer : List Terms) → IsLawful (setting ring (variables ring) (ring_comparison ring (variables ring)) 1)
    → Each (HasPositions 1) list → AreVectorsOver ring (ring_comparison ring) by → Each (HasPositions 1) by → IsReducedBasisOf ring 1 list answer
    → (i : ℕ) × (i < length by) × HasCoprimeLead (sum_of (variables ring) (get_or by i [])) (sums_of (variables ring) answer)
    → IsBasisOfThose ring 1 (λ v. IsOfRank ring.modulus.value 1 v
    × Each (λ c. IsMember ring.modulus.value (sums_of (variables ring) list) (product v c)) (sums_of (variables ring) by)) answer
colon_itself ring list by answer lawful low vectors by_low run (i, lt, coprime) =
    let n = variables ring in
    let p = ring.modulus.value in
    let S = setting ring n (ring_comparison ring n) 1 in
    let F = sums_of n list in
    let own = members_of_run ring 1 lawful list answer low run in
    record {
      basis = own_basis ring 1 lawful list answer low run;
      members = λ v. (
        λ a. let r = member_rank p 1 (sums_of n answer) (ranks_of_positions n 1 answer run.positions) v a in (
          r,
          Each_map (HasRank 1) (λ c. IsMember p F (product v c)) (sums_of n by) (λ c h. member_times (positive S lawful) F v c r h ((own v).0 a)) (ranks_of_positions n 1 by by_low),
        ),
        λ h. (own v).1
            (nonzerodivisor S lawful refl F (sums_of n answer) (run_of S lawful F (sums_of n answer) (ranks_of_positions n 1 list low) run.basis) (sum_of n (get_or by i []))
            (vector_normal ring (ring_comparison ring) 1 (get_or by i []) (Each_at (λ u. IsVectorOver ring (ring_comparison ring) u) [] by vectors i lt))
            (rank_of_positions n 1 (get_or by i []) (Each_at (HasPositions 1) [] by by_low i lt)) coprime v h.0
            (subst (λ c. IsMember p F (product v c)) (sums_at n by i) (Each_at (λ c. IsMember p F (product v c)) [] (sums_of n by) h.1 i (place n)))),
      );
    }
  where
    place : (n : ℕ) → i < length (sums_of n by)
    place n = let e = length-map by (λ v. sum_of n v) in omega (arith, lt, e)
