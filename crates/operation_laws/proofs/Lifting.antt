-- Lifts: one for each vector, found by the remainder of a division by a basis of the marked list
use Rattle.std.proofs.Common.{Less, List, Ordering, [], ap, arith, get_or, inl, inr, length, subst, sym, ℕ, ◌*◌, ◌++◌, ◌+◌, ◌-◌, ◌<◌, ◌∙◌, ◌≡◌, ◌≤◌, ◌⊎◌}
use Rattle.std.proofs.lemmas.Bool.Decides.{nat_tests}
use Rattle.std.proofs.lemmas.Bool.{cases_lt}
use Rattle.std.specs.Ordering.{nat_cmp, ordering_then}
use Rattle.residues.proofs.Congruences.{IsCongruent_add, IsCongruent_cancel, IsCongruent_minus, IsCongruent_multiply, IsCongruent_of, IsCongruent_refl, IsCongruent_sym, IsCongruent_trans}
use Rattle.residues.specs.Residues.{IsCongruent}
use Rattle.monomials.specs.Exponents.{Exponents, unit}
use Rattle.formal_sums.proofs.Combining.{IsMember_append, IsMember_same, IsMember_scale}
use Rattle.formal_sums.proofs.OfRank.{IsMember_of, IsOfRank_append, IsOfRank_member, IsOfRank_of, IsOfRank_same, IsOfRank_scale, coefficient_past}
use Rattle.formal_sums.proofs.Sameness.{IsSame_append, IsSame_of, IsSame_refl, IsSame_scale, IsSame_sym, IsSame_trans, coefficient-scale_unit, weighted_sum-minus}
use Rattle.formal_sums.proofs.Combining.{IsSame_combination, combination-append, combination-scale}
use Rattle.formal_sums.proofs.WeightedSums.{coefficient-append}
use Rattle.formal_sums.specs.Combinations.{IsMember, IsSyzygy, combination}
use Rattle.formal_sums.specs.FormalSums.{Each, FormalSum, HasRank, IsOfRank, IsSame, Key, coefficient, indicator, scale}
use Rattle.orders.specs.MonomialOrders.{IsMonomialOrder}
use Rattle.bases.proofs.Leading.{positive}
use Rattle.bases.proofs.Normalizing.{HasLead, has_lead}
use Rattle.bases.specs.Bases.{HasFreeTerms, IsCovered, IsGroebnerBasis, IsReducedBasis}
use Rattle.bases.specs.Leads.{IsLead}
use Rattle.bases.specs.Settings.{IsLawful, Setting}
use Rattle.division_laws.proofs.Remainders.{remainder_unique}
use Rattle.syzygy_laws.proofs.Marking.{coefficient-raised, combination-marked, combination_rank, length-marked, raised_none}
use Rattle.syzygy_laws.specs.Syzygies.{marked, raised}
use Rattle.operation_laws.proofs.Colon.{IsLinear_lowered, lowered-scale, lowered_raised}
use Rattle.operation_laws.proofs.Linear.{Each_at, IsSame_linear}
use Rattle.operation_laws.proofs.Parts.{covered_raised}
use Rattle.operation_laws.proofs.Dividing.{remainder_exists}
use Rattle.operation_laws.proofs.Plain.{marked_run}
use Rattle.operation_laws.proofs.Running.{lawful_position, run_generates}
use Rattle.operation_laws.specs.Lifts.{IsLift}
use Rattle.syzygy_laws.specs.Kernels.{kernel_of, lowered, pot_setting}

-- the difference of two lifts is a syzygy that no key of the basis covers
pub lift_one :
    {n : ℕ} (S : Setting n) → IsLawful S → (F K : List (FormalSum n)) (v a b : FormalSum n) → IsGroebnerBasis S K K
    → ((c : FormalSum n) → IsSyzygy S.modulus F c → IsMember S.modulus K c)
    → IsLift S F K v a → IsLift S F K v b → IsSame S.modulus a b
lift_one {n} S lawful F K v a b basis all x y =
    remainder_unique S lawful K K basis a b (all (a ++ scale (S.modulus - 1) (unit n) b) syzygy) x.free y.free
  where
    p : ℕ
    p = S.modulus

    syzygy : IsSyzygy p F (a ++ scale (p - 1) (unit n) b)
    syzygy = record {
      rank = IsOfRank_append a (scale (p - 1) (unit n) b) x.rank (IsOfRank_scale (p - 1) (unit n) b y.rank);
      vanishes =
          IsSame_trans (IsSame_of p _ _ (combination-append F a (scale (p - 1) (unit n) b) ∙ ap (λ z. combination F a ++ z) (combination-scale F (p - 1) (unit n) b)))
          (IsSame_trans (IsSame_append x.sums (IsSame_scale (positive S lawful) (p - 1) (unit n) y.sums))
          (record { by_key = λ k. IsCongruent_trans (IsCongruent_of p _ _ (weighted_sum-minus p (indicator k) v v)) (IsCongruent_minus p (coefficient v k) (positive S lawful)) }));
    }

pub IsLift_same :
    {n : ℕ} (S : Setting n) → 0 < S.modulus → (F K : List (FormalSum n)) (v a b : FormalSum n)
    → IsSame S.modulus a b → IsLift S F K v a → IsLift S F K v b
IsLift_same S pos F K v a b e h = record {
  rank = IsOfRank_same e h.rank;
  sums = IsSame_trans (IsSame_sym (IsSame_combination pos F a b e)) h.sums;
  free = λ k c. IsCongruent_trans (IsCongruent_sym (e.by_key k)) (h.free k c);
}

-- minus minus y is y
twice : (p y : ℕ) → 0 < p → IsCongruent p ((p - 1) * ((p - 1) * y)) y
twice p y pos =
    let x = (p - 1) * y in
    IsCongruent_cancel pos x (IsCongruent_trans (IsCongruent_minus p x pos) (IsCongruent_sym (IsCongruent_trans (IsCongruent_of p (x + y) (y + x) (omega arith)) (IsCongruent_minus p y pos))))

rest_congruent : (p x r y : ℕ) → 0 < p → IsCongruent p ((x + r) + (p - 1) * (x + (p - 1) * y)) (y + r)
rest_congruent p x r y pos =
    let q = p - 1 in
    IsCongruent_trans (IsCongruent_of p _ ((x + q * x) + (r + q * (q * y))) (omega arith))
    (IsCongruent_trans (IsCongruent_add (IsCongruent_minus p x pos) (IsCongruent_add (IsCongruent_refl p r) (twice p y pos))) (IsCongruent_of p (0 + (r + y)) (y + r) (omega arith)))

minus_zero : (p x y : ℕ) → IsCongruent p y 0 → IsCongruent p (x + (p - 1) * y) x
minus_zero p x y h = IsCongruent_trans (IsCongruent_add (IsCongruent_refl p x) (IsCongruent_multiply (IsCongruent_refl p (p - 1)) h)) (IsCongruent_of p (x + (p - 1) * 0) x (omega arith))

module _ {n : ℕ} (S : Setting n) (monomials : Exponents n → Exponents n → Ordering) (q : ℕ) (F G : List (FormalSum n)) (v w : FormalSum n) (lawful : IsLawful S) (o : IsMonomialOrder monomials) (f_ranks : Each (HasRank q) F) (v_rank : IsOfRank S.modulus q v)
    (reduced : IsReducedBasis (pot_setting S.weights S.modulus (q + length F) monomials) (marked q 0 F) G)
    (member : IsMember S.modulus (marked q 0 F) (v ++ scale (S.modulus - 1) (unit n) w))
    (free : HasFreeTerms (pot_setting S.weights S.modulus (q + length F) monomials) G w) where
  -- the cofactors of v - w
  cof_rank : HasRank (length F) member.cofactors
  cof_rank = subst (λ d. HasRank d member.cofactors) (length-marked q 0 F) member.positions

  value : (k : Key n) → IsCongruent S.modulus (coefficient (combination F member.cofactors) k + coefficient (raised q member.cofactors) k) (coefficient v k + (S.modulus - 1) * coefficient w k)
  value k =
      IsCongruent_trans (IsCongruent_of S.modulus _ _ (sym (coefficient-append (combination F member.cofactors) (raised q member.cofactors) k)))
      (IsCongruent_trans (IsCongruent_sym ((combination-marked S.modulus q F member.cofactors cof_rank).by_key k)) (IsCongruent_trans (member.sums.by_key k) (IsCongruent_of S.modulus _ _ (weighted_sum-minus S.modulus (indicator k) v w))))

  past : (k : Key n) → q ≤ k.0 → coefficient (combination F member.cofactors) k ≡ 0
  past k le = coefficient_past q (combination F member.cofactors) (combination_rank q F member.cofactors cof_rank (Each_at (HasRank q) [] F f_ranks)) k le

  -- behind the first positions the cofactors are minus w
  behind : (k : Key n) → q ≤ k.0 → IsCongruent S.modulus (coefficient (raised q member.cofactors) k) ((S.modulus - 1) * coefficient w k)
  behind k le =
      let z : coefficient (combination F member.cofactors) k ≡ 0 = past k le in
      IsCongruent_trans (IsCongruent_of S.modulus _ (coefficient (combination F member.cofactors) k + coefficient (raised q member.cofactors) k) (omega (arith, z)))
      (IsCongruent_trans (value k) (IsCongruent_trans (IsCongruent_add (v_rank.past k le) (IsCongruent_refl S.modulus ((S.modulus - 1) * coefficient w k))) (IsCongruent_of S.modulus (0 + (S.modulus - 1) * coefficient w k) ((S.modulus - 1) * coefficient w k) (omega arith))))

  -- where w vanishes at the first positions, the cofactors combine to v
  combines : ((k : Key n) → k.0 < q → IsCongruent S.modulus (coefficient w k) 0) → IsSame S.modulus (combination F member.cofactors) v
  combines none = record { by_key = λ k. at k (cases_lt k.0 q) }
    where
      at : (k : Key n) → (k.0 < q) ⊎ (q ≤ k.0) → IsCongruent S.modulus (coefficient (combination F member.cofactors) k) (coefficient v k)
      at k (inl lt) =
          let z : coefficient (raised q member.cofactors) k ≡ 0 = raised_none q member.cofactors k lt in
          IsCongruent_trans (IsCongruent_of S.modulus _ (coefficient (combination F member.cofactors) k + coefficient (raised q member.cofactors) k) (omega (arith, z)))
          (IsCongruent_trans (value k) (minus_zero S.modulus (coefficient v k) (coefficient w k) (none k lt)))
      at k (inr le) = IsCongruent_trans (IsCongruent_of S.modulus _ 0 (past k le)) (IsCongruent_sym (v_rank.past k le))

  -- v is in the module where the remainder vanishes at the first positions
  pub lift_member : ((k : Key n) → k.0 < q → IsCongruent S.modulus (coefficient w k) 0) → IsMember S.modulus F v
  lift_member none = IsMember_of F member.cofactors v (combines none)

  -- and there alone
  pub lift_vanishes : IsMember S.modulus F v → (k : Key n) → k.0 < q → IsCongruent S.modulus (coefficient w k) 0
  lift_vanishes m k lt = go (has_lead T (lawful_position monomials (q + length F) S o lawful) u)
    where
      T : Setting n
      T = pot_setting S.weights S.modulus (q + length F) monomials

      b : FormalSum n
      b = m.cofactors

      u : FormalSum n
      u = w ++ raised q b

      both : IsMember S.modulus (marked q 0 F) u
      both =
          IsMember_same (marked q 0 F) (combination (marked q 0 F) b ++ scale (S.modulus - 1) (unit n) (v ++ scale (S.modulus - 1) (unit n) w)) u
          (record {
            by_key = λ x.
                IsCongruent_trans (IsCongruent_of S.modulus _ _ (weighted_sum-minus S.modulus (indicator x) (combination (marked q 0 F) b) (v ++ scale (S.modulus - 1) (unit n) w)))
                (IsCongruent_trans (IsCongruent_add (IsCongruent_trans ((combination-marked S.modulus q F b m.positions).by_key x) (IsCongruent_trans (IsCongruent_of S.modulus _ _ (coefficient-append (combination F b) (raised q b) x)) (IsCongruent_add (m.sums.by_key x) (IsCongruent_refl S.modulus (coefficient (raised q b) x)))))
                (IsCongruent_multiply (IsCongruent_refl S.modulus (S.modulus - 1)) (IsCongruent_of S.modulus _ _ (weighted_sum-minus S.modulus (indicator x) v w))))
                (IsCongruent_trans (rest_congruent S.modulus (coefficient v x) (coefficient (raised q b) x) (coefficient w x) (positive S lawful)) (IsCongruent_of S.modulus _ _ (sym (coefficient-append w (raised q b) x)))));
          })
          (IsMember_append (marked q 0 F) (combination (marked q 0 F) b) _ (IsMember_of (marked q 0 F) b (combination (marked q 0 F) b) (IsSame_refl S.modulus _)) (IsMember_scale (positive S lawful) (marked q 0 F) (S.modulus - 1) (unit n) (v ++ scale (S.modulus - 1) (unit n) w) member))

      same_at : (x : Key n) → x.0 < q → coefficient u x ≡ coefficient w x
      same_at x h = let z : coefficient (raised q b) x ≡ 0 = raised_none q b x h in let e = coefficient-append w (raised q b) x in omega (arith, e, z)

      from : IsCongruent S.modulus (coefficient u k) 0 → IsCongruent S.modulus (coefficient w k) 0
      from z = IsCongruent_trans (IsCongruent_of S.modulus _ _ (sym (same_at k lt))) z

      less : (a c : ℕ) → a < c → nat_cmp a c ≡ Less
      less a c h = grind (arith, nat_tests)

      at : (l : Key n) → IsLead T u l → (l.0 < q) ⊎ (q ≤ l.0) → IsCongruent S.modulus (coefficient w k) 0
      at l lead (inl h) = absurd (lead.nonzero (IsCongruent_trans (IsCongruent_of S.modulus _ _ (same_at l h)) (free l (reduced.reduced.basis.covers u l both lead))))
      at l lead (inr h) = from (lead.above k (ap (λ x. ordering_then x (monomials l.1 k.1)) (less k.0 l.0 (omega (arith, lt, h)))))

      go : HasLead T u → IsCongruent S.modulus (coefficient w k) 0
      go (inl z) = from (z.by_key k)
      go (inr (l, lead)) = at l lead (cases_lt l.0 q)

  -- the lift is minus what stands behind the first positions
  pub lift_found : ((k : Key n) → k.0 < q → IsCongruent S.modulus (coefficient w k) 0) → IsLift (pot_setting S.weights S.modulus (length F) monomials) F (kernel_of q G) v (scale (S.modulus - 1) (unit n) (lowered q w))
  lift_found none =
      IsLift_same (pot_setting S.weights S.modulus (length F) monomials) (positive S lawful) F (kernel_of q G) v member.cofactors (scale (S.modulus - 1) (unit n) (lowered q w)) same
      (record { rank = IsOfRank_of S.modulus (length F) member.cofactors cof_rank; sums = combines none; free = uncovered })
    where
      minus : (k : Key n) → (k.0 < q) ⊎ (q ≤ k.0) → IsCongruent S.modulus (coefficient (raised q member.cofactors) k) (coefficient (scale (S.modulus - 1) (unit n) w) k)
      minus k (inl lt) =
          IsCongruent_trans (IsCongruent_of S.modulus _ 0 (raised_none q member.cofactors k lt))
          (IsCongruent_sym (IsCongruent_trans (IsCongruent_of S.modulus _ (0 + (S.modulus - 1) * coefficient w k) (coefficient-scale_unit (S.modulus - 1) w k ∙ omega arith)) (minus_zero S.modulus 0 (coefficient w k) (none k lt))))
      minus k (inr le) = IsCongruent_trans (behind k le) (IsCongruent_of S.modulus _ _ (sym (coefficient-scale_unit (S.modulus - 1) w k)))

      same : IsSame S.modulus member.cofactors (scale (S.modulus - 1) (unit n) (lowered q w))
      same =
          IsSame_trans (IsSame_of S.modulus _ _ (sym (lowered_raised q member.cofactors)))
          (IsSame_trans (IsSame_linear (positive S lawful) (lowered q) (IsLinear_lowered q) (raised q member.cofactors) (scale (S.modulus - 1) (unit n) w) (record { by_key = λ k. minus k (cases_lt k.0 q) }))
          (IsSame_of S.modulus _ _ (lowered-scale q (S.modulus - 1) (unit n) w)))

      uncovered : (k : Key n) → IsCovered (pot_setting S.weights S.modulus (length F) monomials) (kernel_of q G) k → IsCongruent S.modulus (coefficient member.cofactors k) 0
      uncovered k c =
          IsCongruent_trans (IsCongruent_of S.modulus _ _ (sym (coefficient-raised q member.cofactors k)))
          (IsCongruent_trans (behind (q + k.0, k.1) (omega arith))
          (IsCongruent_trans (IsCongruent_of S.modulus _ (0 + (S.modulus - 1) * coefficient w (q + k.0, k.1)) (omega arith)) (minus_zero S.modulus 0 (coefficient w (q + k.0, k.1)) (free (q + k.0, k.1) (covered_raised S monomials q F G lawful o f_ranks reduced k c)))))

-- each member of the module has a lift
pub lift_exists :
    {n : ℕ} (S : Setting n) (monomials : Exponents n → Exponents n → Ordering) (q : ℕ) (F G : List (FormalSum n)) (v : FormalSum n) → IsLawful S → IsMonomialOrder monomials → Each (HasRank q) F
    → IsReducedBasis (pot_setting S.weights S.modulus (q + length F) monomials) (marked q 0 F) G → IsMember S.modulus F v → (a : FormalSum n) × IsLift (pot_setting S.weights S.modulus (length F) monomials) F (kernel_of q G) v a
lift_exists {n} S monomials q F G v lawful o r reduced m =
    let T = pot_setting S.weights S.modulus (q + length F) monomials in
    let l = lawful_position monomials (q + length F) S o lawful in
    let run = marked_run S monomials q F G lawful o r reduced in
    let v_rank = IsOfRank_member q F (λ i lt. IsOfRank_of S.modulus q (get_or F i []) (Each_at (HasRank q) [] F r i lt)) v m in
    let rest = remainder_exists T l G run.list (λ i lt. IsOfRank_of S.modulus (q + length F) (get_or G i []) (Each_at (HasRank (q + length F)) [] G run.ranks i lt)) v (record { past = λ k le. v_rank.past k (omega (arith, le)) }) in
    let member = (run_generates T l (marked q 0 F) G run (v ++ scale (S.modulus - 1) (unit n) rest.0)).0 rest.1.member in
    let vanishes = lift_vanishes S monomials q F G v rest.0 lawful o r v_rank reduced member rest.1.free m in
    (scale (S.modulus - 1) (unit n) (lowered q rest.0), lift_found S monomials q F G v rest.0 lawful o r v_rank reduced member rest.1.free vanishes)
