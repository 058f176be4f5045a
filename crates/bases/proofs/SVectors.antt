-- The S-vector of two members is below their leads' least common multiple
use Rattle.std.proofs.Common.{Equal, Greater, Less, List, Ordering, [], arith, get_or, length, refl, subst, sym, ℕ, ◌*◌, ◌+◌, ◌-◌, ◌<◌, ◌≡◌}
use Rattle.residues.proofs.Congruences.{IsCongruent_add, IsCongruent_minus, IsCongruent_of, IsCongruent_trans}
use Rattle.residues.specs.Residues.{IsCongruent}
use Rattle.monomials.specs.Exponents.{lcm, quotient}
use Rattle.formal_sums.proofs.Combining.{IsMember_append, IsMember_scale}
use Rattle.formal_sums.proofs.WeightedSums.{coefficient-append}
use Rattle.formal_sums.specs.Combinations.{IsMember}
use Rattle.formal_sums.specs.FormalSums.{FormalSum, Key, Term, coefficient, scale}
use Rattle.orders.proofs.KeyOrdering.{less_of_greater}
use Rattle.bases.proofs.Below.{shift-quotient, shift-quotient_right}
use Rattle.bases.proofs.Leading.{positive}
use Rattle.bases.proofs.Places.{multiple, multiple_above, multiple_at}
use Rattle.bases.specs.Leads.{IsLead, IsMonicList, leads}
use Rattle.bases.specs.Representations.{key_lcm, place, s_vector}
use Rattle.bases.specs.Settings.{IsLawful, Setting}

-- members of a module have their S-vector in it
pub IsMember_s_vector :
    {n : ℕ} (S : Setting n) → IsLawful S → (F G : List (FormalSum n)) (i j : ℕ)
    → IsMember S.modulus F (get_or G i []) → IsMember S.modulus F (get_or G j [])
    → IsMember S.modulus F (s_vector S.modulus (get_or G i []) (get_or G j []))
IsMember_s_vector S lawful F G i j a b =
    let pos = positive S lawful in
    let l = lcm (leads G i).1 (leads G j).1 in
    IsMember_append F (scale 1 (quotient l (leads G i).1) (get_or G i [])) (scale (S.modulus - 1) (quotient l (leads G j).1) (get_or G j []))
    (IsMember_scale pos F 1 (quotient l (leads G i).1) (get_or G i []) a)
    (IsMember_scale pos F (S.modulus - 1) (quotient l (leads G j).1) (get_or G j []) b)

module _ {n : ℕ} (S : Setting n) (lawful : IsLawful S) (G : List (FormalSum n)) (list : IsMonicList S G) where
  pub s_vector_below :
      (i j : ℕ)
      → i < length G → j < length G → (leads G i).0 ≡ (leads G j).0 → (l : Key n)
      → IsLead S (s_vector S.modulus (get_or G i []) (get_or G j [])) l
      → S.compare l (key_lcm (leads G i) (leads G j)) ≡ Less
  s_vector_below i j hi hj e l lead = lower (S.compare l k) refl
    where
      k : Key n
      k = key_lcm (leads G i) (leads G j)

      t : Term n
      t = ((i, quotient (lcm (leads G i).1 (leads G j).1) (leads G i).1), 1)

      u : Term n
      u = ((j, quotient (lcm (leads G i).1 (leads G j).1) (leads G j).1), S.modulus - 1)

      v : FormalSum n
      v = s_vector S.modulus (get_or G i []) (get_or G j [])

      at_t : place G t ≡ k
      at_t = shift-quotient (leads G i) (leads G j)

      at_u : place G u ≡ k
      at_u = shift-quotient_right (leads G i) (leads G j) e

      value : (x : Key n) → coefficient v x ≡ coefficient (multiple G t) x + coefficient (multiple G u) x
      value x = coefficient-append (multiple G t) (multiple G u) x

      at_k : IsCongruent S.modulus (coefficient v k) 0
      at_k =
          IsCongruent_trans (IsCongruent_of S.modulus _ _ (value k))
          (IsCongruent_trans
          (IsCongruent_add
          (subst (λ x. IsCongruent S.modulus (coefficient (multiple G t) x) 1) at_t (multiple_at S lawful G list t hi))
          (subst (λ x. IsCongruent S.modulus (coefficient (multiple G u) x) (S.modulus - 1)) at_u (multiple_at S lawful G list u hj)))
          (IsCongruent_trans (IsCongruent_of S.modulus (1 + (S.modulus - 1)) (1 + (S.modulus - 1) * 1) (omega arith)) (IsCongruent_minus S.modulus 1 (positive S lawful))))

      over_k : (x : Key n) → S.compare k x ≡ Less → IsCongruent S.modulus (coefficient v x) 0
      over_k x d =
          IsCongruent_trans (IsCongruent_of S.modulus _ _ (value x))
          (IsCongruent_trans
          (IsCongruent_add
          (multiple_above S lawful G list t x hi (subst (λ y. S.compare y x ≡ Less) (sym at_t) d))
          (multiple_above S lawful G list u x hj (subst (λ y. S.compare y x ≡ Less) (sym at_u) d)))
          (IsCongruent_of S.modulus (0 + 0) 0 refl))

      lower : (o : Ordering) → S.compare l k ≡ o → S.compare l k ≡ Less
      lower Less d = d
      lower Equal d = absurd (lead.nonzero (subst (λ x. IsCongruent S.modulus (coefficient v x) 0) (sym (lawful.order.exact l k d)) at_k))
      lower Greater d = absurd (lead.nonzero (over_k l (less_of_greater lawful.order l k d)))
