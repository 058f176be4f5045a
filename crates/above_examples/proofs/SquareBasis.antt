-- x^2, x y and y^2 are their own reduced basis
use Rattle.std.proofs.Common.{Greater, [], arith, get_or, length, refl, suc, zero, ℕ, ◌<◌, ◌∷◌, ◌≡◌}
use Rattle.residues.proofs.Congruences.{IsCongruent_of}
use Rattle.residues.proofs.Primality.{IsPrime_domain, is_table_prime-prime}
use Rattle.residues.specs.Residues.{IsCongruent}
use Rattle.monomials.specs.Exponents.{Exponents}
use Rattle.formal_sums.proofs.OfRank.{IsOfRank_of}
use Rattle.formal_sums.proofs.Sameness.{IsSame_sym}
use Rattle.formal_sums.specs.FormalSums.{IsOfRank, Key, coefficient}
use Rattle.orders.proofs.Graded.{grevlex_order}
use Rattle.orders.proofs.Positions.{pot_order}
use Rattle.orders.specs.KeyOrders.{KeyDivides, pot}
use Rattle.orders.specs.MonomialOrders.{grevlex, lex}
use Rattle.bases.proofs.NormalForms.{IsMonicList_normal}
use Rattle.bases.specs.Leads.{IsMonicList, IsNormal, head_coefficient, head_key, leads}
use Rattle.bases.specs.Representations.{HasLcmRepresentation}
use Rattle.bases.specs.Settings.{IsLawful}
use Rattle.buchberger_criterion.proofs.Criterion.{IsGroebnerBasis_criterion}
use Rattle.buchberger_criterion.proofs.OrderedPairs.{HasLcmRepresentations_ordered}
use Rattle.resolution_laws.specs.Resolutions.{IsCanonicalMap}
use Rattle.above_examples.proofs.Terms.{cancels, each_at, exponents_divide, undivided}
use Rattle.above_examples.specs.Square.{monomial, square_generators, square_setting}

pub plane_lawful : IsLawful square_setting
plane_lawful = record { domain = IsPrime_domain 101 (is_table_prime-prime 101 refl); order = pot_order 1 grevlex (grevlex_order 2) }

pub generators_normal : (i : ℕ) → i < length square_generators → IsNormal square_setting (get_or square_generators i [])
generators_normal = each_at (IsNormal square_setting) [] square_generators (one, (one, (one, tt)))
  where
    one : {k : Key 2} → IsNormal square_setting ((k, 1) ∷ [])
    one = record { descends = (tt, tt); residues = ((omega arith, omega arith), tt) }

pub generators_monic : IsMonicList square_setting square_generators
generators_monic = IsMonicList_normal square_setting plane_lawful square_generators generators_normal
    (each_at (λ v. head_coefficient v ≡ 1) [] square_generators (refl, (refl, (refl, tt))))
    (each_at (λ v. (head_key v).0 < 1) [] square_generators (omega arith, (omega arith, (omega arith, tt))))

-- each S-vector is 0
generators_pairs : (i j : ℕ) → i < j → j < 3 → (leads square_generators i).0 ≡ (leads square_generators j).0 → HasLcmRepresentation square_setting square_generators i j
generators_pairs zero (suc zero) lt h e = record { cofactors = []; below = tt; sums = IsSame_sym (cancels (0, monomial 2 1)) }
generators_pairs zero (suc (suc zero)) lt h e = record { cofactors = []; below = tt; sums = IsSame_sym (cancels (0, monomial 2 2)) }
generators_pairs (suc zero) (suc (suc zero)) lt h e = record { cofactors = []; below = tt; sums = IsSame_sym (cancels (0, monomial 1 2)) }
generators_pairs i zero lt h e = absurd (omega (arith, lt))
generators_pairs i (suc (suc (suc j))) lt h e = absurd (omega (arith, h))
generators_pairs (suc i) (suc zero) lt h e = absurd (omega (arith, lt))
generators_pairs (suc (suc i)) (suc (suc zero)) lt h e = absurd (omega (arith, lt))

generators_apart :
    (i j : ℕ) (k : Key 2) → i < 3 → j < 3 → (i ≡ j → ⊥) → KeyDivides (leads square_generators j) k → IsCongruent 101 (coefficient (get_or square_generators i []) k) 0
generators_apart zero zero k hi hj ne d = absurd (ne refl)
generators_apart zero (suc zero) k hi hj ne d = IsCongruent_of 101 _ 0 (undivided (0, monomial 1 1) k d (((0, monomial 2 0), 1) ∷ []) ((λ e. let r = exponents_divide 0 0 1 1 2 0 e in omega (arith, r.2)), tt))
generators_apart zero (suc (suc zero)) k hi hj ne d = IsCongruent_of 101 _ 0 (undivided (0, monomial 0 2) k d (((0, monomial 2 0), 1) ∷ []) ((λ e. let r = exponents_divide 0 0 0 2 2 0 e in omega (arith, r.2)), tt))
generators_apart (suc zero) zero k hi hj ne d = IsCongruent_of 101 _ 0 (undivided (0, monomial 2 0) k d (((0, monomial 1 1), 1) ∷ []) ((λ e. let r = exponents_divide 0 0 2 0 1 1 e in omega (arith, r.1)), tt))
generators_apart (suc zero) (suc zero) k hi hj ne d = absurd (ne refl)
generators_apart (suc zero) (suc (suc zero)) k hi hj ne d = IsCongruent_of 101 _ 0 (undivided (0, monomial 0 2) k d (((0, monomial 1 1), 1) ∷ []) ((λ e. let r = exponents_divide 0 0 0 2 1 1 e in omega (arith, r.2)), tt))
generators_apart (suc (suc zero)) zero k hi hj ne d = IsCongruent_of 101 _ 0 (undivided (0, monomial 2 0) k d (((0, monomial 0 2), 1) ∷ []) ((λ e. let r = exponents_divide 0 0 2 0 0 2 e in omega (arith, r.1)), tt))
generators_apart (suc (suc zero)) (suc zero) k hi hj ne d = IsCongruent_of 101 _ 0 (undivided (0, monomial 1 1) k d (((0, monomial 0 2), 1) ∷ []) ((λ e. let r = exponents_divide 0 0 1 1 0 2 e in omega (arith, r.1)), tt))
generators_apart (suc (suc zero)) (suc (suc zero)) k hi hj ne d = absurd (ne refl)
generators_apart (suc (suc (suc i))) j k hi hj ne d = absurd (omega (arith, hi))
generators_apart i (suc (suc (suc j))) k hi hj ne d = absurd (omega (arith, hj))

generators_sorted : (i j : ℕ) → i < j → j < 3 → pot lex (leads square_generators i) (leads square_generators j) ≡ Greater
generators_sorted zero (suc zero) lt h = refl
generators_sorted zero (suc (suc zero)) lt h = refl
generators_sorted (suc zero) (suc (suc zero)) lt h = refl
generators_sorted i zero lt h = absurd (omega (arith, lt))
generators_sorted i (suc (suc (suc j))) lt h = absurd (omega (arith, h))
generators_sorted (suc i) (suc zero) lt h = absurd (omega (arith, lt))
generators_sorted (suc (suc i)) (suc (suc zero)) lt h = absurd (omega (arith, lt))

pub generators_map : IsCanonicalMap square_setting square_generators square_generators
generators_map = record {
  columns = omega arith;
  basis = record {
    reduced = record {
      basis = IsGroebnerBasis_criterion square_setting plane_lawful square_generators generators_monic (HasLcmRepresentations_ordered square_setting plane_lawful square_generators generators_pairs);
      normal = generators_normal;
      monic = generators_monic.monic;
      apart = generators_apart;
    };
    descends = generators_sorted;
  };
}

pub generators_ranked : (i : ℕ) → i < length square_generators → IsOfRank 101 1 (get_or square_generators i [])
generators_ranked = each_at (IsOfRank 101 1) [] square_generators (one (monomial 2 0), (one (monomial 1 1), (one (monomial 0 2), tt)))
  where
    one : (m : Exponents 2) → IsOfRank 101 1 (((0, m), 1) ∷ [])
    one m = IsOfRank_of 101 1 (((0, m), 1) ∷ []) (omega arith, tt)
