-- The relations of x^2, x y and y^2, and the resolution
use Rattle.std.proofs.Common.{Greater, [], arith, get_or, length, refl, suc, zero, ℕ, ◌<◌, ◌∷◌, ◌≡◌}
use Rattle.residues.proofs.Congruences.{IsCongruent_of}
use Rattle.residues.specs.Residues.{IsCongruent}
use Rattle.formal_sums.proofs.OfRank.{IsOfRank_of}
use Rattle.formal_sums.specs.Combinations.{IsSyzygy}
use Rattle.formal_sums.specs.FormalSums.{Key, coefficient}
use Rattle.orders.specs.KeyOrders.{KeyDivides, pot}
use Rattle.orders.specs.MonomialOrders.{lex}
use Rattle.bases.proofs.FreeTerms.{IsCovered_monic}
use Rattle.bases.proofs.NormalForms.{IsMonicList_normal}
use Rattle.bases.specs.Bases.{IsCovered}
use Rattle.bases.specs.Leads.{IsMonicList, IsNormal, head_coefficient, head_key, leads}
use Rattle.bases.specs.Settings.{IsLawful, Setting}
use Rattle.syzygy_laws.proofs.SyzygyLeads.{IsLawful_induced}
use Rattle.syzygy_laws.specs.Syzygies.{induced_setting, pair_lead_key}
use Rattle.resolution_laws.proofs.Existence.{basis_of_pairs, exact_of_pairs}
use Rattle.resolution_laws.specs.Resolutions.{IsCanonical, IsCanonicalMap, IsExact}
use Rattle.above_examples.proofs.SquareBasis.{generators_map, generators_monic, plane_lawful}
use Rattle.above_examples.proofs.Terms.{cancels, each_at, exponents_divide, undivided}
use Rattle.above_examples.specs.Square.{monomial, relations, resolution, square_generators, square_setting}

abbrev up : Setting 2
up = induced_setting square_setting square_generators

up_lawful : IsLawful up
up_lawful = IsLawful_induced square_setting plane_lawful square_generators generators_monic

relations_normal : (i : ℕ) → i < length relations → IsNormal up (get_or relations i [])
relations_normal = each_at (IsNormal up) [] relations (
  record { descends = ((refl, tt), (tt, tt)); residues = ((omega arith, omega arith), ((omega arith, omega arith), tt)) },
  (record { descends = ((refl, tt), (tt, tt)); residues = ((omega arith, omega arith), ((omega arith, omega arith), tt)) }, tt),
)

relations_monic : IsMonicList up relations
relations_monic = IsMonicList_normal up up_lawful relations relations_normal
    (each_at (λ v. head_coefficient v ≡ 1) [] relations (refl, (refl, tt)))
    (each_at (λ v. (head_key v).0 < 3) [] relations (omega arith, (omega arith, tt)))

relations_syzygies : (c : ℕ) → c < length relations → IsSyzygy 101 square_generators (get_or relations c [])
relations_syzygies = each_at (IsSyzygy 101 square_generators) [] relations (
  record { rank = IsOfRank_of 101 3 (((0, monomial 0 1), 1) ∷ (((1, monomial 1 0), 100) ∷ [])) (omega arith, (omega arith, tt)); vanishes = cancels (0, monomial 2 1) },
  (record { rank = IsOfRank_of 101 3 (((1, monomial 0 1), 1) ∷ (((2, monomial 1 0), 100) ∷ [])) (omega arith, (omega arith, tt)); vanishes = cancels (0, monomial 1 2) }, tt),
)

-- the leads of the relations cover those of the pairs
relations_pairs : (i j : ℕ) → i < j → j < 3 → (leads square_generators i).0 ≡ (leads square_generators j).0 → IsCovered up relations (pair_lead_key square_generators i j)
relations_pairs zero (suc zero) lt h e = IsCovered_monic up up_lawful relations relations_monic 0 _ (omega arith) (monomial 0 0, refl)
relations_pairs zero (suc (suc zero)) lt h e = IsCovered_monic up up_lawful relations relations_monic 0 _ (omega arith) (monomial 0 1, refl)
relations_pairs (suc zero) (suc (suc zero)) lt h e = IsCovered_monic up up_lawful relations relations_monic 1 _ (omega arith) (monomial 0 0, refl)
relations_pairs i zero lt h e = absurd (omega (arith, lt))
relations_pairs i (suc (suc (suc j))) lt h e = absurd (omega (arith, h))
relations_pairs (suc i) (suc zero) lt h e = absurd (omega (arith, lt))
relations_pairs (suc (suc i)) (suc (suc zero)) lt h e = absurd (omega (arith, lt))

pub relations_exact : IsExact 101 square_generators relations
relations_exact = exact_of_pairs square_setting plane_lawful square_generators generators_monic relations relations_monic relations_syzygies relations_pairs

relations_apart :
    (i j : ℕ) (k : Key 2) → i < 2 → j < 2 → (i ≡ j → ⊥) → KeyDivides (leads relations j) k → IsCongruent 101 (coefficient (get_or relations i []) k) 0
relations_apart zero zero k hi hj ne d = absurd (ne refl)
relations_apart zero (suc zero) k hi hj ne d = IsCongruent_of 101 _ 0 (undivided (1, monomial 0 1) k d (((0, monomial 0 1), 1) ∷ (((1, monomial 1 0), 100) ∷ []))
    ((λ e. let r = exponents_divide 1 0 0 1 0 1 e in omega (arith, r.0)), ((λ e. let r = exponents_divide 1 1 0 1 1 0 e in omega (arith, r.2)), tt)))
relations_apart (suc zero) zero k hi hj ne d = IsCongruent_of 101 _ 0 (undivided (0, monomial 0 1) k d (((1, monomial 0 1), 1) ∷ (((2, monomial 1 0), 100) ∷ []))
    ((λ e. let r = exponents_divide 0 1 0 1 0 1 e in omega (arith, r.0)), ((λ e. let r = exponents_divide 0 2 0 1 1 0 e in omega (arith, r.0)), tt)))
relations_apart (suc zero) (suc zero) k hi hj ne d = absurd (ne refl)
relations_apart (suc (suc i)) j k hi hj ne d = absurd (omega (arith, hi))
relations_apart i (suc (suc j)) k hi hj ne d = absurd (omega (arith, hj))

relations_sorted : (i j : ℕ) → i < j → j < 2 → pot lex (leads relations i) (leads relations j) ≡ Greater
relations_sorted zero (suc zero) lt h = refl
relations_sorted i zero lt h = absurd (omega (arith, lt))
relations_sorted i (suc (suc j)) lt h = absurd (omega (arith, h))
relations_sorted (suc i) (suc zero) lt h = absurd (omega (arith, lt))

pub relations_map : IsCanonicalMap up relations relations
relations_map = record {
  columns = omega arith;
  basis = record {
    reduced = record {
      basis = basis_of_pairs square_setting plane_lawful square_generators generators_monic relations relations_monic relations_syzygies relations_pairs;
      normal = relations_normal;
      monic = relations_monic.monic;
      apart = relations_apart;
    };
    descends = relations_sorted;
  };
}

-- the relations have no relation: their leads stand at two positions
pub relations_last : IsExact 101 relations []
relations_last = exact_of_pairs up up_lawful relations relations_monic [] (record { monic = λ i h. absurd (omega (arith, h)); ranked = λ i h. absurd (omega (arith, h)) }) (λ c h. absurd (omega (arith, h))) none
  where
    none : (i j : ℕ) → i < j → j < 2 → (leads relations i).0 ≡ (leads relations j).0 → IsCovered (induced_setting up relations) [] (pair_lead_key relations i j)
    none zero (suc zero) lt h e = absurd (omega (arith, e))
    none i zero lt h e = absurd (omega (arith, lt))
    none i (suc (suc j)) lt h e = absurd (omega (arith, h))
    none (suc i) (suc zero) lt h e = absurd (omega (arith, lt))

pub square_canonical : IsCanonical square_setting square_generators resolution
square_canonical = (generators_map, (relations_exact, relations_map, relations_last))
