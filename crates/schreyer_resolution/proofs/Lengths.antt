-- A canonical resolution has at most as many maps as there are variables, and one where there is no variable
use Rattle.std.proofs.Common.{List, [], ap₂, arith, get_or, length, refl, suc, sym, zero, ℕ, ◌+◌, ◌<◌, ◌∷◌, ◌≡◌}
use Rattle.residues.proofs.Congruences.{IsCongruent_sym, IsCongruent_trans}
use Rattle.monomials.specs.Exponents.{Exponents, lcm, nil, quotient, unit}
use Rattle.formal_sums.proofs.OfRank.{IsOfRank_member}
use Rattle.formal_sums.specs.FormalSums.{FormalSum, IsOfRank}
use Rattle.orders.specs.KeyOrders.{KeyDivides}
use Rattle.bases.proofs.Leading.{one_not_zero}
use Rattle.bases.specs.Bases.{IsReducedSet}
use Rattle.bases.specs.Leads.{IsMonicList, leads}
use Rattle.bases.specs.Settings.{IsLawful, Setting}
use Rattle.syzygy_laws.specs.Syzygies.{induced_setting}
use Rattle.resolution_laws.proofs.Bound.{IsMonicList_reduced, lead_is_pair, start_length}
use Rattle.resolution_laws.specs.Resolutions.{IsCanonicalStart, IsExact}

-- without variables no two leads stand at one position
one_monomial : (v w : Exponents 0) → v ≡ w
one_monomial nil nil = refl

no_second :
    (S : Setting 0) → IsLawful S → (F G H : List (FormalSum 0)) → IsMonicList S G → IsReducedSet S F G → IsExact S.modulus G H
    → IsReducedSet (induced_setting S G) H H → 0 < length H → ⊥
no_second S lawful F G H list reduced exact next some = by (lead_is_pair S lawful F G list reduced H exact next 0 some)
  where
    by :
        ((j : ℕ) × ((leads H 0).0 < j) × (j < length G) × ((leads G (leads H 0).0).0 ≡ (leads G j).0)
        × ((leads H 0).1 ≡ quotient (lcm (leads G (leads H 0).0).1 (leads G j).1) (leads G (leads H 0).0).1)) → ⊥
    by (j, lt, hj, at, q) =
        let hi : (leads H 0).0 < length G = omega (arith, lt, hj) in
        let divides : KeyDivides (leads G j) (leads G (leads H 0).0) = (unit 0, ap₂ (λ x y. (x, y)) (sym at) (one_monomial _ _)) in
        one_not_zero S lawful (IsCongruent_trans (IsCongruent_sym (reduced.monic (leads H 0).0 hi).one)
        (reduced.apart (leads H 0).0 j (leads G (leads H 0).0) hi hj (λ z. omega (arith, z, lt)) divides))

pub start_few :
    {n : ℕ} (S : Setting n) → IsLawful S → (A : List (FormalSum n)) → ((i : ℕ) → i < length A → IsOfRank S.modulus S.rank (get_or A i []))
    → (count : ℕ) (maps : List (List (FormalSum n))) → IsCanonicalStart S A count maps → length maps < n + 2
start_few S lawful A rank count [] h = omega arith
start_few {n = suc n} S lawful A rank count (G ∷ maps) h = let e = start_length S lawful A rank count (G ∷ maps) (omega arith) h in omega (arith, e)
start_few {n = zero} S lawful A rank zero (G ∷ maps) h = absurd (let e : G ∷ maps ≡ [] = h in cc)
start_few {n = zero} S lawful A rank (suc count) (G ∷ []) h = omega arith
start_few {n = zero} S lawful A rank (suc zero) (G ∷ (H ∷ maps)) h = absurd (let e : H ∷ maps ≡ [] = h.1 in cc)
start_few {n = zero} S lawful A rank (suc (suc count)) (G ∷ (H ∷ maps)) h =
    let ranked = λ (i : ℕ) (q : i < length G). IsOfRank_member {p = S.modulus} S.rank A rank (get_or G i []) (h.0.basis.reduced.basis.members i q) in
    absurd (no_second S lawful A G H (IsMonicList_reduced S lawful A G ranked h.0.basis.reduced) h.0.basis.reduced h.1.0 h.1.1.basis.reduced h.1.1.columns)
