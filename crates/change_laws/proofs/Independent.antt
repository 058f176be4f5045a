-- Monomials whose normal forms have rows in echelon form are independent modulo the module
use Rattle.std.proofs.Common.{List, [], append-nil, arith, get_or, inl, inr, length, refl, subst, suc, sym, zero, ℕ, ◌*◌, ◌++◌, ◌+◌, ◌-◌, ◌<◌, ◌∙◌, ◌∷◌, ◌≡◌, ◌≤◌, ◌⊎◌}
use Rattle.residues.proofs.Congruences.{IsCongruent_nonzero, IsCongruent_of, IsCongruent_refl, IsCongruent_sym, IsCongruent_trans}
use Rattle.residues.specs.Residues.{IsCongruent, IsDomain}
use Rattle.monomials.specs.Exponents.{Exponents, unit}
use Rattle.formal_sums.proofs.Combining.{IsMember_same}
use Rattle.formal_sums.proofs.Sameness.{IsSame_of, IsSame_sym, IsSame_trans}
use Rattle.formal_sums.specs.Combinations.{IsMember}
use Rattle.formal_sums.specs.FormalSums.{FormalSum, IsSame, Key, coefficient, scale}
use Rattle.bases.specs.Bases.{IsCovered, IsGroebnerBasis}
use Rattle.bases.specs.Leads.{IsLead}
use Rattle.bases.specs.Settings.{IsLawful, Setting}
use Rattle.division_laws.proofs.Remainders.{remainder_zero}
use Rattle.change_laws.proofs.Expansions.{expansion_at, expansion_keys, expansion_linear, expansion_same, expansion_zero}
use Rattle.change_laws.proofs.Modulo.{modulo_append, modulo_member, modulo_same, modulo_scale, modulo_trans}
use Rattle.change_laws.proofs.Pigeons.{pigeons}
use Rattle.change_laws.proofs.Triangles.{rows_sum, rows_sum_zero, triangle_solve, triangle_zero}
use Rattle.change_laws.specs.Combinations.{AreIndependent, IsSameModulo, expansion}
use Rattle.change_laws.specs.Echelons.{AreEchelonRows}
use Rattle.change_laws.specs.Standard.{AreDistinct, Has}

-- distinct monomials that no lead covers are independent
pub uncovered_independent :
    {n : ℕ} (S : Setting n) → IsLawful S → (F G : List (FormalSum n)) → IsGroebnerBasis S F G
    → (B : List (Exponents n)) → AreDistinct B → ((m : Exponents n) → Has B m → IsCovered S G (0, m) → ⊥)
    → AreIndependent S.modulus F B
uncovered_independent {n} S lawful F G basis B apart free f member k lt =
    IsCongruent_trans (IsCongruent_of S.modulus _ _ (sym (expansion_at B f apart k lt)))
    ((remainder_zero S lawful F G basis (expansion B f) member (λ l lead covered. none l lead covered (expansion_keys B f l))).by_key (0, get_or B k (unit n)))
  where
    none : (l : Key n) → IsLead S (expansion B f) l → IsCovered S G l → (coefficient (expansion B f) l ≡ 0) ⊎ ((l.0 ≡ 0) × Has B l.1) → ⊥
    none l lead covered (inl z) = lead.nonzero (IsCongruent_of S.modulus _ 0 z)
    none l lead covered (inr (z, h)) = free l.1 h (subst (λ x. IsCovered S G (x, l.1)) z covered)

module _ {n p : ℕ} (domain : IsDomain p) (F : List (FormalSum n)) (B N : List (Exponents n)) (r c : ℕ → ℕ → ℕ) (q : ℕ → ℕ) (rows : AreEchelonRows p F B N r c q) where
  pos : 0 < p
  pos = let h : 1 < p = domain.above_one in omega arith

  -- the same sums on both sides
  sums_same : (j : ℕ) (g : ℕ → ℕ) → j ≤ length N → IsSameModulo p F (expansion B (rows_sum j g r)) (expansion N (rows_sum j g c))
  sums_same zero g le = modulo_same F _ _ (IsSame_trans (expansion_zero B (λ k. 0) (λ k lt. IsCongruent_refl p 0)) (IsSame_sym (expansion_zero N (λ k. 0) (λ k lt. IsCongruent_refl p 0))))
  sums_same (suc j) g le =
      modulo_trans F (modulo_same F _ _ (expansion_linear (g j) B (rows_sum j g r) (r j) (rows_sum (suc j) g r) (λ k lt. IsCongruent_refl p _)))
      (modulo_trans F (modulo_append F (sums_same j g (omega arith)) (modulo_scale F pos (g j) (unit n) (rows.same j (omega arith))))
      (modulo_same F _ _ (IsSame_sym (expansion_linear (g j) N (rows_sum j g c) (c j) (rows_sum (suc j) g c) (λ k lt. IsCongruent_refl p _)))))

  pub echelon_independent : AreIndependent p F B → AreIndependent p F N
  echelon_independent base f member k lt = all (triangle_solve domain (length N) c rows.diagonal rows.beyond f)
    where
      all : (g : ℕ → ℕ) × ((k : ℕ) → k < length N → IsCongruent p (f k) (rows_sum (length N) g c k)) → IsCongruent p (f k) 0
      all (g, e) = IsCongruent_trans (e k lt) (vanish zeros)
        where
          in_module : IsMember p F (expansion B (rows_sum (length N) g r))
          in_module = modulo_member F pos (modulo_trans F (modulo_same F _ _ (expansion_same N f (rows_sum (length N) g c) e)) (back (sums_same (length N) g (omega arith)))) member
            where
              back : {v w : FormalSum n} → IsSameModulo p F v w → IsSameModulo p F w v
              back h = record { left = h.right; right = h.left; left_member = h.right_member; right_member = h.left_member; sums = IsSame_sym h.sums }

          zeros : (l : ℕ) → l < length N → IsCongruent p (g l) 0
          zeros = triangle_zero (length N) g r q rows.one rows.later (λ l ll. base (rows_sum (length N) g r) in_module (q l) (rows.pivots l ll))

          vanish : ((l : ℕ) → l < length N → IsCongruent p (g l) 0) → IsCongruent p (rows_sum (length N) g c k) 0
          vanish h = rows_sum_zero (length N) g c k (λ l ll. inl (h l ll))

  -- there are not more of them than of B
  pub echelon_few : length N ≤ length B
  echelon_few =
      pigeons (length N) (length B) (λ l x. q l ≡ x) (λ l lt. (q l, rows.pivots l lt, refl))
      (λ l i x li il e d. IsCongruent_nonzero p 1 (omega arith) domain.above_one
      (IsCongruent_trans (IsCongruent_sym (rows.one i il)) (subst (λ y. IsCongruent p (r i y) 0) (e ∙ sym d) (rows.later l i li il))))
