-- Some members of a list marked, the others not: what the module has behind the first positions
use Rattle.std.proofs.Common.{List, [], append-nil, arith, get_or, inl, inr, length, refl, subst, ℕ, ◌*◌, ◌++◌, ◌+◌, ◌-◌, ◌<◌, ◌∷◌, ◌≡◌, ◌≤◌, ◌⊎◌}
use Rattle.std.proofs.lemmas.Bool.{cases_lt}
use Rattle.std.specs.Prelude.{◌↔◌}
use Rattle.residues.proofs.Congruences.{IsCongruent_add, IsCongruent_minus, IsCongruent_of, IsCongruent_refl, IsCongruent_sym, IsCongruent_trans}
use Rattle.residues.specs.Residues.{IsCongruent}
use Rattle.monomials.specs.Exponents.{unit}
use Rattle.formal_sums.proofs.Combining.{IsMember_append, IsMember_same, IsMember_scale, IsMember_zero}
use Rattle.formal_sums.proofs.OfRank.{HasRank_kept, IsMember_of, IsOfRank_member, IsOfRank_of, IsOfRank_same, IsSame_kept, coefficient_past, combination-kept, kept}
use Rattle.formal_sums.proofs.Sameness.{IsSame_append, IsSame_of, IsSame_refl, IsSame_sym, IsSame_trans, coefficient-scale_unit}
use Rattle.formal_sums.proofs.WeightedSums.{coefficient-append}
use Rattle.formal_sums.specs.Combinations.{IsMember, IsSyzygy, combination}
use Rattle.formal_sums.specs.FormalSums.{Each, FormalSum, HasRank, IsSame, Key, coefficient, scale}
use Rattle.syzygy_laws.proofs.Kernels.{IsSame_lowered}
use Rattle.syzygy_laws.proofs.Marking.{IsSame_raised, combination-marked, combination_rank, length-marked, raised_none}
use Rattle.syzygy_laws.specs.Syzygies.{marked, raised}
use Rattle.operation_laws.proofs.Linear.{Each_at, Each_left, Each_right, IsMember_by, IsMember_each, IsSame_linear}
use Rattle.operation_laws.proofs.More.{picked_rank}
use Rattle.operation_laws.proofs.Quotient.{IsLinear_combination, IsSame_of_cancel, part}
use Rattle.operation_laws.specs.Operations.{IsSyzygyModulo, first_components}

-- minus the first summand, the other is left
IsSame_rest : {n p : ℕ} → 0 < p → (x y : FormalSum n) → IsSame p ((x ++ y) ++ scale (p - 1) (unit n) x) y
IsSame_rest {n} {p} pos x y = record {
  by_key = λ k.
      let a = coefficient x k in
      let b = coefficient y k in
      IsCongruent_trans (IsCongruent_of p _ (b + (a + (p - 1) * a)) (let e = coefficient-append (x ++ y) (scale (p - 1) (unit n) x) k in let d = coefficient-append x y k in let s = coefficient-scale_unit (p - 1) x k in omega (arith, e, d, s)))
      (IsCongruent_trans (IsCongruent_add (IsCongruent_refl p b) (IsCongruent_minus p a pos)) (IsCongruent_of p (b + 0) b (omega arith)));
}

module _ {n p : ℕ} (pos : 0 < p) (q : ℕ) (X Y : List (FormalSum n)) where
  mark_from : (w : FormalSum n) → IsSyzygyModulo p X Y w → IsMember p (marked q 0 X ++ Y) (raised q w)
  mark_from w h =
      let M : List (FormalSum n) = marked q 0 X in
      let b : FormalSum n = kept (length X) w in
      let x : FormalSum n = combination X b in
      let each = IsMember_each p (M ++ Y) in
      IsMember_same (M ++ Y) (combination M b ++ scale (p - 1) (unit n) x) (raised q w)
      (IsSame_trans (IsSame_append (combination-marked p q X b (HasRank_kept (length X) w)) (IsSame_refl p (scale (p - 1) (unit n) x)))
      (IsSame_trans (IsSame_rest pos x (raised q b)) (IsSame_raised q b w (IsSame_kept (length X) w h.0))))
      (IsMember_append (M ++ Y) (combination M b) (scale (p - 1) (unit n) x)
      (IsMember_by pos (M ++ Y) M (Each_left (IsMember p (M ++ Y)) M Y each) (combination M b) (IsMember_of M b (combination M b) (IsSame_refl p (combination M b))))
      (IsMember_scale pos (M ++ Y) (p - 1) (unit n) x
      (IsMember_by pos (M ++ Y) Y (Each_right (IsMember p (M ++ Y)) M Y each) x (IsMember_same Y (combination X w) x (IsSame_sym (combination-kept p X w)) h.1))))

  module _ (xr : Each (HasRank q) X) (yr : Each (HasRank q) Y) where
    mark_to : (w : FormalSum n) → IsMember p (marked q 0 X ++ Y) (raised q w) → IsSyzygyModulo p X Y w
    mark_to w m = by (part pos (marked q 0 X) Y m.cofactors m.positions)
      where
        b : FormalSum n
        b = first_components (length (marked q 0 X)) m.cofactors

        br : HasRank (length X) b
        br = subst (λ d. HasRank d b) (length-marked q 0 X) (picked_rank (length (marked q 0 X)) m.cofactors)

        x : FormalSum n
        x = combination X b

        x_rank : HasRank q x
        x_rank = combination_rank q X b br (Each_at (HasRank q) [] X xr)

        by :
            (y : FormalSum n) × IsMember p Y y × IsSame p (combination (marked q 0 X ++ Y) m.cofactors) (combination (marked q 0 X) b ++ y)
            → IsSyzygyModulo p X Y w
        by (y, inside, sums) = (IsOfRank_same e (IsOfRank_of p (length X) b br), IsMember_same Y x (combination X w) (IsSame_linear pos (combination X) (IsLinear_combination X) b w e) x_inside)
          where
            whole : IsSame p ((x ++ raised q b) ++ y) (raised q w)
            whole = IsSame_trans (IsSame_append (IsSame_sym (combination-marked p q X b br)) (IsSame_refl p y)) (IsSame_trans (IsSame_sym sums) m.sums)

            parts : (k : Key n) → coefficient ((x ++ raised q b) ++ y) k ≡ coefficient x k + coefficient (raised q b) k + coefficient y k
            parts k = let e = coefficient-append (x ++ raised q b) y k in let d = coefficient-append x (raised q b) k in omega (arith, e, d)

            at : (k : Key n) → (k.0 < q) ⊎ (q ≤ k.0) → IsCongruent p (coefficient x k + coefficient y k) 0
            at k (inl lt) =
                let z : coefficient (raised q b) k ≡ 0 = raised_none q b k lt in
                IsCongruent_trans (IsCongruent_of p _ _ (let d = parts k in omega (arith, d, z))) (IsCongruent_trans (whole.by_key k) (IsCongruent_of p _ 0 (raised_none q w k lt)))
            at k (inr le) =
                let z : coefficient x k ≡ 0 = coefficient_past q x x_rank k le in
                IsCongruent_trans (IsCongruent_of p _ (coefficient y k) (omega (arith, z)))
                ((IsOfRank_member q Y (λ i lt. IsOfRank_of p q (get_or Y i []) (Each_at (HasRank q) [] Y yr i lt)) y inside).past k le)

            cancels : IsSame p (x ++ y) []
            cancels = record { by_key = λ k. IsCongruent_trans (IsCongruent_of p _ _ (coefficient-append x y k)) (at k (cases_lt k.0 q)) }

            x_inside : IsMember p Y x
            x_inside = IsMember_same Y (scale (p - 1) (unit n) y) x (IsSame_of_cancel pos x y cancels) (IsMember_scale pos Y (p - 1) (unit n) y inside)

            e : IsSame p b w
            e = IsSame_lowered q b w (record {
              by_key = λ k.
                  IsCongruent_trans (IsCongruent_trans (IsCongruent_of p _ (coefficient (raised q b) k + 0) (omega arith))
                  (IsCongruent_trans (IsCongruent_add (IsCongruent_refl p (coefficient (raised q b) k)) (IsCongruent_sym (at k (cases_lt k.0 q)))) (IsCongruent_of p _ _ (let d = parts k in omega (arith, d)))))
                  (whole.by_key k);
            })

    -- what the module of the list has behind the first q positions: the syzygies of X modulo Y
    pub mark_exact : (w : FormalSum n) → IsMember p (marked q 0 X ++ Y) (raised q w) ↔ IsSyzygyModulo p X Y w
    mark_exact w = (mark_to w, mark_from w)

-- with all of the list marked: the syzygies
pub syzygies_exact : {n p : ℕ} → 0 < p → (q : ℕ) (F : List (FormalSum n)) → Each (HasRank q) F → (a : FormalSum n) → IsMember p (marked q 0 F) (raised q a) ↔ IsSyzygy p F a
syzygies_exact {n} {p} pos q F ranks a =
    let e = subst (λ L. IsMember p L (raised q a) ↔ IsSyzygyModulo p F [] a) (append-nil (marked q 0 F)) (mark_exact pos q F [] ranks tt a) in (
      λ h. let r = e.0 h in record { rank = r.0; vanishes = IsSame_trans (IsSame_sym r.1.sums) (IsSame_of p _ [] (none r.1.cofactors r.1.positions)) },
      λ s. e.1 (s.rank, IsMember_same [] [] (combination F a) (IsSame_sym s.vanishes) (IsMember_zero p [])),
    )
  where
    none : (c : FormalSum n) → HasRank 0 c → combination [] c ≡ []
    none [] h = refl
    none (t ∷ c) h = let r = h.0 in absurd (omega (arith, r))
