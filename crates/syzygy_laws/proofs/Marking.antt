-- The members of the marked module that vanish at the first m positions are the syzygies
use Rattle.std.proofs.Common.{Bool, List, [], add-zero, ap, ap₂, arith, cond, false, get_or, inl, inr, length, mul-one, refl, subst, suc, sym, true, zero, ℕ, ◌&&◌, ◌*◌, ◌++◌, ◌+◌, ◌-◌, ◌<◌, ◌∙◌, ◌∷◌, ◌≡◌, ◌≤◌, ◌⊎◌}
use Rattle.std.proofs.lemmas.Bool.{cases_lt}
use Rattle.residues.proofs.Congruences.{IsCongruent_of, IsCongruent_trans}
use Rattle.residues.specs.Residues.{IsCongruent}
use Rattle.monomials.proofs.Monomials.{eqb-add, times-unit, times_comm}
use Rattle.monomials.specs.Exponents.{same_exponents, unit}
use Rattle.formal_sums.proofs.Combining.{HasRank_scale}
use Rattle.formal_sums.proofs.OfRank.{HasRank_kept, IsMember_of, IsOfRank_of, IsSame_kept, coefficient_past, combination-kept, kept}
use Rattle.formal_sums.proofs.Sameness.{IsSame_append, IsSame_of, IsSame_refl, IsSame_sym, IsSame_trans, scale-append}
use Rattle.formal_sums.proofs.WeightedSums.{Each_append, coefficient-append, same_key-true}
use Rattle.formal_sums.specs.Combinations.{IsMember, IsSyzygy, combination}
use Rattle.formal_sums.specs.FormalSums.{Each, FormalSum, HasRank, IsSame, Key, coefficient, same_key, scale}
use Rattle.syzygy_laws.specs.Syzygies.{marked, raised}

pub get_or-marked :
    {n : ℕ} (m i j : ℕ) (F : List (FormalSum n)) → j < length F
    → get_or (marked m i F) j [] ≡ get_or F j [] ++ ((m + (i + j), unit n), 1) ∷ []
get_or-marked m i j [] h = absurd (omega arith)
get_or-marked {n = n} m i zero (f ∷ F) h = ap (λ x. f ++ ((m + x, unit n), 1) ∷ []) (sym (add-zero i))
get_or-marked {n = n} m i (suc j) (f ∷ F) h =
    let e : suc i + j ≡ i + suc j = omega arith in
    get_or-marked m (suc i) j F (omega arith) ∙ ap (λ x. get_or F j [] ++ ((m + x, unit n), 1) ∷ []) e

swap_mid : {n : ℕ} (p : ℕ) (a b c d : FormalSum n) → IsSame p ((a ++ b) ++ (c ++ d)) ((a ++ c) ++ (b ++ d))
swap_mid p a b c d = record {
  by_key = λ x. IsCongruent_of p _ _ (omega (arith, coefficient-append (a ++ b) (c ++ d) x, coefficient-append a b x, coefficient-append c d x, coefficient-append (a ++ c) (b ++ d) x, coefficient-append a c x, coefficient-append b d x));
}

-- the combination of the marked list is that of the list, and the cofactors themselves behind it
pub combination-marked :
    {n : ℕ} (p m : ℕ) (F : List (FormalSum n)) (a : FormalSum n) → Each (λ t. t.0.0 < length F) a
    → IsSame p (combination (marked m 0 F) a) (combination F a ++ raised m a)
combination-marked p m F [] h = IsSame_refl p []
combination-marked {n = n} p m F (t ∷ a) h =
    let f = get_or F t.0.0 [] in
    let mark : FormalSum n = ((m + (0 + t.0.0), unit n), 1) ∷ [] in
    let one : scale t.1 t.0.1 (get_or (marked m 0 F) t.0.0 []) ≡ scale t.1 t.0.1 f ++ ((m + t.0.0, t.0.1), t.1) ∷ [] =
    ap (scale t.1 t.0.1) (get_or-marked m 0 t.0.0 F h.0) ∙ scale-append t.1 t.0.1 f mark
    ∙ ap (λ z. scale t.1 t.0.1 f ++ z ∷ []) (ap₂ (λ k c. (k, c)) (ap₂ (λ i e. (i, e)) (omega arith) (times_comm t.0.1 (unit n) ∙ times-unit t.0.1)) (mul-one t.1)) in
    IsSame_trans (IsSame_of p _ _ (ap (λ z. z ++ combination (marked m 0 F) a) one))
    (IsSame_trans (IsSame_append (IsSame_refl p (scale t.1 t.0.1 f ++ ((m + t.0.0, t.0.1), t.1) ∷ [])) (combination-marked p m F a h.1))
    (swap_mid p (scale t.1 t.0.1 f) (((m + t.0.0, t.0.1), t.1) ∷ []) (combination F a) (raised m a)))

pub length-marked : {n : ℕ} (m i : ℕ) (F : List (FormalSum n)) → length (marked m i F) ≡ length F
length-marked m i [] = refl
length-marked m i (f ∷ F) = ap suc (length-marked m (suc i) F)

pub coefficient-raised :
    {n : ℕ} (m : ℕ) (a : FormalSum n) (k : Key n) → coefficient (raised m a) (m + k.0, k.1) ≡ coefficient a k
coefficient-raised m [] k = refl
coefficient-raised m (t ∷ a) k = ap₂ (λ b r. t.1 * cond (b && same_exponents k.1 t.0.1) 1 0 + r) (eqb-add m k.0 t.0.0) (coefficient-raised m a k)

pub raised_none : {n : ℕ} (m : ℕ) (a : FormalSum n) (k : Key n) → k.0 < m → coefficient (raised m a) k ≡ 0
raised_none m [] k lt = refl
raised_none m (t ∷ a) k lt = go (same_key k (m + t.0.0, t.0.1)) refl (raised_none m a k lt)
  where
    go :
        (b : Bool)
        → same_key k (m + t.0.0, t.0.1) ≡ b → coefficient (raised m a) k ≡ 0
        → t.1 * cond b 1 0 + coefficient (raised m a) k ≡ 0
    go true e z = let q : k.0 ≡ m + t.0.0 = ap (λ x. x.0) (same_key-true k (m + t.0.0, t.0.1) e) in absurd (omega arith)
    go false e z = omega arith

-- raising keeps sameness
pub IsSame_raised : {n p : ℕ} (m : ℕ) (a b : FormalSum n) → IsSame p a b → IsSame p (raised m a) (raised m b)
IsSame_raised {n} {p} m a b h = record { by_key = λ k. at k (cases_lt k.0 m) }
  where
    at : (k : Key n) → (k.0 < m) ⊎ (m ≤ k.0) → IsCongruent p (coefficient (raised m a) k) (coefficient (raised m b) k)
    at k (inl lt) = IsCongruent_of p _ _ (raised_none m a k lt ∙ sym (raised_none m b k lt))
    at k (inr le) =
        let l : Key n = (k.0 - m, k.1) in
        let e : k ≡ (m + l.0, l.1) = ap (λ x. (x, k.1)) (omega arith) in
        subst (λ x. IsCongruent p (coefficient (raised m a) x) (coefficient (raised m b) x)) (sym e) (IsCongruent_trans (IsCongruent_of p _ _ (coefficient-raised m a l)) (IsCongruent_trans (h.by_key l) (IsCongruent_of p _ _ (sym (coefficient-raised m b l)))))

-- a syzygy, raised, is in the marked module
pub IsMember_raised :
    {n p : ℕ} (m : ℕ) (F : List (FormalSum n)) (a : FormalSum n) → IsSyzygy p F a
    → IsMember p (marked m 0 F) (raised m a)
IsMember_raised {n} {p} m F a h =
    let b = kept (length F) a in
    let r : HasRank (length F) b = HasRank_kept (length F) a in
    IsMember_of (marked m 0 F) b (raised m a)
    (IsSame_trans (combination-marked p m F b r) (IsSame_append (IsSame_trans (combination-kept p F a) h.vanishes) (IsSame_raised m b a (IsSame_kept (length F) a h.rank))))

pub combination_rank :
    {n : ℕ} (m : ℕ) (F : List (FormalSum n)) (a : FormalSum n) → HasRank (length F) a
    → ((i : ℕ) → i < length F → HasRank m (get_or F i [])) → HasRank m (combination F a)
combination_rank m F [] ranked h = tt
combination_rank m F (t ∷ a) ranked h = Each_append _ _ (combination F a) (HasRank_scale m t.1 t.0.1 (get_or F t.0.0 []) (h t.0.0 ranked.0)) (combination_rank m F a ranked.1 h)

-- a member of the marked module that vanishes below m is a raised syzygy
pub IsSyzygy_of_marked :
    {n p : ℕ} (m : ℕ) (F : List (FormalSum n)) (v : FormalSum n)
    → ((i : ℕ) → i < length F → HasRank m (get_or F i [])) → IsMember p (marked m 0 F) v
    → ((k : Key n) → k.0 < m → IsCongruent p (coefficient v k) 0) → (a : FormalSum n) × IsSyzygy p F a × IsSame p (raised m a) v
IsSyzygy_of_marked {n} {p} m F v low member z =
    (a, record { rank = IsOfRank_of p (length F) a h; vanishes = syzygy }, IsSame_trans (IsSame_sym (IsSame_append syzygy (IsSame_refl p (raised m a)))) whole)
  where
    a : FormalSum n
    a = member.cofactors

    h : HasRank (length F) a
    h = subst (λ d. HasRank d a) (length-marked m 0 F) member.positions

    whole : IsSame p (combination F a ++ raised m a) v
    whole = IsSame_trans (IsSame_sym (combination-marked p m F a h)) member.sums

    at : (k : Key n) → (k.0 < m) ⊎ (m ≤ k.0) → IsCongruent p (coefficient (combination F a) k) 0
    at k (inl lt) =
        let r : coefficient (raised m a) k ≡ 0 = raised_none m a k lt in
        IsCongruent_trans (IsCongruent_of p (coefficient (combination F a) k) (coefficient (combination F a ++ raised m a) k) (omega (arith, coefficient-append (combination F a) (raised m a) k))) (IsCongruent_trans (whole.by_key k) (z k lt))
    at k (inr le) = IsCongruent_of p _ 0 (coefficient_past m (combination F a) (combination_rank m F a h low) k le)

    syzygy : IsSame p (combination F a) []
    syzygy = record { by_key = λ k. at k (cases k) }
      where
        cases : (k : Key n) → (k.0 < m) ⊎ (m ≤ k.0)
        cases k = grind arith
