-- Lifts by the normal form of a marked module
use Rattle.std.proofs.Common.{Equal, Greater, Less, List, Ordering, [], ap, ap₂, arith, get_or, inl, inr, length, refl, subst, sym, ℕ, ◌*◌, ◌++◌, ◌+◌, ◌-◌, ◌<◌, ◌∙◌, ◌∷◌, ◌≡◌, ◌≤◌, ◌⊎◌}
use Rattle.std.proofs.lemmas.Bool.{cases_lt}
use Rattle.std.specs.Ordering.{nat_cmp}
use Rattle.residues.proofs.Congruences.{IsCongruent_add, IsCongruent_minus, IsCongruent_of, IsCongruent_refl, IsCongruent_sym, IsCongruent_trans}
use Rattle.residues.specs.Residues.{IsCongruent, IsDomain}
use Rattle.monomials.specs.Exponents.{Exponents, unit}
use Rattle.formal_sums.proofs.Combining.{IsMember_append, IsMember_same, IsMember_scale, IsSame_combination}
use Rattle.formal_sums.proofs.OfRank.{IsMember_of, IsOfRank_of, IsOfRank_same, coefficient_past}
use Rattle.formal_sums.proofs.Sameness.{IsSame_append, IsSame_refl, IsSame_sym, IsSame_trans, coefficient-scale_unit, weighted_sum-minus}
use Rattle.formal_sums.proofs.WeightedSums.{coefficient-append}
use Rattle.formal_sums.specs.Combinations.{IsMember, combination}
use Rattle.formal_sums.specs.FormalSums.{Each, FormalSum, HasRank, IsOfRank, IsSame, Key, coefficient, indicator, scale}
use Rattle.orders.proofs.Lexicographic.{nat_cmp-equal, nat_cmp-greater, nat_cmp-less, then_greater, then_less}
use Rattle.orders.proofs.Positions.{pot_order}
use Rattle.orders.specs.KeyOrders.{Descends, pot}
use Rattle.orders.specs.MonomialOrders.{IsMonomialOrder}
use Rattle.bases.proofs.NormalForms.{head_lead}
use Rattle.bases.specs.Bases.{HasFreeTerms, IsCovered, IsGroebnerBasis}
use Rattle.bases.specs.Leads.{HasReducedResidues, IsLead, IsNormal}
use Rattle.bases.specs.Settings.{IsLawful, Setting}
use Rattle.syzygy_laws.proofs.Kernels.{pot-raised, raised_key}
use Rattle.syzygy_laws.proofs.Marking.{coefficient-raised, combination-marked, combination_rank, length-marked, raised_none}
use Rattle.syzygy_laws.specs.Kernels.{pot_setting}
use Rattle.syzygy_laws.specs.Syzygies.{marked, raised}

-- by position first, what is above stands no later
position_less :
    {n : ℕ} (monomials : Exponents n → Exponents n → Ordering) (k l : Key n) → pot monomials k l ≡ Less
    → l.0 ≤ k.0
position_less monomials k l e = go (then_less (nat_cmp l.0 k.0) (monomials k.1 l.1) e)
  where
    go : (nat_cmp l.0 k.0 ≡ Less) ⊎ ((nat_cmp l.0 k.0 ≡ Equal) × (monomials k.1 l.1 ≡ Less)) → l.0 ≤ k.0
    go (inl h) = let q : l.0 < k.0 = nat_cmp-less l.0 k.0 h in omega arith
    go (inr h) = let q : l.0 ≡ k.0 = nat_cmp-equal l.0 k.0 h.0 in omega arith

position_greater :
    {n : ℕ} (monomials : Exponents n → Exponents n → Ordering) (k l : Key n) → pot monomials k l ≡ Greater
    → k.0 ≤ l.0
position_greater monomials k l e = go (then_greater (nat_cmp l.0 k.0) (monomials k.1 l.1) e)
  where
    go : (nat_cmp l.0 k.0 ≡ Greater) ⊎ ((nat_cmp l.0 k.0 ≡ Equal) × (monomials k.1 l.1 ≡ Greater)) → k.0 ≤ l.0
    go (inl h) = let q : k.0 < l.0 = nat_cmp-greater l.0 k.0 h in omega arith
    go (inr h) = let q : l.0 ≡ k.0 = nat_cmp-equal l.0 k.0 h.0 in omega arith

-- a vector behind the first positions is raised
raised_of : {n : ℕ} (m : ℕ) (w : FormalSum n) → Each (λ t. m ≤ t.0.0) w → (b : FormalSum n) × (w ≡ raised m b)
raised_of m [] h = ([], refl)
raised_of {n} m (t ∷ w) h = go (raised_of m w h.1)
  where
    go : (b : FormalSum n) × (w ≡ raised m b) → (b : FormalSum n) × (t ∷ w ≡ raised m b)
    go (b, e) = (((t.0.0 - m, t.0.1), t.1) ∷ b, ap₂ ◌∷◌ (ap (λ x. ((x, t.0.1), t.1)) (again t.0.0 h.0)) e)
      where
        again : (x : ℕ) → m ≤ x → x ≡ m + (x - m)
        again x le = omega arith

-- what is below a key behind the first positions is behind them
behind :
    {n : ℕ} (monomials : Exponents n → Exponents n → Ordering) (m : ℕ) (k : Key n) (w : FormalSum n) → m ≤ k.0
    → Each (λ u. pot monomials k u.0 ≡ Greater) w → Each (λ t. m ≤ t.0.0) w
behind monomials m k [] le h = tt
behind monomials m k (u ∷ w) le h = ((let q = position_greater monomials k u.0 h.0 in omega (arith, q)), behind monomials m k w le h.1)

module _ {n : ℕ} (p m : ℕ) (ws : List ℕ) (monomials : Exponents n → Exponents n → Ordering) (F G : List (FormalSum n)) (domain : IsDomain p)
    (order : IsMonomialOrder monomials) (basis : IsGroebnerBasis (pot_setting ws p (m + length F) monomials) (marked m 0 F) G) where
  pos : 0 < p
  pos = let h : 1 < p = domain.above_one in omega arith

  lawful : IsLawful (pot_setting ws p (m + length F) monomials)
  lawful = record { domain = domain; order = pot_order (m + length F) monomials order }

  -- what a member of F leaves, plus its cofactors behind it, is a member
  rest_member :
      (v w : FormalSum n)
      → IsMember p (marked m 0 F) (v ++ scale (p - 1) (unit n) w) → (a : FormalSum n) → HasRank (length F) a
      → IsSame p (combination F a) v → IsMember p (marked m 0 F) (w ++ raised m a)
  rest_member v w inside a ra e =
      IsMember_same (marked m 0 F) (u ++ scale (p - 1) (unit n) d) (w ++ raised m a) same
      (IsMember_append (marked m 0 F) u (scale (p - 1) (unit n) d) whole (IsMember_scale pos (marked m 0 F) (p - 1) (unit n) d inside))
    where
      d : FormalSum n
      d = v ++ scale (p - 1) (unit n) w

      u : FormalSum n
      u = v ++ raised m a

      whole : IsMember p (marked m 0 F) u
      whole = IsMember_of (marked m 0 F) a u (IsSame_trans (combination-marked p m F a ra) (IsSame_append e (IsSame_refl p (raised m a))))

      same : IsSame p (u ++ scale (p - 1) (unit n) d) (w ++ raised m a)
      same = record { by_key = at }
        where
          cancel :
              (x y z q s : ℕ)
              → q ≡ x + (p - 1) * y → s ≡ x + z → IsCongruent p (s + (p - 1) * q) (y + z)
          cancel x y z q s eq es =
              IsCongruent_trans (IsCongruent_trans (IsCongruent_of p (s + (p - 1) * q) ((s + (p - 1) * q) + 0) (omega arith)) (IsCongruent_add (IsCongruent_refl p (s + (p - 1) * q)) (IsCongruent_sym (IsCongruent_minus p y pos))))
              (IsCongruent_trans (IsCongruent_of p ((s + (p - 1) * q) + (y + (p - 1) * y)) ((z + y) + (q + (p - 1) * q)) (again x y z q s eq es))
              (IsCongruent_trans (IsCongruent_add (IsCongruent_refl p (z + y)) (IsCongruent_minus p q pos)) (IsCongruent_of p ((z + y) + 0) (y + z) (omega arith))))
            where
              again :
                  (x y z q s : ℕ)
                  → q ≡ x + (p - 1) * y → s ≡ x + z
                  → (s + (p - 1) * q) + (y + (p - 1) * y) ≡ (z + y) + (q + (p - 1) * q)
              again x y z q s eq es = omega arith

          at : (k : Key n) → IsCongruent p (coefficient (u ++ scale (p - 1) (unit n) d) k) (coefficient (w ++ raised m a) k)
          at k =
              IsCongruent_trans (IsCongruent_of p _ _ (weighted_sum-minus p (indicator k) u d))
              (IsCongruent_trans (cancel (coefficient v k) (coefficient w k) (coefficient (raised m a) k) (coefficient d k) (coefficient u k) (weighted_sum-minus p (indicator k) v w) (coefficient-append v (raised m a) k))
              (IsCongruent_of p _ _ (sym (coefficient-append w (raised m a) k))))

  -- the normal form of a member of the module of F stands behind the first positions
  pub normal_form_raised :
      (v w : FormalSum n)
      → IsMember p (marked m 0 F) (v ++ scale (p - 1) (unit n) w)
      → IsNormal (pot_setting ws p (m + length F) monomials) w
      → HasFreeTerms (pot_setting ws p (m + length F) monomials) G w → IsMember p F v
      → (b : FormalSum n) × (w ≡ raised m b)
  normal_form_raised v [] inside normal free member = ([], refl)
  normal_form_raised v (t ∷ w) inside normal free member = go (cases_lt t.0.0 m)
    where
      a : FormalSum n
      a = member.cofactors

      lead : IsLead (pot_setting ws p (m + length F) monomials) (t ∷ w) t.0
      lead = head_lead (pot_setting ws p (m + length F) monomials) lawful t w normal.descends normal.residues

      -- in front of position m nothing is added
      front : (k : Key n) → k.0 < m → coefficient ((t ∷ w) ++ raised m a) k ≡ coefficient (t ∷ w) k
      front k low =
          let z : coefficient (raised m a) k ≡ 0 = raised_none m a k low in
          coefficient-append (t ∷ w) (raised m a) k ∙ (rw z (omega arith))

      stays : t.0.0 < m → IsLead (pot_setting ws p (m + length F) monomials) ((t ∷ w) ++ raised m a) t.0
      stays low = record {
        nonzero = λ z. lead.nonzero (IsCongruent_trans (IsCongruent_of p _ _ (sym (front t.0 low))) z);
        above = λ l lt. IsCongruent_trans (IsCongruent_of p _ _ (front l (let q = position_less monomials t.0 l lt in omega (arith, q)))) (lead.above l lt);
      }

      go : (t.0.0 < m) ⊎ (m ≤ t.0.0) → (b : FormalSum n) × (t ∷ w ≡ raised m b)
      go (inl low) = absurd (lead.nonzero (free t.0 (basis.covers ((t ∷ w) ++ raised m a) t.0 (rest_member v (t ∷ w) inside a member.positions member.sums) (stays low))))
      go (inr le) = raised_of m (t ∷ w) (le, behind monomials m t.0 w le normal.descends.0)

-- minus what stands behind the first positions, lowered, is a list of cofactors
pub lift_cofactors :
    {n : ℕ} (p m : ℕ) (F : List (FormalSum n)) (v b : FormalSum n) → 0 < p
    → ((i : ℕ) → i < length F → HasRank m (get_or F i [])) → HasRank m v
    → IsMember p (marked m 0 F) (v ++ scale (p - 1) (unit n) (raised m b))
    → IsSame p (combination F (scale (p - 1) (unit n) b)) v × IsOfRank p (length F) (scale (p - 1) (unit n) b)
lift_cofactors {n} p m F v b pos ranks rv member = (IsSame_trans (IsSame_combination pos F minus c (IsSame_sym same)) first, IsOfRank_same same (IsOfRank_of p (length F) c rc))
  where
    c : FormalSum n
    c = member.cofactors

    minus : FormalSum n
    minus = scale (p - 1) (unit n) b

    rc : HasRank (length F) c
    rc = subst (λ d. HasRank d c) (length-marked m 0 F) member.positions

    value : (k : Key n) → IsCongruent p (coefficient (combination F c) k + coefficient (raised m c) k) (coefficient v k + (p - 1) * coefficient (raised m b) k)
    value k =
        IsCongruent_trans (IsCongruent_of p _ _ (sym (coefficient-append (combination F c) (raised m c) k)))
        (IsCongruent_trans (IsCongruent_sym ((combination-marked p m F c rc).by_key k))
        (IsCongruent_trans (member.sums.by_key k) (IsCongruent_of p _ _ (weighted_sum-minus p (indicator k) v (raised m b)))))

    past : (k : Key n) → m ≤ k.0 → coefficient (combination F c) k ≡ 0
    past k le = coefficient_past m (combination F c) (combination_rank m F c rc ranks) k le

    first : IsSame p (combination F c) v
    first = record { by_key = λ k. at k (cases_lt k.0 m) }
      where
        at : (k : Key n) → (k.0 < m) ⊎ (m ≤ k.0) → IsCongruent p (coefficient (combination F c) k) (coefficient v k)
        at k (inl low) =
            let x : coefficient (raised m c) k ≡ 0 = raised_none m c k low in
            let y : coefficient (raised m b) k ≡ 0 = raised_none m b k low in
            IsCongruent_trans (IsCongruent_of p (coefficient (combination F c) k) (coefficient (combination F c) k + coefficient (raised m c) k) (rw x (omega arith)))
            (IsCongruent_trans (value k) (IsCongruent_of p (coefficient v k + (p - 1) * coefficient (raised m b) k) (coefficient v k) (rw y (omega arith))))
        at k (inr le) = IsCongruent_of p _ _ (past k le ∙ sym (coefficient_past m v rv k le))

    same : IsSame p c minus
    same = record { by_key = at }
      where
        at : (k : Key n) → IsCongruent p (coefficient c k) (coefficient minus k)
        at k =
            let l : Key n = raised_key m k in
            let le : m ≤ l.0 = omega arith in
            let x : coefficient (combination F c) l ≡ 0 = past l le in
            let y : coefficient v l ≡ 0 = coefficient_past m v rv l le in
            let z : coefficient (raised m c) l ≡ coefficient c k = coefficient-raised m c k in
            let w : coefficient (raised m b) l ≡ coefficient b k = coefficient-raised m b k in
            IsCongruent_trans (IsCongruent_of p (coefficient c k) (coefficient (combination F c) l + coefficient (raised m c) l) (rw (x, z) (omega arith)))
            (IsCongruent_trans (value l)
            (IsCongruent_of p (coefficient v l + (p - 1) * coefficient (raised m b) l) (coefficient minus k) (rw (y, w) (omega arith) ∙ sym (coefficient-scale_unit (p - 1) b k))))

-- in normal form
pub IsNormal_lowered :
    {n : ℕ} (p m r s : ℕ) (ws : List ℕ) (monomials : Exponents n → Exponents n → Ordering) (b : FormalSum n)
    → IsNormal (pot_setting ws p r monomials) (raised m b) → IsNormal (pot_setting ws p s monomials) b
IsNormal_lowered {n} p m r s ws monomials b h = record { descends = descends b h.descends; residues = residues b h.residues }
  where
    under :
        (k : Key n) (b : FormalSum n)
        → Each (λ u. pot monomials (raised_key m k) u.0 ≡ Greater) (raised m b)
        → Each (λ u. pot monomials k u.0 ≡ Greater) b
    under k [] h = tt
    under k (t ∷ b) h = (sym (pot-raised monomials m k t.0) ∙ h.0, under k b h.1)

    descends : (b : FormalSum n) → Descends (pot monomials) (raised m b) → Descends (pot monomials) b
    descends [] h = tt
    descends (t ∷ b) h = (under t.0 b h.0, descends b h.1)

    residues : (b : FormalSum n) → HasReducedResidues (pot_setting ws p r monomials) (raised m b) → HasReducedResidues (pot_setting ws p s monomials) b
    residues [] h = tt
    residues (t ∷ b) h = (h.0, residues b h.1)

-- and without terms that leads of the syzygies divide
pub HasFreeTerms_lowered :
    {n : ℕ} (S T : Setting n) (m : ℕ) (G H : List (FormalSum n)) → S.modulus ≡ T.modulus
    → ((k : Key n) → IsCovered T H k → IsCovered S G (raised_key m k))
    → (b : FormalSum n) → HasFreeTerms S G (raised m b) → HasFreeTerms T H b
HasFreeTerms_lowered S T m G H e up b free k c =
    subst (λ p. IsCongruent p (coefficient b k) 0) e
    (IsCongruent_trans (IsCongruent_of S.modulus _ _ (sym (coefficient-raised m b k))) (free (raised_key m k) (up k c)))
