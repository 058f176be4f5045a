-- Behind the first positions a basis of the marked list is one of the syzygies
use Rattle.std.proofs.Common.{Less, List, Ordering, [], ap, ap₂, arith, get_or, inl, inr, length, refl, subst, sym, ℕ, ◌+◌, ◌-◌, ◌<◌, ◌∙◌, ◌∷◌, ◌≡◌, ◌≤◌, ◌⊎◌}
use Rattle.std.proofs.lemmas.Bool.{cases_lt}
use Rattle.std.specs.Ordering.{ordering_then}
use Rattle.residues.proofs.Congruences.{IsCongruent_nonzero, IsCongruent_of, IsCongruent_sym, IsCongruent_trans}
use Rattle.residues.specs.Residues.{IsCongruent, IsDomain}
use Rattle.monomials.specs.Exponents.{Exponents}
use Rattle.formal_sums.proofs.Combining.{IsMember_itself}
use Rattle.formal_sums.proofs.OfRank.{IsSyzygy_append, IsSyzygy_member, IsSyzygy_same, IsSyzygy_scale}
use Rattle.formal_sums.specs.Combinations.{IsMember, IsSyzygy}
use Rattle.formal_sums.specs.FormalSums.{FormalSum, HasRank, IsSame, Key, coefficient, scale, shift}
use Rattle.orders.proofs.Lexicographic.{nat_cmp-add}
use Rattle.orders.proofs.Positions.{pot_order}
use Rattle.orders.specs.KeyOrders.{pot}
use Rattle.orders.specs.MonomialOrders.{IsMonomialOrder}
use Rattle.bases.proofs.Leading.{IsLead_of_one}
use Rattle.bases.specs.Bases.{IsCovered, IsGroebnerBasis}
use Rattle.bases.specs.Leads.{IsLead, IsMonicLead, IsMonicList, head_key, leads}
use Rattle.division_laws.proofs.Generating.{generated}
use Rattle.syzygy_laws.proofs.Marking.{IsMember_raised, IsSyzygy_of_marked, coefficient-raised, raised_none}
use Rattle.syzygy_laws.proofs.KernelParts.{HasAllBehind, LiesInside}
use Rattle.syzygy_laws.specs.Kernels.{pot_setting}
use Rattle.syzygy_laws.specs.Syzygies.{marked, raised}

-- k, m positions behind
abbrev pub raised_key : {n : ℕ} → ℕ → Key n → Key n
raised_key m k = (m + k.0, k.1)

-- by position first, raised keys compare as the keys do
pub pot-raised :
    {n : ℕ} (monomials : Exponents n → Exponents n → Ordering) (m : ℕ) (k l : Key n)
    → pot monomials (raised_key m k) (raised_key m l) ≡ pot monomials k l
pot-raised monomials m k l = ap (λ o. ordering_then o (monomials k.1 l.1)) (nat_cmp-add m l.0 k.0)

-- a key from position m on is a raised one
pub raised_key-minus : {n : ℕ} (m : ℕ) (k : Key n) → m ≤ k.0 → k ≡ raised_key m (k.0 - m, k.1)
raised_key-minus m k le = ap (λ x. (x, k.1)) (omega arith)

-- the same above the first positions
pub IsSame_lowered : {n p : ℕ} (m : ℕ) (a b : FormalSum n) → IsSame p (raised m a) (raised m b) → IsSame p a b
IsSame_lowered {n} {p} m a b h = record {
  by_key = λ k. IsCongruent_trans (IsCongruent_of p _ _ (sym (coefficient-raised m a k))) (IsCongruent_trans (h.by_key (raised_key m k)) (IsCongruent_of p _ _ (coefficient-raised m b k)));
}

-- the lead of a raised vector is the raised lead
pub IsLead_raised :
    {n : ℕ} (p m r s : ℕ) (ws : List ℕ) (monomials : Exponents n → Exponents n → Ordering) (a : FormalSum n) (k : Key n)
    → IsLead (pot_setting ws p r monomials) a k → IsLead (pot_setting ws p s monomials) (raised m a) (raised_key m k)
IsLead_raised {n} p m r s ws monomials a k lead = record {
  nonzero = λ z. lead.nonzero (IsCongruent_trans (IsCongruent_of p _ _ (sym (coefficient-raised m a k))) z);
  above = λ l lt. above l lt (cases_lt l.0 m);
}
  where
    above :
        (l : Key n)
        → pot monomials (raised_key m k) l ≡ Less → (l.0 < m) ⊎ (m ≤ l.0)
        → IsCongruent p (coefficient (raised m a) l) 0
    above l lt (inl low) = IsCongruent_of p _ 0 (raised_none m a l low)
    above l lt (inr le) =
        let x : Key n = (l.0 - m, l.1) in
        let e : l ≡ raised_key m x = raised_key-minus m l le in
        let d : pot monomials k x ≡ Less = sym (pot-raised monomials m k x) ∙ ap (pot monomials (raised_key m k)) (sym e) ∙ lt in
        subst (λ y. IsCongruent p (coefficient (raised m a) y) 0) (sym e) (IsCongruent_trans (IsCongruent_of p _ _ (coefficient-raised m a x)) (lead.above x d))

-- and a raised monic vector was monic
IsMonicLead_lowered :
    {n : ℕ} (p m r s : ℕ) (ws : List ℕ) (monomials : Exponents n → Exponents n → Ordering) (a : FormalSum n) (k : Key n)
    → IsMonicLead (pot_setting ws p r monomials) (raised m a) (raised_key m k)
    → IsMonicLead (pot_setting ws p s monomials) a k
IsMonicLead_lowered p m r s ws monomials a k lead = record {
  one = IsCongruent_trans (IsCongruent_of p _ _ (sym (coefficient-raised m a k))) lead.one;
  above = λ l lt. IsCongruent_trans (IsCongruent_of p _ _ (sym (coefficient-raised m a l))) (lead.above (raised_key m l) (pot-raised monomials m k l ∙ lt));
}

-- a monic member is not empty, so raising it raises its first key
pub head_key-raised :
    {n : ℕ} (p m r : ℕ) (ws : List ℕ) (monomials : Exponents n → Exponents n → Ordering) (h : FormalSum n) → 1 < p
    → IsMonicLead (pot_setting ws p r monomials) (raised m h) (head_key (raised m h))
    → head_key (raised m h) ≡ raised_key m (head_key h)
head_key-raised p m r ws monomials [] big lead = absurd (IsCongruent_nonzero p 1 (omega arith) big (IsCongruent_sym lead.one))
head_key-raised p m r ws monomials (t ∷ h) big lead = refl

module _ {n : ℕ} (p m : ℕ) (ws : List ℕ) (monomials : Exponents n → Exponents n → Ordering) (F G H : List (FormalSum n)) (domain : IsDomain p)
    (list : IsMonicList (pot_setting ws p (m + length F) monomials) G) where
  -- the leads of lowered members, raised
  pub leads_lowered :
      (i j : ℕ) → j < length G → raised m (get_or H i []) ≡ get_or G j [] → leads G j ≡ raised_key m (leads H i)
  leads_lowered i j hj e =
      ap head_key (sym e)
      ∙ head_key-raised p m (m + length F) ws monomials (get_or H i []) domain.above_one (subst (λ v. IsMonicLead (pot_setting ws p (m + length F) monomials) v (head_key v)) (sym e) (list.monic j hj))

  -- and a lowered member was monic
  pub lowered_monic :
      (i j : ℕ) → j < length G → raised m (get_or H i []) ≡ get_or G j []
      → IsMonicLead (pot_setting ws p (length F) monomials) (get_or H i []) (leads H i)
  lowered_monic i j hj e =
      IsMonicLead_lowered p m (m + length F) (length F) ws monomials (get_or H i []) (leads H i)
      (subst (λ v. IsMonicLead (pot_setting ws p (m + length F) monomials) v (raised_key m (leads H i))) (sym e)
      (subst (IsMonicLead (pot_setting ws p (m + length F) monomials) (get_or G j [])) (leads_lowered i j hj e) (list.monic j hj)))

  -- what leads of H divide, leads of G divide once it is raised
  pub IsCovered_raised :
      LiesInside m G H → (k : Key n)
      → IsCovered (pot_setting ws p (length F) monomials) H k → IsCovered (pot_setting ws p (m + length F) monomials) G (raised_key m k)
  IsCovered_raised inside k (i, hi, lead, (x, q)) = go (inside i hi)
    where
      go : (j : ℕ) × (j < length G) × (raised m (get_or H i []) ≡ get_or G j []) → IsCovered (pot_setting ws p (m + length F) monomials) G (raised_key m k)
      go (j, hj, e) = (j, hj, IsLead_of_one (pot_setting ws p (m + length F) monomials) domain.above_one (list.monic j hj), (x, ap (shift x) (leads_lowered i j hj e) ∙ ap (raised_key m) q))

  -- and back
  pub IsCovered_lowered :
      HasAllBehind m G H → (k : Key n)
      → IsCovered (pot_setting ws p (m + length F) monomials) G (raised_key m k) → IsCovered (pot_setting ws p (length F) monomials) H k
  IsCovered_lowered all k (j, hj, lead, (x, q)) = go (all j hj (let d : (leads G j).0 ≡ m + k.0 = ap (λ y. y.0) q in omega arith))
    where
      go : (i : ℕ) × (i < length H) × (raised m (get_or H i []) ≡ get_or G j []) → IsCovered (pot_setting ws p (length F) monomials) H k
      go (i, hi, e) =
          let l = leads H i in
          let d : shift x (raised_key m l) ≡ raised_key m k = ap (shift x) (sym (leads_lowered i j hj e)) ∙ q in
          let a : m + l.0 ≡ m + k.0 = ap (λ y. y.0) d in
          (i, hi, IsLead_of_one (pot_setting ws p (length F) monomials) domain.above_one (lowered_monic i j hj e), (x, ap₂ (λ y z. (y, z)) (cancel l.0 k.0 a) (ap (λ y. y.1) d)))
        where
          cancel : (a b : ℕ) → m + a ≡ m + b → a ≡ b
          cancel a b e = omega arith

module _ {n : ℕ} (p m : ℕ) (ws : List ℕ) (monomials : Exponents n → Exponents n → Ordering) (F G H : List (FormalSum n)) (domain : IsDomain p)
    (basis : IsGroebnerBasis (pot_setting ws p (m + length F) monomials) (marked m 0 F) G) where
  pos : 0 < p
  pos = let h : 1 < p = domain.above_one in omega arith

  -- the lowered members are syzygies
  pub IsSyzygy_lowered :
      LiesInside m G H → ((i : ℕ) → i < length F → HasRank m (get_or F i [])) → (i : ℕ) → i < length H
      → IsSyzygy p F (get_or H i [])
  IsSyzygy_lowered inside ranks i hi = go (inside i hi)
    where
      h : FormalSum n
      h = get_or H i []

      go : (j : ℕ) × (j < length G) × (raised m h ≡ get_or G j []) → IsSyzygy p F h
      go (j, hj, e) = by (IsSyzygy_of_marked m F (raised m h) ranks (subst (IsMember p (marked m 0 F)) (sym e) (basis.members j hj)) (λ k lt. IsCongruent_of p _ 0 (raised_none m h k lt)))
        where
          by : (a : FormalSum n) × IsSyzygy p F a × IsSame p (raised m a) (raised m h) → IsSyzygy p F h
          by (a, s, q) = IsSyzygy_same pos F a h (IsSame_lowered m a h q) s

  module _ (list : IsMonicList (pot_setting ws p (m + length F) monomials) G) (all : HasAllBehind m G H) where
    -- the lead of a syzygy is divisible by a lead of H
    pub syzygy_covered :
        (a : FormalSum n) (k : Key n)
        → IsSyzygy p F a → IsLead (pot_setting ws p (length F) monomials) a k → IsCovered (pot_setting ws p (length F) monomials) H k
    syzygy_covered a k s lead =
        IsCovered_lowered p m ws monomials F G H domain list all k (basis.covers (raised m a) (raised_key m k) (IsMember_raised m F a s) (IsLead_raised p m (length F) (m + length F) ws monomials a k lead))

    module _ (inside : LiesInside m G H) (ranks : (i : ℕ) → i < length F → HasRank m (get_or F i [])) where
      pub IsGroebnerBasis_lowered : IsGroebnerBasis (pot_setting ws p (length F) monomials) H H
      IsGroebnerBasis_lowered = record {
        members = λ i h. IsMember_itself p H i h;
        covers = λ v k a lead. syzygy_covered v k (IsSyzygy_member pos F H (IsSyzygy_lowered inside ranks) v a) lead;
      }

      monic_lowered : IsMonicList (pot_setting ws p (length F) monomials) H
      monic_lowered = record { monic = λ i h. (both i h (inside i h)).0; ranked = λ i h. (both i h (inside i h)).1 }
        where
          both :
              (i : ℕ)
              → i < length H → (j : ℕ) × (j < length G) × (raised m (get_or H i []) ≡ get_or G j [])
              → IsMonicLead (pot_setting ws p (length F) monomials) (get_or H i []) (leads H i) × ((leads H i).0 < length F)
          both i hi (j, hj, e) =
              let d : leads G j ≡ raised_key m (leads H i) = leads_lowered p m ws monomials F G H domain list i j hj e in
              let low : (leads G j).0 < m + length F = list.ranked j hj in
              let q : (leads G j).0 ≡ m + (leads H i).0 = ap (λ y. y.0) d in (
                lowered_monic p m ws monomials F G H domain list i j hj e,
                below low q,
              )
            where
              below : {a b c : ℕ} → a < m + c → a ≡ m + b → b < c
              below {a} {b} {c} lt e = omega arith

      -- each syzygy is generated
      pub syzygy_generated : IsMonomialOrder monomials → (a : FormalSum n) → IsSyzygy p F a → IsMember p H a
      syzygy_generated order =
          generated (pot_setting ws p (length F) monomials) (record { domain = domain; order = pot_order (length F) monomials order }) H monic_lowered (IsSyzygy p F)
          (λ v c e i h s. IsSyzygy_append F v (scale c e (get_or H i [])) s (IsSyzygy_scale pos F c e (get_or H i []) (IsSyzygy_lowered inside ranks i h)))
          (λ v k s lead. syzygy_covered v k s lead)
