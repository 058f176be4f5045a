-- At one position the two orders of keys are one
use Rattle.std.proofs.Common.{Equal, Greater, Less, List, Ordering, [], ap, ap₂, arith, get_or, inl, inr, length, refl, sym, ℕ, ◌<◌, ◌∙◌, ◌∷◌, ◌≡◌, ◌≤◌, ◌⊎◌}
use Rattle.std.proofs.lemmas.Bool.{cases_lt}
use Rattle.std.specs.Ordering.{nat_cmp, ordering_then}
use Rattle.residues.specs.Residues.{IsCongruent}
use Rattle.monomials.specs.Exponents.{Exponents}
use Rattle.formal_sums.proofs.OfRank.{IsOfRank_member, IsOfRank_of}
use Rattle.formal_sums.specs.Combinations.{IsMember}
use Rattle.formal_sums.specs.FormalSums.{Each, FormalSum, HasRank, IsOfRank, Key, coefficient}
use Rattle.orders.proofs.Positions.{top_order}
use Rattle.orders.specs.KeyOrders.{Descends, pot, top}
use Rattle.orders.specs.MonomialOrders.{IsMonomialOrder}
use Rattle.bases.specs.Bases.{IsCovered, IsReducedBasis}
use Rattle.bases.specs.Leads.{IsLead, leads}
use Rattle.bases.specs.Settings.{IsLawful, Setting}
use Rattle.syzygy_laws.specs.Kernels.{pot_setting}
use Rattle.operation_laws.proofs.Linear.{Each_at}
use Rattle.operation_laws.proofs.RunFacts.{run_of}
use Rattle.operation_laws.proofs.Running.{lawful_position}
use Rattle.operation_laws.specs.Operations.{IsRun}

pub then_equal : (x : Ordering) → ordering_then x Equal ≡ x
then_equal Less = refl
then_equal Equal = refl
then_equal Greater = refl

same_order : {n : ℕ} (monomials : Exponents n → Exponents n → Ordering) (k l : Key n) → k.0 < 1 → l.0 < 1 → pot monomials k l ≡ top monomials k l
same_order monomials k l hk hl =
    let a : k.0 ≡ 0 = omega (arith, hk) in
    let b : l.0 ≡ 0 = omega (arith, hl) in
    let e : nat_cmp l.0 k.0 ≡ Equal = ap₂ nat_cmp b a in
    ap (λ x. ordering_then x (monomials k.1 l.1)) e ∙ sym (ap (ordering_then (monomials k.1 l.1)) e ∙ then_equal (monomials k.1 l.1))

-- in another order that compares the keys at this position alike, the reduced basis is the same
module _ {n : ℕ} (p : ℕ) (ws : List ℕ) (C D : Key n → Key n → Ordering) (same : (k l : Key n) → k.0 < 1 → l.0 < 1 → C k l ≡ D k l) where
  abbrev P : Setting n
  P = record { modulus = p; weights = ws; rank = 1; compare = C }

  abbrev T : Setting n
  T = record { modulus = p; weights = ws; rank = 1; compare = D }

  Each_other : (k : Key n) (v : FormalSum n) → k.0 < 1 → HasRank 1 v → Each (λ u. C k u.0 ≡ Greater) v → Each (λ u. D k u.0 ≡ Greater) v
  Each_other k [] hk r d = tt
  Each_other k (t ∷ v) hk r d = (sym (same k t.0 hk r.0) ∙ d.0, Each_other k v hk r.1 d.1)

  Descends_other : (v : FormalSum n) → HasRank 1 v → Descends C v → Descends D v
  Descends_other [] r d = tt
  Descends_other (t ∷ v) r d = (Each_other t.0 v r.0 r.1 d.0, Descends_other v r.1 d.1)

  -- a coefficient above the lead, where the vector has one position
  above_same :
      (A B : Key n → Key n → Ordering) → ((k l : Key n) → k.0 < 1 → l.0 < 1 → A k l ≡ B k l) → (v : FormalSum n) → IsOfRank p 1 v → (k : Key n) → k.0 < 1
      → ((l : Key n) → A k l ≡ Less → IsCongruent p (coefficient v l) 0) → (l : Key n) → B k l ≡ Less → IsCongruent p (coefficient v l) 0
  above_same A B alike v r k hk above l lt = go (cases_lt l.0 1)
    where
      go : (l.0 < 1) ⊎ (1 ≤ l.0) → IsCongruent p (coefficient v l) 0
      go (inl h) = above l (alike k l hk h ∙ lt)
      go (inr h) = r.past l h

  module _ (lawful : IsLawful (record { modulus = p; weights = ws; rank = 1; compare = C })) (F G : List (FormalSum n)) (ranks : Each (HasRank 1) F)
      (reduced : IsReducedBasis (record { modulus = p; weights = ws; rank = 1; compare = C }) F G) where
    run : IsRun P F G
    run = run_of P lawful F G ranks reduced

    rank_at : (i : ℕ) → i < length G → HasRank 1 (get_or G i [])
    rank_at i lt = Each_at (HasRank 1) [] G run.ranks i lt

    pub other_order : IsReducedBasis (record { modulus = p; weights = ws; rank = 1; compare = D }) F G
    other_order = record {
      reduced = record {
        basis = record { members = reduced.reduced.basis.members; covers = covers };
        normal = λ i lt. let g = reduced.reduced.normal i lt in record { descends = Descends_other (get_or G i []) (rank_at i lt) g.descends; residues = g.residues };
        monic = λ i lt. let g = reduced.reduced.monic i lt in record {
          one = g.one;
          above = above_same C D same (get_or G i []) (IsOfRank_of p 1 (get_or G i []) (rank_at i lt)) (leads G i) (run.list.ranked i lt) g.above;
        };
        apart = reduced.reduced.apart;
      };
      descends = λ i j lt h. sym (same (leads G i) (leads G j) (run.list.ranked i (omega (arith, lt, h))) (run.list.ranked j h)) ∙ reduced.descends i j lt h;
    }
      where
        back : (k l : Key n) → k.0 < 1 → l.0 < 1 → D k l ≡ C k l
        back k l hk hl = sym (same k l hk hl)

        low : (v : FormalSum n) → IsOfRank p 1 v → (k : Key n) → (IsCongruent p (coefficient v k) 0 → ⊥) → k.0 < 1
        low v r k nonzero = go (cases_lt k.0 1)
          where
            go : (k.0 < 1) ⊎ (1 ≤ k.0) → k.0 < 1
            go (inl h) = h
            go (inr h) = absurd (nonzero (r.past k h))

        covers : (v : FormalSum n) (k : Key n) → IsMember p F v → IsLead T v k → IsCovered T G k
        covers v k m lead =
            let r : IsOfRank p 1 v = IsOfRank_member 1 F (λ i lt. IsOfRank_of p 1 (get_or F i []) (Each_at (HasRank 1) [] F ranks i lt)) v m in
            let c = reduced.reduced.basis.covers v k m (record { nonzero = lead.nonzero; above = above_same D C back v r k (low v r k lead.nonzero) lead.above }) in (
              c.0,
              c.1,
              record {
                nonzero = c.2.nonzero;
                above = above_same C D same (get_or G c.0 []) (IsOfRank_of p 1 (get_or G c.0 []) (rank_at c.0 c.1)) (leads G c.0) (run.list.ranked c.0 c.1) c.2.above;
              },
              c.3,
            )

module _ {n : ℕ} (monomials : Exponents n → Exponents n → Ordering) (S : Setting n) (lawful : IsLawful S) (o : IsMonomialOrder monomials) (F G : List (FormalSum n)) (ranks : Each (HasRank 1) F) where
  -- what is reduced by position first is so by term first
  pub one_position :
      IsReducedBasis (pot_setting S.weights S.modulus 1 monomials) F G
      → IsReducedBasis (record { modulus = S.modulus; weights = S.weights; rank = 1; compare = top monomials }) F G
  one_position reduced = other_order S.modulus S.weights (pot monomials) (top monomials) (same_order monomials) (lawful_position monomials 1 S o lawful) F G ranks reduced

  -- and the other way round
  pub position_again :
      IsReducedBasis (record { modulus = S.modulus; weights = S.weights; rank = 1; compare = top monomials }) F G
      → IsReducedBasis (pot_setting S.weights S.modulus 1 monomials) F G
  position_again reduced =
      other_order S.modulus S.weights (top monomials) (pot monomials) (λ k l hk hl. sym (same_order monomials k l hk hl))
      (record { domain = lawful.domain; order = top_order 1 monomials o }) F G ranks reduced
