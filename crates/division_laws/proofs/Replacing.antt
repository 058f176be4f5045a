-- Sums of products, their members replaced by sums of others
use Rattle.std.proofs.Common.{Less, List, [], ap, append-nil, arith, get_or, inl, inr, length, length-append, subst, subst₂, sym, ℕ, ◌++◌, ◌<◌, ◌∙◌, ◌∷◌, ◌≡◌, ◌⊎◌}
use Rattle.monomials.proofs.Monomials.{times_assoc}
use Rattle.monomials.specs.Exponents.{Exponents, times, unit}
use Rattle.formal_sums.proofs.Combining.{Each_map, combination-scale, scale-one}
use Rattle.formal_sums.proofs.Sameness.{IsSame_of, IsSame_scale, IsSame_trans, shift-unit}
use Rattle.formal_sums.specs.Combinations.{combination}
use Rattle.formal_sums.specs.FormalSums.{Each, FormalSum, Key, scale, shift}
use Rattle.bases.proofs.Below.{IsSumBelow_append, IsSumBelow_same, IsSumBelow_zero}
use Rattle.bases.proofs.Leading.{positive}
use Rattle.bases.proofs.MoreMembers.{combination-append_front, get_or-append_front}
use Rattle.bases.proofs.Places.{IsAtMost}
use Rattle.bases.specs.Leads.{head_key, leads}
use Rattle.bases.specs.Representations.{HasLcmRepresentation, IsLower, IsSumBelow, key_lcm, place, s_vector}
use Rattle.bases.specs.Settings.{IsLawful, Setting}
use Rattle.division_laws.specs.Standard.{HasStandardRepresentation, IsReplacedBy}

module _ {n : ℕ} (S : Setting n) (lawful : IsLawful S) where
  -- a multiple of what is at most at l is below k, where m l is
  standard_scaled :
      (H : List (FormalSum n)) (l k : Key n) (c : ℕ) (m : Exponents n) (v : FormalSum n)
      → HasStandardRepresentation S H l v → S.compare (shift m l) k ≡ Less → IsSumBelow S H k (scale c m v)
  standard_scaled H l k c m v r lt = record {
    cofactors = scale c m r.cofactors;
    below = each r.cofactors r.at_most;
    sums = IsSame_trans (IsSame_of S.modulus _ _ (combination-scale H c m r.cofactors)) (IsSame_scale (positive S lawful) c m r.sums);
  }
    where
      each : (a : FormalSum n) → Each (IsAtMost S H l) a → Each (IsLower S H k) (scale c m a)
      each [] h = tt
      each (t ∷ a) h = ((h.0.0, ap (λ x. S.compare x k) moved ∙ low h.0.1), each a h.1)
        where
          moved : shift (times m t.0.1) (leads H t.0.0) ≡ shift m (place H t)
          moved = ap (λ x. ((leads H t.0.0).0, x)) (times_assoc m t.0.1 (leads H t.0.0).1)

          low : (S.compare (place H t) l ≡ Less) ⊎ (place H t ≡ l) → S.compare (shift m (place H t)) k ≡ Less
          low (inl d) = lawful.order.total.trans (shift m (place H t)) (shift m l) k (lawful.order.kept m (place H t) l ∙ d) lt
          low (inr e) = subst (λ x. S.compare (shift m x) k ≡ Less) (sym e) lt

  pub IsSumBelow_replaced :
      (G H : List (FormalSum n)) (k : Key n) (v : FormalSum n)
      → IsReplacedBy S G H → IsSumBelow S G k v → IsSumBelow S H k v
  IsSumBelow_replaced G H k v by b = IsSumBelow_same S lawful H k (combination G b.cofactors) v b.sums (go b.cofactors b.below)
    where
      go : (a : FormalSum n) → Each (IsLower S G k) a → IsSumBelow S H k (combination G a)
      go [] h = IsSumBelow_zero S lawful H k
      go (t ∷ a) h =
          IsSumBelow_append S lawful H k (scale t.1 t.0.1 (get_or G t.0.0 [])) (combination G a)
          (standard_scaled H (leads G t.0.0) k t.1 t.0.1 (get_or G t.0.0 []) (by t.0.0 h.0.0) h.0.1) (go a h.1)

  pub HasLcmRepresentation_replaced :
      (G H : List (FormalSum n)) (i j : ℕ)
      → IsReplacedBy S G H → get_or H i [] ≡ get_or G i [] → get_or H j [] ≡ get_or G j []
      → HasLcmRepresentation S G i j → HasLcmRepresentation S H i j
  HasLcmRepresentation_replaced G H i j by ei ej rep =
      subst₂ (λ x y. IsSumBelow S H (key_lcm (head_key x) (head_key y)) (s_vector S.modulus x y)) (sym ei) (sym ej)
      (IsSumBelow_replaced G H (key_lcm (leads G i) (leads G j)) (s_vector S.modulus (get_or G i []) (get_or G j [])) by rep)

-- a member by itself
pub HasStandardRepresentation_itself :
    {n : ℕ} (S : Setting n) (G : List (FormalSum n)) (i : ℕ) → i < length G
    → HasStandardRepresentation S G (leads G i) (get_or G i [])
HasStandardRepresentation_itself {n} S G i h = record {
  cofactors = ((i, unit n), 1) ∷ [];
  at_most = ((h, inr (shift-unit (leads G i))), tt);
  sums = IsSame_of S.modulus _ _ (append-nil _ ∙ scale-one (get_or G i []));
}

-- with more members
pub HasStandardRepresentation_more :
    {n : ℕ} (S : Setting n) (G N : List (FormalSum n)) (k : Key n) (v : FormalSum n)
    → HasStandardRepresentation S G k v → HasStandardRepresentation S (G ++ N) k v
HasStandardRepresentation_more {n} S G N k v r = record {
  cofactors = r.cofactors;
  at_most = each r.cofactors r.at_most;
  sums = IsSame_trans (IsSame_of S.modulus _ _ (combination-append_front G N r.cofactors (Each_map (IsAtMost S G k) (λ t. t.0.0 < length G) r.cofactors (λ t h. h.0) r.at_most))) r.sums;
}
  where
    each : (a : FormalSum n) → Each (IsAtMost S G k) a → Each (IsAtMost S (G ++ N) k) a
    each [] h = tt
    each (t ∷ a) h =
        let longer : t.0.0 < length (G ++ N) = (let q = h.0.0 in omega (arith, length-append G N)) in
        ((longer, subst (λ g. (S.compare (shift t.0.1 (head_key g)) k ≡ Less) ⊎ (shift t.0.1 (head_key g) ≡ k)) (sym (get_or-append_front G N t.0.0 h.0.0)) h.0.1), each a h.1)
