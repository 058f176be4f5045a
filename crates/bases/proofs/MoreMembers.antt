-- A representation stays one as members are added
use Rattle.std.proofs.Common.{List, [], ap, ap₂, arith, get_or, inl, inr, length, length-append, refl, subst, subst₂, suc, sym, zero, zero-add, ℕ, ◌++◌, ◌+◌, ◌-◌, ◌<◌, ◌∙◌, ◌∷◌, ◌≡◌, ◌≤◌, ◌⊎◌}
use Rattle.std.proofs.lemmas.Bool.{cases_lt}
use Rattle.formal_sums.proofs.Combining.{Each_map}
use Rattle.formal_sums.proofs.Sameness.{IsSame_of, IsSame_trans}
use Rattle.formal_sums.specs.Combinations.{combination}
use Rattle.formal_sums.specs.FormalSums.{Each, FormalSum, Key, scale, shift}
use Rattle.bases.specs.Leads.{IsMonicLead, IsMonicList, head_key, leads}
use Rattle.bases.specs.Representations.{HasLcmRepresentation, IsLower, IsSumBelow, key_lcm, s_vector}
use Rattle.bases.specs.Settings.{Setting}

-- the members in front keep their index
pub get_or-append_front :
    {n : ℕ} (G N : List (FormalSum n)) (i : ℕ) → i < length G → get_or (G ++ N) i [] ≡ get_or G i []
get_or-append_front [] N i h = absurd (omega arith)
get_or-append_front (g ∷ G) N zero h = refl
get_or-append_front (g ∷ G) N (suc i) h = get_or-append_front G N i (omega arith)

-- cofactors of the members in front do not see the others
pub combination-append_front :
    {n : ℕ} (G N : List (FormalSum n)) (a : FormalSum n) → Each (λ t. t.0.0 < length G) a
    → combination (G ++ N) a ≡ combination G a
combination-append_front G N [] h = refl
combination-append_front G N (t ∷ a) h = ap₂ (λ g r. scale t.1 t.0.1 g ++ r) (get_or-append_front G N t.0.0 h.0) (combination-append_front G N a h.1)

-- what is below k with the members of G is below k with more members
pub IsSumBelow_more :
    {n : ℕ} (S : Setting n) (G N : List (FormalSum n)) (k : Key n) (v : FormalSum n) → IsSumBelow S G k v
    → IsSumBelow S (G ++ N) k v
IsSumBelow_more {n} S G N k v b = record {
  cofactors = b.cofactors;
  below = each b.cofactors b.below;
  sums = IsSame_trans (IsSame_of S.modulus _ _ (combination-append_front G N b.cofactors (Each_map (IsLower S G k) (λ t. t.0.0 < length G) b.cofactors (λ t h. h.0) b.below))) b.sums;
}
  where
    each : (a : FormalSum n) → Each (IsLower S G k) a → Each (IsLower S (G ++ N) k) a
    each [] h = tt
    each (t ∷ a) h =
        let longer : t.0.0 < length (G ++ N) = (let q = h.0.0 in omega (arith, length-append G N)) in
        ((longer, ap (λ g. S.compare (shift t.0.1 (head_key g)) k) (get_or-append_front G N t.0.0 h.0.0) ∙ h.0.1), each a h.1)

-- a pair keeps its representation
pub HasLcmRepresentation_more :
    {n : ℕ} (S : Setting n) (G N : List (FormalSum n)) (i j : ℕ) → i < length G → j < length G
    → HasLcmRepresentation S G i j → HasLcmRepresentation S (G ++ N) i j
HasLcmRepresentation_more {n} S G N i j hi hj rep =
    subst₂ (λ x y. IsSumBelow S (G ++ N) (key_lcm (head_key x) (head_key y)) (s_vector S.modulus x y)) (sym (get_or-append_front G N i hi)) (sym (get_or-append_front G N j hj))
    (IsSumBelow_more S G N (key_lcm (leads G i) (leads G j)) (s_vector S.modulus (get_or G i []) (get_or G j [])) rep)

-- the members behind follow
pub get_or-append_back : {n : ℕ} (G N : List (FormalSum n)) (i : ℕ) → get_or (G ++ N) (length G + i) [] ≡ get_or N i []
get_or-append_back [] N i = ap (λ j. get_or N j []) (zero-add i)
get_or-append_back (g ∷ G) N i = ap (λ j. get_or (g ∷ (G ++ N)) j []) (suc-add (length G) i) ∙ get_or-append_back G N i
  where
    suc-add : (a b : ℕ) → suc a + b ≡ suc (a + b)
    suc-add a b = omega arith

-- each member that stays was there
pub was_there :
    {n : ℕ} (G H : List (FormalSum n)) (g : FormalSum n) (i : ℕ)
    → i < length (G ++ H)
    → (j : ℕ) × (j < length (G ++ (g ∷ H))) × (get_or (G ++ (g ∷ H)) j [] ≡ get_or (G ++ H) i [])
was_there [] H g i h = (suc i, omega arith, refl)
was_there (x ∷ G) H g zero h = (0, omega arith, refl)
was_there (x ∷ G) H g (suc i) h = go (was_there G H g i (omega arith))
  where
    go :
        (j : ℕ) × (j < length (G ++ (g ∷ H))) × (get_or (G ++ (g ∷ H)) j [] ≡ get_or (G ++ H) i [])
        → (j : ℕ) × (j < length (x ∷ (G ++ (g ∷ H)))) × (get_or (x ∷ (G ++ (g ∷ H))) j [] ≡ get_or (G ++ H) i [])
    go (j, lt, e) = (suc j, omega arith, e)

-- each member is the one that goes, or stays
pub goes_or_stays :
    {n : ℕ} (G H : List (FormalSum n)) (g : FormalSum n) (j : ℕ)
    → j < length (G ++ (g ∷ H))
    → (get_or (G ++ (g ∷ H)) j [] ≡ g) ⊎ ((i : ℕ) × (i < length (G ++ H)) × (get_or (G ++ H) i [] ≡ get_or (G ++ (g ∷ H)) j []))
goes_or_stays [] H g zero h = inl refl
goes_or_stays [] H g (suc j) h = inr (j, omega arith, refl)
goes_or_stays (x ∷ G) H g zero h = inr (0, omega arith, refl)
goes_or_stays (x ∷ G) H g (suc j) h = go (goes_or_stays G H g j (omega arith))
  where
    go :
        (get_or (G ++ (g ∷ H)) j [] ≡ g) ⊎ ((i : ℕ) × (i < length (G ++ H)) × (get_or (G ++ H) i [] ≡ get_or (G ++ (g ∷ H)) j []))
        → (get_or (G ++ (g ∷ H)) j [] ≡ g) ⊎ ((i : ℕ) × (i < length (x ∷ (G ++ H))) × (get_or (x ∷ (G ++ H)) i [] ≡ get_or (G ++ (g ∷ H)) j []))
    go (inl e) = inl e
    go (inr (i, lt, e)) = inr (suc i, omega arith, e)

-- two monic lists are one
pub IsMonicList_append :
    {n : ℕ} (S : Setting n) (G N : List (FormalSum n)) → IsMonicList S G → IsMonicList S N
    → IsMonicList S (G ++ N)
IsMonicList_append {n} S G N a b = record { monic = λ i h. (both i h (cases i)).0; ranked = λ i h. (both i h (cases i)).1 }
  where
    cases : (i : ℕ) → (i < length G) ⊎ ((j : ℕ) × (i ≡ length G + j))
    cases i = go (cases_lt i (length G))
      where
        go : (i < length G) ⊎ (length G ≤ i) → (i < length G) ⊎ ((j : ℕ) × (i ≡ length G + j))
        go (inl lt) = inl lt
        go (inr le) = inr (i - length G, omega arith)

    both :
        (i : ℕ)
        → i < length (G ++ N) → (i < length G) ⊎ ((j : ℕ) × (i ≡ length G + j))
        → IsMonicLead S (get_or (G ++ N) i []) (leads (G ++ N) i) × ((leads (G ++ N) i).0 < S.rank)
    both i h (inl lt) = subst (λ g. IsMonicLead S g (head_key g) × ((head_key g).0 < S.rank)) (sym (get_or-append_front G N i lt)) (a.monic i lt, a.ranked i lt)
    both i h (inr (j, e)) =
        let lt : j < length N = omega (arith, length-append G N) in
        subst (λ g. IsMonicLead S g (head_key g) × ((head_key g).0 < S.rank)) (sym (ap (λ x. get_or (G ++ N) x []) e ∙ get_or-append_back G N j)) (b.monic j lt, b.ranked j lt)
