-- Membership is decided, and so is whether two modules are one
use Rattle.std.proofs.Common.{List, [], append-nil, arith, get_or, inl, inr, length, subst, suc, ℕ, ◌++◌, ◌-◌, ◌<◌, ◌∷◌, ◌≡◌, ◌⊎◌}
use Rattle.monomials.specs.Exponents.{unit}
use Rattle.formal_sums.proofs.Combining.{IsMember_itself, IsMember_same, IsMember_through}
use Rattle.formal_sums.proofs.OfRank.{IsOfRank_of}
use Rattle.formal_sums.proofs.Sameness.{IsSame_append, IsSame_refl, IsSame_scale}
use Rattle.formal_sums.specs.Combinations.{IsMember}
use Rattle.formal_sums.specs.FormalSums.{Each, FormalSum, HasRank, IsSame, scale}
use Rattle.residues.proofs.Congruences.{IsCongruent_sym, IsCongruent_trans}
use Rattle.bases.proofs.Leading.{positive}
use Rattle.bases.proofs.Normalizing.{normal_exists}
use Rattle.bases.specs.Bases.{HasFreeTerms, IsReducedBasis}
use Rattle.bases.specs.Leads.{IsNormal}
use Rattle.bases.specs.Settings.{IsLawful, Setting}
use Rattle.division_laws.proofs.Remainders.{normal_form_of_member}
use Rattle.operation_laws.proofs.Dividing.{remainder_exists}
use Rattle.operation_laws.proofs.Linear.{Each_at}
use Rattle.operation_laws.proofs.RunFacts.{run_of}
use Rattle.operation_laws.specs.Lifts.{IsRemainder}
use Rattle.operation_laws.specs.Operations.{IsRun}
use Rattle.term_lists.specs.Rings.{ring_comparison, setting, variables}
use Rattle.term_lists.specs.Vectors.{HasPositions, sums_of}
use Rattle.term_lists.specs.declared.ring.Ring.{Ring}
use Rattle.groebner_iface.specs.Runs.{IsReducedBasisOf}
use Rattle.syzygy_engine.proofs.Standing.{Terms, ranks_of_positions}
use Rattle.ideal_ops.specs.Answers.{HaveSameMembers, IsInFirstAlone}

module _ {n : ℕ} (S : Setting n) (lawful : IsLawful S) (F G : List (FormalSum n)) (ranks : Each (HasRank S.rank) F) (basis : IsReducedBasis S F G) where
  run : IsRun S F G
  run = run_of S lawful F G ranks basis

  rest_same : (v w u : FormalSum n) → IsSame S.modulus w u → IsSame S.modulus (v ++ scale (S.modulus - 1) (unit n) w) (v ++ scale (S.modulus - 1) (unit n) u)
  rest_same v w u e = IsSame_append (IsSame_refl S.modulus v) (IsSame_scale (positive S lawful) (S.modulus - 1) (unit n) e)

  by_rest :
      (v w : FormalSum n) → IsMember S.modulus G (v ++ scale (S.modulus - 1) (unit n) w) → IsNormal S w → HasFreeTerms S G w
      → IsMember S.modulus F v ⊎ (IsMember S.modulus F v → ⊥)
  by_rest v [] member normal free = inl (IsMember_through (positive S lawful) F G basis.reduced.basis.members v (subst (IsMember S.modulus G) (append-nil v) member))
  by_rest v (t ∷ w) member normal free = inr (λ a.
      never (normal_form_of_member S lawful F G basis.reduced.basis v (t ∷ w)
      (IsMember_through (positive S lawful) F G basis.reduced.basis.members (v ++ scale (S.modulus - 1) (unit n) (t ∷ w)) member) normal free a))
    where
      never : t ∷ w ≡ [] → ⊥
      never e = cc

  pub decided_member : (v : FormalSum n) → HasRank S.rank v → IsMember S.modulus F v ⊎ (IsMember S.modulus F v → ⊥)
  decided_member v r = by_remainder (remainder_exists S lawful G run.list (λ i lt. IsOfRank_of S.modulus S.rank (get_or G i []) (Each_at (HasRank S.rank) [] G run.ranks i lt)) v (IsOfRank_of S.modulus S.rank v r))
    where
      by_normal : (w : FormalSum n) → IsRemainder S G v w → (u : FormalSum n) × IsNormal S u × IsSame S.modulus w u → IsMember S.modulus F v ⊎ (IsMember S.modulus F v → ⊥)
      by_normal w h (u, normal, e) =
          by_rest v u (IsMember_same G (v ++ scale (S.modulus - 1) (unit n) w) (v ++ scale (S.modulus - 1) (unit n) u) (rest_same v w u e) h.member) normal
          (λ k c. IsCongruent_trans (IsCongruent_sym (e.by_key k)) (h.free k c))

      by_remainder : (w : FormalSum n) × IsRemainder S G v w → IsMember S.modulus F v ⊎ (IsMember S.modulus F v → ⊥)
      by_remainder (w, h) = by_normal w h (normal_exists S lawful w)

pub settle : {A B : Type 0} → (A → ⊥) → A ⊎ B → B
settle never (inl a) = absurd (never a)
settle never (inr b) = b

-- each vector of a list has a property that is decided, or one has not
pub each_or_one :
    {X : Type 0} (P : X → Type 0) (d : X) (xs : List X) → Each (λ x. P x ⊎ (P x → ⊥)) xs
    → Each P xs ⊎ ((i : ℕ) × (i < length xs) × (P (get_or xs i d) → ⊥))
each_or_one P d [] h = inl tt
each_or_one P d (x ∷ xs) h = go h.0 (each_or_one P d xs h.1)
  where
    go : P x ⊎ (P x → ⊥) → Each P xs ⊎ ((i : ℕ) × (i < length xs) × (P (get_or xs i d) → ⊥)) → Each P (x ∷ xs) ⊎ ((i : ℕ) × (i < suc (length xs)) × (P (get_or (x ∷ xs) i d) → ⊥))
    go (inr never) r = inr (0, omega arith, never)
    go (inl p) (inl rest) = inl (p, rest)
    go (inl p) (inr (i, lt, never)) = inr (suc i, omega (arith, lt), never)

each_decided :
    {n : ℕ} (S : Setting n) (lawful : IsLawful S) (F G : List (FormalSum n)) (ranks : Each (HasRank S.rank) F) (basis : IsReducedBasis S F G)
    (H : List (FormalSum n)) → Each (HasRank S.rank) H → Each (λ v. IsMember S.modulus F v ⊎ (IsMember S.modulus F v → ⊥)) H
each_decided S lawful F G ranks basis [] h = tt
each_decided S lawful F G ranks basis (v ∷ H) h = (decided_member S lawful F G ranks basis v h.0, each_decided S lawful F G ranks basis H h.1)

-- each member of H is in the module of F, or some vector is in that of H alone
inside_or_apart :
    {n : ℕ} (S : Setting n) (lawful : IsLawful S) (F G : List (FormalSum n)) (ranks : Each (HasRank S.rank) F) (basis : IsReducedBasis S F G)
    (H : List (FormalSum n)) → Each (HasRank S.rank) H → Each (IsMember S.modulus F) H ⊎ IsInFirstAlone S.modulus H F
inside_or_apart S lawful F G ranks basis H h = go (each_or_one (IsMember S.modulus F) [] H (each_decided S lawful F G ranks basis H h))
  where
    go : Each (IsMember S.modulus F) H ⊎ ((i : ℕ) × (i < length H) × (IsMember S.modulus F (get_or H i []) → ⊥)) → Each (IsMember S.modulus F) H ⊎ IsInFirstAlone S.modulus H F
    go (inl e) = inl e
    go (inr (i, lt, never)) = inr (record { vector = get_or H i []; inside = IsMember_itself S.modulus H i lt; outside = never })

-- two lists with reduced bases have the same members, or some vector is in one module alone
one_or_apart :
    {n : ℕ} (S : Setting n) → IsLawful S → (F H : List (FormalSum n))
    → Each (IsMember S.modulus H) F ⊎ IsInFirstAlone S.modulus F H → Each (IsMember S.modulus F) H ⊎ IsInFirstAlone S.modulus H F
    → HaveSameMembers S.modulus F H ⊎ (IsInFirstAlone S.modulus F H ⊎ IsInFirstAlone S.modulus H F)
one_or_apart S lawful F H (inr x) r = inr (inl x)
one_or_apart S lawful F H (inl e) (inr x) = inr (inr x)
one_or_apart S lawful F H (inl e) (inl f) = inl (λ v. (
  IsMember_through (positive S lawful) H F (Each_at (IsMember S.modulus H) [] F e) v,
  IsMember_through (positive S lawful) F H (Each_at (IsMember S.modulus F) [] H f) v,
))

pub same_or_apart :
    (ring : Ring) (rank : ℕ) (left right first second : List Terms) → IsLawful (setting ring (variables ring) (ring_comparison ring (variables ring)) rank)
    → Each (HasPositions rank) left → Each (HasPositions rank) right → IsReducedBasisOf ring rank left first → IsReducedBasisOf ring rank right second
    → HaveSameMembers ring.modulus.value (sums_of (variables ring) left) (sums_of (variables ring) right)
    ⊎ (IsInFirstAlone ring.modulus.value (sums_of (variables ring) left) (sums_of (variables ring) right)
    ⊎ IsInFirstAlone ring.modulus.value (sums_of (variables ring) right) (sums_of (variables ring) left))
same_or_apart ring rank left right first second lawful h k a b =
    let n = variables ring in
    let S = setting ring n (ring_comparison ring n) rank in
    let F = sums_of n left in
    let H = sums_of n right in
    let hF = ranks_of_positions n rank left h in
    let hH = ranks_of_positions n rank right k in
    one_or_apart S lawful F H (inside_or_apart S lawful H (sums_of n second) hH b.basis F hF) (inside_or_apart S lawful F (sums_of n first) hF a.basis H hH)
