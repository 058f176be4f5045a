-- A list has one reduced basis, and a vector has one normal form modulo it
use Rattle.std.proofs.Common.{List, [], ap₂, arith, refl, subst, ℕ, ◌*◌, ◌++◌, ◌+◌, ◌-◌, ◌<◌, ◌∙◌, ◌∷◌, ◌≡◌, sym}
use Rattle.residues.proofs.Congruences.{IsCongruent_add, IsCongruent_minus, IsCongruent_of, IsCongruent_refl, IsCongruent_sym, IsCongruent_trans}
use Rattle.residues.specs.Residues.{IsCongruent}
use Rattle.monomials.specs.Exponents.{unit}
use Rattle.formal_sums.proofs.Combining.{IsMember_append, IsMember_same, IsMember_scale}
use Rattle.formal_sums.proofs.Sameness.{IsSame_of, weighted_sum-minus}
use Rattle.formal_sums.specs.Combinations.{IsMember}
use Rattle.formal_sums.specs.FormalSums.{FormalSum, IsSame, Key, coefficient, indicator, scale}
use Rattle.bases.proofs.Leading.{positive}
use Rattle.bases.specs.Bases.{HasFreeTerms, IsGroebnerBasis}
use Rattle.bases.specs.Leads.{IsNormal}
use Rattle.bases.specs.Settings.{IsLawful, Setting}
use Rattle.division_laws.proofs.Remainders.{normal_form_unique}
use Rattle.reduced_unique.proofs.Uniqueness.{IsReducedBasis_unique}
use Rattle.term_lists.proofs.NormalVectors.{vector_normal, vector_unique}
use Rattle.term_lists.specs.Rings.{ring_comparison, setting, variables}
use Rattle.term_lists.specs.Vectors.{AreVectorsOver, sum_of, sums_of}
use Rattle.term_lists.specs.declared.key.Key.{Key as CodeKey}
use Rattle.term_lists.specs.declared.ring.Ring.{Ring}
use Rattle.groebner_iface.specs.Runs.{IsReducedBasisOf}
use Rattle.script_parse.proofs.Working.{lawful}
use Rattle.session_values.specs.Answers.{IsNormalForm}

abbrev Terms : Type 0
Terms = List (CodeKey × ℕ)

-- lists of vectors with the same formal sums are one
one_list :
    (ring : Ring) (rank : ℕ) (left right : List Terms) → AreVectorsOver ring (ring_comparison ring) left → AreVectorsOver ring (ring_comparison ring) right
    → sums_of (variables ring) left ≡ sums_of (variables ring) right → left ≡ right
one_list ring rank [] [] hl hr e = refl
one_list ring rank [] (w ∷ right) hl hr e = absurd cc
one_list ring rank (v ∷ left) [] hl hr e = absurd cc
one_list ring rank (v ∷ left) (w ∷ right) hl hr e =
    ap₂ (λ x l. x ∷ l)
    (vector_unique ring (ring_comparison ring) rank v w (lawful ring rank) hl.0 hr.0
    (IsSame_of ring.modulus.value (sum_of (variables ring) v) (sum_of (variables ring) w) (head e)))
    (one_list ring rank left right hl.1 hr.1 (tail e))
  where
    head : {X : Type 0} {x y : X} {xs ys : List X} → x ∷ xs ≡ y ∷ ys → x ≡ y
    head e = cc

    tail : {X : Type 0} {x y : X} {xs ys : List X} → x ∷ xs ≡ y ∷ ys → xs ≡ ys
    tail e = cc

pub one_reduced : (ring : Ring) (rank : ℕ) (list G H : List Terms) → IsReducedBasisOf ring rank list G → IsReducedBasisOf ring rank list H → G ≡ H
one_reduced ring rank list G H r s =
    let n = variables ring in
    one_list ring rank G H r.vectors s.vectors
    (IsReducedBasis_unique (setting ring n (ring_comparison ring n) rank) (lawful ring rank) (sums_of n list) (sums_of n G) (sums_of n H) r.basis s.basis)

plus_zero : (t : ℕ) → t ≡ t + 0
plus_zero t = omega arith

zero_plus : (t : ℕ) → (0 + 0) + t ≡ t
zero_plus t = omega arith

regroup : (a b c m q : ℕ) → ((a + q * c) + q * (a + m)) + (b + m) ≡ ((a + q * a) + (m + q * m)) + (b + q * c)
regroup a b c m q = omega arith

-- (a - c) - (a - b) is b - c
apart_numbers : (p a b c : ℕ) → 0 < p → IsCongruent p ((a + (p - 1) * c) + (p - 1) * (a + (p - 1) * b)) (b + (p - 1) * c)
apart_numbers p a b c pos = by_parts (p - 1) ((p - 1) * b) (IsCongruent_minus p a pos) (IsCongruent_minus p b pos) (IsCongruent_minus p ((p - 1) * b) pos)
  where
    by_parts :
        (q m : ℕ) → IsCongruent p (a + q * a) 0 → IsCongruent p (b + m) 0 → IsCongruent p (m + q * m) 0
        → IsCongruent p ((a + q * c) + q * (a + m)) (b + q * c)
    by_parts q m za zb zm =
        let t : ℕ = (a + q * c) + q * (a + m) in
        IsCongruent_trans (IsCongruent_of p t (t + 0) (plus_zero t))
        (IsCongruent_trans (IsCongruent_add (IsCongruent_refl p t) (IsCongruent_sym zb))
        (IsCongruent_trans (IsCongruent_of p (t + (b + m)) (((a + q * a) + (m + q * m)) + (b + q * c)) (regroup a b c m q))
        (IsCongruent_trans (IsCongruent_add (IsCongruent_add za zm) (IsCongruent_refl p (b + q * c)))
        (IsCongruent_of p ((0 + 0) + (b + q * c)) (b + q * c) (zero_plus (b + q * c))))))

-- v - w
abbrev less : {n : ℕ} → ℕ → FormalSum n → FormalSum n → FormalSum n
less {n} p v w = v ++ scale (p - 1) (unit n) w

coefficient-less : {n : ℕ} (p : ℕ) (v w : FormalSum n) (k : Key n) → coefficient (less p v w) k ≡ coefficient v k + (p - 1) * coefficient w k
coefficient-less p v w k = weighted_sum-minus p (indicator k) v w

twice : (p a b c x y z : ℕ) → x ≡ a + (p - 1) * c → y ≡ a + (p - 1) * b → z ≡ x + (p - 1) * y → z ≡ (a + (p - 1) * c) + (p - 1) * (a + (p - 1) * b)
twice p a b c x y z e f g = g ∙ ap₂ (λ s t. s + (p - 1) * t) e f

-- (v - z) - (v - y) is y - z
apart_by : {n : ℕ} (p : ℕ) (v y z : FormalSum n) → 0 < p → IsSame p (less p (less p v z) (less p v y)) (less p y z)
apart_by {n} p v y z pos = record { by_key = same_at }
  where
    same_at : (k : Key n) → IsCongruent p (coefficient (less p (less p v z) (less p v y)) k) (coefficient (less p y z) k)
    same_at k =
        IsCongruent_trans
        (IsCongruent_of p _ _
        (twice p (coefficient v k) (coefficient y k) (coefficient z k) (coefficient (less p v z) k) (coefficient (less p v y) k) (coefficient (less p (less p v z) (less p v y)) k)
        (coefficient-less p v z k) (coefficient-less p v y k) (coefficient-less p (less p v z) (less p v y) k)))
        (IsCongruent_trans (apart_numbers p (coefficient v k) (coefficient y k) (coefficient z k) pos)
        (IsCongruent_of p _ _ (sym (coefficient-less p y z k))))

module _ {n : ℕ} (S : Setting n) (is_lawful : IsLawful S) (F G : List (FormalSum n)) (basis : IsGroebnerBasis S F G) where
  -- two normal forms of v are one
  forms_same :
      (v y z : FormalSum n) → IsMember S.modulus F (less S.modulus v y) → IsMember S.modulus F (less S.modulus v z)
      → IsNormal S y → IsNormal S z → HasFreeTerms S G y → HasFreeTerms S G z → y ≡ z
  forms_same v y z my mz ny nz fy fz =
      let p = S.modulus in
      let pos : 0 < p = positive S is_lawful in
      let member : IsMember p F (less p y z) =
      IsMember_same F (less p (less p v z) (less p v y)) (less p y z) (apart_by p v y z pos)
      (IsMember_append F (less p v z) (scale (p - 1) (unit n) (less p v y)) mz (IsMember_scale pos F (p - 1) (unit n) (less p v y) my)) in
      normal_form_unique S is_lawful F G basis y z member ny nz fy fz

module _ (ring : Ring) (rank : ℕ) (list : List Terms) (v w u : Terms) (g : IsNormalForm ring rank list v w) (h : IsNormalForm ring rank list v u) where
  free : HasFreeTerms (setting ring (variables ring) (ring_comparison ring (variables ring)) rank) (sums_of (variables ring) g.basis) (sum_of (variables ring) u)
  free =
      subst (λ G. HasFreeTerms (setting ring (variables ring) (ring_comparison ring (variables ring)) rank) (sums_of (variables ring) G) (sum_of (variables ring) u))
      (one_reduced ring rank list h.basis g.basis h.reduced g.reduced) h.free

  sums_same : sum_of (variables ring) w ≡ sum_of (variables ring) u
  sums_same =
      let n = variables ring in
      forms_same (setting ring n (ring_comparison ring n) rank) (lawful ring rank) (sums_of n list) (sums_of n g.basis) g.reduced.basis.reduced.basis
      (sum_of n v) (sum_of n w) (sum_of n u) g.differs h.differs
      (vector_normal ring (ring_comparison ring) rank w g.vector) (vector_normal ring (ring_comparison ring) rank u h.vector) g.free free

  pub one_form : w ≡ u
  one_form =
      vector_unique ring (ring_comparison ring) rank w u (lawful ring rank) g.vector h.vector
      (IsSame_of ring.modulus.value (sum_of (variables ring) w) (sum_of (variables ring) u) sums_same)
