-- Monomials, terms and lists with one more variable at the end
use Rattle.std.proofs.Common.{List, [], ap, ap₂, arith, get_or, length, refl, subst, suc, sym, take, zero, ℕ, ◌++◌, ◌+◌, ◌<◌, ◌∙◌, ◌∷◌, ◌≡◌}
use Rattle.std.proofs.lemmas.List.{length-append}
use Rattle.monomials.specs.Exponents.{cons, exponents_of}
use Rattle.monomials.specs.Weights.{weighted_degree}
use Rattle.formal_sums.proofs.Sameness.{IsSame_of, IsSame_refl, IsSame_sym, IsSame_trans}
use Rattle.formal_sums.proofs.WeightedSums.{Each_append}
use Rattle.formal_sums.specs.FormalSums.{IsSame}
use Rattle.homogeneous_laws.proofs.Combining.{dehomogenised-append, same_at_one}
use Rattle.homogeneous_laws.proofs.Ends.{weighted_degree-last}
use Rattle.homogeneous_laws.specs.Homogeneous.{before_last, dehomogenised, last_exponent}
use Rattle.monomial_orders.specs.Kept.{AreWeights, IsWeighed, Monomial}
use Rattle.term_lists.proofs.Merges.{sum_of-append}
use Rattle.term_lists.proofs.Scaling.{take_item}
use Rattle.term_lists.specs.Rings.{variables}
use Rattle.term_lists.specs.Vectors.{AreTermsOver, IsMonomialOver, IsTerm, StandsFor, sum_of}
use Rattle.term_lists.specs.declared.key.Key.{Key as CodeKey}
use Rattle.term_lists.specs.declared.ring.Ring.{Ring}
use Rattle.degree_engine.specs.LastVariables.{AreAtOne, IsAtOne, IsWithLast}

-- ---- exponents
take_none : (n : ℕ) → ◌≡◌ {A = List ℕ} (take n []) []
take_none zero = refl
take_none (suc n) = refl

pub before_last-exponents_of : (n : ℕ) (xs : List ℕ) → before_last (exponents_of (suc n) xs) ≡ exponents_of n (take n xs)
before_last-exponents_of zero [] = refl
before_last-exponents_of zero (x ∷ xs) = refl
before_last-exponents_of (suc n) [] = ap (cons 0) (before_last-exponents_of n [] ∙ ap (exponents_of n) (take_none n))
before_last-exponents_of (suc n) (x ∷ xs) = ap (cons x) (before_last-exponents_of n xs)

pub last_exponent-exponents_of :
    (n : ℕ) (xs : List ℕ) (b : ℕ) → length xs ≡ n → last_exponent (exponents_of (suc n) (xs ++ b ∷ [])) ≡ b
last_exponent-exponents_of zero [] b h = refl
last_exponent-exponents_of zero (x ∷ xs) b h = absurd (omega (arith, h))
last_exponent-exponents_of (suc n) [] b h = absurd (omega (arith, h))
last_exponent-exponents_of (suc n) (x ∷ xs) b h = last_exponent-exponents_of n xs b (omega (arith, h))

pub take-before : (n : ℕ) (xs : List ℕ) (b : ℕ) → length xs ≡ n → take n (xs ++ b ∷ []) ≡ xs
take-before zero [] b h = refl
take-before zero (x ∷ xs) b h = absurd (omega (arith, h))
take-before (suc n) [] b h = absurd (omega (arith, h))
take-before (suc n) (x ∷ xs) b h = ap (λ l. x ∷ l) (take-before n xs b (omega (arith, h)))

-- the power of the last variable is what the degree grows by
pub raised_degree :
    (n b : ℕ) (ws : List ℕ) (m r : Monomial) → length ws ≡ n → IsWeighed n ws m → IsWeighed (suc n) (ws ++ 1 ∷ []) r
    → r.exponents ≡ m.exponents ++ b ∷ [] → r.degree ≡ m.degree + b
raised_degree n b ws m r long hm hr e =
    let xs = m.exponents in
    let before : before_last (exponents_of (suc n) (xs ++ b ∷ [])) ≡ exponents_of n xs =
    before_last-exponents_of n (xs ++ b ∷ []) ∙ ap (exponents_of n) (take-before n xs b hm.variables) in
    hr.degree ∙ ap (λ l. weighted_degree (ws ++ 1 ∷ []) (exponents_of (suc n) l)) e
    ∙ weighted_degree-last ws (exponents_of (suc n) (xs ++ b ∷ [])) long
    ∙ ap₂ ◌+◌ (ap (weighted_degree ws) before ∙ sym hm.degree) (last_exponent-exponents_of n xs b hm.variables)

-- r is the monomial m of `ring` times the power of the last variable that gives it degree d
pub record IsRaised (ring more : Ring) (d : ℕ) (m r : Monomial) : Type 0 where
  pub monomial : IsMonomialOver more r
  pub at_one : take (variables ring) r.exponents ≡ m.exponents
  pub degree : r.degree ≡ d

pub raised_monomial_is :
    (ring more : Ring) (d b : ℕ) (m r : Monomial) (xs : List ℕ) → IsWithLast ring more → IsMonomialOver ring m → xs ≡ m.exponents ++ b ∷ []
    → m.degree + b ≡ d → r.exponents ≡ xs → IsWeighed (length xs) more.weights r → IsRaised ring more d m r
raised_monomial_is ring more d b m r xs w hm is sum e hr =
    let n = variables ring in
    let long : length xs ≡ suc n = ap length is ∙ length-append m.exponents (b ∷ []) ∙ omega (arith, hm.variables) in
    let weighed : IsWeighed (suc n) (ring.weights ++ 1 ∷ []) r =
    subst (λ ws. IsWeighed (suc n) ws r) w.weights (subst (λ k. IsWeighed k more.weights r) long hr) in
    record {
      monomial = subst (λ k. IsWeighed k more.weights r) (long ∙ sym w.count) hr;
      at_one = ap (take n) (e ∙ is) ∙ take-before n m.exponents b hm.variables;
      degree = raised_degree n b ring.weights m r ring.weighted hm weighed (e ∙ is) ∙ sum;
    }

-- as many weights as exponents
pub as_many :
    (ring more : Ring) (b : ℕ) (m : Monomial) (xs : List ℕ) → IsWithLast ring more → IsMonomialOver ring m → xs ≡ m.exponents ++ b ∷ []
    → length more.weights ≡ length xs
as_many ring more b m xs w hm is =
    let long : length xs ≡ length m.exponents + 1 = ap length is ∙ length-append m.exponents (b ∷ []) in
    let count : length more.weights ≡ suc (variables ring) = more.weighted ∙ w.count in
    omega (arith, long, count, hm.variables)

-- as many weights as variables
pub weighted_more : (ring : Ring) (k : ℕ) (ws : List ℕ) → k ≡ suc (variables ring) → ws ≡ ring.weights ++ 1 ∷ [] → length ws ≡ k
weighted_more ring k ws count is =
    let long : length ws ≡ length ring.weights + 1 = ap length is ∙ length-append ring.weights (1 ∷ []) in
    let weighted : length ring.weights ≡ variables ring = ring.weighted in
    omega (arith, long, weighted, count)

-- the first exponents are a monomial of `ring`
pub lowered_monomial_is :
    (ring : Ring) (r : Monomial) (xs : List ℕ) → length xs ≡ variables ring → IsWeighed (length xs) ring.weights r → IsMonomialOver ring r
lowered_monomial_is ring r xs long h = subst (λ k. IsWeighed k ring.weights r) long h

-- ---- weights
pub weights_more : (ws : List ℕ) → AreWeights ws → AreWeights (ws ++ 1 ∷ [])
weights_more [] h zero lt = omega arith
weights_more [] h (suc k) lt = absurd (omega (arith, lt))
weights_more (w ∷ ws) h zero lt = h zero (omega arith)
weights_more (w ∷ ws) h (suc k) lt = weights_more ws (λ j b. h (suc j) (omega (arith, b))) k (omega (arith, lt))

-- ---- terms
-- one more term, times a power of the last variable
pub raised_more :
    (n : ℕ) (xs ys : List (CodeKey × ℕ)) (i : ℕ) (t : CodeKey × ℕ) (m : Monomial)
    → i < length xs → t ≡ get_or xs i t → take n m.exponents ≡ t.0.monomial.exponents
    → dehomogenised (sum_of (suc n) ys) ≡ sum_of n (take i xs)
    → dehomogenised (sum_of (suc n) (ys ++ (record { position = t.0.position; monomial = m }, t.1) ∷ [])) ≡ sum_of n (take (i + 1) xs)
raised_more n xs ys i t m lt is e h =
    let s : CodeKey × ℕ = (record { position = t.0.position; monomial = m }, t.1) in
    ap dehomogenised (sum_of-append (suc n) ys (s ∷ []))
    ∙ dehomogenised-append (sum_of (suc n) ys) (sum_of (suc n) (s ∷ []))
    ∙ ap₂ ◌++◌ h (ap (λ f. ((t.0.position, f), t.1) ∷ []) (before_last-exponents_of n m.exponents ∙ ap (exponents_of n) e))
    ∙ sym (ap (sum_of n) (take_item xs i t lt is) ∙ sum_of-append n (take i xs) (t ∷ []))

-- one more term, without the last variable
pub lowered_more :
    (n : ℕ) (xs ys : List (CodeKey × ℕ)) (i : ℕ) (t : CodeKey × ℕ) (m : Monomial)
    → i < length xs → t ≡ get_or xs i t → m.exponents ≡ take n t.0.monomial.exponents
    → sum_of n ys ≡ dehomogenised (sum_of (suc n) (take i xs))
    → sum_of n (ys ++ (record { position = t.0.position; monomial = m }, t.1) ∷ []) ≡ dehomogenised (sum_of (suc n) (take (i + 1) xs))
lowered_more n xs ys i t m lt is e h =
    let s : CodeKey × ℕ = (record { position = t.0.position; monomial = m }, t.1) in
    sum_of-append n ys (s ∷ [])
    ∙ ap₂ ◌++◌ h (ap (λ f. ((t.0.position, f), t.1) ∷ []) (ap (exponents_of n) e ∙ sym (before_last-exponents_of n t.0.monomial.exponents)))
    ∙ sym (ap (λ l. dehomogenised (sum_of (suc n) l)) (take_item xs i t lt is)
    ∙ ap dehomogenised (sum_of-append (suc n) (take i xs) (t ∷ []))
    ∙ dehomogenised-append (sum_of (suc n) (take i xs)) (sum_of (suc n) (t ∷ [])))

-- the terms of a vector of the ring, whose residues are those of the other
pub residue_over :
    (ring more : Ring) (t : CodeKey × ℕ) → more.modulus ≡ ring.modulus → IsTerm (variables ring) ring.weights ring.modulus.value t
    → t.1 < more.modulus.value
residue_over ring more t is h = subst (λ q. t.1 < q.value) (sym is) h.reduced

-- one more term of the ring
pub over_more :
    (ring : Ring) (ys : List (CodeKey × ℕ)) (t : CodeKey × ℕ) → AreTermsOver ring ys → IsMonomialOver ring t.0.monomial → t.1 < ring.modulus.value
    → AreTermsOver ring (ys ++ t ∷ [])
over_more ring ys t h m r = Each_append (λ s. IsMonomialOver ring s.0.monomial × (s.1 < ring.modulus.value)) ys (t ∷ []) h ((m, r), tt)

-- ---- vectors
-- the vector of raised terms
pub raised_vector_is :
    (ring more : Ring) (terms u v : List (CodeKey × ℕ)) → IsWithLast ring more → 0 < ring.modulus.value
    → StandsFor more u (sum_of (variables more) terms) → dehomogenised (sum_of (suc (variables ring)) terms) ≡ sum_of (variables ring) v
    → IsAtOne ring u v
raised_vector_is ring more terms u v w pos h e =
    let n = variables ring in
    let p = ring.modulus.value in
    let same : IsSame p (sum_of (suc n) u) (sum_of (suc n) terms) =
    subst (λ q. IsSame q.value (sum_of (suc n) u) (sum_of (suc n) terms)) w.modulus
    (subst (λ k. IsSame more.modulus.value (sum_of k u) (sum_of k terms)) w.count h) in
    IsSame_trans (same_at_one pos (sum_of (suc n) u) (sum_of (suc n) terms) same) (IsSame_of p _ _ e)

-- the vector of lowered terms
pub lowered_vector_is :
    (ring : Ring) (terms u v : List (CodeKey × ℕ)) → StandsFor ring u (sum_of (variables ring) terms)
    → sum_of (variables ring) terms ≡ dehomogenised (sum_of (suc (variables ring)) v) → IsAtOne ring v u
lowered_vector_is ring terms u v h e = IsSame_sym (IsSame_trans h (IsSame_of ring.modulus.value _ _ e))

-- ---- lists
module _ (ring : Ring) where
  pub at_one_none : AreAtOne ring [] []
  at_one_none = record { long = refl; each = λ i. IsSame_refl ring.modulus.value [] }

  each_more :
      (us vs : List (List (CodeKey × ℕ))) (u v : List (CodeKey × ℕ)) → length us ≡ length vs
      → ((i : ℕ) → IsAtOne ring (get_or us i []) (get_or vs i [])) → IsAtOne ring u v
      → (i : ℕ) → IsAtOne ring (get_or (us ++ u ∷ []) i []) (get_or (vs ++ v ∷ []) i [])
  each_more [] [] u v l h q zero = q
  each_more [] [] u v l h q (suc i) = h zero
  each_more [] (y ∷ vs) u v l h q i = absurd (omega (arith, l))
  each_more (x ∷ us) [] u v l h q i = absurd (omega (arith, l))
  each_more (x ∷ us) (y ∷ vs) u v l h q zero = h zero
  each_more (x ∷ us) (y ∷ vs) u v l h q (suc i) = each_more us vs u v (omega (arith, l)) (λ j. h (suc j)) q i

  -- one more vector
  pub at_one_more :
      (us vs : List (List (CodeKey × ℕ))) (u v : List (CodeKey × ℕ)) → AreAtOne ring us vs → IsAtOne ring u v
      → AreAtOne ring (us ++ u ∷ []) (vs ++ v ∷ [])
  at_one_more us vs u v h q = record {
    long = length-append us (u ∷ []) ∙ ap (λ k. k + 1) h.long ∙ sym (length-append vs (v ∷ []));
    each = each_more us vs u v h.long h.each q;
  }

  -- the next vector of a list, and what it is raised to
  pub raised_next :
      (us vs : List (List (CodeKey × ℕ))) (i : ℕ) (u v : List (CodeKey × ℕ)) → i < length vs → v ≡ get_or vs i v
      → AreAtOne ring us (take i vs) → IsAtOne ring u v → AreAtOne ring (us ++ u ∷ []) (take (i + 1) vs)
  raised_next us vs i u v lt is h q =
      subst (λ l. AreAtOne ring (us ++ u ∷ []) l) (sym (take_item vs i v lt is)) (at_one_more us (take i vs) u v h q)

  -- the same of a list that is lowered
  pub lowered_next :
      (us vs : List (List (CodeKey × ℕ))) (i : ℕ) (u v : List (CodeKey × ℕ)) → i < length us → u ≡ get_or us i u
      → AreAtOne ring (take i us) vs → IsAtOne ring u v → AreAtOne ring (take (i + 1) us) (vs ++ v ∷ [])
  lowered_next us vs i u v lt is h q =
      subst (λ l. AreAtOne ring l (vs ++ v ∷ [])) (sym (take_item us i u lt is)) (at_one_more (take i us) vs u v h q)
