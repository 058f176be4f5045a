-- The products that division of a row takes away, each with its lead at a monomial of the row or of a product before it
use Rattle.std.proofs.Common.{List, [], ap, arith, inl, inr, map, refl, subst, suc, sym, zero, ℕ, ◌++◌, ◌∷◌, ◌≡◌}
use Rattle.std.proofs.lemmas.List.{map-append}
use Rattle.std.specs.Prelude.{Contains}
use Rattle.monomial_orders.specs.Kept.{Monomial}
use Rattle.monomials.specs.Exponents.{exponents_of}
use Rattle.formal_sums.specs.FormalSums.{Each, FormalSum, Key, shift}
use Rattle.bases.specs.Leads.{head_key}
use Rattle.term_lists.specs.Rings.{variables}
use Rattle.term_lists.specs.Vectors.{sum_of}
use Rattle.term_lists.specs.declared.key.Key.{Key as CodeKey}
use Rattle.module_vectors.specs.Trails.{AreMet, IsMet, KeptProduct, kept_product_lead, last_product}
use Rattle.member_products.specs.Generators.{IsVectorOf}
use Rattle.vector_division.proofs.Occurring.{Contains_here, Contains_later}
use Rattle.vector_division.specs.Reductions.{AreMetFrom, cofactors_of, unscaled}
use Rattle.vector_division.specs.declared.reduction.ScaledProduct.{ScaledProduct}
use Rattle.basis_steps.specs.Divisions.{AreReached, IsMonomialReached, Occurs}
use Rattle.basis_steps.specs.Outcomes.{product_vector}
use Rattle.basis_steps.specs.States.{Product, vectors}
use Rattle.basis_core.specs.Members.{IsMemberShown, Shared, MemberShown, members_of, setting_of}
use Rattle.basis_core.specs.Outcomes.{indexed_product_of}
use Rattle.basis_core.specs.Rows.{IsRowTrail, vectors_in}
use Rattle.basis_core.specs.Stops.{earlier_products}
use Rattle.basis_core.proofs.MemberKeys.{in_occurs, key_occurs, member_vector, vector_at}
use Rattle.basis_core.proofs.Tracking.{ring_lawful}

-- the step of a quotient is the key of its cofactor's term
step_there :
    (n : ℕ) (qs : List ScaledProduct) (s : KeptProduct)
    → Contains (map unscaled qs) s → (t : Key n × ℕ) × Contains (cofactors_of n qs) t × (t.0 ≡ indexed_product_of n s)
step_there n [] s (k, l, e) = absurd (omega arith)
step_there n (q ∷ qs) s (zero, l, e) =
    let t : Key n × ℕ = ((q.index, exponents_of n q.monomial.exponents), q.residue) in
    (t, Contains_here t (cofactors_of n qs), ap (indexed_product_of n) e)
step_there n (q ∷ qs) s (suc k, l, e) =
    let r = step_there n qs s (k, omega arith, e) in
    (r.0, Contains_later ((q.index, exponents_of n q.monomial.exponents), q.residue) r.0 (cofactors_of n qs) r.1, r.2)

-- the products of products, each once
abbrev pub terms_of : (n : ℕ) → List KeptProduct → FormalSum n
terms_of n products = map (λ s. (indexed_product_of n s, 1)) products

term_there : (n : ℕ) (products : List KeptProduct) (s : KeptProduct) → Contains products s → Contains (terms_of n products) (indexed_product_of n s, 1)
term_there n [] s (k, l, e) = absurd (omega arith)
term_there n (x ∷ products) s (zero, l, e) = (zero, omega arith, ap (λ (z : KeptProduct). (indexed_product_of n z, 1)) e)
term_there n (x ∷ products) s (suc k, l, e) =
    let r = term_there n products s (k, omega arith, e) in
    (suc r.0, omega (arith, r.1), r.2)

terms_apart : (n : ℕ) (s : KeptProduct) (ss : List KeptProduct) → terms_of n (s ∷ ss) ≡ terms_of n (earlier_products s ss) ++ ((indexed_product_of n (last_product s ss), 1) ∷ [])
terms_apart n s [] = refl
terms_apart n s (t ∷ ss) = ap (λ l. (indexed_product_of n s, 1) ∷ l) (terms_apart n t ss)

module _ (shared : Shared) (ms : List MemberShown) (members : Each (IsMemberShown shared) ms) (v : List (CodeKey × ℕ)) (iv : IsVectorOf shared.ring v) where
  abbrev n : ℕ
  n = variables shared.ring

  abbrev p : ℕ
  p = shared.ring.modulus.value

  abbrev vs : List (List (CodeKey × ℕ))
  vs = vectors_in ms

  abbrev G : List (FormalSum (variables shared.ring))
  G = vectors (members_of (variables shared.ring) ms)

  -- what is met as a key is reached as a monomial
  met_reached :
      (earlier : List ScaledProduct) (k : Key n)
      → IsMet n (sum_of n v) vs (map unscaled earlier) k → IsMonomialReached p G (sum_of n v) (cofactors_of n earlier) k
  met_reached earlier k (inl there) = inl (key_occurs (setting_of n shared) (ring_lawful shared) v k iv there)
  met_reached earlier k (inr (s, there, h)) =
      let t = step_there n earlier s there in
      inr (
        t.0,
        t.1,
        subst (λ (z : Product n). Occurs p (product_vector G z) k) (sym t.2)
            (in_occurs (setting_of n shared) (ring_lawful shared) vs G s k (vector_at n ms s.0) (member_vector shared ms s.0 members) h),
      )

  reached_from :
      (earlier qs : List ScaledProduct)
      → AreMetFrom n (sum_of n v) vs (map unscaled earlier) qs → AreReached p G (sum_of n v) (cofactors_of n earlier) (cofactors_of n qs)
  reached_from earlier [] h = tt
  reached_from earlier (q ∷ qs) h = (
    subst (λ (g : FormalSum n). IsMonomialReached p G (sum_of n v) (cofactors_of n earlier) (shift (exponents_of n q.monomial.exponents) (head_key g)))
        (sym (vector_at n ms q.index))
        (met_reached earlier (kept_product_lead n vs (unscaled q)) h.0),
    subst (λ (b : FormalSum n). AreReached p G (sum_of n v) b (cofactors_of n qs))
        (map-append (λ (r : ScaledProduct). ((r.index, exponents_of n r.monomial.exponents), r.residue)) earlier (q ∷ []))
        (reached_from (earlier ++ (q ∷ [])) qs (subst (λ (products : List KeptProduct). AreMetFrom n (sum_of n v) vs products qs) (sym (map-append unscaled earlier (q ∷ []))) h.1)),
  )

  -- one after another, from the first
  pub quotients_reached : (qs : List ScaledProduct) → AreMetFrom n (sum_of n v) vs [] qs → AreReached p G (sum_of n v) [] (cofactors_of n qs)
  quotients_reached qs h = reached_from [] qs h

  -- ---- the same of products
  step_reached :
      (earlier : List KeptProduct) (k : Key n)
      → IsMet n (sum_of n v) vs earlier k → IsMonomialReached p G (sum_of n v) (terms_of n earlier) k
  step_reached earlier k (inl there) = inl (key_occurs (setting_of n shared) (ring_lawful shared) v k iv there)
  step_reached earlier k (inr (s, there, h)) =
      inr (
        (indexed_product_of n s, 1),
        term_there n earlier s there,
        in_occurs (setting_of n shared) (ring_lawful shared) vs G s k (vector_at n ms s.0)
            (member_vector shared ms s.0 members) h,
      )

  -- products that are met are reached, one after another
  pub steps_reached :
      (earlier products : List KeptProduct)
      → AreMet n (sum_of n v) vs earlier products → AreReached p G (sum_of n v) (terms_of n earlier) (terms_of n products)
  steps_reached earlier [] h = tt
  steps_reached earlier (s ∷ products) h = (
    subst (λ (g : FormalSum n). IsMonomialReached p G (sum_of n v) (terms_of n earlier) (shift (exponents_of n s.1.exponents) (head_key g))) (sym (vector_at n ms s.0))
        (step_reached earlier (kept_product_lead n vs s) h.0),
    subst (λ (b : FormalSum n). AreReached p G (sum_of n v) b (terms_of n products)) (map-append (λ (r : KeptProduct). (indexed_product_of n r, 1)) earlier (s ∷ []))
        (steps_reached (earlier ++ s ∷ []) products h.1),
  )

  -- the products of a row's trail, the last of them apart
  pub row_reached :
      (products : List KeptProduct) (last : Monomial) (h : IsRowTrail n shared.ring.weights ms v products last)
      → AreReached p G (sum_of n v) [] (terms_of n (earlier_products h.first h.later) ++ ((indexed_product_of n (last_product h.first h.later), 1) ∷ []))
  row_reached products last h =
      subst (AreReached p G (sum_of n v) []) (terms_apart n h.first h.later)
      (steps_reached [] (h.first ∷ h.later) (inl h.begins, h.met))
