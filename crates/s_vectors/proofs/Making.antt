-- Keys that occur in the products of products
use Rattle.std.proofs.Common.{List, [], ap, append_assoc, arith, get_or, inl, inr, length, length-append, refl, subst, subst₂, suc, sym, zero, ℕ, ◌++◌, ◌+◌, ◌<◌, ◌∙◌, ◌∷◌, ◌≡◌, ◌⊎◌}
use Rattle.std.proofs.lemmas.List.{get_or-map, get_or_append_left, length-map}
use Rattle.monomials.specs.Exponents.{unit}
use Rattle.formal_sums.proofs.Items.{item_of}
use Rattle.formal_sums.specs.FormalSums.{Each, Key}
use Rattle.bases.specs.Settings.{IsLawful, Setting}
use Rattle.term_lists.specs.Vectors.{IsVector, sum_of, sums_of}
use Rattle.term_lists.specs.declared.key.Key.{Key as CodeKey}
use Rattle.module_vectors.specs.Trails.{AreMet, HasKey, IsInProduct, IsMet, KeptProduct, kept_product_lead, no_product}
use Rattle.vector_division.proofs.Members.{sums_at}
use Rattle.basis_steps.proofs.Counting.{is_same_pair-refl}
use Rattle.basis_steps.proofs.JobProducts.{job_products_from}
use Rattle.basis_steps.specs.Criteria.{lcm_of}
use Rattle.basis_steps.specs.Outcomes as plain
use Rattle.basis_steps.specs.Divisions.{Occurs}
use Rattle.basis_steps.specs.Outcomes.{AreJobProducts, OccursBefore, product_at, product_vector}
use Rattle.basis_steps.specs.Pairs.{Pair, count}
use Rattle.basis_core.proofs.MemberKeys.{in_occurs, key_occurs, lead_same}
use Rattle.basis_core.specs.Outcomes.{indexed_product_of, indexed_products_of}
use Rattle.s_vectors.specs.PairProducts.{ArePairProducts}

pub count_here : (x : Pair) → 0 < count x (x ∷ [])
count_here x = rw (is_same_pair-refl x) (omega arith)

pub product_is : (n : ℕ) (products : List KeptProduct) (i : ℕ) (s : KeptProduct) → i < length products → get_or products i s ≡ s → product_at (indexed_products_of n products) i ≡ indexed_product_of n s
product_is n products i s lt e = get_or-map (λ t. indexed_product_of n t) products i s (0, unit n) lt ∙ ap (λ t. indexed_product_of n t) e

module _ {n : ℕ} (S : Setting n) (lawful : IsLawful S) (list : List (List (CodeKey × ℕ))) (over : Each (IsVector n S.weights S.modulus S.compare) list) where
  vector_here : (i : ℕ) → IsVector n S.weights S.modulus S.compare (get_or list i [])
  vector_here i = item_of (IsVector n S.weights S.modulus S.compare) list i (record { each = tt; descends = tt }) over

  -- a key of a vector of the list has a coefficient
  pub vector_occurs : (i : ℕ) (l : Key n) → HasKey (sum_of n (get_or list i [])) l → Occurs S.modulus (get_or (sums_of n list) i []) l
  vector_occurs i l h = subst (λ w. Occurs S.modulus w l) (sym (sums_at n list i)) (key_occurs S lawful (get_or list i []) l (vector_here i) h)

  occurs_before :
      (products : List KeptProduct) (count : ℕ) (s : KeptProduct) (i : ℕ) (k : Key n)
      → i < count → i < length products → get_or products i s ≡ s → IsInProduct n list k s
      → OccursBefore S.modulus (sums_of n list) (indexed_products_of n products) count k
  occurs_before products count s i k low lt e h = (
    i,
    low,
    subst (λ z. i < z) (sym (length-map products (λ t. indexed_product_of n t))) lt,
    subst (λ t. Occurs S.modulus (product_vector (sums_of n list) t) k) (sym (product_is n products i s lt e)) (in_occurs S lawful list (sums_of n list) s k (sums_at n list s.0) (vector_here s.0) h),
  )

  -- what is met occurs in an earlier product
  met_before :
      (e later : List KeptProduct) (i : ℕ) (s : KeptProduct)
      → AreMet n [] list e later → i < length later → s ≡ get_or later i s
      → OccursBefore S.modulus (sums_of n list) (indexed_products_of n (e ++ later)) (length e + i) (kept_product_lead n list s)
  met_before e [] i s h lt is = absurd (omega arith)
  met_before e (t ∷ later) zero s h lt is = go h.0
    where
      go : IsMet n [] list e (kept_product_lead n list t) → OccursBefore S.modulus (sums_of n list) (indexed_products_of n (e ++ t ∷ later)) (length e + 0) (kept_product_lead n list s)
      go (inl (j, l, q)) = absurd (let z : j < 0 = l in omega arith)
      go (inr (u, (j, l, q), p)) =
          occurs_before (e ++ t ∷ later) (length e + 0) u j (kept_product_lead n list s) (omega arith) (omega (arith, length-append e (t ∷ later)))
          (get_or_append_left e (t ∷ later) u j l ∙ q) (subst (λ z. IsInProduct n list (kept_product_lead n list z) u) (sym is) p)
  met_before e (t ∷ later) (suc i) s h lt is =
      subst₂ (λ z c. OccursBefore S.modulus (sums_of n list) (indexed_products_of n z) c (kept_product_lead n list s)) (append_assoc e (t ∷ []) later) (omega (arith, length-append e (t ∷ [])))
      (met_before (e ++ t ∷ []) later i s h.1 (omega arith) is)

  -- the products of a pair's products are products of a job of that pair
  pub job_steps :
      (x : Pair) (k : Key n) (products : List KeptProduct)
      → k ≡ lcm_of (sums_of n list) x → ArePairProducts n S.weights list k products
      → AreJobProducts S.modulus (sums_of n list) (x ∷ []) (indexed_products_of n products)
  job_steps x k [] e h = (tt, tt)
  job_steps x k (first ∷ later) e h = job_products_from S.modulus (sums_of n list) (x ∷ []) (indexed_products_of n (first ∷ later)) (λ i lt. at i lt)
    where
      products : List KeptProduct
      products = first ∷ later

      known_at : (xs : List KeptProduct) (i : ℕ) (d : KeptProduct) → Each (λ s. s.0 < length list) xs → i < length xs → (get_or xs i d).0 < length list
      known_at [] i d g lt = absurd (omega arith)
      known_at (s ∷ xs) zero d g lt = g.0
      known_at (s ∷ xs) (suc i) d g lt = known_at xs i d g.1 (omega arith)

      at :
          (i : ℕ) → i < length (indexed_products_of n (first ∷ later))
          → ((product_at (indexed_products_of n (first ∷ later)) i).0 < length (sums_of n list))
          × (((y : Pair) × (0 < count y (x ∷ [])) × (plain.product_lead (sums_of n list) (product_at (indexed_products_of n (first ∷ later)) i) ≡ lcm_of (sums_of n list) y))
          ⊎ OccursBefore S.modulus (sums_of n list) (indexed_products_of n (first ∷ later)) i (plain.product_lead (sums_of n list) (product_at (indexed_products_of n (first ∷ later)) i)))
      at zero lt = (
        subst (λ z. first.0 < z) (sym (length-map list (λ v. sum_of n v))) h.known.0,
        inl (x, count_here x, lead_same n list first ∙ h.linked.0 ∙ e),
      )
      at (suc i) lt =
          let s = get_or later i no_product in
          let short : i < length later = (let q = length-map (first ∷ later) (λ t. indexed_product_of n t) in omega arith) in
          let is : s ≡ get_or later i s = default_free later i short in
          let pr : product_at (indexed_products_of n (first ∷ later)) (suc i) ≡ indexed_product_of n s = product_is n later i s short (sym is) in (
            subst (λ t. t.0 < length (sums_of n list)) (sym pr) (subst (λ z. s.0 < z) (sym (length-map list (λ v. sum_of n v))) (known_at later i no_product h.known.1 short)),
            inr (subst (λ t. OccursBefore S.modulus (sums_of n list) (indexed_products_of n (first ∷ later)) (suc i) (plain.product_lead (sums_of n list) t)) (sym pr)
                (subst₂ (λ z c. OccursBefore S.modulus (sums_of n list) (indexed_products_of n (first ∷ later)) c z) (sym (lead_same n list s)) (omega arith)
                (met_before (first ∷ []) later i s h.linked.1 short is))),
          )
        where
          default_free : (xs : List KeptProduct) (i : ℕ) → i < length xs → get_or xs i no_product ≡ get_or xs i (get_or xs i no_product)
          default_free [] i l = absurd (omega arith)
          default_free (y ∷ xs) zero l = refl
          default_free (y ∷ xs) (suc i) l = default_free xs i (omega arith)
