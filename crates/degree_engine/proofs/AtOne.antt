-- A basis of the homogenised list, with 1 for the last variable, is one of the list
use Rattle.std.proofs.Common.{List, [], arith, subst, suc, sym, zero, ℕ, ◌++◌, ◌<◌, ◌∙◌, ◌∷◌, ◌≡◌, get_or, length}
use Rattle.std.proofs.lemmas.List.{length-map}
use Rattle.std.specs.declared.cmp.Ordering.{Ordering}
use Rattle.zp_field.specs.declared.modulus.Modulus.{Modulus}
use Rattle.formal_sums.specs.FormalSums.{Each, IsSame, Key}
use Rattle.bases.specs.Bases.{IsGroebnerBasis}
use Rattle.bases.specs.Leads.{IsNormal}
use Rattle.bases.specs.Settings.{IsLawful, Setting}
use Rattle.homogeneous_laws.proofs.Alike.{elimination_alike, grevlex_alike, lex_alike, pot_alike, top_alike}
use Rattle.homogeneous_laws.proofs.Ends.{weighted_degree-last}
use Rattle.homogeneous_laws.proofs.Leading.{basis_at_one}
use Rattle.homogeneous_laws.specs.Homogeneous.{AreAlike, IsOfOneDegree, MonomialsAreAlike, dehomogenised, setting_with_last}
use Rattle.monomials.specs.Exponents.{exponents_of}
use Rattle.monomial_orders.specs.Comparisons.{comparison, key_comparison}
use Rattle.monomial_orders.specs.declared.order.ModOrder.{ModOrder}
use Rattle.monomial_orders.specs.declared.order.ModOrder.TheVariants.{Pot, Top}
use Rattle.monomial_orders.specs.declared.order.Order.{Order}
use Rattle.monomial_orders.specs.declared.order.Order.TheVariants.{Elim, Grevlex, Lex}
use Rattle.term_lists.proofs.NormalVectors.{vector_normal}
use Rattle.term_lists.specs.Rings.{ring_comparison, setting, variables}
use Rattle.term_lists.specs.Vectors.{AreVectorsOver, IsTerm, sum_of, sums_of}
use Rattle.term_lists.specs.declared.key.Key.{Key as CodeKey}
use Rattle.term_lists.specs.declared.ring.Ring.{Ring}
use Rattle.vector_division.proofs.Members.{sums_at}
use Rattle.degree_engine.specs.LastVariables.{AreAtOne, HasOneDegree, IsWithLast}

-- each vector of a list is in normal form
normal_sums :
    (ring : Ring) (rank : ℕ) (list : List (List (CodeKey × ℕ))) → AreVectorsOver ring (ring_comparison ring) list
    → (i : ℕ) → i < length (sums_of (variables ring) list)
    → IsNormal (setting ring (variables ring) (ring_comparison ring (variables ring)) rank) (get_or (sums_of (variables ring) list) i [])
normal_sums ring rank [] h i lt = absurd (omega arith)
normal_sums ring rank (v ∷ list) h zero lt = vector_normal ring (ring_comparison ring) rank v h.0
normal_sums ring rank (v ∷ list) h (suc i) lt = normal_sums ring rank list h.1 i (omega arith)

-- the orders of monomials are alike, with and without the last variable
monomials_alike :
    {n : ℕ} (order : Order) (ws : List ℕ) → length ws ≡ n
    → MonomialsAreAlike {n = n} ws (comparison order ws n) (comparison order (ws ++ 1 ∷ []) (suc n))
monomials_alike Lex ws count = lex_alike ws
monomials_alike Grevlex ws count = grevlex_alike ws count
monomials_alike (Elim k) ws count = elimination_alike ws k count

keys_alike :
    {n : ℕ} (keys : ModOrder) (order : Order) (ws : List ℕ) → length ws ≡ n
    → AreAlike {n = n} ws (key_comparison keys order ws n) (key_comparison keys order (ws ++ 1 ∷ []) (suc n))
keys_alike {n} Pot order ws count = pot_alike ws (comparison order ws n) (comparison order (ws ++ 1 ∷ []) (suc n)) (monomials_alike order ws count)
keys_alike {n} Top order ws count = top_alike ws (comparison order ws n) (comparison order (ws ++ 1 ∷ []) (suc n)) (monomials_alike order ws count)

-- the degrees that are kept are those with the last variable
terms_homogeneous :
    (n : ℕ) (ws : List ℕ) (p d : ℕ) (v : List (CodeKey × ℕ)) → length ws ≡ n
    → Each (IsTerm (suc n) (ws ++ 1 ∷ []) p) v → Each (λ t. t.0.monomial.degree ≡ d) v → IsOfOneDegree ws d (sum_of (suc n) v)
terms_homogeneous n ws p d [] count h same = tt
terms_homogeneous n ws p d (t ∷ v) count h same = (
  sym (weighted_degree-last ws (exponents_of (suc n) t.0.monomial.exponents) count) ∙ sym h.0.weighed.degree ∙ same.0,
  terms_homogeneous n ws p d v count h.1 same.1,
)

lists_homogeneous :
    (n : ℕ) (ws : List ℕ) (p : ℕ) (list : List (List (CodeKey × ℕ))) → length ws ≡ n
    → Each (λ v. Each (IsTerm (suc n) (ws ++ 1 ∷ []) p) v) list → Each HasOneDegree list
    → Each (λ g. (d : ℕ) × IsOfOneDegree ws d g) (sums_of (suc n) list)
lists_homogeneous n ws p [] count h same = tt
lists_homogeneous n ws p (v ∷ list) count h same =
    ((same.0.degree, terms_homogeneous n ws p same.0.degree v count h.0 same.0.each), lists_homogeneous n ws p list count h.1 same.1)

terms_of : (ring : Ring) (list : List (List (CodeKey × ℕ))) → AreVectorsOver ring (ring_comparison ring) list
    → Each (λ v. Each (IsTerm (variables ring) ring.weights ring.modulus.value) v) list
terms_of ring [] h = tt
terms_of ring (v ∷ list) h = (h.0.each, terms_of ring list h.1)

module _ (ring more : Ring) (rank : ℕ) (last : IsWithLast ring more) where
  abbrev n : ℕ
  n = variables ring

  abbrev S : Setting n
  S = setting ring n (ring_comparison ring n) rank

  -- the comparison of keys with the last variable
  abbrev with_last : Key (suc n) → Key (suc n) → Ordering
  with_last = key_comparison ring.module_order ring.order (ring.weights ++ 1 ∷ []) (suc n)

  abbrev at : (m : ℕ) → Modulus → Order → ModOrder → List ℕ → Setting m
  at m p order keys ws = record { modulus = p.value; weights = ws; rank = rank; compare = key_comparison keys order ws m }

  -- what is said of the setting of the one ring is said of the other's with the last variable
  said :
      (P : (m : ℕ) → Setting m → Type 0)
      → P (variables more) (setting more (variables more) (ring_comparison more (variables more)) rank) → P (suc n) (setting_with_last S with_last)
  said P h =
      subst (λ ws. P (suc n) (at (suc n) ring.modulus ring.order ring.module_order ws)) last.weights
      (subst (λ keys. P (suc n) (at (suc n) ring.modulus ring.order keys more.weights)) last.module_order
      (subst (λ order. P (suc n) (at (suc n) ring.modulus order more.module_order more.weights)) last.order
      (subst (λ p. P (suc n) (at (suc n) p more.order more.module_order more.weights)) last.modulus
      (subst (λ m. P m (at m more.modulus more.order more.module_order more.weights)) last.count h))))

  homogeneous :
      (list : List (List (CodeKey × ℕ))) → AreVectorsOver more (ring_comparison more) list → Each HasOneDegree list
      → Each (λ g. (d : ℕ) × IsOfOneDegree ring.weights d g) (sums_of (suc n) list)
  homogeneous list h same =
      lists_homogeneous n ring.weights ring.modulus.value list ring.weighted
      (said (λ m T. Each (λ v. Each (IsTerm m T.weights T.modulus) v) list) (terms_of more list h)) same

  same_sums :
      (raised list : List (List (CodeKey × ℕ))) → AreAtOne ring raised list
      → (i : ℕ) → IsSame ring.modulus.value (dehomogenised (get_or (sums_of (suc n) raised) i [])) (get_or (sums_of n list) i [])
  same_sums raised list h i =
      subst (λ g. IsSame ring.modulus.value (dehomogenised g) (get_or (sums_of n list) i [])) (sym (sums_at (suc n) raised i))
      (subst (λ g. IsSame ring.modulus.value (dehomogenised (sum_of (suc n) (get_or raised i []))) g) (sym (sums_at n list i)) (h.each i))

  as_many : (raised list : List (List (CodeKey × ℕ))) → AreAtOne ring raised list → length (sums_of (suc n) raised) ≡ length (sums_of n list)
  as_many raised list h = length-map raised (λ v. sum_of (suc n) v) ∙ h.long ∙ sym (length-map list (λ v. sum_of n v))

  pub basis_of_lowered :
      (list raised basis members : List (List (CodeKey × ℕ)))
      → IsLawful S → IsLawful (setting more (variables more) (ring_comparison more (variables more)) rank)
      → AreVectorsOver more (ring_comparison more) raised → AreVectorsOver more (ring_comparison more) basis
      → AreVectorsOver ring (ring_comparison ring) members
      → Each HasOneDegree raised → Each HasOneDegree basis → AreAtOne ring raised list → AreAtOne ring basis members
      → IsGroebnerBasis (setting more (variables more) (ring_comparison more (variables more)) rank)
      (sums_of (variables more) raised) (sums_of (variables more) basis)
      → IsGroebnerBasis S (sums_of n list) (sums_of n members)
  basis_of_lowered list raised basis members lawful lawful_more over over_basis over_members one one_basis h k reduced =
      basis_at_one S with_last (keys_alike ring.module_order ring.order ring.weights ring.weighted) lawful
      (said (λ m T. IsLawful T) lawful_more)
      (sums_of n list) (sums_of n members) (sums_of (suc n) raised) (sums_of (suc n) basis)
      (homogeneous raised over one) (homogeneous basis over_basis one_basis)
      (as_many raised list h) (same_sums raised list h) (as_many basis members k) (same_sums basis members k)
      (normal_sums ring rank members over_members)
      (said (λ m T. IsGroebnerBasis T (sums_of m raised) (sums_of m basis)) reduced)
