-- The entries of a vector are those of its product with 1
use Rattle.std.proofs.Common.{List, [], ap, arith, length, refl, subst, sym, ℕ, ◌∙◌, ◌∷◌, ◌≡◌}
use Rattle.monomials.specs.Exponents.{exponents_of, unit}
use Rattle.formal_sums.proofs.Combining.{Each_map, scale-one}
use Rattle.formal_sums.specs.FormalSums.{Each, scale}
use Rattle.monomial_orders.specs.Kept.{IsWeighed, Monomial}
use Rattle.term_lists.specs.Rings.{ring_comparison, variables}
use Rattle.term_lists.specs.Vectors.{IsMonomialOver, IsVectorOver, sum_of}
use Rattle.term_lists.specs.declared.key.Key.{Key as CodeKey}
use Rattle.term_lists.specs.declared.ring.Ring.{Ring}
use Rattle.row_matrix.specs.Naming.{AreNamed}
use Rattle.row_matrix.specs.Rows.{AreKeys, Entry}
use Rattle.numbered_sums.proofs.ProductRows.{product_named}
use Rattle.numbered_sums.specs.ProductEntries.{IsProductEntries}
use Rattle.remainders.specs.Leaving.{AreEntriesOf}

module _ (ring : Ring) (m : Monomial) (v : List (CodeKey × ℕ)) (over : IsMonomialOver ring m) (vector : IsVectorOver ring (ring_comparison ring) v) where
  abbrev k : ℕ
  k = length m.exponents

  pub terms_weighed : Each (λ u. IsWeighed k ring.weights u.0.monomial) v
  terms_weighed = subst (λ j. Each (λ u. IsWeighed j ring.weights u.0.monomial) v) (sym over.variables) (Each_map _ _ v (λ t i. i.weighed) vector.each)

  pub one_weighed : IsWeighed k ring.weights m
  one_weighed = subst (λ j. IsWeighed j ring.weights m) (sym over.variables) over

  pub entries_of :
      (keys : List CodeKey) (entries : List Entry) → exponents_of (variables ring) m.exponents ≡ unit (variables ring)
      → AreNamed k keys entries (scale 1 (exponents_of k m.exponents) (sum_of k v)) → AreEntriesOf ring keys v entries
  entries_of keys entries is named =
      let n = variables ring in
      let made : IsProductEntries ring (v ∷ []) keys 0 m entries = product_named ring (v ∷ []) keys 0 m entries v over (omega arith) (Each_map _ _ v (λ t i. i.reduced) vector.each, tt) refl named in
      record {
        within = made.within;
        sum = made.sum ∙ ap (λ e. scale 1 e (sum_of n v)) is ∙ scale-one (sum_of n v);
      }

  pub keys_of :
      (new : List CodeKey)
      → ((ws : List ℕ) → IsWeighed k ws m → Each (λ u. IsWeighed k ws u.0.monomial) v → AreKeys k ws [] → AreKeys k ws new)
      → AreKeys (variables ring) ring.weights new
  keys_of new h = subst (λ j. AreKeys j ring.weights new) over.variables (h ring.weights one_weighed terms_weighed tt)
