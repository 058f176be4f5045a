-- The chain of a pair at which a sum or a division stops
use Rattle.std.proofs.Common.{List, [], ap, append-nil, append_assoc, arith, get_or, inl, length, length-append, map, refl, subst, suc, sym, take, zero, ℕ, ◌++◌, ◌+◌, ◌<◌, ◌∙◌, ◌∷◌, ◌≡◌}
use Rattle.formal_sums.specs.FormalSums.{Each, Key}
use Rattle.monomial_orders.specs.Kept.{IsWeighed, Monomial}
use Rattle.term_lists.specs.Rings.{variables}
use Rattle.term_lists.specs.Stops.{HasMonomial}
use Rattle.term_lists.specs.Vectors.{sum_of}
use Rattle.term_lists.specs.declared.key.Key.{Key as CodeKey}
use Rattle.term_lists.specs.declared.ring.Ring.{Ring}
use Rattle.module_vectors.specs.Trails.{AreMet, HasKey, IsChain, IsMet, IsTrail, KeptProduct, kept_product_lead, last_product}
use Rattle.module_vectors.specs.declared.trail.KeptTrail.{KeptTrail}
use Rattle.vector_division.proofs.Occurring.{at_key}
use Rattle.vector_division.specs.Divisions.{IsDivisionTrail}
use Rattle.vector_division.specs.Reductions.{unscaled}
use Rattle.vector_division.specs.declared.reduction.ScaledProduct.{ScaledProduct}
use Rattle.basis_core.specs.Members.{MemberShown}
use Rattle.basis_core.specs.Rows.{vectors_in}
use Rattle.s_vectors.proofs.Linking.{pair_front, pair_more, steps_through}
use Rattle.s_vectors.specs.Divided.{HasKeysMet}
use Rattle.s_vectors.specs.Parts.{IsGreatPart}
use Rattle.s_vectors.specs.PairProducts.{ArePairProducts, IsPairChain}

-- the first items of a list, up to one
take_to : {X : Type 0} (front back : List X) (x : X) (k : ℕ) → k ≡ length front + 1 → take k (front ++ x ∷ back) ≡ front ++ x ∷ []
take_to [] back x zero e = absurd (omega arith)
take_to [] back x (suc zero) e = refl
take_to [] back x (suc (suc k)) e = absurd (omega arith)
take_to (y ∷ front) back x zero e = absurd (omega arith)
take_to (y ∷ front) back x (suc k) e = ap (λ l. y ∷ l) (take_to front back x k (omega arith))

pub products-append : (xs ys : List ScaledProduct) → map unscaled (xs ++ ys) ≡ map unscaled xs ++ map unscaled ys
products-append [] ys = refl
products-append (x ∷ xs) ys = ap (λ l. unscaled x ∷ l) (products-append xs ys)

module _ (n : ℕ) (ws : List ℕ) (ms : List MemberShown) (k : Key n) where
  -- a part that is too great for its member's vector
  pub great_chain :
      (parts : List ScaledProduct) (number : ℕ) (last : Monomial) (products : List KeptProduct)
      → ArePairProducts n ws (vectors_in ms) k (map unscaled parts) → IsGreatPart (vectors_in ms) parts number last
      → (number < length parts → products ≡ map unscaled (take (number + 1) parts))
      → IsPairChain n ws ms k products last
  great_chain parts number last products h g e = record {
    front = map unscaled g.front;
    at_end = unscaled g.part;
    split = is;
    pair = subst (ArePairProducts n ws (vectors_in ms) k) (sym is) (pair_front n (vectors_in ms) ws k (map unscaled g.front ++ unscaled g.part ∷ []) (map unscaled g.back) (subst (ArePairProducts n ws (vectors_in ms) k) whole h));
    monomial = g.monomial;
    too_great = g.too_great;
  }
    where
      is : products ≡ map unscaled g.front ++ unscaled g.part ∷ []
      is =
          e (omega (arith, ap length g.split, length-append g.front (g.part ∷ g.back), g.place)) ∙ ap (λ l. map unscaled (take (number + 1) l)) g.split
          ∙ ap (map unscaled) (take_to g.front g.back g.part (number + 1) (omega (arith, g.place)))
          ∙ products-append g.front (g.part ∷ [])

      whole : map unscaled parts ≡ (map unscaled g.front ++ unscaled g.part ∷ []) ++ map unscaled g.back
      whole = ap (map unscaled) g.split ∙ products-append g.front (g.part ∷ g.back) ∙ sym (append_assoc (map unscaled g.front) (unscaled g.part ∷ []) (map unscaled g.back))

-- the last product stands at the end
last_split : (first : KeptProduct) (later : List KeptProduct) → (front : List KeptProduct) × (first ∷ later ≡ front ++ last_product first later ∷ [])
last_split first [] = ([], refl)
last_split first (s ∷ later) = let r = last_split s later in (first ∷ r.0, ap (λ l. first ∷ l) r.1)

-- where the vector of the division has the keys of a pair's products, the products of its trail are behind them
pub division_chain :
    (ring : Ring) (ms : List MemberShown) (k : Key (variables ring)) (v : List (CodeKey × ℕ)) (top : List KeptProduct) (t : KeptTrail) (products : List KeptProduct)
    → 0 < length top → ArePairProducts (variables ring) ring.weights (vectors_in ms) k top → HasKeysMet (variables ring) v (vectors_in ms) top
    → IsDivisionTrail ring v (vectors_in ms) t → products ≡ top ++ t.products.items
    → IsPairChain (variables ring) ring.weights ms k products t.last
division_chain ring ms k v [] t products some h keys d e = absurd (omega arith)
division_chain ring ms k v (first ∷ top) t products some h keys d e = go d.trail
  where
    go : IsTrail t → IsPairChain (variables ring) ring.weights ms k products t.last
    go (s, later, c) =
        let n = variables ring in
        let list = vectors_in ms in
        let chain : IsChain n t s later = subst (λ (r : Ring). IsChain (variables r) t s later) d.over c in
        let sp = last_split s later in
        let met : (l : Key (variables ring)) → HasKey (sum_of (variables ring) v) l → IsMet (variables ring) [] (vectors_in ms) (first ∷ top) l =
        λ l h. at_key (λ z. IsMet (variables ring) [] (vectors_in ms) (first ∷ top) z) (sum_of (variables ring) v) l keys h in
        let begins : HasKey (sum_of n v) (kept_product_lead n list s) = rw (d.start, d.vector, d.members) at chain.begins in
        let follow : AreMet n (sum_of n v) list (s ∷ []) later = rw (d.vector, d.members) at chain.met in
        let known : Each (λ z. z.0 < length list) (s ∷ later) = subst (λ l. Each (λ z. z.0 < length l) (s ∷ later)) d.members chain.known in
        let last : HasMonomial (get_or list (last_product s later).0 []) t.last = rw d.members at chain.last in
        let all : ArePairProducts n ring.weights list k ((first ∷ top) ++ s ∷ later) =
        pair_more n list ring.weights k first top (s ∷ later) h known (subst (λ (r : Ring). Each (λ z. IsWeighed n r.weights z.1) (s ∷ later)) d.over chain.variables)
        (subst (λ l. AreMet n [] list l (s ∷ later)) (append-nil (first ∷ top)) (steps_through n list (sum_of n v) (first ∷ top) [] (s ∷ later) met (inl begins, follow))) in
        let is : products ≡ (first ∷ top) ++ s ∷ later = e ∙ ap (λ l. (first ∷ top) ++ l) chain.products in
        record {
          front = (first ∷ top) ++ sp.0;
          at_end = last_product s later;
          split = is ∙ ap (λ l. (first ∷ top) ++ l) sp.1 ∙ sym (append_assoc (first ∷ top) sp.0 (last_product s later ∷ []));
          pair = subst (ArePairProducts n ring.weights list k) (sym is) all;
          monomial = last;
          too_great = chain.too_great;
        }
