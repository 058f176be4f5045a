-- Sums of parts
use Rattle.std.proofs.Common.{List, [], ap, arith, get_or, length, map, refl, subst, suc, sym, zero, ℕ, ◌++◌, ◌<◌, ◌∙◌, ◌∷◌, ◌≡◌}
use Rattle.std.specs.Prelude.{⊤}
use Rattle.formal_sums.proofs.Combining.{Each_map}
use Rattle.formal_sums.specs.Combinations.{combination}
use Rattle.formal_sums.specs.FormalSums.{Each}
use Rattle.monomials.specs.Exponents.{exponents_of}
use Rattle.monomial_orders.specs.Kept.{IsWeighed, Monomial}
use Rattle.term_lists.proofs.Parts.{Each_member}
use Rattle.term_lists.specs.Stops.{Fits, HasMonomial, IsTooGreat}
use Rattle.term_lists.specs.Vectors.{sum_of, sums_of}
use Rattle.term_lists.specs.declared.key.Key.{Key as CodeKey}
use Rattle.term_lists.specs.declared.stop.VectStop.TheVariants.{Degree}
use Rattle.module_vectors.proofs.SumsOfProducts.{products_combination}
use Rattle.module_vectors.specs.Products.{AreProducts, sum_of_product_list}
use Rattle.module_vectors.specs.ProductStops.{ProductsStop}
use Rattle.module_vectors.specs.declared.product.Product.{Product}
use Rattle.vector_division.specs.Reductions.{cofactors_of, term_of}
use Rattle.vector_division.specs.declared.reduction.ScaledProduct.{ScaledProduct}
use Rattle.s_vectors.specs.Parts.{GreatStops, IsGreatPart, IsGreatProduct, IsPart, PartsStop}
use Rattle.s_vectors.specs.declared.sums.SumStop.{SumStop}
use Rattle.s_vectors.specs.declared.sums.SumStop.TheVariants.{Memory as SumMemory, Degree as SumDegree}

terms_sum : (n : ℕ) (qs : List ScaledProduct) → sum_of n (map term_of qs) ≡ cofactors_of n qs
terms_sum n [] = refl
terms_sum n (q ∷ qs) = ap (λ r. ((q.index, exponents_of n q.monomial.exponents), q.residue) ∷ r) (terms_sum n qs)

-- a term that fits with no product is in no stop
fits_not_great : (t m : Monomial) (v : List (CodeKey × ℕ)) → Fits t v → HasMonomial v m → IsTooGreat t m → ⊥
fits_not_great t m [] f (u, (i, lt, e), is) g = absurd (let z : i < 0 = lt in omega arith)
fits_not_great t m (u ∷ v) f (w, (zero, lt, e), is) g = absurd (let same : u.0.monomial ≡ m = ap (λ z. z.0.monomial) e ∙ is in let low = f.0 in let high : IsTooGreat t u.0.monomial = subst (IsTooGreat t) (sym same) g in omega arith)
fits_not_great t m (u ∷ v) f (w, (suc i, lt, e), is) g = fits_not_great t m v f.1 (w, (i, omega arith, e), is) g

-- where each product fits, there is no stop by the degree
pub none_great : (xs : List Product) (a b : Monomial) → Each (λ x. Fits x.monomial.now x.vector.now) xs → ProductsStop xs (Degree a b) → ⊥
none_great [] a b f (x, (i, lt, e), pos, ea, m, g) = absurd (let z : i < 0 = lt in omega arith)
none_great (y ∷ xs) a b f (x, (zero, lt, e), pos, ea, m, g) =
    fits_not_great x.monomial.now b x.vector.now (subst (λ (z : Product). Fits z.monomial.now z.vector.now) e f.0) m (subst (λ z. IsTooGreat z b) ea g)
none_great (y ∷ xs) a b f (x, (suc i, lt, e), pos, ea, m, g) = none_great xs a b f.1 (x, (i, omega arith, e), pos, ea, m, g)

module _ (list : List (List (CodeKey × ℕ))) where
  -- the products of the parts stand for their combination
  pub parts_combination :
      (n : ℕ) (ws : List ℕ) (p : ℕ) (parts : List ScaledProduct) (xs : List Product)
      → Each (IsPart n ws p (length list)) parts → AreProducts list (map term_of parts) xs
      → sum_of_product_list n xs ≡ combination (sums_of n list) (cofactors_of n parts)
  parts_combination n ws p parts xs h a = products_combination list n (map term_of parts) xs (positions parts h) a ∙ ap (combination (sums_of n list)) (terms_sum n parts)
    where
      positions : (qs : List ScaledProduct) → Each (IsPart n ws p (length list)) qs → Each (λ t. t.0.position < length list) (map term_of qs)
      positions [] h = tt
      positions (q ∷ qs) h = (h.0.index, positions qs h.1)

  -- what holds of the parts' products
  pub parts_products :
      (n : ℕ) (ws : List ℕ) (p : ℕ) (P : List (CodeKey × ℕ) → Type 0) (parts : List ScaledProduct) (xs : List Product)
      → ((i : ℕ) → i < length list → P (get_or list i [])) → Each (IsPart n ws p (length list)) parts → AreProducts list (map term_of parts) xs
      → Each (λ x. ((x.residue < p) × (IsWeighed n ws x.monomial.now)) × P x.vector.now) xs
  parts_products n ws p P [] [] f h a = tt
  parts_products n ws p P [] (x ∷ xs) f h a = absurd a
  parts_products n ws p P (q ∷ parts) [] f h a = absurd a
  parts_products n ws p P (q ∷ parts) (x ∷ xs) f h a = (
    ((subst (λ z. z < p) (sym a.0.residue) h.0.reduced, subst (IsWeighed n ws) (sym a.0.monomial) h.0.weighed), subst P (sym a.0.vector) (f q.index h.0.index)),
    parts_products n ws p P parts xs f h.1 a.1,
  )

  pub parts_factors :
      (n : ℕ) (ws : List ℕ) (p : ℕ) (parts : List ScaledProduct) (xs ys : List Product)
      → Each (IsPart n ws p (length list)) parts → AreProducts list (map term_of parts) xs → ys ≡ xs
      → Each (λ x. (x.residue < p) × (IsWeighed n ws x.monomial.now)) ys
  parts_factors n ws p parts xs ys h a e =
      subst (Each (λ x. (x.residue < p) × (IsWeighed n ws x.monomial.now))) (sym e)
      (Each_map (λ x. ((x.residue < p) × (IsWeighed n ws x.monomial.now)) × ⊤) _ xs (λ x q. q.0) (parts_products n ws p (λ v. ⊤) parts xs (λ i lt. tt) h a))

  pub parts_vectors :
      (n : ℕ) (ws : List ℕ) (p : ℕ) (P : List (CodeKey × ℕ) → Type 0) (parts : List ScaledProduct) (xs ys : List Product)
      → Each P list → Each (IsPart n ws p (length list)) parts → AreProducts list (map term_of parts) xs → ys ≡ xs
      → Each (λ x. P x.vector.now) ys
  parts_vectors n ws p P parts xs ys l h a e =
      subst (Each (λ x. P x.vector.now)) (sym e)
      (Each_map (λ x. ((x.residue < p) × (IsWeighed n ws x.monomial.now)) × P x.vector.now) _ xs (λ x q. q.1) (parts_products n ws p P parts xs (λ i lt. Each_member P list i [] l lt) h a))

  -- a product that is too great is of a part
  pub great_part :
      (parts : List ScaledProduct) (xs : List Product) (number : ℕ) (m : Monomial)
      → AreProducts list (map term_of parts) xs → IsGreatProduct xs number m → IsGreatPart list parts number m
  great_part parts xs number m a g = go parts g.front number (subst (AreProducts list (map term_of parts)) g.split a) g.place
    where
      go :
          (qs : List ScaledProduct) (front : List Product) (k : ℕ)
          → AreProducts list (map term_of qs) (front ++ g.product ∷ g.back) → k ≡ length front → IsGreatPart list qs k m
      go [] [] k a e = absurd a
      go [] (x ∷ front) k a e = absurd a
      go (q ∷ qs) [] k a e = record {
        front = [];
        part = q;
        back = qs;
        split = refl;
        place = e;
        monomial = subst (λ v. HasMonomial v m) a.0.vector g.monomial;
        too_great = subst (λ t. IsTooGreat t m) a.0.monomial g.too_great;
      }
      go (q ∷ qs) (x ∷ front) zero a e = absurd (omega arith)
      go (q ∷ qs) (x ∷ front) (suc k) a e =
          let r = go qs front k a.1 (omega arith) in
          record {
            front = q ∷ r.front;
            part = r.part;
            back = r.back;
            split = ap (λ l. q ∷ l) r.split;
            place = ap suc r.place;
            monomial = r.monomial;
            too_great = r.too_great;
          }

-- the product at an index
pub great_product :
    (xs : List Product) (i : ℕ) (x : Product) (m : Monomial)
    → i < length xs → x ≡ get_or xs i x → HasMonomial x.vector.now m → IsTooGreat x.monomial.now m → IsGreatProduct xs i m
great_product [] i x m lt e h g = absurd (omega arith)
great_product (y ∷ xs) zero x m lt e h g = record { front = []; product = x; back = xs; split = ap (λ z. z ∷ xs) (sym e); place = refl; monomial = h; too_great = g }
great_product (y ∷ xs) (suc i) x m lt e h g =
    let r = great_product xs i x m (omega arith) e h g in
    record {
      front = y ∷ r.front;
      product = r.product;
      back = r.back;
      split = ap (λ l. y ∷ l) r.split;
      place = ap suc r.place;
      monomial = r.monomial;
      too_great = r.too_great;
    }

-- the stop of the products is one of the parts
pub great_stops :
    (list : List (List (CodeKey × ℕ))) (parts : List ScaledProduct) (xs : List Product)
    → AreProducts list (map term_of parts) xs → (stop : SumStop) → GreatStops xs stop → PartsStop list parts stop
great_stops list parts xs a SumMemory h = tt
great_stops list parts xs a (SumDegree number m) h = great_part list parts xs number m a h
