-- Columns one by one
use Rattle.std.proofs.Common.{List, [], ap, append-nil, arith, get_or, length, map, refl, subst, suc, sym, take, zero, ℕ, ◌++◌, ◌+◌, ◌<◌, ◌∙◌, ◌∷◌, ◌≡◌}
use Rattle.std.proofs.lemmas.List.{append_assoc, map-append, take_more}
use Rattle.formal_sums.proofs.Sameness.{IsSame_refl, IsSame_sym}
use Rattle.formal_sums.specs.FormalSums.{FormalSum, IsSame}
use Rattle.minimal_laws.specs.Cancellation.{AreSameColumns}
use Rattle.term_lists.specs.Rings.{ring_comparison, variables}
use Rattle.term_lists.specs.Vectors.{AreVectorsOver, IsVectorOver, StandsFor, sum_of, sums_of}
use Rattle.term_lists.specs.declared.key.Key.{Key as CodeKey}
use Rattle.term_lists.specs.declared.ring.Ring.{Ring}
use Rattle.column_passes.specs.Placing.{AreWithout, without_all}
use Rattle.column_passes.proofs.Lists.{all_append}

abbrev Terms : Type 0
Terms = List (CodeKey × ℕ)

pub nothing_same : {n : ℕ} (p : ℕ) → AreSameColumns {n = n} p [] []
nothing_same p = record { count = refl; each = λ i. IsSame_refl p [] }

pub same_pushed :
    {n : ℕ} (p : ℕ) (F H : List (FormalSum n)) (v w : FormalSum n) → AreSameColumns p F H → IsSame p v w
    → AreSameColumns p (F ++ v ∷ []) (H ++ w ∷ [])
same_pushed p [] [] v w h e = record { count = refl; each = at }
  where
    at : (i : ℕ) → IsSame p (get_or (v ∷ []) i []) (get_or (w ∷ []) i [])
    at zero = e
    at (suc i) = IsSame_refl p []
same_pushed p [] (y ∷ H) v w h e = absurd (let c = h.count in omega (arith, c))
same_pushed p (x ∷ F) [] v w h e = absurd (let c = h.count in omega (arith, c))
same_pushed {n} p (x ∷ F) (y ∷ H) v w h e =
    let more = same_pushed p F H v w (record { count = (let c = h.count in omega (arith, c)); each = λ i. h.each (suc i) }) e in
    record { count = ap suc more.count; each = at more }
  where
    at : AreSameColumns p (F ++ v ∷ []) (H ++ w ∷ []) → (i : ℕ) → IsSame p (get_or ((x ∷ F) ++ v ∷ []) i []) (get_or ((y ∷ H) ++ w ∷ []) i [])
    at more zero = h.each 0
    at more (suc i) = more.each i

-- the vectors of one more item
pub sums_more :
    (n : ℕ) (xs : List Terms) (i : ℕ) (x : Terms) → i < length xs → x ≡ get_or xs i x
    → sums_of n (take (i + 1) xs) ≡ sums_of n (take i xs) ++ sum_of n x ∷ []
sums_more n xs i x lt is = ap (sums_of n) (take_more xs i x lt ∙ ap (λ y. take i xs ++ y ∷ []) (sym is)) ∙ map-append _ (take i xs) (x ∷ [])

-- one more column by a function of it
pub image_pushed :
    (ring : Ring) (f : FormalSum (variables ring) → FormalSum (variables ring)) (xs : List Terms) (i : ℕ) (x : Terms) (old new : List Terms) (w : Terms)
    → i < length xs → x ≡ get_or xs i x
    → AreSameColumns ring.modulus.value (map f (sums_of (variables ring) (take i xs))) (sums_of (variables ring) old)
    → StandsFor ring w (f (sum_of (variables ring) x)) → new ≡ old ++ w ∷ []
    → AreSameColumns ring.modulus.value (map f (sums_of (variables ring) (take (i + 1) xs))) (sums_of (variables ring) new)
image_pushed ring f xs i x old new w lt is h e en =
    let n = variables ring in
    let left : map f (sums_of n (take (i + 1) xs)) ≡ map f (sums_of n (take i xs)) ++ f (sum_of n x) ∷ [] = ap (map f) (sums_more n xs i x lt is)
    ∙ map-append f (sums_of n (take i xs)) (sum_of n x ∷ []) in
    let right : sums_of n new ≡ sums_of n old ++ sum_of n w ∷ [] = ap (sums_of n) en ∙ map-append _ old (w ∷ []) in
    subst (λ L. AreSameColumns ring.modulus.value L (sums_of n new)) (sym left)
    (subst (λ R. AreSameColumns ring.modulus.value (map f (sums_of n (take i xs)) ++ f (sum_of n x) ∷ []) R) (sym right)
    (same_pushed ring.modulus.value _ _ _ _ h (IsSame_sym e)))

pub vectors_pushed :
    (ring : Ring) (old new : List Terms) (w : Terms) → AreVectorsOver ring (ring_comparison ring) old → IsVectorOver ring (ring_comparison ring) w
    → new ≡ old ++ w ∷ [] → AreVectorsOver ring (ring_comparison ring) new
vectors_pushed ring old new w h v e = subst (AreVectorsOver ring (ring_comparison ring)) (sym e) (all_append _ old (w ∷ []) h (v, tt))

-- ---- rows that leave in turn
pub columns_more :
    (n : ℕ) (rows : List ℕ) (all old new rest rest' : List Terms) (v u : Terms)
    → sums_of n old ++ map (λ w. without_all rows w) (sums_of n rest) ≡ map (λ w. without_all rows w) (sums_of n all)
    → rest ≡ v ∷ rest' → sum_of n u ≡ without_all rows (sum_of n v) → new ≡ old ++ u ∷ []
    → sums_of n new ++ map (λ w. without_all rows w) (sums_of n rest') ≡ map (λ w. without_all rows w) (sums_of n all)
columns_more n rows all old new rest rest' v u h e eu en =
    ap (λ z. sums_of n z ++ map (λ w. without_all rows w) (sums_of n rest')) en
    ∙ ap (λ z. z ++ map (λ w. without_all rows w) (sums_of n rest')) (map-append (λ w. sum_of n w) old (u ∷ []))
    ∙ append_assoc (sums_of n old) (sum_of n u ∷ []) (map (λ w. without_all rows w) (sums_of n rest'))
    ∙ ap (λ z. sums_of n old ++ z ∷ map (λ w. without_all rows w) (sums_of n rest')) eu
    ∙ sym (ap (λ z. sums_of n old ++ map (λ w. without_all rows w) (sums_of n z)) e) ∙ h

pub columns_start :
    (n : ℕ) (rows : List ℕ) (all without rest : List Terms) → without ≡ [] → rest ≡ all
    → sums_of n without ++ map (λ w. without_all rows w) (sums_of n rest) ≡ map (λ w. without_all rows w) (sums_of n all)
columns_start n rows all without rest e er =
    ap (λ z. sums_of n z ++ map (λ w. without_all rows w) (sums_of n rest)) e ∙ ap (λ z. map (λ w. without_all rows w) (sums_of n z)) er

pub columns_done :
    (ring : Ring) (rows : List ℕ) (all without rest result : List Terms) → rest ≡ [] → result ≡ without → AreVectorsOver ring (ring_comparison ring) without
    → sums_of (variables ring) without ++ map (λ w. without_all rows w) (sums_of (variables ring) rest) ≡ map (λ w. without_all rows w)
    (sums_of (variables ring) all)
    → AreWithout ring rows all result
columns_done ring rows all without rest result e er v h =
    let n = variables ring in
    subst (AreWithout ring rows all) (sym er) (record {
      same = sym (append-nil (sums_of n without)) ∙ sym (ap (λ z. sums_of n without ++ map (λ w. without_all rows w) (sums_of n z)) e) ∙ h;
      vectors = v;
    })
