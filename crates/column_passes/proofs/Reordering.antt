-- Columns that are met by degree, and columns that are met in their order
use Rattle.std.specs.Prelude.{None, Option, Some, nat_eq, nat_lt}
use Rattle.std.proofs.Common.{Bool, List, [], ap, append-nil, arith, cond, eq-eqb, eqb-true, false, get_or, inl, inr, length, refl, subst, suc, sym}
use Rattle.std.proofs.Common.{take, true, zero, ℕ, ◌*◌, ◌++◌, ◌+◌, ◌-◌, ◌<◌, ◌∙◌, ◌∷◌, ◌≡◌, ◌≤◌, ◌⊎◌}
use Rattle.std.proofs.lemmas.Bool.Decides.{nat_tests}
use Rattle.residues.proofs.Congruences.{IsCongruent_add, IsCongruent_multiply, IsCongruent_of, IsCongruent_refl, IsCongruent_sym, IsCongruent_trans}
use Rattle.residues.specs.Residues.{IsCongruent}
use Rattle.monomials.proofs.Monomials.{degree-times, degree-unit, degree_zero}
use Rattle.monomials.proofs.Weighing.{weighted_degree-unit, weighted_degree_zero}
use Rattle.monomials.specs.Exponents.{Exponents, degree, times, unit}
use Rattle.monomials.specs.Weights.{weighted_degree}
use Rattle.formal_sums.proofs.Linear.{linear_agree, linear_append, linear_product, linear_same, linear_times, linear_zero}
use Rattle.formal_sums.proofs.OfRank.{IsOfRank_append}
use Rattle.formal_sums.proofs.Sameness.{IsSame_append, IsSame_of, IsSame_refl, IsSame_sym, IsSame_trans}
use Rattle.formal_sums.proofs.WeightedSums.{coefficient-append, indicator_other, key_cases, weighted_sum_zero_mod}
use Rattle.formal_sums.specs.FormalSums.{Each, FormalSum, IsSame, Key, coefficient, indicator, product, scale, shift}
use Rattle.minimal_laws.proofs.Grading.{homogeneous_cleared, rank_product, zero_off}
use Rattle.minimal_laws.proofs.Rows.{linear_cleared, linear_component}
use Rattle.minimal_laws.specs.Cancellation.{cleared, component}
use Rattle.minimal_laws.specs.Gradings.{IsHomogeneous}
use Rattle.minimal_laws.specs.Minimal.{IsConstantAt}
use Rattle.betti_laws.proofs.Constants.{HasNoConstant}
use Rattle.column_passes.specs.Passing.{Pivot}
use Rattle.column_passes.specs.Sorting.{numbers_from}
use Rattle.column_passes.proofs.Applying.{cleared_by, constant_there, product_by}
use Rattle.column_passes.proofs.ByDegree.{by_degree, each_by, each_put, put_by}
use Rattle.column_passes.proofs.Lists.{all_append, each_left, each_right}
use Rattle.column_passes.proofs.Zeros.{IsZeroAt, linear_of_product, product_nothing, row_degree}

-- ---- columns met in turn
-- v cleared by the pivots in turn
abbrev pub through : {n : ℕ} (p : ℕ) → List (Pivot n) → FormalSum n → FormalSum n
through p [] v = v
through p (s ∷ pivots) v = through p pivots (cleared p s.row s.inverse s.column v)

-- a column without constants, or the row and the inverse of its first one
abbrev pub IsChosen : {n : ℕ} (p : ℕ) → Option (ℕ × ℕ) → FormalSum n → Type 0
IsChosen p None u = HasNoConstant p u
IsChosen {n} p (Some a) u =
    IsConstantAt p u a.0 × ((q : ℕ) → q < a.0 → IsConstantAt p u q → ⊥) × IsCongruent p (a.1 * coefficient u (a.0, unit n)) 1

-- the pivots with that of this column
abbrev pub grown : {n : ℕ} (p : ℕ) → Option (ℕ × ℕ) → ℕ → FormalSum n → List (Pivot n) → List (Pivot n)
grown p None c v pivots = pivots
grown p (Some a) c v pivots = pivots ++ record { row = a.0; index = c; inverse = a.1; column = through p pivots v } ∷ []

-- the choices are those of the columns with these numbers, met in turn
abbrev pub AreChosen : {n : ℕ} (p : ℕ) (F : ℕ → FormalSum n) (choice : ℕ → Option (ℕ × ℕ)) → List (Pivot n) → List ℕ → Type 0
AreChosen p F choice pivots [] = Unit {0}
AreChosen p F choice pivots (c ∷ cs) = IsChosen p (choice c) (through p pivots (F c)) × AreChosen p F choice (grown p (choice c) c (F c) pivots) cs

-- the pivots after them
abbrev pub pivots_after : {n : ℕ} (p : ℕ) (F : ℕ → FormalSum n) (choice : ℕ → Option (ℕ × ℕ)) → List (Pivot n) → List ℕ → List (Pivot n)
pivots_after p F choice pivots [] = pivots
pivots_after p F choice pivots (c ∷ cs) = pivots_after p F choice (grown p (choice c) c (F c) pivots) cs

-- they clear alike
abbrev pub ClearAlike : {n : ℕ} (p : ℕ) → List (Pivot n) → List (Pivot n) → Type 0
ClearAlike {n} p pivots others = (v : FormalSum n) → IsSame p (through p pivots v) (through p others v)

module _ {n : ℕ} (p : ℕ) (pos : 0 < p) where
  pub through_end :
      (pivots : List (Pivot n)) (s : Pivot n) (v : FormalSum n) → through p (pivots ++ s ∷ []) v ≡ cleared p s.row s.inverse s.column (through p pivots v)
  through_end [] s v = refl
  through_end (t ∷ pivots) s v = through_end pivots s (cleared p t.row t.inverse t.column v)

  pub cleared_alike : (r s : ℕ) (w w' v v' : FormalSum n) → IsSame p w w' → IsSame p v v' → IsSame p (cleared p r s w v) (cleared p r s w' v')
  cleared_alike r s w w' v v' e f = IsSame_trans (cleared_by p pos r s w w' v e) (linear_same pos (linear_cleared p r s w') f)

  pub chosen_same : (choice : Option (ℕ × ℕ)) (u w : FormalSum n) → IsSame p u w → IsChosen p choice u → IsChosen p choice w
  chosen_same None u w e h = record { by_row = λ i. IsCongruent_trans (IsCongruent_sym (e.by_key (i, unit n))) (h.by_row i) }
  chosen_same (Some a) u w e h = (
    constant_there p u w a.0 e h.0,
    (λ q lt k. h.1 q lt (constant_there p w u q (IsSame_sym e) k)),
    IsCongruent_trans (IsCongruent_multiply (IsCongruent_refl p a.1) (IsCongruent_sym (e.by_key (a.0, unit n)))) h.2,
  )

  grown_alike :
      (choice : Option (ℕ × ℕ)) (c : ℕ) (v : FormalSum n) (pivots others : List (Pivot n)) → ClearAlike p pivots others
      → ClearAlike p (grown p choice c v pivots) (grown p choice c v others)
  grown_alike None c v pivots others h = h
  grown_alike (Some a) c v pivots others h = λ z.
      IsSame_trans (IsSame_of p _ _ (through_end pivots _ z))
      (IsSame_trans (cleared_alike a.0 a.1 (through p pivots v) (through p others v) (through p pivots z) (through p others z) (h v) (h z))
      (IsSame_of p _ _ (sym (through_end others _ z))))

  -- pivots that clear alike choose alike
  pub chosen_alike :
      (F : ℕ → FormalSum n) (choice : ℕ → Option (ℕ × ℕ)) (pivots others : List (Pivot n)) (cs : List ℕ) → ClearAlike p pivots others
      → AreChosen p F choice pivots cs
      → AreChosen p F choice others cs × ClearAlike p (pivots_after p F choice pivots cs) (pivots_after p F choice others cs)
  chosen_alike F choice pivots others [] alike h = (tt, alike)
  chosen_alike F choice pivots others (c ∷ cs) alike h =
      let more = chosen_alike F choice (grown p (choice c) c (F c) pivots) (grown p (choice c) c (F c) others) cs
      (grown_alike (choice c) c (F c) pivots others alike) h.1 in
      ((chosen_same (choice c) (through p pivots (F c)) (through p others (F c)) (alike (F c)) h.0, more.0), more.1)

  -- ---- two pivots, the first of which is zero in the row of the second
  commute :
      (r s q t : ℕ) (w x z : FormalSum n) → IsZeroAt p q w
      → IsSame p (cleared p q t (cleared p r s w x) (cleared p r s w z)) (cleared p r s w (cleared p q t x z))
  commute r s q t w x z none =
      let C = λ (v : FormalSum n). cleared p r s w v in
      let A = scale ((p - 1) * s) (unit n) (component r z) in
      let B = scale ((p - 1) * t) (unit n) (component q z) in
      let B' = scale ((p - 1) * t) (unit n) (component q (C z)) in
      let entry : IsSame p (component q (C z)) (component q z) =
      IsSame_trans (linear_append (linear_component q) z (product A w))
      (IsSame_trans (IsSame_append (IsSame_refl p (component q z))
      (IsSame_trans (linear_of_product p (linear_component q) refl A w)
      (IsSame_trans (linear_same_right A (component q w) [] none) (IsSame_of p _ _ (product_nothing p A)))))
      (IsSame_of p _ _ (append-nil (component q z))))
      in
      let left : IsSame p (C z ++ product B' (C x)) (C z ++ product B (C x)) =
      IsSame_append (IsSame_refl p (C z)) (linear_same pos (linear_product (C x)) (linear_same pos (linear_times ((p - 1) * t)) entry))
      in
      let right : IsSame p (C (z ++ product B x)) (C z ++ product B (C x)) =
      IsSame_trans (linear_append (linear_cleared p r s w) z (product B x))
      (IsSame_append (IsSame_refl p (C z)) (linear_of_product p (linear_cleared p r s w) refl B x))
      in
      IsSame_trans left (IsSame_sym right)
    where
      linear_same_right : (u v v' : FormalSum n) → IsSame p v v' → IsSame p (product u v) (product u v')
      linear_same_right u v v' e = product_by p pos u v v' e

-- ---- degrees
module _ {n : ℕ} (p : ℕ) (pos : 0 < p) (ws rows : List ℕ) where
  abbrev pub AreGradedPivots : List (Pivot n) → Type 0
  AreGradedPivots pivots = Each (λ s. IsHomogeneous ws p rows (get_or rows s.row 0) s.column) pivots

  homogeneous_once :
      (d r s : ℕ) (w v : FormalSum n) → IsHomogeneous ws p rows (get_or rows r 0) w → IsHomogeneous ws p rows d v
      → IsHomogeneous ws p rows d (cleared p r s w v)
  homogeneous_once d r s w v h g =
      let a = scale ((p - 1) * s) (unit n) (component r v) in
      homogeneous_cleared rows r s d w v h g (IsOfRank_append v (product a w) g.rank (rank_product p (length rows) a w h.rank))

  pub homogeneous_through :
      (d : ℕ) (pivots : List (Pivot n)) (v : FormalSum n) → AreGradedPivots pivots → IsHomogeneous ws p rows d v
      → IsHomogeneous ws p rows d (through p pivots v)
  homogeneous_through d [] v h g = g
  homogeneous_through d (s ∷ pivots) v h g = homogeneous_through d pivots (cleared p s.row s.inverse s.column v) h.1
      (homogeneous_once d s.row s.inverse s.column v h.0 g)

  pub grown_graded :
      (choice : Option (ℕ × ℕ)) (c d : ℕ) (v : FormalSum n) (pivots : List (Pivot n)) → AreGradedPivots pivots → IsHomogeneous ws p rows d v
      → IsChosen p choice (through p pivots v) → AreGradedPivots (grown p choice c v pivots)
  grown_graded None c d v pivots h g k = h
  grown_graded (Some a) c d v pivots h g k =
      all_append _ pivots (_ ∷ []) h (row_degree rows d a.0 (through p pivots v) (homogeneous_through d pivots v h g) k.0, tt)

  -- a row of greater degree
  zero_below : (d r : ℕ) (w : FormalSum n) → IsHomogeneous ws p rows d w → d < get_or rows r 0 → IsZeroAt p r w
  zero_below d r w h lt = linear_agree pos (linear_component r) linear_zero w (λ x k. at x k (nat_eq k.0 r) refl)
    where
      at : (x k : Key n) (b : Bool) → nat_eq k.0 r ≡ b → IsCongruent p (cond b (indicator x (0, k.1)) 0) 0 ⊎ IsCongruent p (coefficient w k) 0
      at x k true e = inr (zero_off h k
          (λ q. let z : get_or rows k.0 0 ≡ get_or rows r 0 = ap (λ i. get_or rows i 0) (eqb-true k.0 r e) in omega (arith, q, z, lt)))
      at x k false e = inl (IsCongruent_refl p 0)

  times_unit_right : (a b : Exponents n) → times a b ≡ unit n → b ≡ unit n
  times_unit_right a b e =
      degree_zero b (let x : degree (times a b) ≡ degree (unit n) = ap degree e in let y = degree-times a b in let z = degree-unit n in omega arith)

  -- a multiple has no constant where the vector has none
  product_constant : (q : ℕ) (a w : FormalSum n) → IsCongruent p (coefficient w (q, unit n)) 0 → IsCongruent p (coefficient (product a w) (q, unit n)) 0
  product_constant q a w h =
      IsCongruent_trans (IsCongruent_of p _ _ ((linear_product w).sums (indicator (q, unit n)) a))
      (weighted_sum_zero_mod _ a (λ k. inl (weighted_sum_zero_mod (λ l. indicator (q, unit n) (shift k.1 l)) w (λ l. at k l (key_cases (q, unit n) l)))))
    where
      at :
          (k l : Key n) → ((q, unit n) ≡ l) ⊎ ((q, unit n) ≡ l → ⊥)
          → IsCongruent p (indicator (q, unit n) (shift k.1 l)) 0 ⊎ IsCongruent p (coefficient w l) 0
      at k l (inl e) = inr (subst (λ z. IsCongruent p (coefficient w z) 0) e h)
      at k l (inr ne) = inl (IsCongruent_of p _ 0 (indicator_other (q, unit n) (shift k.1 l) (λ z. ne (
          ap (λ i. (i, unit n)) (ap (λ y. y.0) z) ∙ ap (λ m. (l.0, m)) (sym (times_unit_right k.1 l.1 (sym (ap (λ y. y.1) z))))))))

  -- a pivot of less degree leaves the constants
  constants_left :
      (e r s q : ℕ) (w u : FormalSum n) → IsHomogeneous ws p rows (get_or rows r 0) w → IsHomogeneous ws p rows e u → get_or rows r 0 < e
      → IsCongruent p (coefficient (cleared p r s w u) (q, unit n)) (coefficient u (q, unit n))
  constants_left e r s q w u hw hu lt = go (nat_eq (get_or rows q 0) e) refl
    where
      one : weighted_degree ws (unit n) ≡ 0
      one = weighted_degree-unit n ws

      go : (b : Bool) → nat_eq (get_or rows q 0) e ≡ b → IsCongruent p (coefficient (cleared p r s w u) (q, unit n)) (coefficient u (q, unit n))
      go true f =
          let at : get_or rows q 0 ≡ e = eqb-true (get_or rows q 0) e f in
          let none = zero_off hw (q, unit n) (λ z. omega (arith, z, at, lt, one)) in
          let a = scale ((p - 1) * s) (unit n) (component r u) in
          IsCongruent_trans (IsCongruent_of p _ _ (coefficient-append u (product a w) (q, unit n)))
          (IsCongruent_trans (IsCongruent_add (IsCongruent_refl p (coefficient u (q, unit n))) (product_constant q a w none))
          (IsCongruent_of p _ _ (omega arith)))
      go false f =
          let ne : (get_or rows q 0 + weighted_degree ws (unit n) ≡ e → ⊥) =
          λ z. (let t : nat_eq (get_or rows q 0) e ≡ true = eq-eqb (get_or rows q 0) e (omega (arith, z, one)) in absurd (cc)) in
          IsCongruent_trans (zero_off (homogeneous_once e r s w u hw hu) (q, unit n) ne) (IsCongruent_sym (zero_off hu (q, unit n) ne))

  constant_by_degree : (e q : ℕ) (u : FormalSum n) → IsHomogeneous ws p rows e u → (IsCongruent p (coefficient u (q, unit n)) 0 → ⊥) → IsConstantAt p u q
  constant_by_degree e q u h nz = record {
    nonzero = nz;
    alone = λ m ne.
        let a = h.degrees (q, unit n) nz in
        let one = weighted_degree-unit n ws in
        zero_off h (q, m) (λ z. ne (weighted_degree_zero ws m (omega (arith, a, z, one))));
  }

  chosen_before :
      (choice : Option (ℕ × ℕ)) (e r s : ℕ) (w u : FormalSum n) → IsHomogeneous ws p rows (get_or rows r 0) w → IsHomogeneous ws p rows e u
      → get_or rows r 0 < e
      → IsChosen p choice (cleared p r s w u) → IsChosen p choice u
  chosen_before None e r s w u hw hu lt h = record { by_row = λ i. IsCongruent_trans (IsCongruent_sym (constants_left e r s i w u hw hu lt)) (h.by_row i) }
  chosen_before (Some a) e r s w u hw hu lt h = (
    constant_by_degree e a.0 u hu (λ z. h.0.nonzero (IsCongruent_trans (constants_left e r s a.0 w u hw hu lt) z)),
    (λ q l k. h.1 q l (constant_by_degree e q (cleared p r s w u) (homogeneous_once e r s w u hw hu)
        (λ z. k.nonzero (IsCongruent_trans (IsCongruent_sym (constants_left e r s q w u hw hu lt)) z)))),
    IsCongruent_trans (IsCongruent_multiply (IsCongruent_refl p a.1) (IsCongruent_sym (constants_left e r s a.0 w u hw hu lt))) h.2,
  )

  -- ---- two columns in the other order
  -- column j, of less degree, before column i, or after it
  module _ (F : ℕ → FormalSum n) (degrees : ℕ → ℕ) (graded : (c : ℕ) → IsHomogeneous ws p rows (degrees c) (F c)) (pivots : List (Pivot n))
      (over : AreGradedPivots pivots)
      (i j : ℕ) (less : degrees j < degrees i) where
    abbrev X : FormalSum n
    X = through p pivots (F i)

    abbrev Y : FormalSum n
    Y = through p pivots (F j)

    x_graded : IsHomogeneous ws p rows (degrees i) (through p pivots (F i))
    x_graded = homogeneous_through (degrees i) pivots (F i) over (graded i)

    y_graded : IsHomogeneous ws p rows (degrees j) (through p pivots (F j))
    y_graded = homogeneous_through (degrees j) pivots (F j) over (graded j)

    row_at : (d r : ℕ) (v : FormalSum n) → IsHomogeneous ws p rows d v → IsConstantAt p v r → get_or rows r 0 ≡ d
    row_at d r v h k = let e = h.degrees (r, unit n) k.nonzero in let one = weighted_degree-unit n ws in omega (arith, e, one)

    -- Y is zero in the row of a constant of X
    y_zero : (r : ℕ) → IsConstantAt p (through p pivots (F i)) r → IsZeroAt p r (through p pivots (F j))
    y_zero r k = let e = row_at (degrees i) r X x_graded k in zero_below (degrees j) r Y y_graded (omega (arith, e, less))

    y_kept : (r s : ℕ) → IsConstantAt p (through p pivots (F i)) r → IsSame p (cleared p r s X Y) Y
    y_kept r s k =
        IsSame_trans (IsSame_append (IsSame_refl p Y) (linear_same pos (linear_product X) (linear_same pos (linear_times ((p - 1) * s)) (y_zero r k))))
        (IsSame_of p _ _ (append-nil Y))

    pub swapped :
        (a b : Option (ℕ × ℕ)) → IsChosen p a (through p pivots (F j)) → IsChosen p b (through p (grown p a j (F j) pivots) (F i))
        → (IsChosen p b (through p pivots (F i)) × IsChosen p a (through p (grown p b i (F i) pivots) (F j)))
        × ClearAlike p (grown p b i (F i) (grown p a j (F j) pivots)) (grown p a j (F j) (grown p b i (F i) pivots))
    swapped None None ha hb = ((hb, ha), λ z. IsSame_refl p _)
    swapped None (Some b) ha hb = (
      (
        hb,
        chosen_same p pos None Y (through p (grown p (Some b) i (F i) pivots) (F j))
            (IsSame_trans (IsSame_sym (y_kept b.0 b.1 hb.0)) (IsSame_of p _ _ (sym (through_end p pos pivots _ (F j))))) ha,
      ),
      λ z. IsSame_refl p _,
    )
    swapped (Some a) None ha hb =
        let lt : get_or rows a.0 0 < degrees i = (let e = row_at (degrees j) a.0 Y y_graded ha.0 in omega (arith, e, less)) in
        let w = row_degree rows (degrees j) a.0 Y y_graded ha.0 in
        ((chosen_before None (degrees i) a.0 a.1 Y X w x_graded lt (subst (IsChosen p None) (through_end p pos pivots _ (F i)) hb), ha), λ z. IsSame_refl p _)
    swapped (Some a) (Some b) ha hb =
        let lt : get_or rows a.0 0 < degrees i = (let e = row_at (degrees j) a.0 Y y_graded ha.0 in omega (arith, e, less)) in
        let w = row_degree rows (degrees j) a.0 Y y_graded ha.0 in
        let first = chosen_before (Some b) (degrees i) a.0 a.1 Y X w x_graded lt (subst (IsChosen p (Some b)) (through_end p pos pivots _ (F i)) hb) in
        let y' = through p (grown p (Some b) i (F i) pivots) (F j) in
        let x' = through p (grown p (Some a) j (F j) pivots) (F i) in
        let ye : IsSame p Y y' = IsSame_trans (IsSame_sym (y_kept b.0 b.1 first.0)) (IsSame_of p _ _ (sym (through_end p pos pivots _ (F j)))) in (
          (first, chosen_same p pos (Some a) Y y' ye ha),
          λ z.
              let Z = through p pivots z in
              IsSame_trans (IsSame_of p _ _ (through_end p pos (grown p (Some a) j (F j) pivots) _ z ∙ ap (cleared p b.0 b.1 x') (through_end p pos pivots _ z)
              ∙ ap (λ x. cleared p b.0 b.1 x (cleared p a.0 a.1 Y Z)) (through_end p pos pivots _ (F i))))
              (IsSame_trans (commute p pos a.0 a.1 b.0 b.1 Y X Z (y_zero b.0 first.0))
              (IsSame_trans (cleared_by p pos a.0 a.1 Y y' (cleared p b.0 b.1 X Z) ye)
              (IsSame_of p _ _ (sym (through_end p pos (grown p (Some b) i (F i) pivots) _ z ∙ ap (cleared p a.0 a.1 y') (through_end p pos pivots _ z)))))),
        )

-- ---- columns by degree
module _ {n : ℕ} (p : ℕ) (pos : 0 < p) (ws rows degrees : List ℕ) (F : ℕ → FormalSum n) (graded : (c : ℕ) → IsHomogeneous ws p rows (get_or degrees c 0) (F c))
    (choice : ℕ → Option (ℕ × ℕ)) where
  abbrev After : List (Pivot n) → List ℕ → List (Pivot n)
  After pivots cs = pivots_after p F choice pivots cs

  less_of : (a b : ℕ) → nat_lt a b ≡ true → a < b
  less_of a b e = grind (arith, nat_tests)

  -- a column that was put behind those of less degree, before them
  put_chosen :
      (c : ℕ) (cs : List ℕ) (pivots : List (Pivot n)) → AreGradedPivots p pos ws rows pivots → AreChosen p F choice pivots (put_by degrees c cs)
      → AreChosen p F choice pivots (c ∷ cs) × ClearAlike p (pivots_after p F choice pivots (put_by degrees c cs)) (pivots_after p F choice pivots (c ∷ cs))
  put_chosen c [] pivots over h = (h, λ z. IsSame_refl p _)
  put_chosen c (b ∷ cs) pivots over h =
      go (nat_lt (get_or degrees b 0) (get_or degrees c 0)) refl (λ o k. put_chosen c cs (grown p (choice b) b (F b) pivots) o k) h
    where
      go :
          (t : Bool) → nat_lt (get_or degrees b 0) (get_or degrees c 0) ≡ t
          → (AreGradedPivots p pos ws rows (grown p (choice b) b (F b) pivots) → AreChosen p F choice (grown p (choice b) b (F b) pivots) (put_by degrees c cs)
          → AreChosen p F choice (grown p (choice b) b (F b) pivots) (c ∷ cs)
          × ClearAlike p (pivots_after p F choice (grown p (choice b) b (F b) pivots) (put_by degrees c cs))
          (pivots_after p F choice (grown p (choice b) b (F b) pivots) (c ∷ cs)))
          → AreChosen p F choice pivots (cond t (b ∷ put_by degrees c cs) (c ∷ b ∷ cs))
          → AreChosen p F choice pivots (c ∷ b ∷ cs)
          × ClearAlike p (pivots_after p F choice pivots (cond t (b ∷ put_by degrees c cs) (c ∷ b ∷ cs))) (pivots_after p F choice pivots (c ∷ b ∷ cs))
      go false e more k = (k, λ z. IsSame_refl p _)
      go true e more k =
          let B = grown p (choice b) b (F b) pivots in
          let inner = more (grown_graded p pos ws rows (choice b) b (get_or degrees b 0) (F b) pivots over (graded b) k.0) k.1 in
          let swap = swapped p pos ws rows F (λ i. get_or degrees i 0) graded pivots over c b (less_of (get_or degrees b 0) (get_or degrees c 0) e)
          (choice b) (choice c) k.0 inner.0.0 in
          let rest = chosen_alike p pos F choice (grown p (choice c) c (F c) B)
          (grown p (choice b) b (F b) (grown p (choice c) c (F c) pivots)) cs swap.1 inner.0.1 in
          ((swap.0.0, (swap.0.1, rest.0)), λ z. IsSame_trans (inner.1 z) (rest.1 z))

  pub chosen_graded :
      (cs : List ℕ) (pivots : List (Pivot n)) → AreGradedPivots p pos ws rows pivots → AreChosen p F choice pivots cs
      → AreGradedPivots p pos ws rows (pivots_after p F choice pivots cs)
  chosen_graded [] pivots over h = over
  chosen_graded (c ∷ cs) pivots over h =
      chosen_graded cs (grown p (choice c) c (F c) pivots) (grown_graded p pos ws rows (choice c) c (get_or degrees c 0) (F c) pivots over (graded c) h.0) h.1

  pub sorted_chosen :
      (cs : List ℕ) (pivots : List (Pivot n)) → AreGradedPivots p pos ws rows pivots → AreChosen p F choice pivots (by_degree degrees cs)
      → AreChosen p F choice pivots cs × ClearAlike p (pivots_after p F choice pivots (by_degree degrees cs)) (pivots_after p F choice pivots cs)
  sorted_chosen [] pivots over h = (tt, λ z. IsSame_refl p _)
  sorted_chosen (c ∷ cs) pivots over h =
      let first = put_chosen c (by_degree degrees cs) pivots over h in
      let C = grown p (choice c) c (F c) pivots in
      let more = sorted_chosen cs C (grown_graded p pos ws rows (choice c) c (get_or degrees c 0) (F c) pivots over (graded c) first.0.0) first.0.1 in
      ((first.0.0, more.0), λ z. IsSame_trans (first.1 z) (more.1 z))

-- ---- one column more, and other choices that agree
module _ {n : ℕ} (p : ℕ) (F : ℕ → FormalSum n) where
  pub after_end :
      (choice : ℕ → Option (ℕ × ℕ)) (pivots : List (Pivot n)) (cs : List ℕ) (c : ℕ)
      → pivots_after p F choice pivots (cs ++ c ∷ []) ≡ grown p (choice c) c (F c) (pivots_after p F choice pivots cs)
  after_end choice pivots [] c = refl
  after_end choice pivots (b ∷ cs) c = after_end choice (grown p (choice b) b (F b) pivots) cs c

  pub chosen_end :
      (choice : ℕ → Option (ℕ × ℕ)) (pivots : List (Pivot n)) (cs : List ℕ) (c : ℕ) → AreChosen p F choice pivots cs
      → IsChosen p (choice c) (through p (pivots_after p F choice pivots cs) (F c)) → AreChosen p F choice pivots (cs ++ c ∷ [])
  chosen_end choice pivots [] c h k = (k, tt)
  chosen_end choice pivots (b ∷ cs) c h k = (h.0, chosen_end choice (grown p (choice b) b (F b) pivots) cs c h.1 k)

  pub chosen_agree :
      (choice other : ℕ → Option (ℕ × ℕ)) (pivots : List (Pivot n)) (cs : List ℕ) → Each (λ b. choice b ≡ other b) cs → AreChosen p F choice pivots cs
      → AreChosen p F other pivots cs × (pivots_after p F choice pivots cs ≡ pivots_after p F other pivots cs)
  chosen_agree choice other pivots [] e h = (tt, refl)
  chosen_agree choice other pivots (b ∷ cs) e h =
      let g : grown p (choice b) b (F b) pivots ≡ grown p (other b) b (F b) pivots = ap (λ z. grown p z b (F b) pivots) e.0 in
      let more = chosen_agree choice other (grown p (other b) b (F b) pivots) cs e.1 (subst (λ z. AreChosen p F choice z cs) g h.1) in
      ((subst (λ z. IsChosen p z (through p pivots (F b))) e.0 h.0, more.0), ap (λ z. pivots_after p F choice z cs) g ∙ more.1)

-- ---- rows of no pivot
-- the choice is not in row q
abbrev pub IsOff : ℕ → Option (ℕ × ℕ) → Type 0
IsOff q None = Unit {0}
IsOff q (Some a) = a.0 ≡ q → ⊥

abbrev pub AreOff : {n : ℕ} → ℕ → List (Pivot n) → Type 0
AreOff q pivots = Each (λ s. s.row ≡ q → ⊥) pivots

module _ {n : ℕ} (p : ℕ) (F : ℕ → FormalSum n) (choice : ℕ → Option (ℕ × ℕ)) (q : ℕ) where
  off_grown : (ch : Option (ℕ × ℕ)) (c : ℕ) (v : FormalSum n) (pivots : List (Pivot n)) → AreOff q pivots → IsOff q ch → AreOff q (grown p ch c v pivots)
  off_grown None c v pivots h k = h
  off_grown (Some a) c v pivots h k = all_append _ pivots (_ ∷ []) h (k, tt)

  off_both : (ch : Option (ℕ × ℕ)) (c : ℕ) (v : FormalSum n) (pivots : List (Pivot n)) → AreOff q (grown p ch c v pivots) → AreOff q pivots × IsOff q ch
  off_both None c v pivots h = (h, tt)
  off_both (Some a) c v pivots h =
      let S : Pivot n = record { row = a.0; index = c; inverse = a.1; column = through p pivots v } in
      (each_left (λ (s : Pivot n). s.row ≡ q → ⊥) pivots (S ∷ []) h, (each_right (λ (s : Pivot n). s.row ≡ q → ⊥) pivots (S ∷ []) h).0)

  pub off_pivots : (pivots : List (Pivot n)) (cs : List ℕ) → AreOff q pivots → Each (λ c. IsOff q (choice c)) cs → AreOff q (pivots_after p F choice pivots cs)
  off_pivots pivots [] h k = h
  off_pivots pivots (c ∷ cs) h k = off_pivots (grown p (choice c) c (F c) pivots) cs (off_grown (choice c) c (F c) pivots h k.0) k.1

  pub off_choices : (pivots : List (Pivot n)) (cs : List ℕ) → AreOff q (pivots_after p F choice pivots cs)
      → AreOff q pivots × Each (λ c. IsOff q (choice c)) cs
  off_choices pivots [] h = (h, tt)
  off_choices pivots (c ∷ cs) h =
      let more = off_choices (grown p (choice c) c (F c) pivots) cs h in
      let one = off_both (choice c) c (F c) pivots more.0 in
      (one.0, (one.1, more.1))

-- ---- numbers by degree
each_unput : (P : ℕ → Type 0) (degrees : List ℕ) (c : ℕ) (cs : List ℕ) → Each P (put_by degrees c cs) → P c × Each P cs
each_unput P degrees c [] h = (h.0, tt)
each_unput P degrees c (b ∷ cs) h = go (nat_lt (get_or degrees b 0) (get_or degrees c 0)) (λ k. each_unput P degrees c cs k) h
  where
    go : (t : Bool) → (Each P (put_by degrees c cs) → P c × Each P cs) → Each P (cond t (b ∷ put_by degrees c cs) (c ∷ b ∷ cs)) → P c × (P b × Each P cs)
    go true more k = let q = more k.1 in (q.0, (k.0, q.1))
    go false more k = k

pub each_unby : (P : ℕ → Type 0) (degrees cs : List ℕ) → Each P (by_degree degrees cs) → Each P cs
each_unby P degrees [] h = tt
each_unby P degrees (c ∷ cs) h = let q = each_unput P degrees c (by_degree degrees cs) h in (q.0, each_unby P degrees cs q.1)

-- no number comes twice
abbrev pub AreDistinct : List ℕ → Type 0
AreDistinct [] = Unit {0}
AreDistinct (c ∷ cs) = Each (λ b. b ≡ c → ⊥) cs × AreDistinct cs

distinct_put : (degrees : List ℕ) (c : ℕ) (cs : List ℕ) → Each (λ b. b ≡ c → ⊥) cs → AreDistinct cs → AreDistinct (put_by degrees c cs)
distinct_put degrees c [] h g = (tt, tt)
distinct_put degrees c (b ∷ cs) h g = go (nat_lt (get_or degrees b 0) (get_or degrees c 0)) (distinct_put degrees c cs h.1 g.1)
  where
    go : (t : Bool) → AreDistinct (put_by degrees c cs) → AreDistinct (cond t (b ∷ put_by degrees c cs) (c ∷ b ∷ cs))
    go true m = (each_put (λ z. z ≡ b → ⊥) degrees c cs (λ e. h.0 (sym e)) g.0, m)
    go false m = (h, g)

distinct_by : (degrees cs : List ℕ) → AreDistinct cs → AreDistinct (by_degree degrees cs)
distinct_by degrees [] h = tt
distinct_by degrees (c ∷ cs) h = distinct_put degrees c (by_degree degrees cs) (each_by (λ z. z ≡ c → ⊥) degrees cs h.0) (distinct_by degrees cs h.1)

pub numbers_inside : (i k m : ℕ) → i + k ≤ m → Each (λ c. c < m) (numbers_from i k)
numbers_inside i zero m le = tt
numbers_inside i (suc k) m le = (omega (arith, le), numbers_inside (i + 1) k m (omega (arith, le)))

numbers_above : (i j k : ℕ) → i < j → Each (λ c. c ≡ i → ⊥) (numbers_from j k)
numbers_above i j zero lt = tt
numbers_above i j (suc k) lt = ((λ e. omega (arith, e, lt)), numbers_above i (j + 1) k (omega (arith, lt)))

distinct_numbers : (i k : ℕ) → AreDistinct (numbers_from i k)
distinct_numbers i zero = tt
distinct_numbers i (suc k) = (numbers_above i (i + 1) k (omega arith), distinct_numbers (i + 1) k)

pub distinct_order : (degrees : List ℕ) (k : ℕ) → AreDistinct (by_degree degrees (numbers_from 0 k))
distinct_order degrees k = distinct_by degrees (numbers_from 0 k) (distinct_numbers 0 k)

pub others_before : (cs : List ℕ) (k c : ℕ) → AreDistinct cs → k < length cs → c ≡ get_or cs k c → Each (λ b. b ≡ c → ⊥) (take k cs)
others_before [] k c h lt e = absurd (omega (arith, lt))
others_before (b ∷ cs) zero c h lt e = tt
others_before (b ∷ cs) (suc k) c h lt e = ((λ z. at cs k c h.0 (omega (arith, lt)) e (sym z)), others_before cs k c h.1 (omega (arith, lt)) e)
  where
    at : (xs : List ℕ) (k c : ℕ) → Each (λ z. z ≡ b → ⊥) xs → k < length xs → c ≡ get_or xs k c → c ≡ b → ⊥
    at [] k c h lt e z = omega (arith, lt)
    at (x ∷ xs) zero c h lt e z = h.0 (sym e ∙ z)
    at (x ∷ xs) (suc k) c h lt e z = at xs k c h.1 (omega (arith, lt)) e z
