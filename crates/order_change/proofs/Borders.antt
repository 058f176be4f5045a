-- Products of variables and standard monomials that are not standard
use Rattle.std.proofs.Common.{List, Less, Ordering, [], ap, ap₂, arith, eq-zero-or-pos, get_or, inl, inr, length, refl, subst, suc, sym, zero, ℕ, ◌+◌, ◌-◌, ◌<◌, ◌∙◌, ◌∷◌, ◌≡◌, ◌≤◌, ◌⊎◌}
use Rattle.std.proofs.lemmas.Bool.{cases_lt}
use Rattle.std.specs.Prelude.{slice_index}
use Rattle.monomials.proofs.Monomials.{times-unit, times_assoc, times_cancel, times_comm}
use Rattle.monomials.specs.Exponents.{Divides, Exponents, cons, exponents_of, head, nil, tail, times, unit}
use Rattle.formal_sums.specs.FormalSums.{Each, FormalSum, scale}
use Rattle.monomial_orders.specs.Comparisons.{comparison}
use Rattle.monomial_orders.specs.Kept.{Monomial, monomials}
use Rattle.monomial_orders.specs.Laws.{comparison_order}
use Rattle.term_lists.specs.Vectors.{sums_of}
use Rattle.term_lists.specs.declared.key.Key.{Key as CodeKey}
use Rattle.term_lists.specs.declared.ring.Ring.{Ring}
use Rattle.orders.specs.MonomialOrders.{IsMonomialOrder}
use Rattle.change_laws.proofs.Listing.{standard_divisor}
use Rattle.change_laws.proofs.Modulo.{modulo_scale, modulo_trans}
use Rattle.change_laws.specs.Combinations.{IsSameModulo, expansion}
use Rattle.change_laws.specs.Standard.{AreStandard, IsStandard, power}
use Rattle.order_change.proofs.Filling.{each_at}
use Rattle.order_change.proofs.Items.{length_monomials}
use Rattle.order_change.proofs.Tails.{given_positive}
use Rattle.order_change.proofs.Orders.{less_not_back, less_not_itself, less_of_not, less_times, less_trans, variable_above}
use Rattle.order_change.specs.Forms.{AreProductsOf, AreResidues, IsRowForm}
use Rattle.order_change.specs.Products.{IsAscending, IsCandidate, IsLeast, variable_product_at}
use Rattle.order_change.specs.Tables.{AreFormsOver, IsFormOver, IsBasisGiven, IsRowNormalForm, IsSmaller, IsSpare}
use Rattle.order_change.specs.declared.products.Candidate.{Candidate}

-- a multiple of two variables
two_variables :
    (n i j : ℕ) (b q : Exponents n) → i < n → j < n → (i ≡ j → ⊥) → times (power n i 1) b ≡ times (power n j 1) q
    → (s : Exponents n) × (b ≡ times (power n j 1) s)
two_variables zero i j b q il jl ne e = absurd (omega (arith, il))
two_variables (suc n) zero zero b q il jl ne e = absurd (ne refl)
two_variables (suc n) zero (suc j) (cons a v) (cons c w) il jl ne e =
    (cons a w, ap₂ cons (omega arith) (sym (times-unit v) ∙ ap tail e))
two_variables (suc n) (suc i) zero (cons a v) (cons c w) il jl ne e =
    let h : 0 + a ≡ 1 + c = ap head e in
    (cons c v, ap₂ cons (omega (arith, h)) (sym (times-unit v)))
two_variables (suc n) (suc i) (suc j) (cons a v) (cons c w) il jl ne e =
    let r = two_variables n i j v w (omega (arith, il)) (omega (arith, jl)) (λ d. ne (ap suc d)) (ap tail e) in
    (cons a r.0, ap₂ cons (omega arith) r.1)

-- a monomial with a variable is a multiple of it
pub variable_divides : (n j : ℕ) (xs : List ℕ) → j < n → 0 < slice_index xs j → (t : Exponents n) × (times (power n j 1) t ≡ exponents_of n xs)
variable_divides zero j xs lt some = absurd (omega (arith, lt))
variable_divides (suc n) j [] lt some = absurd (omega (arith, some))
variable_divides (suc n) zero (x ∷ xs) lt some = (cons (x - 1) (exponents_of n xs), ap₂ cons (omega (arith, some)) (times-unit (exponents_of n xs)))
variable_divides (suc n) (suc j) (x ∷ xs) lt some =
    let r = variable_divides n j xs (omega (arith, lt)) some in
    (cons x r.0, ap₂ cons (omega arith) r.1)

pub without_variables : (n : ℕ) (xs : List ℕ) → ((j : ℕ) → j < n → slice_index xs j ≡ 0) → exponents_of n xs ≡ unit n
without_variables zero xs none = refl
without_variables (suc n) [] none = ap (cons 0) (without_variables n [] (λ j lt. refl))
without_variables (suc n) (x ∷ xs) none = ap₂ cons (none 0 (omega arith)) (without_variables n xs (λ j lt. none (suc j) (omega (arith, lt))))

-- m = r l, and the variable j divides r: without it, m is still a multiple of l
pub spare_by :
    (n : ℕ) (l m : Exponents n) (rest : List ℕ) (j : ℕ) → times (exponents_of n rest) l ≡ m → j < n → 0 < slice_index rest j
    → IsSpare n (l ∷ []) m j
spare_by n l m rest j e lt some =
    let (t, d) = variable_divides n j rest lt some in
    (lt, times t l, sym (times_assoc (power n j 1) t l) ∙ ap (λ z. times z l) d ∙ e, λ s. s 0 (omega arith) (t, refl))

pub spare_none :
    (n : ℕ) (l m : Exponents n) (rest : List ℕ) → times (exponents_of n rest) l ≡ m → ((j : ℕ) → j < n → slice_index rest j ≡ 0) → l ≡ m
spare_none n l m rest e none = sym (times-unit l) ∙ ap (λ z. times z l) (sym (without_variables n rest none)) ∙ e

pub spare_in : (n : ℕ) (L : List (Exponents n)) (k : ℕ) (l m : Exponents n) (j : ℕ) → k < length L → get_or L k (unit n) ≡ l → IsSpare n (l ∷ []) m j → IsSpare n L m j
spare_in n L k l m j lt e (jl, q, d, free) = (jl, q, d, λ s. free (one s))
  where
    one : IsStandard L q → IsStandard (l ∷ []) q
    one s zero h div = s k lt (subst (λ z. Divides z q) (sym e) div)
    one s (suc h) hl div = omega (arith, hl)

-- a divisor of 1 is 1
pub unit_divisor : {n : ℕ} (l : Exponents n) → Divides l (unit n) → l ≡ unit n
unit_divisor l (t, e) = go t l e
  where
    go : {n : ℕ} (t l : Exponents n) → times t l ≡ unit n → l ≡ unit n
    go nil nil e = refl
    go (cons a t) (cons b l) e = let h : a + b ≡ 0 = ap head e in ap₂ cons (omega (arith, h)) (go t l (ap tail e))

-- a row has no residue behind its end
pub behind : (row : List ℕ) (t : ℕ) → length row ≤ t → slice_index row t ≡ 0
behind [] t le = refl
behind (x ∷ row) zero le = absurd (omega (arith, le))
behind (x ∷ row) (suc t) le = behind row t (omega (arith, le))

pub within : (d p : ℕ) (row : List ℕ) (t : ℕ) → AreResidues p d row → 0 < slice_index row t → t < d
within d p row t h some = go (cases_lt t d)
  where
    go : (t < d) ⊎ (d ≤ t) → t < d
    go (inl l) = l
    go (inr g) = absurd (let z = behind row t (omega (arith, h.long, g)) in omega (arith, z, some))

module _ {n : ℕ} (compare : Exponents n → Exponents n → Ordering) (o : IsMonomialOrder compare) (p : ℕ) (pos : 0 < p) (F : List (FormalSum n)) (L B : List (Exponents n)) (standard : AreStandard L B) (rise : IsAscending compare B) where
  -- the product at i and k without its spare variable
  pub smaller_exists :
      (i k j : ℕ) → i < n → k < length B → IsSpare n L (variable_product_at n B i k) j → (h : ℕ) × IsSmaller n B k j h
  smaller_exists i k j il kl (jl, q, e, free) =
      let b = get_or B k (unit n) in
      let apart : i ≡ j → ⊥ = λ d. free (subst (IsStandard L) (times_cancel (power n i 1) b q (sym e ∙ ap (λ z. times (power n z 1) q) (sym d))) (standard.standard b (k, kl, refl))) in
      let (s, d) = two_variables n i j b q il jl apart (sym e) in
      let (h, hl, at) = standard.all s (standard_divisor L (power n j 1) s (subst (IsStandard L) d (standard.standard b (k, kl, refl)))) in
      (h, (hl, ap (λ z. times z (power n j 1)) at ∙ times_comm s (power n j 1) ∙ sym d))

  pub smaller_product :
      (i k j h : ℕ) → IsSmaller n B k j h → times (power n j 1) (variable_product_at n B i h) ≡ variable_product_at n B i k
  smaller_product i k j h (hl, e) =
      let s = get_or B h (unit n) in
      sym (times_assoc (power n j 1) (power n i 1) s) ∙ ap (λ z. times z s) (times_comm (power n j 1) (power n i 1))
      ∙ times_assoc (power n i 1) (power n j 1) s ∙ ap (times (power n i 1)) (times_comm (power n j 1) s ∙ e)

  pub smaller_free :
      (i k j h : ℕ) → IsSpare n L (variable_product_at n B i k) j → IsSmaller n B k j h → IsStandard L (variable_product_at n B i h) → ⊥
  smaller_free i k j h (jl, q, e, free) small s =
      free (subst (IsStandard L) (times_cancel (power n j 1) (variable_product_at n B i h) q (smaller_product i k j h small ∙ sym e)) s)

  pub smaller_before : (k j h : ℕ) → j < n → k < length B → IsSmaller n B k j h → h < k
  smaller_before k j h jl kl (hl, e) = go (cases_lt h k)
    where
      up : compare (get_or B h (unit n)) (get_or B k (unit n)) ≡ Less
      up = subst (λ z. compare (get_or B h (unit n)) z ≡ Less) (times_comm (power n j 1) (get_or B h (unit n)) ∙ e) (variable_above compare o j (get_or B h (unit n)) jl)

      back : (k < h) ⊎ (h ≤ k) → k ≤ h → ⊥
      back (inl l) g = less_not_back compare o (get_or B h (unit n)) (get_or B k (unit n)) up (rise k h l hl)
      back (inr l) g = let same : k ≡ h = omega (arith, l, g) in less_not_itself compare o (get_or B h (unit n)) (subst (λ z. compare (get_or B h (unit n)) (get_or B z (unit n)) ≡ Less) same up)

      go : (h < k) ⊎ (k ≤ h) → h < k
      go (inl l) = l
      go (inr g) = absurd (back (cases_lt k h) g)

  -- the monomials in the form of q are below q
  under :
      (q : Exponents n) (row : List ℕ) → (IsStandard L q → ⊥) → IsRowNormalForm compare p F B q row → (t : ℕ) → t < length B → 0 < slice_index row t
      → compare (get_or B t (unit n)) q ≡ Less
  under q row free form t lt some =
      less_of_not compare o (get_or B t (unit n)) q (form.below t lt some)
      (λ e. free (subst (IsStandard L) e (standard.standard (get_or B t (unit n)) (t, lt, refl))))

  -- so their products by the variable j are known
  pub border_covered :
      (q m : Exponents n) (row : List ℕ) (j filled : ℕ) → times (power n j 1) q ≡ m → (IsStandard L q → ⊥) → IsRowNormalForm compare p F B q row
      → (filled < length B → compare (variable_product_at n B j filled) m ≡ Less → ⊥)
      → (t : ℕ) → 0 < slice_index row t → t < filled
  border_covered q m row j filled e free form least t some = go (cases_lt t filled)
    where
      lt : t < length B
      lt = within (length B) p row t form.residues some

      low : compare (variable_product_at n B j t) m ≡ Less
      low = subst (λ z. compare (variable_product_at n B j t) z ≡ Less) e (less_times compare o (power n j 1) (get_or B t (unit n)) q (under q row free form t lt some))

      first : (filled < t) ⊎ (t ≤ filled) → filled ≤ t → compare (variable_product_at n B j filled) m ≡ Less
      first (inl l) g = less_trans compare o (variable_product_at n B j filled) (variable_product_at n B j t) m (less_times compare o (power n j 1) (get_or B filled (unit n)) (get_or B t (unit n)) (rise filled t l lt)) low
      first (inr l) g = let same : t ≡ filled = omega (arith, l, g) in subst (λ z. compare (variable_product_at n B j z) m ≡ Less) same low

      go : (t < filled) ⊎ (filled ≤ t) → t < filled
      go (inl l) = l
      go (inr g) = absurd (least (omega (arith, g, lt)) (first (cases_lt filled t) g))

  -- the form of m, where it is the variable j times q
  pub border_form :
      (q m : Exponents n) (row out : List ℕ) (j : ℕ) (rows : List (List ℕ)) → times (power n j 1) q ≡ m → (IsStandard L q → ⊥) → IsRowNormalForm compare p F B q row
      → ((t : ℕ) → t < length rows → IsRowNormalForm compare p F B (variable_product_at n B j t) (get_or rows t []))
      → ((t : ℕ) → 0 < slice_index row t → t < length rows)
      → AreResidues p (length B) out
      → ((t : ℕ) → ((s : ℕ) → 0 < slice_index row s → slice_index (get_or rows s []) t ≡ 0) → slice_index out t ≡ 0)
      → (AreProductsOf p F B (power n j 1) rows row → IsRowForm p F B (scale 1 (power n j 1) (expansion B (slice_index row))) out)
      → IsRowNormalForm compare p F B m out
  border_form q m row out j rows e free form forms covered residues zeros product = record {
    residues = residues;
    same = modulo_trans F (subst (λ z. IsSameModulo p F z (scale 1 (power n j 1) (expansion B (slice_index row)))) (ap₂ (λ x c. ((0, x), c) ∷ []) e refl) (modulo_scale F pos 1 (power n j 1) form.same))
        (product (λ k kl some. (forms k (covered k some)).same));
    below = λ t lt some up. let z = zeros t (λ s here. none t lt up s here (eq-zero-or-pos (slice_index (get_or rows s []) t))) in omega (arith, z, some);
  }
    where
      none :
          (t : ℕ) → t < length B → compare m (get_or B t (unit n)) ≡ Less → (s : ℕ) → 0 < slice_index row s
          → (slice_index (get_or rows s []) t ≡ 0) ⊎ (0 < slice_index (get_or rows s []) t) → slice_index (get_or rows s []) t ≡ 0
      none t lt up s here (inl z) = z
      none t lt up s here (inr more) =
          let sl : s < length B = within (length B) p row s form.residues here in
          let low : compare (variable_product_at n B j s) m ≡ Less = subst (λ z. compare (variable_product_at n B j s) z ≡ Less) e (less_times compare o (power n j 1) (get_or B s (unit n)) q (under q row free form s sl here)) in
          absurd ((forms s (covered s here)).below t lt more (less_trans compare o (variable_product_at n B j s) m (get_or B t (unit n)) low up))

-- what the product by a variable says
abbrev pub IsZeroWhere : (rows : List (List ℕ)) (row out : List ℕ) → Type 0
IsZeroWhere rows row out = (t : ℕ) → ((s : ℕ) → 0 < slice_index row s → slice_index (get_or rows s []) t ≡ 0) → slice_index out t ≡ 0

abbrev pub IsProductWhere : (p : ℕ) (rows : List (List ℕ)) (row out : List ℕ) → Type 0
IsProductWhere p rows row out =
    (m : ℕ) (F : List (FormalSum m)) (B : List (Exponents m)) (x : Exponents m) → length B ≡ length row
    → AreProductsOf p F B x rows row
    → IsRowForm p F B (scale 1 x (expansion B (slice_index row))) out

-- a candidate that is not standard and no lead
module _ (n : ℕ) (ring : Ring) (basis : List (List (CodeKey × ℕ))) (heads standard : List Monomial) (h : IsBasisGiven n ring basis heads standard) (table : List (List (List ℕ))) (forms : AreFormsOver n ring basis standard table) (c : Candidate) (candidate : IsCandidate n ring.weights standard (λ v. length (get_or table v [])) c) (least : IsLeast n (comparison ring.order ring.weights n) (monomials n standard) (λ v. length (get_or table v [])) n (exponents_of n c.monomial.exponents)) (j : ℕ) (spare : IsSpare n (monomials n heads) (exponents_of n c.monomial.exponents) j) where
  spare_product : IsSpare n (monomials n heads) (variable_product_at n (monomials n standard) c.variable c.parent) j
  spare_product = subst (λ z. IsSpare n (monomials n heads) z j) candidate.product spare

  parent_within : c.parent < length (monomials n standard)
  parent_within = let lt = candidate.parent in omega (arith, lt, length_monomials n standard)

  pub candidate_smaller : (k : ℕ) × IsSmaller n (monomials n standard) c.parent j k
  candidate_smaller =
      smaller_exists (comparison ring.order ring.weights n) (comparison_order ring.order ring.weights n) ring.modulus.value (given_positive n ring basis heads standard h) (sums_of n basis) (monomials n heads) (monomials n standard) h.are_standard h.ascending
      c.variable c.parent j candidate.variable parent_within spare_product

  module _ (k : ℕ) (small : IsSmaller n (monomials n standard) c.parent j k) where
    pub candidate_known : k < length (get_or table c.variable [])
    candidate_known =
        let lt = smaller_before (comparison ring.order ring.weights n) (comparison_order ring.order ring.weights n) ring.modulus.value (given_positive n ring basis heads standard h) (sums_of n basis) (monomials n heads) (monomials n standard) h.are_standard h.ascending
        c.parent j k spare.0 parent_within small in
        let turn = candidate.turns in
        omega (arith, lt, turn)

    pub candidate_row : IsFormOver n ring basis standard (variable_product_at n (monomials n standard) c.variable k) (get_or (get_or table c.variable []) k [])
    candidate_row = forms c.variable k candidate.variable candidate_known

    twice : times (power n j 1) (variable_product_at n (monomials n standard) c.variable k) ≡ exponents_of n c.monomial.exponents
    twice =
        smaller_product (comparison ring.order ring.weights n) (comparison_order ring.order ring.weights n) ring.modulus.value (given_positive n ring basis heads standard h) (sums_of n basis) (monomials n heads) (monomials n standard) h.are_standard h.ascending
        c.variable c.parent j k small ∙ sym candidate.product

    free : IsStandard (monomials n heads) (variable_product_at n (monomials n standard) c.variable k) → ⊥
    free =
        smaller_free (comparison ring.order ring.weights n) (comparison_order ring.order ring.weights n) ring.modulus.value (given_positive n ring basis heads standard h) (sums_of n basis) (monomials n heads) (monomials n standard) h.are_standard h.ascending
        c.variable c.parent j k spare_product small

    pub candidate_covered : (row : List ℕ) → row ≡ get_or (get_or table c.variable []) k [] → (t : ℕ) → 0 < slice_index row t → t < length (get_or table j [])
    candidate_covered row is t some =
        border_covered (comparison ring.order ring.weights n) (comparison_order ring.order ring.weights n) ring.modulus.value (given_positive n ring basis heads standard h) (sums_of n basis) (monomials n heads) (monomials n standard) h.are_standard h.ascending
        (variable_product_at n (monomials n standard) c.variable k) (exponents_of n c.monomial.exponents) (get_or (get_or table c.variable []) k []) j (length (get_or table j [])) twice free candidate_row (least j spare.0)
        t (subst (λ z. 0 < slice_index z t) is some)

    pub candidate_rows : (row : List ℕ) → row ≡ get_or (get_or table c.variable []) k [] → Each (AreResidues ring.modulus.value (length row)) (get_or table j [])
    candidate_rows row is =
        let long : length (monomials n standard) ≡ length row = sym (ap length is ∙ candidate_row.residues.long) in
        each_at (AreResidues ring.modulus.value (length row)) (get_or table j []) [] (λ t lt. subst (λ d. AreResidues ring.modulus.value d (get_or (get_or table j []) t [])) long (forms j t spare.0 lt).residues)

    pub candidate_residues : (row : List ℕ) → row ≡ get_or (get_or table c.variable []) k [] → (t : ℕ) → slice_index row t < ring.modulus.value
    candidate_residues row is t = subst (λ z. slice_index z t < ring.modulus.value) (sym is) (candidate_row.residues.small t)

    pub candidate_form :
        (row out : List ℕ) → row ≡ get_or (get_or table c.variable []) k [] → AreResidues ring.modulus.value (length row) out
        → ((t : ℕ) → ((s : ℕ) → 0 < slice_index row s → slice_index (get_or (get_or table j []) s []) t ≡ 0) → slice_index out t ≡ 0)
        → ((m : ℕ) (F : List (FormalSum m)) (B : List (Exponents m)) (x : Exponents m) → length B ≡ length row
        → AreProductsOf ring.modulus.value F B x (get_or table j []) row
        → IsRowForm ring.modulus.value F B (scale 1 x (expansion B (slice_index row))) out)
        → IsFormOver n ring basis standard (exponents_of n c.monomial.exponents) out
    candidate_form row out is residues zeros product =
        let long : length (monomials n standard) ≡ length row = sym (ap length is ∙ candidate_row.residues.long) in
        border_form (comparison ring.order ring.weights n) (comparison_order ring.order ring.weights n) ring.modulus.value (given_positive n ring basis heads standard h) (sums_of n basis) (monomials n heads) (monomials n standard) h.are_standard h.ascending
        (variable_product_at n (monomials n standard) c.variable k) (exponents_of n c.monomial.exponents) row out j (get_or table j []) twice free
        (subst (IsFormOver n ring basis standard (variable_product_at n (monomials n standard) c.variable k)) (sym is) candidate_row)
        (λ t lt. forms j t spare.0 lt) (candidate_covered row is)
        (subst (λ d. AreResidues ring.modulus.value d out) (sym long) residues) zeros
        (product n (sums_of n basis) (monomials n standard) (power n j 1) long)
