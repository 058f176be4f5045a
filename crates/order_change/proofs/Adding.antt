-- One more standard monomial, or one more member
use Rattle.std.proofs.Common.{Less, List, Ordering, [], ap, ap₂, arith, get_or, inl, inr, length, length-append, refl, subst, suc, sym, zero, ℕ, ◌*◌, ◌++◌, ◌+◌, ◌<◌, ◌∙◌, ◌∷◌, ◌≡◌, ◌≤◌, ◌⊎◌}
use Rattle.std.proofs.Math.Seq.{get_or-append_seam}
use Rattle.std.proofs.lemmas.Bool.{cases_lt}
use Rattle.std.proofs.lemmas.List.{get_or_append_left, get_or_default}
use Rattle.std.specs.Prelude.{slice_index}
use Rattle.residues.proofs.Congruences.{IsCongruent_equal, IsCongruent_nonzero, IsCongruent_of, IsCongruent_refl, IsCongruent_sym, IsCongruent_trans}
use Rattle.residues.specs.Residues.{IsCongruent}
use Rattle.monomials.proofs.Monomials.{times-unit}
use Rattle.monomials.specs.Exponents.{Divides, Exponents, exponents_of, unit}
use Rattle.formal_sums.proofs.WeightedSums.{coefficient-append}
use Rattle.formal_sums.proofs.Sameness.{IsSame_append, IsSame_of, IsSame_refl, IsSame_sym, IsSame_trans}
use Rattle.formal_sums.specs.Combinations.{IsMember}
use Rattle.formal_sums.specs.FormalSums.{FormalSum, IsSame, Key, Term, coefficient, scale}
use Rattle.bases.proofs.Leading.{IsLead_of_monic, lead_unique}
use Rattle.bases.proofs.NormalForms.{IsNormal_lead}
use Rattle.bases.specs.Leads.{IsMonicLead, IsNormal, head_key, leads}
use Rattle.bases.specs.Settings.{IsLawful}
use Rattle.monomial_orders.specs.Comparisons.{comparison}
use Rattle.monomial_orders.specs.Kept.{IsWeighed, Monomial, monomials}
use Rattle.monomial_orders.specs.Laws.{comparison_order}
use Rattle.term_lists.proofs.NormalVectors.{residues_of}
use Rattle.term_lists.specs.Rings.{ring_comparison, setting}
use Rattle.term_lists.proofs.Parts.{Each_member}
use Rattle.term_lists.specs.Vectors.{HasPositions, IsTerm, IsVector, key_of, sum_of, sums_of}
use Rattle.term_lists.specs.declared.key.Key.{Key as CodeKey}
use Rattle.term_lists.specs.declared.ring.Ring.{Ring}
use Rattle.change_laws.proofs.Expansions.{expansion_at, expansion_keys, expansion_linear, expansion_push, expansion_zero}
use Rattle.change_laws.proofs.Independent.{echelon_few}
use Rattle.change_laws.proofs.Modulo.{modulo_same, modulo_scale, modulo_trans}
use Rattle.change_laws.proofs.Pushing.{Has_cases, Has_old, at_new, at_old, length_push}
use Rattle.change_laws.specs.Combinations.{IsSameModulo, expansion}
use Rattle.change_laws.specs.Echelons.{AreEchelonRows}
use Rattle.change_laws.specs.Standard.{AreDistinct, Has, IsStandard}
use Rattle.order_change.proofs.Borders.{behind}
use Rattle.order_change.proofs.Filling.{each_at}
use Rattle.order_change.proofs.Items.{length_monomials, monomials_push, one_more}
use Rattle.order_change.proofs.Listed.{AreMonomials_push, HaveDegrees_push}
use Rattle.order_change.proofs.Orders.{divisor_not_above, less_not_back, less_not_itself, less_of_not}
use Rattle.order_change.proofs.Sorting.{ascending_distinct}
use Rattle.order_change.proofs.Tails.{coefficient_of, key_compared, length_sum, term_at}
use Rattle.order_change.specs.Changing.{AreNewMembers, AreNewStandard}
use Rattle.order_change.specs.Forms.{AreResidues, IsRowForm, monomial_vector}
use Rattle.order_change.specs.Lists.{AreMonomials}
use Rattle.order_change.specs.Products.{IsAscending}
use Rattle.order_change.specs.Rows.{AreRows, AreSame, IsCleared, IsPivotRow}
use Rattle.order_change.specs.declared.rows.Row.{Row}

-- a row that no list has
pub no_row : Row
no_row = record { form = []; combination = []; pivot = 0 }

-- what members ask of their leads
abbrev pub Falls : (n : ℕ) → (Exponents n → Exponents n → Ordering) → (count : ℕ) → List (Exponents n) → Type 0
Falls n compare count H = (i j : ℕ) → i < j → j < count → compare (get_or H j (unit n)) (get_or H i (unit n)) ≡ Less

abbrev pub Apart : (n : ℕ) → (count : ℕ) → List (Exponents n) → Type 0
Apart n count H = (i j : ℕ) → i < count → j < count → (i ≡ j → ⊥) → Divides (get_or H j (unit n)) (get_or H i (unit n)) → ⊥

-- an item of a list with one more behind
pub push_cases :
    {X : Type 0} (P : ℕ → X → Type 0) (xs : List X) (y : X)
    → ((k : ℕ) (x : X) → k < length xs → get_or xs k x ≡ x → P k x) → P (length xs) y
    → (k : ℕ) (x : X) → k < length (xs ++ y ∷ []) → get_or (xs ++ y ∷ []) k x ≡ x → P k x
push_cases P xs y old new k x lt e = go (cases_lt k (length xs))
  where
    go : (k < length xs) ⊎ (length xs ≤ k) → P k x
    go (inl l) = old k x l (sym (get_or_append_left xs (y ∷ []) x k l) ∙ e)
    go (inr g) =
        let same : k ≡ length xs = omega (arith, length-append xs (y ∷ [])) in
        let is : y ≡ x = sym (get_or-append_seam xs y [] x) ∙ ap (λ z. get_or (xs ++ y ∷ []) z x) (sym same) ∙ e in
        subst (λ z. P z x) (sym same) (subst (P (length xs)) is new)

pub ascending_push :
    {n : ℕ} (compare : Exponents n → Exponents n → Ordering) (xs : List (Exponents n)) (y : Exponents n) → IsAscending compare xs
    → ((k : ℕ) → k < length xs → compare (get_or xs k (unit n)) y ≡ Less) → IsAscending compare (xs ++ y ∷ [])
ascending_push {n} compare xs y rise below i j ij jl = go (cases_lt j (length xs))
  where
    go : (j < length xs) ⊎ (length xs ≤ j) → compare (get_or (xs ++ y ∷ []) i (unit n)) (get_or (xs ++ y ∷ []) j (unit n)) ≡ Less
    go (inl l) = ap₂ compare (at_old xs y i (omega (arith, ij, l))) (at_old xs y j l) ∙ rise i j ij l
    go (inr g) =
        let same : j ≡ length xs = omega (arith, g, jl, length_push xs y) in
        let il : i < length xs = omega (arith, ij, same) in
        ap₂ compare (at_old xs y i il) (ap (λ z. get_or (xs ++ y ∷ []) z (unit n)) same ∙ at_new xs y) ∙ below i il

-- a residue that is 0 at the last place says nothing of it
same_pushed : {n p : ℕ} (N : List (Exponents n)) (y : Exponents n) (f : ℕ → ℕ) → f (length N) ≡ 0 → IsSame p (expansion N f) (expansion (N ++ y ∷ []) f)
same_pushed {n} {p} N y f none =
    IsSame_sym (IsSame_trans (IsSame_of p _ _ (expansion_push N y f))
    (record { by_key = λ k. IsCongruent_of p _ _ (coefficient-append (expansion N f) (((0, y), f (length N)) ∷ []) k ∙ (rw none (omega arith))) }))

-- a multiple of the residues
expansion_scaled :
    {n p : ℕ} (c : ℕ) (B : List (Exponents n)) (g h : ℕ → ℕ) → ((k : ℕ) → IsCongruent p (h k) (c * g k)) → IsSame p (expansion B h) (scale c (unit n) (expansion B g))
expansion_scaled {n} {p} c B g h e =
    IsSame_trans (expansion_linear c B (λ k. 0) g h (λ k lt. IsCongruent_trans (e k) (IsCongruent_of p (c * g k) (0 + c * g k) (omega arith))))
    (IsSame_append (expansion_zero B (λ k. 0) (λ k lt. IsCongruent_refl p 0)) (IsSame_refl p (scale c (unit n) (expansion B g))))

module _ (n : ℕ) (ring : Ring) (F : List (FormalSum n)) (B : List (Exponents n)) (lawful : IsLawful (setting ring n (ring_comparison ring n) 1)) where
  pub positive : 0 < ring.modulus.value
  positive = let above = lawful.domain.above_one in omega (arith, above)

  -- the rows are in echelon form
  pub echelon : (monos : List Monomial) (forms : List (List ℕ)) (rows : List Row) → AreNewStandard n ring F B monos forms rows
      → AreEchelonRows ring.modulus.value F B (monomials n monos) (λ l. slice_index (get_or rows l no_row).form) (λ l. slice_index (get_or rows l no_row).combination) (λ l. (get_or rows l no_row).pivot)
  echelon monos forms rows h = record {
    same = λ l lt. h.same l (row l) (in_rows l lt) (itself l (in_rows l lt));
    pivots = λ l lt. (good l lt).pivot;
    one = λ l lt. IsCongruent_of ring.modulus.value _ 1 (good l lt).one;
    later = λ l i li lt. IsCongruent_of ring.modulus.value _ 0 (h.rows_are.later l i (row l) (row i) li (in_rows i lt) (itself l (omega (arith, li, in_rows i lt))) (itself i (in_rows i lt)));
    diagonal = λ l lt z. IsCongruent_nonzero ring.modulus.value (slice_index (row l).combination l) (h.diagonal l (row l) (in_rows l lt) (itself l (in_rows l lt))).0 ((good l lt).small l) z;
    beyond = λ l k lt lk. IsCongruent_of ring.modulus.value _ 0 (behind (row l).combination k (let d = (h.diagonal l (row l) (in_rows l lt) (itself l (in_rows l lt))).1 in omega (arith, d, lk)));
  }
    where
      row : ℕ → Row
      row l = get_or rows l no_row

      in_rows : (l : ℕ) → l < length (monomials n monos) → l < length rows
      in_rows l lt = omega (arith, lt, length_monomials n monos, h.rows_long)

      itself : (l : ℕ) → l < length rows → get_or rows l (row l) ≡ row l
      itself l lt = get_or_default rows l (row l) no_row lt

      good : (l : ℕ) → l < length (monomials n monos) → IsPivotRow ring.modulus.value (length B) (length monos) (row l)
      good l lt = h.rows_are.each l (row l) (in_rows l lt) (itself l (in_rows l lt))

  -- there are not more standard monomials than those of the other order
  pub few : (monos : List Monomial) (forms : List (List ℕ)) (rows : List Row) → AreNewStandard n ring F B monos forms rows → length monos ≤ length B
  few monos forms rows h =
      let le = echelon_few lawful.domain F B (monomials n monos) (λ l. slice_index (get_or rows l no_row).form) (λ l. slice_index (get_or rows l no_row).combination) (λ l. (get_or rows l no_row).pivot) (echelon monos forms rows h) in
      omega (arith, le, length_monomials n monos)

  -- rows of one monomial more
  pub rows_wider : (d m k : ℕ) (rows : List Row) → m ≤ k → AreRows ring.modulus.value d m rows → AreRows ring.modulus.value d k rows
  rows_wider d m k rows le h = record {
    each = λ l row lt e. let r = h.each l row lt e in record { form = r.form; small = r.small; short = (let s = r.short in omega (arith, s, le)); pivot = r.pivot; one = r.one };
    later = h.later;
  }

  pub same_wider :
      (monos : List Monomial) (forms : List (List ℕ)) (rows : List Row) (y : Exponents n) → AreNewStandard n ring F B monos forms rows
      → AreSame ring.modulus.value F B (monomials n monos ++ y ∷ []) rows
  same_wider monos forms rows y h l row lt e =
      modulo_trans F (h.same l row lt e)
      (modulo_same F _ _ (same_pushed (monomials n monos) y (slice_index row.combination)
      (behind row.combination (length (monomials n monos)) (let s = (h.rows_are.each l row lt e).short in omega (arith, s, length_monomials n monos)))))

  -- one more standard monomial
  pub standard_added :
      (monos : List Monomial) (forms : List (List ℕ)) (rows : List Row) (m : Monomial) (form left combination : List ℕ) (c : ℕ) (row : Row)
      → AreNewStandard n ring F B monos forms rows
      → IsWeighed n ring.weights m → m.degree ≤ 255 * length monos
      → ((k : ℕ) → k < length monos → comparison ring.order ring.weights n (get_or (monomials n monos) k (unit n)) (exponents_of n m.exponents) ≡ Less)
      → AreResidues ring.modulus.value (length B) form → IsRowForm ring.modulus.value F B (monomial_vector (exponents_of n m.exponents)) form
      → AreResidues ring.modulus.value (length B) left → AreResidues ring.modulus.value (length monos + 1) combination
      → slice_index combination (length monos) ≡ 1 → IsCleared rows left (length rows)
      → IsSameModulo ring.modulus.value F (expansion B (slice_index left)) (expansion (monomials n monos ++ exponents_of n m.exponents ∷ []) (slice_index combination))
      → row.pivot < length left → c < ring.modulus.value → IsCongruent ring.modulus.value (c * slice_index left row.pivot) 1
      → length row.form ≡ length left → ((k : ℕ) → slice_index row.form k < ring.modulus.value) → ((k : ℕ) → IsCongruent ring.modulus.value (slice_index row.form k) (c * slice_index left k))
      → length row.combination ≡ length combination → ((k : ℕ) → slice_index row.combination k < ring.modulus.value)
      → ((k : ℕ) → IsCongruent ring.modulus.value (slice_index row.combination k) (c * slice_index combination k))
      → AreNewStandard n ring F B (monos ++ m ∷ []) (forms ++ form ∷ []) (rows ++ row ∷ [])
  standard_added monos forms rows m form left combination c row h weighed degree above residues is lr cr one cleared same pivot cp inverse fl fs fm cl cs cm = record {
    monomials_of = AreMonomials_push n ring.weights monos m h.monomials_of weighed;
    degrees = HaveDegrees_push monos m h.degrees degree;
    ascending = subst (IsAscending (comparison ring.order ring.weights n)) (sym (monomials_push n monos m))
        (ascending_push (comparison ring.order ring.weights n) (monomials n monos) em h.ascending (λ k lt. above k (omega (arith, lt, length_monomials n monos))));
    forms_long = length-append forms (form ∷ []) ∙ ap (λ z. z + 1) h.forms_long ∙ sym (length-append monos (m ∷ []));
    residues = λ k lt. one_more (λ k. AreResidues p (length B) (get_or (forms ++ form ∷ []) k [])) (length monos)
        (λ k l. subst (AreResidues p (length B)) (sym (old_form k l)) (h.residues k l)) (subst (AreResidues p (length B)) (sym new_form) residues)
        k (omega (arith, lt, length-append monos (m ∷ [])));
    forms_are = λ k lt. one_more (λ k. IsRowForm p F B (monomial_vector (get_or (monomials n (monos ++ m ∷ [])) k (unit n))) (get_or (forms ++ form ∷ []) k [])) (length monos)
        (λ k l. subst (λ z. IsRowForm p F B (monomial_vector (get_or (monomials n (monos ++ m ∷ [])) k (unit n))) z) (sym (old_form k l))
        (subst (λ z. IsRowForm p F B (monomial_vector z) (get_or forms k [])) (sym (old_monomial k l)) (h.forms_are k l)))
        (subst (λ z. IsRowForm p F B (monomial_vector (get_or (monomials n (monos ++ m ∷ [])) (length monos) (unit n))) z) (sym new_form)
        (subst (λ z. IsRowForm p F B (monomial_vector z) form) (sym new_monomial) is))
        k (omega (arith, lt, length-append monos (m ∷ [])));
    rows_long = length-append rows (row ∷ []) ∙ ap (λ z. z + 1) h.rows_long ∙ sym (length-append monos (m ∷ []));
    rows_are = record {
      each = push_cases (λ k r. IsPivotRow p (length B) (length (monos ++ m ∷ [])) r) rows row
          (λ k r lt e. let g = h.rows_are.each k r lt e in record { form = g.form; small = g.small; short = (let s = g.short in omega (arith, s, grown)); pivot = g.pivot; one = g.one })
          (record {
            form = record { long = fl ∙ lr.long; small = fs };
            small = cs;
            short = omega (arith, cl, cr.long, grown);
            pivot = omega (arith, pivot, lr.long);
            one = IsCongruent_equal p (slice_index row.form row.pivot) 1 (fs row.pivot) lawful.domain.above_one (IsCongruent_trans (fm row.pivot) inverse);
          });
      later = λ l i r other li il lr' ir. push_cases (λ i other. (l : ℕ) (r : Row) → l < i → get_or (rows ++ row ∷ []) l r ≡ r → slice_index other.form r.pivot ≡ 0) rows row
          (λ i other il ir l r li e. h.rows_are.later l i r other li il (sym (get_or_append_left rows (row ∷ []) r l (omega (arith, li, il))) ∙ e) ir)
          (λ l r li e. let z = cleared l r li li (sym (get_or_append_left rows (row ∷ []) r l li) ∙ e) in
          IsCongruent_equal p (slice_index row.form r.pivot) 0 (fs r.pivot) (positive) (IsCongruent_trans (fm r.pivot) (IsCongruent_of p (c * slice_index left r.pivot) 0 (rw z (omega arith)))))
          i other il ir l r li lr';
    };
    same = λ l r lt e. subst (λ z. IsSameModulo p F (expansion B (slice_index r.form)) (expansion z (slice_index r.combination))) (sym (monomials_push n monos m))
        (push_cases (λ l r. IsSameModulo p F (expansion B (slice_index r.form)) (expansion (monomials n monos ++ em ∷ []) (slice_index r.combination))) rows row
        (λ l r lt e. same_wider monos forms rows em h l r lt e)
        (modulo_trans F (modulo_same F _ _ (expansion_scaled c B (slice_index left) (slice_index row.form) fm))
        (modulo_trans F (modulo_scale F positive c (unit n) same)
        (modulo_same F _ _ (IsSame_sym (expansion_scaled c (monomials n monos ++ em ∷ []) (slice_index combination) (slice_index row.combination) cm)))))
        l r lt e);
    diagonal = push_cases (λ l r. (0 < slice_index r.combination l) × (length r.combination ≤ l + 1)) rows row h.diagonal (top, omega (arith, cl, cr.long, h.rows_long));
  }
    where
      p : ℕ
      p = ring.modulus.value

      em : Exponents n
      em = exponents_of n m.exponents

      grown : length (monos ++ m ∷ []) ≡ length monos + 1
      grown = length-append monos (m ∷ [])

      old_form : (k : ℕ) → k < length monos → get_or (forms ++ form ∷ []) k [] ≡ get_or forms k []
      old_form k l = get_or_append_left forms (form ∷ []) [] k (omega (arith, l, h.forms_long))

      new_form : get_or (forms ++ form ∷ []) (length monos) [] ≡ form
      new_form = ap (λ z. get_or (forms ++ form ∷ []) z []) (sym h.forms_long) ∙ get_or-append_seam forms form [] []

      old_monomial : (k : ℕ) → k < length monos → get_or (monomials n (monos ++ m ∷ [])) k (unit n) ≡ get_or (monomials n monos) k (unit n)
      old_monomial k l = ap (λ z. get_or z k (unit n)) (monomials_push n monos m) ∙ at_old (monomials n monos) em k (omega (arith, l, length_monomials n monos))

      new_monomial : get_or (monomials n (monos ++ m ∷ [])) (length monos) (unit n) ≡ em
      new_monomial =
          ap (λ z. get_or z (length monos) (unit n)) (monomials_push n monos m)
          ∙ ap (λ z. get_or (monomials n monos ++ em ∷ []) z (unit n)) (sym (length_monomials n monos)) ∙ at_new (monomials n monos) em

      positive_c : 0 < c
      positive_c = go (cases_lt 0 c)
        where
          go : (0 < c) ⊎ (c ≤ 0) → 0 < c
          go (inl l) = l
          go (inr g) =
              let z : c ≡ 0 = omega (arith, g) in
              absurd (IsCongruent_nonzero ring.modulus.value 1 (omega arith) lawful.domain.above_one
              (IsCongruent_trans (IsCongruent_sym inverse) (IsCongruent_of ring.modulus.value (c * slice_index left row.pivot) 0 (rw z (omega arith)))))

      top : 0 < slice_index row.combination (length rows)
      top = go (cases_lt 0 (slice_index row.combination (length rows)))
        where
          at : slice_index combination (length rows) ≡ 1
          at = ap (slice_index combination) h.rows_long ∙ one

          go : (0 < slice_index row.combination (length rows)) ⊎ (slice_index row.combination (length rows) ≤ 0) → 0 < slice_index row.combination (length rows)
          go (inl l) = l
          go (inr g) =
              let z : slice_index row.combination (length rows) ≡ 0 = omega (arith, g) in
              absurd (IsCongruent_nonzero ring.modulus.value c positive_c cp
              (IsCongruent_trans (IsCongruent_of ring.modulus.value c (c * slice_index combination (length rows)) (rw at (omega arith)))
              (IsCongruent_trans (IsCongruent_sym (cm (length rows))) (IsCongruent_of ring.modulus.value _ 0 z))))

  -- the members stay so where a monomial that no lead divides is one more
  pub members_kept :
      (N : List (Exponents n)) (y : Exponents n) (heads : List Monomial) (members : List (List (CodeKey × ℕ))) → AreNewMembers n ring F N heads members
      → IsStandard (monomials n heads) y → AreNewMembers n ring F (N ++ y ∷ []) heads members
  members_kept N y heads members h free = record {
    heads_of = h.heads_of;
    vectors = h.vectors;
    positions = h.positions;
    heads_are = h.heads_are;
    inside = h.inside;
    monic = h.monic;
    tails = λ i k lt nz. tails k (h.tails i k lt nz);
    uncovered = λ m has. uncovered m (Has_cases N y m has);
    falls = h.falls;
    apart = h.apart;
  }
    where
      tails : {x : Key n} (k : Key n) → (k ≡ x) ⊎ ((k.0 ≡ 0) × Has N k.1) → (k ≡ x) ⊎ ((k.0 ≡ 0) × Has (N ++ y ∷ []) k.1)
      tails k (inl e) = inl e
      tails k (inr (z, has)) = inr (z, Has_old N y k.1 has)

      uncovered : (m : Exponents n) → Has N m ⊎ (y ≡ m) → IsStandard (monomials n heads) m
      uncovered m (inl has) = h.uncovered m has
      uncovered m (inr e) = subst (IsStandard (monomials n heads)) e free

  module _ (N : List (Exponents n)) (rise : IsAscending (comparison ring.order ring.weights n) N) (y : Exponents n) (above : (k : ℕ) → k < length N → comparison ring.order ring.weights n (get_or N k (unit n)) y ≡ Less) (v : List (CodeKey × ℕ)) (f : ℕ → ℕ) (vector : IsVector n ring.weights ring.modulus.value (ring_comparison ring n) v) (sum : IsSame ring.modulus.value (sum_of n v) (expansion (N ++ y ∷ []) f)) (one : f (length N) ≡ 1) where
    compared : (a b : Exponents n) → ring_comparison ring n (0, a) (0, b) ≡ comparison ring.order ring.weights n a b
    compared = key_compared ring.module_order ring.order ring.weights n

    distinct : AreDistinct (N ++ y ∷ [])
    distinct = ascending_distinct (comparison ring.order ring.weights n) (comparison_order ring.order ring.weights n) (N ++ y ∷ []) (ascending_push (comparison ring.order ring.weights n) N y rise above)

    pub new_monic : IsMonicLead (setting ring n (ring_comparison ring n) 1) (sum_of n v) (0, y)
    new_monic = record {
      one = IsCongruent_trans (sum.by_key (0, y)) (IsCongruent_of ring.modulus.value _ 1 (ap (λ z. coefficient (expansion (N ++ y ∷ []) f) (0, z)) (sym (at_new N y)) ∙ expansion_at (N ++ y ∷ []) f distinct (length N) (omega (arith, length_push N y)) ∙ one));
      above = λ l up. IsCongruent_trans (sum.by_key l) (none l up (expansion_keys (N ++ y ∷ []) f l));
    }
      where
        none : (l : Key n) → ring_comparison ring n (0, y) l ≡ Less → (coefficient (expansion (N ++ y ∷ []) f) l ≡ 0) ⊎ ((l.0 ≡ 0) × Has (N ++ y ∷ []) l.1) → IsCongruent ring.modulus.value (coefficient (expansion (N ++ y ∷ []) f) l) 0
        none l up (inl z) = IsCongruent_of ring.modulus.value _ 0 z
        none l up (inr (z, has)) = absurd (over (Has_cases N y l.1 has))
          where
            less : comparison ring.order ring.weights n y l.1 ≡ Less
            less = sym (compared y l.1) ∙ ap (λ (q : ℕ). ring_comparison ring n (0, y) (q, l.1)) (sym z) ∙ up

            over : Has N l.1 ⊎ (y ≡ l.1) → ⊥
            over (inl (k, kl, e)) =
                less_not_back (comparison ring.order ring.weights n) (comparison_order ring.order ring.weights n) (get_or N k (unit n)) y (above k kl)
                (ap (comparison ring.order ring.weights n y) e ∙ less)
            over (inr e) = less_not_itself (comparison ring.order ring.weights n) (comparison_order ring.order ring.weights n) y (ap (comparison ring.order ring.weights n y) e ∙ less)

    normal : IsNormal (setting ring n (ring_comparison ring n) 1) (sum_of n v)
    normal = record { descends = vector.descends; residues = residues_of n ring.weights ring.modulus.value v vector.each }

    pub new_head : head_key (sum_of n v) ≡ (0, y)
    new_head =
        lead_unique (setting ring n (ring_comparison ring n) 1) lawful (sum_of n v) (head_key (sum_of n v)) (0, y)
        (IsNormal_lead (setting ring n (ring_comparison ring n) 1) lawful (sum_of n v) normal
        (λ e. IsCongruent_nonzero ring.modulus.value 1 (omega arith) lawful.domain.above_one (IsCongruent_trans (IsCongruent_sym new_monic.one) (IsCongruent_of ring.modulus.value _ 0 (ap (λ z. coefficient z (0, y)) e)))))
        (IsLead_of_monic (setting ring n (ring_comparison ring n) 1) lawful new_monic)

    pub new_tails : (k : Key n) → (IsCongruent ring.modulus.value (coefficient (sum_of n v) k) 0 → ⊥) → (k ≡ (0, y)) ⊎ ((k.0 ≡ 0) × Has N k.1)
    new_tails k nz = go (expansion_keys (N ++ y ∷ []) f k)
      where
        by : k.0 ≡ 0 → Has N k.1 ⊎ (y ≡ k.1) → (k ≡ (0, y)) ⊎ ((k.0 ≡ 0) × Has N k.1)
        by z (inl has) = inr (z, has)
        by z (inr e) = inl (ap₂ (λ a b. (a, b)) z (sym e))

        go : (coefficient (expansion (N ++ y ∷ []) f) k ≡ 0) ⊎ ((k.0 ≡ 0) × Has (N ++ y ∷ []) k.1) → (k ≡ (0, y)) ⊎ ((k.0 ≡ 0) × Has N k.1)
        go (inl z) = absurd (nz (IsCongruent_trans (sum.by_key k) (IsCongruent_of ring.modulus.value _ 0 z)))
        go (inr (z, has)) = by z (Has_cases N y k.1 has)

    zero_position : (k : Key n) → (k ≡ (0, y)) ⊎ ((k.0 ≡ 0) × Has N k.1) → k.0 ≡ 0
    zero_position k (inl e) = ap (λ (x : Key n). x.0) e
    zero_position k (inr (z, has)) = z

    pub new_positions : HasPositions 1 v
    new_positions = go v refl
      where
        go : (w : List (CodeKey × ℕ)) → w ≡ v → HasPositions 1 w
        go [] e = tt
        go (t ∷ w) e = each_at (λ (u : CodeKey × ℕ). u.0.position < 1) (t ∷ w) t (λ i lt. at i (subst (λ z. i < length z) e lt))
          where
            at : (i : ℕ) → i < length v → (get_or (t ∷ w) i t).0.position < 1
            at i lt =
                let u = get_or (t ∷ w) i t in
                let here : get_or v i u ≡ u = ap (λ z. get_or z i u) (sym e) ∙ get_or_default (t ∷ w) i u t (subst (λ z. i < length z) (sym e) lt) in
                let d : Term n = (key_of n u.0, u.1) in
                let is : get_or (sum_of n v) i d ≡ d = term_at n v i u d lt here in
                let c : coefficient (sum_of n v) (key_of n u.0) ≡ u.1 = ap (λ (x : Term n). coefficient (sum_of n v) x.0) (sym is)
                ∙ coefficient_of (setting ring n (ring_comparison ring n) 1) lawful (sum_of n v) i d vector.descends (omega (arith, lt, length_sum n v)) ∙ ap (λ (x : Term n). x.1) is in
                let term = subst (λ (x : CodeKey × ℕ). IsTerm n ring.weights ring.modulus.value x) here (Each_member (IsTerm n ring.weights ring.modulus.value) v i u vector.each lt) in
                let q : u.0.position ≡ 0 = zero_position (key_of n u.0) (new_tails (key_of n u.0) (λ z. IsCongruent_nonzero ring.modulus.value u.1 term.nonzero term.reduced (IsCongruent_trans (IsCongruent_of ring.modulus.value _ _ (sym c)) z))) in
                omega (arith, q)

    -- one more member
    pub member_added :
        (heads : List Monomial) (members : List (List (CodeKey × ℕ))) (m : Monomial) → AreNewMembers n ring F N heads members
        → IsWeighed n ring.weights m → exponents_of n m.exponents ≡ y → IsMember ring.modulus.value F (sum_of n v)
        → ((k : ℕ) → k < length heads → comparison ring.order ring.weights n y (get_or (monomials n heads) k (unit n)) ≡ Less → ⊥) → IsStandard (monomials n heads) y
        → AreNewMembers n ring F N (m ∷ heads) (v ∷ members)
    member_added heads members m h weighed is inside not_below free = record {
      heads_of = heads_of;
      vectors = (vector, h.vectors);
      positions = (new_positions, h.positions);
      heads_are = ap₂ ◌∷◌ (is ∙ sym (ap (λ (k : Key n). k.1) new_head)) h.heads_are;
      inside = λ i lt. by_index (λ i. IsMember ring.modulus.value F (get_or (sums_of n (v ∷ members)) i [])) inside (λ i l. h.inside i l) i lt;
      monic = λ i lt. by_index (λ i. IsMonicLead (setting ring n (ring_comparison ring n) 1) (get_or (sums_of n (v ∷ members)) i []) (leads (sums_of n (v ∷ members)) i))
          (subst (IsMonicLead (setting ring n (ring_comparison ring n) 1) (sum_of n v)) (sym new_head) new_monic) (λ i l. h.monic i l) i lt;
      tails = λ i k lt nz. by_index (λ i. (IsCongruent ring.modulus.value (coefficient (get_or (sums_of n (v ∷ members)) i []) k) 0 → ⊥) → (k ≡ leads (sums_of n (v ∷ members)) i) ⊎ ((k.0 ≡ 0) × Has N k.1))
          (λ nz. subst (λ z. (k ≡ z) ⊎ ((k.0 ≡ 0) × Has N k.1)) (sym new_head) (new_tails k nz)) (λ i l nz. h.tails i k l nz) i lt nz;
      uncovered = λ x has. subst (λ z. IsStandard (z ∷ monomials n heads) x) (sym is) (uncovered x has);
      falls = subst (λ z. Falls n (comparison ring.order ring.weights n) (length (m ∷ heads)) (z ∷ monomials n heads)) (sym is) falls;
      apart = subst (λ z. Apart n (length (m ∷ heads)) (z ∷ monomials n heads)) (sym is) apart;
    }
      where
        heads_of : AreMonomials n ring.weights (m ∷ heads)
        heads_of zero x lt e = subst (IsWeighed n ring.weights) e weighed
        heads_of (suc k) x lt e = h.heads_of k x (omega (arith, lt)) e

        by_index : (P : ℕ → Type 0) → P 0 → ((i : ℕ) → i < length members → P (suc i)) → (i : ℕ) → i < length (v ∷ members) → P i
        by_index P first rest zero lt = first
        by_index P first rest (suc i) lt = rest i (omega (arith, lt))

        uncovered : (x : Exponents n) → Has N x → IsStandard (y ∷ monomials n heads) x
        uncovered x (k, kl, e) zero lt d =
            divisor_not_above (comparison ring.order ring.weights n) (comparison_order ring.order ring.weights n) y x d (subst (λ z. comparison ring.order ring.weights n z y ≡ Less) e (above k kl))
        uncovered x has (suc k) lt d = h.uncovered x has k (omega (arith, lt)) d

        below : (j : ℕ) → j < length (monomials n heads) → comparison ring.order ring.weights n (get_or (monomials n heads) j (unit n)) y ≡ Less
        below j jl =
            less_of_not (comparison ring.order ring.weights n) (comparison_order ring.order ring.weights n) (get_or (monomials n heads) j (unit n)) y (not_below j (omega (arith, jl, length_monomials n heads)))
            (λ e. free j jl (unit n, times-unit (get_or (monomials n heads) j (unit n)) ∙ e))

        falls : Falls n (comparison ring.order ring.weights n) (length (m ∷ heads)) (y ∷ monomials n heads)
        falls i zero ij jl = absurd (omega (arith, ij))
        falls zero (suc j) ij jl = below j (let l : j < length heads = omega (arith, jl) in omega (arith, l, length_monomials n heads))
        falls (suc i) (suc j) ij jl = h.falls i j (omega (arith, ij)) (let l : j < length heads = omega (arith, jl) in l)

        apart : Apart n (length (m ∷ heads)) (y ∷ monomials n heads)
        apart zero zero il jl ne d = ne refl
        apart zero (suc j) il jl ne d = free j (let l : j < length heads = omega (arith, jl) in omega (arith, l, length_monomials n heads)) d
        apart (suc i) zero il jl ne d =
            let l : i < length (monomials n heads) = (let q : i < length heads = omega (arith, il) in omega (arith, q, length_monomials n heads)) in
            divisor_not_above (comparison ring.order ring.weights n) (comparison_order ring.order ring.weights n) y (get_or (monomials n heads) i (unit n)) d (below i l)
        apart (suc i) (suc j) il jl ne d = h.apart i j (omega (arith, il)) (omega (arith, jl)) (λ e. ne (ap suc e)) d
