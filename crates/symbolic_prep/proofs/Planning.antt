-- One more product in a plan
use Rattle.std.proofs.Common.{Bool, List, [], ap, arith, false, get_or, inl, inr, length, refl, subst, subst₂, sym, true, ℕ, ◌+◌, ◌++◌, ◌<◌, ◌∙◌, ◌∷◌, ◌≡◌, ◌⊎◌}
use Rattle.std.proofs.lemmas.Bool.{cases_eq, cases_lt}
use Rattle.std.proofs.lemmas.List.{get_or_append_left, get_or_push, length_push}
use Rattle.monomials.specs.Exponents.{Exponents, exponents_of}
use Rattle.formal_sums.specs.FormalSums.{Each, Key, scale, shift}
use Rattle.bases.specs.Leads.{head_key}
use Rattle.module_vectors.specs.Trails.{KeptProduct, no_product, kept_product_lead, kept_at}
use Rattle.formal_sums.proofs.Combining.{Each_map}
use Rattle.monomial_orders.proofs.Over.{weighed_at}
use Rattle.monomial_orders.specs.Kept.{IsWeighed, Monomial}
use Rattle.term_lists.proofs.Parts.{Each_member}
use Rattle.term_lists.specs.Vectors.{HasVariables, sum_of}
use Rattle.vector_division.specs.Progress.{AreWeighed}
use Rattle.term_lists.specs.declared.key.Key.{Key as CodeKey}
use Rattle.row_matrix.proofs.Names.{named_more}
use Rattle.row_matrix.specs.Naming.{AreNamed, IsGrown, NamesNumber}
use Rattle.row_matrix.specs.Rows.{AreKeys, Entry, RowShown, column_key, first_column, no_row, row_sum, shown_row_at}
use Rattle.symbolic_prep.specs.Plans.{IsMorePlanned, IsPlan, IsPlannedRow, IsMemberProduct, lead_number, product_sum}

-- the first key of what entries stand for
pub head_of : {n : ℕ} (key : ℕ → Key n) (es : List Entry) → 0 < length es → head_key (row_sum key es) ≡ key (first_column es)
head_of key [] lt = absurd (omega arith)
head_of key (e ∷ es) lt = refl

pub head_product : (n : ℕ) (list : List (List (CodeKey × ℕ))) (s : KeptProduct) → 0 < length (get_or list s.0 []) → head_key (product_sum n list s) ≡ kept_product_lead n list s
head_product n list s lt = go (get_or list s.0 []) lt
  where
    go : (v : List (CodeKey × ℕ)) → 0 < length v → head_key (scale 1 (exponents_of n s.1.exponents) (sum_of n v)) ≡ shift (exponents_of n s.1.exponents) (head_key (sum_of n v))
    go [] lt = absurd (omega arith)
    go (t ∷ v) lt = refl

-- as many entries as terms
pub entries_some : (n : ℕ) (list : List (List (CodeKey × ℕ))) (keys : List CodeKey) (es : List Entry) (s : KeptProduct) → AreNamed n keys es (product_sum n list s) → 0 < length (get_or list s.0 []) → 0 < length es
entries_some n list keys es s h lt =
    let size : length (row_sum (column_key n keys) es) ≡ length es = row_length (column_key n keys) es in
    let size' : length (product_sum n list s) ≡ length (get_or list s.0 []) = product_length n (exponents_of n s.1.exponents) (get_or list s.0 []) in
    omega (arith, ap length h.sum)
  where
    row_length : (key : ℕ → Key n) (es : List Entry) → length (row_sum key es) ≡ length es
    row_length key [] = refl
    row_length key (e ∷ es) = let q = row_length key es in omega arith

    product_length : (n : ℕ) (m : Exponents n) (v : List (CodeKey × ℕ)) → length (scale 1 m (sum_of n v)) ≡ length v
    product_length n m [] = refl
    product_length n m (t ∷ v) = let q = product_length n m v in omega arith

pub lead_known : (count : ℕ) (es : List Entry) → 0 < length es → Each (λ e. e.0 < count) es → first_column es < count
lead_known count [] lt h = absurd (omega arith)
lead_known count (e ∷ es) lt h = h.0

module _ (n : ℕ) (ws : List ℕ) (list : List (List (CodeKey × ℕ))) (old new : List CodeKey) (rows rows' : List RowShown) (products products' : List KeptProduct) (led led' : List Bool) (s : KeptProduct) (es : List Entry) (r : RowShown)
    (h : IsPlan n ws list old rows products led) (product : IsMemberProduct n ws list s) (named : AreNamed n new es (product_sum n list s)) (grown : IsGrown old new es)
    (monomials : AreKeys n ws new) (re : r.entries ≡ es) (rs : r.sources ≡ (length rows, 1) ∷ []) (rows_more : rows' ≡ rows ++ r ∷ []) (products_more : products' ≡ products ++ s ∷ [])
    (lead : get_or led' (first_column es) false ≡ true) (kept : (c : ℕ) → get_or led c false ≡ true → get_or led' c false ≡ true)
    (only : (c : ℕ) → get_or led' c false ≡ true → (get_or led c false ≡ true) ⊎ (c ≡ first_column es)) where
  old_row : (i : ℕ) → i < length rows → shown_row_at rows' i ≡ shown_row_at rows i
  old_row i lt = ap (λ xs. get_or xs i no_row) rows_more ∙ get_or_append_left rows (r ∷ []) no_row i lt

  last_row : (i : ℕ) → i ≡ length rows → shown_row_at rows' i ≡ r
  last_row i e = ap (λ xs. get_or xs i no_row) rows_more ∙ get_or_push rows r no_row i (sym e)

  size : length rows' ≡ length rows + 1
  size = ap length rows_more ∙ length_push rows r

  each : (i : ℕ) → i < length rows' → IsPlannedRow n ws list new i (shown_row_at rows' i) (kept_at products' i)
  each i lt = elim (cases_eq i (length rows)) [
    | inl e ↦
        let at : kept_at products' i ≡ s = ap (λ xs. get_or xs i no_product) products_more ∙ get_or_push products s no_product i (sym (e ∙ h.count)) in
        subst₂ (IsPlannedRow n ws list new i) (sym (last_row i e)) (sym at) (record {
          product = product;
          named = subst (λ xs. AreNamed n new xs (product_sum n list s)) (sym re) named;
          sources = rs ∙ ap (λ j. (j, 1) ∷ []) (sym e);
        })
    | inr ne ↦
        let l : i < length rows = omega (arith, size) in
        let o = h.each i l in
        let at : kept_at products' i ≡ kept_at products i = ap (λ xs. get_or xs i no_product) products_more ∙ get_or_append_left products (s ∷ []) no_product i (omega (arith, h.count)) in
        subst₂ (IsPlannedRow n ws list new i) (sym (old_row i l)) (sym at) (record {
          product = o.product;
          named = subst (λ ks. AreNamed n ks (shown_row_at rows i).entries (product_sum n list (kept_at products i))) (sym grown.grown) (named_more n old grown.added (shown_row_at rows i).entries (product_sum n list (kept_at products i)) o.named);
          sources = o.sources;
        })
  ]

  met : (c : ℕ) → c < length new → (i : ℕ) × (i < length rows') × NamesNumber (shown_row_at rows' i).entries c
  met c lt = elim (cases_lt c (length old)) [
    | inl l ↦ (
        let o = h.met c l in
        (o.0, omega (arith, o.1, size), subst (λ (x : RowShown). NamesNumber x.entries c) (sym (old_row o.0 o.1)) o.2))
    | inr ge ↦ (length rows, omega (arith, size), subst (λ (x : RowShown). NamesNumber x.entries c) (sym (last_row (length rows) refl)) (subst (λ xs. NamesNumber xs c) (sym re) (grown.named c ge lt)))
  ]

  marked : (c : ℕ) → get_or led' c false ≡ true → (i : ℕ) × (i < length rows') × (lead_number rows' i ≡ c)
  marked c e = elim (only c e) [
    | inl f ↦ (
        let o = h.marked c f in
        (o.0, omega (arith, o.1, size), ap (λ (x : RowShown). first_column x.entries) (old_row o.0 o.1) ∙ o.2))
    | inr f ↦ (length rows, omega (arith, size), ap (λ (x : RowShown). first_column x.entries) (last_row (length rows) refl) ∙ ap first_column re ∙ sym f)
  ]

  leads : (i : ℕ) → i < length rows' → get_or led' (lead_number rows' i) false ≡ true
  leads i lt = elim (cases_eq i (length rows)) [
    | inl e ↦ ap (λ c. get_or led' c false) (ap (λ (x : RowShown). first_column x.entries) (last_row i e) ∙ ap first_column re) ∙ lead
    | inr ne ↦
        let l : i < length rows = omega (arith, size) in
        ap (λ c. get_or led' c false) (ap (λ (x : RowShown). first_column x.entries) (old_row i l)) ∙ kept (lead_number rows i) (h.leads i l)
  ]

  pub more_planned : IsMorePlanned n ws list old new rows rows' products products' led led' s
  more_planned = record {
    plan = record {
      count = size ∙ ap (λ m. m + 1) h.count ∙ sym (ap length products_more ∙ length_push products s);
      monomials = monomials;
      each = each;
      met = met;
      marked = marked;
      leads = leads;
    };
    added = grown.added;
    grown = grown.grown;
    products_more = products_more;
    rows_more = (
      r,
      rows_more,
      ap (λ xs. column_key n new (first_column xs)) re ∙ sym (head_of (column_key n new) es (entries_some n list new es s named product.some)) ∙ ap head_key named.sum ∙ head_product n list s product.some,
      ap (λ xs. get_or led' (first_column xs) false) re ∙ lead,
    );
    kept = kept;
  }

-- ---- the terms of a member
pub terms_weighed :
    (n : ℕ) (ws : List ℕ) (list : List (List (CodeKey × ℕ))) (i : ℕ) → AreWeighed n ws list → i < length list
    → Each (λ t. IsWeighed n ws t.0.monomial) (get_or list i [])
terms_weighed n ws list i h lt = Each_member (λ v. Each (λ t. IsWeighed n ws t.0.monomial) v) list i [] h lt

pub has_variables :
    (n : ℕ) (ws : List ℕ) (v : List (CodeKey × ℕ)) (t : Monomial) → IsWeighed n ws t
    → Each (λ u. IsWeighed n ws u.0.monomial) v → Each (HasVariables (length t.exponents)) v
has_variables n ws v t w h = Each_map (λ u. IsWeighed n ws u.0.monomial) (HasVariables (length t.exponents)) v (λ u x. x.variables ∙ sym w.variables) h

-- the product of a member, in the ring's number of variables
pub named_product :
    (n : ℕ) (ws : List ℕ) (list : List (List (CodeKey × ℕ))) (keys : List CodeKey) (es : List Entry) (member : ℕ) (t : Monomial) (v : List (CodeKey × ℕ))
    → IsWeighed n ws t → v ≡ get_or list member []
    → AreNamed (length t.exponents) keys es (scale 1 (exponents_of (length t.exponents) t.exponents) (sum_of (length t.exponents) v))
    → AreNamed n keys es (product_sum n list (member, t))
named_product n ws list keys es member t v w is h =
    subst (λ (u : List (CodeKey × ℕ)). AreNamed n keys es (scale 1 (exponents_of n t.exponents) (sum_of n u))) is
    (subst (λ m. AreNamed m keys es (scale 1 (exponents_of m t.exponents) (sum_of m v))) w.variables h)

pub keys_product :
    (n : ℕ) (ws : List ℕ) (list : List (List (CodeKey × ℕ))) (old new : List CodeKey) (member : ℕ) (t : Monomial) (v : List (CodeKey × ℕ))
    → IsWeighed n ws t → AreWeighed n ws list → member < length list → v ≡ get_or list member []
    → ((us : List ℕ) → IsWeighed (length t.exponents) us t → Each (λ u. IsWeighed (length t.exponents) us u.0.monomial) v
    → AreKeys (length t.exponents) us old → AreKeys (length t.exponents) us new)
    → AreKeys n ws old → AreKeys n ws new
keys_product n ws list old new member t v w weighed lt is h known =
    subst (λ m. AreKeys m ws new) w.variables
    (h ws (weighed_at n ws t w)
    (subst (λ m. Each (λ (u : CodeKey × ℕ). IsWeighed m ws u.0.monomial) v) (sym w.variables)
    (subst (Each (λ (u : CodeKey × ℕ). IsWeighed n ws u.0.monomial)) (sym is) (terms_weighed n ws list member weighed lt)))
    (subst (λ m. AreKeys m ws old) (sym w.variables) known))
