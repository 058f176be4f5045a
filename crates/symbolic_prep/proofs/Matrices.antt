-- A plan that is closed is the matrix of its job
use Rattle.std.proofs.Common.{Bool, Equal, Greater, Less, List, Ordering, [], ap, ap₂, arith, false, get_or, inl, inr, length, map, one-mul, refl, subst, suc, sym, true, zero, ℕ, ◌*◌, ◌+◌, ◌-◌, ◌<◌, ◌∙◌, ◌∷◌, ◌≡◌, ◌≤◌}
use Rattle.std.proofs.lemmas.Bool.{cases_eq, cases_lt}
use Rattle.std.proofs.lemmas.List.{ext_get_or, get_or-map, get_or_default, length-map}
use Rattle.residues.proofs.Congruences.{IsCongruent_of}
use Rattle.monomials.specs.Exponents.{Exponents, exponents_of, lcm, quotient}
use Rattle.formal_sums.proofs.Sameness.{IsSame_of}
use Rattle.formal_sums.specs.FormalSums.{Each, FormalSum, IsSame, Key, scale, shift}
use Rattle.orders.proofs.KeyOrdering.{equal_itself, less_of_greater}
use Rattle.orders.specs.KeyOrders.{Descends, IsKeyOrder, KeyDivides}
use Rattle.bases.specs.Leads.{head_coefficient, head_key, leads}
use Rattle.term_lists.proofs.Scaling.{Each_at, descends_scale}
use Rattle.term_lists.proofs.Parts.{Each_member}
use Rattle.term_lists.specs.Vectors.{IsTerm, IsVector, key_of, sum_of, sums_of}
use Rattle.term_lists.specs.declared.key.Key.{Key as CodeKey}
use Rattle.module_vectors.specs.Trails.{HasKey, KeptProduct, no_product, kept_at}
use Rattle.pair_criteria.specs.declared.pair.Pair.{Pair as CodePair}
use Rattle.row_laws.specs.Jobs.{AreProductRows, HasPairRows, HasReducers}
use Rattle.row_laws.specs.Rows.{ContainsLead}
use Rattle.vector_division.proofs.Members.{sums_at}
use Rattle.vector_division.proofs.Occurring.{occurs}
use Rattle.row_matrix.specs.Hashes.{AreDistinctKeys}
use Rattle.row_matrix.specs.Naming.{IsNumbering}
use Rattle.row_matrix.specs.Placed.{IsPlacedMatrix, placed_entries, placed_row}
use Rattle.row_matrix.specs.Rows.{AreEntries, Descend, Entry, IsRow, MatrixShown, RowShown}
use Rattle.row_matrix.specs.Rows.{column_key, first_residue, no_row, row_sum, shown_row_at, vector_of, vectors_of}
use Rattle.symbolic_prep.proofs.Closing.{one_number}
use Rattle.symbolic_prep.proofs.Planning.{entries_some, head_of, head_product, lead_known}
use Rattle.symbolic_prep.specs.Counts.{HasFewRows, IsSparse}
use Rattle.symbolic_prep.specs.Plans.{AreClosed, HasPairProducts, IsMemberPair, IsPlan, IsTopProduct, lead_number, product_sum}
use Rattle.pair_criteria.specs.Traces.{AreTraced}
use Rattle.symbolic_prep.specs.Prepared.{IsMonicVector, IsPrepared}

pub Each_index : {X : Type 0} (P : X → Type 0) (xs : List X) (d : X) → ((i : ℕ) → i < length xs → P (get_or xs i d)) → Each P xs
Each_index P [] d h = tt
Each_index P (x ∷ xs) d h = (h 0 (omega arith), Each_index P xs d (λ i lt. h (suc i) (omega arith)))

-- ---- the rows over the columns
placed_sum :
    (n : ℕ) (ws : List ℕ) (compare : Key n → Key n → Ordering) (keys columns : List CodeKey) (places : List ℕ) (es : List Entry)
    → IsNumbering n ws compare keys columns places → Each (λ e. e.0 < length keys) es
    → row_sum (column_key n columns) (placed_entries places es) ≡ row_sum (column_key n keys) es
placed_sum n ws compare keys columns places [] h known = refl
placed_sum n ws compare keys columns places (e ∷ es) h known =
    ap₂ (λ k r. (key_of n k, e.1) ∷ r) (h.placed e.0 known.0) (placed_sum n ws compare keys columns places es h known.1)

placed_within : (n : ℕ) (ws : List ℕ) (compare : Key n → Key n → Ordering) (keys columns : List CodeKey) (places : List ℕ) (es : List Entry)
    → IsNumbering n ws compare keys columns places → Each (λ e. e.0 < length keys) es → Each (λ e. e.0 < length columns) (placed_entries places es)
placed_within n ws compare keys columns places [] h known = tt
placed_within n ws compare keys columns places (e ∷ es) h known = (h.within e.0 known.0, placed_within n ws compare keys columns places es h known.1)

-- keys that descend stand at columns that ascend
module _ (n p r : ℕ) (compare : Key n → Key n → Ordering) (order : IsKeyOrder r compare) (columns : List CodeKey) (descend : Descend n compare columns) where
  later_column :
      (a b : ℕ) → a < length columns → b < length columns → compare (column_key n columns a) (column_key n columns b) ≡ Greater → a < b
  later_column a b la lb g = elim (cases_lt a b) [
    | inl lt ↦ lt
    | inr ge ↦ elim (cases_eq a b) [
      | inl e ↦ absurd (let q : compare (column_key n columns a) (column_key n columns b) ≡ Equal = ap (λ x. compare (column_key n columns a) (column_key n columns x)) (sym e) ∙ equal_itself order (column_key n columns a) in let z : Equal ≡ Greater = sym q ∙ g in cc)
      | inr ne ↦ absurd (let d : compare (column_key n columns b) (column_key n columns a) ≡ Greater = descend b a (omega arith) la in let l : compare (column_key n columns a) (column_key n columns b) ≡ Less = less_of_greater order (column_key n columns b) (column_key n columns a) d in let z : Less ≡ Greater = sym l ∙ g in cc)
    ]
  ]

  ascending :
      (low : ℕ) (es : List Entry) → low ≤ length columns
      → Each (λ e. e.0 < length columns) es → Each (λ (e : Entry). low ≤ e.0) es → Descends compare (row_sum (column_key n columns) es)
      → Each (λ t. (0 < t.1) × (t.1 < p)) (row_sum (column_key n columns) es) → AreEntries p low (length columns) es
  ascending low [] le known from d res = le
  ascending low (e ∷ es) le known from d res = (from.0, res.0.0, res.0.1, ascending (e.0 + 1) es (omega (arith, known.0)) known.1 (behind e es known.0 known.1 d.0) d.1 res.1)
    where
      behind : (e : Entry) (es : List Entry) → e.0 < length columns → Each (λ x. x.0 < length columns) es
          → Each (λ u. compare (column_key n columns e.0) u.0 ≡ Greater) (row_sum (column_key n columns) es) → Each (λ (x : Entry). e.0 + 1 ≤ x.0) es
      behind e [] l k g = tt
      behind e (x ∷ es) l k g = ((let q = later_column e.0 x.0 l k.0 g.0 in omega arith), behind e es l k.1 g.1)

  from_zero : (es : List Entry) → Each (λ (e : Entry). 0 ≤ e.0) es
  from_zero [] = tt
  from_zero (e ∷ es) = ((let z : 0 ≤ e.0 = omega arith in z), from_zero es)

  pub entries_of_sum :
      (es : List Entry) (v : FormalSum n)
      → Each (λ e. e.0 < length columns) es → row_sum (column_key n columns) es ≡ v → Descends compare v → Each (λ t. (0 < t.1) × (t.1 < p)) v
      → AreEntries p 0 (length columns) es
  entries_of_sum es v known e d res =
      ascending 0 es (let z : 0 ≤ length columns = omega arith in z) known (from_zero es) (subst (Descends compare) (sym e) d) (subst (Each (λ t. (0 < t.1) × (t.1 < p))) (sym e) res)

-- ---- products of monic vectors
product_residues : (n : ℕ) (ws : List ℕ) (p : ℕ) (m : Exponents n) (v : List (CodeKey × ℕ)) → Each (IsTerm n ws p) v → Each (λ t. (0 < t.1) × (t.1 < p)) (scale 1 m (sum_of n v))
product_residues n ws p m [] h = tt
product_residues n ws p m (t ∷ v) h = ((subst (λ x. 0 < x) (sym (one-mul t.1)) h.0.nonzero, subst (λ x. x < p) (sym (one-mul t.1)) h.0.reduced), product_residues n ws p m v h.1)

product_one : (n : ℕ) (m : Exponents n) (v : List (CodeKey × ℕ)) → head_coefficient (sum_of n v) ≡ 1 → head_coefficient (scale 1 m (sum_of n v)) ≡ 1
product_one n m [] h = h
product_one n m (t ∷ v) h = one-mul t.1 ∙ h

residue_of : {n : ℕ} (key : ℕ → Key n) (es : List Entry) → head_coefficient (row_sum key es) ≡ first_residue es
residue_of key [] = refl
residue_of key (e ∷ es) = refl

placed_first : (places : List ℕ) (es : List Entry) → first_residue (placed_entries places es) ≡ first_residue es
placed_first places [] = refl
placed_first places (e ∷ es) = refl

-- a key of entries
entry_of_key : {n : ℕ} (key : ℕ → Key n) (count : ℕ) (es : List Entry) (k : Key n) → Each (λ e. e.0 < count) es → HasKey (row_sum key es) k → (c : ℕ) × (c < count) × (key c ≡ k)
entry_of_key key count [] k h (i, lt, e) = absurd (omega arith)
entry_of_key key count (x ∷ es) k h (zero, lt, e) = (x.0, h.0, e)
entry_of_key key count (x ∷ es) k h (suc i, lt, e) = entry_of_key key count es k h.1 (i, omega arith, e)

pub contains_at : {n : ℕ} (rows : List (FormalSum n)) (i : ℕ) (k : Key n) → i < length rows → head_key (get_or rows i []) ≡ k → ContainsLead rows k
contains_at [] i k lt e = absurd (omega arith)
contains_at (r ∷ rows) zero k lt e = inl e
contains_at (r ∷ rows) (suc i) k lt e = inr (contains_at rows i k (omega arith) e)

module _ (n : ℕ) (ws : List ℕ) (p : ℕ) (one : 1 < p) (compare : Key n → Key n → Ordering) (order : IsKeyOrder 0 compare) (list : List (List (CodeKey × ℕ))) (pairs : List CodePair)
    (keys : List CodeKey) (rows : List RowShown) (made : List KeptProduct) (led : List Bool) (m : MatrixShown)
    (vectors : Each (IsVector n ws p compare) list) (monic : Each (IsMonicVector n) list)
    (plan : IsPlan n ws list keys rows made led) (closed : AreClosed n list keys led (length keys))
    (of_pairs : Each (IsMemberPair n ws list) pairs) (pair_steps : Each (HasPairProducts n list made) pairs)
    (placed : IsPlacedMatrix n ws compare keys (length rows) rows m) where
  M : List (FormalSum n)
  M = vectors_of n m.columns m.rows

  size : length m.rows ≡ length rows
  size = ap length placed.placed ∙ length-map rows (λ (r : RowShown). placed_row placed.places r)

  row_is : (i : ℕ) → i < length rows → shown_row_at m.rows i ≡ placed_row placed.places (shown_row_at rows i)
  row_is i lt = ap (λ xs. get_or xs i no_row) placed.placed ∙ get_or-map (λ (r : RowShown). placed_row placed.places r) rows i no_row no_row lt

  sum_is : (i : ℕ) → i < length rows → vector_of n m.columns (shown_row_at m.rows i) ≡ product_sum n list (kept_at made i)
  sum_is i lt =
      let h = plan.each i lt in
      ap (vector_of n m.columns) (row_is i lt) ∙ placed_sum n ws compare keys m.columns placed.places (shown_row_at rows i).entries placed.numbering h.named.known ∙ h.named.sum

  at_is : (i : ℕ) → i < length m.rows → get_or (vectors_of n m.columns m.rows) i [] ≡ product_sum n list (kept_at made i)
  at_is i lt = get_or-map (λ (r : RowShown). vector_of n m.columns r) m.rows i no_row [] lt ∙ sum_is i (omega (arith, size))

  M_size : length (vectors_of n m.columns m.rows) ≡ length m.rows
  M_size = length-map m.rows (λ (r : RowShown). vector_of n m.columns r)

  lists : vectors_of n m.columns m.rows ≡ map (λ (s : KeptProduct). product_sum n list s) made
  lists =
      let b : length (map (λ (s : KeptProduct). product_sum n list s) made) ≡ length made = length-map made (λ (s : KeptProduct). product_sum n list s) in
      ext_get_or [] (vectors_of n m.columns m.rows) (map (λ (s : KeptProduct). product_sum n list s) made) (omega (arith, M_size, size, plan.count))
      (λ i lt. at_is i (omega (arith, M_size)) ∙ (sym (get_or-map (λ (s : KeptProduct). product_sum n list s) made i no_product [] (omega (arith, M_size, size, plan.count)))))

  member_at : (i : ℕ) → i < length list → IsVector n ws p compare (get_or list i []) × IsMonicVector n (get_or list i [])
  member_at i lt = (Each_at (IsVector n ws p compare) list i (get_or list i []) vectors lt (get_or_default list i [] (get_or list i []) lt), Each_at (IsMonicVector n) list i (get_or list i []) monic lt (get_or_default list i [] (get_or list i []) lt))

  good : (i : ℕ) → i < length m.rows → IsRow p (length m.columns) m.inputs (shown_row_at m.rows i)
  good i lt =
      let l : i < length rows = omega (arith, size) in
      let h = plan.each i l in
      let s = kept_at made i in
      let g = member_at s.0 h.product.member in
      let es = (shown_row_at rows i).entries in
      let sum : row_sum (column_key n m.columns) (placed_entries placed.places es) ≡ product_sum n list s = placed_sum n ws compare keys m.columns placed.places es placed.numbering h.named.known ∙ h.named.sum in
      subst (IsRow p (length m.columns) m.inputs) (sym (row_is i l)) (record {
        entries = entries_of_sum n p 0 compare order m.columns placed.numbering.descend (placed_entries placed.places es) (product_sum n list s)
            (placed_within n ws compare keys m.columns placed.places es placed.numbering h.named.known) sum
            (descends_scale compare order.kept 1 (exponents_of n s.1.exponents) (sum_of n (get_or list s.0 [])) g.0.descends)
            (product_residues n ws p (exponents_of n s.1.exponents) (get_or list s.0 []) g.0.each);
        monic = sym (residue_of (column_key n m.columns) (placed_entries placed.places es)) ∙ ap head_coefficient sum ∙ product_one n (exponents_of n s.1.exponents) (get_or list s.0 []) g.1.1;
        sources = subst (AreEntries p 0 m.inputs) (sym h.sources) ((let z : 0 ≤ i = omega arith in z), (let z : 0 < 1 = omega arith in z), one, (let z : i + 1 ≤ m.inputs = omega (arith, placed.input_rows) in z));
      })

  lead_of : (i : ℕ) → i < length m.rows → head_key (get_or (vectors_of n m.columns m.rows) i []) ≡ column_key n keys (lead_number rows i)
  lead_of i lt =
      let l : i < length rows = omega (arith, size) in
      let h = plan.each i l in
      ap head_key (at_is i lt) ∙ ap head_key (sym h.named.sum) ∙ head_of (column_key n keys) (shown_row_at rows i).entries (entries_some n list keys (shown_row_at rows i).entries (kept_at made i) h.named h.product.some)

  products : AreProductRows p (sums_of n list) (vectors_of n m.columns m.rows)
  products i lt =
      let l : i < length m.rows = omega (arith, M_size) in
      let h = plan.each i (omega (arith, size)) in
      let s = kept_at made i in
      record {
        member = s.0;
        within = subst (λ x. s.0 < x) (sym (length-map list (λ (v : List (CodeKey × ℕ)). sum_of n v))) h.product.member;
        multiplier = exponents_of n s.1.exponents;
        same = IsSame_of p _ _ (ap (scale 1 (exponents_of n s.1.exponents)) (sums_at n list s.0) ∙ sym (at_is i l));
        lead = ap (λ v. shift (exponents_of n s.1.exponents) (head_key v)) (sums_at n list s.0) ∙ sym (head_product n list s h.product.some) ∙ ap head_key (sym (at_is i l));
      }

  top_row :
      (x : CodePair) (member number : ℕ) → IsMemberPair n ws list x → IsTopProduct n list made x.lcm member number
      → IsSame p (get_or (vectors_of n m.columns m.rows) number []) (scale 1 (quotient (lcm (leads (sums_of n list) x.i).1 (leads (sums_of n list) x.j).1) (leads (sums_of n list) member).1) (get_or (sums_of n list) member []))
  top_row x member number h t =
      let l : number < length m.rows = omega (arith, t.there, size, plan.count) in
      let s = kept_at made number in
      let e : exponents_of n x.lcm.monomial.exponents ≡ lcm (leads (sums_of n list) x.i).1 (leads (sums_of n list) x.j).1 =
      ap (λ (k : Key n). k.1) h.lcm ∙ ap₂ (λ (a b : FormalSum n). lcm (head_key a).1 (head_key b).1) (sym (sums_at n list x.i)) (sym (sums_at n list x.j)) in
      let q : exponents_of n s.1.exponents ≡ quotient (lcm (leads (sums_of n list) x.i).1 (leads (sums_of n list) x.j).1) (leads (sums_of n list) member).1 =
      t.exponents ∙ ap₂ (λ a (b : FormalSum n). quotient a (head_key b).1) e (sym (sums_at n list member)) in
      IsSame_of p _ _ (at_is number l ∙ ap₂ (λ a b. scale 1 a b) q (ap (λ i. sum_of n (get_or list i [])) t.of ∙ sym (sums_at n list member)))

  pair_rows : (ps : List CodePair) → Each (IsMemberPair n ws list) ps → Each (HasPairProducts n list made) ps → Each (λ (x : CodePair). HasPairRows p (sums_of n list) (vectors_of n m.columns m.rows) x.i x.j) ps
  pair_rows [] a b = tt
  pair_rows (x ∷ ps) a b = (
    record {
      first = (b.0.left, omega (arith, b.0.first.there, size, plan.count, M_size), top_row x x.i b.0.left a.0 b.0.first);
      second = (b.0.right, omega (arith, b.0.second.there, size, plan.count, M_size), top_row x x.j b.0.right a.0 b.0.second);
    },
    pair_rows ps a.1 b.1,
  )

  reducers : (rank : ℕ) → HasReducers (record { modulus = p; weights = ws; rank = rank; compare = compare }) (sums_of n list) (vectors_of n m.columns m.rows)
  reducers rank i k lt nonzero covered = elim (occurs (get_or (vectors_of n m.columns m.rows) i []) k) [
    | inr z ↦ absurd (nonzero (IsCongruent_of p _ 0 z))
    | inl has ↦
        let l : i < length rows = omega (arith, size, M_size) in
        let h = plan.each i l in
        let there : HasKey (row_sum (column_key n keys) (shown_row_at rows i).entries) k = subst (λ v. HasKey v k) (at_is i (omega (arith, M_size)) ∙ sym h.named.sum) has in
        let c = entry_of_key (column_key n keys) (length keys) (shown_row_at rows i).entries k h.named.known there in
        elim (closed c.0 c.1 c.1) [
          | inl marked ↦
              let r = plan.marked c.0 marked in
              let lr : r.0 < length m.rows = omega (arith, r.1, size) in
              contains_at (vectors_of n m.columns m.rows) r.0 k (omega (arith, M_size)) (lead_of r.0 lr ∙ ap (column_key n keys) r.2 ∙ c.2)
          | inr free ↦
              let j = covered.0 in
              let lj : j < length list = subst (λ x. j < x) (length-map list (λ (v : List (CodeKey × ℕ)). sum_of n v)) covered.1 in
              absurd (free j covered.1 (λ none. nothing (get_or list j []) (member_at j lj).1.0 (sym (sums_at n list j) ∙ none)) (subst (KeyDivides (leads (sums_of n list) j)) (sym c.2) covered.3))
        ]
  ]
    where
      nothing : (v : List (CodeKey × ℕ)) → 0 < length v → sum_of n v ≡ [] → ⊥
      nothing [] lt e = omega arith
      nothing (t ∷ v) lt e = let z = ap length e in omega arith

  few_rows :
      AreDistinctKeys keys → (chosen : List ℕ) (others : ℕ) → IsSparse rows chosen others → others < 2 * length pairs
      → HasFewRows (vectors_of n m.columns m.rows) (length pairs)
  few_rows apart chosen others h lt = record {
    chosen = chosen;
    within = inside chosen h.within;
    distinct = λ j k less bound e.
        h.distinct j k less bound
        (one_number n ws keys (lead_number rows (get_or chosen j 0)) (lead_number rows (get_or chosen k 0)) apart plan.monomials
        (lead_below (get_or chosen j 0) (known j (omega arith))) (lead_below (get_or chosen k 0) (known k bound))
        (sym (lead_of (get_or chosen j 0) (omega (arith, known j (omega arith), size))) ∙ e ∙ lead_of (get_or chosen k 0) (omega (arith, known k bound, size))));
    few = omega (arith, h.few, size, M_size);
  }
    where
      inside : (xs : List ℕ) → Each (λ i. i < length rows) xs → Each (λ i. i < length (vectors_of n m.columns m.rows)) xs
      inside [] e = tt
      inside (x ∷ xs) e = (omega (arith, e.0, size, M_size), inside xs e.1)

      known : (j : ℕ) → j < length chosen → get_or chosen j 0 < length rows
      known j l = Each_member (λ i. i < length rows) chosen j 0 h.within l

      lead_below : (i : ℕ) → i < length rows → lead_number rows i < length keys
      lead_below i l =
          let o = plan.each i l in
          lead_known (length keys) (shown_row_at rows i).entries (entries_some n list keys (shown_row_at rows i).entries (kept_at made i) o.named o.product.some) o.named.known

  pub prepared :
      AreTraced n list pairs made → AreDistinctKeys keys
      → (0 < length pairs → (chosen : List ℕ) × IsSparse rows chosen (2 * length pairs - 1)) → (rank : ℕ)
      → IsPrepared n (record { modulus = p; weights = ws; rank = rank; compare = compare }) list pairs m made
  prepared traced apart sparse rank = record {
    matrix = record { monomials = placed.numbering.monomials; descend = placed.numbering.descend; rows = Each_index (IsRow p (length m.columns) m.inputs) m.rows no_row good };
    inputs = placed.input_rows ∙ sym size;
    sources = λ i lt. (let l : i < length rows = omega (arith, size) in ap (λ (r : RowShown). r.sources) (row_is i l) ∙ (plan.each i l).sources);
    each_product = λ i lt. (plan.each i (omega (arith, plan.count))).product;
    vectors = lists;
    products = products;
    pair_rows = pair_rows pairs of_pairs pair_steps;
    reducers = reducers rank;
    traced = traced;
    few = λ some. few_rows apart (sparse some).0 (2 * length pairs - 1) (sparse some).1 (omega arith);
  }

-- ---- the start
pub plan_start : (n : ℕ) (ws : List ℕ) (list : List (List (CodeKey × ℕ))) → IsPlan n ws list [] [] [] []
plan_start n ws list = record {
  count = refl;
  monomials = tt;
  each = λ i l. absurd (omega arith);
  met = λ c l. absurd (omega arith);
  marked = λ c e. absurd (let z : false ≡ true = e in cc);
  leads = λ i l. absurd (omega arith);
}

pub rows_known : (n : ℕ) (ws : List ℕ) (list : List (List (CodeKey × ℕ))) (keys : List CodeKey) (rows : List RowShown) (made : List KeptProduct) (led : List Bool) → IsPlan n ws list keys rows made led → Each (λ (r : RowShown). Each (λ e. e.0 < length keys) r.entries) rows
rows_known n ws list keys rows made led h = Each_index (λ (r : RowShown). Each (λ e. e.0 < length keys) r.entries) rows no_row (λ i lt. (h.each i lt).named.known)
