-- The trail of a Put: from a pair of the job by the products of the outcome to a step of a row's division
use Rattle.std.proofs.Common.{Bool, List, false, true, [], ap, arith, cond, get_or, inl, inr, length, length-append, refl, subst, suc}
use Rattle.std.proofs.Common.{sym, take, zero, ℕ, ◌++◌, ◌+◌, ◌-◌, ◌<◌, ◌∙◌, ◌∷◌, ◌≡◌, ◌≤◌, ◌⊎◌}
use Rattle.std.proofs.lemmas.Bool.{cases_lt}
use Rattle.std.specs.Prelude.{Contains}
use Rattle.monomials.specs.Exponents.{exponents_of}
use Rattle.formal_sums.specs.FormalSums.{Each, FormalSum, Key, shift}
use Rattle.bases.proofs.Meeting.{met_at, turn_from}
use Rattle.bases.specs.Leads.{head_key}
use Rattle.monomial_orders.specs.Kept.{Monomial}
use Rattle.term_lists.specs.Rings.{variables}
use Rattle.term_lists.specs.Vectors.{IsMonomialOver, sum_of}
use Rattle.term_lists.specs.declared.key.Key.{Key as CodeKey}
use Rattle.module_vectors.specs.Trails.{AreMet, HasKey, IsInProduct, IsKeptProduct, KeptProduct, no_product, kept_product_lead, kept_at}
use Rattle.pair_criteria.specs.declared.pair.Pair.{Pair as CodePair}
use Rattle.basis_steps.proofs.Counting.{is_same_pair-refl, is_same_pair-true}
use Rattle.basis_steps.proofs.JobProducts.{job_product_at}
use Rattle.basis_steps.proofs.Listing.{row_made}
use Rattle.basis_steps.specs.Criteria.{lcm_of}
use Rattle.member_products.specs.declared.member.Reduct.{Reduct as CodeReduct}
use Rattle.basis_steps.specs.Outcomes as plain
use Rattle.basis_steps.specs.Divisions.{Occurs}
use Rattle.basis_steps.specs.Outcomes.{IsOutcome, IsReduct, OccursBefore, product_at, product_vector}
use Rattle.basis_steps.specs.Pairs.{Pair, count, is_same_pair}
use Rattle.basis_steps.specs.States.{Member, Product, vectors}
use Rattle.pair_criteria.specs.Traces.{AreTraced}
use Rattle.basis_core.specs.Jobs.{HasLcmOfMembers, index_pair_of, pairs_of}
use Rattle.basis_core.specs.Members.{IsRunRow, IsMemberShown, Shared, MemberShown, members_of, reduct_row_of, reduct_rows_of, setting_of}
use Rattle.basis_core.specs.Outcomes.{indexed_product_of, indexed_products_of}
use Rattle.basis_core.specs.Rows.{IsRowTrail, vectors_in}
use Rattle.basis_core.proofs.AfterPut.{members_length}
use Rattle.basis_core.proofs.MemberKeys.{key_occurs, occurs_in, vector_at}
use Rattle.basis_core.proofs.Tracking.{ring_lawful}
use Rattle.pair_criteria.specs.Pairs.{IsLcmOf}

-- ---- lists
pub step_front : (xs ys : List KeptProduct) (i : ℕ) → i < length xs → kept_at (xs ++ ys) i ≡ kept_at xs i
step_front [] ys i l = absurd (omega arith)
step_front (x ∷ xs) ys zero l = refl
step_front (x ∷ xs) ys (suc i) l = step_front xs ys i (omega arith)

pub step_behind : (xs ys : List KeptProduct) (i : ℕ) → kept_at (xs ++ ys) (length xs + i) ≡ kept_at ys i
step_behind [] ys i = ap (kept_at ys) zeros
  where
    zeros : 0 + i ≡ i
    zeros = omega arith
step_behind (x ∷ xs) ys i = ap (kept_at (x ∷ (xs ++ ys))) sucs ∙ step_behind xs ys i
  where
    sucs : suc (length xs) + i ≡ suc (length xs + i)
    sucs = omega arith

-- a pair that stands in the list
pub counted_pair : (x : Pair) (xs : List CodePair) → 0 < count x (pairs_of xs) → (y : CodePair) × Contains xs y × (index_pair_of y ≡ x)
counted_pair x [] l = absurd (omega arith)
counted_pair x (y ∷ xs) l = go (is_same_pair x (index_pair_of y)) refl (counted_pair x xs)
  where
    go : (b : Bool) → is_same_pair x (index_pair_of y) ≡ b → (0 < count x (pairs_of xs) → (z : CodePair) × Contains xs z × (index_pair_of z ≡ x))
        → (z : CodePair) × Contains (y ∷ xs) z × (index_pair_of z ≡ x)
    go true e rest = (y, (0, omega arith, refl), sym (is_same_pair-true x (index_pair_of y) e))
    go false e rest =
        let none : ◌≡◌ {A = ℕ} (cond (is_same_pair x (index_pair_of y)) 1 0) 0 = ap (λ b. cond b 1 0) e in
        let r = rest (omega (arith, l, none)) in
        (r.0, later r.0 r.1, r.2)
      where
        later : (z : CodePair) → Contains xs z → Contains (y ∷ xs) z
        later z (k, lt, e) = (suc k, omega arith, e)

pub pair_counted : (y : CodePair) (xs : List CodePair) → Contains xs y → 0 < count (index_pair_of y) (pairs_of xs)
pair_counted y xs (k, l, e) = go xs k l e
  where
    go : (xs : List CodePair) (k : ℕ) → k < length xs → get_or xs k y ≡ y → 0 < count (index_pair_of y) (pairs_of xs)
    go [] k l e = absurd (omega arith)
    go (x ∷ xs) zero l e =
        let same : is_same_pair (index_pair_of y) (index_pair_of x) ≡ true = ap (λ z. is_same_pair (index_pair_of y) (index_pair_of z)) e ∙ is_same_pair-refl (index_pair_of y) in
        let one : ◌≡◌ {A = ℕ} (cond (is_same_pair (index_pair_of y) (index_pair_of x)) 1 0) 1 = ap (λ b. cond b 1 0) same in
        omega (arith, one)
    go (x ∷ xs) (suc k) l e = omega (arith, go xs k (omega arith) e)

pub contained_each : {X : Type 0} (P : X → Type 0) (xs : List X) (x : X) → Each P xs → Contains xs x → P x
contained_each P [] x h (k, l, e) = absurd (omega arith)
contained_each P (y ∷ xs) x h (zero, l, e) = subst P e h.0
contained_each P (y ∷ xs) x h (suc k, l, e) = contained_each P xs x h.1 (k, omega arith, e)

-- ---- the members' vectors
pub base_at : (ms : List MemberShown) (b k : ℕ) → k < length (take b ms) → get_or (vectors_in (take b ms)) k [] ≡ get_or (vectors_in ms) k []
base_at [] zero k l = refl
base_at [] (suc b) k l = refl
base_at (m ∷ ms) zero k l = absurd (omega arith)
base_at (m ∷ ms) (suc b) zero l = refl
base_at (m ∷ ms) (suc b) (suc k) l = base_at ms b k (omega arith)

pub listed_length : (ms : List MemberShown) → length (vectors_in ms) ≡ length ms
listed_length [] = refl
listed_length (m ∷ ms) = ap suc (listed_length ms)

-- ---- what is met
-- each lead that is met is a key of the row, or of a step before it
pub met_index :
    (n : ℕ) (v : FormalSum n) (vs : List (List (CodeKey × ℕ))) (earlier later : List KeptProduct)
    → AreMet n v vs earlier later → (i : ℕ) → i < length later
    → HasKey v (kept_product_lead n vs (kept_at later i))
    ⊎ ((j : ℕ) × (j < length earlier + i) × IsInProduct n vs (kept_product_lead n vs (kept_at later i)) (kept_at (earlier ++ later) j))
met_index n v vs earlier later met i l = met_at (HasKey v) (IsInProduct n vs) (kept_product_lead n vs) no_product earlier later met i l

-- ---- a row that stops, of an outcome
pub product_is : (n : ℕ) (products : List KeptProduct) (i : ℕ) → i < length products → product_at (indexed_products_of n products) i ≡ indexed_product_of n (kept_at products i)
product_is n [] i l = absurd (omega arith)
product_is n (s ∷ products) zero l = refl
product_is n (s ∷ products) (suc i) l = product_is n products i (omega arith)

products_length : (n : ℕ) (products : List KeptProduct) → length (indexed_products_of n products) ≡ length products
products_length n [] = refl
products_length n (s ∷ products) = ap suc (products_length n products)

each_row : {n : ℕ} (P : Member n → Type 0) (rows : List CodeReduct) (row : CodeReduct) → Each P (reduct_rows_of n rows) → Contains rows row → P (reduct_row_of n row)
each_row P [] row h (k, l, e) = absurd (omega arith)
each_row {n} P (r ∷ rows) row h (zero, l, e) = subst (λ m. P (reduct_row_of n m)) e h.0
each_row P (r ∷ rows) row h (suc k, l, e) = each_row P rows row h.1 (k, omega arith, e)

-- an outcome over the first members, and one of its rows that stops
pub record HasStoppedRow
    (shared : Shared) (ms base : List MemberShown) (rows : List CodeReduct) (pairs : List CodePair) (products : List KeptProduct)
    (row : CodeReduct) (chain : List KeptProduct) (last : Monomial) : Type 0 where
  pub tracked : Each (IsMemberShown shared) ms
  pub rows_over : Each (IsRunRow shared (length base)) rows
  pub front : base ≡ take (length base) ms
  pub fewer : length base ≤ length ms
  pub lcms : Each (HasLcmOfMembers (variables shared.ring) shared.ring.weights base) pairs
  pub known : Each (λ t. IsMonomialOver shared.ring t.1) products
  pub outcome : IsOutcome (setting_of (variables shared.ring) shared) (vectors (members_of (variables shared.ring) base)) (pairs_of pairs) (reduct_rows_of (variables shared.ring) rows) (indexed_products_of (variables shared.ring) products)
  pub there : Contains rows row
  pub trail : IsRowTrail (variables shared.ring) shared.ring.weights ms row.vector chain last

module _
    (shared : Shared) (ms base : List MemberShown) (rows : List CodeReduct) (pairs : List CodePair) (products : List KeptProduct)
    (row : CodeReduct) (chain : List KeptProduct) (last : Monomial) (h : HasStoppedRow shared ms base rows pairs products row chain last) where
  abbrev n : ℕ
  n = variables shared.ring

  abbrev vs : List (List (CodeKey × ℕ))
  vs = vectors_in ms

  abbrev G : List (FormalSum (variables shared.ring))
  G = vectors (members_of (variables shared.ring) base)

  abbrev p : ℕ
  p = shared.ring.modulus.value

  -- the first members' vectors
  pub at_base : (k : ℕ) → k < length base → get_or G k [] ≡ sum_of n (get_or vs k [])
  at_base k l =
      vector_at n base k
      ∙ ap (sum_of n) (ap (λ b. get_or (vectors_in b) k []) h.front ∙ base_at ms (length base) k (subst (λ b. k < length b) h.front l))

  product_known : (i : ℕ) → i < length products → (kept_at products i).0 < length base
  product_known i l =
      let r = (job_product_at p G (pairs_of pairs) (indexed_products_of n products) (h.outcome).job_products i (omega (arith, l, products_length n products))).0 in
      let e : (product_at (indexed_products_of n products) i).0 ≡ (kept_at products i).0 = ap (λ (t : Product n). t.0) (product_is n products i l) in
      omega (arith, r, e, members_length n base)

  product_met :
      (m : ℕ) (k : Key n) → OccursBefore p G (indexed_products_of n products) m k
      → (j : ℕ) × (j < m) × (j < length products) × IsInProduct n vs k (kept_at products j)
  product_met m k (j, lm, ll, o) =
      let l : j < length products = omega (arith, ll, products_length n products) in (
        j,
        lm,
        l,
        occurs_in n p vs G (kept_at products j) k (at_base (kept_at products j).0 (product_known j l))
            (subst (λ t. Occurs p (product_vector G t) k) (product_is n products j l) o),
      )

  lead_same : (i : ℕ) → i < length products → plain.product_lead G (product_at (indexed_products_of n products) i) ≡ kept_product_lead n vs (kept_at products i)
  lead_same i l =
      ap (plain.product_lead G) (product_is n products i l)
      ∙ ap (λ v. shift (exponents_of n (kept_at products i).1.exponents) (head_key v)) (at_base (kept_at products i).0 (product_known i l))

  -- a product's lead
  product_traced :
      (i : ℕ) → i < length products
      → ((x : CodePair) × IsLcmOf n pairs (kept_product_lead n vs (kept_at products i)) x)
      ⊎ ((j : ℕ) × (j < i) × IsInProduct n vs (kept_product_lead n vs (kept_at products i)) (kept_at products j))
  product_traced i l = go (job_product_at p G (pairs_of pairs) (indexed_products_of n products) (h.outcome).job_products i (omega (arith, l, products_length n products))).1
    where
      go : ((x : Pair) × (0 < count x (pairs_of pairs)) × (plain.product_lead G (product_at (indexed_products_of n products) i) ≡ lcm_of G x))
          ⊎ OccursBefore p G (indexed_products_of n products) i (plain.product_lead G (product_at (indexed_products_of n products) i))
          → ((x : CodePair) × IsLcmOf n pairs (kept_product_lead n vs (kept_at products i)) x)
          ⊎ ((j : ℕ) × (j < i) × IsInProduct n vs (kept_product_lead n vs (kept_at products i)) (kept_at products j))
      go (inl (x, some, e)) =
          let y = counted_pair x pairs some in
          let lcm = (contained_each (HasLcmOfMembers n shared.ring.weights base) pairs y.0 h.lcms y.1).lcm in
          inl (y.0, (y.1, sym (lead_same i l) ∙ e ∙ ap (lcm_of G) (sym y.2) ∙ sym lcm))
      go (inr o) =
          let r = product_met i (plain.product_lead G (product_at (indexed_products_of n products) i)) o in
          inr (r.0, r.1, subst (λ k. IsInProduct n vs k (kept_at products r.0)) (lead_same i l) r.3)

  -- a key of the row
  row_key : (k : Key n) → HasKey (sum_of n row.vector) k → (j : ℕ) × (j < length products) × IsInProduct n vs k (kept_at products j)
  row_key k there =
      let v = (contained_each (IsRunRow shared (length base)) rows row h.rows_over h.there).vector.vector in
      let made = row_made p G (indexed_products_of n products) (reduct_row_of n row) (each_row (IsReduct p G (indexed_products_of n products)) rows row (h.outcome).sums h.there) in
      let r = product_met (length (indexed_products_of n products)) k (made k (key_occurs (setting_of n shared) (ring_lawful shared) row.vector k v there)) in
      (r.0, r.2, r.3)

  -- a step's lead
  step_traced :
      (i : ℕ) → i < length chain
      → (j : ℕ) × (j < length products + i) × IsInProduct n vs (kept_product_lead n vs (kept_at chain i)) (kept_at (products ++ chain) j)
  step_traced i l = subst (λ (s : List KeptProduct). i < length s → (j : ℕ) × (j < length products + i) × IsInProduct n vs (kept_product_lead n vs (kept_at s i))
      (kept_at (products ++ s) j)) (sym (h.trail).products) (go i) l
    where
      first : KeptProduct
      first = (h.trail).first

      later : List KeptProduct
      later = (h.trail).later

      by_row : (i : ℕ) → HasKey (sum_of n row.vector) (kept_product_lead n vs (kept_at ((h.trail).first ∷ (h.trail).later) i))
          → (j : ℕ) × (j < length products + i) × IsInProduct n vs (kept_product_lead n vs (kept_at ((h.trail).first ∷ (h.trail).later) i))
          (kept_at (products ++ (h.trail).first ∷ (h.trail).later) j)
      by_row i there =
          let r = row_key (kept_product_lead n vs (kept_at ((h.trail).first ∷ (h.trail).later) i)) there in (
            r.0,
            omega (arith, r.1),
            subst (IsInProduct n vs (kept_product_lead n vs (kept_at ((h.trail).first ∷ (h.trail).later) i)))
                (sym (step_front products ((h.trail).first ∷ (h.trail).later) r.0 r.1)) r.2,
          )

      go : (i : ℕ) → i < length ((h.trail).first ∷ (h.trail).later)
          → (j : ℕ) × (j < length products + i) × IsInProduct n vs (kept_product_lead n vs (kept_at ((h.trail).first ∷ (h.trail).later) i))
          (kept_at (products ++ (h.trail).first ∷ (h.trail).later) j)
      go zero l = by_row zero (h.trail).begins
      go (suc i) l = by (met_index n (sum_of n row.vector) vs ((h.trail).first ∷ []) (h.trail).later (h.trail).met i (omega arith))
        where
          by : HasKey (sum_of n row.vector) (kept_product_lead n vs (kept_at (h.trail).later i))
              ⊎ ((j : ℕ) × (j < 1 + i) × IsInProduct n vs (kept_product_lead n vs (kept_at (h.trail).later i)) (kept_at ((h.trail).first ∷ (h.trail).later) j))
              → (j : ℕ) × (j < length products + suc i) × IsInProduct n vs (kept_product_lead n vs (kept_at (h.trail).later i))
              (kept_at (products ++ (h.trail).first ∷ (h.trail).later) j)
          by (inl there) = by_row (suc i) there
          by (inr (j, lt, r)) = (
            length products + j,
            omega (arith, lt),
            subst (IsInProduct n vs (kept_product_lead n vs (kept_at (h.trail).later i))) (sym (step_behind products ((h.trail).first ∷ (h.trail).later) j)) r,
          )

  -- all together
  pub all_traced : AreTraced n vs pairs (products ++ chain)
  all_traced =
      turn_from (λ (k : Key n). (x : CodePair) × IsLcmOf n pairs k x) (IsInProduct n vs) (kept_product_lead n vs) no_product (products ++ chain)
      (λ i l. go i l (cases_lt i (length products)))
    where
      go : (i : ℕ) → i < length (products ++ chain) → (i < length products) ⊎ (length products ≤ i)
          → ((x : CodePair) × IsLcmOf n pairs (kept_product_lead n vs (kept_at (products ++ chain) i)) x)
          ⊎ ((j : ℕ) × (j < i) × IsInProduct n vs (kept_product_lead n vs (kept_at (products ++ chain) i)) (kept_at (products ++ chain) j))
      go i l (inl q) = by (product_traced i q)
        where
          by : ((x : CodePair) × IsLcmOf n pairs (kept_product_lead n vs (kept_at products i)) x)
              ⊎ ((j : ℕ) × (j < i) × IsInProduct n vs (kept_product_lead n vs (kept_at products i)) (kept_at products j))
              → ((x : CodePair) × IsLcmOf n pairs (kept_product_lead n vs (kept_at (products ++ chain) i)) x)
              ⊎ ((j : ℕ) × (j < i) × IsInProduct n vs (kept_product_lead n vs (kept_at (products ++ chain) i)) (kept_at (products ++ chain) j))
          by (inl (x, r)) = inl (x, subst (λ s. IsLcmOf n pairs (kept_product_lead n vs s) x) (sym (step_front products chain i q)) r)
          by (inr (j, lt, r)) = inr (
            j,
            lt,
            subst (λ (z : KeptProduct × KeptProduct). IsInProduct n vs (kept_product_lead n vs z.0) z.1)
                (λ t. (sym (step_front products chain i q) t, sym (step_front products chain j (omega (arith, lt, q))) t)) r,
          )
      go i l (inr q) =
          let k : i ≡ length products + (i - length products) = omega (arith, q) in
          let r = step_traced (i - length products) (omega (arith, l, q, length-append products chain)) in
          let there : kept_at chain (i - length products) ≡ kept_at (products ++ chain) i = sym (step_behind products chain (i - length products))
          ∙ ap (kept_at (products ++ chain)) (sym k) in
          inr (r.0, omega (arith, r.1, q), subst (λ s. IsInProduct n vs (kept_product_lead n vs s) (kept_at (products ++ chain) r.0)) there r.2)

  pub all_known : Each (IsKeptProduct n shared.ring.weights vs) (products ++ chain)
  all_known =
      both products (products_in products h.known (λ i l. product_known i l))
      (subst (Each (IsKeptProduct n shared.ring.weights vs)) (sym (h.trail).products) (steps_in ((h.trail).first ∷ (h.trail).later) (h.trail).known (h.trail).weighed))
    where
      both :
          (xs : List KeptProduct) → Each (IsKeptProduct n shared.ring.weights vs) xs → Each (IsKeptProduct n shared.ring.weights vs) chain
          → Each (IsKeptProduct n shared.ring.weights vs) (xs ++ chain)
      both [] a b = b
      both (x ∷ xs) a b = (a.0, both xs a.1 b)

      products_in :
          (xs : List KeptProduct) → Each (λ t. IsMonomialOver shared.ring t.1) xs → ((i : ℕ) → i < length xs → (kept_at xs i).0 < length base)
          → Each (IsKeptProduct n shared.ring.weights vs) xs
      products_in [] v k = tt
      products_in (x ∷ xs) v k = ((omega (arith, k 0 (omega arith), h.fewer, listed_length ms), v.0), products_in xs v.1 (λ i l. k (suc i) (omega arith)))

      steps_in : (xs : List KeptProduct) → Each (λ s. s.0 < length ms) xs → Each (λ s. IsMonomialOver shared.ring s.1) xs → Each (IsKeptProduct n shared.ring.weights vs) xs
      steps_in [] k v = tt
      steps_in (x ∷ xs) k v = ((omega (arith, k.0, listed_length ms), v.0), steps_in xs k.1 v.1)
