-- What has been done of some pairs, and of others, is done of both
use Rattle.std.proofs.Common.{List, [], ap, append_assoc, arith, inl, inr, length, length-append, subst, sym, ℕ, ◌++◌, ◌+◌, ◌-◌, ◌<◌, ◌∙◌, ◌∷◌, ◌≡◌, ◌≤◌, ◌⊎◌}
use Rattle.std.proofs.lemmas.Bool.{cases_lt}
use Rattle.std.proofs.lemmas.List.{get_or-append-add, get_or_append_left}
use Rattle.std.proofs.lemmas.List.Elements.{Contains-append_left, Contains-append_right}
use Rattle.monomials.specs.Exponents.{unit}
use Rattle.formal_sums.proofs.Combining.{Each_map}
use Rattle.formal_sums.proofs.WeightedSums.{Each_append}
use Rattle.formal_sums.specs.FormalSums.{Each, FormalSum, Key}
use Rattle.bases.proofs.MoreMembers.{HasLcmRepresentation_more}
use Rattle.bases.specs.Settings.{IsLawful, Setting}
use Rattle.row_laws.proofs.Jobs.{HasLcmRepresentation_added}
use Rattle.basis_steps.proofs.Counting.{count-append}
use Rattle.basis_steps.proofs.Growing.{vectors-append}
use Rattle.basis_steps.proofs.JobProducts.{IsJobProductAt, job_product_at, job_products_from}
use Rattle.basis_steps.specs.Criteria.{IsPair, IsRepresented, lcm_of}
use Rattle.basis_steps.specs.Divisions.{Occurs}
use Rattle.basis_steps.specs.Outcomes.{AreJobProducts, HasLeadBelowJob, IsOutcome, IsReduct, OccursBefore, product_at, product_lead, product_vector}
use Rattle.basis_steps.specs.Pairs.{Pair, count}
use Rattle.basis_steps.specs.States.{Member, Product, vectors}
use Rattle.s_vectors.specs.Solutions.{IsSolved}

module _ {n : ℕ} (p : ℕ) (G : List (FormalSum n)) where
  -- ---- products behind and before others
  at_left : (a b : List (Product n)) (i : ℕ) → i < length a → product_at (a ++ b) i ≡ product_at a i
  at_left a b i lt = get_or_append_left a b (0, unit n) i lt

  at_right : (a b : List (Product n)) (i : ℕ) → product_at (a ++ b) (length a + i) ≡ product_at b i
  at_right a b i = get_or-append-add a b i (0, unit n)

  before_left : (a b : List (Product n)) (m : ℕ) (k : Key n) → OccursBefore p G a m k → OccursBefore p G (a ++ b) m k
  before_left a b m k (i, low, lt, o) = (i, low, omega (arith, length-append a b), subst (λ t. Occurs p (product_vector G t) k) (sym (at_left a b i lt)) o)

  before_right : (a b : List (Product n)) (m : ℕ) (k : Key n) → OccursBefore p G b m k → OccursBefore p G (a ++ b) (length a + m) k
  before_right a b m k (i, low, lt, o) = (length a + i, omega arith, omega (arith, length-append a b), subst (λ t. Occurs p (product_vector G t) k) (sym (at_right a b i)) o)

  -- rows of more products
  pub row_left : (a b : List (Product n)) (m : Member n) → IsReduct p G a m → IsReduct p G (a ++ b) m
  row_left a b m h = record { alone = h.alone; listed = Each_map _ _ m.products (λ t c. Contains-append_left a b t.0 c) h.listed; sums = h.sums }

  pub row_right : (a b : List (Product n)) (m : Member n) → IsReduct p G b m → IsReduct p G (a ++ b) m
  row_right a b m h = record { alone = h.alone; listed = Each_map _ _ m.products (λ t c. Contains-append_right a b t.0 c) h.listed; sums = h.sums }

  -- ---- more pairs
  count_left : (x : Pair) (xs ys : List Pair) → 0 < count x xs → 0 < count x (xs ++ ys)
  count_left x xs ys h = omega (arith, count-append x xs ys)

  count_right : (x : Pair) (xs ys : List Pair) → 0 < count x ys → 0 < count x (xs ++ ys)
  count_right x xs ys h = omega (arith, count-append x xs ys)

  pub products_joined :
      (xs ys : List Pair) (a b : List (Product n))
      → AreJobProducts p G xs a → AreJobProducts p G ys b → AreJobProducts p G (xs ++ ys) (a ++ b)
  products_joined xs ys a b ja jb = job_products_from p G (xs ++ ys) (a ++ b) (λ i lt. go i lt (cases_lt i (length a)))
    where
      ha : (i : ℕ) → i < length a → IsJobProductAt p G xs a i
      ha = job_product_at p G xs a ja

      hb : (i : ℕ) → i < length b → IsJobProductAt p G ys b i
      hb = job_product_at p G ys b jb

      front : (j : ℕ) → j < length a
          → ((product_at a j).0 < length G) × (((x : Pair) × (0 < count x (xs ++ ys)) × (product_lead G (product_at a j) ≡ lcm_of G x)) ⊎ OccursBefore p G (a ++ b) j (product_lead G (product_at a j)))
      front j l = ((ha j l).0, elim (ha j l).1 [ inl s ↦ inl (s.0, count_left s.0 xs ys s.1, s.2) | inr o ↦ inr (before_left a b j (product_lead G (product_at a j)) o) ])

      behind : (j : ℕ) → j < length b
          → ((product_at b j).0 < length G) × (((x : Pair) × (0 < count x (xs ++ ys)) × (product_lead G (product_at b j) ≡ lcm_of G x)) ⊎ OccursBefore p G (a ++ b) (length a + j) (product_lead G (product_at b j)))
      behind j l = ((hb j l).0, elim (hb j l).1 [ inl s ↦ inl (s.0, count_right s.0 xs ys s.1, s.2) | inr o ↦ inr (before_right a b j (product_lead G (product_at b j)) o) ])

      go : (i : ℕ) → i < length (a ++ b) → (i < length a) ⊎ (length a ≤ i)
          → ((product_at (a ++ b) i).0 < length G) × (((x : Pair) × (0 < count x (xs ++ ys)) × (product_lead G (product_at (a ++ b) i) ≡ lcm_of G x)) ⊎ OccursBefore p G (a ++ b) i (product_lead G (product_at (a ++ b) i)))
      go i lt (inl l) =
          subst (λ t. (t.0 < length G) × (((x : Pair) × (0 < count x (xs ++ ys)) × (product_lead G t ≡ lcm_of G x)) ⊎ OccursBefore p G (a ++ b) i (product_lead G t)))
          (sym (at_left a b i l)) (front i l)
      go i lt (inr le) =
          let j : ℕ = i - length a in
          let e : length a + j ≡ i = omega arith in
          let short : j < length b = omega (arith, length-append a b) in
          subst (λ z. ((product_at (a ++ b) z).0 < length G) × (((x : Pair) × (0 < count x (xs ++ ys)) × (product_lead G (product_at (a ++ b) z) ≡ lcm_of G x)) ⊎ OccursBefore p G (a ++ b) z (product_lead G (product_at (a ++ b) z)))) e
          (subst (λ t. (t.0 < length G) × (((x : Pair) × (0 < count x (xs ++ ys)) × (product_lead G t ≡ lcm_of G x)) ⊎ OccursBefore p G (a ++ b) (length a + j) (product_lead G t)))
          (sym (at_right a b j)) (behind j short))

module _ {n : ℕ} (S : Setting n) (lawful : IsLawful S) (G : List (FormalSum n)) where
  low_left : (xs ys : List Pair) (v : FormalSum n) → HasLeadBelowJob S G xs v → HasLeadBelowJob S G (xs ++ ys) v
  low_left xs ys v h = λ k lead. let a = h k lead in (a.0, count_left S.modulus G a.0 xs ys a.1, a.2)

  low_right : (xs ys : List Pair) (v : FormalSum n) → HasLeadBelowJob S G ys v → HasLeadBelowJob S G (xs ++ ys) v
  low_right xs ys v h = λ k lead. let a = h k lead in (a.0, count_right S.modulus G a.0 xs ys a.1, a.2)

  -- more rows behind, and before
  more_rows : (rows more : List (Member n)) (xs : List Pair) → Each (IsPair G) xs → Each (IsRepresented S (G ++ vectors rows)) xs → Each (IsRepresented S (G ++ vectors (rows ++ more))) xs
  more_rows rows more [] real h = tt
  more_rows rows more (x ∷ xs) real h =
      let a = real.0.ordered in
      let b = real.0.within in
      let l = length-append G (vectors rows) in (
        subst (λ l. IsRepresented S l x) (append_assoc G (vectors rows) (vectors more) ∙ ap (λ l. G ++ l) (sym (vectors-append rows more)))
            (HasLcmRepresentation_more S (G ++ vectors rows) (vectors more) x.0 x.1 (omega arith) (omega arith) h.0),
        more_rows rows more xs real.1 h.1,
      )

  rows_before : (more rows : List (Member n)) (xs : List Pair) → Each (IsPair G) xs → Each (IsRepresented S (G ++ vectors rows)) xs → Each (IsRepresented S (G ++ vectors (more ++ rows))) xs
  rows_before more rows [] real h = tt
  rows_before more rows (x ∷ xs) real h =
      let a = real.0.ordered in
      let b = real.0.within in (
        subst (λ l. IsRepresented S (G ++ l) x) (sym (vectors-append more rows))
            (HasLcmRepresentation_added S lawful G (vectors more) (vectors rows) x.0 x.1 (omega arith) b h.0),
        rows_before more rows xs real.1 h.1,
      )

  -- nothing
  pub solved_none : IsSolved S G [] [] []
  solved_none = record {
    represented = tt;
    few = omega arith;
    low = tt;
    job_products = (tt, tt);
    sums = tt;
  }

  -- both
  pub solved_joined :
      (xs ys : List Pair) (rows more : List (Member n)) (a b : List (Product n))
      → Each (IsPair G) xs → Each (IsPair G) ys → IsSolved S G xs rows a → IsSolved S G ys more b
      → IsSolved S G (xs ++ ys) (rows ++ more) (a ++ b)
  solved_joined xs ys rows more a b rx ry h g =
      let p = S.modulus in
      let e1 = h.few in
      let e2 = g.few in
      record {
        represented = Each_append _ xs ys (more_rows rows more xs rx h.represented) (rows_before rows more ys ry g.represented);
        few = omega (arith, length-append rows more, length-append xs ys);
        low = Each_append _ rows more (Each_map _ _ rows (λ m l. low_left xs ys m.vector l) h.low) (Each_map _ _ more (λ m l. low_right xs ys m.vector l) g.low);
        job_products = products_joined p G xs ys a b h.job_products g.job_products;
        sums = Each_append _ rows more (Each_map _ _ rows (λ m l. row_left p G a b m l) h.sums) (Each_map _ _ more (λ m l. row_right p G a b m l) g.sums);
      }

  -- all pairs of a job
  pub solved_outcome :
      (job : List Pair) (rows : List (Member n)) (products : List (Product n))
      → 0 < length job → Each (IsPair G) job → IsSolved S G job rows products → IsOutcome S G job rows products
  solved_outcome job rows products some real h =
      let e = h.few in
      record {
        some = some;
        pairs = real;
        represented = h.represented;
        few = omega arith;
        low = h.low;
        job_products = h.job_products;
        sums = h.sums;
      }
