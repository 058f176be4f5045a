-- One step of the change: the next product in its turn
use Rattle.std.proofs.Common.{Less, List, Ordering, [], ap, ap₂, arith, get_or, inl, inr, length, refl, subst, suc, sum, sym, take, zero, ℕ, ◌++◌, ◌+◌, ◌-◌, ◌<◌, ◌∙◌, ◌∷◌, ◌≡◌, ◌≤◌, ◌⊎◌}
use Rattle.std.proofs.lemmas.Bool.{cases_lt}
use Rattle.std.proofs.lemmas.List.{get_or_default, take_more}
use Rattle.std.specs.Prelude.{slice_index}
use Rattle.residues.proofs.Congruences.{IsCongruent_of}
use Rattle.monomials.specs.Exponents.{Divides, Exponents, cons, exponents_of, head, nil, tail, times, unit}
use Rattle.formal_sums.proofs.Combining.{IsMember_zero}
use Rattle.formal_sums.proofs.Sameness.{IsSame_sym}
use Rattle.formal_sums.specs.Combinations.{IsMember}
use Rattle.formal_sums.specs.FormalSums.{Each, FormalSum, IsSame, Key, Term, scale}
use Rattle.bases.specs.Settings.{IsLawful}
use Rattle.monomial_orders.specs.Comparisons.{comparison}
use Rattle.monomial_orders.specs.Kept.{IsWeighed, Monomial, monomials}
use Rattle.monomial_orders.specs.Laws.{comparison_order}
use Rattle.term_lists.specs.Rings.{ring_comparison, setting}
use Rattle.term_lists.specs.Vectors.{key_of, sum_of}
use Rattle.term_lists.specs.declared.key.Key.{Key as CodeKey}
use Rattle.term_lists.specs.declared.ring.Ring.{Ring}
use Rattle.change_laws.proofs.Expansions.{expansion_push, expansion_zero}
use Rattle.change_laws.proofs.Modulo.{modulo_member, modulo_same, modulo_scale, modulo_trans}
use Rattle.change_laws.proofs.Pushing.{Has_new, Has_old, at_new, at_old, length_push}
use Rattle.change_laws.specs.Combinations.{IsSameModulo, expansion}
use Rattle.change_laws.specs.Standard.{Has, IsStandard, power}
use Rattle.monomials.proofs.Monomials.{times-unit}
use Rattle.order_change.proofs.Adding.{same_wider}
use Rattle.order_change.proofs.Borders.{IsProductWhere, within}
use Rattle.order_change.proofs.Filling.{each_at}
use Rattle.order_change.proofs.Items.{has_or_not, length_monomials, monomials_push}
use Rattle.order_change.proofs.Orders.{less_not_back, less_not_itself, less_of_not, variable_above}
use Rattle.order_change.proofs.Tails.{sum_push}
use Rattle.order_change.proofs.Turning.{divisor_more, divisor_new, turns_passed}
use Rattle.order_change.specs.Changing.{AreNewMembers, AreNewStandard, AreVariableProducts, AreTurns, HasDivisor, IsMonomialAdded, IsChanging, IsFormModulo, IsKnownSoFar, IsNextMonomial, IsRest}
use Rattle.order_change.specs.Forms.{AreResidues, IsRowForm, monomial_vector}
use Rattle.order_change.specs.Lists.{HaveDegrees, IsNew}
use Rattle.order_change.specs.Products.{HaveRoom, IsCandidate, IsLeast, variable_product_at}
use Rattle.order_change.specs.Rows.{AreSame, IsCleared}
use Rattle.order_change.specs.Tables.{IsNormalFormTable}
use Rattle.order_change.specs.declared.rows.Row.{Row}
use Rattle.order_change.specs.declared.change.Change.{Change}
use Rattle.order_change.specs.declared.products.Candidate.{Candidate}

-- where nothing is left of the form, the combination is a member
pub rest_member :
    {n p : ℕ} → 0 < p → (F : List (FormalSum n)) (B N : List (Exponents n)) (left : List ℕ) (f : ℕ → ℕ) (v : FormalSum n)
    → ((k : ℕ) → slice_index left k ≡ 0) → IsSameModulo p F (expansion B (slice_index left)) (expansion N f) → IsSame p v (expansion N f) → IsMember p F v
rest_member {n} {p} pos F B N left f v zeros same sum =
    modulo_member F pos
    (modulo_trans F (modulo_same F [] (expansion B (slice_index left)) (IsSame_sym (expansion_zero B (slice_index left) (λ k lt. IsCongruent_of p _ 0 (zeros k)))))
    (modulo_trans F same (modulo_same F _ _ (IsSame_sym sum))))
    (IsMember_zero p F)

-- a row that is zero up to its end is zero
pub zero_row : (row : List ℕ) → ((k : ℕ) → k < length row → slice_index row k ≡ 0) → (k : ℕ) → slice_index row k ≡ 0
zero_row [] h k = refl
zero_row (x ∷ row) h zero = h 0 (omega arith)
zero_row (x ∷ row) h (suc k) = zero_row row (λ j lt. h (suc j) (omega (arith, lt))) k

-- a table without its order
pub table_products : {n : ℕ} (compare : Exponents n → Exponents n → Ordering) (p : ℕ) (F : List (FormalSum n)) (B : List (Exponents n)) (table : List (List (List ℕ))) → IsNormalFormTable compare p F B table → AreVariableProducts n p F B table
table_products compare p F B table h = record {
  long = h.long;
  full = h.full;
  residues = λ v k vn kl. (h.forms v k vn (let f = h.full v vn in omega (arith, kl, f))).residues;
  forms = λ v k vn kl. (h.forms v k vn (let f = h.full v vn in omega (arith, kl, f))).same;
}

-- the product of a variable and a monomial by its form
module _ (n : ℕ) (ring : Ring) (F : List (FormalSum n)) (B : List (Exponents n)) (table : List (List (List ℕ))) (products : AreVariableProducts n ring.modulus.value F B table) (v : ℕ) (vn : v < n) (row : List ℕ) (residues : AreResidues ring.modulus.value (length B) row) where
  pub variable_covered : (k : ℕ) → 0 < slice_index row k → k < length (get_or table v [])
  variable_covered k some = let a = within (length B) ring.modulus.value row k residues some in let b = products.full v vn in omega (arith, a, b)

  pub variable_rows : Each (AreResidues ring.modulus.value (length row)) (get_or table v [])
  variable_rows = each_at (AreResidues ring.modulus.value (length row)) (get_or table v []) [] (λ k lt.
      subst (λ d. AreResidues ring.modulus.value d (get_or (get_or table v []) k [])) (sym residues.long) (products.residues v k vn (let f = products.full v vn in omega (arith, lt, f))))

  pub variable_form :
      (b y : Exponents n) (out : List ℕ) → 0 < ring.modulus.value → IsRowForm ring.modulus.value F B (monomial_vector b) row → y ≡ times (power n v 1) b
      → AreResidues ring.modulus.value (length row) out → IsProductWhere ring.modulus.value (get_or table v []) row out
      → IsFormModulo n ring F B y out
  variable_form b y out pos form is small product = record {
    residues = subst (λ d. AreResidues ring.modulus.value d out) residues.long small;
    is = modulo_trans F
        (subst (λ z. IsSameModulo ring.modulus.value F (((0, z), 1) ∷ []) (scale 1 (power n v 1) (expansion B (slice_index row)))) (sym is) (modulo_scale F pos 1 (power n v 1) form))
        (product n F B (power n v 1) (sym residues.long)
        (λ k kl some. products.forms v k vn (within (length B) ring.modulus.value row k residues some)));
  }

-- one more term
pub terms_more :
    {n : ℕ} (N : List (Exponents n)) (f : ℕ → ℕ) (xs : List (CodeKey × ℕ)) (t : CodeKey × ℕ) (k : ℕ) → sum_of n xs ≡ expansion (take k N) f → k < length N
    → key_of n t.0 ≡ (0, get_or N k (unit n)) → t.1 ≡ f k → sum_of n (xs ++ t ∷ []) ≡ expansion (take (k + 1) N) f
terms_more {n} N f xs t k old lt key residue =
    sum_push n xs t ∙ ap₂ (λ a b. a ++ b ∷ []) old (term_is (key_of n t.0) (0, get_or N k (unit n)) t.1 (f (length (take k N))) key (residue ∙ ap f (sym (take_long k N (omega (arith, lt))))))
    ∙ sym (ap (λ z. expansion z f) (take_more N k (unit n) lt) ∙ expansion_push (take k N) (get_or N k (unit n)) f)
  where
    take_long : {X : Type 0} (k : ℕ) (xs : List X) → k ≤ length xs → length (take k xs) ≡ k
    take_long zero [] le = refl
    take_long zero (x ∷ xs) le = refl
    take_long (suc k) [] le = absurd (omega (arith, le))
    take_long (suc k) (x ∷ xs) le = ap suc (take_long k xs (omega (arith, le)))

    term_is : (a b : Key n) (c d : ℕ) → a ≡ b → c ≡ d → ◌≡◌ {A = Term n} (a, c) (b, d)
    term_is a b c d e q = ap₂ (λ x y. (x, y)) e q

pub take_whole : {X : Type 0} (xs : List X) (k : ℕ) → length xs ≤ k → take k xs ≡ xs
take_whole [] zero le = refl
take_whole [] (suc k) le = refl
take_whole (x ∷ xs) zero le = absurd (omega (arith, le))
take_whole (x ∷ xs) (suc k) le = ap (λ l. x ∷ l) (take_whole xs k (omega (arith, le)))

-- the terms with m behind them
pub terms_last :
    {n : ℕ} (N : List (Exponents n)) (f : ℕ → ℕ) (xs : List (CodeKey × ℕ)) (t : CodeKey × ℕ) (y : Exponents n) → sum_of n xs ≡ expansion N f
    → key_of n t.0 ≡ (0, y) → t.1 ≡ f (length N) → sum_of n (xs ++ t ∷ []) ≡ expansion (N ++ y ∷ []) f
terms_last {n} N f xs t y old key residue = sum_push n xs t ∙ ap₂ (λ a b. a ++ b ∷ []) old (term_is (key_of n t.0) (0, y) t.1 (f (length N)) key residue) ∙ sym (expansion_push N y f)
  where
    term_is : (a b : Key n) (c d : ℕ) → a ≡ b → c ≡ d → ◌≡◌ {A = Term n} (a, c) (b, d)
    term_is a b c d e q = ap₂ (λ x y. (x, y)) e q

-- few monomials of small degrees leave room
pub few_room : (ms : List Monomial) → HaveDegrees ms → length ms ≤ 256 → HaveRoom ms
few_room ms h few k m lt e = let d = h k m lt e in omega (arith, d, lt, few)

-- what the rows leave is the rest
pub rest_is :
    (n : ℕ) (ring : Ring) (F : List (FormalSum n)) (B : List (Exponents n)) (lawful : IsLawful (setting ring n (ring_comparison ring n) 1)) (change : Change) (m : Monomial) (form : List ℕ) (rows : List Row) (left combination : List ℕ)
    → IsKnownSoFar n ring F B change → rows ≡ change.rows.items → IsFormModulo n ring F B (exponents_of n m.exponents) form
    → AreResidues ring.modulus.value (length form) left → AreResidues ring.modulus.value (length rows + 1) combination
    → slice_index combination (length rows) ≡ 1 → IsCleared rows left (length rows)
    → ((N : List (Exponents n)) → length rows < length N → AreSame ring.modulus.value F B N rows → IsRowForm ring.modulus.value F B (monomial_vector (get_or N (length rows) (unit n))) form
    → IsSameModulo ring.modulus.value F (expansion B (slice_index left)) (expansion N (slice_index combination)))
    → IsRest n ring F B change m left combination
rest_is n ring F B lawful change m form rows left combination h same is lr cr one cleared rest = record {
  form_residues = subst (λ d. AreResidues ring.modulus.value d left) is.residues.long lr;
  combination_residues = subst (λ d. AreResidues ring.modulus.value (d + 1) combination) count cr;
  one = subst (λ d. slice_index combination d ≡ 1) count one;
  cleared = subst (λ z. IsCleared z left (length z)) same cleared;
  same = rest (monomials n change.monomials.items ++ exponents_of n m.exponents ∷ [])
      (omega (arith, count, length_monomials n change.monomials.items, length_push (monomials n change.monomials.items) (exponents_of n m.exponents)))
      (subst (AreSame ring.modulus.value F B (monomials n change.monomials.items ++ exponents_of n m.exponents ∷ [])) (sym same)
      (same_wider n ring F B lawful change.monomials.items change.forms.items change.rows.items (exponents_of n m.exponents) h.standard))
      (subst (λ z. IsRowForm ring.modulus.value F B (monomial_vector z) form) (sym last) is.is);
}
  where
    count : length rows ≡ length change.monomials.items
    count = ap length same ∙ h.standard.rows_long

    last : get_or (monomials n change.monomials.items ++ exponents_of n m.exponents ∷ []) (length rows) (unit n) ≡ exponents_of n m.exponents
    last = ap (λ z. get_or (monomials n change.monomials.items ++ exponents_of n m.exponents ∷ []) z (unit n)) (count ∙ sym (length_monomials n change.monomials.items)) ∙ at_new (monomials n change.monomials.items) (exponents_of n m.exponents)

-- nothing is known at first
pub nothing_known : (n : ℕ) (ring : Ring) (F : List (FormalSum n)) (B : List (Exponents n)) (change : Change) → change.monomials.items ≡ [] → change.forms.items ≡ [] → change.rows.items ≡ [] → change.leads.items ≡ [] → change.members.items ≡ [] → IsKnownSoFar n ring F B change
nothing_known n ring F B change a b d e g = record {
  standard = subst (λ z. AreNewStandard n ring F B z change.forms.items change.rows.items) (sym a) (subst (λ z. AreNewStandard n ring F B [] z change.rows.items) (sym b) (subst (λ z. AreNewStandard n ring F B [] [] z) (sym d) none));
  members = subst (λ z. AreNewMembers n ring F (monomials n z) change.leads.items change.members.items) (sym a)
      (subst (λ z. AreNewMembers n ring F [] z change.members.items) (sym e) (subst (λ z. AreNewMembers n ring F [] [] z) (sym g) empty));
}
  where
    none : AreNewStandard n ring F B [] [] []
    none = record {
      monomials_of = λ k m lt q. absurd (omega (arith, lt));
      degrees = λ k m lt q. absurd (omega (arith, lt));
      ascending = λ i j ij jl. absurd (omega (arith, jl));
      forms_long = refl;
      residues = λ k lt. absurd (omega (arith, lt));
      forms_are = λ k lt. absurd (omega (arith, lt));
      rows_long = refl;
      rows_are = record { each = λ l row lt q. absurd (omega (arith, lt)); later = λ l i row other li il q r. absurd (omega (arith, il)) };
      same = λ l row lt q. absurd (omega (arith, lt));
      diagonal = λ l row lt q. absurd (omega (arith, lt));
    }

    empty : AreNewMembers n ring F [] [] []
    empty = record {
      heads_of = λ k m lt q. absurd (omega (arith, lt));
      vectors = tt;
      positions = tt;
      heads_are = refl;
      inside = λ i lt. absurd (omega (arith, lt));
      monic = λ i lt. absurd (omega (arith, lt));
      tails = λ i k lt nz. absurd (omega (arith, lt));
      uncovered = λ m has. absurd (let lt = has.1 in omega (arith, lt));
      falls = λ i j ij jl. absurd (omega (arith, jl));
      apart = λ i j il jl ne d. absurd (omega (arith, il));
    }

-- 1 comes first
pub first_next : (n : ℕ) (ring : Ring) (change : Change) (one : Monomial) → change.monomials.items ≡ [] → change.leads.items ≡ [] → IsWeighed n ring.weights one → one.degree ≡ 0 → IsNextMonomial n ring change one
first_next n ring change one a e weighed degree = record {
  weighed = weighed;
  degree = omega (arith, degree);
  above = λ k lt. absurd (let l : length change.monomials.items ≡ 0 = ap length a in omega (arith, lt, l));
  not_below = λ k lt. absurd (let l : length change.leads.items ≡ 0 = ap length e in omega (arith, lt, l));
  free = λ k lt d. absurd (let l : length change.leads.items ≡ 0 = ap length e in omega (arith, lt, l, length_monomials n change.leads.items));
}

pub first_turns :
    (n : ℕ) (ring : Ring) (old new : Change) (one : Monomial) → length old.turns ≡ n → ((v : ℕ) → slice_index old.turns v ≡ 0)
    → old.monomials.items ≡ [] → old.leads.items ≡ [] → exponents_of n one.exponents ≡ unit n → IsMonomialAdded old new one
    → AreTurns n ring (monomials n new.monomials.items) (monomials n new.leads.items) new.turns
first_turns n ring old new one long zeros a e is added = go added.one
  where
    zero_at : (v : ℕ) → slice_index new.turns v ≡ 0
    zero_at v = ap (λ z. slice_index z v) added.turns ∙ zeros v

    few_at : (N H : List (Exponents n)) → Has N (unit n) ⊎ HasDivisor H (unit n) → ((k : ℕ) → k < length N → get_or N k (unit n) ≡ unit n) → (0 < length N → length H ≡ 0) → AreTurns n ring N H new.turns
    few_at N H first units none = record {
      long = ap length added.turns ∙ long;
      most = λ v vn. let z = zero_at v in omega (arith, z);
      had = λ v k vn kt. absurd (let z = zero_at v in omega (arith, z, kt));
      above_standard = λ v k vn lt kl below.
          let z = zero_at v in
          let some : 0 < length N = omega (arith, kl) in
          less_not_back (comparison ring.order ring.weights n) (comparison_order ring.order ring.weights n) (unit n) (times (power n v 1) (unit n))
          (variable_above (comparison ring.order ring.weights n) (comparison_order ring.order ring.weights n) v (unit n) vn)
          (ap₂ (comparison ring.order ring.weights n) (sym (ap (λ x. times (power n v 1) (get_or N x (unit n))) z ∙ ap (times (power n v 1)) (units 0 some))) (sym (units k kl)) ∙ below);
      above_leads = λ v k vn lt kl below. (let z = none (omega (arith, lt)) in omega (arith, z, kl));
      first = first;
    }

    go :
        ((new.monomials.items ≡ old.monomials.items ++ one ∷ []) × (new.leads.items ≡ old.leads.items))
        ⊎ ((new.monomials.items ≡ old.monomials.items) × (new.leads.items ≡ one ∷ old.leads.items))
        → AreTurns n ring (monomials n new.monomials.items) (monomials n new.leads.items) new.turns
    go (inl (p, q)) =
        subst (λ z. AreTurns n ring (monomials n z) (monomials n new.leads.items) new.turns) (sym (p ∙ ap (λ z. z ++ one ∷ []) a))
        (subst (λ z. AreTurns n ring (exponents_of n one.exponents ∷ []) (monomials n z) new.turns) (sym (q ∙ e))
        (few_at (exponents_of n one.exponents ∷ []) [] (inl (0, omega arith, is)) units (λ s. refl)))
      where
        units : (k : ℕ) → k < length (exponents_of n one.exponents ∷ []) → get_or (exponents_of n one.exponents ∷ []) k (unit n) ≡ unit n
        units zero lt = is
        units (suc k) lt = absurd (omega (arith, lt))
    go (inr (p, q)) =
        subst (λ z. AreTurns n ring (monomials n z) (monomials n new.leads.items) new.turns) (sym (p ∙ a))
        (subst (λ z. AreTurns n ring [] (monomials n z) new.turns) (sym (q ∙ ap (λ z. one ∷ z) e))
        (few_at [] (exponents_of n one.exponents ∷ []) (inr (0, omega arith, (unit n, times-unit (exponents_of n one.exponents) ∙ is))) (λ k lt. absurd (omega (arith, lt))) (λ s. absurd (omega (arith, s)))))

-- a monomial divides another, or not
divides_or : {n : ℕ} (a b : Exponents n) → Divides a b ⊎ (Divides a b → ⊥)
divides_or nil nil = inl (nil, refl)
divides_or {n = suc n} (cons a u) (cons b v) = go (cases_lt b a) (divides_or u v)
  where
    go : (b < a) ⊎ (a ≤ b) → Divides u v ⊎ (Divides u v → ⊥) → Divides (cons a u) (cons b v) ⊎ (Divides (cons a u) (cons b v) → ⊥)
    go (inl l) q = inr (λ d. over d.0 d.1)
      where
        over : (t : Exponents (suc n)) → times t (cons a u) ≡ cons b v → ⊥
        over (cons c t) e = let h : c + a ≡ b = ap head e in omega (arith, h, l)
    go (inr g) (inl (t, e)) = inl (cons (b - a) t, ap₂ cons (omega (arith, g)) e)
    go (inr g) (inr none) = inr (λ d. over d.0 d.1)
      where
        over : (t : Exponents (suc n)) → times t (cons a u) ≡ cons b v → ⊥
        over (cons c t) e = none (t, ap tail e)

-- what is not new is there, or has a divisor
pub new_or_not : {n : ℕ} (H N : List (Exponents n)) (m : Exponents n) → (IsNew H N m → ⊥) → Has N m ⊎ HasDivisor H m
new_or_not {n} H N m old = go (has_or_not N m)
  where
    divisor_or : (H : List (Exponents n)) → HasDivisor H m ⊎ IsStandard H m
    divisor_or [] = inr (λ k lt d. omega (arith, lt))
    divisor_or (x ∷ H) = by (divides_or x m) (divisor_or H)
      where
        by : Divides x m ⊎ (Divides x m → ⊥) → HasDivisor H m ⊎ IsStandard H m → HasDivisor (x ∷ H) m ⊎ IsStandard (x ∷ H) m
        by (inl d) q = inl (0, omega arith, d)
        by (inr none) (inl (k, kl, d)) = inl (suc k, omega (arith, kl), d)
        by (inr none) (inr free) = inr all
          where
            all : IsStandard (x ∷ H) m
            all zero lt d = none d
            all (suc k) lt d = free k (omega (arith, lt)) d

    go : Has N m ⊎ (Has N m → ⊥) → Has N m ⊎ HasDivisor H m
    go (inl has) = inl has
    go (inr absent) = by (divisor_or H)
      where
        by : HasDivisor H m ⊎ IsStandard H m → Has N m ⊎ HasDivisor H m
        by (inl d) = inr d
        by (inr free) = absurd (old (free, absent))

-- the next product
module _ (n : ℕ) (ring : Ring) (F : List (FormalSum n)) (B : List (Exponents n)) (change : Change) (h : IsChanging n ring F B change) (c : Candidate) (candidate : IsCandidate n ring.weights change.monomials.items (slice_index change.turns) c) (least : IsLeast n (comparison ring.order ring.weights n) (monomials n change.monomials.items) (slice_index change.turns) n (exponents_of n c.monomial.exponents)) where
  here_lt : slice_index change.turns c.variable < length (monomials n change.monomials.items)
  here_lt = let lt = candidate.parent in let t = candidate.turns in omega (arith, lt, t, length_monomials n change.monomials.items)

  here : exponents_of n c.monomial.exponents ≡ variable_product_at n (monomials n change.monomials.items) c.variable (slice_index change.turns c.variable)
  here = candidate.product ∙ ap (variable_product_at n (monomials n change.monomials.items) c.variable) (sym candidate.turns)

  standard_low : (i : ℕ) → i < length (monomials n change.monomials.items) → comparison ring.order ring.weights n (exponents_of n c.monomial.exponents) (get_or (monomials n change.monomials.items) i (unit n)) ≡ Less → ⊥
  standard_low i il below = h.turns.above_standard c.variable i candidate.variable here_lt il (ap (λ z. comparison ring.order ring.weights n z (get_or (monomials n change.monomials.items) i (unit n))) (sym here) ∙ below)

  leads_low : (i : ℕ) → i < length (monomials n change.leads.items) → comparison ring.order ring.weights n (exponents_of n c.monomial.exponents) (get_or (monomials n change.leads.items) i (unit n)) ≡ Less → ⊥
  leads_low i il below = h.turns.above_leads c.variable i candidate.variable here_lt il (ap (λ z. comparison ring.order ring.weights n z (get_or (monomials n change.leads.items) i (unit n))) (sym here) ∙ below)

  pub candidate_next : IsNew (monomials n change.leads.items) (monomials n change.monomials.items) (exponents_of n c.monomial.exponents) → IsNextMonomial n ring change c.monomial
  candidate_next (free, absent) = record {
    weighed = candidate.weighed;
    degree =
        let b = get_or change.monomials.items c.parent c.monomial in
        let e : get_or change.monomials.items c.parent b ≡ b = get_or_default change.monomials.items c.parent b c.monomial candidate.parent in
        let d = candidate.degree b e in
        let a = h.known.standard.degrees c.parent b candidate.parent e in
        let lt = candidate.parent in
        omega (arith, d, a, lt);
    above = λ k kl.
        let kl' : k < length (monomials n change.monomials.items) = omega (arith, kl, length_monomials n change.monomials.items) in
        less_of_not (comparison ring.order ring.weights n) (comparison_order ring.order ring.weights n) (get_or (monomials n change.monomials.items) k (unit n)) (exponents_of n c.monomial.exponents) (standard_low k kl') (λ e. absent (k, kl', e));
    not_below = λ k kl. leads_low k (omega (arith, kl, length_monomials n change.leads.items));
    free = free;
  }

  module _ (turns' : List ℕ) (long : length turns' ≡ length change.turns) (passed : slice_index turns' c.variable ≡ slice_index change.turns c.variable + 1) (others : (w : ℕ) → (w ≡ c.variable → ⊥) → slice_index turns' w ≡ slice_index change.turns w) where
    -- what is standard already or has a divisor is passed over
    pub turns_over :
        Has (monomials n change.monomials.items) (exponents_of n c.monomial.exponents) ⊎ HasDivisor (monomials n change.leads.items) (exponents_of n c.monomial.exponents)
        → AreTurns n ring (monomials n change.monomials.items) (monomials n change.leads.items) turns'
    turns_over resolved =
        turns_passed n ring (monomials n change.monomials.items) h.known.standard.ascending (monomials n change.leads.items) (monomials n change.monomials.items) (monomials n change.leads.items) change.turns turns' c.variable (slice_index change.turns c.variable) (exponents_of n c.monomial.exponents)
        h.turns candidate.variable here_lt refl here least long passed others
        (λ x has. has) (λ x d. d) resolved (λ i il. refl) (omega arith) standard_low leads_low (λ i le lt. absurd (omega (arith, le, lt)))

    -- or is one more standard monomial
    turns_standard :
        AreTurns n ring (monomials n change.monomials.items ++ exponents_of n c.monomial.exponents ∷ []) (monomials n change.leads.items) turns'
    turns_standard =
        turns_passed n ring (monomials n change.monomials.items) h.known.standard.ascending (monomials n change.leads.items) (monomials n change.monomials.items ++ exponents_of n c.monomial.exponents ∷ []) (monomials n change.leads.items) change.turns turns' c.variable (slice_index change.turns c.variable) (exponents_of n c.monomial.exponents)
        h.turns candidate.variable here_lt refl here least long passed others
        (λ x has. Has_old (monomials n change.monomials.items) (exponents_of n c.monomial.exponents) x has) (λ x d. d) (inl (Has_new (monomials n change.monomials.items) (exponents_of n c.monomial.exponents)))
        (λ i il. at_old (monomials n change.monomials.items) (exponents_of n c.monomial.exponents) i il) (omega (arith, length_push (monomials n change.monomials.items) (exponents_of n c.monomial.exponents)))
        low leads_low last
      where
        last : (i : ℕ) → length (monomials n change.monomials.items) ≤ i → i < length (monomials n change.monomials.items ++ exponents_of n c.monomial.exponents ∷ [])
            → get_or (monomials n change.monomials.items ++ exponents_of n c.monomial.exponents ∷ []) i (unit n) ≡ exponents_of n c.monomial.exponents
        last i le lt =
            let same : i ≡ length (monomials n change.monomials.items) = omega (arith, le, lt, length_push (monomials n change.monomials.items) (exponents_of n c.monomial.exponents)) in
            ap (λ z. get_or (monomials n change.monomials.items ++ exponents_of n c.monomial.exponents ∷ []) z (unit n)) same ∙ at_new (monomials n change.monomials.items) (exponents_of n c.monomial.exponents)

        low : (i : ℕ) → i < length (monomials n change.monomials.items ++ exponents_of n c.monomial.exponents ∷ [])
            → comparison ring.order ring.weights n (exponents_of n c.monomial.exponents) (get_or (monomials n change.monomials.items ++ exponents_of n c.monomial.exponents ∷ []) i (unit n)) ≡ Less → ⊥
        low i il = go (cases_lt i (length (monomials n change.monomials.items)))
          where
            go : (i < length (monomials n change.monomials.items)) ⊎ (length (monomials n change.monomials.items) ≤ i)
                → comparison ring.order ring.weights n (exponents_of n c.monomial.exponents) (get_or (monomials n change.monomials.items ++ exponents_of n c.monomial.exponents ∷ []) i (unit n)) ≡ Less → ⊥
            go (inl l) below = standard_low i l (ap (comparison ring.order ring.weights n (exponents_of n c.monomial.exponents)) (sym (at_old (monomials n change.monomials.items) (exponents_of n c.monomial.exponents) i l)) ∙ below)
            go (inr g) below = less_not_itself (comparison ring.order ring.weights n) (comparison_order ring.order ring.weights n) (exponents_of n c.monomial.exponents)
                (ap (comparison ring.order ring.weights n (exponents_of n c.monomial.exponents)) (sym (last i g il)) ∙ below)

    -- or one more lead
    turns_lead :
        AreTurns n ring (monomials n change.monomials.items) (exponents_of n c.monomial.exponents ∷ monomials n change.leads.items) turns'
    turns_lead =
        turns_passed n ring (monomials n change.monomials.items) h.known.standard.ascending (monomials n change.leads.items) (monomials n change.monomials.items) (exponents_of n c.monomial.exponents ∷ monomials n change.leads.items) change.turns turns' c.variable (slice_index change.turns c.variable) (exponents_of n c.monomial.exponents)
        h.turns candidate.variable here_lt refl here least long passed others
        (λ x has. has) (λ x d. divisor_more (monomials n change.leads.items) (exponents_of n c.monomial.exponents) x d) (inr (divisor_new (monomials n change.leads.items) (exponents_of n c.monomial.exponents)))
        (λ i il. refl) (omega arith) standard_low low (λ i le lt. absurd (omega (arith, le, lt)))
      where
        low : (i : ℕ) → i < length (exponents_of n c.monomial.exponents ∷ monomials n change.leads.items)
            → comparison ring.order ring.weights n (exponents_of n c.monomial.exponents) (get_or (exponents_of n c.monomial.exponents ∷ monomials n change.leads.items) i (unit n)) ≡ Less → ⊥
        low zero il = less_not_itself (comparison ring.order ring.weights n) (comparison_order ring.order ring.weights n) (exponents_of n c.monomial.exponents)
        low (suc i) il = leads_low i (omega (arith, il))

    -- whichever it is
    pub turns_added :
        (mid new : Change) → mid.monomials.items ≡ change.monomials.items → mid.leads.items ≡ change.leads.items → mid.turns ≡ turns' → IsMonomialAdded mid new c.monomial
        → AreTurns n ring (monomials n new.monomials.items) (monomials n new.leads.items) new.turns
    turns_added mid new em el et added =
        subst (λ z. AreTurns n ring (monomials n new.monomials.items) (monomials n new.leads.items) z) (sym (added.turns ∙ et)) (go added.one)
      where
        go :
            ((new.monomials.items ≡ mid.monomials.items ++ c.monomial ∷ []) × (new.leads.items ≡ mid.leads.items))
            ⊎ ((new.monomials.items ≡ mid.monomials.items) × (new.leads.items ≡ c.monomial ∷ mid.leads.items))
            → AreTurns n ring (monomials n new.monomials.items) (monomials n new.leads.items) turns'
        go (inl (a, b)) =
            subst (λ z. AreTurns n ring (monomials n z) (monomials n new.leads.items) turns') (sym (a ∙ ap (λ z. z ++ c.monomial ∷ []) em))
            (subst (λ z. AreTurns n ring (monomials n (change.monomials.items ++ c.monomial ∷ [])) (monomials n z) turns') (sym (b ∙ el))
            (subst (λ z. AreTurns n ring z (monomials n change.leads.items) turns') (sym (monomials_push n change.monomials.items c.monomial)) turns_standard))
        go (inr (a, b)) =
            subst (λ z. AreTurns n ring (monomials n z) (monomials n new.leads.items) turns') (sym (a ∙ em))
            (subst (λ z. AreTurns n ring (monomials n change.monomials.items) (monomials n z) turns') (sym (b ∙ ap (λ z. c.monomial ∷ z) el)) turns_lead)
