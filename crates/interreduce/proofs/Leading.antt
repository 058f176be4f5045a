-- The leads of a list's members, their order, and which divides which
use Rattle.std.proofs.Common.{Bool, Equal, Greater, IsTrue, List, Ordering, [], ap, ap₂, arith, false, get_or, length, refl, subst, subst₂, suc, sym, true, zero, ℕ, ◌<◌, ◌↔◌, ◌∙◌, ◌∷◌, ◌≡◌}
use Rattle.std.proofs.lemmas.Cmp.{nat_cmp_total, on_total, then_total}
use Rattle.std.proofs.lemmas.List.Sorted.{ranks_by, sorted_far}
use Rattle.std.specs.Cmp.{IsStrictWeakOrder, IsTotalOrder}
use Rattle.std.specs.List.Sorted.{IsSortedBy}
use Rattle.std.specs.Ordering.{is_lt, nat_cmp, ordering_then}
use Rattle.monomials.specs.Exponents.{unit}
use Rattle.formal_sums.specs.FormalSums.{Each, Key}
use Rattle.orders.proofs.KeyOrdering.{equal_itself, less_of_greater}
use Rattle.orders.specs.KeyOrders.{IsKeyOrder, KeyDivides}
use Rattle.bases.specs.Leads.{head_key}
use Rattle.term_lists.proofs.Parts.{Each_member}
use Rattle.term_lists.specs.Vectors.{HasVariables, key_of, sum_of}
use Rattle.term_lists.specs.declared.key.Key.{Key as CodeKey}
use Rattle.module_vectors.specs.Trails.{lead_at}
use Rattle.vector_division.specs.Progress.{HaveVariables}
use Rattle.interreduce.specs.Leads.{HaveLeads, LeadsRise, by_lead, lack_of_lead}

abbrev pub Terms : Type 0
Terms = List (CodeKey × ℕ)

-- ---- the order of a sort
pub neither :
    (n : ℕ) (compare : Key n → Key n → Ordering) → IsKeyOrder 0 compare → (list : List Terms) (i j : ℕ)
    → get_or list i [] ≡ [] → get_or list j [] ≡ [] → Equal ≡ by_lead n compare list i j
neither n compare order list i j a b =
    sym (ap₂ (λ (x y : Terms). ordering_then (nat_cmp (lack_of_lead x) (lack_of_lead y)) (compare (head_key (sum_of n x)) (head_key (sum_of n y)))) a b ∙ equal_itself order (0, unit n))

by_lead_total :
    {n : ℕ} (compare : Key n → Key n → Ordering) → IsTotalOrder compare
    → IsTotalOrder (λ (k l : ℕ × Key n). ordering_then (nat_cmp k.0 l.0) (compare k.1 l.1))
by_lead_total compare o = then_total (on_total (λ k. k.0) nat_cmp_total) (on_total (λ k. k.1) o)

pub by_lead_weak :
    (n : ℕ) (compare : Key n → Key n → Ordering) (list : List Terms) → IsTotalOrder compare
    → IsStrictWeakOrder (λ i j. is_lt (by_lead n compare list i j))
by_lead_weak n compare list o = ranks_by (by_lead_total compare o) (λ i. (lack_of_lead (get_or list i []), lead_at n list i))

lack_none : (v : Terms) → 0 < length v → lack_of_lead v ≡ 0
lack_none [] some = absurd (omega (arith, some))
lack_none (t ∷ v) some = refl

each_from : {X : Type 0} (P : X → Type 0) (xs : List X) → ((k : ℕ) (d : X) → k < length xs → P (get_or xs k d)) → Each P xs
each_from P [] h = tt
each_from P (x ∷ xs) h = (h 0 x (omega arith), each_from P xs (λ k d lt. h (suc k) d (omega arith)))

rises_from :
    (n : ℕ) (compare : Key n → Key n → Ordering) (list : List Terms) (xs : List ℕ)
    → ((i j d : ℕ) → i < j → j < length xs → compare (lead_at n list (get_or xs i d)) (lead_at n list (get_or xs j d)) ≡ Greater → ⊥)
    → LeadsRise n compare list xs
rises_from n compare list [] h = tt
rises_from n compare list (x ∷ xs) h =
    (each_from (λ j. compare (lead_at n list x) (lead_at n list j) ≡ Greater → ⊥) xs (λ k d lt. h 0 (suc k) d (omega arith) (omega arith)), rises_from n compare list xs (λ i j d lt le. h (suc i) (suc j) d (omega arith) (omega arith)))

pub sorted_rises :
    (n : ℕ) (compare : Key n → Key n → Ordering) → IsKeyOrder 0 compare → (list : List Terms) (order : List ℕ)
    → HaveLeads list order → IsSortedBy (λ i j. is_lt (by_lead n compare list i j)) order
    → LeadsRise n compare list order
sorted_rises n compare laws list order leads sorted = rises_from n compare list order far
  where
    far :
        (i j d : ℕ)
        → i < j → j < length order → compare (lead_at n list (get_or order i d)) (lead_at n list (get_or order j d)) ≡ Greater
        → ⊥
    far i j d lt le g =
        let x = get_or order i d in
        let y = get_or order j d in
        let hx : 0 < length (get_or list x []) = Each_member (λ k. 0 < length (get_or list k [])) order i d leads (omega arith) in
        let hy : 0 < length (get_or list y []) = Each_member (λ k. 0 < length (get_or list k [])) order j d leads le in
        let same : by_lead n compare list y x ≡ compare (lead_at n list y) (lead_at n list x) = ap₂ (λ p q. ordering_then (nat_cmp p q) (compare (lead_at n list y) (lead_at n list x))) (lack_none (get_or list y []) hy) (lack_none (get_or list x []) hx) in
        let untold : is_lt (by_lead n compare list y x) ≡ false = sorted_far (λ a b. is_lt (by_lead n compare list a b)) (by_lead_weak n compare list laws.total) order sorted i j d (omega arith) le in
        let told : is_lt (by_lead n compare list y x) ≡ true = ap is_lt (same ∙ less_of_greater laws (lead_at n list x) (lead_at n list y) g) in
        cc

-- ---- division of leads
first_key :
    (n : ℕ) (w : Terms) (s : CodeKey × ℕ)
    → 0 < length w → Each (HasVariables n) w → s ≡ get_or w 0 s
    → (head_key (sum_of n w) ≡ key_of n s.0) × (length s.0.monomial.exponents ≡ n)
first_key n [] s lt h e = absurd (omega arith)
first_key n (t ∷ w) s lt h e = (ap (λ x. key_of n x.0) (sym e), subst (HasVariables n) (sym e) h.0)

-- the first term of a member has its lead
pub lead_key :
    (n : ℕ) (list : List Terms) (i : ℕ) (v : Terms) (s : CodeKey × ℕ)
    → 0 < length (get_or list i []) → HaveVariables n list → i < length list → v ≡ get_or list i [] → s ≡ get_or v 0 s
    → (lead_at n list i ≡ key_of n s.0) × (length s.0.monomial.exponents ≡ n)
lead_key n [] i v s some vars lt ev es = absurd (omega arith)
lead_key n (w ∷ list) zero v s some vars lt ev es = first_key n w s some vars.0 (es ∙ ap (λ x. get_or x 0 s) ev)
lead_key n (w ∷ list) (suc i) v s some vars lt ev es = lead_key n list i v s some vars.1 (omega arith) ev es

-- what the test of two keys says of the leads that they are
pub divides_at :
    (n : ℕ) (a b : Key n) (k l : CodeKey) (t : Bool)
    → a ≡ key_of n k → length k.monomial.exponents ≡ n → b ≡ key_of n l
    → (IsTrue t ↔ KeyDivides (key_of (length k.monomial.exponents) k) (key_of (length k.monomial.exponents) l))
    → IsTrue t ↔ KeyDivides a b
divides_at n a b k l t ea e eb h =
    subst₂ (λ x y. IsTrue t ↔ KeyDivides x y) (sym ea) (sym eb) (subst (λ m. IsTrue t ↔ KeyDivides (key_of m k) (key_of m l)) e h)
