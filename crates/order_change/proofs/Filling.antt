-- The table of products, one row after another
use Rattle.std.proofs.Common.{Err, IfNone, IfOk, IfSome, Less, List, None, Ok, Option, Ordering, Result, Some, [], ap, arith, get_or, inl, inr, length, length-append, refl, subst, suc, sum, sym, zero, ℕ, ◌*◌, ◌++◌, ◌+◌, ◌<◌, ◌∙◌, ◌∷◌, ◌≡◌, ◌≤◌, ◌⊎◌}
use Rattle.std.proofs.Math.Seq.{get_or-append_seam}
use Rattle.std.proofs.lemmas.Bool.{cases_lt}
use Rattle.std.proofs.lemmas.List.Sums.{sum_by-cons}
use Rattle.std.proofs.lemmas.List.{get_or_append_left, get_or_default}
use Rattle.std.specs.Prelude.{slice_index}
use Rattle.residues.proofs.Congruences.{IsCongruent_of}
use Rattle.monomials.specs.Exponents.{Exponents, unit}
use Rattle.formal_sums.specs.FormalSums.{Each, FormalSum}
use Rattle.monomial_orders.specs.Kept.{Monomial, monomials}
use Rattle.change_laws.proofs.Expansions.{expansion_one}
use Rattle.change_laws.proofs.Modulo.{modulo_same, modulo_sym}
use Rattle.orders.specs.MonomialOrders.{IsMonomialOrder}
use Rattle.order_change.proofs.Items.{one_more}
use Rattle.order_change.proofs.Orders.{less_not_itself}
use Rattle.order_change.specs.Forms.{AreResidues}
use Rattle.order_change.specs.Products.{HadAllItems, IsCandidate, IsLeast, variable_product_at}
use Rattle.order_change.specs.Tables.{IsFilling, IsRowNormalForm, IsNormalFormTable}
use Rattle.order_change.specs.declared.products.Candidate.{Candidate}

pub eq_or : (j k : ℕ) → (j ≡ k) ⊎ (j ≡ k → ⊥)
eq_or j k = by_cases (cases_lt j k) (cases_lt k j)
  where
    by_cases : (j < k) ⊎ (k ≤ j) → (k < j) ⊎ (j ≤ k) → (j ≡ k) ⊎ (j ≡ k → ⊥)
    by_cases (inl l) q = inr (λ e. omega (arith, l, e))
    by_cases (inr g) (inl l) = inr (λ e. omega (arith, l, e))
    by_cases (inr g) (inr l) = inl (omega (arith, g, l))

-- the sum of indices that are at most `most`, one of which is below
pub sum_most : (xs : List ℕ) (most : ℕ) → ((v : ℕ) → v < length xs → slice_index xs v ≤ most) → sum xs ≤ length xs * most
sum_most [] most le = omega arith
sum_most (x ∷ xs) most le = omega (arith, sum_by-cons (λ y. y) x xs, le 0 (omega arith), sum_most xs most (λ v lt. le (suc v) (omega (arith, lt))))

pub sum_below : (xs : List ℕ) (most v : ℕ) → ((w : ℕ) → w < length xs → slice_index xs w ≤ most) → v < length xs → slice_index xs v < most → sum xs < length xs * most
sum_below [] most v le lt less = absurd (omega (arith, lt))
sum_below (x ∷ xs) most zero le lt less = omega (arith, sum_by-cons (λ y. y) x xs, less, sum_most xs most (λ v l. le (suc v) (omega (arith, l))))
sum_below (x ∷ xs) most (suc v) le lt less =
    omega (arith, sum_by-cons (λ y. y) x xs, le 0 (omega arith), sum_below xs most v (λ w l. le (suc w) (omega (arith, l))) (omega (arith, lt)) less)

-- nothing yet
pub filling_first :
    {n : ℕ} (compare : Exponents n → Exponents n → Ordering) (p : ℕ) (F : List (FormalSum n)) (B : List (Exponents n)) (turns : List ℕ) (table : List (List (List ℕ)))
    → length turns ≡ n → ((v : ℕ) → slice_index turns v ≡ 0) → length table ≡ n → ((v : ℕ) → get_or table v [] ≡ [])
    → IsFilling compare p F B turns table
filling_first compare p F B turns table tl zeros long none = record {
  turns_long = tl;
  long = long;
  counted = λ v lt. zeros v ∙ sym (ap length (none v));
  most = λ v lt. let z = zeros v in omega (arith, z);
  forms = λ v k lt kl. absurd (let e : length (get_or table v []) ≡ 0 = ap length (none v) in omega (arith, e, kl));
}

-- one more row
pub filling_more :
    {n : ℕ} (compare : Exponents n → Exponents n → Ordering) (p : ℕ) (F : List (FormalSum n)) (B : List (Exponents n)) (turns turns' : List ℕ) (table table' : List (List (List ℕ))) (v k : ℕ) (m : Exponents n) (form : List ℕ)
    → IsFilling compare p F B turns table → v < n → k < length B → slice_index turns v ≡ k → m ≡ variable_product_at n B v k → IsRowNormalForm compare p F B m form
    → length table' ≡ length table → get_or table' v [] ≡ get_or table v [] ++ form ∷ [] → ((w : ℕ) → (w ≡ v → ⊥) → get_or table' w [] ≡ get_or table w [])
    → length turns' ≡ length turns → slice_index turns' v ≡ slice_index turns v + 1 → ((w : ℕ) → (w ≡ v → ⊥) → slice_index turns' w ≡ slice_index turns w)
    → IsFilling compare p F B turns' table'
filling_more {n} compare p F B turns turns' table table' v k m form h vn kl turn is normal long at others tl tat tothers = record {
  turns_long = tl ∙ h.turns_long;
  long = long ∙ h.long;
  counted = λ w wn. counted w wn (eq_or w v);
  most = λ w wn. most w wn (eq_or w v);
  forms = λ w j wn jl. forms w j wn jl (eq_or w v);
}
  where
    grown : length (get_or table' v []) ≡ length (get_or table v []) + 1
    grown = ap length at ∙ length-append (get_or table v []) (form ∷ [])

    known : length (get_or table v []) ≡ k
    known = sym (h.counted v vn) ∙ turn

    counted : (w : ℕ) → w < n → (w ≡ v) ⊎ (w ≡ v → ⊥) → slice_index turns' w ≡ length (get_or table' w [])
    counted w wn (inl e) = subst (λ z. slice_index turns' z ≡ length (get_or table' z [])) (sym e) (let old = h.counted v vn in omega (arith, tat, grown, old))
    counted w wn (inr ne) = tothers w ne ∙ h.counted w wn ∙ sym (ap length (others w ne))

    most : (w : ℕ) → w < n → (w ≡ v) ⊎ (w ≡ v → ⊥) → slice_index turns' w ≤ length B
    most w wn (inl e) = subst (λ z. slice_index turns' z ≤ length B) (sym e) (omega (arith, tat, turn, kl))
    most w wn (inr ne) = subst (λ z. z ≤ length B) (sym (tothers w ne)) (h.most w wn)

    row : (j : ℕ) → j < length (get_or table v []) + 1 → IsRowNormalForm compare p F B (variable_product_at n B v j) (get_or (get_or table v [] ++ form ∷ []) j [])
    row = one_more (λ j. IsRowNormalForm compare p F B (variable_product_at n B v j) (get_or (get_or table v [] ++ form ∷ []) j [])) (length (get_or table v []))
        (λ j jl. subst (IsRowNormalForm compare p F B (variable_product_at n B v j)) (sym (get_or_append_left (get_or table v []) (form ∷ []) [] j jl)) (h.forms v j vn jl))
        (subst (IsRowNormalForm compare p F B (variable_product_at n B v (length (get_or table v [])))) (sym (get_or-append_seam (get_or table v []) form [] []))
        (subst (λ z. IsRowNormalForm compare p F B (variable_product_at n B v z) form) (sym known) (subst (λ z. IsRowNormalForm compare p F B z form) is normal)))

    forms : (w j : ℕ) → w < n → j < length (get_or table' w []) → (w ≡ v) ⊎ (w ≡ v → ⊥) → IsRowNormalForm compare p F B (variable_product_at n B w j) (get_or (get_or table' w []) j [])
    forms w j wn jl (inl e) =
        let jl' : j < length (get_or table v []) + 1 = let l : j < length (get_or table' v []) = subst (λ z. j < length (get_or table' z [])) e jl in omega (arith, l, grown) in
        subst (λ z. IsRowNormalForm compare p F B (variable_product_at n B z j) (get_or (get_or table' z []) j [])) (sym e)
        (subst (λ z. IsRowNormalForm compare p F B (variable_product_at n B v j) (get_or z j [])) (sym at) (row j jl'))
    forms w j wn jl (inr ne) =
        subst (λ z. IsRowNormalForm compare p F B (variable_product_at n B w j) (get_or z j [])) (sym (others w ne)) (h.forms w j wn (subst (λ z. j < length z) (others w ne) jl))

-- all rows
pub filling_all :
    {n : ℕ} (compare : Exponents n → Exponents n → Ordering) (p : ℕ) (F : List (FormalSum n)) (B : List (Exponents n)) (turns : List ℕ) (table : List (List (List ℕ)))
    → IsFilling compare p F B turns table → HadAllItems (slice_index turns) n (length B) → IsNormalFormTable compare p F B table
filling_all compare p F B turns table h over = record {
  long = h.long;
  full = λ v vn. let a = over v vn in let b = h.most v vn in let c = h.counted v vn in omega (arith, a, b, c);
  forms = h.forms;
}

-- the form of a standard monomial
pub standard_normal :
    {n : ℕ} (compare : Exponents n → Exponents n → Ordering) → IsMonomialOrder compare → (p : ℕ) (F : List (FormalSum n)) (B : List (Exponents n)) (m : Exponents n) (k : ℕ) (row : List ℕ)
    → k < length B → get_or B k (unit n) ≡ m → AreResidues p (length B) row → slice_index row k ≡ 1 → ((j : ℕ) → (j ≡ k → ⊥) → slice_index row j ≡ 0)
    → IsRowNormalForm compare p F B m row
standard_normal {n} compare o p F B m k row kl is residues one zeros =
    subst (λ z. IsRowNormalForm compare p F B z row) is (record {
      residues = residues;
      same = modulo_sym F (modulo_same F _ _ (expansion_one B (slice_index row) k kl (IsCongruent_of p _ 1 one) (λ j jl ne. IsCongruent_of p _ 0 (zeros j ne))));
      below = λ j jl some up. go j some up (eq_or j k);
    })
  where
    go : (j : ℕ) → 0 < slice_index row j → compare (get_or B k (unit n)) (get_or B j (unit n)) ≡ Less → (j ≡ k) ⊎ (j ≡ k → ⊥) → ⊥
    go j some up (inl e) = less_not_itself compare o (get_or B k (unit n)) (subst (λ z. compare (get_or B k (unit n)) (get_or B z (unit n)) ≡ Less) e up)
    go j some up (inr ne) = let z = zeros j ne in omega (arith, z, some)

-- what holds at each index holds of each item
pub each_at : {X : Type 0} (P : X → Type 0) (xs : List X) (d : X) → ((k : ℕ) → k < length xs → P (get_or xs k d)) → Each P xs
each_at P [] d h = tt
each_at P (x ∷ xs) d h = (h 0 (omega arith), each_at P xs d (λ k lt. h (suc k) (omega (arith, lt))))

pub if_some : {X : Type 0} (P Q : X → Type 0) (found : Option X) → ((x : X) → P x → Q x) → IfSome found P → IfSome found Q
if_some P Q None f h = h
if_some P Q (Some x) f h = f x h

pub if_none : {X : Type 0} (P Q : Type 0) (found : Option X) → (P → Q) → IfNone found P → IfNone found Q
if_none P Q None f h = f h
if_none P Q (Some x) f h = h

pub if_ok3 : {X E : Type 0} (P Q R S : X → Type 0) (r : Result X E) → ((x : X) → P x → Q x → R x → S x) → IfOk r P → IfOk r Q → IfOk r R → IfOk r S
if_ok3 P Q R S (Ok x) f p q s = f x p q s
if_ok3 P Q R S (Err e) f p q s = tt

-- an item that was read
pub item_read : {X : Type 0} (xs ys : List X) (k : ℕ) (x d : X) → xs ≡ ys → k < length ys → x ≡ get_or xs k x → get_or ys k d ≡ x
item_read xs ys k x d e lt is = get_or_default ys k d x lt ∙ ap (λ z. get_or z k x) (sym e) ∙ sym is

pub empty_of : {X : Type 0} (xs : List X) → length xs ≡ 0 → xs ≡ []
empty_of [] e = refl
empty_of (x ∷ xs) e = absurd (omega (arith, e))

-- the least product by the turns is that by the rows that are there
pub filling_candidate :
    {n : ℕ} (compare : Exponents n → Exponents n → Ordering) (p : ℕ) (F : List (FormalSum n)) (ws : List ℕ) (standard : List Monomial) (turns : List ℕ) (table : List (List (List ℕ))) (c : Candidate)
    → IsFilling compare p F (monomials n standard) turns table → IsCandidate n ws standard (slice_index turns) c
    → IsCandidate n ws standard (λ v. length (get_or table v [])) c
filling_candidate compare p F ws standard turns table c h g = record {
  variable = g.variable;
  parent = g.parent;
  turns = sym (h.counted c.variable g.variable) ∙ g.turns;
  weighed = g.weighed;
  product = g.product;
  degree = g.degree;
}

pub filling_least :
    {n : ℕ} (compare : Exponents n → Exponents n → Ordering) (p : ℕ) (F : List (FormalSum n)) (B : List (Exponents n)) (turns : List ℕ) (table : List (List (List ℕ))) (m : Exponents n)
    → IsFilling compare p F B turns table → IsLeast n compare B (slice_index turns) n m → IsLeast n compare B (λ v. length (get_or table v [])) n m
filling_least {n} compare p F B turns table m h least v vn =
    subst (λ z. z < length B → compare (variable_product_at n B v z) m ≡ Less → ⊥) (h.counted v vn) (least v vn)
