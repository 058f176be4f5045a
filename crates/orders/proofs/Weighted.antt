-- The orders by weights are those of the exponents times their weights, so they are monomial orders
use Rattle.std.proofs.Common.{Equal, Greater, Less, List, Ordering, [], ap, ap₂, arith, max, refl, subst, suc, sym, zero, ℕ, ◌*◌, ◌<◌, ◌∙◌, ◌∷◌, ◌≡◌}
use Rattle.std.proofs.lemmas.Bool.Decides.{nat_tests}
use Rattle.std.proofs.lemmas.Cmp.{nat_cmp_total, on_total, tied_itself}
use Rattle.std.specs.Ordering.{nat_cmp, ordering_then}
use mathlib.Core.Path.{fun_ext}
use Rattle.monomials.proofs.Weighing.{degree-weigh, mul_less, weigh, weigh-times, weigh-unit, weigh_exact, weight_positive, weighted_degree-none}
use Rattle.monomials.specs.Exponents.{Exponents, cons, nil, times, unit}
use Rattle.orders.proofs.Accessibility.{accessible_pulled}
use Rattle.orders.proofs.Eliminating.{elimination_above, elimination_order}
use Rattle.orders.proofs.Graded.{grevlex_order}
use Rattle.orders.proofs.Lexicographic.{nat_cmp-equal, nat_cmp-greater, nat_cmp-less}
use Rattle.orders.specs.MonomialOrders.{IsMonomialOrder, elimination, first_variables, grevlex, other_variables, reverse_lex}
use Rattle.orders.specs.WeightedOrders.{weighted_elimination, weighted_grevlex}

less_cmp : (a b : ℕ) → a < b → nat_cmp a b ≡ Less
less_cmp a b h = grind (arith, nat_tests)

greater_cmp : (a b : ℕ) → b < a → nat_cmp a b ≡ Greater
greater_cmp a b h = grind (arith, nat_tests)

-- multiples by a number above 0 compare as the numbers do
nat_cmp_times : (c a b : ℕ) → 0 < c → nat_cmp (c * a) (c * b) ≡ nat_cmp a b
nat_cmp_times c a b pos = go (nat_cmp a b) refl
  where
    tied : a ≡ b → nat_cmp (c * a) (c * b) ≡ Equal
    tied e = ap (λ x. nat_cmp (c * a) (c * x)) (sym e) ∙ tied_itself nat_cmp_total (c * a)

    go : (o : Ordering) → nat_cmp a b ≡ o → nat_cmp (c * a) (c * b) ≡ nat_cmp a b
    go Less e = less_cmp (c * a) (c * b) (mul_less c a b pos (nat_cmp-less a b e)) ∙ sym e
    go Equal e = tied (nat_cmp-equal a b e) ∙ sym e
    go Greater e = greater_cmp (c * a) (c * b) (mul_less c b a pos (nat_cmp-greater a b e)) ∙ sym e

-- an order of what monomials are sent to, by a map that keeps products and 1 and is one to one
pub pulled_order :
    {n : ℕ} (compare : Exponents n → Exponents n → Ordering) (f : Exponents n → Exponents n)
    → ((v w : Exponents n) → f (times v w) ≡ times (f v) (f w)) → f (unit n) ≡ unit n
    → ((v w : Exponents n) → f v ≡ f w → v ≡ w) → IsMonomialOrder compare
    → IsMonomialOrder (λ v w. compare (f v) (f w))
pulled_order {n} compare f product one exact o = record {
  total = on_total f o.total;
  exact = λ v w e. exact v w (o.exact (f v) (f w) e);
  kept = λ m v w. ap₂ compare (product m v) (product m w) ∙ o.kept (f m) (f v) (f w);
  unit_least = λ v e. o.unit_least (f v) (ap (compare (f v)) (sym one) ∙ e);
  well_founded = λ v. accessible_pulled (λ x y. compare x y ≡ Less) f v (o.well_founded (f v));
}

pub reverse_lex-weigh : {n : ℕ} (ws : List ℕ) (v w : Exponents n) → reverse_lex (weigh ws v) (weigh ws w) ≡ reverse_lex v w
reverse_lex-weigh ws nil nil = refl
reverse_lex-weigh [] (cons a v) (cons b w) = ap (λ o. ordering_then o (nat_cmp b a)) (reverse_lex-weigh [] v w)
reverse_lex-weigh (c ∷ ws) (cons a v) (cons b w) =
    ap₂ ordering_then (reverse_lex-weigh ws v w) (nat_cmp_times (max 1 c) b a (weight_positive c))

pub grevlex-weigh : {n : ℕ} (ws : List ℕ) (v w : Exponents n) → grevlex (weigh ws v) (weigh ws w) ≡ weighted_grevlex ws v w
grevlex-weigh ws v w = ap₂ ordering_then (ap₂ nat_cmp (degree-weigh ws v) (degree-weigh ws w)) (reverse_lex-weigh ws v w)

first_variables-weigh : {n : ℕ} (ws : List ℕ) (k : ℕ) (v : Exponents n) → first_variables k (weigh ws v) ≡ weigh ws (first_variables k v)
first_variables-weigh ws k nil = refl
first_variables-weigh [] zero (cons a v) = ap (cons 0) (first_variables-weigh [] zero v)
first_variables-weigh [] (suc k) (cons a v) = ap (cons a) (first_variables-weigh [] k v)
first_variables-weigh (c ∷ ws) zero (cons a v) = ap₂ cons (omega arith) (first_variables-weigh ws zero v)
first_variables-weigh (c ∷ ws) (suc k) (cons a v) = ap (cons (max 1 c * a)) (first_variables-weigh ws k v)

other_variables-weigh : {n : ℕ} (ws : List ℕ) (k : ℕ) (v : Exponents n) → other_variables k (weigh ws v) ≡ weigh ws (other_variables k v)
other_variables-weigh ws k nil = refl
other_variables-weigh [] zero (cons a v) = ap (cons a) (other_variables-weigh [] zero v)
other_variables-weigh [] (suc k) (cons a v) = ap (cons 0) (other_variables-weigh [] k v)
other_variables-weigh (c ∷ ws) zero (cons a v) = ap (cons (max 1 c * a)) (other_variables-weigh ws zero v)
other_variables-weigh (c ∷ ws) (suc k) (cons a v) = ap₂ cons (omega arith) (other_variables-weigh ws k v)

pub elimination-weigh : {n : ℕ} (ws : List ℕ) (k : ℕ) (v w : Exponents n) → elimination k (weigh ws v) (weigh ws w) ≡ weighted_elimination ws k v w
elimination-weigh ws k v w =
    ap₂ ordering_then
    (ap₂ grevlex (first_variables-weigh ws k v) (first_variables-weigh ws k w) ∙ grevlex-weigh ws (first_variables k v) (first_variables k w))
    (ap₂ grevlex (other_variables-weigh ws k v) (other_variables-weigh ws k w) ∙ grevlex-weigh ws (other_variables k v) (other_variables k w))

weighed_order :
    {n : ℕ} (ws : List ℕ) (compare by_weights : Exponents n → Exponents n → Ordering)
    → ((v w : Exponents n) → compare (weigh ws v) (weigh ws w) ≡ by_weights v w) → IsMonomialOrder compare
    → IsMonomialOrder by_weights
weighed_order {n} ws compare by_weights e o =
    subst IsMonomialOrder (fun_ext (λ v. fun_ext (λ w. e v w)))
    (pulled_order compare (weigh ws) (weigh-times ws) (weigh-unit n ws) (weigh_exact ws) o)

pub weighted_grevlex_order : (n : ℕ) (ws : List ℕ) → IsMonomialOrder (weighted_grevlex {n = n} ws)
weighted_grevlex_order n ws = weighed_order ws grevlex (weighted_grevlex ws) (grevlex-weigh ws) (grevlex_order n)

pub weighted_elimination_order : (n : ℕ) (ws : List ℕ) (k : ℕ) → IsMonomialOrder (weighted_elimination {n = n} ws k)
weighted_elimination_order n ws k =
    weighed_order ws (elimination k) (weighted_elimination ws k) (elimination-weigh ws k) (elimination_order n k)

-- what has one of the first k variables is above what has none
pub weighted_elimination_above :
    {n : ℕ} (ws : List ℕ) (k : ℕ) (v w : Exponents n) → (first_variables k v ≡ unit n → ⊥) → first_variables k w ≡ unit n
    → weighted_elimination ws k v w ≡ Greater
weighted_elimination_above {n} ws k v w some none =
    sym (elimination-weigh ws k v w)
    ∙ elimination_above k (weigh ws v) (weigh ws w)
    (λ e. some (weigh_exact ws _ _ (sym (first_variables-weigh ws k v) ∙ e ∙ sym (weigh-unit n ws))))
    (first_variables-weigh ws k w ∙ ap (weigh ws) none ∙ weigh-unit n ws)

-- without weights these are the orders by the total degree
pub weighted_grevlex-none : {n : ℕ} (v w : Exponents n) → weighted_grevlex [] v w ≡ grevlex v w
weighted_grevlex-none v w = ap (λ o. ordering_then o (reverse_lex v w)) (ap₂ nat_cmp (weighted_degree-none v) (weighted_degree-none w))

pub weighted_elimination-none : {n : ℕ} (k : ℕ) (v w : Exponents n) → weighted_elimination [] k v w ≡ elimination k v w
weighted_elimination-none k v w =
    ap₂ ordering_then
    (weighted_grevlex-none (first_variables k v) (first_variables k w))
    (weighted_grevlex-none (other_variables k v) (other_variables k w))
