-- One term or polynomial more
use Rattle.std.proofs.Common.{◌≡◌, ◌∙◌, ◌+◌, ◌*◌, ◌++◌, ◌∷◌, List, [], ℕ, zero, suc, ap, ap₂, arith, append_assoc, false, get_or, refl, sym, codes, flat_map}
use Rattle.std.proofs.lemmas.Bool.Decides.{nat_tests}
use Rattle.std.proofs.lemmas.List.{append-nil}
use Rattle.std.specs.Prelude.{if◌then◌else◌, nat_eq}
use Rattle.large_script.specs.Script.{next_state, polynomial, polynomials, quadratic_products, quadratic_term, residue, separated, state_after, terms}
use Rattle.large_script.specs.declared.script.TheConstants.{PRODUCTS}

-- ---- the states
pub state_next : (x k : ℕ) → state_after x (k + 1) ≡ next_state (state_after x k)
unfolding state_after
state_next x k = ap (state_after x) (let q : k + 1 ≡ suc k = omega arith in q)

pub state_none : (x : ℕ) → state_after x 0 ≡ x
unfolding state_after
state_none x = refl

state_add : (x a b : ℕ) → state_after x (a + b) ≡ state_after (state_after x a) b
unfolding state_after
state_add x a zero = ap (state_after x) (let q : a + 0 ≡ a = omega arith in q)
state_add x a (suc b) = ap (state_after x) (let q : a + suc b ≡ suc (a + b) = omega arith in q) ∙ ap next_state (state_add x a b)

pub state_behind : (x k : ℕ) → state_after x (21 * (k + 1)) ≡ state_after (state_after x (21 * k)) 21
state_behind x k = ap (state_after x) (let q : 21 * (k + 1) ≡ 21 * k + 21 = omega arith in q) ∙ state_add x (21 * k) 21

-- ---- joined texts, with one more at the end
flat_map-last : (s : List ℕ) (xs : List (List ℕ)) (x : List ℕ) → flat_map (λ text. s ++ text) (xs ++ x ∷ []) ≡ flat_map (λ text. s ++ text) xs ++ (s ++ x)
flat_map-last s [] x = append-nil (s ++ x)
flat_map-last s (y ∷ xs) x = ap (λ r. (s ++ y) ++ r) (flat_map-last s xs x) ∙ sym (append_assoc (s ++ y) (flat_map (λ text. s ++ text) xs) (s ++ x))

joined_behind : (s y : List ℕ) (ys : List (List ℕ)) (x : List ℕ) → separated s (y ∷ (ys ++ x ∷ [])) ≡ (separated s (y ∷ ys) ++ s) ++ x
joined_behind s y ys x =
    ap (λ r. y ++ r) (flat_map-last s ys x) ∙ sym (append_assoc y (flat_map (λ text. s ++ text) ys) (s ++ x))
    ∙ sym (append_assoc (y ++ flat_map (λ text. s ++ text) ys) s x)

joined_more : (s : List ℕ) (xs : List (List ℕ)) (y x : List ℕ) → separated s ((xs ++ y ∷ []) ++ x ∷ []) ≡ (separated s (xs ++ y ∷ []) ++ s) ++ x
joined_more s [] y x = joined_behind s y [] x
joined_more s (z ∷ xs) y x = joined_behind s z (xs ++ y ∷ []) x

not_first : (k : ℕ) → nat_eq (suc k) 0 ≡ false
not_first k = grind (arith, nat_tests)

terms_more : (s : List ℕ) (x k : ℕ) → separated s (terms x (suc k))
    ≡ (separated s (terms x k) ++ (if nat_eq k 0 then [] else s)) ++ quadratic_term (residue (state_after x (suc k))) (get_or (quadratic_products (codes "abcdef")) k [])
unfolding terms
terms_more s x zero = append-nil _
terms_more s x (suc k) =
    joined_more s (terms x k) _ _ ∙ ap (λ b. (separated s (terms x (suc k)) ++ (if b then [] else s)) ++ quadratic_term (residue (state_after x (suc (suc k)))) (get_or (quadratic_products (codes "abcdef")) (suc k) [])) (sym (not_first k))

polynomials_more : (s : List ℕ) (x k : ℕ) → separated s (polynomials x (suc k))
    ≡ (separated s (polynomials x k) ++ (if nat_eq k 0 then [] else s)) ++ polynomial (state_after x (21 * k))
unfolding polynomials
polynomials_more s x zero = append-nil _
polynomials_more s x (suc k) =
    joined_more s (polynomials x k) _ _ ∙ ap (λ b. (separated s (polynomials x (suc k)) ++ (if b then [] else s)) ++ polynomial (state_after x (21 * suc k))) (sym (not_first k))

-- ---- the loops
pub no_terms : (s : List ℕ) (x : ℕ) (out : List ℕ) → out ≡ out ++ separated s (terms x 0)
unfolding terms
no_terms s x out = sym (append-nil out)

pub no_polynomials : (s : List ℕ) (x : ℕ) (out : List ℕ) → out ≡ out ++ separated s (polynomials x 0)
unfolding polynomials
no_polynomials s x out = sym (append-nil out)

regrouped : (start a b c : List ℕ) → ((start ++ a) ++ b) ++ c ≡ start ++ ((a ++ b) ++ c)
regrouped start a b c = ap (λ r. r ++ c) (append_assoc start a b) ∙ append_assoc start (a ++ b) c

pub one_term_more : (x k : ℕ) (start out new : List ℕ) (state : ℕ) (product : List ℕ) → product ≡ get_or PRODUCTS k []
    → state ≡ state_after x (k + 1) → out ≡ start ++ separated (codes "+") (terms x k)
    → new ≡ (out ++ (if nat_eq k 0 then [] else (codes "+"))) ++ quadratic_term (residue state) product
    → new ≡ start ++ separated (codes "+") (terms x (k + 1))
one_term_more x k start out new state product is here before more =
    let next : k + 1 ≡ suc k = omega arith in
    more ∙ ap (λ o. (o ++ (if nat_eq k 0 then [] else (codes "+"))) ++ quadratic_term (residue state) product) before
    ∙ regrouped start (separated (codes "+") (terms x k)) (if nat_eq k 0 then [] else (codes "+")) (quadratic_term (residue state) product)
    ∙ ap (λ t. start ++ ((separated (codes "+") (terms x k) ++ (if nat_eq k 0 then [] else (codes "+"))) ++ t))
    (ap₂ quadratic_term (ap residue (here ∙ ap (state_after x) next)) is)
    ∙ ap (λ t. start ++ t) (sym (terms_more (codes "+") x k)) ∙ ap (λ j. start ++ separated (codes "+") (terms x j)) (sym next)

pub one_polynomial_more : (x k : ℕ) (start out mid new : List ℕ) (state : ℕ) → state ≡ state_after x (21 * k)
    → out ≡ start ++ separated (codes ", ") (polynomials x k) → mid ≡ out ++ (if nat_eq k 0 then [] else (codes ", "))
    → new ≡ mid ++ polynomial state → new ≡ start ++ separated (codes ", ") (polynomials x (k + 1))
one_polynomial_more x k start out mid new state here before between more =
    let next : k + 1 ≡ suc k = omega arith in
    more ∙ ap₂ (λ o t. o ++ polynomial t) (between ∙ ap (λ o. o ++ (if nat_eq k 0 then [] else (codes ", "))) before) here
    ∙ regrouped start (separated (codes ", ") (polynomials x k)) (if nat_eq k 0 then [] else (codes ", ")) (polynomial (state_after x (21 * k)))
    ∙ ap (λ t. start ++ t) (sym (polynomials_more (codes ", ") x k)) ∙ ap (λ j. start ++ separated (codes ", ") (polynomials x j)) (sym next)
