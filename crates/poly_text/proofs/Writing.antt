-- Texts as they are written, from left to right
use Rattle.std.proofs.Common.{◌≡◌, ◌++◌, ◌+◌, ◌<◌, ◌==◌, ◌∙◌, Bool, true, false, List, [], ◌∷◌, ℕ, zero, suc, length, get_or, drop, map, refl, sym, ap, arith, append_assoc}
use Rattle.std.specs.Fmt.{decimal}
use Rattle.std.proofs.lemmas.List.{append-nil, drop_more}
use Rattle.std.proofs.lemmas.Fmt.{decimal_digit}
use Rattle.std.proofs.lemmas.Bool.Decides.{nat_tests}
use Rattle.term_lists.specs.declared.key.Key.{Key}
use Rattle.poly_text.specs.Texts.{factor_texts, joined, poly_text, power_texts, powers_texts, term_text}
use Rattle.poly_text.specs.Writing.{IsFront, factor_start, power_text, powers_rest, tails}

-- the first text, and each other behind the byte
pub joined_cons : (b : ℕ) (x : List ℕ) (xs : List (List ℕ)) → joined b (x ∷ xs) ≡ x ++ tails b xs
joined_cons b x [] = sym (append-nil x)
joined_cons b x (y ∷ ys) = ap (λ r. x ++ b ∷ r) (joined_cons b y ys)

-- more behind more
pub begins_more : (old mid new more : List ℕ) → IsFront old mid → new ≡ mid ++ more → IsFront old new
begins_more old mid new more b e = (b.0 ++ more, e ∙ ap (λ r. r ++ more) b.1 ∙ append_assoc old b.0 more)

-- the powers from variable i on
pub powers_more : {X : Type 0} (f : X → List ℕ) (names : List X) (exponents : List ℕ) (i : ℕ) (x : X) → length exponents ≡ length names
    → i < length names → x ≡ get_or names i x
    → powers_texts (map f (drop i names)) (drop i exponents) ≡ power_texts (f x) (get_or exponents i 0) ++ powers_texts (map f (drop (i + 1) names)) (drop (i + 1) exponents)
powers_more f names exponents i x same below is_x =
    let in_list : i < length exponents = omega arith in
    ap (λ ns. powers_texts (map f ns) (drop i exponents)) (drop_more names i x below ∙ ap (λ y. y ∷ drop (i + 1) names) (sym is_x))
    ∙ ap (λ es. powers_texts (f x ∷ map f (drop (i + 1) names)) es) (drop_more exponents i 0 in_list)

-- a factor comes next
start_then : (b : Bool) (x : List ℕ) (powers : List (List ℕ)) → powers_rest b (x ∷ powers) ≡ factor_start b ++ x ++ powers_rest true powers
start_then true x powers = refl
start_then false x powers = refl

-- a power that is not 0 comes next
pub powers_rest_more : (b : Bool) (name : List ℕ) (e : ℕ) (powers : List (List ℕ)) → 0 < e
    → powers_rest b (power_texts name e ++ powers) ≡ factor_start b ++ power_text name e ++ powers_rest true powers
powers_rest_more b name zero powers positive = absurd (omega arith)
powers_rest_more b name (suc zero) powers positive = start_then b name powers
powers_rest_more b name (suc (suc k)) powers positive =
    let other : (suc (suc k) == 1) ≡ false = grind (arith, nat_tests) in
    rw other (start_then b (name ++ 94 ∷ decimal (suc (suc k))) powers)

-- a term whose residue is 1
pub term_of_one : (powers : List (List ℕ)) → joined 42 (factor_texts 1 powers) ≡ powers_rest false powers
term_of_one [] = decimal_digit 1 (omega arith)
term_of_one (x ∷ xs) = joined_cons 42 x xs

-- a term whose residue is another
pub term_of_other : (c : ℕ) (powers : List (List ℕ)) → (c == 1) ≡ false → joined 42 (factor_texts c powers) ≡ decimal c ++ powers_rest true powers
term_of_other c [] other = sym (append-nil (decimal c))
term_of_other c (x ∷ xs) other = rw other (joined_cons 42 (decimal c) (x ∷ xs))

-- a step over a variable that does not occur
pub powers_skipped : {X : Type 0} (f : X → List ℕ) (names : List X) (exponents : List ℕ) (i : ℕ) (x : X) (b : Bool) (out whole : List ℕ)
    → length exponents ≡ length names → i < length names → x ≡ get_or names i x → get_or exponents i 0 ≡ 0
    → out ++ powers_rest b (powers_texts (map f (drop i names)) (drop i exponents)) ≡ whole
    → out ++ powers_rest b (powers_texts (map f (drop (i + 1) names)) (drop (i + 1) exponents)) ≡ whole
powers_skipped f names exponents i x b out whole same below is_x none known =
    let rest = powers_texts (map f (drop (i + 1) names)) (drop (i + 1) exponents) in
    ap (λ k. out ++ powers_rest b (power_texts (f x) k ++ rest)) (sym none)
    ∙ ap (λ ps. out ++ powers_rest b ps) (sym (powers_more f names exponents i x same below is_x)) ∙ known

-- a step over a variable that occurs
pub powers_taken : {X : Type 0} (f : X → List ℕ) (names : List X) (exponents : List ℕ) (i : ℕ) (x : X) (b : Bool) (name out new whole : List ℕ)
    → length exponents ≡ length names → i < length names → x ≡ get_or names i x → 0 < get_or exponents i 0 → name ≡ f x
    → new ≡ out ++ (factor_start b ++ power_text name (get_or exponents i 0))
    → out ++ powers_rest b (powers_texts (map f (drop i names)) (drop i exponents)) ≡ whole
    → new ++ powers_rest true (powers_texts (map f (drop (i + 1) names)) (drop (i + 1) exponents)) ≡ whole
powers_taken f names exponents i x b name out new whole same below is_x some is_name is_new known =
    let rest = powers_texts (map f (drop (i + 1) names)) (drop (i + 1) exponents) in
    let e = get_or exponents i 0 in
    ap (λ o. o ++ powers_rest true rest) is_new ∙ append_assoc out (factor_start b ++ power_text name e) (powers_rest true rest)
    ∙ ap (λ y. out ++ (factor_start b ++ power_text y e ++ powers_rest true rest)) is_name
    ∙ ap (λ r. out ++ r) (sym (powers_rest_more b (f x) e rest some))
    ∙ ap (λ ps. out ++ powers_rest b ps) (sym (powers_more f names exponents i x same below is_x)) ∙ known

-- a whole term
pub term_with_one : (names : List (List ℕ)) (t : Key × ℕ) (exponents old new : List ℕ) → t.1 ≡ 1 → exponents ≡ t.0.monomial.exponents
    → new ≡ old ++ powers_rest false (powers_texts names exponents) → new ≡ old ++ term_text names t
term_with_one names t exponents old new one same known =
    known ∙ ap (λ es. old ++ powers_rest false (powers_texts names es)) same
    ∙ ap (λ r. old ++ r) (sym (term_of_one (powers_texts names t.0.monomial.exponents)))
    ∙ ap (λ c. old ++ joined 42 (factor_texts c (powers_texts names t.0.monomial.exponents))) (sym one)

pub term_with_other : (names : List (List ℕ)) (t : Key × ℕ) (exponents old mid new : List ℕ) → (t.1 ≡ 1 → ⊥) → exponents ≡ t.0.monomial.exponents
    → mid ≡ old ++ decimal t.1 → new ≡ mid ++ powers_rest true (powers_texts names exponents) → new ≡ old ++ term_text names t
term_with_other names t exponents old mid new other same is_mid known =
    let not_one : (t.1 == 1) ≡ false = grind (arith, nat_tests) in
    known ∙ ap (λ es. mid ++ powers_rest true (powers_texts names es)) same
    ∙ ap (λ m. m ++ powers_rest true (powers_texts names t.0.monomial.exponents)) is_mid
    ∙ append_assoc old (decimal t.1) (powers_rest true (powers_texts names t.0.monomial.exponents))
    ∙ ap (λ r. old ++ r) (sym (term_of_other t.1 (powers_texts names t.0.monomial.exponents) not_one))

-- a whole polynomial
pub poly_with : (names : List (List ℕ)) (terms : List (Key × ℕ)) (t : Key × ℕ) (rest : List (Key × ℕ)) (old mid new : List ℕ) → terms ≡ t ∷ rest
    → mid ≡ old ++ term_text names t → new ≡ mid ++ tails 43 (map (term_text names) rest) → new ≡ old ++ poly_text names terms
poly_with names terms t rest old mid new is mid_is known =
    known ∙ ap (λ m. m ++ tails 43 (map (term_text names) rest)) mid_is ∙ append_assoc old (term_text names t) (tails 43 (map (term_text names) rest))
    ∙ ap (λ r. old ++ r) (sym (joined_cons 43 (term_text names t) (map (term_text names) rest)))
    ∙ ap (λ ts. old ++ poly_text names ts) (sym is)
