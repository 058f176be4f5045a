-- The script of a seed, byte for byte
use Rattle.std.specs.Prelude.{flat_map, List, [], codes, get_or, map, zero, suc, ℕ, ◌++◌, ◌∷◌, ◌+◌, ◌*◌, ◌/◌, ◌%◌}
use Rattle.std.specs.Fmt.{decimal}

-- what follows the state x of the generator
abbrev pub next_state : ℕ → ℕ
next_state x = (1103515245 * x + 12345) % 2147483648

-- the state after k draws from x
unfoldable pub state_after : ℕ → ℕ → ℕ
state_after x zero = x
state_after x (suc k) = next_state (state_after x k)

-- the residue that a state gives
abbrev pub residue : ℕ → ℕ
residue x = (x / 65536) % 32003

-- the products u*v of two variables, u not behind v
abbrev pub quadratic_products : List ℕ → List (List ℕ)
quadratic_products [] = []
quadratic_products (u ∷ us) = map (λ v. u ∷ 42 ∷ v ∷ []) (u ∷ us) ++ quadratic_products us

-- the texts, with the separator between each two
abbrev pub separated : List ℕ → List (List ℕ) → List ℕ
separated separator [] = []
separated separator (x ∷ xs) = x ++ flat_map (λ text. separator ++ text) xs

-- the term C*u*v of this residue and product
abbrev pub quadratic_term : ℕ → List ℕ → List ℕ
quadratic_term c product = decimal c ++ 42 ∷ product

-- the first k terms that are drawn from the state x: one for each product, in their order
unfoldable pub terms : ℕ → ℕ → List (List ℕ)
terms x zero = []
terms x (suc k) = terms x k ++ quadratic_term (residue (state_after x (suc k))) (get_or (quadratic_products (codes "abcdef")) k []) ∷ []

-- the polynomial that is drawn from the state x: all 21 terms
abbrev pub polynomial : ℕ → List ℕ
polynomial x = separated (codes "+") (terms x 21)

-- the first k polynomials that are drawn from the seed, one after the other
unfoldable pub polynomials : ℕ → ℕ → List (List ℕ)
polynomials seed zero = []
polynomials seed (suc k) = polynomials seed k ++ polynomial (state_after seed (21 * k)) ∷ []

-- the four lines: the ring, the ideal of six polynomials, and two questions about it
abbrev pub script_of : ℕ → List ℕ
script_of seed =
    codes "ring 32003 a,b,c,d,e,f grevlex\nideal L = " ++ separated (codes ", ") (polynomials seed 6)
    ++ codes "\nsize L\nhilb L\n"
