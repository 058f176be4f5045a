-- A text of pieces with a byte between them has one way to be split
use Rattle.std.proofs.Common.{◌≡◌, ◌≢◌, ◌<◌, length, arith, ◌++◌, ◌∙◌, List, [], ◌∷◌, ℕ, refl, sym}
use Rattle.formal_sums.specs.FormalSums.{Each}
use Rattle.poly_text.specs.Texts.{joined}
use Rattle.poly_text.specs.Writing.{tails}
use Rattle.poly_text.proofs.Writing.{joined_cons}

-- the byte does not stand in the text
abbrev pub Free : ℕ → List ℕ → Type 0
Free b x = Each (λ c. c ≢ b) x

-- the text is empty or begins with the byte
abbrev pub Stops : ℕ → List ℕ → Type 0
Stops b [] = Unit {0}
Stops b (c ∷ cs) = c ≡ b

stop_head : (b c : ℕ) (r rest : List ℕ) → Stops b r → r ≡ c ∷ rest → c ≡ b
stop_head b c [] rest stop e = absurd cc
stop_head b c (d ∷ r) rest stop e = cc

-- the first piece ends at the byte
pub cut : (b : ℕ) (x y r s : List ℕ) → Free b x → Free b y → Stops b r → Stops b s → x ++ r ≡ y ++ s → (x ≡ y) × (r ≡ s)
cut b [] [] r s fx fy sr ss e = (refl, e)
cut b [] (c ∷ y) r s fx fy sr ss e = absurd (fy.0 (stop_head b c r (y ++ s) sr e))
cut b (c ∷ x) [] r s fx fy sr ss e = absurd (fx.0 (stop_head b c s (x ++ r) ss (sym e)))
cut b (c ∷ x) (d ∷ y) r s fx fy sr ss e =
    let rest : x ++ r ≡ y ++ s = cc in
    let more = cut b x y r s fx.1 fy.1 sr ss rest in
    let same : c ∷ x ≡ d ∷ y = cc in
    (same, more.1)

stops_tails : (b : ℕ) (xs : List (List ℕ)) → Stops b (tails b xs)
stops_tails b [] = tt
stops_tails b (x ∷ xs) = refl

tails_injective : (b : ℕ) (xs ys : List (List ℕ)) → Each (Free b) xs → Each (Free b) ys → tails b xs ≡ tails b ys → xs ≡ ys
tails_injective b [] [] fx fy e = refl
tails_injective b [] (y ∷ ys) fx fy e = absurd cc
tails_injective b (x ∷ xs) [] fx fy e = absurd cc
tails_injective b (x ∷ xs) (y ∷ ys) fx fy e =
    let rest : x ++ tails b xs ≡ y ++ tails b ys = cc in
    let split = cut b x y (tails b xs) (tails b ys) fx.0 fy.0 (stops_tails b xs) (stops_tails b ys) rest in
    let more = tails_injective b xs ys fx.1 fy.1 split.1 in
    cc

-- the pieces of two texts are the same
pub joined_injective : (b : ℕ) (x : List ℕ) (xs : List (List ℕ)) (y : List ℕ) (ys : List (List ℕ)) → Each (Free b) (x ∷ xs) → Each (Free b) (y ∷ ys)
    → joined b (x ∷ xs) ≡ joined b (y ∷ ys) → (x ≡ y) × (xs ≡ ys)
joined_injective b x xs y ys fx fy e =
    let split = cut b x y (tails b xs) (tails b ys) fx.0 fy.0 (stops_tails b xs) (stops_tails b ys) (sym (joined_cons b x xs) ∙ e ∙ joined_cons b y ys) in
    (split.0, tails_injective b xs ys fx.1 fy.1 split.1)

pub joined_same : (b : ℕ) (xs ys : List (List ℕ)) → 0 < length xs → 0 < length ys → Each (Free b) xs → Each (Free b) ys → joined b xs ≡ joined b ys → xs ≡ ys
joined_same b [] ys hx hy fx fy e = absurd (omega arith)
joined_same b (x ∷ xs) [] hx hy fx fy e = absurd (omega arith)
joined_same b (x ∷ xs) (y ∷ ys) hx hy fx fy e = let split = joined_injective b x xs y ys fx fy e in cc

pub each_append : {X : Type 0} (P : X → Type 0) (xs ys : List X) → Each P xs → Each P ys → Each P (xs ++ ys)
each_append P [] ys hx hy = hy
each_append P (x ∷ xs) ys hx hy = (hx.0, each_append P xs ys hx.1 hy)

pub each_map : {X : Type 0} (P Q : X → Type 0) (xs : List X) → ((x : X) → P x → Q x) → Each P xs → Each Q xs
each_map P Q [] f h = tt
each_map P Q (x ∷ xs) f h = (f x h.0, each_map P Q xs f h.1)

-- what holds of each byte of the pieces and of the byte between them
pub each_joined : (P : ℕ → Type 0) (b : ℕ) (xs : List (List ℕ)) → P b → Each (Each P) xs → Each P (joined b xs)
each_joined P b [] hb h = tt
each_joined P b (x ∷ []) hb h = h.0
each_joined P b (x ∷ y ∷ ys) hb h = each_append P x (b ∷ joined b (y ∷ ys)) h.0 (hb, each_joined P b (y ∷ ys) hb h.1)
