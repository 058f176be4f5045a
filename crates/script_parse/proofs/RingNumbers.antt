-- The numbers of a ring line
use Rattle.std.proofs.Common.{◌≡◌, ◌+◌, ◌<◌, ◌≤◌, ◌^◌, inl, inr, Bool, false, nat_eq, ℕ, zero, suc, List, [], ◌∷◌, ◌++◌, get_or, length, map, take, Some, refl, sym, ap, ap₂, subst, ◌∙◌, arith}
use Rattle.std.proofs.lemmas.Bool.{eqb-false}
use Rattle.std.specs.Global.{Global}
use Rattle.std.specs.Prelude.{Contains, String, string_bytes}
use Rattle.script_tokens.specs.declared.token.Token.{Token}
use Rattle.poly_grammar.specs.Numerals.{numeral_value}
use Rattle.monomial_orders.specs.Kept.{AreWeights}
use Rattle.std.proofs.lemmas.List.{get_or_default, map-append, take_more}
use Rattle.script_parse.specs.Refusals.{HasOtherWeights, IsOutside}
use Rattle.script_parse.specs.Statements.{weights_stated}
use Rattle.script_parse.specs.Tests.{AreListedWeights, IsGood}

-- a number is within its bounds, or not
pub outside_great : (last k : ℕ) → last < 2 ^ 32 → 2 ^ 128 ≤ k → IsOutside last k
outside_great last k small great = inr (omega arith)

pub not_outside : (last k : ℕ) → 0 < k → k ≤ last → IsOutside last k → ⊥
not_outside last k pos le (inl e) = omega arith
not_outside last k pos le (inr lt) = omega arith

within : (last k : ℕ) → (IsOutside last k → ⊥) → 0 < k
within last zero h = absurd (h (inl refl))
within last (suc k) h = omega arith

-- one more name
pub one_more_name :
    (f : Token → List ℕ) (ts : List Token) (i : ℕ) (d : Token) (old new : List (String Global)) (name : String Global) → i < length ts → new ≡ old ++ name ∷ []
    → string_bytes name ≡ f (get_or ts i d) → map string_bytes old ≡ map f (take i ts) → map string_bytes new ≡ map f (take (i + 1) ts)
one_more_name f ts i d old new name lt e is h =
    ap (map string_bytes) e ∙ map-append string_bytes old (name ∷ []) ∙ ap₂ (λ l x. l ++ x ∷ []) h is
    ∙ sym (ap (map f) (take_more ts i d lt) ∙ map-append f (take i ts) (get_or ts i d ∷ []))

-- one more weight
weighed_push : (line : List ℕ) (ts : List Token) (ws : List ℕ) (t : Token) (w : ℕ) → AreListedWeights line ts ws → w ≡ numeral_value line t → (IsOutside 255 w → ⊥) → AreListedWeights line (ts ++ t ∷ []) (ws ++ w ∷ [])
weighed_push line [] [] t w h e fits = (e, fits, tt)
weighed_push line [] (x ∷ ws) t w h e fits = absurd h
weighed_push line (s ∷ ts) [] t w h e fits = absurd h
weighed_push line (s ∷ ts) (x ∷ ws) t w h e fits = (h.0, h.1, weighed_push line ts ws t w h.2 e fits)

pub weighed_go :
    (line : List ℕ) (ts : List Token) (i : ℕ) (d : Token) (old new : List ℕ) (w : ℕ) → i < length ts → new ≡ old ++ w ∷ []
    → AreListedWeights line (take i ts) old → w ≡ numeral_value line (get_or ts i d) → (IsOutside 255 (numeral_value line (get_or ts i d)) → ⊥)
    → AreListedWeights line (take (i + 1) ts) new
weighed_go line ts i d old new w lt f h value fits =
    let inside = subst (λ k. IsOutside 255 k → ⊥) (sym value) fits in
    subst (λ l. AreListedWeights line l new) (sym (take_more ts i d lt))
    (subst (AreListedWeights line (take i ts ++ get_or ts i d ∷ [])) (sym f) (weighed_push line (take i ts) old (get_or ts i d) w h value inside))

weighed_are : (line : List ℕ) (ts : List Token) (ws : List ℕ) → AreListedWeights line ts ws → ws ≡ map (numeral_value line) ts
weighed_are line [] [] h = refl
weighed_are line [] (w ∷ ws) h = absurd h
weighed_are line (t ∷ ts) [] h = absurd h
weighed_are line (t ∷ ts) (w ∷ ws) h = ap₂ (λ x l. x ∷ l) h.0 (weighed_are line ts ws h.2)

pub weighed_positive : (line : List ℕ) (ts : List Token) (ws : List ℕ) → AreListedWeights line ts ws → AreWeights ws
weighed_positive line [] [] h k lt = omega (arith, lt)
weighed_positive line [] (w ∷ ws) h k lt = absurd h
weighed_positive line (t ∷ ts) [] h k lt = absurd h
weighed_positive line (t ∷ ts) (w ∷ ws) h zero lt = within 255 w h.1
weighed_positive line (t ∷ ts) (w ∷ ws) h (suc k) lt = weighed_positive line ts ws h.2 k (omega (arith, lt))

weighed_fit : (line : List ℕ) (ts : List Token) (ws : List ℕ) (t : Token) → AreListedWeights line ts ws → Contains ts t → IsOutside 255 (numeral_value line t) → ⊥
weighed_fit line [] ws t h c out = omega (arith, c.1)
weighed_fit line (s ∷ ts) [] t h c out = absurd h
weighed_fit line (s ∷ ts) (w ∷ ws) t h (zero, lt, is) out = h.1 (subst (IsOutside 255) (sym (h.0 ∙ ap (numeral_value line) is)) out)
weighed_fit line (s ∷ ts) (w ∷ ws) t h (suc i, lt, is) out = weighed_fit line ts ws t h.2 (i, omega (arith, lt), is) out

-- a number that is outside
pub outside_weight :
    (line : List ℕ) (ts : List Token) (i : ℕ) (d : Token) → i < length ts → IsOutside 255 (numeral_value line (get_or ts i d)) → (t : Token) × Contains ts t ×
    IsOutside 255 (numeral_value line t)
outside_weight line ts i d lt out = (get_or ts i d, (i, lt, get_or_default ts i (get_or ts i d) d lt), out)

-- no weights are stated
pub no_weights : (line : List ℕ) (n : ℕ) (ts : List Token) (ws : List ℕ) → ts ≡ [] → ws ≡ weights_stated line n [] → IsGood (weights_stated line n ts) (HasOtherWeights line n ts) (Some ws)
no_weights line n [] ws e f = (f, λ h. h)
no_weights line n (t ∷ ts) ws e f = absurd cc

-- they are not n
pub other_number : (line : List ℕ) (n : ℕ) (ts : List Token) → (ts ≡ [] → ⊥) → (length ts ≡ n → ⊥) → HasOtherWeights line n ts
other_number line n [] some other = absurd (some refl)
other_number line n (t ∷ ts) some other = inl other

-- one is outside
pub other_weight :
    (line : List ℕ) (n : ℕ) (ts : List Token) → (ts ≡ [] → ⊥) → (t : Token) × Contains ts t × IsOutside 255 (numeral_value line t) → HasOtherWeights line n ts
other_weight line n [] some h = absurd (some refl)
other_weight line n (t ∷ ts) some h = inr h

-- they are n, and none is outside
pub good_weights :
    (line : List ℕ) (n : ℕ) (ts : List Token) (ws us : List ℕ) → (ts ≡ [] → ⊥) → length ts ≡ n → AreListedWeights line ts ws → us ≡ ws
    → IsGood (weights_stated line n ts) (HasOtherWeights line n ts) (Some us)
good_weights line n [] ws us some e h f = absurd (some refl)
good_weights line n (t ∷ ts) ws us some e h f = (f ∙ weighed_are line (t ∷ ts) ws h, go)
  where
    go : HasOtherWeights line n (t ∷ ts) → ⊥
    go (inl other) = other e
    go (inr out) = weighed_fit line (t ∷ ts) ws out.0 h out.1 out.2

-- a list that is not empty
pub some_tokens : (ts : List Token) (b : Bool) → b ≡ nat_eq (length ts) 0 → b ≡ false → ts ≡ [] → ⊥
some_tokens ts b e f g = eqb-false (length ts) 0 (sym e ∙ f) (ap length g)
