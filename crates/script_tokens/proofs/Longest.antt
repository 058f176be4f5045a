-- What token_at finds at a byte is the longest token there; where it finds none, none begins.
use Rattle.std.proofs.Common.{◌≡◌, ◌≢◌, ℕ, suc, ◌+◌, eqb, cond, Bool, true, false, Option, Some, None, List, [], ◌∷◌, ◌++◌, length, take, drop, refl, sym, ap, ◌∙◌, subst, arith}
use Rattle.std.proofs.lemmas.Bool.{eqb-true, eq-eqb}
use Rattle.std.specs.List.{prefix_len}
use Rattle.std.specs.Char.{is_ascii_digit, is_ascii_alphabetic}
use Rattle.script_tokens.specs.declared.token.TokenKind.{TokenKind}
use Rattle.script_tokens.specs.declared.token.TokenKind.TheVariants.{Name, Number, Plus, Minus, Star, Caret, Open, Close, OpenBracket, CloseBracket, Comma, Equals}
use Rattle.script_tokens.specs.Scans.{alone, token_at}
use Rattle.script_tokens.specs.Tokens.{is_blank, is_name_byte, sign_of}
use Rattle.script_tokens.specs.Cuts.{Passes, IsToken, IsLongest}

one_more : (n : ℕ) → 1 + n ≡ suc n
one_more n = omega arith

-- the bytes of the front pass
front_passes : (p : ℕ → Bool) (bs : List ℕ) → Passes p (take (prefix_len p bs) bs)
front_passes p [] = tt
front_passes p (b ∷ bs) = by_test (p b) refl (front_passes p bs)
  where
    by_test : (t : Bool) → p b ≡ t → Passes p (take (prefix_len p bs) bs) → Passes p (take (cond t (1 + prefix_len p bs) 0) (b ∷ bs))
    by_test true e h = subst (λ n. Passes p (take n (b ∷ bs))) (sym (one_more (prefix_len p bs))) (e, h)
    by_test false e h = tt

-- the byte behind the front does not
front_ends : (p : ℕ → Bool) (bs more after : List ℕ) → drop (prefix_len p bs) bs ≡ more ++ after → Passes p more → more ≡ []
front_ends p bs [] after e h = refl
front_ends p [] (c ∷ more) after e h = absurd cc
front_ends p (b ∷ bs) (c ∷ more) after e h = by_test (p b) refl e (λ d. front_ends p bs (c ∷ more) after d h)
  where
    by_test : (t : Bool) → p b ≡ t → drop (cond t (1 + prefix_len p bs) 0) (b ∷ bs) ≡ (c ∷ more) ++ after → (drop (prefix_len p bs) bs ≡ (c ∷ more) ++ after → c ∷ more ≡ []) → c ∷ more ≡ []
    by_test true q d go = go (ap (λ n. drop n (b ∷ bs)) (sym (one_more (prefix_len p bs))) ∙ d)
    by_test false q d go = let same : b ≡ c = cc in let t : p b ≡ true = ap p same ∙ h.0 in absurd cc

passes_behind : (p : ℕ → Bool) (xs ys : List ℕ) → Passes p (xs ++ ys) → Passes p ys
passes_behind p [] ys h = h
passes_behind p (x ∷ xs) ys h = passes_behind p xs ys h.1

passes_append : (p : ℕ → Bool) (xs ys : List ℕ) → Passes p xs → Passes p ys → Passes p (xs ++ ys)
passes_append p [] ys h k = k
passes_append p (x ∷ xs) ys h k = (h.0, passes_append p xs ys h.1 k)

-- the front is the bytes that pass, where no more of them do
front_length : (p : ℕ → Bool) (bs rest : List ℕ) → Passes p bs → ((more after : List ℕ) → rest ≡ more ++ after → Passes p more → more ≡ []) → prefix_len p (bs ++ rest) ≡ length bs
front_length p [] [] h stops = refl
front_length p [] (r ∷ rest) h stops = by_test (p r) refl
  where
    by_test : (t : Bool) → p r ≡ t → cond t (1 + prefix_len p rest) 0 ≡ 0
    by_test true e = let none = stops (r ∷ []) rest refl (e, tt) in absurd cc
    by_test false e = refl
front_length p (b ∷ bs) rest h stops = ap (λ t. cond t (1 + prefix_len p (bs ++ rest)) 0) h.0 ∙ one_more _ ∙ ap suc (front_length p bs rest h.1 stops)

-- what begins a token: a letter, a digit or a sign, each in one class alone, and no blank and no #
pub record IsApart (b : ℕ) : Type 0 where
  pub no_comment : b ≢ 35
  pub no_blank : is_blank b ≡ false

letter_no_digit : (b : ℕ) → is_ascii_alphabetic b ≡ true → is_ascii_digit b ≡ true → ⊥
letter_no_digit b e f = grind arith

not_true : (t : Bool) → (t ≡ true → ⊥) → t ≡ false
not_true true h = absurd (h refl)
not_true false h = refl

letter_apart : (b : ℕ) → is_ascii_alphabetic b ≡ true → IsApart b
letter_apart b e = record { no_comment = λ q. let f : is_ascii_alphabetic 35 ≡ true = subst (λ x. is_ascii_alphabetic x ≡ true) q e in absurd cc; no_blank = not_true _ (λ q. letter_blank q) }
  where
    letter_blank : is_blank b ≡ true → ⊥
    letter_blank q = grind arith

digit_apart : (b : ℕ) → is_ascii_digit b ≡ true → IsApart b
digit_apart b e = record { no_comment = λ q. let f : is_ascii_digit 35 ≡ true = subst (λ x. is_ascii_digit x ≡ true) q e in absurd cc; no_blank = not_true _ (λ q. digit_blank q) }
  where
    digit_blank : is_blank b ≡ true → ⊥
    digit_blank q = grind arith

pick : (P : ℕ → TokenKind → Type 0) (b n : ℕ) (k kind : TokenKind) (o : Option TokenKind) → P n k → (o ≡ Some kind → P b kind) → cond (eqb b n) (Some k) o ≡ Some kind → P b kind
pick P b n k kind o here other e = by_test (eqb b n) refl e
  where
    by_test : (t : Bool) → eqb b n ≡ t → cond t (Some k) o ≡ Some kind → P b kind
    by_test true q h = let same : b ≡ n = eqb-true b n q in let one : k ≡ kind = cc in rw (same, sym one) here
    by_test false q h = other h

record IsSign (b : ℕ) (kind : TokenKind) : Type 0 where
  no_letter : is_ascii_alphabetic b ≡ false
  no_digit : is_ascii_digit b ≡ false
  is_token : IsToken kind (b ∷ [])
  no_comment : eqb b 35 ≡ false
  no_blank : is_blank b ≡ false

sign_is : (b : ℕ) (kind : TokenKind) → sign_of b ≡ Some kind → IsSign b kind
sign_is b kind e =
    pick IsSign b 43 Plus kind _ (record { no_letter = refl; no_digit = refl; is_token = (refl, refl); no_comment = refl; no_blank = refl }) (pick IsSign b 45 Minus kind _ (record { no_letter = refl; no_digit = refl; is_token = (refl, refl); no_comment = refl; no_blank = refl }) (pick IsSign b 42 Star kind _ (record { no_letter = refl; no_digit = refl; is_token = (refl, refl); no_comment = refl; no_blank = refl }) (pick IsSign b 94 Caret kind _ (record { no_letter = refl; no_digit = refl; is_token = (refl, refl); no_comment = refl; no_blank = refl })
    (pick IsSign b 40 Open kind _ (record { no_letter = refl; no_digit = refl; is_token = (refl, refl); no_comment = refl; no_blank = refl }) (pick IsSign b 41 Close kind _ (record { no_letter = refl; no_digit = refl; is_token = (refl, refl); no_comment = refl; no_blank = refl }) (pick IsSign b 91 OpenBracket kind _ (record { no_letter = refl; no_digit = refl; is_token = (refl, refl); no_comment = refl; no_blank = refl }) (pick IsSign b 93 CloseBracket kind _ (record { no_letter = refl; no_digit = refl; is_token = (refl, refl); no_comment = refl; no_blank = refl })
    (pick IsSign b 44 Comma kind _ (record { no_letter = refl; no_digit = refl; is_token = (refl, refl); no_comment = refl; no_blank = refl }) (pick IsSign b 61 Equals kind _ (record { no_letter = refl; no_digit = refl; is_token = (refl, refl); no_comment = refl; no_blank = refl }) (λ q. absurd cc)))))))))) e

abbrev some_of : {A : Type 0} → A → Option A → A
some_of a None = a
some_of a (Some b) = b

-- a token that is the longest
abbrev Longest : ℕ → List ℕ → TokenKind × ℕ → Type 0
Longest b bs t = IsToken t.0 (b ∷ take t.1 bs) × IsLongest (b ∷ take t.1 bs) (drop t.1 bs)

name_longest : (b : ℕ) (bs : List ℕ) → is_ascii_alphabetic b ≡ true → Longest b bs (Name, prefix_len is_name_byte bs)
name_longest b bs e = ((e, front_passes is_name_byte bs), go)
  where
    go : IsLongest (b ∷ take (prefix_len is_name_byte bs) bs) (drop (prefix_len is_name_byte bs) bs)
    go Name more after d h = front_ends is_name_byte bs more after d (passes_behind is_name_byte (take (prefix_len is_name_byte bs) bs) more h.1)
    go Number more after d h = absurd (letter_no_digit b e h.0)
    go kind more after d h = let f = (sign_is b _ h.0).no_letter in absurd cc

number_longest : (b : ℕ) (bs : List ℕ) → is_ascii_digit b ≡ true → Longest b bs (Number, prefix_len is_ascii_digit bs)
number_longest b bs e = ((e, front_passes is_ascii_digit bs), go)
  where
    go : IsLongest (b ∷ take (prefix_len is_ascii_digit bs) bs) (drop (prefix_len is_ascii_digit bs) bs)
    go Name more after d h = absurd (letter_no_digit b h.0 e)
    go Number more after d h = front_ends is_ascii_digit bs more after d (passes_behind is_ascii_digit (take (prefix_len is_ascii_digit bs) bs) more h.1)
    go kind more after d h = let f = (sign_is b _ h.0).no_digit in absurd cc

sign_longest : (b : ℕ) (bs : List ℕ) (k : TokenKind) → sign_of b ≡ Some k → Longest b bs (k, 0)
sign_longest b bs k e = ((sign_is b k e).is_token, go)
  where
    go : IsLongest (b ∷ []) bs
    go Name more after d h = let f = (sign_is b k e).no_letter in absurd cc
    go Number more after d h = let f = (sign_is b k e).no_digit in absurd cc
    go kind more after d h = h.1

pub found_is_longest : (b : ℕ) (bs : List ℕ) (t : TokenKind × ℕ) → token_at b bs ≡ Some t → Longest b bs t
unfolding token_at
found_is_longest b bs t is = by_tests (is_ascii_alphabetic b) (is_ascii_digit b) refl refl is
  where
    by_sign : (o : Option TokenKind) → sign_of b ≡ o → alone o ≡ Some t → Longest b bs t
    by_sign None q h = absurd cc
    by_sign (Some k) q h = subst (Longest b bs) (ap (some_of t) h) (sign_longest b bs k q)

    by_tests : (letter digit : Bool) → is_ascii_alphabetic b ≡ letter → is_ascii_digit b ≡ digit
        → cond letter (Some (Name, prefix_len is_name_byte bs)) (cond digit (Some (Number, prefix_len is_ascii_digit bs)) (alone (sign_of b))) ≡ Some t → Longest b bs t
    by_tests true digit p q h = subst (Longest b bs) (ap (some_of t) h) (name_longest b bs p)
    by_tests false true p q h = subst (Longest b bs) (ap (some_of t) h) (number_longest b bs q)
    by_tests false false p q h = by_sign (sign_of b) refl h

pub none_begins : (b : ℕ) (bs : List ℕ) → token_at b bs ≡ None → (kind : TokenKind) (more : List ℕ) → IsToken kind (b ∷ more) → ⊥
unfolding token_at
none_begins b bs is = by_tests (is_ascii_alphabetic b) (is_ascii_digit b) (sign_of b) refl refl refl is
  where
    go : is_ascii_alphabetic b ≡ false → is_ascii_digit b ≡ false → sign_of b ≡ None → (kind : TokenKind) (more : List ℕ) → IsToken kind (b ∷ more) → ⊥
    go p q r Name more h = absurd cc
    go p q r Number more h = absurd cc
    go p q r kind more h = absurd cc

    by_tests : (letter digit : Bool) (o : Option TokenKind) → is_ascii_alphabetic b ≡ letter → is_ascii_digit b ≡ digit → sign_of b ≡ o
        → cond letter (Some (Name, prefix_len is_name_byte bs)) (cond digit (Some (Number, prefix_len is_ascii_digit bs)) (alone o)) ≡ None → (kind : TokenKind) (more : List ℕ) → IsToken kind (b ∷ more) → ⊥
    by_tests true digit o p q r h = absurd cc
    by_tests false true o p q r h = absurd cc
    by_tests false false None p q r h = go p q r
    by_tests false false (Some k) p q r h = absurd cc

-- a token's first byte is no blank and begins no comment
pub token_apart : (kind : TokenKind) (b : ℕ) (bs : List ℕ) → IsToken kind (b ∷ bs) → IsApart b
token_apart Name b bs h = letter_apart b h.0
token_apart Number b bs h = digit_apart b h.0
token_apart kind b bs h = let s = sign_is b _ h.0 in record { no_comment = λ q. let t : eqb b 35 ≡ true = eq-eqb b 35 q in let u = s.no_comment in absurd cc; no_blank = s.no_blank }

no_more : (kind : TokenKind) (bs : List ℕ) → bs ≡ [] → ◌≡◌ {A = Option (TokenKind × ℕ)} (Some (kind, 0)) (Some (kind, length bs))
no_more kind bs e = rw e refl

-- the longest token is found
pub longest_is_found : (kind : TokenKind) (b : ℕ) (bs rest : List ℕ) → IsToken kind (b ∷ bs) → IsLongest (b ∷ bs) rest → token_at b (bs ++ rest) ≡ Some (kind, length bs)
unfolding token_at
longest_is_found Name b bs rest h longest =
    let n = front_length is_name_byte bs rest h.1 (λ more after d p. longest Name more after d (h.0, passes_append is_name_byte bs more h.1 p)) in
    let f : is_ascii_alphabetic b ≡ true = h.0 in rw (f, n) refl
longest_is_found Number b bs rest h longest =
    let n = front_length is_ascii_digit bs rest h.1 (λ more after d p. longest Number more after d (h.0, passes_append is_ascii_digit bs more h.1 p)) in
    let e : is_ascii_alphabetic b ≡ false = not_true _ (λ q. letter_no_digit b q h.0) in
    let f : is_ascii_digit b ≡ true = h.0 in rw (e, f, n) refl
longest_is_found kind b bs rest h longest =
    let s = sign_is b _ h.0 in
    let e : is_ascii_alphabetic b ≡ false = s.no_letter in
    let f : is_ascii_digit b ≡ false = s.no_digit in
    let k = h.0 in
    rw (e, f, k) (no_more _ bs h.1)
