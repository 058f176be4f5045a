-- The flat pass over the tokens of a tree finds how deep its parentheses nest.
use Rattle.std.proofs.Common.{◌≡◌, ◌↔◌, ℕ, ◌+◌, ◌<◌, ◌≤◌, max, cond, Bool, true, false, nat_lt, List, [], ◌∷◌, ◌++◌, refl, sym, ap, subst, ◌∙◌, arith, append_assoc}
use Rattle.std.proofs.lemmas.List.{append-nil}
use Rattle.std.proofs.lemmas.Bool.{ltb-true, lt-ltb}
use Rattle.poly_grammar.specs.Lexemes.{Lexeme, plus, minus, star, caret, number, opened, closed}
use Rattle.poly_grammar.specs.Reading.{nests}
use Rattle.poly_grammar.specs.Trees.{Lead, bare, positive, negative, Poly, poly, Terms, last, plus_term, minus_term, TermTree, term, Factors, alone, times, Factor, plain, power, Atom, numeral, letter, group, lead, spelling, terms_spelling, term_spelling, factors_spelling, factor_spelling, atom_spelling, depth, terms_depth, term_depth, factors_depth, factor_depth, atom_depth}

-- tokens that nest k deep and close what they open
record NestsDeep (s : List Lexeme) (k : ℕ) : Type 0 where
  passes : (d : ℕ) (xs : List Lexeme) → d ≤ 64 → (nests d (s ++ xs) ≡ true) ↔ ((d + k ≤ 64) × (nests d xs ≡ true))

flat : (s : List Lexeme) → ((d : ℕ) (xs : List Lexeme) → nests d (s ++ xs) ≡ nests d xs) → NestsDeep s 0
flat s e = record { passes = λ d xs h. ((λ n. (omega (arith, h), sym (e d xs) ∙ n)), (λ n. e d xs ∙ n.1)) }

both : (s t : List Lexeme) (k l : ℕ) → NestsDeep s k → NestsDeep t l → NestsDeep (s ++ t) (max k l)
both s t k l f g = record { passes = λ d xs h. (go d xs h, back d xs h) }
  where
    go : (d : ℕ) (xs : List Lexeme) → d ≤ 64 → nests d ((s ++ t) ++ xs) ≡ true → (d + max k l ≤ 64) × (nests d xs ≡ true)
    go d xs h n =
        let a = (f.passes d (t ++ xs) h).0 (ap (nests d) (sym (append_assoc s t xs)) ∙ n) in
        let b = (g.passes d xs h).0 a.1 in (omega (arith, a.0, b.0), b.1)

    back : (d : ℕ) (xs : List Lexeme) → d ≤ 64 → (d + max k l ≤ 64) × (nests d xs ≡ true) → nests d ((s ++ t) ++ xs) ≡ true
    back d xs h n = ap (nests d) (append_assoc s t xs) ∙ (f.passes d (t ++ xs) h).1 (omega (arith, n.0), (g.passes d xs h).1 (omega (arith, n.0), n.1))

-- the signs that open nothing
behind : (x : Lexeme) (s : List Lexeme) (k : ℕ) → ((d : ℕ) (xs : List Lexeme) → nests d (x ∷ xs) ≡ nests d xs) → NestsDeep s k → NestsDeep (x ∷ s) k
behind x s k e f = record { passes = λ d xs h. ((λ n. (f.passes d xs h).0 (sym (e d (s ++ xs)) ∙ n)), (λ n. e d (s ++ xs) ∙ (f.passes d xs h).1 n)) }

lead_flat : (sign : Lead) (s : List Lexeme) (k : ℕ) → NestsDeep s k → NestsDeep (lead sign ++ s) k
lead_flat bare s k f = f
lead_flat positive s k f = behind plus s k (λ d xs. refl) f
lead_flat negative s k f = behind minus s k (λ d xs. refl) f

regrouped : (sign : Lead) (t ts : List Lexeme) → (lead sign ++ t) ++ ts ≡ lead sign ++ (t ++ ts)
regrouped sign t ts = append_assoc (lead sign) t ts

opens : (s : List Lexeme) (k : ℕ) → NestsDeep s k → NestsDeep (opened ∷ (s ++ closed ∷ [])) (1 + k)
opens s k f = record { passes = λ d xs h. (go d xs, back d xs) }
  where
    inside : (d : ℕ) (xs : List Lexeme) → nests (d + 1) ((s ++ closed ∷ []) ++ xs) ≡ nests (d + 1) (s ++ (closed ∷ xs))
    inside d xs = ap (nests (d + 1)) (append_assoc s (closed ∷ []) xs)

    outside : (d : ℕ) (xs : List Lexeme) → nests (d + 1) (closed ∷ xs) ≡ nests d xs
    outside d xs = ap (λ e. nests e xs) (omega arith)

    go : (d : ℕ) (xs : List Lexeme) → nests d ((opened ∷ (s ++ closed ∷ [])) ++ xs) ≡ true → (d + (1 + k) ≤ 64) × (nests d xs ≡ true)
    go d xs n = by_test (nat_lt d 64) refl n
      where
        by_test : (t : Bool) → nat_lt d 64 ≡ t → cond t (nests (d + 1) ((s ++ closed ∷ []) ++ xs)) false ≡ true → (d + (1 + k) ≤ 64) × (nests d xs ≡ true)
        by_test true e m =
            let lt : d < 64 = ltb-true d 64 e in
            let a = (f.passes (d + 1) (closed ∷ xs) (omega (arith, lt))).0 (sym (inside d xs) ∙ m) in (omega (arith, a.0), sym (outside d xs) ∙ a.1)
        by_test false e m = absurd cc

    back : (d : ℕ) (xs : List Lexeme) → (d + (1 + k) ≤ 64) × (nests d xs ≡ true) → nests d ((opened ∷ (s ++ closed ∷ [])) ++ xs) ≡ true
    back d xs n =
        let e : nat_lt d 64 ≡ true = lt-ltb d 64 (omega (arith, n.0)) in
        let inner = (f.passes (d + 1) (closed ∷ xs) (omega (arith, n.0))).1 (omega (arith, n.0), outside d xs ∙ n.1) in
        let all : cond (nat_lt d 64) (nests (d + 1) ((s ++ closed ∷ []) ++ xs)) false ≡ true = rw e (inside d xs ∙ inner) in all

mutual
  poly_nests : (p : Poly) → NestsDeep (spelling p) (depth p)
  poly_nests (poly sign t ts) = subst (λ s. NestsDeep s (max (term_depth t) (terms_depth ts))) (sym (regrouped sign (term_spelling t) (terms_spelling ts))) (lead_flat sign (term_spelling t ++ terms_spelling ts) _ (both _ _ _ _ (term_nests t) (terms_nest ts)))

  terms_nest : (ts : Terms) → NestsDeep (terms_spelling ts) (terms_depth ts)
  terms_nest last = flat [] (λ d xs. refl)
  terms_nest (plus_term t ts) = behind plus _ _ (λ d xs. refl) (both _ _ _ _ (term_nests t) (terms_nest ts))
  terms_nest (minus_term t ts) = behind minus _ _ (λ d xs. refl) (both _ _ _ _ (term_nests t) (terms_nest ts))

  term_nests : (t : TermTree) → NestsDeep (term_spelling t) (term_depth t)
  term_nests (term f fs) = both _ _ _ _ (factor_nests f) (factors_nest fs)

  factors_nest : (fs : Factors) → NestsDeep (factors_spelling fs) (factors_depth fs)
  factors_nest alone = flat [] (λ d xs. refl)
  factors_nest (times f fs) = behind star _ _ (λ d xs. refl) (both _ _ _ _ (factor_nests f) (factors_nest fs))

  factor_nests : (f : Factor) → NestsDeep (factor_spelling f) (factor_depth f)
  factor_nests (plain a) = atom_nests a
  factor_nests (power a exponent) = subst (NestsDeep (atom_spelling a ++ caret ∷ number exponent ∷ [])) (omega arith) (both (atom_spelling a) (caret ∷ number exponent ∷ []) (atom_depth a) 0 (atom_nests a) (flat (caret ∷ number exponent ∷ []) (λ d xs. refl)))

  atom_nests : (a : Atom) → NestsDeep (atom_spelling a) (atom_depth a)
  atom_nests (numeral token) = flat _ (λ d xs. refl)
  atom_nests (letter token) = flat _ (λ d xs. refl)
  atom_nests (group p) = opens (spelling p) (depth p) (poly_nests p)

pub nests_is_depth : (p : Poly) → (nests 0 (spelling p) ≡ true) ↔ (depth p ≤ 64)
nests_is_depth p =
    let h = (poly_nests p).passes 0 [] (omega arith) in
    ((λ n. omega (arith, (h.0 (ap (nests 0) (append-nil (spelling p)) ∙ n)).0)), (λ k. ap (nests 0) (sym (append-nil (spelling p))) ∙ h.1 (omega arith, refl)))
