-- No spelling is that of two trees.
use Rattle.std.proofs.Common.{◌≡◌, List, [], ◌∷◌, ◌++◌, refl, sym, subst, ◌∙◌, append_assoc}
use Rattle.std.proofs.lemmas.List.{append-nil}
use Rattle.poly_grammar.specs.Lexemes.{Lexeme, caret, closed, minus, number, plus, star}
use Rattle.poly_grammar.specs.Trees.{Atom, Factor, Factors, Lead, Poly, TermTree, Terms, alone, atom_spelling, bare, factor_spelling, factors_spelling, group, last, lead, letter, minus_term, negative, numeral, plain, plus_term, poly, positive, power, spelling, term, term_spelling, terms_spelling, times}
use Rattle.poly_grammar.proofs.Complete.{Ends, NoPower, no_power_factors}

-- no sign that goes on with a POLY stands at the front
abbrev pub Stops : List Lexeme → Type 0
Stops [] = Unit {0}
Stops (star ∷ xs) = ⊥
Stops (caret ∷ xs) = ⊥
Stops (plus ∷ xs) = ⊥
Stops (minus ∷ xs) = ⊥
Stops (_ ∷ xs) = Unit {0}

stops_ends : (xs : List Lexeme) → Stops xs → Ends xs
stops_ends [] s = tt
stops_ends (star ∷ xs) s = absurd s
stops_ends (caret ∷ xs) s = absurd s
stops_ends (_ ∷ xs) s = tt

ends_terms : (ts : Terms) (xs : List Lexeme) → Stops xs → Ends (terms_spelling ts ++ xs)
ends_terms last xs s = stops_ends xs s
ends_terms (plus_term t ts) xs s = tt
ends_terms (minus_term t ts) xs s = tt

-- both sides with what is between the brackets moved to the right
moved : (a b a' b' x y : List Lexeme) → (a ++ b) ++ x ≡ (a' ++ b') ++ y → a ++ (b ++ x) ≡ a' ++ (b' ++ y)
moved a b a' b' x y e = sym (append_assoc a b x) ∙ e ∙ append_assoc a' b' y

tail : {a b : Lexeme} {x y : List Lexeme} → a ∷ x ≡ b ∷ y → x ≡ y
tail e = cc

no_sign : (t : TermTree) (xs ys : List Lexeme) (sign : Lead) → term_spelling t ++ xs ≡ lead sign ++ ys → (sign ≡ bare → ⊥) → ⊥
no_sign (term (plain (numeral d)) fs) xs ys positive e ne = cc
no_sign (term (plain (letter d)) fs) xs ys positive e ne = cc
no_sign (term (plain (group d)) fs) xs ys positive e ne = cc
no_sign (term (power (numeral d) x) fs) xs ys positive e ne = cc
no_sign (term (power (letter d) x) fs) xs ys positive e ne = cc
no_sign (term (power (group d) x) fs) xs ys positive e ne = cc
no_sign (term (plain (numeral d)) fs) xs ys negative e ne = cc
no_sign (term (plain (letter d)) fs) xs ys negative e ne = cc
no_sign (term (plain (group d)) fs) xs ys negative e ne = cc
no_sign (term (power (numeral d) x) fs) xs ys negative e ne = cc
no_sign (term (power (letter d) x) fs) xs ys negative e ne = cc
no_sign (term (power (group d) x) fs) xs ys negative e ne = cc
no_sign t xs ys bare e ne = ne refl

no_lead : (t : TermTree) (xs ys : List Lexeme) (sign : Lead) → lead sign ++ ys ≡ term_spelling t ++ xs → (sign ≡ bare → ⊥) → ⊥
no_lead t xs ys sign e ne = no_sign t xs ys sign (sym e) ne

mutual
  one_poly : (p q : Poly) (x y : List Lexeme) → Stops x → Stops y → spelling p ++ x ≡ spelling q ++ y → (p ≡ q) × (x ≡ y)
  one_poly (poly bare t ts) (poly bare u us) x y sx sy e =
      let r = one_term t u (terms_spelling ts ++ x) (terms_spelling us ++ y) (ends_terms ts x sx) (ends_terms us y sy) (moved (term_spelling t) (terms_spelling ts) (term_spelling u) (terms_spelling us) x y e) in
      let s = one_terms ts us x y sx sy r.1 in (cc (r.0, s.0), s.1)
  one_poly (poly positive t ts) (poly positive u us) x y sx sy e =
      let r = one_term t u (terms_spelling ts ++ x) (terms_spelling us ++ y) (ends_terms ts x sx) (ends_terms us y sy) (moved (term_spelling t) (terms_spelling ts) (term_spelling u) (terms_spelling us) x y (tail e)) in
      let s = one_terms ts us x y sx sy r.1 in (cc (r.0, s.0), s.1)
  one_poly (poly negative t ts) (poly negative u us) x y sx sy e =
      let r = one_term t u (terms_spelling ts ++ x) (terms_spelling us ++ y) (ends_terms ts x sx) (ends_terms us y sy) (moved (term_spelling t) (terms_spelling ts) (term_spelling u) (terms_spelling us) x y (tail e)) in
      let s = one_terms ts us x y sx sy r.1 in (cc (r.0, s.0), s.1)
  one_poly (poly bare t ts) (poly positive u us) x y sx sy e = absurd (no_sign t (terms_spelling ts ++ x) _ positive (sym (append_assoc (term_spelling t) (terms_spelling ts) x) ∙ e) (λ h. cc))
  one_poly (poly bare t ts) (poly negative u us) x y sx sy e = absurd (no_sign t (terms_spelling ts ++ x) _ negative (sym (append_assoc (term_spelling t) (terms_spelling ts) x) ∙ e) (λ h. cc))
  one_poly (poly positive t ts) (poly bare u us) x y sx sy e = absurd (no_sign u (terms_spelling us ++ y) _ positive (sym (append_assoc (term_spelling u) (terms_spelling us) y) ∙ sym e) (λ h. cc))
  one_poly (poly negative t ts) (poly bare u us) x y sx sy e = absurd (no_sign u (terms_spelling us ++ y) _ negative (sym (append_assoc (term_spelling u) (terms_spelling us) y) ∙ sym e) (λ h. cc))
  one_poly (poly positive t ts) (poly negative u us) x y sx sy e = absurd cc
  one_poly (poly negative t ts) (poly positive u us) x y sx sy e = absurd cc

  one_terms : (ts us : Terms) (x y : List Lexeme) → Stops x → Stops y → terms_spelling ts ++ x ≡ terms_spelling us ++ y → (ts ≡ us) × (x ≡ y)
  one_terms last last x y sx sy e = (refl, e)
  one_terms (plus_term t ts) (plus_term u us) x y sx sy e =
      let r = one_term t u (terms_spelling ts ++ x) (terms_spelling us ++ y) (ends_terms ts x sx) (ends_terms us y sy) (moved (term_spelling t) (terms_spelling ts) (term_spelling u) (terms_spelling us) x y (tail e)) in
      let s = one_terms ts us x y sx sy r.1 in (cc (r.0, s.0), s.1)
  one_terms (minus_term t ts) (minus_term u us) x y sx sy e =
      let r = one_term t u (terms_spelling ts ++ x) (terms_spelling us ++ y) (ends_terms ts x sx) (ends_terms us y sy) (moved (term_spelling t) (terms_spelling ts) (term_spelling u) (terms_spelling us) x y (tail e)) in
      let s = one_terms ts us x y sx sy r.1 in (cc (r.0, s.0), s.1)
  one_terms last (plus_term u us) x y sx sy e = absurd (subst Stops e sx)
  one_terms last (minus_term u us) x y sx sy e = absurd (subst Stops e sx)
  one_terms (plus_term t ts) last x y sx sy e = absurd (subst Stops (sym e) sy)
  one_terms (minus_term t ts) last x y sx sy e = absurd (subst Stops (sym e) sy)
  one_terms (plus_term t ts) (minus_term u us) x y sx sy e = absurd cc
  one_terms (minus_term t ts) (plus_term u us) x y sx sy e = absurd cc

  one_term : (t u : TermTree) (x y : List Lexeme) → Ends x → Ends y → term_spelling t ++ x ≡ term_spelling u ++ y → (t ≡ u) × (x ≡ y)
  one_term (term f fs) (term g gs) x y sx sy e =
      let r = one_factor f g (factors_spelling fs ++ x) (factors_spelling gs ++ y) (no_power_factors fs x sx) (no_power_factors gs y sy) (moved (factor_spelling f) (factors_spelling fs) (factor_spelling g) (factors_spelling gs) x y e) in
      let s = one_factors fs gs x y sx sy r.1 in (cc (r.0, s.0), s.1)

  one_factors : (fs gs : Factors) (x y : List Lexeme) → Ends x → Ends y → factors_spelling fs ++ x ≡ factors_spelling gs ++ y → (fs ≡ gs) × (x ≡ y)
  one_factors alone alone x y sx sy e = (refl, e)
  one_factors (times f fs) (times g gs) x y sx sy e =
      let r = one_factor f g (factors_spelling fs ++ x) (factors_spelling gs ++ y) (no_power_factors fs x sx) (no_power_factors gs y sy) (moved (factor_spelling f) (factors_spelling fs) (factor_spelling g) (factors_spelling gs) x y (tail e)) in
      let s = one_factors fs gs x y sx sy r.1 in (cc (r.0, s.0), s.1)
  one_factors alone (times g gs) x y sx sy e = absurd (subst Ends e sx)
  one_factors (times f fs) alone x y sx sy e = absurd (subst Ends (sym e) sy)

  one_factor : (f g : Factor) (x y : List Lexeme) → NoPower x → NoPower y → factor_spelling f ++ x ≡ factor_spelling g ++ y → (f ≡ g) × (x ≡ y)
  one_factor (plain a) (plain b) x y sx sy e = let r = one_atom a b x y e in (cc (r.0), r.1)
  one_factor (power a m) (power b n) x y sx sy e =
      let r = one_atom a b (caret ∷ number m ∷ x) (caret ∷ number n ∷ y) (sym (append_assoc (atom_spelling a) (caret ∷ number m ∷ []) x) ∙ e ∙ append_assoc (atom_spelling b) (caret ∷ number n ∷ []) y) in (cc (r.0, r.1), cc (r.1))
  one_factor (plain a) (power b n) x y sx sy e =
      let r = one_atom a b x (caret ∷ number n ∷ y) (e ∙ append_assoc (atom_spelling b) (caret ∷ number n ∷ []) y) in absurd (subst NoPower r.1 sx)
  one_factor (power a m) (plain b) x y sx sy e =
      let r = one_atom a b (caret ∷ number m ∷ x) y (sym (append_assoc (atom_spelling a) (caret ∷ number m ∷ []) x) ∙ e) in absurd (subst NoPower (sym r.1) sy)

  one_atom : (a b : Atom) (x y : List Lexeme) → atom_spelling a ++ x ≡ atom_spelling b ++ y → (a ≡ b) × (x ≡ y)
  one_atom (numeral s) (numeral t) x y e = (cc, cc)
  one_atom (letter s) (letter t) x y e = (cc, cc)
  one_atom (group p) (group q) x y e =
      let r = one_poly p q (closed ∷ x) (closed ∷ y) tt tt (moved (spelling p) (closed ∷ []) (spelling q) (closed ∷ []) x y (tail e)) in (cc (r.0), tail r.1)
  one_atom (numeral s) (letter t) x y e = absurd cc
  one_atom (numeral s) (group t) x y e = absurd cc
  one_atom (letter s) (numeral t) x y e = absurd cc
  one_atom (letter s) (group t) x y e = absurd cc
  one_atom (group s) (numeral t) x y e = absurd cc
  one_atom (group s) (letter t) x y e = absurd cc

-- a line of tokens is the spelling of at most one tree
pub one_tree : (p q : Poly) → spelling p ≡ spelling q → p ≡ q
one_tree p q e = (one_poly p q [] [] tt tt (append-nil (spelling p) ∙ e ∙ sym (append-nil (spelling q)))).0
