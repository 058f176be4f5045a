-- A tree's steps have the numbers of its tokens.
use Rattle.std.proofs.Common.{◌≡◌, List, [], ◌∷◌, ◌++◌, refl, sym, ap, ap₂, ◌∙◌}
use Rattle.std.proofs.lemmas.List.{append-nil}
use Rattle.poly_grammar.specs.declared.step.PolyStep.{PolyStep}
use Rattle.poly_grammar.specs.declared.step.PolyStep.TheVariants as acts
use Rattle.poly_grammar.specs.Lexemes.{Lexeme, caret, number, closed, numbers_in}
use Rattle.poly_grammar.specs.Steps.{steps, lead_steps, terms_steps, term_steps, factors_steps, factor_steps, atom_steps, numbers_of_steps}
use Rattle.poly_grammar.specs.Trees.{Lead, bare, positive, negative, Poly, poly, Terms, last, plus_term, minus_term, TermTree, term, Factors, alone, times, Factor, plain, power, Atom, numeral, letter, group, lead, spelling, terms_spelling, term_spelling, factors_spelling, factor_spelling, atom_spelling}

in_both : (a b : List Lexeme) → numbers_in (a ++ b) ≡ numbers_in a ++ numbers_in b
in_both [] b = refl
in_both (number t ∷ a) b = ap (λ l. t ∷ l) (in_both a b)
in_both (_ ∷ a) b = in_both a b

of_both : (a b : List PolyStep) → numbers_of_steps (a ++ b) ≡ numbers_of_steps a ++ numbers_of_steps b
of_both [] b = refl
of_both (acts.Number t ∷ a) b = ap (λ l. t ∷ l) (of_both a b)
of_both (acts.Power t ∷ a) b = ap (λ l. t ∷ l) (of_both a b)
of_both (_ ∷ a) b = of_both a b

-- two parts, one behind the other
joined : (a b : List PolyStep) (x y : List Lexeme) → numbers_of_steps a ≡ numbers_in x → numbers_of_steps b ≡ numbers_in y → numbers_of_steps (a ++ b) ≡ numbers_in (x ++ y)
joined a b x y e f = of_both a b ∙ ap₂ (λ l m. l ++ m) e f ∙ sym (in_both x y)

no_lead : (sign : Lead) (x : List Lexeme) → numbers_in (lead sign ++ x) ≡ numbers_in x
no_lead bare x = refl
no_lead positive x = refl
no_lead negative x = refl

no_lead_step : (sign : Lead) → numbers_of_steps (lead_steps sign) ≡ []
no_lead_step bare = refl
no_lead_step positive = refl
no_lead_step negative = refl

mutual
  poly_numbers : (p : Poly) → numbers_of_steps (steps p) ≡ numbers_in (spelling p)
  poly_numbers (poly sign t ts) =
      joined (term_steps t ++ lead_steps sign) (terms_steps ts) (lead sign ++ term_spelling t) (terms_spelling ts)
      (of_both (term_steps t) (lead_steps sign) ∙ ap₂ (λ l m. l ++ m) (term_numbers t) (no_lead_step sign) ∙ append-nil (numbers_in (term_spelling t)) ∙ sym (no_lead sign (term_spelling t))) (terms_numbers ts)

  terms_numbers : (ts : Terms) → numbers_of_steps (terms_steps ts) ≡ numbers_in (terms_spelling ts)
  terms_numbers last = refl
  terms_numbers (plus_term t ts) = joined (term_steps t) (acts.Add ∷ terms_steps ts) (term_spelling t) (terms_spelling ts) (term_numbers t) (terms_numbers ts)
  terms_numbers (minus_term t ts) = joined (term_steps t) (acts.Subtract ∷ terms_steps ts) (term_spelling t) (terms_spelling ts) (term_numbers t) (terms_numbers ts)

  term_numbers : (t : TermTree) → numbers_of_steps (term_steps t) ≡ numbers_in (term_spelling t)
  term_numbers (term f fs) = joined (factor_steps f) (factors_steps fs) (factor_spelling f) (factors_spelling fs) (factor_numbers f) (factors_numbers fs)

  factors_numbers : (fs : Factors) → numbers_of_steps (factors_steps fs) ≡ numbers_in (factors_spelling fs)
  factors_numbers alone = refl
  factors_numbers (times f fs) = joined (factor_steps f) (acts.Multiply ∷ factors_steps fs) (factor_spelling f) (factors_spelling fs) (factor_numbers f) (factors_numbers fs)

  factor_numbers : (f : Factor) → numbers_of_steps (factor_steps f) ≡ numbers_in (factor_spelling f)
  factor_numbers (plain a) = atom_numbers a
  factor_numbers (power a exponent) = joined (atom_steps a) (acts.Power exponent ∷ []) (atom_spelling a) (caret ∷ number exponent ∷ []) (atom_numbers a) refl

  atom_numbers : (a : Atom) → numbers_of_steps (atom_steps a) ≡ numbers_in (atom_spelling a)
  atom_numbers (numeral token) = refl
  atom_numbers (letter token) = refl
  atom_numbers (group p) = sym (ap numbers_of_steps (append-nil (steps p))) ∙ joined (steps p) [] (spelling p) (closed ∷ []) (poly_numbers p) refl

pub steps_have_numbers : (p : Poly) → numbers_of_steps (steps p) ≡ numbers_in (spelling p)
steps_have_numbers p = poly_numbers p
