-- A tree's steps have the names of its tokens.
use Rattle.std.proofs.Common.{◌≡◌, List, [], ◌∷◌, ◌++◌, refl, sym, ap, ap₂, ◌∙◌}
use Rattle.std.proofs.lemmas.List.{append-nil}
use Rattle.poly_grammar.specs.declared.step.PolyStep.{PolyStep}
use Rattle.poly_grammar.specs.declared.step.PolyStep.TheVariants as acts
use Rattle.poly_grammar.specs.Lexemes.{Lexeme, name, caret, number, closed, names_in}
use Rattle.poly_grammar.specs.Steps.{steps, lead_steps, terms_steps, term_steps, factors_steps, factor_steps, atom_steps, names_of_steps}
use Rattle.poly_grammar.specs.Trees.{Lead, bare, positive, negative, Poly, poly, Terms, last, plus_term, minus_term, TermTree, term, Factors, alone, times, Factor, plain, power, Atom, numeral, letter, group, lead, spelling, terms_spelling, term_spelling, factors_spelling, factor_spelling, atom_spelling}

in_both : (a b : List Lexeme) → names_in (a ++ b) ≡ names_in a ++ names_in b
in_both [] b = refl
in_both (name t ∷ a) b = ap (λ l. t ∷ l) (in_both a b)
in_both (_ ∷ a) b = in_both a b

of_both : (a b : List PolyStep) → names_of_steps (a ++ b) ≡ names_of_steps a ++ names_of_steps b
of_both [] b = refl
of_both (acts.Name t ∷ a) b = ap (λ l. t ∷ l) (of_both a b)
of_both (_ ∷ a) b = of_both a b

-- two parts, one behind the other
joined : (a b : List PolyStep) (x y : List Lexeme) → names_of_steps a ≡ names_in x → names_of_steps b ≡ names_in y → names_of_steps (a ++ b) ≡ names_in (x ++ y)
joined a b x y e f = of_both a b ∙ ap₂ (λ l m. l ++ m) e f ∙ sym (in_both x y)

no_lead : (sign : Lead) (x : List Lexeme) → names_in (lead sign ++ x) ≡ names_in x
no_lead bare x = refl
no_lead positive x = refl
no_lead negative x = refl

no_lead_step : (sign : Lead) → names_of_steps (lead_steps sign) ≡ []
no_lead_step bare = refl
no_lead_step positive = refl
no_lead_step negative = refl

mutual
  poly_names : (p : Poly) → names_of_steps (steps p) ≡ names_in (spelling p)
  poly_names (poly sign t ts) =
      joined (term_steps t ++ lead_steps sign) (terms_steps ts) (lead sign ++ term_spelling t) (terms_spelling ts)
      (of_both (term_steps t) (lead_steps sign) ∙ ap₂ (λ l m. l ++ m) (term_names t) (no_lead_step sign) ∙ append-nil (names_in (term_spelling t)) ∙ sym (no_lead sign (term_spelling t))) (terms_names ts)

  terms_names : (ts : Terms) → names_of_steps (terms_steps ts) ≡ names_in (terms_spelling ts)
  terms_names last = refl
  terms_names (plus_term t ts) = joined (term_steps t) (acts.Add ∷ terms_steps ts) (term_spelling t) (terms_spelling ts) (term_names t) (terms_names ts)
  terms_names (minus_term t ts) = joined (term_steps t) (acts.Subtract ∷ terms_steps ts) (term_spelling t) (terms_spelling ts) (term_names t) (terms_names ts)

  term_names : (t : TermTree) → names_of_steps (term_steps t) ≡ names_in (term_spelling t)
  term_names (term f fs) = joined (factor_steps f) (factors_steps fs) (factor_spelling f) (factors_spelling fs) (factor_names f) (factors_names fs)

  factors_names : (fs : Factors) → names_of_steps (factors_steps fs) ≡ names_in (factors_spelling fs)
  factors_names alone = refl
  factors_names (times f fs) = joined (factor_steps f) (acts.Multiply ∷ factors_steps fs) (factor_spelling f) (factors_spelling fs) (factor_names f) (factors_names fs)

  factor_names : (f : Factor) → names_of_steps (factor_steps f) ≡ names_in (factor_spelling f)
  factor_names (plain a) = atom_names a
  factor_names (power a exponent) = joined (atom_steps a) (acts.Power exponent ∷ []) (atom_spelling a) (caret ∷ number exponent ∷ []) (atom_names a) refl

  atom_names : (a : Atom) → names_of_steps (atom_steps a) ≡ names_in (atom_spelling a)
  atom_names (numeral token) = refl
  atom_names (letter token) = refl
  atom_names (group p) = sym (ap names_of_steps (append-nil (steps p))) ∙ joined (steps p) [] (spelling p) (closed ∷ []) (poly_names p) refl

pub steps_have_names : (p : Poly) → names_of_steps (steps p) ≡ names_in (spelling p)
steps_have_names p = poly_names p
