-- A tree in the order in which it is worked out.
use Rattle.std.specs.Prelude.{List, [], ◌∷◌, ◌++◌}
use Rattle.script_tokens.specs.declared.token.Token.{Token}
use Rattle.poly_grammar.specs.declared.step.PolyStep.{PolyStep}
use Rattle.poly_grammar.specs.declared.step.PolyStep.TheVariants.{Number, Name, Power, Multiply, Add, Subtract, Negate}
use Rattle.poly_grammar.specs.Trees.{Atom, Factor, Factors, Lead, Poly, TermTree, Terms, alone, bare, group, last, letter, minus_term, negative, numeral, plain, plus_term, poly, positive, power, term, times}

abbrev pub lead_steps : Lead → List PolyStep
lead_steps bare = []
lead_steps positive = []
lead_steps negative = Negate ∷ []

abbrev mutual
  pub steps : Poly → List PolyStep
  steps (poly sign t ts) = term_steps t ++ lead_steps sign ++ terms_steps ts

  pub terms_steps : Terms → List PolyStep
  terms_steps last = []
  terms_steps (plus_term t ts) = term_steps t ++ Add ∷ terms_steps ts
  terms_steps (minus_term t ts) = term_steps t ++ Subtract ∷ terms_steps ts

  pub term_steps : TermTree → List PolyStep
  term_steps (term f fs) = factor_steps f ++ factors_steps fs

  pub factors_steps : Factors → List PolyStep
  factors_steps alone = []
  factors_steps (times f fs) = factor_steps f ++ Multiply ∷ factors_steps fs

  pub factor_steps : Factor → List PolyStep
  factor_steps (plain a) = atom_steps a
  factor_steps (power a exponent) = atom_steps a ++ Power exponent ∷ []

  pub atom_steps : Atom → List PolyStep
  atom_steps (numeral token) = Number token ∷ []
  atom_steps (letter token) = Name token ∷ []
  atom_steps (group p) = steps p

-- the names among steps
abbrev pub names_of_steps : List PolyStep → List Token
names_of_steps [] = []
names_of_steps (Name token ∷ xs) = token ∷ names_of_steps xs
names_of_steps (_ ∷ xs) = names_of_steps xs

-- the numbers among steps
abbrev pub numbers_of_steps : List PolyStep → List Token
numbers_of_steps [] = []
numbers_of_steps (Number token ∷ xs) = token ∷ numbers_of_steps xs
numbers_of_steps (Power token ∷ xs) = token ∷ numbers_of_steps xs
numbers_of_steps (_ ∷ xs) = numbers_of_steps xs
