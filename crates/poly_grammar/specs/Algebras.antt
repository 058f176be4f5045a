-- What a tree is worth, in whatever its numbers and names stand for; and the same by steps on a stack
use Rattle.std.specs.Prelude.{List, [], ◌∷◌, Option, Some, None, option_and_then}
use Rattle.script_tokens.specs.declared.token.Token.{Token}
use Rattle.poly_grammar.specs.declared.step.PolyStep.{PolyStep}
use Rattle.poly_grammar.specs.declared.step.PolyStep.TheVariants.{Number, Name, Power, Multiply, Add, Subtract, Negate}
use Rattle.poly_grammar.specs.Trees.{Atom, Factor, Factors, Lead, Poly, TermTree, Terms, alone, bare, group, last, letter, minus_term, negative, numeral, plain, plus_term, poly, positive, power, term, times}

-- an answer, and what is made of it
infixl 10 ◌>>=◌
abbrev pub ◌>>=◌ : {A B : Type 0} → Option A → (A → Option B) → Option B
o >>= f = option_and_then f o

-- what the parts of a tree stand for; None where there is no answer, as for a degree that is too great
pub record Algebra (A : Type 0) : Type 0 where
  pub number : Token → Option A
  pub name : Token → Option A
  pub raised : A → Token → Option A
  pub product : A → A → Option A
  pub sum : A → A → Option A
  pub difference : A → A → Option A
  pub opposite : A → Option A

-- the sign before the first term
abbrev pub signed : {A : Type 0} → Algebra A → Lead → A → Option A
signed g bare a = Some a
signed g positive a = Some a
signed g negative a = g.opposite a

-- the worth of a tree (terms_worth and factors_worth go on from the worth a of what stands before)
abbrev mutual
  pub worth : {A : Type 0} → Algebra A → Poly → Option A
  worth g (poly sign t ts) = term_worth g t >>= λ a. signed g sign a >>= λ b. terms_worth g b ts

  pub terms_worth : {A : Type 0} → Algebra A → A → Terms → Option A
  terms_worth g a last = Some a
  terms_worth g a (plus_term t ts) = term_worth g t >>= λ b. g.sum a b >>= λ c. terms_worth g c ts
  terms_worth g a (minus_term t ts) = term_worth g t >>= λ b. g.difference a b >>= λ c. terms_worth g c ts

  pub term_worth : {A : Type 0} → Algebra A → TermTree → Option A
  term_worth g (term f fs) = factor_worth g f >>= λ a. factors_worth g a fs

  pub factors_worth : {A : Type 0} → Algebra A → A → Factors → Option A
  factors_worth g a alone = Some a
  factors_worth g a (times f fs) = factor_worth g f >>= λ b. g.product a b >>= λ c. factors_worth g c fs

  pub factor_worth : {A : Type 0} → Algebra A → Factor → Option A
  factor_worth g (plain a) = atom_worth g a
  factor_worth g (power a exponent) = atom_worth g a >>= λ b. g.raised b exponent

  pub atom_worth : {A : Type 0} → Algebra A → Atom → Option A
  atom_worth g (numeral token) = g.number token
  atom_worth g (letter token) = g.name token
  atom_worth g (group p) = worth g p

-- an answer put on a stack
abbrev pub push : {A : Type 0} → List A → Option A → Option (List A)
push stack None = None
push stack (Some a) = Some (a ∷ stack)

-- one step on a stack, the last operand on top
abbrev pub worth_step : {A : Type 0} → Algebra A → PolyStep → List A → Option (List A)
worth_step g (Number token) stack = push stack (g.number token)
worth_step g (Name token) stack = push stack (g.name token)
worth_step g (Power token) (a ∷ stack) = push stack (g.raised a token)
worth_step g Multiply (b ∷ a ∷ stack) = push stack (g.product a b)
worth_step g Add (b ∷ a ∷ stack) = push stack (g.sum a b)
worth_step g Subtract (b ∷ a ∷ stack) = push stack (g.difference a b)
worth_step g Negate (a ∷ stack) = push stack (g.opposite a)
worth_step g _ _ = None

-- steps on a stack
abbrev pub worths : {A : Type 0} → Algebra A → List PolyStep → List A → Option (List A)
worths g [] stack = Some stack
worths g (step ∷ more) stack = worth_step g step stack >>= worths g more

-- what is on top
abbrev pub stack_top : {A : Type 0} → List A → Option A
stack_top [] = None
stack_top (a ∷ stack) = Some a

-- what steps leave on top of an empty stack
abbrev pub worth_of_steps : {A : Type 0} → Algebra A → List PolyStep → Option A
worth_of_steps g steps = worths g steps [] >>= stack_top
