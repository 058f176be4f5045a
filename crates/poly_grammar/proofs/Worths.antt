-- The steps of a tree leave its worth, in every algebra.
use Rattle.std.proofs.Common.{◌≡◌, List, [], ◌∷◌, ◌++◌, Option, Some, None, refl, sym, ap, ◌∙◌, append_assoc}
use Rattle.std.proofs.lemmas.List.{append-nil}
use Rattle.poly_grammar.specs.declared.step.PolyStep.{PolyStep}
use Rattle.poly_grammar.specs.declared.step.PolyStep.TheVariants.{Power, Multiply, Add, Subtract}
use Rattle.poly_grammar.specs.Trees.{Atom, Factor, Factors, Lead, Poly, TermTree, Terms, alone, bare, group, last, letter, minus_term, negative, numeral, plain, plus_term, poly, positive, power, term, times}
use Rattle.poly_grammar.specs.Steps.{steps, lead_steps, terms_steps, term_steps, factors_steps, factor_steps, atom_steps}
use Rattle.poly_grammar.specs.Algebras.{◌>>=◌, Algebra, signed, worth, terms_worth, term_worth, factors_worth, factor_worth, atom_worth, push, worths, stack_top, worth_of_steps}

bind_bind : {A B C : Type 0} (o : Option A) (f : A → Option B) (g : B → Option C) → ((o >>= f) >>= g) ≡ (o >>= λ a. f a >>= g)
bind_bind None f g = refl
bind_bind (Some a) f g = refl

bind_same : {A B : Type 0} (o : Option A) (f g : A → Option B) → ((a : A) → f a ≡ g a) → (o >>= f) ≡ (o >>= g)
bind_same None f g h = refl
bind_same (Some a) f g h = h a

-- the stack under a value, and what is done next
pushed : {A B : Type 0} (stack : List A) (o : Option A) (k : List A → Option B) → (push stack o >>= k) ≡ (o >>= λ a. k (a ∷ stack))
pushed stack None k = refl
pushed stack (Some a) k = refl

-- two steps of working out and then k
chain : {A B C : Type 0} (o : Option A) (f : A → Option B) (k : B → Option C) (r : A → Option C) → ((a : A) → r a ≡ (f a >>= k)) → (o >>= r) ≡ ((o >>= f) >>= k)
chain o f k r h = bind_same o r (λ a. f a >>= k) h ∙ sym (bind_bind o f k)

regroup : {A : Type 0} (g : Algebra A) (a b xs : List PolyStep) (stack : List A) → worths g ((a ++ b) ++ xs) stack ≡ worths g (a ++ (b ++ xs)) stack
regroup g a b xs stack = ap (λ l. worths g l stack) (append_assoc a b xs)

sign_runs : {A : Type 0} (g : Algebra A) (sign : Lead) (a : A) (xs : List PolyStep) (stack : List A) → worths g (lead_steps sign ++ xs) (a ∷ stack) ≡ (signed g sign a >>= λ b. worths g xs (b ∷ stack))
sign_runs g bare a xs stack = refl
sign_runs g positive a xs stack = refl
sign_runs g negative a xs stack = pushed stack (g.opposite a) (worths g xs)

mutual
  poly_runs : {A : Type 0} (g : Algebra A) (p : Poly) (xs : List PolyStep) (stack : List A) → worths g (steps p ++ xs) stack ≡ (worth g p >>= λ a. worths g xs (a ∷ stack))
  poly_runs g (poly sign t ts) xs stack =
      regroup g (term_steps t ++ lead_steps sign) (terms_steps ts) xs stack ∙ regroup g (term_steps t) (lead_steps sign) (terms_steps ts ++ xs) stack ∙ term_runs g t (lead_steps sign ++ (terms_steps ts ++ xs)) stack
      ∙ chain (term_worth g t) _ _ _ (λ a. sign_runs g sign a (terms_steps ts ++ xs) stack ∙ chain (signed g sign a) _ _ _ (λ b. terms_run g ts b xs stack))

  terms_run : {A : Type 0} (g : Algebra A) (ts : Terms) (a : A) (xs : List PolyStep) (stack : List A) → worths g (terms_steps ts ++ xs) (a ∷ stack) ≡ (terms_worth g a ts >>= λ b. worths g xs (b ∷ stack))
  terms_run g last a xs stack = refl
  terms_run g (plus_term t ts) a xs stack =
      regroup g (term_steps t) (Add ∷ terms_steps ts) xs (a ∷ stack) ∙ term_runs g t (Add ∷ (terms_steps ts ++ xs)) (a ∷ stack)
      ∙ chain (term_worth g t) _ _ _ (λ b. pushed stack (g.sum a b) (worths g (terms_steps ts ++ xs)) ∙ chain (g.sum a b) _ _ _ (λ c. terms_run g ts c xs stack))
  terms_run g (minus_term t ts) a xs stack =
      regroup g (term_steps t) (Subtract ∷ terms_steps ts) xs (a ∷ stack) ∙ term_runs g t (Subtract ∷ (terms_steps ts ++ xs)) (a ∷ stack)
      ∙ chain (term_worth g t) _ _ _ (λ b. pushed stack (g.difference a b) (worths g (terms_steps ts ++ xs)) ∙ chain (g.difference a b) _ _ _ (λ c. terms_run g ts c xs stack))

  term_runs : {A : Type 0} (g : Algebra A) (t : TermTree) (xs : List PolyStep) (stack : List A) → worths g (term_steps t ++ xs) stack ≡ (term_worth g t >>= λ a. worths g xs (a ∷ stack))
  term_runs g (term f fs) xs stack =
      regroup g (factor_steps f) (factors_steps fs) xs stack ∙ factor_runs g f (factors_steps fs ++ xs) stack ∙ chain (factor_worth g f) _ _ _ (λ a. factors_run g fs a xs stack)

  factors_run : {A : Type 0} (g : Algebra A) (fs : Factors) (a : A) (xs : List PolyStep) (stack : List A) → worths g (factors_steps fs ++ xs) (a ∷ stack) ≡ (factors_worth g a fs >>= λ b. worths g xs (b ∷ stack))
  factors_run g alone a xs stack = refl
  factors_run g (times f fs) a xs stack =
      regroup g (factor_steps f) (Multiply ∷ factors_steps fs) xs (a ∷ stack) ∙ factor_runs g f (Multiply ∷ (factors_steps fs ++ xs)) (a ∷ stack)
      ∙ chain (factor_worth g f) _ _ _ (λ b. pushed stack (g.product a b) (worths g (factors_steps fs ++ xs)) ∙ chain (g.product a b) _ _ _ (λ c. factors_run g fs c xs stack))

  factor_runs : {A : Type 0} (g : Algebra A) (f : Factor) (xs : List PolyStep) (stack : List A) → worths g (factor_steps f ++ xs) stack ≡ (factor_worth g f >>= λ a. worths g xs (a ∷ stack))
  factor_runs g (plain a) xs stack = atom_runs g a xs stack
  factor_runs g (power a exponent) xs stack =
      regroup g (atom_steps a) (Power exponent ∷ []) xs stack ∙ atom_runs g a (Power exponent ∷ xs) stack ∙ chain (atom_worth g a) _ _ _ (λ b. pushed stack (g.raised b exponent) (worths g xs))

  atom_runs : {A : Type 0} (g : Algebra A) (a : Atom) (xs : List PolyStep) (stack : List A) → worths g (atom_steps a ++ xs) stack ≡ (atom_worth g a >>= λ b. worths g xs (b ∷ stack))
  atom_runs g (numeral token) xs stack = pushed stack (g.number token) (worths g xs)
  atom_runs g (letter token) xs stack = pushed stack (g.name token) (worths g xs)
  atom_runs g (group p) xs stack = poly_runs g p xs stack

only_top : {A : Type 0} (o : Option A) → (o >>= λ a. stack_top (a ∷ [])) ≡ o
only_top None = refl
only_top (Some a) = refl

-- the steps of a tree leave its worth
pub worth_is_left : {A : Type 0} (g : Algebra A) (p : Poly) → worth_of_steps g (steps p) ≡ worth g p
worth_is_left g p =
    ap (worth_of_steps g) (sym (append-nil (steps p))) ∙ ap (λ o. o >>= stack_top) (poly_runs g p [] []) ∙ bind_bind (worth g p) (λ a. Some (a ∷ [])) stack_top ∙ only_top (worth g p)
