-- What is read is spelled so.
use Rattle.std.proofs.Common.{◌≡◌, List, [], ◌∷◌, ◌++◌, Option, Some, None, refl, sym, ap, subst, ◌∙◌, append_assoc}
use Rattle.std.proofs.lemmas.List.{append-nil}
use Rattle.poly_grammar.specs.declared.reader.Phase.{Phase}
use Rattle.poly_grammar.specs.declared.reader.Phase.TheVariants as phases
use Rattle.poly_grammar.specs.declared.reader.Pending.{Pending}
use Rattle.poly_grammar.specs.Lexemes.{Lexeme, caret, closed, minus, name, number, opened, plus, star}
use Rattle.poly_grammar.specs.Trees.{Atom, Factor, Factors, Lead, Poly, Terms, alone, atom_spelling, bare, factor_spelling, factors_spelling, group, last, lead, letter, minus_term, negative, numeral, plain, plus_term, poly, positive, power, spelling, term, term_spelling, terms_spelling, times}
use Rattle.script_tokens.specs.declared.token.Token.{Token}
use Rattle.poly_grammar.specs.declared.step.PolyStep.{PolyStep}
use Rattle.poly_grammar.specs.Reading.{ParserState, outcome, start_state}

abbrev exponent_spelling : Option Token → List Lexeme
exponent_spelling None = []
exponent_spelling (Some digits) = caret ∷ number digits ∷ []

-- What is read from each place on. C is what may stand behind the POLY that is open there.
record AfterFactor (C : List Lexeme → Type 0) (xs : List Lexeme) : Type 0 where
  fs : Factors
  ts : Terms
  more : List Lexeme
  is : xs ≡ factors_spelling fs ++ (terms_spelling ts ++ more)
  rest : C more

record AfterBase (C : List Lexeme → Type 0) (xs : List Lexeme) : Type 0 where
  exponent : Option Token
  more : List Lexeme
  is : xs ≡ exponent_spelling exponent ++ more
  rest : AfterFactor C more

record AtExponent (C : List Lexeme → Type 0) (xs : List Lexeme) : Type 0 where
  digits : Token
  more : List Lexeme
  is : xs ≡ number digits ∷ more
  rest : AfterFactor C more

record AtOperand (C : List Lexeme → Type 0) (xs : List Lexeme) : Type 0 where
  f : Factor
  more : List Lexeme
  is : xs ≡ factor_spelling f ++ more
  rest : AfterFactor C more

record AtStart (C : List Lexeme → Type 0) (xs : List Lexeme) : Type 0 where
  p : Poly
  more : List Lexeme
  is : xs ≡ spelling p ++ more
  rest : C more

abbrev RestAt : Phase → (List Lexeme → Type 0) → List Lexeme → Type 0
RestAt phases.Start C xs = AtStart C xs
RestAt phases.Operand C xs = AtOperand C xs
RestAt phases.Base C xs = AfterBase C xs
RestAt phases.Exponent C xs = AtExponent C xs
RestAt phases.Factor C xs = AfterFactor C xs

-- behind a POLY: its ) and what is read from there on, or nothing
abbrev Closes : List Pending → List Lexeme → Type 0
Closes [] xs = xs ≡ []
Closes (o ∷ outer) xs = (more : List Lexeme) × (xs ≡ closed ∷ more) × AfterBase (Closes outer) more

abbrev factor_of : Atom → Option Token → Factor
factor_of a None = plain a
factor_of a (Some digits) = power a digits

factor_of_spelling : (a : Atom) (e : Option Token) → factor_spelling (factor_of a e) ≡ atom_spelling a ++ exponent_spelling e
factor_of_spelling a None = sym (append-nil (atom_spelling a))
factor_of_spelling a (Some digits) = refl

module _ (C : List Lexeme → Type 0) (xs : List Lexeme) where
  to_operand : (a : Atom) → AfterBase C xs → AtOperand C (atom_spelling a ++ xs)
  to_operand a r = record {
    f = factor_of a r.exponent;
    more = r.more;
    is = ap (λ l. atom_spelling a ++ l) r.is ∙ sym (append_assoc (atom_spelling a) (exponent_spelling r.exponent) r.more) ∙ ap (λ l. l ++ r.more) (sym (factor_of_spelling a r.exponent));
    rest = r.rest;
  }

  -- the rest as a term and the terms after it
  joined : (r : AtOperand C xs) → xs ≡ term_spelling (term r.f r.rest.fs) ++ (terms_spelling r.rest.ts ++ r.rest.more)
  joined r = r.is ∙ ap (λ l. factor_spelling r.f ++ l) r.rest.is ∙ sym (append_assoc (factor_spelling r.f) (factors_spelling r.rest.fs) (terms_spelling r.rest.ts ++ r.rest.more))

  to_start : (sign : Lead) → AtOperand C xs → AtStart C (lead sign ++ xs)
  to_start sign r = record {
    p = poly sign (term r.f r.rest.fs) r.rest.ts;
    more = r.rest.more;
    is = ap (λ l. lead sign ++ l) (joined r) ∙ simp append_assoc;
    rest = r.rest.rest;
  }

  star_on : AtOperand C xs → AfterFactor C (star ∷ xs)
  star_on r = record {
    fs = times r.f r.rest.fs;
    ts = r.rest.ts;
    more = r.rest.more;
    is = ap (λ l. star ∷ l) (joined r);
    rest = r.rest.rest;
  }

  plus_on : AtOperand C xs → AfterFactor C (plus ∷ xs)
  plus_on r = record {
    fs = alone;
    ts = plus_term (term r.f r.rest.fs) r.rest.ts;
    more = r.rest.more;
    is = ap (λ l. plus ∷ l) (joined r ∙ sym (append_assoc (term_spelling (term r.f r.rest.fs)) (terms_spelling r.rest.ts) r.rest.more));
    rest = r.rest.rest;
  }

  minus_on : AtOperand C xs → AfterFactor C (minus ∷ xs)
  minus_on r = record {
    fs = alone;
    ts = minus_term (term r.f r.rest.fs) r.rest.ts;
    more = r.rest.more;
    is = ap (λ l. minus ∷ l) (joined r ∙ sym (append_assoc (term_spelling (term r.f r.rest.fs)) (terms_spelling r.rest.ts) r.rest.more));
    rest = r.rest.rest;
  }

  power_on : AtExponent C xs → AfterBase C (caret ∷ xs)
  power_on r = record { exponent = Some r.digits; more = r.more; is = ap (λ l. caret ∷ l) r.is; rest = r.rest }

  no_power : AfterFactor C xs → AfterBase C xs
  no_power r = record { exponent = None; more = xs; is = refl; rest = r }

  -- a POLY may end here
  ends_here : C xs → AfterFactor C xs
  ends_here r = record { fs = alone; ts = last; more = xs; is = refl; rest = r }

group_on : (o : Pending) (outer : List Pending) (xs : List Lexeme) → AtStart (Closes (o ∷ outer)) xs → AtOperand (Closes outer) (opened ∷ xs)
group_on o outer xs r =
    let e : opened ∷ xs ≡ atom_spelling (group r.p) ++ r.rest.0 = ap (λ l. opened ∷ l) (r.is ∙ ap (λ l. spelling r.p ++ l) r.rest.1 ∙ sym (append_assoc (spelling r.p) (closed ∷ []) r.rest.0)) in
    subst (λ l. AtOperand (Closes outer) l) (sym e) (to_operand (Closes outer) r.rest.0 (group r.p) r.rest.2)

abbrev state : Phase → Pending → List Pending → List PolyStep → ParserState
state phase pending outer done = record { phase = phase; pending = pending; outer = outer; done = done }

refused : {A : Type 0} {x : List PolyStep} → None ≡ Some x → A
refused h = absurd cc

is_spelled : (xs : List Lexeme) (phase : Phase) (pending : Pending) (outer : List Pending) (done found : List PolyStep) → outcome xs (state phase pending outer done) ≡ Some found → RestAt phase (Closes outer) xs
is_spelled [] phases.Base pending [] done found h = no_power _ _ (ends_here _ _ refl)
is_spelled [] phases.Factor pending [] done found h = ends_here _ _ refl
is_spelled [] phases.Base pending (o ∷ outer) done found h = refused h
is_spelled [] phases.Factor pending (o ∷ outer) done found h = refused h
is_spelled [] phases.Start pending outer done found h = refused h
is_spelled [] phases.Operand pending outer done found h = refused h
is_spelled [] phases.Exponent pending outer done found h = refused h
is_spelled (plus ∷ xs) phases.Start pending outer done found h = to_start _ xs positive (is_spelled xs phases.Operand _ outer _ found h)
is_spelled (minus ∷ xs) phases.Start pending outer done found h = to_start _ xs negative (is_spelled xs phases.Operand _ outer _ found h)
is_spelled (number digits ∷ xs) phases.Start pending outer done found h = to_start _ _ bare (to_operand _ xs (numeral digits) (is_spelled xs phases.Base _ outer _ found h))
is_spelled (name text ∷ xs) phases.Start pending outer done found h = to_start _ _ bare (to_operand _ xs (letter text) (is_spelled xs phases.Base _ outer _ found h))
is_spelled (opened ∷ xs) phases.Start pending outer done found h = to_start _ _ bare (group_on pending outer xs (is_spelled xs phases.Start _ (pending ∷ outer) _ found h))
is_spelled (_ ∷ xs) phases.Start pending outer done found h = refused h
is_spelled (number digits ∷ xs) phases.Operand pending outer done found h = to_operand _ xs (numeral digits) (is_spelled xs phases.Base _ outer _ found h)
is_spelled (name text ∷ xs) phases.Operand pending outer done found h = to_operand _ xs (letter text) (is_spelled xs phases.Base _ outer _ found h)
is_spelled (opened ∷ xs) phases.Operand pending outer done found h = group_on pending outer xs (is_spelled xs phases.Start _ (pending ∷ outer) _ found h)
is_spelled (_ ∷ xs) phases.Operand pending outer done found h = refused h
is_spelled (number digits ∷ xs) phases.Exponent pending outer done found h = record { digits = digits; more = xs; is = refl; rest = is_spelled xs phases.Factor _ outer _ found h }
is_spelled (_ ∷ xs) phases.Exponent pending outer done found h = refused h
is_spelled (star ∷ xs) phases.Factor pending outer done found h = star_on _ xs (is_spelled xs phases.Operand _ outer _ found h)
is_spelled (plus ∷ xs) phases.Factor pending outer done found h = plus_on _ xs (is_spelled xs phases.Operand _ outer _ found h)
is_spelled (minus ∷ xs) phases.Factor pending outer done found h = minus_on _ xs (is_spelled xs phases.Operand _ outer _ found h)
is_spelled (closed ∷ xs) phases.Factor pending [] done found h = refused h
is_spelled (closed ∷ xs) phases.Factor pending (o ∷ outer) done found h = ends_here _ _ (xs, refl, is_spelled xs phases.Base _ outer _ found h)
is_spelled (_ ∷ xs) phases.Factor pending outer done found h = refused h
is_spelled (caret ∷ xs) phases.Base pending outer done found h = power_on _ xs (is_spelled xs phases.Exponent _ outer _ found h)
is_spelled (star ∷ xs) phases.Base pending outer done found h = no_power _ _ (star_on _ xs (is_spelled xs phases.Operand _ outer _ found h))
is_spelled (plus ∷ xs) phases.Base pending outer done found h = no_power _ _ (plus_on _ xs (is_spelled xs phases.Operand _ outer _ found h))
is_spelled (minus ∷ xs) phases.Base pending outer done found h = no_power _ _ (minus_on _ xs (is_spelled xs phases.Operand _ outer _ found h))
is_spelled (closed ∷ xs) phases.Base pending [] done found h = refused h
is_spelled (closed ∷ xs) phases.Base pending (o ∷ outer) done found h = no_power _ _ (ends_here _ _ (xs, refl, is_spelled xs phases.Base _ outer _ found h))
is_spelled (_ ∷ xs) phases.Base pending outer done found h = refused h

-- what is read is the spelling of a tree
pub read_is_spelled : (xs : List Lexeme) (found : List PolyStep) → outcome xs start_state ≡ Some found → (p : Poly) × (xs ≡ spelling p)
read_is_spelled xs found h =
    let r = is_spelled xs phases.Start _ [] [] found h in
    (r.p, r.is ∙ ap (λ l. spelling r.p ++ l) r.rest ∙ append-nil (spelling r.p))
