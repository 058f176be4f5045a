-- Lists of POLYs: commas and brackets stand in none
use Rattle.std.proofs.Common.{◌≡◌, ◌==◌, Bool, true, ℕ, ◌+◌, inl, inr, List, [], ◌∷◌, ◌++◌, map, take, drop, length, Result, Ok, Err, Vec, Global, refl, sym, ap, ap₂, subst, ◌∙◌, arith, append_assoc}
use Rattle.std.proofs.lemmas.List.{map-append, same_from_push}
use Rattle.std.proofs.lemmas.Bool.{eqb-true}
use Rattle.std.specs.List.{AllByRecursion}
use Rattle.script_tokens.specs.declared.token.Token.{Token}
use Rattle.script_tokens.specs.declared.token.TokenKind.{TokenKind}
use Rattle.script_tokens.specs.declared.token.TokenKind.TheVariants as kinds
use Rattle.poly_grammar.specs.Lexemes.{Lexeme, caret, close_bracket, closed, comma, equals, lexeme, lexeme_as, minus, name, number, open_bracket, opened, plus, star}
use Rattle.poly_grammar.specs.Steps.{steps}
use Rattle.poly_grammar.specs.Trees.{Atom, Factor, Factors, Lead, Poly, Reads, TermTree, Terms, alone, atom_spelling, bare, factor_spelling, factors_spelling, group, last, lead, letter, minus_term, negative, numeral, plain, plus_term, poly, positive, power, spelling, term, term_spelling, terms_spelling, times}
use Rattle.poly_grammar.specs.declared.step.PolyStep.{PolyStep}
use Rattle.poly_grammar.specs.declared.stop.ReadStop.{ReadStop}
use Rattle.poly_grammar.specs.declared.stop.ReadStop.TheVariants.{Memory, Syntax}
use Rattle.poly_grammar.proofs.Unique.{one_tree}
use Rattle.script_forms.specs.Forms.{AreReadAs, HasNoComma, IsAtComma, IsNoComma, IsPolynomialPut}
use Rattle.script_forms.specs.Written.{AreVectorEntries, ArePolys, IsOnePoly}

pub all_append : {X : Type 0} (P : X → Type 0) (xs ys : List X) → AllByRecursion P xs → AllByRecursion P ys → AllByRecursion P (xs ++ ys)
all_append P [] ys h k = k
all_append P (x ∷ xs) ys h k = (h.0, all_append P xs ys h.1 k)

-- what holds of names, numbers and the signs of POLYs holds of each lexeme of a POLY
module _ (P : Lexeme → Type 0) (of_name : (t : Token) → P (name t)) (of_number : (t : Token) → P (number t)) (of_plus : P plus) (of_minus : P minus) (of_star : P star) (of_caret : P caret) (of_opened : P opened) (of_closed : P closed) where
  all_lead : (sign : Lead) → AllByRecursion P (lead sign)
  all_lead bare = tt
  all_lead positive = (of_plus, tt)
  all_lead negative = (of_minus, tt)

  mutual
    all_poly : (p : Poly) → AllByRecursion P (spelling p)
    all_poly (poly sign t ts) = all_append P (lead sign ++ term_spelling t) (terms_spelling ts) (all_append P (lead sign) (term_spelling t) (all_lead sign) (all_term t)) (all_terms ts)

    all_terms : (ts : Terms) → AllByRecursion P (terms_spelling ts)
    all_terms last = tt
    all_terms (plus_term t ts) = (of_plus, all_append P (term_spelling t) (terms_spelling ts) (all_term t) (all_terms ts))
    all_terms (minus_term t ts) = (of_minus, all_append P (term_spelling t) (terms_spelling ts) (all_term t) (all_terms ts))

    all_term : (t : TermTree) → AllByRecursion P (term_spelling t)
    all_term (term f fs) = all_append P (factor_spelling f) (factors_spelling fs) (all_factor f) (all_factors fs)

    all_factors : (fs : Factors) → AllByRecursion P (factors_spelling fs)
    all_factors alone = tt
    all_factors (times f fs) = (of_star, all_append P (factor_spelling f) (factors_spelling fs) (all_factor f) (all_factors fs))

    all_factor : (f : Factor) → AllByRecursion P (factor_spelling f)
    all_factor (plain a) = all_atom a
    all_factor (power a exponent) = all_append P (atom_spelling a) (caret ∷ number exponent ∷ []) (all_atom a) (of_caret, (of_number exponent, tt))

    all_atom : (a : Atom) → AllByRecursion P (atom_spelling a)
    all_atom (numeral token) = (of_number token, tt)
    all_atom (letter token) = (of_name token, tt)
    all_atom (group p) = (of_opened, all_append P (spelling p) (closed ∷ []) (all_poly p) (of_closed, tt))

no_comma : (xs : List Lexeme) (p : Poly) → Reads xs p → HasNoComma xs
no_comma xs p r = subst HasNoComma (sym r.spelled) (all_poly IsNoComma (λ t. tt) (λ t. tt) tt tt tt tt tt tt p)

abbrev IsNoBracket : Lexeme → Type 0
IsNoBracket open_bracket = ⊥
IsNoBracket _ = Unit {0}

no_bracket : (xs : List Lexeme) (p : Poly) → Reads xs p → AllByRecursion IsNoBracket xs
no_bracket xs p r = subst (λ l. AllByRecursion IsNoBracket l) (sym r.spelled) (all_poly IsNoBracket (λ t. tt) (λ t. tt) tt tt tt tt tt tt p)

-- a first comma cuts in one way
same_cut : (a b c d : List Lexeme) → HasNoComma a → HasNoComma b → a ++ comma ∷ c ≡ b ++ comma ∷ d → (a ≡ b) × (c ≡ d)
same_cut [] [] c d h k e = (refl, cc)
same_cut [] (y ∷ b) c d h k e = let same : y ≡ comma = cc in absurd (subst IsNoComma same k.0)
same_cut (x ∷ a) [] c d h k e = let same : x ≡ comma = cc in absurd (subst IsNoComma same h.0)
same_cut (x ∷ a) (y ∷ b) c d h k e =
    let heads : x ≡ y = cc in
    let tails : a ++ comma ∷ c ≡ b ++ comma ∷ d = cc in
    let r = same_cut a b c d h.1 k.1 tails in
    (ap₂ (λ z l. z ∷ l) heads r.0, r.1)

not_uncut : (a b : List Lexeme) → HasNoComma (a ++ comma ∷ b) → ⊥
not_uncut [] b h = h.0
not_uncut (x ∷ a) b h = not_uncut a b h.1

one_poly : (xs : List Lexeme) (p q : Poly) → Reads xs p → Reads xs q → p ≡ q
one_poly xs p q h k = one_tree p q (sym h.spelled ∙ k.spelled)

-- lexemes without a comma are one POLY or none
uncut : (xs : List Lexeme) (ps : List Poly) → HasNoComma xs → ArePolys xs ps → IsOnePoly xs ps
uncut xs [] h k = absurd k
uncut xs (p ∷ []) h k = (p, refl, k)
uncut xs (p ∷ q ∷ ps) h k = absurd (not_uncut k.0 k.1 (subst HasNoComma k.2 h))

-- before a first comma stands the first POLY, and behind it the others
record Cut (front behind : List Lexeme) (ps : List Poly) : Type 0 where
  pub first : Poly
  pub others : List Poly
  pub are : ps ≡ first ∷ others
  pub reads : Reads front first
  pub rest : ArePolys behind others

cut : (xs front behind : List Lexeme) (ps : List Poly) → xs ≡ front ++ comma ∷ behind → HasNoComma front → ArePolys xs ps → Cut front behind ps
cut xs front behind [] e h k = absurd k
cut xs front behind (p ∷ []) e h k = absurd (not_uncut front behind (subst HasNoComma e (no_comma xs p k)))
cut xs front behind (p ∷ q ∷ ps) e h k =
    let s = same_cut k.0 front k.1 behind (no_comma k.0 p k.3) h (sym k.2 ∙ e) in
    record { first = p; others = q ∷ ps; are = refl; reads = subst (λ l. Reads l p) s.0 k.3; rest = subst (λ l. ArePolys l (q ∷ ps)) s.1 k.4 }

put_before : (xs front behind : List Lexeme) (p : Poly) (ps : List Poly) → xs ≡ front ++ comma ∷ behind → Reads front p → ArePolys behind ps → ArePolys xs (p ∷ ps)
put_before xs front behind p [] e r k = absurd k
put_before xs front behind p (q ∷ ps) e r k = (front, behind, e, r, k)

-- lexemes are POLYs in one way
pub one_list : (xs : List Lexeme) (ps qs : List Poly) → ArePolys xs ps → ArePolys xs qs → ps ≡ qs
one_list xs [] qs h k = absurd h
one_list xs (p ∷ []) qs h k =
    let o = uncut xs qs (no_comma xs p h) k in
    ap (λ x. x ∷ []) (one_poly xs p o.0 h o.2) ∙ sym o.1
one_list xs (p ∷ q ∷ ps) qs h k =
    let c = cut xs h.0 h.1 qs h.2 (no_comma h.0 p h.3) k in
    ap₂ (λ x l. x ∷ l) (one_poly h.0 p c.first h.3 c.reads) (one_list h.1 (q ∷ ps) c.others h.4 c.rest) ∙ sym c.are

not_in_brackets : (xs inside : List Lexeme) (p : Poly) → Reads xs p → xs ≡ open_bracket ∷ inside → ⊥
not_in_brackets xs inside p r e = let h = subst (λ l. AllByRecursion IsNoBracket l) e (no_bracket xs p r) in h.0

-- and a VEC in one way
pub one_vector : (xs : List Lexeme) (ps qs : List Poly) → AreVectorEntries xs ps → AreVectorEntries xs qs → ps ≡ qs
one_vector xs ps qs (inl h) (inl k) = h.1 ∙ ap (λ p. p ∷ []) (one_poly xs h.0 k.0 h.2 k.2) ∙ sym k.1
one_vector xs ps qs (inl h) (inr k) = absurd (not_in_brackets xs (k.0 ++ close_bracket ∷ []) h.0 h.2 k.1)
one_vector xs ps qs (inr h) (inl k) = absurd (not_in_brackets xs (h.0 ++ close_bracket ∷ []) k.0 k.2 h.1)
one_vector xs ps qs (inr h) (inr k) =
    let e : open_bracket ∷ (h.0 ++ close_bracket ∷ []) ≡ open_bracket ∷ (k.0 ++ close_bracket ∷ []) = sym h.1 ∙ k.1 in
    let t : h.0 ++ close_bracket ∷ [] ≡ k.0 ++ close_bracket ∷ [] = cc in
    let s = same_from_push h.0 k.0 close_bracket close_bracket t in
    one_list h.0 ps qs h.2 (subst (λ l. ArePolys l qs) (sym s.0) k.2)

-- of the tokens, these POLYs are read, and the rest is to be read
pub record IsReading (tokens rest : List Token) (found : List (Vec PolyStep Global)) : Type 0 where
  pub done : List Poly
  pub steps_are : map (λ v. v.items) found ≡ map steps done
  pub joins : (more : List Poly) → ArePolys (map lexeme rest) more → ArePolys (map lexeme tokens) (done ++ more)
  pub splits : (all : List Poly) → ArePolys (map lexeme tokens) all → (more : List Poly) × (all ≡ done ++ more) × ArePolys (map lexeme rest) more

pushed_steps : (old new : List (Vec PolyStep Global)) (done : List Poly) (p : Poly) → map (λ v. v.items) old ≡ map steps done → map (λ v. v.items) new ≡ map (λ v. v.items) old ++ steps p ∷ []
    → map (λ v. v.items) new ≡ map steps (done ++ p ∷ [])
pushed_steps old new done p e is = is ∙ ap (λ l. l ++ steps p ∷ []) e ∙ sym (map-append steps done (p ∷ []))

-- the tokens before and behind the first comma
pub cut_here :
    (rest piece behind after : List Token) (f : Token) (at : ℕ) → IsAtComma rest at → piece ≡ take at rest → behind ≡ drop at rest → rest ≡ piece ++ behind → behind ≡ f ∷ after
    → (map lexeme rest ≡ map lexeme piece ++ comma ∷ map lexeme after) × HasNoComma (map lexeme piece)
cut_here rest piece behind after f at is front back whole split =
    let both : lexeme f ∷ map lexeme after ≡ comma ∷ map lexeme (drop (at + 1) rest) = ap (λ l. map lexeme l) (sym split ∙ back) ∙ is.cut in
    let sign : lexeme f ≡ comma = cc in
    let tail : map lexeme behind ≡ comma ∷ map lexeme after = ap (λ l. map lexeme l) split ∙ ap (λ x. x ∷ map lexeme after) sign in
    (ap (λ l. map lexeme l) whole ∙ map-append lexeme piece behind ∙ ap (λ l. map lexeme piece ++ l) tail, subst (λ l. HasNoComma (map lexeme l)) (sym front) is.before)

-- the tokens before the first comma are a POLY
pub reading_goes :
    (tokens rest piece after : List Token) (old new : List (Vec PolyStep Global))
    → map lexeme rest ≡ map lexeme piece ++ comma ∷ map lexeme after → HasNoComma (map lexeme piece)
    → IsReading tokens rest old → IsPolynomialPut (map lexeme piece) old new (Ok tt) → IsReading tokens after new
reading_goes tokens rest piece after old new e none h p = record {
  done = h.done ++ p.0 ∷ [];
  steps_are = pushed_steps old new h.done p.0 h.steps_are p.2;
  joins = λ more k. subst (λ l. ArePolys (map lexeme tokens) l) (sym (append_assoc h.done (p.0 ∷ []) more)) (h.joins (p.0 ∷ more) (put_before (map lexeme rest) (map lexeme piece) (map lexeme after) p.0 more e p.1 k));
  splits = λ all k.
      let s = h.splits all k in
      let c = cut (map lexeme rest) (map lexeme piece) (map lexeme after) s.0 e none s.2 in
      let same : c.first ≡ p.0 = one_poly (map lexeme piece) c.first p.0 c.reads p.1 in
      (c.others, s.1 ∙ ap (λ l. h.done ++ l) (c.are ∙ ap (λ x. x ∷ c.others) same) ∙ sym (append_assoc h.done (p.0 ∷ []) c.others), c.rest);
}

-- or the tokens are none, where it is none
pub reading_fails :
    (tokens rest piece after : List Token) (old new : List (Vec PolyStep Global)) (stop : ReadStop)
    → map lexeme rest ≡ map lexeme piece ++ comma ∷ map lexeme after → HasNoComma (map lexeme piece)
    → IsReading tokens rest old → IsPolynomialPut (map lexeme piece) old new (Err stop) → AreReadAs (ArePolys (map lexeme tokens)) (Err stop)
reading_fails tokens rest piece after old new Memory e none h p = tt
reading_fails tokens rest piece after old new Syntax e none h p = λ all k.
    let s = h.splits all k in
    let c = cut (map lexeme rest) (map lexeme piece) (map lexeme after) s.0 e none s.2 in
    p c.first c.reads

-- the same with the last POLY
pub reading_ends :
    (tokens rest : List Token) (old : List (Vec PolyStep Global)) (new : Vec (Vec PolyStep Global) Global)
    → HasNoComma (map lexeme rest) → IsReading tokens rest old → IsPolynomialPut (map lexeme rest) old new.items (Ok tt) → AreReadAs (ArePolys (map lexeme tokens)) (Ok new)
reading_ends tokens rest old new none h p = (h.done ++ p.0 ∷ [], h.joins (p.0 ∷ []) p.1, pushed_steps old new.items h.done p.0 h.steps_are p.2)

pub reading_ends_not :
    (tokens rest : List Token) (old new : List (Vec PolyStep Global)) (stop : ReadStop)
    → HasNoComma (map lexeme rest) → IsReading tokens rest old → IsPolynomialPut (map lexeme rest) old new (Err stop) → AreReadAs (ArePolys (map lexeme tokens)) (Err stop)
reading_ends_not tokens rest old new Memory none h p = tt
reading_ends_not tokens rest old new Syntax none h p = λ all k.
    let s = h.splits all k in
    let o = uncut (map lexeme rest) s.0 none s.2 in
    p o.0 o.2

-- one POLY
pub pushed_one : (xs : List Lexeme) (new : Vec (Vec PolyStep Global) Global) → IsPolynomialPut xs [] new.items (Ok tt) → AreReadAs (IsOnePoly xs) (Ok new)
pushed_one xs new p = (p.0 ∷ [], (p.0, refl, p.1), p.2)

-- a VEC that begins with no bracket, and one that does
bare_only : (x : Lexeme) (xs : List Lexeme) (ps : List Poly) → (x ≡ open_bracket → ⊥) → AreVectorEntries (x ∷ xs) ps → IsOnePoly (x ∷ xs) ps
bare_only x xs ps none (inl h) = h
bare_only x xs ps none (inr h) = let e = h.1 in let same : x ≡ open_bracket = cc in absurd (none same)

pub bare_entries : (xs rest : List Lexeme) (x : Lexeme) (result : Result (Vec (Vec PolyStep Global) Global) ReadStop) → xs ≡ x ∷ rest → (x ≡ open_bracket → ⊥) → AreReadAs (IsOnePoly xs) result → AreReadAs (AreVectorEntries xs) result
bare_entries xs rest x (Ok found) e none h = (h.0, inl h.1, h.2)
bare_entries xs rest x (Err Memory) e none h = tt
bare_entries xs rest x (Err Syntax) e none h = λ ps k. h ps (subst (λ l. IsOnePoly l ps) (sym e) (bare_only x rest ps none (subst (λ l. AreVectorEntries l ps) e k)))

brackets_only : (xs inside : List Lexeme) (y : Lexeme) (ps : List Poly) → xs ≡ open_bracket ∷ (inside ++ y ∷ []) → AreVectorEntries xs ps → (y ≡ close_bracket) × ArePolys inside ps
brackets_only xs inside y ps e (inl h) = absurd (not_in_brackets xs (inside ++ y ∷ []) h.0 h.2 e)
brackets_only xs inside y ps e (inr h) =
    let f : open_bracket ∷ (inside ++ y ∷ []) ≡ open_bracket ∷ (h.0 ++ close_bracket ∷ []) = sym e ∙ h.1 in
    let t : inside ++ y ∷ [] ≡ h.0 ++ close_bracket ∷ [] = cc in
    let s = same_from_push inside h.0 y close_bracket t in
    (s.1, subst (λ l. ArePolys l ps) (sym s.0) h.2)

pub bracket_entries : (xs inside : List Lexeme) (result : Result (Vec (Vec PolyStep Global) Global) ReadStop) → xs ≡ open_bracket ∷ (inside ++ close_bracket ∷ []) → AreReadAs (ArePolys inside) result → AreReadAs (AreVectorEntries xs) result
bracket_entries xs inside (Ok found) e h = (h.0, inr (inside, e, h.1), h.2)
bracket_entries xs inside (Err Memory) e h = tt
bracket_entries xs inside (Err Syntax) e h = λ ps k. h ps (brackets_only xs inside close_bracket ps e k).1

pub bracket_open : (xs inside : List Lexeme) (y : Lexeme) → xs ≡ open_bracket ∷ (inside ++ y ∷ []) → (y ≡ close_bracket → ⊥) → (ps : List Poly) → AreVectorEntries xs ps → ⊥
bracket_open xs inside y e none ps k = none (brackets_only xs inside y ps e k).0

alone_not : (inside : List Lexeme) → [] ≡ inside ++ close_bracket ∷ [] → ⊥
alone_not [] e = cc
alone_not (x ∷ inside) e = cc

pub bracket_alone : (xs : List Lexeme) → xs ≡ open_bracket ∷ [] → (ps : List Poly) → AreVectorEntries xs ps → ⊥
bracket_alone xs e ps (inl h) = not_in_brackets xs [] h.0 h.2 e
bracket_alone xs e ps (inr h) =
    let f : open_bracket ∷ [] ≡ open_bracket ∷ (h.0 ++ close_bracket ∷ []) = sym e ∙ h.1 in
    let t : [] ≡ h.0 ++ close_bracket ∷ [] = cc in
    alone_not h.0 t

spelled_not : (p : Poly) → Reads [] p → ⊥
spelled_not p r = not_empty p r.spelled
  where
    factor_not : (f : Factor) (xs : List Lexeme) → [] ≡ factor_spelling f ++ xs → ⊥
    factor_not (plain (numeral token)) xs e = cc
    factor_not (plain (letter token)) xs e = cc
    factor_not (plain (group q)) xs e = cc
    factor_not (power (numeral token) exponent) xs e = cc
    factor_not (power (letter token) exponent) xs e = cc
    factor_not (power (group q) exponent) xs e = cc

    not_empty : (p : Poly) → [] ≡ spelling p → ⊥
    not_empty (poly positive t ts) e = cc
    not_empty (poly negative t ts) e = cc
    not_empty (poly bare (term f fs) ts) e = factor_not f (factors_spelling fs ++ terms_spelling ts) (e ∙ append_assoc (factor_spelling f) (factors_spelling fs) (terms_spelling ts))

-- no lexemes are no VEC
pub no_entries : (ps : List Poly) → AreVectorEntries [] ps → ⊥
no_entries ps (inl h) = spelled_not h.0 h.2
no_entries ps (inr h) = let e = h.1 in cc

pub nil_of : {X : Type 0} (xs : List X) → length xs ≡ 0 → xs ≡ []
nil_of [] e = refl
nil_of (x ∷ xs) e = absurd (omega (arith, e))

-- the lexemes of signs
pub bracket_kind : (k : TokenKind) (t : Token) → lexeme_as k t ≡ open_bracket → k ≡ kinds.OpenBracket
bracket_kind kinds.OpenBracket t e = refl
bracket_kind _ t e = absurd cc

pub closing_kind : (k : TokenKind) (t : Token) → lexeme_as k t ≡ close_bracket → k ≡ kinds.CloseBracket
closing_kind kinds.CloseBracket t e = refl
closing_kind _ t e = absurd cc

-- tokens between brackets
pub in_brackets : (ts behind inside : List Token) (first end : Token) → ts ≡ first ∷ behind → behind ≡ inside ++ end ∷ [] → first.kind ≡ kinds.OpenBracket
    → map lexeme ts ≡ open_bracket ∷ (map lexeme inside ++ lexeme end ∷ [])
in_brackets ts behind inside first end e f kind =
    let head : lexeme first ≡ open_bracket = rw kind refl in
    ap (λ l. map lexeme l) e ∙ ap₂ (λ x l. x ∷ l) head (ap (λ l. map lexeme l) f ∙ map-append lexeme inside (end ∷ []))

pub bracket_one : (ts behind : List Token) (first : Token) → ts ≡ first ∷ behind → length behind ≡ 0 → first.kind ≡ kinds.OpenBracket → map lexeme ts ≡ open_bracket ∷ []
bracket_one ts behind first e f kind =
    let head : lexeme first ≡ open_bracket = rw kind refl in
    ap (λ l. map lexeme l) e ∙ ap₂ (λ x l. x ∷ l) head (ap (λ l. map lexeme l) (nil_of behind f))

pub closing_last : (end : Token) → end.kind ≡ kinds.CloseBracket → lexeme end ≡ close_bracket
closing_last end kind = rw kind refl

pub equals_first : (ts rest : List Token) (sign : Token) → ts ≡ sign ∷ rest → sign.kind ≡ kinds.Equals → map lexeme ts ≡ equals ∷ map lexeme rest
equals_first ts rest sign e kind =
    let head : lexeme sign ≡ equals = rw kind refl in
    ap (λ l. map lexeme l) e ∙ ap (λ x. x ∷ map lexeme rest) head

pub none_more : {X : Type 0} (xs : List X) (r : Bool) → r ≡ (length xs == 0) → r ≡ true → xs ≡ []
none_more [] r e f = refl
none_more (x ∷ xs) r e f = let n : length (x ∷ xs) ≡ 0 = eqb-true (length (x ∷ xs)) 0 (sym e ∙ f) in absurd (omega (arith, n))

pub none_left : (ts : List Token) (r : Bool) → r ≡ (length ts == 0) → r ≡ true → map lexeme ts ≡ []
none_left ts r e f = ap (map lexeme) (none_more ts r e f)

pub named : (k : TokenKind) (t : Token) → k ≡ kinds.Name → lexeme_as k t ≡ name t
named k t e = rw e refl

pub name_is : (k : TokenKind) (t m : Token) → lexeme_as k t ≡ name m → (k ≡ kinds.Name) × (t ≡ m)
name_is kinds.Name t m e = (refl, cc)
name_is _ t m e = absurd cc

-- what holds of names, numbers and the signs of POLYs holds of each lexeme that is read as a POLY
pub reads_pass :
    (P : Lexeme → Type 0) → ((t : Token) → P (name t)) → ((t : Token) → P (number t)) → P plus → P minus → P star → P caret → P opened → P closed
    → (xs : List Lexeme) (p : Poly) → Reads xs p → AllByRecursion P xs
reads_pass P of_name of_number of_plus of_minus of_star of_caret of_opened of_closed xs p r =
    subst (λ l. AllByRecursion P l) (sym r.spelled) (all_poly P of_name of_number of_plus of_minus of_star of_caret of_opened of_closed p)
