-- A POLY that is expressed by others: no NAME stands directly behind an atom of a POLY
use Rattle.std.proofs.Common.{◌≡◌, Bool, true, false, ℕ, ◌+◌, ◌<◌, List, [], ◌∷◌, ◌++◌, get_or, length, map, take, drop, Some, None, Ok, Err, Vec, Global, refl, sym, ap, subst, ◌∙◌}
use Rattle.std.proofs.lemmas.List.{drop_more, map-append}
use Rattle.std.specs.Prelude.{codes}
use Rattle.script_tokens.specs.declared.token.Token.{Token}
use Rattle.script_tokens.specs.declared.token.TokenKind.TheVariants as kinds
use Rattle.poly_grammar.specs.Lexemes.{Lexeme, caret, closed, lexeme, minus, name, number, plus}
use Rattle.poly_grammar.specs.Numerals.{text_of}
use Rattle.poly_grammar.specs.Steps.{steps}
use Rattle.poly_grammar.specs.Trees.{Atom, Factor, Factors, Poly, Reads, TermTree, Terms, alone, atom_spelling, bare, factor_spelling, factors_spelling, group, last, letter, minus_term, negative, numeral, plain, plus_term, poly, positive, power, spelling, term, term_spelling, terms_spelling, times}
use Rattle.poly_grammar.specs.declared.step.PolyStep.{PolyStep}
use Rattle.poly_grammar.specs.declared.stop.ReadStop.{ReadStop}
use Rattle.poly_grammar.specs.declared.stop.ReadStop.TheVariants.{Memory, Syntax}
use Rattle.poly_grammar.proofs.Unique.{one_tree}
use Rattle.script_forms.specs.Forms.{AreExpressed, AreReadAs, IsBehindAtom, ended_behind, ends_atom}
use Rattle.script_forms.specs.Written.{ArePolys, IsExpressLine, IsOnePoly}
use Rattle.script_forms.proofs.Pieces.{name_is, named, one_list}
use Rattle.script_forms.proofs.States.{same_stop, state_joins, state_stops}

-- from no atom to one, over two parts
joins : (b : Bool) (xs ys : List Lexeme) → ended_behind b xs ≡ Some true → ended_behind true ys ≡ Some true → ended_behind b (xs ++ ys) ≡ Some true
joins b xs ys h k = state_joins ends_atom b true true xs ys h k

-- a POLY and its parts end with an atom
mutual
  poly_ends : (p : Poly) → ended_behind false (spelling p) ≡ Some true
  poly_ends (poly bare t ts) = joins false (term_spelling t) (terms_spelling ts) (term_ends t) (terms_end ts)
  poly_ends (poly positive t ts) = joins false (plus ∷ term_spelling t) (terms_spelling ts) (term_ends t) (terms_end ts)
  poly_ends (poly negative t ts) = joins false (minus ∷ term_spelling t) (terms_spelling ts) (term_ends t) (terms_end ts)

  terms_end : (ts : Terms) → ended_behind true (terms_spelling ts) ≡ Some true
  terms_end last = refl
  terms_end (plus_term t ts) = joins false (term_spelling t) (terms_spelling ts) (term_ends t) (terms_end ts)
  terms_end (minus_term t ts) = joins false (term_spelling t) (terms_spelling ts) (term_ends t) (terms_end ts)

  term_ends : (t : TermTree) → ended_behind false (term_spelling t) ≡ Some true
  term_ends (term f fs) = joins false (factor_spelling f) (factors_spelling fs) (factor_ends f) (factors_end fs)

  factors_end : (fs : Factors) → ended_behind true (factors_spelling fs) ≡ Some true
  factors_end alone = refl
  factors_end (times f fs) = joins false (factor_spelling f) (factors_spelling fs) (factor_ends f) (factors_end fs)

  factor_ends : (f : Factor) → ended_behind false (factor_spelling f) ≡ Some true
  factor_ends (plain a) = atom_ends a
  factor_ends (power a exponent) = joins false (atom_spelling a) (caret ∷ number exponent ∷ []) (atom_ends a) refl

  atom_ends : (a : Atom) → ended_behind false (atom_spelling a) ≡ Some true
  atom_ends (numeral token) = refl
  atom_ends (letter token) = refl
  atom_ends (group p) = joins false (spelling p) (closed ∷ []) (poly_ends p) refl

reads_end : (xs : List Lexeme) (p : Poly) → Reads xs p → ended_behind false xs ≡ Some true
reads_end xs p r = subst (λ l. ended_behind false l ≡ Some true) (sym r.spelled) (poly_ends p)

-- a NAME has no place directly behind an atom, and nothing else has none
name_only : (b : Bool) (x : Lexeme) → ends_atom b x ≡ None → (t : Token) × (b ≡ true) × (x ≡ name t)
name_only true (name t) e = (t, refl, refl)
name_only true _ e = absurd cc
name_only false (name t) e = absurd cc
name_only false _ e = absurd cc

pub place_found :
    (tokens : List Token) (at : ℕ) (d : Token) (atom : Bool) → at < length tokens → ended_behind false (map lexeme (take at tokens)) ≡ Some atom
    → ends_atom atom (lexeme (get_or tokens at d)) ≡ None → IsBehindAtom tokens at
place_found tokens at d atom lt h none =
    let n = name_only atom (lexeme (get_or tokens at d)) none in
    record { before = h ∙ ap Some n.1; word = n.0; cut = ap (map lexeme) (drop_more tokens at d lt) ∙ ap (λ x. x ∷ map lexeme (drop (at + 1) tokens)) n.2 }

-- the lexemes, cut at the first NAME directly behind an atom
pub record IsCut (xs front rest : List Lexeme) (word : Token) : Type 0 where
  pub spelled : xs ≡ front ++ name word ∷ rest
  pub before : ended_behind false front ≡ Some true

-- the tokens before and behind it
pub cut_at :
    (tokens front behind rest : List Token) (word : Token) (at : ℕ) → IsBehindAtom tokens at → front ≡ take at tokens → behind ≡ drop at tokens → tokens ≡ front ++ behind → behind ≡ word ∷ rest
    → (word.kind ≡ kinds.Name) × IsCut (map lexeme tokens) (map lexeme front) (map lexeme rest) word
cut_at tokens front behind rest word at is before back whole split =
    let both : lexeme word ∷ map lexeme rest ≡ name is.word ∷ map lexeme (drop (at + 1) tokens) = ap (λ l. map lexeme l) (sym split ∙ back) ∙ is.cut in
    let sign : lexeme word ≡ name is.word = cc (both) in
    let kind = (name_is word.kind word is.word sign).0 in (
      kind,
      record {
        spelled = ap (λ l. map lexeme l) whole ∙ map-append lexeme front behind ∙ ap (λ l. map lexeme front ++ l) (ap (λ l. map lexeme l) split ∙ ap (λ x. x ∷ map lexeme rest) (named word.kind word kind));
        before = ap (λ l. ended_behind false (map lexeme l)) before ∙ is.before;
      },
    )

-- what is written with `by` is cut there
pub record Splits (line : List ℕ) (front rest : List Lexeme) (word : Token) (p : Poly) (images : List Poly) : Type 0 where
  pub first : Reads front p
  pub text : text_of line word ≡ codes "by"
  pub others : ArePolys rest images

pub splits : (line : List ℕ) (xs front rest : List Lexeme) (word : Token) (p : Poly) (images : List Poly) → IsCut xs front rest word → IsExpressLine line xs p images → Splits line front rest word p images
splits line xs front rest word p images c e =
    let all : front ++ name word ∷ rest ≡ e.front ++ name e.word.0 ∷ e.rest = sym c.spelled ∙ e.spelled ∙ ap (λ l. e.front ++ l) e.word.2 in
    let s = same_stop ends_atom false true true front e.front rest e.rest (name word) (name e.word.0) c.before refl (reads_end e.front p e.first) refl all in
    let tokens : word ≡ e.word.0 = cc (s.1) in
    let tail : rest ≡ e.rest = cc (s.1) in
    record {
      first = subst (λ l. Reads l p) (sym s.0) e.first;
      text = ap (text_of line) tokens ∙ e.word.1;
      others = subst (λ l. ArePolys l images) (sym tail) e.others;
    }

-- lexemes are written so in one way
pub one_expression : (line : List ℕ) (xs : List Lexeme) (p q : Poly) (ps qs : List Poly) → IsExpressLine line xs p ps → IsExpressLine line xs q qs → (p ≡ q) × (ps ≡ qs)
one_expression line xs p q ps qs h k =
    let c : IsCut xs h.front h.rest h.word.0 = record { spelled = h.spelled ∙ ap (λ l. h.front ++ l) h.word.2; before = reads_end h.front p h.first } in
    let s = splits line xs h.front h.rest h.word.0 q qs c k in
    (one_tree p q (sym h.first.spelled ∙ s.first.spelled), one_list h.rest ps qs h.others s.others)

-- without such a NAME they are not written so
pub uncut : (line : List ℕ) (xs : List Lexeme) → ((atom : Bool) × (ended_behind false xs ≡ Some atom)) → (ps : List Poly) → AreExpressed line xs ps → ⊥
uncut line xs h [] k = k
uncut line xs h (p ∷ images) k =
    let whole : xs ≡ k.front ++ name k.word.0 ∷ k.rest = k.spelled ∙ ap (λ l. k.front ++ l) k.word.2 in
    let no : None ≡ Some h.0 = sym (state_stops ends_atom false true (name k.word.0) k.front k.rest (reads_end k.front p k.first) refl) ∙ sym (ap (ended_behind false) whole) ∙ h.1 in absurd cc

module _ (line : List ℕ) (xs front rest : List Lexeme) (word : Token) (c : IsCut xs front rest word) where
  -- nor where the NAME is another
  pub other_word : (text_of line word ≡ codes "by" → ⊥) → (ps : List Poly) → AreExpressed line xs ps → ⊥
  other_word other [] k = k
  other_word other (p ∷ images) k = other (splits line xs front rest word p images c k).text

  -- nor where no POLY stands before it, or no POLYs behind it
  pub no_first : (stop : ReadStop) → AreReadAs (IsOnePoly front) (Err stop) → AreReadAs (AreExpressed line xs) (Err stop)
  no_first Memory h = tt
  no_first Syntax h = go
    where
      go : (ps : List Poly) → AreExpressed line xs ps → ⊥
      go [] k = k
      go (p ∷ images) k = h (p ∷ []) (p, refl, (splits line xs front rest word p images c k).first)

  pub no_others : (stop : ReadStop) → AreReadAs (ArePolys rest) (Err stop) → AreReadAs (AreExpressed line xs) (Err stop)
  no_others Memory h = tt
  no_others Syntax h = go
    where
      go : (ps : List Poly) → AreExpressed line xs ps → ⊥
      go [] k = k
      go (p ∷ images) k = h images (splits line xs front rest word p images c k).others

  -- else they are
  pub expressed :
      (one others all : Vec (Vec PolyStep Global) Global) → text_of line word ≡ codes "by" → AreReadAs (IsOnePoly front) (Ok one) → AreReadAs (ArePolys rest) (Ok others)
      → all.items ≡ one.items ++ others.items → AreReadAs (AreExpressed line xs) (Ok all)
  expressed one others all text (ps, (p, e, reads), first_steps) (images, are, other_steps) is =
      let first : map (λ v. v.items) one.items ≡ steps p ∷ [] = first_steps ∙ ap (map steps) e in (
        p ∷ images,
        record { front = front; behind = name word ∷ rest; rest = rest; spelled = c.spelled; first = reads; word = (word, text, refl); others = are },
        ap (map (λ v. v.items)) is ∙ map-append (λ v. v.items) one.items others.items ∙ ap (λ l. l ++ map (λ v. v.items) others.items) first ∙ ap (λ l. steps p ∷ l) other_steps,
      )
