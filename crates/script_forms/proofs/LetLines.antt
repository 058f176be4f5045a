-- An operation's word and what stands behind it
use Rattle.std.proofs.Common.{◌≡◌, ℕ, List, [], ◌∷◌, map, cond, nat_eq, Option, Some, None, Vec, Global, Result, Ok, Err, refl, sym, ap, ap₂, subst, ◌∙◌}
use Rattle.std.specs.Prelude.{codes}
use Rattle.std.specs.Cmp.Lexicographic.{pointwise}
use Rattle.script_tokens.specs.declared.token.Token.{Token}
use Rattle.script_tokens.specs.declared.token.TokenKind.TheVariants as kinds
use Rattle.poly_grammar.specs.Lexemes.{Lexeme, lexeme, name, number}
use Rattle.poly_grammar.specs.Numerals.{text_of}
use Rattle.poly_grammar.specs.Steps.{steps}
use Rattle.poly_grammar.specs.Trees.{Reads}
use Rattle.poly_grammar.specs.declared.step.PolyStep.{PolyStep}
use Rattle.poly_grammar.specs.declared.stop.ReadStop.{ReadStop}
use Rattle.poly_grammar.specs.declared.stop.ReadStop.TheVariants.{Memory, Syntax}
use Rattle.poly_grammar.proofs.Unique.{one_tree}
use Rattle.script_forms.specs.Forms.{AreOperandsRead, AreReadAs, IsOperationRead}
use Rattle.script_forms.specs.Written.{AreOperands, ArePolys, IsOnePoly, IsOperation, OperationWord, WrittenOperation, elimination, elimination_word, of_polynomial, of_two, operation_text, operation_word, polynomial_word, preimage, preimage_word, syzygies, syzygies_word, two_word}
use Rattle.script_forms.specs.declared.operands.Binary.{Binary}
use Rattle.script_forms.specs.declared.operands.Binary.TheVariants.{Colon, Intersect, Product, Sum}
use Rattle.script_forms.specs.declared.operands.ByPolynomial.{ByPolynomial}
use Rattle.script_forms.specs.declared.operands.ByPolynomial.TheVariants.{Quotient, Saturate}
use Rattle.script_forms.specs.declared.operands.Operands.{Operands}
use Rattle.script_forms.specs.declared.operands.Operands.TheVariants as shapes
use Rattle.script_forms.proofs.Pieces.{name_is, named, one_list}

-- the word that a text is
abbrev said : List ℕ → List ℕ → OperationWord → Option OperationWord → Option OperationWord
said text word w other = cond (pointwise nat_eq text word) (Some w) other

abbrev word_named : List ℕ → Option OperationWord
word_named text =
    said text (codes "sum") (two_word Sum) (said text (codes "product") (two_word Product) (said text (codes "intersect") (two_word Intersect)
    (said text (codes "colon") (two_word Colon) (said text (codes "quotient") (polynomial_word Quotient) (said text (codes "saturate") (polynomial_word Saturate)
    (said text (codes "eliminate") elimination_word (said text (codes "syz") syzygies_word (said text (codes "preimage") preimage_word None))))))))

word_again : (w : OperationWord) → word_named (operation_text w) ≡ Some w
word_again (two_word Sum) = refl
word_again (two_word Product) = refl
word_again (two_word Intersect) = refl
word_again (two_word Colon) = refl
word_again (polynomial_word Quotient) = refl
word_again (polynomial_word Saturate) = refl
word_again elimination_word = refl
word_again syzygies_word = refl
word_again preimage_word = refl

-- no text is that of two words
one_word : (text : List ℕ) (a b : OperationWord) → text ≡ operation_text a → text ≡ operation_text b → a ≡ b
one_word text a b e f = let same : Some a ≡ Some b = sym (word_again a) ∙ ap word_named (sym e ∙ f) ∙ word_again b in cc

-- the word of an operation, and what stands behind it
pub record Begins (line : List ℕ) (t : Token) (behind : List Token) (operation : WrittenOperation) : Type 0 where
  pub text : text_of line t ≡ operation_text (operation_word operation)
  pub rest : AreOperands (map lexeme behind) operation

pub operation_begins : (line : List ℕ) (t : Token) (behind : List Token) (operation : WrittenOperation) → IsOperation line (map lexeme (t ∷ behind)) operation → Begins line t behind operation
operation_begins line t behind operation h =
    let head : lexeme t ≡ name h.1.0 = cc (h.1.2) in
    let tail : map lexeme behind ≡ h.0 = cc (h.1.2) in
    let is = name_is t.kind t h.1.0 head in
    record { text = ap (text_of line) is.1 ∙ h.1.1; rest = subst (λ l. AreOperands l operation) (sym tail) h.2 }

-- what is read behind a word is an operation with it
pub operands_read :
    (line : List ℕ) (word : OperationWord) (ts behind : List Token) (t : Token) (result : Result (Operands × Vec (Vec PolyStep Global) Global) ReadStop) → t.kind ≡ kinds.Name → text_of line t ≡ operation_text word
    → ts ≡ t ∷ behind → AreOperandsRead word (map lexeme behind) result → IsOperationRead line (map lexeme ts) result
operands_read line word ts behind t (Ok found) kind text is h =
    let xs : map lexeme ts ≡ name t ∷ map lexeme behind = ap (map lexeme) is ∙ ap (λ x. x ∷ map lexeme behind) (named t.kind t kind) in
    (h.0, (map lexeme behind, (t, text ∙ ap operation_text (sym h.1), xs), h.2), h.3, h.4)
operands_read line word ts behind t (Err Memory) kind text is h = tt
operands_read line word ts behind t (Err Syntax) kind text is h = λ operation written.
    let b = operation_begins line t behind operation (subst (λ l. IsOperation line (map lexeme l) operation) is written) in
    h operation (one_word (text_of line t) (operation_word operation) word b.text text) b.rest

-- what stands behind the words
module _ (xs rest : List Lexeme) (t : Token) (is : xs ≡ name t ∷ rest) where
  pub two_read : (word : Binary) (s : Token) (after : List Lexeme) (found : Vec (Vec PolyStep Global) Global) → rest ≡ name s ∷ after → after ≡ [] → found.items ≡ []
      → AreOperandsRead (two_word word) xs (Ok (shapes.Two word t s, found))
  two_read word s after found e f none = (of_two word t s, refl, is ∙ ap (λ l. name t ∷ l) (e ∙ ap (λ l. name s ∷ l) f), refl, ap (map (λ v. v.items)) none)

  pub elimination_read : (s : Token) (after : List Lexeme) (found : Vec (Vec PolyStep Global) Global) → rest ≡ number s ∷ after → after ≡ [] → found.items ≡ []
      → AreOperandsRead elimination_word xs (Ok (shapes.Eliminate t s, found))
  elimination_read s after found e f none = (elimination t s, refl, is ∙ ap (λ l. name t ∷ l) (e ∙ ap (λ l. number s ∷ l) f), refl, ap (map (λ v. v.items)) none)

  pub syzygies_read : (found : Vec (Vec PolyStep Global) Global) → rest ≡ [] → found.items ≡ [] → AreOperandsRead syzygies_word xs (Ok (shapes.Syzygies t, found))
  syzygies_read found f none = (syzygies t, refl, is ∙ ap (λ l. name t ∷ l) f, refl, ap (map (λ v. v.items)) none)

  pub polynomial_read : (word : ByPolynomial) (found : Vec (Vec PolyStep Global) Global) → AreReadAs (IsOnePoly rest) (Ok found) → AreOperandsRead (polynomial_word word) xs (Ok (shapes.Polynomial word t, found))
  polynomial_read word found (ps, (p, e, reads), items) = (of_polynomial word t p, refl, (rest, is, reads), refl, items ∙ ap (map steps) e)

  pub polynomial_none : (word : ByPolynomial) (stop : ReadStop) → AreReadAs (IsOnePoly rest) (Err stop) → AreOperandsRead (polynomial_word word) xs (Err stop)
  polynomial_none word Memory h = tt
  polynomial_none word Syntax h = go
    where
      go : (operation : WrittenOperation) → operation_word operation ≡ polynomial_word word → AreOperands xs operation → ⊥
      go (of_polynomial other value p) e k =
          let all : name t ∷ rest ≡ name value ∷ k.0 = sym is ∙ k.1 in
          let same : rest ≡ k.0 = cc in
          h (p ∷ []) (p, refl, subst (λ l. Reads l p) (sym same) k.2)
      go _ e k = absurd cc

  pub preimage_read : (found : Vec (Vec PolyStep Global) Global) → AreReadAs (ArePolys rest) (Ok found) → AreOperandsRead preimage_word xs (Ok (shapes.Preimage t, found))
  preimage_read found (images, are, items) = (preimage t images, refl, (rest, is, are), refl, items)

  pub preimage_none : (stop : ReadStop) → AreReadAs (ArePolys rest) (Err stop) → AreOperandsRead preimage_word xs (Err stop)
  preimage_none Memory h = tt
  preimage_none Syntax h = go
    where
      go : (operation : WrittenOperation) → operation_word operation ≡ preimage_word → AreOperands xs operation → ⊥
      go (preimage value images) e k =
          let all : name t ∷ rest ≡ name value ∷ k.0 = sym is ∙ k.1 in
          let same : rest ≡ k.0 = cc in
          h images (subst (λ l. ArePolys l images) (sym same) k.2)
      go _ e k = absurd cc

same_operands : (xs : List Lexeme) (v w : WrittenOperation) → operation_word v ≡ operation_word w → AreOperands xs v → AreOperands xs w → v ≡ w
same_operands xs (of_two a l r) (of_two b l' r') e h k =
    let all : name l ∷ name r ∷ [] ≡ name l' ∷ name r' ∷ [] = sym h ∙ k in
    let words : a ≡ b = cc in
    let lefts : l ≡ l' = cc in
    let rights : r ≡ r' = cc in
    rw (words, lefts, rights) refl
same_operands xs (of_polynomial a t p) (of_polynomial b t' q) e h k =
    let all : name t ∷ h.0 ≡ name t' ∷ k.0 = sym h.1 ∙ k.1 in
    let words : a ≡ b = cc in
    let values : t ≡ t' = cc in
    let rest : h.0 ≡ k.0 = cc in
    let trees : p ≡ q = one_tree p q (sym h.2.spelled ∙ rest ∙ k.2.spelled) in
    rw (words, values, trees) refl
same_operands xs (elimination t c) (elimination t' c') e h k =
    let all : name t ∷ number c ∷ [] ≡ name t' ∷ number c' ∷ [] = sym h ∙ k in
    let values : t ≡ t' = cc in
    let counts : c ≡ c' = cc in
    ap₂ elimination values counts
same_operands xs (syzygies t) (syzygies t') e h k =
    let all : name t ∷ [] ≡ name t' ∷ [] = sym h ∙ k in
    let values : t ≡ t' = cc in
    ap syzygies values
same_operands xs (preimage t ps) (preimage t' qs) e h k =
    let all : name t ∷ h.0 ≡ name t' ∷ k.0 = sym h.1 ∙ k.1 in
    let values : t ≡ t' = cc in
    let rest : h.0 ≡ k.0 = cc in
    ap₂ preimage values (one_list k.0 ps qs (subst (λ l. ArePolys l ps) rest h.2) k.2)
same_operands xs v w e h k = absurd cc

-- an operation is written in one way
pub same_operation : (line : List ℕ) (xs : List Lexeme) (v w : WrittenOperation) → IsOperation line xs v → IsOperation line xs w → v ≡ w
same_operation line xs v w h k =
    let all : name h.1.0 ∷ h.0 ≡ name k.1.0 ∷ k.0 = sym h.1.2 ∙ k.1.2 in
    let tokens : h.1.0 ≡ k.1.0 = cc in
    let rest : h.0 ≡ k.0 = cc in
    let word = one_word (text_of line k.1.0) (operation_word v) (operation_word w) (ap (text_of line) (sym tokens) ∙ h.1.1) k.1.1 in
    same_operands k.0 v w word (subst (λ l. AreOperands l v) rest h.2) k.2
