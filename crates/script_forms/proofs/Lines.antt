-- A line's word and what stands behind it
use Rattle.std.proofs.Common.{◌≡◌, ℕ, List, [], ◌∷◌, map, cond, nat_eq, Option, Some, None, Vec, Global, Result, Ok, Err, IfSome, refl, sym, ap, ap₂, subst, ◌∙◌}
use Rattle.std.specs.Prelude.{codes}
use Rattle.std.specs.Cmp.Lexicographic.{pointwise}
use Rattle.std.proofs.lemmas.Option.{none-some}
use Rattle.script_tokens.specs.declared.token.Token.{Token}
use Rattle.script_tokens.specs.declared.token.TokenKind.TheVariants as kinds
use Rattle.poly_grammar.specs.Lexemes.{Lexeme, equals, lexeme, name, number}
use Rattle.poly_grammar.specs.Numerals.{text_of}
use Rattle.poly_grammar.specs.declared.stop.ReadStop.{ReadStop}
use Rattle.poly_grammar.specs.declared.stop.ReadStop.TheVariants.{Memory, Syntax}
use Rattle.poly_grammar.specs.Steps.{steps}
use Rattle.poly_grammar.specs.Trees.{Poly}
use Rattle.poly_grammar.specs.declared.step.PolyStep.{PolyStep}
use Rattle.poly_grammar.proofs.Unique.{one_tree}
use Rattle.poly_grammar.specs.Machine.{Gives}
use Rattle.script_forms.specs.Forms.{AreExpressed, AreReadAs, AreVectorsRead, IsOperationRead, IsRead, IsReadBehind, head_of}
use Rattle.script_forms.specs.RingForms.{ring_line_of, ring_of}
use Rattle.script_forms.specs.Written.{AreVectorEntries, ArePolys, AreVectors, IsOnePoly, IsOperation, IsOrder, Written, ask_line, change_line, change_word, divide_line, equal_line, express_line, ext_line, ideal_line, let_line, module_line, nothing, ring_line, show_line, Word, division_word, equal_word, express_word, ext_word, ideal_word, let_word, module_word, question_word, ring_word, show_word, polys_of, word_text, word_of, IsBehind, IsLine, IsRingLine, IsWritten, IsWrittenAs}
use Rattle.script_forms.specs.declared.form.DivisionWord.{DivisionWord}
use Rattle.script_forms.specs.declared.form.DivisionWord.TheVariants.{Lift, Member, NormalForm}
use Rattle.script_forms.specs.declared.form.Head.{Head}
use Rattle.script_forms.specs.declared.form.Head.TheVariants as heads
use Rattle.script_forms.specs.declared.form.QuestionWord.{QuestionWord}
use Rattle.script_forms.specs.declared.form.QuestionWord.TheVariants.{Betti, Gb, Gens, Hilbert, Minimal, Regularity, Resolution, Size}
use Rattle.script_forms.specs.declared.form.Form.{Form}
use Rattle.script_forms.specs.declared.form.Form.TheVariants as forms
use Rattle.script_forms.specs.declared.operands.Operands.{Operands}
use Rattle.script_forms.specs.declared.ring_words.RingForm.{RingForm}
use Rattle.script_forms.specs.declared.vectors.Shape.{Shape}
use Rattle.script_forms.proofs.Apart.{words_apart}
use Rattle.script_forms.proofs.Expressed.{one_expression}
use Rattle.script_forms.proofs.LetLines.{same_operation}
use Rattle.script_forms.proofs.Pieces.{name_is, named, one_list, one_vector}
use Rattle.script_forms.proofs.VectorLists.{one_list_of_vectors}
use Rattle.script_forms.specs.declared.ring_words.OrderName.{OrderName}
use Rattle.script_forms.proofs.RingLines.{one_order, one_ring, ring_again, ring_back}
use Rattle.script_tokens.proofs.Cuts.{one_cut}

-- the word that a text is
abbrev said : List ℕ → List ℕ → Word → Option Word → Option Word
said text word w other = cond (pointwise nat_eq text word) (Some w) other

abbrev word_named : List ℕ → Option Word
word_named text =
    said text (codes "ring") ring_word (said text (codes "show") show_word (said text (codes "ideal") ideal_word (said text (codes "gens") (question_word Gens)
    (said text (codes "gb") (question_word Gb) (said text (codes "size") (question_word Size) (said text (codes "nf") (division_word NormalForm)
    (said text (codes "member") (division_word Member) (said text (codes "equal") equal_word (said text (codes "module") module_word
    (said text (codes "let") let_word (said text (codes "hilb") (question_word Hilbert) (said text (codes "lift") (division_word Lift) (said text (codes "fglm") change_word (said text (codes "res") (question_word Resolution)
    (said text (codes "minres") (question_word Minimal) (said text (codes "betti") (question_word Betti)
    (said text (codes "reg") (question_word Regularity) (said text (codes "express") express_word (said text (codes "ext") ext_word None)))))))))))))))))))

word_again : (w : Word) → word_named (word_text w) ≡ Some w
word_again ring_word = refl
word_again show_word = refl
word_again ideal_word = refl
word_again module_word = refl
word_again let_word = refl
word_again (question_word Gens) = refl
word_again (question_word Gb) = refl
word_again (question_word Size) = refl
word_again (question_word Hilbert) = refl
word_again (question_word Resolution) = refl
word_again (question_word Minimal) = refl
word_again (question_word Betti) = refl
word_again (question_word Regularity) = refl
word_again (division_word NormalForm) = refl
word_again (division_word Member) = refl
word_again (division_word Lift) = refl
word_again equal_word = refl
word_again change_word = refl
word_again express_word = refl
word_again ext_word = refl

-- no text is that of two words
one_word : (text : List ℕ) (a b : Word) → text ≡ word_text a → text ≡ word_text b → a ≡ b
one_word text a b e f = let same : Some a ≡ Some b = sym (word_again a) ∙ ap word_named (sym e ∙ f) ∙ word_again b in cc

pub record Starts (line : List ℕ) (t : Token) (behind : List Token) (w : Written) : Type 0 where
  pub word : Word
  pub word_is : word_of w ≡ Some word
  pub kind : t.kind ≡ kinds.Name
  pub text : text_of line t ≡ word_text word
  pub rest : IsBehind line (map lexeme behind) w

starts_as : (line : List ℕ) (t : Token) (behind : List Token) (w : Written) (o : Option Word) → word_of w ≡ o → IsWrittenAs o line (map lexeme (t ∷ behind)) w → Starts line t behind w
starts_as line t behind w None e h = absurd cc
starts_as line t behind w (Some word) e h =
    let head : lexeme t ≡ name h.1.0 = cc (h.1.2) in
    let tail : map lexeme behind ≡ h.0 = cc (h.1.2) in
    let is = name_is t.kind t h.1.0 head in
    record { word = word; word_is = e; kind = is.0; text = ap (text_of line) is.1 ∙ h.1.1; rest = subst (λ l. IsBehind line l w) (sym tail) h.2 }

pub starts : (line : List ℕ) (t : Token) (behind : List Token) (w : Written) → IsWritten line (map lexeme (t ∷ behind)) w → Starts line t behind w
starts line t behind w h = starts_as line t behind w (word_of w) refl h

pub begins : (line : List ℕ) (t : Token) (behind : List Token) (w : Written) (word : Word) → word_of w ≡ Some word → t.kind ≡ kinds.Name → text_of line t ≡ word_text word → IsBehind line (map lexeme behind) w → IsWritten line (map lexeme (t ∷ behind)) w
begins line t behind w word e kind text h =
    let written : IsWrittenAs (Some word) line (map lexeme (t ∷ behind)) w = (map lexeme behind, (t, text, ap (λ x. x ∷ map lexeme behind) (named t.kind t kind)), h) in
    subst (λ o. IsWrittenAs o line (map lexeme (t ∷ behind)) w) (sym e) written

-- what a parser behind its word gives is what the line says
pub word_read : (line : List ℕ) (word : Word) (ts behind : List Token) (t : Token) (result : Result Form ReadStop) → t.kind ≡ kinds.Name → text_of line t ≡ word_text word → ts ≡ t ∷ behind
    → IsReadBehind word line (map lexeme behind) result → IsRead line (map lexeme ts) result
word_read line word ts behind t (Ok form) kind text is h = (h.0, subst (λ l. IsWritten line (map lexeme l) h.0) (sym is) (begins line t behind h.0 word h.1 kind text h.2), h.3)
word_read line word ts behind t (Err Memory) kind text is h = tt
word_read line word ts behind t (Err Syntax) kind text is h = λ w written.
    let s = starts line t behind w (subst (λ l. IsWritten line (map lexeme l) w) is written) in
    let same : s.word ≡ word = one_word (text_of line t) s.word word s.text text in
    h w (s.word_is ∙ ap Some same) s.rest

-- a ring line that is found, or none
pub ring_found : (line : List ℕ) (xs : List Lexeme) (form : RingForm) → ring_of line xs ≡ Some (ring_line_of form) → IsReadBehind ring_word line xs (Ok (forms.Ring form))
ring_found line xs form e = (ring_line (ring_line_of form), refl, subst (λ o. IfSome o (IsRingLine line xs)) e (ring_back line xs), refl)

pub ring_none : (line : List ℕ) (xs : List Lexeme) (stop : ReadStop) → Gives ring_line_of (Err stop) (ring_of line xs) → IsReadBehind ring_word line xs (Err stop)
ring_none line xs Memory h = tt
ring_none line xs Syntax h = go
  where
    go : (w : Written) → word_of w ≡ Some ring_word → IsBehind line xs w → ⊥
    go nothing e k = k
    go (ring_line r) e k = none-some r (sym h ∙ ring_again line xs r k)
    go _ e k = absurd (words_apart e refl)

-- a parser of polynomials gives a line
pub line_read :
    (word : Word) (line : List ℕ) (xs : List Lexeme) (head : Head) (Are : List Poly → Type 0) (found : Vec (Vec PolyStep Global) Global)
    → ((ps : List Poly) → Are ps → (w : Written) × (word_of w ≡ Some word) × IsBehind line xs w × (head_of w ≡ Some head) × (polys_of w ≡ ps))
    → AreReadAs Are (Ok found) → IsReadBehind word line xs (Ok (forms.Line head found))
line_read word line xs head Are found make h =
    let m = make h.0 h.1 in
    (m.0, m.1, m.2, record { head_is = m.3; steps_are = h.2 ∙ ap (λ l. map steps l) (sym m.4) })

-- or there is none
pub line_none :
    (word : Word) (line : List ℕ) (xs : List Lexeme) (Are : List Poly → Type 0) (stop : ReadStop)
    → ((w : Written) → word_of w ≡ Some word → IsBehind line xs w → (ps : List Poly) × Are ps)
    → AreReadAs Are (Err stop) → IsReadBehind word line xs (Err stop)
line_none word line xs Are Memory split h = tt
line_none word line xs Are Syntax split h = λ w e k. let s = split w e k in h s.0 s.1

pub show_made : (line : List ℕ) (xs : List Lexeme) (ps : List Poly) → IsOnePoly xs ps → (w : Written) × (word_of w ≡ Some show_word) × IsBehind line xs w × (head_of w ≡ Some heads.Show) × (polys_of w ≡ ps)
show_made line xs ps k = (show_line k.0, refl, k.2, refl, sym k.1)

pub show_split : (line : List ℕ) (xs : List Lexeme) (w : Written) → word_of w ≡ Some show_word → IsBehind line xs w → (ps : List Poly) × IsOnePoly xs ps
show_split line xs (show_line p) e h = (p ∷ [], (p, refl, h))
show_split line xs _ e h = absurd (words_apart e refl)

pub express_made : (line : List ℕ) (xs : List Lexeme) (ps : List Poly) → AreExpressed line xs ps → (w : Written) × (word_of w ≡ Some express_word) × IsBehind line xs w × (head_of w ≡ Some heads.Express) × (polys_of w ≡ ps)
express_made line xs [] k = absurd k
express_made line xs (p ∷ images) k = (express_line p images, refl, k, refl, refl)

pub express_split : (line : List ℕ) (xs : List Lexeme) (w : Written) → word_of w ≡ Some express_word → IsBehind line xs w → (ps : List Poly) × AreExpressed line xs ps
express_split line xs (express_line p images) e h = (p ∷ images, h)
express_split line xs nothing e h = absurd h
express_split line xs _ e h = absurd (words_apart e refl)

module _ (line : List ℕ) (xs rest : List Lexeme) (t : Token) (is : xs ≡ name t ∷ rest) where
  -- what stands behind the first name
  behind_name : (s : Token) (ys : List Lexeme) → xs ≡ name s ∷ ys → rest ≡ ys
  behind_name s ys e = let all : name t ∷ rest ≡ name s ∷ ys = sym is ∙ e in cc

  pub ideal_made : (after : List Lexeme) → rest ≡ equals ∷ after → (ps : List Poly) → ArePolys after ps → (w : Written) × (word_of w ≡ Some ideal_word) × IsBehind line xs w × (head_of w ≡ Some (heads.Ideal t)) × (polys_of w ≡ ps)
  ideal_made after e ps k = (ideal_line t ps, refl, (after, is ∙ ap (λ l. name t ∷ l) e, k), refl, refl)

  -- a parser of VECs gives a `module` line, or there is none
  pub module_read :
      (r : Token) (after more : List Lexeme) (found : Vec (Vec PolyStep Global) Global × Shape) → rest ≡ number r ∷ after → after ≡ equals ∷ more → AreVectorsRead more (Ok found)
      → IsReadBehind module_word line xs (Ok (forms.Line (heads.Module t r found.1) found.0))
  module_read r after more found e f h = (
    module_line t r h.0,
    refl,
    (more, is ∙ ap (λ l. name t ∷ l) (e ∙ ap (λ l. number r ∷ l) f), h.1),
    record { head_is = ap (λ s. Some (heads.Module t r s)) (sym h.3); steps_are = h.2 },
  )

  pub module_none : (r : Token) (after more : List Lexeme) (stop : ReadStop) → rest ≡ number r ∷ after → after ≡ equals ∷ more → AreVectorsRead more (Err stop) → IsReadBehind module_word line xs (Err stop)
  module_none r after more Memory e f h = tt
  module_none r after more Syntax e f h = go
    where
      all : xs ≡ name t ∷ number r ∷ equals ∷ more
      all = is ∙ ap (λ l. name t ∷ l) (e ∙ ap (λ l. number r ∷ l) f)

      go : (w : Written) → word_of w ≡ Some module_word → IsBehind line xs w → ⊥
      go nothing g k = k
      go (module_line t' r' vectors) g k =
          let both : name t ∷ number r ∷ equals ∷ more ≡ name t' ∷ number r' ∷ equals ∷ k.0 = sym all ∙ k.1 in
          let same : more ≡ k.0 = cc in
          h vectors (subst (λ l. AreVectors l vectors) (sym same) k.2)
      go _ g k = absurd (words_apart g refl)

  -- a parser of an operation gives a `let` line, or there is none
  pub let_read :
      (more : List Lexeme) (found : Operands × Vec (Vec PolyStep Global) Global) → rest ≡ equals ∷ more → IsOperationRead line more (Ok found)
      → IsReadBehind let_word line xs (Ok (forms.Line (heads.Let t found.0) found.1))
  let_read more found e h = (
    let_line t h.0,
    refl,
    (more, is ∙ ap (λ l. name t ∷ l) e, h.1),
    record { head_is = ap (λ o. Some (heads.Let t o)) h.2; steps_are = h.3 },
  )

  pub let_none : (more : List Lexeme) (stop : ReadStop) → rest ≡ equals ∷ more → IsOperationRead line more (Err stop) → IsReadBehind let_word line xs (Err stop)
  let_none more Memory e h = tt
  let_none more Syntax e h = go
    where
      go : (w : Written) → word_of w ≡ Some let_word → IsBehind line xs w → ⊥
      go nothing g k = k
      go (let_line t' operation) g k =
          let both : name t ∷ equals ∷ more ≡ name t' ∷ equals ∷ k.0 = sym (is ∙ ap (λ l. name t ∷ l) e) ∙ k.1 in
          let same : more ≡ k.0 = cc in
          h operation (subst (λ l. IsOperation line l operation) (sym same) k.2)
      go _ g k = absurd (words_apart g refl)

  pub ask_read : (question : QuestionWord) (found : Vec (Vec PolyStep Global) Global) → rest ≡ [] → found.items ≡ [] → IsReadBehind (question_word question) line xs (Ok (forms.Line (heads.Ask question t) found))
  ask_read question found e none = (ask_line question t, refl, is ∙ ap (λ l. name t ∷ l) e, record { head_is = refl; steps_are = ap (λ l. map (λ v. v.items) l) none })

  pub divide_made : (division : DivisionWord) (ps : List Poly) → AreVectorEntries rest ps → (w : Written) × (word_of w ≡ Some (division_word division)) × IsBehind line xs w × (head_of w ≡ Some (heads.Divide division t)) × (polys_of w ≡ ps)
  divide_made division ps k = (divide_line division t ps, refl, (rest, is, k), refl, refl)

  pub divide_split : (division : DivisionWord) (w : Written) → word_of w ≡ Some (division_word division) → IsBehind line xs w → (ps : List Poly) × AreVectorEntries rest ps
  divide_split division (divide_line other value ps) e h = (ps, subst (λ l. AreVectorEntries l ps) (sym (behind_name value h.0 h.1)) h.2)
  divide_split division nothing e h = absurd h
  divide_split division _ e h = absurd (words_apart e refl)

  pub equal_read : (s : Token) (after : List Lexeme) (found : Vec (Vec PolyStep Global) Global) → rest ≡ name s ∷ after → after ≡ [] → found.items ≡ [] → IsReadBehind equal_word line xs (Ok (forms.Line (heads.Equal t s) found))
  equal_read s after found e f none = (equal_line t s, refl, is ∙ ap (λ l. name t ∷ l) (e ∙ ap (λ l. name s ∷ l) f), record { head_is = refl; steps_are = ap (λ l. map (λ v. v.items) l) none })

  pub ext_read : (k : Token) (after : List Lexeme) (found : Vec (Vec PolyStep Global) Global) → rest ≡ number k ∷ after → after ≡ [] → found.items ≡ [] → IsReadBehind ext_word line xs (Ok (forms.Line (heads.Ext t k) found))
  ext_read k after found e f none = (ext_line t k, refl, is ∙ ap (λ l. name t ∷ l) (e ∙ ap (λ l. number k ∷ l) f), record { head_is = refl; steps_are = ap (λ l. map (λ v. v.items) l) none })

  -- a parser of an order gives a `fglm` line, or there is none
  pub change_read : (order : OrderName) (found : Vec (Vec PolyStep Global) Global) → IsOrder line rest order → found.items ≡ []
      → IsReadBehind change_word line xs (Ok (forms.Line (heads.Change t order) found))
  change_read order found h none = (change_line t order, refl, (rest, is, h), record { head_is = refl; steps_are = ap (λ l. map (λ v. v.items) l) none })

  pub change_none : ((order : OrderName) → IsOrder line rest order → ⊥) → IsReadBehind change_word line xs (Err Syntax)
  change_none h = go
    where
      go : (w : Written) → word_of w ≡ Some change_word → IsBehind line xs w → ⊥
      go nothing g k = k
      go (change_line value order) g k = h order (subst (λ l. IsOrder line l order) (sym (behind_name value k.0 k.1)) k.2)
      go _ g k = absurd (words_apart g refl)

same_behind : (line : List ℕ) (xs : List Lexeme) (v w : Written) (word : Word) → word_of v ≡ Some word → word_of w ≡ Some word → IsBehind line xs v → IsBehind line xs w → v ≡ w
same_behind line xs nothing w word e f h k = absurd h
same_behind line xs v nothing word e f h k = absurd k
same_behind line xs (ring_line r) (ring_line s) word e f h k = ap ring_line (one_ring line xs r s h k)
same_behind line xs (show_line p) (show_line q) word e f h k = ap show_line (one_tree p q (sym h.spelled ∙ k.spelled))
same_behind line xs (ideal_line g ps) (ideal_line g' ps') word e f h k =
    let all : name g ∷ equals ∷ h.0 ≡ name g' ∷ equals ∷ k.0 = sym h.1 ∙ k.1 in
    let given : g ≡ g' = cc in
    let rest : h.0 ≡ k.0 = cc in
    ap₂ ideal_line given (one_list k.0 ps ps' (subst (λ l. ArePolys l ps) rest h.2) k.2)
same_behind line xs (module_line g r vs) (module_line g' r' vs') word e f h k =
    let all : name g ∷ number r ∷ equals ∷ h.0 ≡ name g' ∷ number r' ∷ equals ∷ k.0 = sym h.1 ∙ k.1 in
    let given : g ≡ g' = cc in
    let ranks : r ≡ r' = cc in
    let rest : h.0 ≡ k.0 = cc in
    let vectors : vs ≡ vs' = one_list_of_vectors k.0 vs vs' (subst (λ l. AreVectors l vs) rest h.2) k.2 in
    rw (given, ranks, vectors) refl
same_behind line xs (let_line g o) (let_line g' o') word e f h k =
    let all : name g ∷ equals ∷ h.0 ≡ name g' ∷ equals ∷ k.0 = sym h.1 ∙ k.1 in
    let given : g ≡ g' = cc in
    let rest : h.0 ≡ k.0 = cc in
    ap₂ let_line given (same_operation line k.0 o o' (subst (λ l. IsOperation line l o) rest h.2) k.2)
same_behind line xs (ask_line q t) (ask_line q' t') word e f h k =
    let all : name t ∷ [] ≡ name t' ∷ [] = sym h ∙ k in
    let words : Some (question_word q) ≡ Some (question_word q') = e ∙ sym f in
    let questions : q ≡ q' = cc in
    let values : t ≡ t' = cc in
    ap₂ ask_line questions values
same_behind line xs (divide_line d t ps) (divide_line d' t' ps') word e f h k =
    let all : name t ∷ h.0 ≡ name t' ∷ k.0 = sym h.1 ∙ k.1 in
    let words : Some (division_word d) ≡ Some (division_word d') = e ∙ sym f in
    let divisions : d ≡ d' = cc in
    let values : t ≡ t' = cc in
    let rest : h.0 ≡ k.0 = cc in
    let entries : ps ≡ ps' = one_vector k.0 ps ps' (subst (λ l. AreVectorEntries l ps) rest h.2) k.2 in
    rw (divisions, values, entries) refl
same_behind line xs (equal_line a b) (equal_line a' b') word e f h k =
    let all : name a ∷ name b ∷ [] ≡ name a' ∷ name b' ∷ [] = sym h ∙ k in
    let lefts : a ≡ a' = cc in
    let rights : b ≡ b' = cc in
    ap₂ equal_line lefts rights
same_behind line xs (change_line a o) (change_line b q) word e f h k =
    let all : name a ∷ h.0 ≡ name b ∷ k.0 = sym h.1 ∙ k.1 in
    let values : a ≡ b = cc in
    let rest : h.0 ≡ k.0 = cc in
    ap₂ change_line values (one_order line k.0 o q (subst (λ l. IsOrder line l o) rest h.2) k.2)
same_behind line xs (express_line p ps) (express_line q qs) word e f h k = let one = one_expression line xs p q ps qs h k in ap₂ express_line one.0 one.1
same_behind line xs (ext_line a c) (ext_line b d) word e f h k =
    let all : name a ∷ number c ∷ [] ≡ name b ∷ number d ∷ [] = sym h ∙ k in
    let values : a ≡ b = cc in
    let counts : c ≡ d = cc in
    ap₂ ext_line values counts
same_behind line xs v w word e f h k = absurd (words_apart (e ∙ sym f) refl)

blank_written : (line : List ℕ) (w : Written) → IsWritten line [] w → w ≡ nothing
blank_written line nothing h = refl
blank_written line _ h = let q = h.1.2 in absurd cc

same_written : (line : List ℕ) (ts : List Token) (v w : Written) → IsWritten line (map lexeme ts) v → IsWritten line (map lexeme ts) w → v ≡ w
same_written line [] v w h k = blank_written line v h ∙ sym (blank_written line w k)
same_written line (t ∷ ts) v w h k =
    let s = starts line t ts v h in
    let r = starts line t ts w k in
    let word : s.word ≡ r.word = one_word (text_of line t) s.word r.word s.text r.text in
    same_behind line (map lexeme ts) v w r.word (s.word_is ∙ ap Some word) r.word_is s.rest r.rest

-- a line is written in one way
pub one_line : (line : List ℕ) (v w : Written) → IsLine line v → IsLine line w → v ≡ w
one_line line v w h k =
    let same : k.found ≡ h.found = one_cut line k.found h.found k.cut h.cut in
    same_written line h.found v w h.written (subst (λ l. IsWritten line (map lexeme l) w) same k.written)
