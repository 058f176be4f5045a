-- Statements that say the same do the same
use Rattle.std.proofs.Common.{Bool, List, Some, [], ap, ap₂, codes, false, length, refl, subst, subst₂, sym, true, ℕ, ◌++◌, ◌∙◌, ◌∷◌, ◌≡◌}
use mathlib.Core.Bool.{Bool-set}
use mathlib.Core.HLevel.{is_prop→PathP}
use Rattle.std.proofs.Math.Nat.{ℕ_set}
use Rattle.std.specs.Prelude.{string_bytes}
use Rattle.zp_field.specs.Moduli.{is_modulus}
use Rattle.zp_field.specs.declared.modulus.Modulus.{Modulus}
use Rattle.term_lists.specs.declared.key.Key.{Key}
use Rattle.term_lists.specs.declared.ring.Ring.{Ring}
use Rattle.poly_text.specs.Texts.{names_of, poly_text}
use Rattle.script_parse.specs.Statements.{IsSameOperation, IsSameStatement}
use Rattle.script_parse.specs.declared.operation.Operation.{Operation}
use Rattle.script_parse.specs.declared.stated.Statement.{Statement}
use Rattle.script_parse.specs.declared.stated.Statement.TheVariants as statements
use Rattle.session_lang.proofs.OneExpression.{expresses_once}
use Rattle.session_lang.proofs.OneExt.{ext_once}
use Rattle.session_lang.proofs.OneAnswer.{answers_once, decides_once, one_ring, one_value}
use Rattle.session_lang.proofs.OneReordering.{reorders_once}
use Rattle.session_lang.proofs.OneMinimal.{betti_once, minimal_once, regularity_once, tells_once}
use Rattle.session_lang.proofs.OneResolution.{resolves_once}
use Rattle.session_lang.proofs.OneText.{counts_once, lifts_once}
use Rattle.session_lang.proofs.OneWork.{gives_once}
use Rattle.session_values.specs.Answers.{Asked, Decides, IsOneModule, basis, member, normal_form, sizes_of_basis}
use Rattle.session_lang.specs.Lines.{AnswersAsked, Does, OperationGives, TellsOfValue}
use Rattle.session_reports.specs.Minimising.{IsBettiText, IsMinimalText, IsRegularityText}
use Rattle.session_values.specs.Extending.{IsExtText}
use Rattle.session_values.specs.Names.{HasValue, ScriptState, Value, after_giving, after_run}
use Rattle.session_values.specs.Texts.{listing}

abbrev Terms : Type 0
Terms = List (Key × ℕ)

some_same : {X : Type 0} {x y : X} → Some x ≡ Some y → x ≡ y
some_same e = cc

-- rings of one modulus, with the same names, orders and weights, are one
modulus_same : (m n : Modulus) → m.value ≡ n.value → m ≡ n
modulus_same m n e = λ i. record { value = e i; table = is_prop→PathP (λ i. is_modulus (e i) ≡ true) (λ i. Bool-set (is_modulus (e i)) true) m.table n.table i }

ring_same : (r s : Ring) → r.modulus ≡ s.modulus → r.vars ≡ s.vars → r.order ≡ s.order → r.module_order ≡ s.module_order → r.weights ≡ s.weights → r ≡ s
ring_same r s a b c d e = λ i. record {
  modulus = a i;
  vars = b i;
  order = c i;
  module_order = d i;
  weights = e i;
  weighted = is_prop→PathP (λ i. length (e i) ≡ length (b i)) (λ i. ℕ_set (length (e i)) (length (b i))) r.weighted s.weighted i;
}

abbrev stated : Ring → ScriptState
stated r = record { ring = Some r; values = [] }

abbrev given : ScriptState → Bool → List ℕ → ℕ → List Terms → ScriptState
given before kept name rank list = after_giving (record { name = name; rank = rank; list = list; kept = kept }) before

stated_once : (r s : Ring) → IsSameStatement (statements.Ring r) (statements.Ring s) → stated r ≡ stated s
stated_once r s e = ap stated (ring_same r s (modulus_same r.modulus s.modulus e.0) e.1 e.2 e.3 e.4)

module _ (before : ScriptState) where
  -- a polynomial is printed one way
  shown_once :
      (v w : Terms) (r s : Ring) (x y : List ℕ) → v ≡ w → before.ring ≡ Some r → before.ring ≡ Some s
      → x ≡ poly_text (names_of r) v ++ 10 ∷ [] → y ≡ poly_text (names_of s) w ++ 10 ∷ [] → x ≡ y
  shown_once v w r s x y e is is' text text' =
      text ∙ ap₂ (λ ring u. poly_text (names_of ring) u ++ 10 ∷ []) (some_same (sym is ∙ is')) e ∙ sym text'

  -- and a stored list
  listed_once :
      (m n : List ℕ) (r s : Ring) (v w : Value) (x y : List ℕ) → m ≡ n → HasValue before m r v → HasValue before n s w
      → x ≡ listing (codes "gens") r v v.list → y ≡ listing (codes "gens") s w w.list → x ≡ y
  listed_once m n r s v w x y e has has' text text' =
      let there : HasValue before m s w = subst (λ z. HasValue before z s w) (sym e) has' in
      text ∙ ap₂ (λ ring value. listing (codes "gens") ring value value.list) (one_ring before m m r s v w has there) (one_value before m r s v w has there)
      ∙ sym text'

  asked_once : (m n : List ℕ) (a b : Asked) (x y : List ℕ) → m ≡ n → a ≡ b → AnswersAsked before m a x → AnswersAsked before n b y → x ≡ y
  asked_once m n a b x y e f g h = answers_once before m a x y g (subst₂ (λ name asked. AnswersAsked before name asked y) (sym e) (sym f) h)

  -- what Equal asks of two lists, over the ring that is stated
  abbrev Compares : Ring → Value → Value → List ℕ → Type 0
  Compares ring left right text = Decides (IsOneModule ring left.list right.list) text

  compared_once :
      (k m l n : List ℕ) (r s : Ring) (v w v' w' : Value) (x y : List ℕ) → k ≡ l → m ≡ n
      → HasValue before k r v → HasValue before m r w → HasValue before l s v' → HasValue before n s w'
      → Compares r v w x → Compares s v' w' y → x ≡ y
  compared_once k m l n r s v w v' w' x y e f has1 has2 has1' has2' g h =
      let first : HasValue before k s v' = subst (λ z. HasValue before z s v') (sym e) has1' in
      let second : HasValue before m s w' = subst (λ z. HasValue before z s w') (sym f) has2' in
      let at_ring : Compares r v' w' y = subst (λ z. Compares z v' w' y) (sym (one_ring before k k r s v v' has1 first)) h in
      let same : Compares r v w y =
      subst₂ (λ a b. Compares r a b y) (sym (one_value before k r s v v' has1 first)) (sym (one_value before m r s w w' has2 second)) at_ring in
      decides_once (IsOneModule r v.list w.list) x y g same

  -- the basis of one value is kept, or those of two
  kept_once : (m n : List ℕ) → m ≡ n → after_run m before ≡ after_run n before
  kept_once m n e = ap (λ name. after_run name before) e

  both_kept_once : (k m l n : List ℕ) → k ≡ l → m ≡ n → after_run m (after_run k before) ≡ after_run n (after_run l before)
  both_kept_once k m l n e f = ap₂ (λ first second. after_run second (after_run first before)) e f

  -- and so is what gets a name
  given_once :
      (k : Bool) (m n : List ℕ) (r q : ℕ) (v w : List Terms) → m ≡ n → r ≡ q → v ≡ w → given before k m r v ≡ given before k n q w
  given_once k m n r q v w e f g = λ i. given before k (e i) (f i) (g i)

  -- what an operation gives
  abbrev Made : List ℕ → Operation → ScriptState → Type 0
  Made name x after = (ring : Ring) × (rank : ℕ) × (list : List Terms) × OperationGives before x ring rank list × (after ≡ given before true name rank list)

  made_once : (m n : List ℕ) (x y : Operation) (p q : ScriptState) → m ≡ n → IsSameOperation x y → Made m x p → Made n y q → p ≡ q
  made_once m n x y p q e f g h =
      let z = gives_once before x y g.0 h.0 g.1 h.1 g.2 h.2 f g.3 h.3 in
      g.4 ∙ given_once true m n g.1 h.1 g.2 h.2 e z.0 z.1 ∙ sym h.4

  pub does_once :
      (s t : Statement) (p q : ScriptState) (x y : List ℕ) → IsSameStatement s t → Does before s p x → Does before t q y → (p ≡ q) × (x ≡ y)
  does_once statements.Nothing statements.Nothing p q x y e a b = (a.0 ∙ sym b.0, a.1 ∙ sym b.1)
  does_once statements.Nothing _ p q x y e a b = absurd e
  does_once (statements.Ring r) (statements.Ring s) p q x y e a b = (a.0 ∙ stated_once r s e ∙ sym b.0, a.1 ∙ sym b.1)
  does_once (statements.Ring r) _ p q x y e a b = absurd e
  does_once (statements.Show v) (statements.Show w) p q x y e a b =
      (a.0 ∙ sym b.0, shown_once v w a.1.0 b.1.0 x y e a.1.1 b.1.1 a.1.2 b.1.2)
  does_once (statements.Show v) _ p q x y e a b = absurd e
  does_once (statements.Ideal m v) (statements.Ideal n w) p q x y e a b =
      (a.0 ∙ given_once false (string_bytes m) (string_bytes n) 1 1 v w e.0 refl e.1 ∙ sym b.0, a.1 ∙ sym b.1)
  does_once (statements.Ideal m v) _ p q x y e a b = absurd e
  does_once (statements.Module m r v) (statements.Module n t w) p q x y e a b =
      (a.0 ∙ given_once false (string_bytes m) (string_bytes n) r t v w e.0 e.1 e.2 ∙ sym b.0, a.1 ∙ sym b.1)
  does_once (statements.Module m r v) _ p q x y e a b = absurd e
  does_once (statements.Let m f) (statements.Let n g) p q x y e a b =
      (made_once (string_bytes m) (string_bytes n) f g p q e.0 e.1 a.0 b.0, a.1 ∙ sym b.1)
  does_once (statements.Let m f) _ p q x y e a b = absurd e
  does_once (statements.Lift m v) (statements.Lift n w) p q x y e a b =
      (a.0 ∙ sym b.0, lifts_once before (string_bytes m) (string_bytes n) v w x y e.0 e.1 a.1 b.1)
  does_once (statements.Lift m v) _ p q x y e a b = absurd e
  does_once (statements.Hilbert m) (statements.Hilbert n) p q x y e a b =
      (a.0 ∙ kept_once (string_bytes m) (string_bytes n) e ∙ sym b.0, counts_once before (string_bytes m) (string_bytes n) x y e a.1 b.1)
  does_once (statements.Hilbert m) _ p q x y e a b = absurd e
  does_once (statements.Resolution m) (statements.Resolution n) p q x y e a b =
      (a.0 ∙ kept_once (string_bytes m) (string_bytes n) e ∙ sym b.0, resolves_once before (string_bytes m) (string_bytes n) x y e a.1 b.1)
  does_once (statements.Resolution m) _ p q x y e a b = absurd e
  does_once (statements.Minimal m) (statements.Minimal n) p q x y e a b =
      (a.0 ∙ kept_once (string_bytes m) (string_bytes n) e ∙ sym b.0, tells_once IsMinimalText (λ r v s t. minimal_once r v s t) before (string_bytes m) (string_bytes n) x y e a.1 b.1)
  does_once (statements.Minimal m) _ p q x y e a b = absurd e
  does_once (statements.Betti m) (statements.Betti n) p q x y e a b =
      (a.0 ∙ kept_once (string_bytes m) (string_bytes n) e ∙ sym b.0, tells_once IsBettiText (λ r v s t. betti_once r v s t) before (string_bytes m) (string_bytes n) x y e a.1 b.1)
  does_once (statements.Betti m) _ p q x y e a b = absurd e
  does_once (statements.Regularity m) (statements.Regularity n) p q x y e a b =
      (a.0 ∙ kept_once (string_bytes m) (string_bytes n) e ∙ sym b.0, tells_once IsRegularityText (λ r v s t. regularity_once r v s t) before (string_bytes m) (string_bytes n) x y e a.1 b.1)
  does_once (statements.Regularity m) _ p q x y e a b = absurd e
  does_once (statements.Change m o) (statements.Change n q') p q x y e a b = (
    a.0 ∙ kept_once (string_bytes m) (string_bytes n) e.0 ∙ sym b.0,
    reorders_once before (string_bytes m) (string_bytes n) o q' x y e.0 e.1 a.1 b.1,
  )
  does_once (statements.Change m o) _ p q x y e a b = absurd e
  does_once (statements.Express f v) (statements.Express g w) p q x y e a b = (a.0 ∙ sym b.0, expresses_once before f g v w x y e.0 e.1 a.1 b.1)
  does_once (statements.Express f v) _ p q x y e a b = absurd e
  does_once (statements.Ext m j) (statements.Ext n k) p q x y e a b = (
    a.0 ∙ kept_once (string_bytes m) (string_bytes n) e.0 ∙ sym b.0,
    tells_once (λ r v t. IsExtText r v j t) (λ r v s t. ext_once r v j s t) before (string_bytes m) (string_bytes n) x y e.0 a.1
        (subst (λ i. TellsOfValue before (string_bytes n) (λ r v t. IsExtText r v i t) y) (sym e.1) b.1),
  )
  does_once (statements.Ext m j) _ p q x y e a b = absurd e
  does_once (statements.Gens m) (statements.Gens n) p q x y e a b =
      (a.0 ∙ sym b.0, listed_once (string_bytes m) (string_bytes n) a.1.0 b.1.0 a.1.1 b.1.1 x y e a.1.2 b.1.2 a.1.3 b.1.3)
  does_once (statements.Gens m) _ p q x y e a b = absurd e
  does_once (statements.Gb m) (statements.Gb n) p q x y e a b =
      (a.0 ∙ kept_once (string_bytes m) (string_bytes n) e ∙ sym b.0, asked_once (string_bytes m) (string_bytes n) basis basis x y e refl a.1 b.1)
  does_once (statements.Gb m) _ p q x y e a b = absurd e
  does_once (statements.Size m) (statements.Size n) p q x y e a b = (
    a.0 ∙ kept_once (string_bytes m) (string_bytes n) e ∙ sym b.0,
    asked_once (string_bytes m)
        (string_bytes n) sizes_of_basis sizes_of_basis x y e refl a.1 b.1,
  )
  does_once (statements.Size m) _ p q x y e a b = absurd e
  does_once (statements.NormalForm m v) (statements.NormalForm n w) p q x y e a b = (
    a.0 ∙ kept_once (string_bytes m) (string_bytes n) e.0
        ∙ sym b.0,
    asked_once (string_bytes m) (string_bytes n) (normal_form v) (normal_form w) x y e.0 (ap normal_form e.1) a.1 b.1,
  )
  does_once (statements.NormalForm m v) _ p q x y e a b = absurd e
  does_once (statements.Member m v) (statements.Member n w) p q x y e a b = (
    a.0 ∙ kept_once (string_bytes m) (string_bytes n) e.0
        ∙ sym b.0,
    asked_once (string_bytes m) (string_bytes n) (member v) (member w) x y e.0 (ap member e.1) a.1 b.1,
  )
  does_once (statements.Member m v) _ p q x y e a b = absurd e
  does_once (statements.Equal k m) (statements.Equal l n) p q x y e a b =
      let c = a.1 in
      let d = b.1 in (
        a.0 ∙ both_kept_once (string_bytes k) (string_bytes m) (string_bytes l) (string_bytes n) e.0 e.1 ∙ sym b.0,
        compared_once (string_bytes k) (string_bytes m) (string_bytes l) (string_bytes n) c.0 d.0 c.1 c.2 d.1 d.2 x y e.0 e.1 c.3 c.4 d.3 d.4 c.5 d.5,
      )
  does_once (statements.Equal k m) _ p q x y e a b = absurd e
