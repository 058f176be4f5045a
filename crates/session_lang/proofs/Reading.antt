-- What a reader of lines is told, and what it says
use Rattle.std.proofs.Common.{◌≡◌, ℕ, ◌<◌, ◌≤◌, ◌⊎◌, inl, inr, cond, nat_eq, suc, zero, Bool, true, false, List, [], ◌∷◌, Option, Some, None, length, refl, subst, sym, ap, ◌∙◌, arith}
use Rattle.std.proofs.lemmas.Bool.{cases_lt}
use Rattle.std.proofs.lemmas.Bool.Decides.{eqb_tells}
use Rattle.std.specs.Prelude.{Contains, string_bytes}
use Rattle.std.specs.Cmp.Lexicographic.{pointwise}
use Rattle.formal_sums.specs.FormalSums.{Each}
use Rattle.poly_grammar.specs.Numerals.{numeral_value, text_of}
use Rattle.poly_grammar.specs.Trees.{Poly}
use Rattle.script_tokens.specs.declared.token.Token.{Token}
use Rattle.term_lists.specs.Rings.{ring_comparison, variables}
use Rattle.term_lists.specs.Vectors.{AreVectorsOver, HasPositions, IsVectorOver}
use Rattle.term_lists.specs.declared.key.Key.{Key}
use Rattle.term_lists.specs.declared.ring.Ring.{Ring}
use Rattle.script_forms.specs.declared.ring_words.OrderName.{OrderName}
use Rattle.script_forms.specs.Written.{IsLine, Written, WrittenOperation, ask_line, change_line, divide_line, elimination, equal_line, express_line, ext_line, ideal_line, let_line, module_line, nothing, of_polynomial, of_two, preimage, ring_line, show_line, syzygies, value_places}
use Rattle.script_forms.specs.declared.form.DivisionWord.{DivisionWord}
use Rattle.script_forms.specs.declared.form.DivisionWord.TheVariants as divisions
use Rattle.script_forms.specs.declared.form.QuestionWord.{QuestionWord}
use Rattle.script_forms.specs.declared.form.QuestionWord.TheVariants as questions
use Rattle.script_forms.specs.declared.operands.Binary.{Binary}
use Rattle.script_forms.specs.declared.operands.Binary.TheVariants as binaries
use Rattle.script_forms.specs.declared.operands.ByPolynomial.TheVariants as divisors
use Rattle.script_parse.specs.Refusals.{HasHighRank, HasOtherFactor, HasOtherImages, HasOtherKind, HasOtherOperands, HasOtherRank, HasUnknownName, HaveOtherRanks, RefusalHolds, IsNamed, IsOutside, Refuses, length_named, rank_named}
use Rattle.script_parse.specs.Statements.{ArePolynomialsOf, AreVectorsOf, IsOperationOf, Says, States}
use Rattle.script_parse.specs.declared.kind.Kind.{Kind}
use Rattle.script_parse.specs.declared.kind.Kind.TheVariants as kinds
use Rattle.script_parse.specs.declared.named.NameInfo.{NameInfo}
use Rattle.script_parse.specs.declared.operation.Operation.{Operation}
use Rattle.script_parse.specs.declared.operation.Operation.TheVariants as operations
use Rattle.script_parse.specs.declared.stated.Statement.{Statement}
use Rattle.script_parse.specs.declared.stated.Statement.TheVariants as statements
use Rattle.session_lang.specs.Fitting.{AreGiven, AreImages, IsFit, IsGiven, IsIdealGiven, IsOfValue, IsOfValueRank, IsWithPolynomial, IsOperable}
use Rattle.session_values.specs.Kept.{IsValueRank}
use Rattle.session_values.specs.Names.{AreInfosOf, HasValue, ScriptState, Value, value_named}

-- the rank of a value that may be none
abbrev rank_of : Option Value → Option ℕ
rank_of None = None
rank_of (Some v) = Some v.rank

-- what is told of a name is the rank of the value that has it
pub ranks_told : (values : List Value) (infos : List NameInfo) (text : List ℕ) → AreInfosOf values infos
    → rank_named infos text ≡ rank_of (value_named values text)
ranks_told [] [] text h = refl
ranks_told [] (i ∷ infos) text h = absurd h
ranks_told (v ∷ values) [] text h = absurd h
ranks_told (v ∷ values) (i ∷ infos) text h =
    (λ k. cond (pointwise nat_eq (h.0 k) text) (Some (h.1 k)) (ranks_told values infos text h.3 k))
    ∙ choose (pointwise nat_eq v.name text)
  where
    choose : (b : Bool) → cond b (Some v.rank) (rank_of (value_named values text)) ≡ rank_of (cond b (Some v) (value_named values text))
    choose true = refl
    choose false = refl

-- and the length is that of its list
abbrev length_of : Option Value → Option ℕ
length_of None = None
length_of (Some v) = Some (length v.list)

pub lengths_told : (values : List Value) (infos : List NameInfo) (text : List ℕ) → AreInfosOf values infos
    → length_named infos text ≡ length_of (value_named values text)
lengths_told [] [] text h = refl
lengths_told [] (i ∷ infos) text h = absurd h
lengths_told (v ∷ values) [] text h = absurd h
lengths_told (v ∷ values) (i ∷ infos) text h =
    (λ k. cond (pointwise nat_eq (h.0 k) text) (Some (h.2 k)) (lengths_told values infos text h.3 k))
    ∙ choose (pointwise nat_eq v.name text)
  where
    choose : (b : Bool) → cond b (Some (length v.list)) (length_of (value_named values text)) ≡ length_of (cond b (Some v) (value_named values text))
    choose true = refl
    choose false = refl

-- a line is refused alike by all who are told the same ranks and lengths
module _ (ring : Option Ring) (infos more : List NameInfo) (line : List ℕ) (same : (text : List ℕ) → rank_named infos text ≡ rank_named more text)
    (as_long : (text : List ℕ) → length_named infos text ≡ length_named more text) where
  named : (text : List ℕ) → IsNamed infos text → IsNamed more text
  named text h = (h.0, sym (same text) ∙ h.1)

  named_back : (text : List ℕ) → IsNamed more text → IsNamed infos text
  named_back text h = (h.0, same text ∙ h.1)

  unknown : (w : Written) → HasUnknownName ring infos line w → HasUnknownName ring more line w
  unknown w (inl (t, stands, other, none)) = inl (t, stands, other, λ h. none (named_back (text_of line t) h))
  unknown w (inr h) = inr h

  high_rank : (t : Token) → HasHighRank infos line t → HasHighRank more line t
  high_rank t (rank, e, lt) = (rank, sym (same (text_of line t)) ∙ e, lt)

  other_factor : (w : Written) → HasOtherFactor infos line w → HasOtherFactor more line w
  other_factor (let_line given (of_two binaries.Product left right)) h = high_rank left h
  other_factor (let_line given (preimage value images)) h = high_rank value h
  other_factor (let_line given (of_two binaries.Sum left right)) h = absurd h
  other_factor (let_line given (of_two binaries.Intersect left right)) h = absurd h
  other_factor (let_line given (of_two binaries.Colon left right)) h = absurd h
  other_factor (let_line given (of_polynomial word value p)) h = absurd h
  other_factor (let_line given (elimination value count)) h = absurd h
  other_factor (let_line given (syzygies value)) h = absurd h
  other_factor nothing h = absurd h
  other_factor (ring_line words) h = absurd h
  other_factor (show_line p) h = absurd h
  other_factor (ideal_line t ps) h = absurd h
  other_factor (module_line t k vs) h = absurd h
  other_factor (ask_line q t) h = absurd h
  other_factor (divide_line d t ps) h = absurd h
  other_factor (equal_line s t) h = absurd h
  other_factor (change_line t o) h = absurd h
  other_factor (express_line p ps) h = absurd h
  other_factor (ext_line t k) h = absurd h

  other_kind : (w : Written) → HasOtherKind ring infos line w → HasOtherKind ring more line w
  other_kind w (inl (t, stands, h)) = inl (t, stands, named (text_of line t) h)
  other_kind w (inr (inl h)) = inr (inl h)
  other_kind w (inr (inr h)) = inr (inr (other_factor w h))

  other_ranks : (s t : Token) → HaveOtherRanks infos line s t → HaveOtherRanks more line s t
  other_ranks s t (q, r, e, f, ne) = (q, r, sym (same (text_of line s)) ∙ e, sym (same (text_of line t)) ∙ f, ne)

  other_operands : (w : WrittenOperation) → HasOtherOperands ring infos line w → HasOtherOperands ring more line w
  other_operands (of_two binaries.Sum s t) h = other_ranks s t h
  other_operands (of_two binaries.Intersect s t) h = other_ranks s t h
  other_operands (of_two binaries.Colon s t) h = other_ranks s t h
  other_operands (of_two binaries.Product s t) h = absurd h
  other_operands (of_polynomial word t p) h = absurd h
  other_operands (elimination t count) h = absurd h
  other_operands (syzygies t) (n, e, out) = (n, sym (as_long (text_of line t)) ∙ e, out)
  other_operands (preimage t ps) h = h

  other_rank : (w : Written) → HasOtherRank ring infos line w → HasOtherRank ring more line w
  other_rank (divide_line d t ps) (r, e, ne) = (r, sym (same (text_of line t)) ∙ e, ne)
  other_rank (equal_line s t) h = other_ranks s t h
  other_rank (change_line t o) (r, e, ne) = (r, sym (same (text_of line t)) ∙ e, ne)
  other_rank (let_line t w) h = other_operands w h
  other_rank (module_line t k vs) h = h
  other_rank (ideal_line t ps) h = h
  other_rank nothing h = h
  other_rank (ring_line words) h = h
  other_rank (show_line p) h = h
  other_rank (ask_line q t) h = h
  other_rank (express_line p ps) h = h
  other_rank (ext_line t k) h = h

  pub holds_alike : (kind : Kind) → RefusalHolds ring infos line kind → RefusalHolds ring more line kind
  holds_alike kinds.Syntax h = h
  holds_alike kinds.Numeral h = h
  holds_alike kinds.Ring h = h
  holds_alike kinds.Modulus h = h
  holds_alike kinds.Name h = (h.0, h.1, unknown h.0 h.2)
  holds_alike kinds.OfKind h = (h.0, h.1, other_kind h.0 h.2)
  holds_alike kinds.Rank h = (h.0, h.1, other_rank h.0 h.2)
  holds_alike kinds.Degree h = h
  holds_alike kinds.Leads h = h
  holds_alike kinds.Large h = h
  holds_alike kinds.Infinite h = h
  holds_alike kinds.Many h = h
  holds_alike kinds.Homogeneous h = h

module _ (values : List Value) (infos more : List NameInfo) (told : AreInfosOf values infos) (told' : AreInfosOf values more) where
  ranks_alike : (text : List ℕ) → rank_named infos text ≡ rank_named more text
  ranks_alike text = ranks_told values infos text told ∙ sym (ranks_told values more text told')

  lengths_alike : (text : List ℕ) → length_named infos text ≡ length_named more text
  lengths_alike text = lengths_told values infos text told ∙ sym (lengths_told values more text told')

  pub states_alike : (ring : Option Ring) (line : List ℕ) (s : Statement) → States ring infos line s → States ring more line s
  states_alike ring line s h = record {
    written = h.written;
    is_line = h.is_line;
    free = λ kind x. h.free kind (holds_alike ring more infos line (λ text. sym (ranks_alike text)) (λ text. sym (lengths_alike text)) kind x);
    says = h.says;
  }

  pub refuses_alike : (ring : Option Ring) (line : List ℕ) (k : Kind) → Refuses ring infos line k → Refuses ring more line k
  refuses_alike ring line k h = record {
    holds = holds_alike ring infos more line ranks_alike lengths_alike k h.holds;
    first = λ earlier lt x. h.first earlier lt (holds_alike ring more infos line (λ text. sym (ranks_alike text)) (λ text. sym (lengths_alike text)) earlier x);
  }

-- ---- what is stated is fit to be done
polynomials_fit : (ring : Ring) (line : List ℕ) (ps : List Poly) (vs : List (List (Key × ℕ))) → ArePolynomialsOf ring line ps vs
    → AreVectorsOver ring (ring_comparison ring) vs × Each (HasPositions 1) vs
polynomials_fit ring line [] [] h = (tt, tt)
polynomials_fit ring line [] (v ∷ vs) h = absurd h
polynomials_fit ring line (p ∷ ps) [] h = absurd h
polynomials_fit ring line (p ∷ ps) (v ∷ vs) h = let r = polynomials_fit ring line ps vs h.1 in ((h.0.0, r.0), (h.0.1, r.1))

vectors_fit : (ring : Ring) (line : List ℕ) (rank : ℕ) (es : List (List Poly)) (vs : List (List (Key × ℕ))) → AreVectorsOf ring line rank es vs
    → AreVectorsOver ring (ring_comparison ring) vs × Each (HasPositions rank) vs
vectors_fit ring line rank [] [] h = (tt, tt)
vectors_fit ring line rank [] (v ∷ vs) h = absurd h
vectors_fit ring line rank (e ∷ es) [] h = absurd h
vectors_fit ring line rank (e ∷ es) (v ∷ vs) h = let r = vectors_fit ring line rank es vs h.1 in ((h.0.0, r.0), (h.0.1, r.1))

-- a number that is not outside is from 1 to the last one
within : (k : ℕ) → (IsOutside 64 k → ⊥) → IsValueRank k
within zero h = absurd (h (inl refl))
within (suc k) h = (omega arith, go (cases_lt 64 (suc k)))
  where
    go : (64 < suc k) ⊎ (suc k ≤ 64) → suc k ≤ 64
    go (inl lt) = absurd (h (inr lt))
    go (inr le) = le

at_most_one : (r : ℕ) → (1 < r → ⊥) → r ≤ 1
at_most_one r h = go (cases_lt 1 r)
  where
    go : (1 < r) ⊎ (r ≤ 1) → r ≤ 1
    go (inl lt) = absurd (h lt)
    go (inr le) = le

-- numbers that are not different are one
not_other : (m n : ℕ) → ((m ≡ n → ⊥) → ⊥) → m ≡ n
not_other m n k = go (eqb_tells m n)
  where
    go : {P Q : Type 0} → (P × (m ≡ n)) ⊎ (Q × (m ≡ n → ⊥)) → m ≡ n
    go (inl h) = h.1
    go (inr h) = absurd (k h.1)

-- as many polynomials as there are variables are the images of these
images_fit :
    (ring : Ring) (line : List ℕ) (ps : List Poly) (vs : List (List (Key × ℕ))) → ArePolynomialsOf ring line ps vs → (HasOtherImages (Some ring) ps → ⊥)
    → AreImages ring vs
images_fit ring line ps vs h as_many = (
  polynomials_fit ring line ps vs h,
  sym (as_long ps vs h) ∙ not_other (length ps) (variables ring) as_many,
)
  where
    as_long : (ps : List Poly) (vs : List (List (Key × ℕ))) → ArePolynomialsOf ring line ps vs → length ps ≡ length vs
    as_long [] [] h = refl
    as_long [] (v ∷ vs) h = absurd h
    as_long (p ∷ ps) [] h = absurd h
    as_long (p ∷ ps) (v ∷ vs) h = ap suc (as_long ps vs h.1)

value_of_rank : (o : Option Value) (r : ℕ) → rank_of o ≡ Some r → (v : Value) × (o ≡ Some v) × (v.rank ≡ r)
value_of_rank None r e = absurd cc
value_of_rank (Some v) r e = (v, refl, inner e)
  where
    inner : {X : Type 0} {x y : X} → Some x ≡ Some y → x ≡ y
    inner e = cc

module _ (values : List Value) (infos : List NameInfo) (line : List ℕ) (told : AreInfosOf values infos) where
  -- a name in a value's place is that of a value
  placed :
      (ring : Ring) (w : Written) (t : Token) → IsLine line w → ((kind : Kind) → RefusalHolds (Some ring) infos line kind → ⊥) → Contains (value_places w) t
      → (v : Value) × (value_named values (text_of line t) ≡ Some v) × (rank_named infos (text_of line t) ≡ Some v.rank)
  placed ring w t is free stands = go (rank_named infos (text_of line t)) refl
    where
      none_there : rank_named infos (text_of line t) ≡ None → IsNamed infos (text_of line t) → ⊥
      none_there e h = apart (sym e ∙ h.1)
        where
          apart : {X : Type 0} {x : X} → None ≡ Some x → ⊥
          apart e = cc

      go : (o : Option ℕ) → rank_named infos (text_of line t) ≡ o → (v : Value) × (value_named values (text_of line t) ≡ Some v)
          × (rank_named infos (text_of line t) ≡ Some v.rank)
      go None e = absurd (free kinds.Name (w, is, inl (t, inr stands, (λ h. free kinds.OfKind (w, is, inr (inl (t, stands, h)))), none_there e)))
      go (Some r) e =
          let x = value_of_rank (value_named values (text_of line t)) r (sym (ranks_told values infos (text_of line t) told) ∙ e) in
          (x.0, x.1, e ∙ ap Some (sym x.2))

  at_name :
      (ring : Ring) (name text : List ℕ) (v : Value) → name ≡ text → value_named values text ≡ Some v
      → HasValue (record { ring = Some ring; values = values }) name ring v
  at_name ring name text v e h = record { stated = refl; named = ap (value_named values) e ∙ h }

  given :
      (ring : Ring) (w : Written) (t : Token) (name : List ℕ) → IsLine line w → ((kind : Kind) → RefusalHolds (Some ring) infos line kind → ⊥)
      → Contains (value_places w) t → name ≡ text_of line t
      → (v : Value) × HasValue (record { ring = Some ring; values = values }) name ring v × (rank_named infos (text_of line t) ≡ Some v.rank)
  given ring w t name is free stands e =
      let x = placed ring w t is free stands in
      (x.0, at_name ring name (text_of line t) x.0 e x.1, x.2)

  -- the value with a name that a line asks of
  asked_of :
      (ring : Option Ring) (q : QuestionWord) (t : Token) (name : List ℕ) → IsLine line (ask_line q t)
      → ((kind : Kind) → RefusalHolds ring infos line kind → ⊥) → name ≡ text_of line t → IsGiven (record { ring = ring; values = values }) name
  asked_of None q t name is free e = absurd (free kinds.Ring (ask_line q t, is, refl))
  asked_of (Some r) q t name is free e =
      let x = given r (ask_line q t) t name is free (0, omega arith, refl) e in
      (r, x.0, x.1)

  -- the ideal with the name that an order is stated for
  ideal_of :
      (ring : Option Ring) (t : Token) (o : OrderName) (name : List ℕ) → IsLine line (change_line t o)
      → ((kind : Kind) → RefusalHolds ring infos line kind → ⊥) → name ≡ text_of line t → IsIdealGiven (record { ring = ring; values = values }) name
  ideal_of None t o name is free e = absurd (free kinds.Ring (change_line t o, is, inl refl))
  ideal_of (Some r) t o name is free e =
      let x = given r (change_line t o) t name is free (0, omega arith, refl) e in
      (r, x.0, x.1, not_other x.0.rank 1 (λ ne. free kinds.Rank (change_line t o, is, (x.0.rank, x.2, ne))))

  -- the value with the name that a step is stated for
  ext_of :
      (ring : Option Ring) (t k : Token) (name : List ℕ) → IsLine line (ext_line t k)
      → ((kind : Kind) → RefusalHolds ring infos line kind → ⊥) → name ≡ text_of line t → IsGiven (record { ring = ring; values = values }) name
  ext_of None t k name is free e = absurd (free kinds.Ring (ext_line t k, is, inl refl))
  ext_of (Some r) t k name is free e =
      let x = given r (ext_line t k) t name is free (0, omega arith, refl) e in
      (r, x.0, x.1)

  -- the value with a name that a vector is divided by
  divided_by :
      (r : Ring) (d : DivisionWord) (t : Token) (ps : List Poly) (name : List ℕ) (v : List (Key × ℕ)) → IsLine line (divide_line d t ps)
      → ((kind : Kind) → RefusalHolds (Some r) infos line kind → ⊥) → name ≡ text_of line t → IsVectorOver r (ring_comparison r) v
      → IsOfValue (record { ring = Some r; values = values }) name v
  divided_by r d t ps name v is free e vector =
      let x = given r (divide_line d t ps) t name is free (0, omega arith, refl) e in
      (r, x.0, x.1, vector)

  -- the same, of as many entries as the value's rank
  lifted_over :
      (r : Ring) (t : Token) (ps : List Poly) (name : List ℕ) (v : List (Key × ℕ)) → IsLine line (divide_line divisions.Lift t ps)
      → ((kind : Kind) → RefusalHolds (Some r) infos line kind → ⊥) → name ≡ text_of line t → IsVectorOver r (ring_comparison r) v → HasPositions (length ps) v
      → IsOfValueRank (record { ring = Some r; values = values }) name v
  lifted_over r t ps name v is free e vector positions =
      let x = given r (divide_line divisions.Lift t ps) t name is free (0, omega arith, refl) e in
      let rank = not_other (length ps) x.0.rank (λ ne. free kinds.Rank (divide_line divisions.Lift t ps, is, (x.0.rank, x.2, ne))) in
      (r, x.0, x.1, vector, subst (λ m. HasPositions m v) rank positions)

  -- values with two names, whose ranks pass a test
  two_given :
      (r : Ring) (w : Written) (s t : Token) (a b : List ℕ) (Test : ℕ → ℕ → Type 0) → IsLine line w → ((kind : Kind) → RefusalHolds (Some r) infos line kind → ⊥)
      → Contains (value_places w) s → Contains (value_places w) t → a ≡ text_of line s → b ≡ text_of line t
      → ((m n : ℕ) → rank_named infos (text_of line s) ≡ Some m → rank_named infos (text_of line t) ≡ Some n → Test m n)
      → AreGiven (record { ring = Some r; values = values }) a b Test
  two_given r w s t a b Test is free at_s at_t e f passes =
      let x = given r w s a is free at_s e in
      let y = given r w t b is free at_t f in
      (r, x.0, y.0, x.1, y.1, passes x.0.rank y.0.rank x.2 y.2)

  -- the values with names that are compared: their ranks are one
  compared :
      (ring : Option Ring) (s t : Token) (a b : List ℕ) → IsLine line (equal_line s t)
      → ((kind : Kind) → RefusalHolds ring infos line kind → ⊥) → a ≡ text_of line s → b ≡ text_of line t
      → AreGiven (record { ring = ring; values = values }) a b (λ m n. m ≡ n)
  compared None s t a b is free e f = absurd (free kinds.Ring (equal_line s t, is, refl))
  compared (Some r) s t a b is free e f =
      two_given r (equal_line s t) s t a b (λ m n. m ≡ n) is free (0, omega arith, refl) (1, omega arith, refl) e f
      (λ m n p q. not_other m n (λ ne. free kinds.Rank (equal_line s t, is, (m, n, p, q, ne))))

  -- the names of an operation are those of values that it can work on
  of_one_rank :
      (r : Ring) (word : Binary) (g s t : Token) (a b : List ℕ) → IsLine line (let_line g (of_two word s t))
      → ((kind : Kind) → RefusalHolds (Some r) infos line kind → ⊥)
      → (HaveOtherRanks infos line s t → HasOtherOperands (Some r) infos line (of_two word s t)) → a ≡ text_of line s → b ≡ text_of line t
      → AreGiven (record { ring = Some r; values = values }) a b (λ m n. m ≡ n)
  of_one_rank r word g s t a b is free holds e f =
      two_given r (let_line g (of_two word s t)) s t a b (λ m n. m ≡ n) is free (0, omega arith, refl) (1, omega arith, refl) e f
      (λ m n p q. not_other m n (λ ne. free kinds.Rank (let_line g (of_two word s t), is, holds (m, n, p, q, ne))))

  with_polynomial :
      (r : Ring) (w : Written) (t : Token) (name : List ℕ) (f : List (Key × ℕ)) → IsLine line w
      → ((kind : Kind) → RefusalHolds (Some r) infos line kind → ⊥) → Contains (value_places w) t → name ≡ text_of line t
      → IsVectorOver r (ring_comparison r) f → HasPositions 1 f → IsWithPolynomial (record { ring = Some r; values = values }) name f
  with_polynomial r w t name f is free stands e vector positions =
      let x = given r w t name is free stands e in
      (r, x.0, x.1, vector, positions)

  length_some : (o : Option Value) (v : Value) → o ≡ Some v → length_of o ≡ Some (length v.list)
  length_some o v e = ap length_of e

  workable :
      (r : Ring) (g : Token) (w : WrittenOperation) (x : Operation) → IsLine line (let_line g w) → ((kind : Kind) → RefusalHolds (Some r) infos line kind → ⊥)
      → IsOperationOf r line w x → IsOperable (record { ring = Some r; values = values }) x
  workable r g (of_two binaries.Sum s t) (operations.Sum a b) is free h =
      of_one_rank r binaries.Sum g s t (string_bytes a) (string_bytes b) is free (λ z. z) h.0 h.1
  workable r g (of_two binaries.Sum s t) _ is free h = absurd h
  workable r g (of_two binaries.Intersect s t) (operations.Intersect a b) is free h =
      of_one_rank r binaries.Intersect g s t (string_bytes a) (string_bytes b) is free (λ z. z) h.0 h.1
  workable r g (of_two binaries.Intersect s t) _ is free h = absurd h
  workable r g (of_two binaries.Colon s t) (operations.Colon a b) is free h =
      of_one_rank r binaries.Colon g s t (string_bytes a) (string_bytes b) is free (λ z. z) h.0 h.1
  workable r g (of_two binaries.Colon s t) _ is free h = absurd h
  workable r g (of_two binaries.Product s t) (operations.Product a b) is free h =
      two_given r (let_line g (of_two binaries.Product s t)) s t (string_bytes a) (string_bytes b) (λ m n. m ≤ 1) is free
      (0, omega arith, refl) (1, omega arith, refl) h.0 h.1
      (λ m n p q. at_most_one m (λ lt. free kinds.OfKind (let_line g (of_two binaries.Product s t), is, inr (inr (m, p, lt)))))
  workable r g (of_two binaries.Product s t) _ is free h = absurd h
  workable r g (of_polynomial divisors.Quotient t p) (operations.Quotient a f) is free h =
      with_polynomial r (let_line g (of_polynomial divisors.Quotient t p)) t (string_bytes a) f is free (0, omega arith, refl) h.0 h.1.0 h.1.1
  workable r g (of_polynomial divisors.Quotient t p) _ is free h = absurd h
  workable r g (of_polynomial divisors.Saturate t p) (operations.Saturate a f) is free h =
      with_polynomial r (let_line g (of_polynomial divisors.Saturate t p)) t (string_bytes a) f is free (0, omega arith, refl) h.0 h.1.0 h.1.1
  workable r g (of_polynomial divisors.Saturate t p) _ is free h = absurd h
  workable r g (elimination t count) (operations.Eliminate a k) is free h =
      let x = given r (let_line g (elimination t count)) t (string_bytes a) is free (0, omega arith, refl) h.0 in
      (r, x.0, x.1)
  workable r g (elimination t count) _ is free h = absurd h
  workable r g (syzygies t) (operations.Syzygies a) is free h =
      let x = placed r (let_line g (syzygies t)) t is free (0, omega arith, refl) in
      let long = lengths_told values infos (text_of line t) told ∙ length_some (value_named values (text_of line t)) x.0 x.1 in (
        r,
        x.0,
        at_name r (string_bytes a) (text_of line t) x.0 h x.1,
        within (length x.0.list) (λ out. free kinds.Rank (let_line g (syzygies t), is, (length x.0.list, long, out))),
      )
  workable r g (syzygies t) _ is free h = absurd h
  workable r g (preimage t ps) (operations.Preimage a images) is free h =
      let w = let_line g (preimage t ps) in
      let x = given r w t (string_bytes a) is free (0, omega arith, refl) h.0 in
      let ideal = at_most_one x.0.rank (λ lt. free kinds.OfKind (w, is, inr (inr (x.0.rank, x.2, lt)))) in
      (r, x.0, x.1, ideal, images_fit r line ps images h.1 (λ other. free kinds.Rank (w, is, other)))
  workable r g (preimage t ps) _ is free h = absurd h

  fit :
      (ring : Option Ring) (w : Written) (s : Statement) → IsLine line w → ((kind : Kind) → RefusalHolds ring infos line kind → ⊥)
      → Says ring line w s → IsFit (record { ring = ring; values = values }) s
  fit ring nothing statements.Nothing is free h = tt
  fit ring nothing _ is free h = absurd h
  fit ring (ring_line words) (statements.Ring r) is free h = tt
  fit ring (ring_line words) _ is free h = absurd h
  fit (Some r) (show_line p) (statements.Show v) is free h = (r, refl, h.0)
  fit (Some r) (show_line p) _ is free h = absurd h
  fit None (show_line p) s is free h = absurd h
  fit (Some r) (ideal_line t ps) (statements.Ideal name list) is free h = let x = polynomials_fit r line ps list h.1 in (r, refl, x.0, x.1)
  fit (Some r) (ideal_line t ps) _ is free h = absurd h
  fit None (ideal_line t ps) s is free h = absurd h
  fit (Some r) (module_line t k es) (statements.Module name rank list) is free h =
      let x = vectors_fit r line (numeral_value line k) es list h.2 in (
        r,
        refl,
        x.0,
        subst (λ m. Each (HasPositions m) list) (sym h.1) x.1,
        subst IsValueRank (sym h.1) (within (numeral_value line k) (λ out. free kinds.Rank (module_line t k es, is, inl out))),
      )
  fit (Some r) (module_line t k es) _ is free h = absurd h
  fit None (module_line t k es) s is free h = absurd h
  fit (Some r) (let_line t w) (statements.Let name x) is free h = workable r t w x is free h.1
  fit (Some r) (let_line t w) _ is free h = absurd h
  fit None (let_line t w) s is free h = absurd h
  fit ring (ask_line questions.Gens t) (statements.Gens name) is free h = asked_of ring questions.Gens t (string_bytes name) is free h
  fit ring (ask_line questions.Gens t) _ is free h = absurd h
  fit ring (ask_line questions.Gb t) (statements.Gb name) is free h = asked_of ring questions.Gb t (string_bytes name) is free h
  fit ring (ask_line questions.Gb t) _ is free h = absurd h
  fit ring (ask_line questions.Size t) (statements.Size name) is free h = asked_of ring questions.Size t (string_bytes name) is free h
  fit ring (ask_line questions.Size t) _ is free h = absurd h
  fit ring (ask_line questions.Hilbert t) (statements.Hilbert name) is free h = asked_of ring questions.Hilbert t (string_bytes name) is free h
  fit ring (ask_line questions.Hilbert t) _ is free h = absurd h
  fit ring (ask_line questions.Resolution t) (statements.Resolution name) is free h = asked_of ring questions.Resolution t (string_bytes name) is free h
  fit ring (ask_line questions.Resolution t) _ is free h = absurd h
  fit ring (ask_line questions.Minimal t) (statements.Minimal name) is free h = asked_of ring questions.Minimal t (string_bytes name) is free h
  fit ring (ask_line questions.Minimal t) _ is free h = absurd h
  fit ring (ask_line questions.Betti t) (statements.Betti name) is free h = asked_of ring questions.Betti t (string_bytes name) is free h
  fit ring (ask_line questions.Betti t) _ is free h = absurd h
  fit ring (ask_line questions.Regularity t) (statements.Regularity name) is free h = asked_of ring questions.Regularity t (string_bytes name) is free h
  fit ring (ask_line questions.Regularity t) _ is free h = absurd h
  fit (Some r) (divide_line divisions.NormalForm t ps) (statements.NormalForm name v) is free h =
      divided_by r divisions.NormalForm t ps (string_bytes name) v is free h.0 h.1.0
  fit (Some r) (divide_line divisions.NormalForm t ps) _ is free h = absurd h
  fit (Some r) (divide_line divisions.Member t ps) (statements.Member name v) is free h =
      divided_by r divisions.Member t ps (string_bytes name) v is free h.0 h.1.0
  fit (Some r) (divide_line divisions.Member t ps) _ is free h = absurd h
  fit (Some r) (divide_line divisions.Lift t ps) (statements.Lift name v) is free h =
      lifted_over r t ps (string_bytes name) v is free h.0 h.1.0 h.1.1
  fit (Some r) (divide_line divisions.Lift t ps) _ is free h = absurd h
  fit None (divide_line d t ps) s is free h = absurd h
  fit ring (change_line t o) (statements.Change name order) is free h = ideal_of ring t o (string_bytes name) is free h.0
  fit ring (change_line t o) _ is free h = absurd h
  fit (Some r) (express_line p ps) (statements.Express f images) is free h =
      (r, refl, (h.0.0, h.0.1), images_fit r line ps images h.1 (λ other. free kinds.Rank (express_line p ps, is, other)))
  fit (Some r) (express_line p ps) _ is free h = absurd h
  fit None (express_line p ps) s is free h = absurd h
  fit ring (ext_line t k) (statements.Ext name step) is free h = ext_of ring t k (string_bytes name) is free h.0
  fit ring (ext_line t k) _ is free h = absurd h
  fit ring (equal_line s t) (statements.Equal a b) is free h = compared ring s t (string_bytes a) (string_bytes b) is free h.0 h.1
  fit ring (equal_line s t) _ is free h = absurd h

pub stated_fits : (before : ScriptState) (infos : List NameInfo) (line : List ℕ) (s : Statement) → AreInfosOf before.values infos → States before.ring infos line s
    → IsFit before s
stated_fits before infos line s told h = fit before.values infos line told before.ring h.written s h.is_line h.free h.says
