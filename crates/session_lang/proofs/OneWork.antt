-- An operation has one result
use Rattle.std.proofs.Common.{List, ap, ap₂, refl, subst, subst₂, sym, ℕ, ◌∙◌, ◌≡◌}
use Rattle.std.specs.Prelude.{string_bytes}
use Rattle.formal_sums.proofs.Combining.{IsMember_itself}
use Rattle.formal_sums.specs.Combinations.{IsSameModule}
use Rattle.formal_sums.specs.FormalSums.{FormalSum}
use Rattle.bases.specs.Bases.{IsReducedBasis}
use Rattle.reduced_bases.proofs.Comparing.{IsReducedBasis_same}
use Rattle.term_lists.specs.Rings.{ring_comparison, setting, variables}
use Rattle.term_lists.specs.Vectors.{sums_of}
use Rattle.term_lists.specs.declared.key.Key.{Key}
use Rattle.term_lists.specs.declared.ring.Ring.{Ring}
use Rattle.script_parse.proofs.Working.{lawful}
use Rattle.script_parse.specs.Statements.{IsSameOperation}
use Rattle.script_parse.specs.declared.operation.Operation.{Operation}
use Rattle.script_parse.specs.declared.operation.Operation.TheVariants as operations
use Rattle.syzygy_engine.specs.Answers.{IsBasisOfThose}
use Rattle.session_lang.proofs.OneForm.{one_reduced}
use Rattle.session_lang.proofs.OneAnswer.{one_ring, one_value}
use Rattle.session_lang.specs.Lines.{OperationGives}
use Rattle.session_values.specs.Names.{HasValue, ScriptState, Value}
use Rattle.session_values.specs.Operations.{IsInResult, IsResult, TaskShown, WorksOn, colon, eliminate, intersect, multiply, preimage, quotient, result_rank, saturate, sum, syzygies}

abbrev Lists : Type 0
Lists = List (List (Key × ℕ))

-- bases of the same vectors have one module, and each is its own basis
pub basis_once :
    (ring : Ring) (rank : ℕ) (property : FormalSum (variables ring) → Type 0) (A B : Lists) → IsBasisOfThose ring rank property A
    → IsBasisOfThose ring rank property B → A ≡ B
basis_once ring rank property A B a b =
    one_reduced ring rank B A B (record { vectors = a.basis.vectors; positions = a.basis.positions; basis = moved }) b.basis
  where
    same : IsSameModule ring.modulus.value (sums_of (variables ring) A) (sums_of (variables ring) B)
    same = record {
      inside = λ i lt. (b.members _).1 ((a.members _).0 (IsMember_itself ring.modulus.value (sums_of (variables ring) A) i lt));
      outside = λ i lt. (a.members _).1 ((b.members _).0 (IsMember_itself ring.modulus.value (sums_of (variables ring) B) i lt));
    }

    moved :
        let n = variables ring in
        IsReducedBasis (setting ring n (ring_comparison ring n) rank) (sums_of n B) (sums_of n A)
    moved =
        IsReducedBasis_same (setting ring (variables ring) (ring_comparison ring (variables ring)) rank) (lawful ring rank)
        (sums_of (variables ring) A) (sums_of (variables ring) B) (sums_of (variables ring) A) same a.basis.basis

-- so an operation on lists has one result
pub result_once : (ring : Ring) (work : TaskShown) (A B : Lists) → IsResult ring work A → IsResult ring work B → A ≡ B
result_once ring work A B a b = basis_once ring (result_rank work) (IsInResult ring work) A B a b

module _ (before : ScriptState) where
  -- the work on two values, by their names
  two_once :
      (F : Value → Value → TaskShown) (a b c d : List ℕ) (r s : Ring) (v w : TaskShown) → a ≡ c → b ≡ d
      → ((left right : Value) × HasValue before a r left × HasValue before b r right × (v ≡ F left right))
      → ((left right : Value) × HasValue before c s left × HasValue before d s right × (w ≡ F left right)) → (r ≡ s) × (v ≡ w)
  two_once F a b c d r s v w e f g h =
      let first : HasValue before a s h.0 = subst (λ z. HasValue before z s h.0) (sym e) h.2 in
      let second : HasValue before b s h.1 = subst (λ z. HasValue before z s h.1) (sym f) h.3 in (
        one_ring before a a r s g.0 h.0 g.2 first,
        g.4 ∙ ap₂ F (one_value before a r s g.0 h.0 g.2 first) (one_value before b r s g.1 h.1 g.3 second) ∙ sym h.4,
      )

  -- the work on one
  one_once :
      {X : Type 0} (F : Value → X → TaskShown) (a c : List ℕ) (x y : X) (r s : Ring) (v w : TaskShown) → a ≡ c → x ≡ y
      → ((value : Value) × HasValue before a r value × (v ≡ F value x)) → ((value : Value) × HasValue before c s value × (w ≡ F value y)) → (r ≡ s) × (v ≡ w)
  one_once F a c x y r s v w e f g h =
      let there : HasValue before a s h.0 = subst (λ z. HasValue before z s h.0) (sym e) h.1 in
      (one_ring before a a r s g.0 h.0 g.1 there, g.2 ∙ ap₂ F (one_value before a r s g.0 h.0 g.1 there) f ∙ sym h.2)

  works_once : (x y : Operation) (r s : Ring) (v w : TaskShown) → IsSameOperation x y → WorksOn before x r v → WorksOn before y s w → (r ≡ s) × (v ≡ w)
  works_once (operations.Sum a b) (operations.Sum c d) r s v w e g h =
      two_once (λ left right. sum left.rank left.list right.list) (string_bytes a) (string_bytes b) (string_bytes c) (string_bytes d) r s v w e.0 e.1 g h
  works_once (operations.Sum a b) _ r s v w e g h = absurd e
  works_once (operations.Product a b) (operations.Product c d) r s v w e g h =
      two_once (λ left right. multiply right.rank left.list right.list) (string_bytes a) (string_bytes b) (string_bytes c) (string_bytes d) r s v w e.0 e.1 g h
  works_once (operations.Product a b) _ r s v w e g h = absurd e
  works_once (operations.Intersect a b) (operations.Intersect c d) r s v w e g h =
      two_once (λ left right. intersect left.rank left.list right.list) (string_bytes a) (string_bytes b) (string_bytes c) (string_bytes d) r s v w e.0 e.1 g h
  works_once (operations.Intersect a b) _ r s v w e g h = absurd e
  works_once (operations.Colon a b) (operations.Colon c d) r s v w e g h =
      two_once (λ left right. colon left.rank left.list right.list) (string_bytes a) (string_bytes b) (string_bytes c) (string_bytes d) r s v w e.0 e.1 g h
  works_once (operations.Colon a b) _ r s v w e g h = absurd e
  works_once (operations.Quotient a f) (operations.Quotient c k) r s v w e g h =
      one_once (λ value x. quotient value.rank value.list x) (string_bytes a) (string_bytes c) f k r s v w e.0 e.1 g h
  works_once (operations.Quotient a f) _ r s v w e g h = absurd e
  works_once (operations.Saturate a f) (operations.Saturate c k) r s v w e g h =
      one_once (λ value x. saturate value.rank value.list x) (string_bytes a) (string_bytes c) f k r s v w e.0 e.1 g h
  works_once (operations.Saturate a f) _ r s v w e g h = absurd e
  works_once (operations.Eliminate a i) (operations.Eliminate c k) r s v w e g h =
      one_once (λ value x. eliminate value.rank value.list x) (string_bytes a) (string_bytes c) i k r s v w e.0 e.1 g h
  works_once (operations.Eliminate a i) _ r s v w e g h = absurd e
  works_once (operations.Syzygies a) (operations.Syzygies c) r s v w e g h =
      one_once (λ value x. syzygies value.rank value.list) (string_bytes a) (string_bytes c) (string_bytes c) (string_bytes c) r s v w e refl g h
  works_once (operations.Syzygies a) _ r s v w e g h = absurd e
  works_once (operations.Preimage a f) (operations.Preimage c k) r s v w e g h =
      one_once (λ value x. preimage x value.list) (string_bytes a) (string_bytes c) f k r s v w e.0 e.1 g h
  works_once (operations.Preimage a f) _ r s v w e g h = absurd e

  -- an operation gives one list of one rank
  pub gives_once :
      (x y : Operation) (r s : Ring) (m n : ℕ) (A B : Lists) → IsSameOperation x y → OperationGives before x r m A → OperationGives before y s n B → (m ≡ n) × (A ≡ B)
  gives_once x y r s m n A B e g h =
      let z = works_once x y r s g.0 h.0 e g.1 h.1 in
      let there : IsResult r g.0 B = subst₂ (λ q w. IsResult q w B) (sym z.0) (sym z.1) h.3 in
      (g.2 ∙ ap result_rank z.1 ∙ sym h.2, result_once r g.0 A B g.3 there)
