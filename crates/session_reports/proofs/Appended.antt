-- Texts that were to be appended, and lifts
use Rattle.std.proofs.Common.{Bool, Err, List, None, Ok, Option, Result, Some, [], ap, ap₂, append_assoc, arith, inl}
use Rattle.std.proofs.Common.{inr, length, refl, subst, sym, ℕ, ◌++◌, ◌==◌, ◌∙◌, ◌∷◌, ◌≡◌, ◌↔◌}
use Rattle.std.proofs.lemmas.Bool.{true≢false}
use Rattle.std.proofs.lemmas.Bool.Decides.{nat_tests}
use Rattle.std.specs.Prelude.{IfErr, IfNone, IfSome, IsTrue, OnErr, OnOk, false}
use Rattle.groebner_iface.specs.declared.stop.OpStop.{OpStop}
use Rattle.groebner_iface.specs.declared.stop.OpStop.TheVariants as causes
use Rattle.term_lists.specs.Rings.{ring_comparison}
use Rattle.term_lists.specs.Vectors.{IsVectorOver}
use Rattle.term_lists.specs.declared.key.Key.{Key}
use Rattle.term_lists.specs.declared.ring.Ring.{Ring}
use Rattle.module_vectors.specs.declared.trail.WorkStop.{WorkStop}
use Rattle.module_vectors.specs.declared.trail.WorkStop.TheVariants as works
use Rattle.vector_division.specs.Divisions.{DivisionStops}
use Rattle.groebner_iface.specs.Stops.{op_stop_of_work}
use Rattle.poly_text.specs.Texts.{entries_text, names_of}
use Rattle.session_values.specs.Answers.{Asked, IsInModule, member, normal_form}
use Rattle.session_values.specs.Names.{Value}
use Rattle.session_values.specs.Texts.{verdict}
use Rattle.session_reports.specs.Asking.{AnswerStops}
use Rattle.session_reports.specs.Lifting.{IsLiftText, cofactor_text}
use Rattle.syzygy_engine.specs.Lifts.{IsLiftOf}

-- what became of a text, as the answer of the call that appends it
module _ {F : Type 0} (w : Result (Unit {0}) F) (r : Result (Unit {0}) OpStop) (ok : OnOk w (r ≡ Ok tt)) (err : OnErr w (r ≡ Err causes.Memory)) where
  pub appended_ok : (P Q : Type 0) → (P → Q) → OnOk w P → OnOk r Q
  appended_ok P Q f p = go w ok err p
    where
      go : (w : Result (Unit {0}) F) → OnOk w (r ≡ Ok tt) → OnErr w (r ≡ Err causes.Memory) → OnOk w P → OnOk r Q
      go (Ok u) o e p = subst (λ x. OnOk x Q) (sym o) (f p)
      go (Err x) o e p = subst (λ x. OnOk x Q) (sym e) tt

  pub appended_err : (P : Type 0) → OnErr w P → OnErr r P
  appended_err P p = go w ok err p
    where
      go : (w : Result (Unit {0}) F) → OnOk w (r ≡ Ok tt) → OnErr w (r ≡ Err causes.Memory) → OnErr w P → OnErr r P
      go (Ok u) o e p = subst (λ x. OnErr x P) (sym o) tt
      go (Err x) o e p = subst (λ x. OnErr x P) (sym e) p

  pub appended_stops : (ring : Ring) (asked : Asked) (basis : List (List (Key × ℕ))) → IfErr r (AnswerStops ring asked basis)
  appended_stops ring asked basis = go w ok err
    where
      go : (w : Result (Unit {0}) F) → OnOk w (r ≡ Ok tt) → OnErr w (r ≡ Err causes.Memory) → IfErr r (AnswerStops ring asked basis)
      go (Ok u) o e = subst (λ x. IfErr x (AnswerStops ring asked basis)) (sym o) tt
      go (Err x) o e = subst (λ x. IfErr x (AnswerStops ring asked basis)) (sym e) tt

-- the stop of a division, as one of the question that it is for
pub normal_form_stops :
    (ring : Ring) (v : List (Key × ℕ)) (basis : List (List (Key × ℕ))) (stop : WorkStop)
    → DivisionStops ring v basis stop → AnswerStops ring (normal_form v) basis (op_stop_of_work stop)
normal_form_stops ring v basis works.Memory h = tt
normal_form_stops ring v basis (works.Degree t) h = h

pub membership_stops :
    (ring : Ring) (v : List (Key × ℕ)) (basis : List (List (Key × ℕ))) (stop : WorkStop)
    → DivisionStops ring v basis stop → AnswerStops ring (member v) basis (op_stop_of_work stop)
membership_stops ring v basis works.Memory h = tt
membership_stops ring v basis (works.Degree t) h = h

-- the text that was written is that of the lift
pub lift_told :
    (ring : Ring) (value : Value) (list : List (List (Key × ℕ))) (v : List (Key × ℕ)) (count : ℕ) (lifted : Option (List (Key × ℕ))) (out new : List ℕ)
    → list ≡ value.list → count ≡ length list → IfSome lifted (IsLiftOf ring list v) → IfSome lifted (IsVectorOver ring (ring_comparison ring))
    → IfNone lifted (IsInModule ring list v → ⊥)
    → IfSome lifted (λ a. new ≡ out ++ (entries_text (names_of ring) count a ++ 10 ∷ [])) → IfNone lifted (new ≡ out ++ verdict false)
    → (text : List ℕ) × IsLiftText ring value v text × (new ≡ out ++ text)
lift_told ring value list v count (Some a) out new same counted lift vector none told silent = (
  cofactor_text ring value.list a,
  inl (a, (vector, subst (λ l. IsLiftOf ring l v a) same lift), refl),
  told ∙ ap (λ k. out ++ (entries_text (names_of ring) k a ++ 10 ∷ [])) (counted ∙ ap length same),
)
lift_told ring value list v count None out new same counted lift vector none told silent =
    (verdict false, inr (subst (λ l. IsInModule ring l v → ⊥) same none, refl), silent)

-- a test whether a list is empty
pub empty_list : {X : Type 0} (list : List X) (b : Bool) → b ≡ (length list == 0) → IsTrue b ↔ (list ≡ [])
empty_list [] b e = (λ t. refl, λ n. e)
empty_list (x ∷ list) b e =
    let some : (length (x ∷ list) == 0) ≡ false = grind (arith, nat_tests) in
    (λ t. absurd (true≢false (sym t ∙ e ∙ some)), λ n. cc)
