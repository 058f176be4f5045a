-- What is asked of a value has one answer
use Rattle.std.proofs.Common.{List, Some, [], ap, codes, inl, inr, subst₂, sym, ℕ, ◌++◌, ◌∙◌, ◌∷◌, ◌≡◌}
use Rattle.term_lists.specs.declared.ring.Ring.{Ring}
use Rattle.poly_text.specs.Texts.{names_of, vector_text}
use Rattle.session_lang.proofs.OneForm.{one_form, one_reduced}
use Rattle.session_values.specs.Answers.{Asked, Decides, IsAnswer, basis, member, normal_form, sizes_of_basis}
use Rattle.session_lang.specs.Lines.{AnswersAsked}
use Rattle.session_values.specs.Names.{HasValue, ScriptState, Value}
use Rattle.session_values.specs.Texts.{listing, sizes}

pub some_same : {X : Type 0} {x y : X} → Some x ≡ Some y → x ≡ y
some_same e = cc

-- a name has one value, over one ring
pub one_ring : (before : ScriptState) (name more : List ℕ) (r s : Ring) (v w : Value) → HasValue before name r v → HasValue before more s w → r ≡ s
one_ring before name more r s v w g h = some_same (sym g.stated ∙ h.stated)

pub one_value : (before : ScriptState) (name : List ℕ) (r s : Ring) (v w : Value) → HasValue before name r v → HasValue before name s w → v ≡ w
one_value before name r s v w g h = some_same (sym g.named ∙ h.named)

pub decides_once : (P : Type 0) (x y : List ℕ) → Decides P x → Decides P y → x ≡ y
decides_once P x y (inl h) (inl k) = h.1 ∙ sym k.1
decides_once P x y (inl h) (inr k) = absurd (k.0 h.0)
decides_once P x y (inr h) (inl k) = absurd (h.0 k.0)
decides_once P x y (inr h) (inr k) = h.1 ∙ sym k.1

answer_once : (ring : Ring) (value : Value) (asked : Asked) (x y : List ℕ) → IsAnswer ring value asked x → IsAnswer ring value asked y → x ≡ y
answer_once ring value basis x y g h =
    g.2 ∙ ap (λ G. listing (codes "gb") ring value G) (one_reduced ring value.rank value.list g.0 h.0 g.1 h.1) ∙ sym h.2
answer_once ring value sizes_of_basis x y g h = g.2 ∙ ap (λ G. sizes value G) (one_reduced ring value.rank value.list g.0 h.0 g.1 h.1) ∙ sym h.2
answer_once ring value (normal_form v) x y g h =
    g.2 ∙ ap (λ w. vector_text (names_of ring) value.rank w ++ 10 ∷ []) (one_form ring value.rank value.list v g.0 h.0 g.1 h.1) ∙ sym h.2
answer_once ring value (member v) x y g h = decides_once _ x y g h

pub answers_once : (before : ScriptState) (name : List ℕ) (asked : Asked) (x y : List ℕ) → AnswersAsked before name asked x → AnswersAsked before name asked y → x ≡ y
answers_once before name asked x y g h =
    answer_once g.0 g.1 asked x y g.3
    (subst₂ (λ r v. IsAnswer r v asked y) (sym (one_ring before name name g.0 h.0 g.1 h.1 g.2 h.2)) (sym (one_value before name g.0 h.0 g.1 h.1 g.2 h.2)) h.3)
