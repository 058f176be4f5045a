-- The text of a lift (UAG chapter 5, section 3)
use Rattle.std.specs.Prelude.{List, [], false, length, ℕ, ◌++◌, ◌∷◌, ◌≡◌, ◌⊎◌}
use Rattle.term_lists.specs.Rings.{ring_comparison}
use Rattle.term_lists.specs.Vectors.{IsVectorOver}
use Rattle.term_lists.specs.declared.key.Key.{Key}
use Rattle.term_lists.specs.declared.ring.Ring.{Ring}
use Rattle.poly_text.specs.Texts.{entries_text, names_of}
use Rattle.syzygy_engine.specs.Lifts.{IsLiftOf}
use Rattle.session_values.specs.Answers.{IsInModule}
use Rattle.session_values.specs.Names.{Value}
use Rattle.session_values.specs.Texts.{verdict}

-- a is the lift of v to the list
abbrev pub IsLiftOver : Ring → List (List (Key × ℕ)) → (v a : List (Key × ℕ)) → Type 0
IsLiftOver ring list v a = IsVectorOver ring (ring_comparison ring) a × IsLiftOf ring list v a

-- the cofactors in brackets, one for each member
abbrev pub cofactor_text : Ring → List (List (Key × ℕ)) → List (Key × ℕ) → List ℕ
cofactor_text ring list a = entries_text (names_of ring) (length list) a ++ 10 ∷ []

-- the text is that of the lift of v to the stored list, or no where v is not in the module
abbrev pub IsLiftText : Ring → Value → List (Key × ℕ) → List ℕ → Type 0
IsLiftText ring value v text =
    ((a : List (Key × ℕ)) × IsLiftOver ring value.list v a × (text ≡ cofactor_text ring value.list a))
    ⊎ ((IsInModule ring value.list v → ⊥) × (text ≡ verdict false))
