-- The text of a polynomial by others (IVA chapter 7, section 3)
use Rattle.std.specs.Prelude.{List, None, Option, Some, [], false, ℕ, ◌++◌, ◌∷◌, ◌≡◌}
use Rattle.term_lists.specs.declared.key.Key.{Key}
use Rattle.term_lists.specs.declared.ring.Ring.{Ring}
use Rattle.poly_text.specs.Texts.{names_of, poly_text}
use Rattle.ring_maps.specs.Maps.{IsExpressionAnswer}
use Rattle.session_values.specs.Texts.{verdict}

-- the polynomial on its line, or no
abbrev pub expression_text : Ring → Option (List (Key × ℕ)) → List ℕ
expression_text ring (Some p) = poly_text (names_of ring) p ++ 10 ∷ []
expression_text ring None = verdict false

-- the text is that of the one polynomial with the image f of which no term is divisible by a lead of the kernel, or no where there is
-- no polynomial with this image
abbrev pub IsExpressionText : Ring → (images : List (List (Key × ℕ))) → List (Key × ℕ) → List ℕ → Type 0
IsExpressionText ring images f text =
    (answer : Option (List (Key × ℕ))) × IsExpressionAnswer ring images f answer × (text ≡ expression_text ring answer)
