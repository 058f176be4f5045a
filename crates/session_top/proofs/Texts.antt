-- The lines of a text, from its front.
use Rattle.std.proofs.Common.{◌≡◌, ℕ, ◌<◌, Bool, true, false, ◌==◌, List, [], ◌∷◌, ◌++◌, length, refl, rules, arith}
use Rattle.byte_ports.specs.Lines.{HasNoNewline}
use Rattle.session_top.specs.Lines.{lines_of, whole_lines, lines_in}

not_newline : (b : ℕ) → (b ≡ 10 → ⊥) → (b == 10) ≡ false
not_newline b h = search rules

-- a line that ends at a newline
pub lines_at : (w : Bool) (line after : List ℕ) → HasNoNewline line → lines_in w (line ++ 10 ∷ after) ≡ line ∷ lines_in w after
lines_at true [] after h = refl
lines_at false [] after h = refl
lines_at true (b ∷ bs) after h = rw (not_newline b h.0, lines_at true bs after h.1) refl
lines_at false (b ∷ bs) after h = rw (not_newline b h.0, lines_at false bs after h.1) refl

-- bytes without a newline
pub no_whole_line : (bytes : List ℕ) → HasNoNewline bytes → whole_lines bytes ≡ []
no_whole_line [] h = refl
no_whole_line (b ∷ bs) h = rw (not_newline b h.0, no_whole_line bs h.1) refl

pub one_line : (b : ℕ) (bs : List ℕ) → HasNoNewline (b ∷ bs) → lines_of (b ∷ bs) ≡ (b ∷ bs) ∷ []
one_line b [] h = rw (not_newline b h.0) refl
one_line b (c ∷ bs) h = rw (not_newline b h.0, one_line c bs h.1) refl

-- the bytes are the last line
pub last_line : (w : Bool) (bytes : List ℕ) → HasNoNewline bytes → w ≡ false → 0 < length bytes → lines_in w bytes ≡ bytes ∷ lines_in w []
last_line true bytes h e l = cc
last_line false [] h e l = absurd (omega arith)
last_line false (b ∷ bs) h e l = one_line b bs h
