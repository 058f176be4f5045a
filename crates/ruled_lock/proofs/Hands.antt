-- What a seat has in its hand.
use Rattle.std.proofs.Common.{◌≡◌, ℕ, List, [], ◌∷◌, sym, ap, ◌∙◌}
use Rattle.atomic_table.specs.Table.{rest}

module _ {S : Type 0} where
  abbrev top_or : S → List (ℕ × S) → S
  top_or d [] = d
  top_or d (x ∷ xs) = x.1

  pub one_slot : (l : List (ℕ × S)) (k : ℕ) (x : S) → l ≡ (k, x) ∷ [] → l ≡ (k, x) ∷ rest l
  one_slot l k x e = e ∙ ap (λ (m : List (ℕ × S)). (k, x) ∷ m) (sym (ap rest e))

  pub same_hand : (l : List (ℕ × S)) (k : ℕ) (x y : S) → l ≡ (k, x) ∷ [] → l ≡ (k, y) ∷ rest l → y ≡ x
  same_hand l k x y e f = ap (top_or x) (sym f ∙ e)

  pub next_hand : (l l' : List (ℕ × S)) (k : ℕ) (x z : S) → l ≡ (k, x) ∷ [] → l' ≡ (k, z) ∷ rest l → l' ≡ (k, z) ∷ []
  next_hand l l' k x z e f = f ∙ ap (λ (m : List (ℕ × S)). (k, z) ∷ m) (ap rest e)

  pub one_hand : (l : List (ℕ × S)) (k : ℕ) (x y : S) → l ≡ (k, x) ∷ [] → l ≡ (k, y) ∷ [] → x ≡ y
  one_hand l k x y e f = ap (top_or x) (sym e ∙ f)
