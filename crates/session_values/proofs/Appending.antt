-- Texts that are written part by part
use Rattle.std.proofs.Common.{Err, List, Ok, Result, [], ap, ap₂, append_assoc, drop, flat_map, get_or, length}
use Rattle.std.proofs.Common.{sym, take, ℕ, ◌+◌, ◌++◌, ◌<◌, ◌∙◌, ◌∷◌, ◌≡◌, ◌≤◌}
use Rattle.std.proofs.lemmas.List.{append-nil, drop_all, drop_more, flat_map_more, take_more}
use Rattle.std.specs.Prelude.{OnErr, OnOk}
use Rattle.poly_text.proofs.Writing.{begins_more}
use Rattle.poly_text.specs.Writing.{IsFront}
use Rattle.term_lists.specs.declared.ring.Ring.{Ring}
use Rattle.resolution_maps.specs.declared.maps.Map.{Map}
use Rattle.session_values.specs.Resolving.{map_text}
use Rattle.session_values.specs.Writing.{written_maps}

module _ {T E : Type 0} where
  -- what holds, holds after an error
  pub on_err : {P : Type 0} (r : Result T E) → P → OnErr r P
  on_err (Ok t) p = tt
  on_err (Err e) p = p

  -- a last part behind what was written
  pub err_behind : (out mid new : List ℕ) (r : Result T E) → IsFront out mid → OnErr r (IsFront mid new) → OnErr r (IsFront out new)
  err_behind out mid new (Ok t) before last = tt
  err_behind out mid new (Err e) before last = begins_more out mid new last.0 before last.1

  -- four parts
  pub four_behind :
      (out one two three new a b c d : List ℕ) (r : Result T E) → one ≡ out ++ a → two ≡ one ++ b → three ≡ two ++ c → OnOk r (new ≡ three ++ d)
      → OnOk r (new ≡ out ++ (a ++ (b ++ (c ++ d))))
  four_behind out one two three new a b c d (Ok t) first second third fourth =
      fourth ∙ ap (λ t. t ++ d) (third ∙ ap (λ t. t ++ c) (second ∙ ap (λ t. t ++ b) first)) ∙ simp append_assoc
  four_behind out one two three new a b c d (Err e) first second third fourth = tt

  -- a line of words, each with the byte that ends it
  pub line_of_two :
      (out one new a b k l : List ℕ) (x y : ℕ) (r : Result T E) → a ≡ k → b ≡ l
      → one ≡ out ++ (a ++ x ∷ []) → OnOk r (new ≡ one ++ (b ++ y ∷ [])) → OnOk r (new ≡ out ++ (k ++ x ∷ (l ++ y ∷ [])))
  line_of_two out one new a b k l x y (Ok t) ak bl first second =
      second ∙ ap₂ (λ t w. t ++ (w ++ y ∷ [])) (first ∙ ap (λ w. out ++ (w ++ x ∷ [])) ak) bl ∙ simp append_assoc
  line_of_two out one new a b k l x y (Err e) ak bl first second = tt

  pub line_of_three :
      (out one two new a b c k l m : List ℕ) (x y z : ℕ) (r : Result T E) → a ≡ k → b ≡ l → c ≡ m
      → one ≡ out ++ (a ++ x ∷ []) → two ≡ one ++ (b ++ y ∷ []) → OnOk r (new ≡ two ++ (c ++ z ∷ []))
      → OnOk r (new ≡ out ++ (k ++ x ∷ (l ++ y ∷ (m ++ z ∷ []))))
  line_of_three out one two new a b c k l m x y z (Ok t) ak bl cm first second third =
      third ∙ ap₂ (λ t w. t ++ (w ++ z ∷ [])) (second ∙ ap₂ (λ t w. t ++ (w ++ y ∷ [])) (first ∙ ap (λ w. out ++ (w ++ x ∷ [])) ak) bl) cm
      ∙ simp append_assoc
  line_of_three out one two new a b c k l m x y z (Err e) ak bl cm first second third = tt

  -- a text behind a part and a word with the byte that ends it
  pub text_behind :
      (out one two new a b l text : List ℕ) (x : ℕ) (r : Result T E) → b ≡ l
      → one ≡ out ++ a → two ≡ one ++ (b ++ x ∷ []) → OnOk r (new ≡ two ++ text) → OnOk r (new ≡ out ++ (a ++ (l ++ x ∷ text)))
  text_behind out one two new a b l text x (Ok t) bl first second third =
      third ∙ ap (λ t. t ++ text) (second ∙ ap₂ (λ t w. t ++ (w ++ x ∷ [])) first bl) ∙ simp append_assoc
  text_behind out one two new a b l text x (Err e) bl first second third = tt

  -- a text behind a part and two words, each with the byte that ends it
  pub named_behind :
      (out one two three new a b c l text : List ℕ) (x y : ℕ) (r : Result T E) → c ≡ l
      → one ≡ out ++ a → two ≡ one ++ (b ++ x ∷ []) → three ≡ two ++ (c ++ y ∷ []) → OnOk r (new ≡ three ++ text)
      → OnOk r (new ≡ out ++ (a ++ (b ++ x ∷ (l ++ y ∷ text))))
  named_behind out one two three new a b c l text x y (Ok t) cl first second third fourth =
      fourth ∙ ap (λ t. t ++ text) (third ∙ ap₂ (λ t w. t ++ (w ++ y ∷ [])) (second ∙ ap (λ t. t ++ (b ++ x ∷ [])) first) cl) ∙ simp append_assoc
  named_behind out one two three new a b c l text x y (Err e) cl first second third fourth = tt

-- ---- lines of a list, one behind another
pub lines_step :
    {X : Type 0} (f : X → List ℕ) (xs : List X) (i : ℕ) (x : X) (out old new : List ℕ) → i < length xs → x ≡ get_or xs i x
    → old ≡ out ++ flat_map f (take i xs) → new ≡ old ++ f x → new ≡ out ++ flat_map f (take (i + 1) xs)
lines_step f xs i x out old new lt at before last =
    last ∙ ap (λ o. o ++ f x) before ∙ flat_map_more f out (take i xs) x
    ∙ ap (λ l. out ++ flat_map f l) (ap (λ y. take i xs ++ y ∷ []) at ∙ sym (take_more xs i x lt))

-- one more map
pub maps_step :
    (ring : Ring) (maps : List Map) (k : ℕ) (m : Map) (out old new : List ℕ) → k < length maps → m ≡ get_or maps k m → IsFront out old
    → old ++ written_maps ring (k + 1) (drop k maps) ≡ out ++ written_maps ring 1 maps → new ≡ old ++ map_text ring (k + 1) m.rows m.columns
    → IsFront out new × (new ++ written_maps ring (k + 1 + 1) (drop (k + 1) maps) ≡ out ++ written_maps ring 1 maps)
maps_step ring maps k m out old new lt at front before last =
    let rest = written_maps ring (k + 1 + 1) (drop (k + 1) maps) in
    let split : drop k maps ≡ m ∷ drop (k + 1) maps = drop_more maps k m lt ∙ ap (λ y. y ∷ drop (k + 1) maps) (sym at) in (
      begins_more out old new _ front last,
      ap (λ o. o ++ rest) last ∙ append_assoc old (map_text ring (k + 1) m.rows m.columns) rest ∙ ap (λ l. old ++ written_maps ring (k + 1) l) (sym split)
          ∙ before,
    )

-- all maps are written
pub maps_done :
    (ring : Ring) (maps : List Map) (k : ℕ) (out old : List ℕ) → length maps ≤ k
    → old ++ written_maps ring (k + 1) (drop k maps) ≡ out ++ written_maps ring 1 maps → old ≡ out ++ written_maps ring 1 maps
maps_done ring maps k out old past before =
    sym (append-nil old) ∙ ap (λ l. old ++ written_maps ring (k + 1) l) (sym (drop_all k maps past)) ∙ before
