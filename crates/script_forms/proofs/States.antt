-- States behind lexemes: the first lexeme that has no place
use Rattle.std.proofs.Common.{◌≡◌, Bool, false, ℕ, ◌+◌, ◌<◌, get_or, List, [], ◌∷◌, ◌++◌, map, take, Option, Some, None, option_and_then, length, refl, sym, ap, ap₂, ◌∙◌}
use Rattle.std.proofs.lemmas.List.{map-append, take_more}
use Rattle.std.proofs.lemmas.Option.{same_Some}
use Rattle.script_tokens.specs.declared.token.Token.{Token}
use Rattle.poly_grammar.specs.Lexemes.{Lexeme, lexeme}
use Rattle.script_forms.specs.Forms.{state_behind}

module _ (step : Bool → Lexeme → Option Bool) where
  -- behind lexemes and further ones
  pub state_append : (b : Bool) (xs ys : List Lexeme) → state_behind step b (xs ++ ys) ≡ option_and_then (λ c. state_behind step c ys) (state_behind step b xs)
  state_append b [] ys = refl
  state_append b (x ∷ xs) ys = by_lexeme (step b x) (λ c. state_append c xs ys)
    where
      by_lexeme :
          (o : Option Bool) → ((c : Bool) → state_behind step c (xs ++ ys) ≡ option_and_then (λ c. state_behind step c ys) (state_behind step c xs))
          → option_and_then (λ c. state_behind step c (xs ++ ys)) o ≡ option_and_then (λ c. state_behind step c ys) (option_and_then (λ c. state_behind step c xs) o)
      by_lexeme None later = refl
      by_lexeme (Some c) later = later c

  -- the state behind two parts
  pub state_joins : (b s t : Bool) (xs ys : List Lexeme) → state_behind step b xs ≡ Some s → state_behind step s ys ≡ Some t → state_behind step b (xs ++ ys) ≡ Some t
  state_joins b s t xs ys h k = state_append b xs ys ∙ ap (λ o. option_and_then (λ c. state_behind step c ys) o) h ∙ k

  -- one token more
  pub state_goes :
      (tokens : List Token) (at : ℕ) (d : Token) (state next : Bool) → at < length tokens → state_behind step false (map lexeme (take at tokens)) ≡ Some state
      → Some next ≡ step state (lexeme (get_or tokens at d)) → state_behind step false (map lexeme (take (at + 1) tokens)) ≡ Some next
  state_goes tokens at d state next lt h n =
      let t = get_or tokens at d in
      let one : state_behind step state (lexeme t ∷ []) ≡ Some next = ap (λ o. option_and_then (λ c. state_behind step c []) o) (sym n) in
      ap (λ l. state_behind step false (map lexeme l)) (take_more tokens at d lt) ∙ ap (state_behind step false) (map-append lexeme (take at tokens) (t ∷ []))
      ∙ state_joins false state next (map lexeme (take at tokens)) (lexeme t ∷ []) h one

  -- none is behind a lexeme that has no place
  pub state_stops : (b s : Bool) (x : Lexeme) (xs ys : List Lexeme) → state_behind step b xs ≡ Some s → step s x ≡ None → state_behind step b (xs ++ x ∷ ys) ≡ None
  state_stops b s x xs ys h none =
      state_append b xs (x ∷ ys) ∙ ap (λ o. option_and_then (λ c. state_behind step c (x ∷ ys)) o) h ∙ ap (λ o. option_and_then (λ c. state_behind step c ys) o) none

  not_first : (b s t : Bool) (x z : Lexeme) (xs : List Lexeme) → b ≡ s → x ≡ z → step s x ≡ None → state_behind step b (z ∷ xs) ≡ Some t → ⊥
  not_first b s t x z xs e f none h =
      let same : step b z ≡ None = ap₂ step e (sym f) ∙ none in
      let no : None ≡ Some t = sym (ap (λ o. option_and_then (λ c. state_behind step c xs) o) same) ∙ h in absurd cc

  -- the first such lexeme cuts in one way
  pub same_stop :
      (b s t : Bool) (a d c e : List Lexeme) (x y : Lexeme) → state_behind step b a ≡ Some s → step s x ≡ None → state_behind step b d ≡ Some t → step t y ≡ None
      → a ++ x ∷ c ≡ d ++ y ∷ e → (a ≡ d) × (x ∷ c ≡ y ∷ e)
  same_stop b s t [] [] c e x y h no_x k no_y q = (refl, q)
  same_stop b s t [] (z ∷ d) c e x y h no_x k no_y q = let is : x ≡ z = cc (q) in absurd (not_first b s t x z d (same_Some _ _ h) is no_x k)
  same_stop b s t (w ∷ a) [] c e x y h no_x k no_y q = let is : y ≡ w = cc (q) in absurd (not_first b t s y w a (same_Some _ _ k) is no_y h)
  same_stop b s t (w ∷ a) (z ∷ d) c e x y h no_x k no_y q =
      let heads : w ≡ z = cc (q) in
      let tails : a ++ x ∷ c ≡ d ++ y ∷ e = cc (q) in
      let r = go (step b w) h (ap (λ v. state_behind step b (v ∷ d)) heads ∙ k) (λ n f g. same_stop n s t a d c e x y f no_x g no_y tails) in
      (ap₂ (λ v l. v ∷ l) heads r.0, r.1)
    where
      go : (o : Option Bool) → option_and_then (λ n. state_behind step n a) o ≡ Some s → option_and_then (λ n. state_behind step n d) o ≡ Some t
          → ((n : Bool) → state_behind step n a ≡ Some s → state_behind step n d ≡ Some t → (a ≡ d) × (x ∷ c ≡ y ∷ e)) → (a ≡ d) × (x ∷ c ≡ y ∷ e)
      go None f g later = absurd cc
      go (Some n) f g later = later n f g
