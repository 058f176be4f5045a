-- NAMEs or NUMs with commas between them, a token at a time
use Rattle.std.proofs.Common.{◌≡◌, ◌⊎◌, false, inl, inr, List, [], ◌∷◌, ◌++◌, ◌+◌, ◌<◌, arith, length, map, Option, Some, None, refl, sym, ap, subst, ◌∙◌, append_assoc}
use Rattle.std.proofs.lemmas.List.{append-nil, length-map}
use Rattle.std.proofs.lemmas.Option.{same_Some}
use Rattle.script_tokens.specs.declared.token.Token.{Token}
use Rattle.script_tokens.specs.declared.token.TokenKind.{TokenKind}
use Rattle.script_tokens.specs.declared.token.TokenKind.TheVariants as kinds
use Rattle.poly_grammar.specs.Lexemes.{Lexeme, caret, close_bracket, closed, comma, equals, lexeme, lexeme_as, minus, name, number, open_bracket, opened, plus, star}
use Rattle.script_forms.specs.RingForms.{begins_with_comma, item_before, item_first, list_behind, list_first, list_item, token_of, with_tokens}

abbrev IsListed : TokenKind → Type 0
IsListed kind = (kind ≡ kinds.Name) ⊎ (kind ≡ kinds.Number)

is_token : (kind : TokenKind) (t : Token) → IsListed kind → t.kind ≡ kind → token_of kind (lexeme t) ≡ Some t
is_token kind t (inl e) same = subst (λ k. token_of kind (lexeme_as k t) ≡ Some t) (sym same) (subst (λ k. token_of k (lexeme_as k t) ≡ Some t) (sym e) refl)
is_token kind t (inr e) same = subst (λ k. token_of kind (lexeme_as k t) ≡ Some t) (sym same) (subst (λ k. token_of k (lexeme_as k t) ≡ Some t) (sym e) refl)

no_name : (k : TokenKind) (t : Token) → (k ≡ kinds.Name → ⊥) → token_of kinds.Name (lexeme_as k t) ≡ None
no_name kinds.Name t h = absurd (h refl)
no_name kinds.Number t h = refl
no_name kinds.Plus t h = refl
no_name kinds.Minus t h = refl
no_name kinds.Star t h = refl
no_name kinds.Caret t h = refl
no_name kinds.Open t h = refl
no_name kinds.Close t h = refl
no_name kinds.OpenBracket t h = refl
no_name kinds.CloseBracket t h = refl
no_name kinds.Comma t h = refl
no_name kinds.Equals t h = refl

no_number : (k : TokenKind) (t : Token) → (k ≡ kinds.Number → ⊥) → token_of kinds.Number (lexeme_as k t) ≡ None
no_number kinds.Name t h = refl
no_number kinds.Number t h = absurd (h refl)
no_number kinds.Plus t h = refl
no_number kinds.Minus t h = refl
no_number kinds.Star t h = refl
no_number kinds.Caret t h = refl
no_number kinds.Open t h = refl
no_number kinds.Close t h = refl
no_number kinds.OpenBracket t h = refl
no_number kinds.CloseBracket t h = refl
no_number kinds.Comma t h = refl
no_number kinds.Equals t h = refl

no_token : (kind : TokenKind) (t : Token) → IsListed kind → (t.kind ≡ kind → ⊥) → token_of kind (lexeme t) ≡ None
no_token kind t (inl e) other = subst (λ k. token_of k (lexeme t) ≡ None) (sym e) (no_name t.kind t (λ same. other (same ∙ sym e)))
no_token kind t (inr e) other = subst (λ k. token_of k (lexeme t) ≡ None) (sym e) (no_number t.kind t (λ same. other (same ∙ sym e)))

pub item_found :
    (kind : TokenKind) (ts rest : List Token) (t : Token) → ts ≡ t ∷ rest → IsListed kind → t.kind ≡ kind
    → item_first (token_of kind) (map lexeme ts) ≡ Some (t, map lexeme rest)
item_found kind ts rest t e is same =
    ap (λ l. item_first (token_of kind) (map lexeme l)) e ∙ ap (λ o. item_before o (map lexeme rest)) (is_token kind t is same)

pub item_other :
    (kind : TokenKind) (ts rest : List Token) (t : Token) → ts ≡ t ∷ rest → IsListed kind → (t.kind ≡ kind → ⊥)
    → item_first (token_of kind) (map lexeme ts) ≡ None
item_other kind ts rest t e is other =
    ap (λ l. item_first (token_of kind) (map lexeme l)) e ∙ ap (λ o. item_before o (map lexeme rest)) (no_token kind t is other)

-- ---- the list, by the token that stands first

module _ (pick : Lexeme → Option Token) where
  put_before : (t : Token) (o : Option (List Token × List Lexeme)) → with_tokens (t ∷ []) o ≡ list_item (Some t) o
  put_before t None = refl
  put_before t (Some found) = refl

  picked : (xs ys : List Lexeme) (x : Lexeme) (t : Token) (o : Option Token) → o ≡ pick x → item_before o xs ≡ Some (t, ys) → list_item (pick x) (list_behind pick xs) ≡ list_item (Some t) (list_behind pick ys)
  picked xs ys x t None e h = absurd cc
  picked xs ys x t (Some s) e h =
      let same : s ≡ t = ap (λ (p : Token × List Lexeme). p.0) (same_Some _ _ h) in
      let rest : xs ≡ ys = ap (λ (p : Token × List Lexeme). p.1) (same_Some _ _ h) in
      ap (λ o. list_item o (list_behind pick xs)) (sym e ∙ ap Some same) ∙ ap (λ l. list_item (Some t) (list_behind pick l)) rest

  passed : (xs ys : List Lexeme) (x : Lexeme) (o : Option Token) → o ≡ pick x → item_before o xs ≡ None → list_item (pick x) (list_behind pick ys) ≡ None
  passed xs ys x None e h = ap (λ o. list_item o (list_behind pick ys)) (sym e)
  passed xs ys x (Some s) e h = absurd cc

  pub first_none : (xs : List Lexeme) → item_first pick xs ≡ None → list_first pick xs ≡ None
  first_none [] h = refl
  first_none (x ∷ xs) h = passed xs xs x (pick x) refl h

  pub first_some : (xs ys : List Lexeme) (t : Token) → item_first pick xs ≡ Some (t, ys) → with_tokens (t ∷ []) (list_behind pick ys) ≡ list_first pick xs
  first_some [] ys t h = absurd cc
  first_some (x ∷ xs) ys t h = put_before t (list_behind pick ys) ∙ sym (picked xs ys x t (pick x) refl h)

  behind_none : (xs : List Lexeme) → item_first pick xs ≡ None → list_behind pick (comma ∷ xs) ≡ None
  behind_none [] h = refl
  behind_none (x ∷ xs) h = passed xs xs x (pick x) refl h

  behind_some : (xs ys : List Lexeme) (t : Token) → item_first pick xs ≡ Some (t, ys) → list_behind pick (comma ∷ xs) ≡ list_item (Some t) (list_behind pick ys)
  behind_some [] ys t h = absurd cc
  behind_some (x ∷ xs) ys t h = picked xs ys x t (pick x) refl h

  put_behind : (found : List Token) (t : Token) (o : Option (List Token × List Lexeme)) → with_tokens (found ++ t ∷ []) o ≡ with_tokens found (list_item (Some t) o)
  put_behind found t None = refl
  put_behind found t (Some more) = ap (λ l. Some (l, more.1)) (append_assoc found (t ∷ []) more.0)

  -- one item more
  pub listed_goes :
      (rest after more : List Lexeme) (t : Token) (found new : List Token) (whole : Option (List Token × List Lexeme)) → rest ≡ comma ∷ after → item_first pick after ≡ Some (t, more)
      → new ≡ found ++ t ∷ [] → with_tokens found (list_behind pick rest) ≡ whole → with_tokens new (list_behind pick more) ≡ whole
  listed_goes rest after more t found new whole e item f h =
      ap (λ l. with_tokens l (list_behind pick more)) f ∙ put_behind found t (list_behind pick more)
      ∙ ap (with_tokens found) (sym (ap (list_behind pick) e ∙ behind_some after more t item)) ∙ h

  -- no item behind a comma
  pub listed_stops :
      (rest after : List Lexeme) (found : List Token) (whole : Option (List Token × List Lexeme)) → rest ≡ comma ∷ after → item_first pick after ≡ None
      → with_tokens found (list_behind pick rest) ≡ whole → whole ≡ None
  listed_stops rest after found whole e item h = sym h ∙ ap (with_tokens found) (ap (list_behind pick) e ∙ behind_none after item)

  no_behind : (xs : List Lexeme) → begins_with_comma xs ≡ false → list_behind pick xs ≡ Some ([], xs)
  no_behind [] h = refl
  no_behind (name t ∷ xs) h = refl
  no_behind (number t ∷ xs) h = refl
  no_behind (plus ∷ xs) h = refl
  no_behind (minus ∷ xs) h = refl
  no_behind (star ∷ xs) h = refl
  no_behind (caret ∷ xs) h = refl
  no_behind (opened ∷ xs) h = refl
  no_behind (closed ∷ xs) h = refl
  no_behind (open_bracket ∷ xs) h = refl
  no_behind (close_bracket ∷ xs) h = refl
  no_behind (comma ∷ xs) h = absurd cc
  no_behind (equals ∷ xs) h = refl

  -- the end of the list
  pub listed_ends :
      (rest : List Lexeme) (found : List Token) (whole : Option (List Token × List Lexeme)) → begins_with_comma rest ≡ false
      → with_tokens found (list_behind pick rest) ≡ whole → whole ≡ Some (found, rest)
  listed_ends rest found whole none h = sym h ∙ ap (with_tokens found) (no_behind rest none) ∙ ap (λ l. Some (l, rest)) (append-nil found)

  item_length : (xs ys : List Lexeme) (t : Token) → item_first pick xs ≡ Some (t, ys) → length xs ≡ length ys + 1
  item_length [] ys t h = absurd cc
  item_length (x ∷ xs) ys t h = by_token (pick x) h
    where
      by_token : (o : Option Token) → item_before o xs ≡ Some (t, ys) → length (x ∷ xs) ≡ length ys + 1
      by_token None e = absurd cc
      by_token (Some s) e = let rest : xs ≡ ys = ap (λ (p : Token × List Lexeme). p.1) (same_Some _ _ e) in omega (arith, ap length rest)

  -- fewer tokens are left
  pub listed_shorter :
      (rest after more : List Token) (t : Token) → map lexeme rest ≡ comma ∷ map lexeme after → item_first pick (map lexeme after) ≡ Some (t, map lexeme more) → length more < length rest
  listed_shorter rest after more t e item =
      omega (arith, ap length e, item_length (map lexeme after) (map lexeme more) t item, length-map rest lexeme, length-map after lexeme, length-map more lexeme)
