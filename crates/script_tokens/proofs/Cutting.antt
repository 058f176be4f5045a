-- Cutting a line from left to right.
use Rattle.std.proofs.Common.{◌≡◌, ◌≢◌, ℕ, zero, suc, ◌+◌, true, false, Some, None, List, [], ◌∷◌, ◌++◌, length, drop, Result, Ok, Err, refl, sym, ap, ◌∙◌, arith, append_assoc, add-zero, ne_eqb}
use Rattle.std.proofs.lemmas.List.{append-nil}
use Rattle.script_tokens.specs.declared.token.Token.{Token}
use Rattle.script_tokens.specs.declared.token.TokenKind.{TokenKind}
use Rattle.script_tokens.specs.Scans.{token_at, tokens_from, with_front_tokens, begun}
use Rattle.script_tokens.specs.Tokens.{is_blank}

-- bytes inside a token are passed over
pub inside_is_dropped : (inside at : ℕ) (bs : List ℕ) → tokens_from inside at bs ≡ tokens_from 0 (at + inside) (drop inside bs)
unfolding tokens_from
inside_is_dropped zero at bs = ap (λ k. tokens_from 0 k bs) (sym (add-zero at))
inside_is_dropped (suc n) at [] = refl
inside_is_dropped (suc n) at (b ∷ bs) =
    let e : at + 1 + n ≡ at + suc n = omega arith in
    inside_is_dropped n (at + 1) bs ∙ ap (λ k. tokens_from 0 k (drop n bs)) e

front_front : (front : List Token) (t : Token) (answer : Result (List Token) ℕ) → with_front_tokens front (with_front_tokens (t ∷ []) answer) ≡ with_front_tokens (front ++ t ∷ []) answer
front_front front t (Ok found) = ap Ok (sym (append_assoc front (t ∷ []) found))
front_front front t (Err at) = refl

module _ (front : List Token) (at b : ℕ) (rest bs : List ℕ) (total : Result (List Token) ℕ) (is : rest ≡ b ∷ bs) (so_far : with_front_tokens front (tokens_from 0 at rest) ≡ total) where
  here : with_front_tokens front (tokens_from 0 at (b ∷ bs)) ≡ total
  here = rw is at so_far

  pub comment_ends : b ≡ 35 → total ≡ Ok front
  unfolding tokens_from
  comment_ends e = sym here ∙ rw e (ap Ok (append-nil front))

  pub blank_passes : b ≢ 35 → is_blank b ≡ true → with_front_tokens front (tokens_from 0 (at + 1) bs) ≡ total
  unfolding tokens_from
  blank_passes ne e = let one : with_front_tokens front (tokens_from 0 at (b ∷ bs)) ≡ with_front_tokens front (tokens_from 0 (at + 1) bs) = rw (ne_eqb _ _ ne, e) refl in sym one ∙ here

  begins : b ≢ 35 → is_blank b ≡ false → with_front_tokens front (begun (token_at b bs) at (λ more. tokens_from more (at + 1) bs)) ≡ total
  unfolding tokens_from
  begins ne e = let one : with_front_tokens front (tokens_from 0 at (b ∷ bs)) ≡ with_front_tokens front (begun (token_at b bs) at (λ more. tokens_from more (at + 1) bs)) = rw (ne_eqb _ _ ne, e) refl in sym one ∙ here

  pub stops : b ≢ 35 → is_blank b ≡ false → token_at b bs ≡ None → total ≡ Err at
  stops ne e none = sym (begins ne e) ∙ ap (λ o. with_front_tokens front (begun o at (λ more. tokens_from more (at + 1) bs))) none

  pub token_joins : (kind : TokenKind) (more : ℕ) → b ≢ 35 → is_blank b ≡ false → token_at b bs ≡ Some (kind, more)
      → with_front_tokens (front ++ record { kind = kind; start = at; end = at + 1 + more } ∷ []) (tokens_from 0 (at + 1 + more) (drop more bs)) ≡ total
  token_joins kind more ne e some =
      let token : Token = record { kind = kind; start = at; end = at + 1 + more } in
      sym (ap (with_front_tokens (front ++ token ∷ [])) (inside_is_dropped more (at + 1) bs))
      ∙ sym (front_front front token (tokens_from more (at + 1) bs))
      ∙ sym (ap (λ o. with_front_tokens front (begun o at (λ k. tokens_from k (at + 1) bs))) some)
      ∙ begins ne e

pub line_ends : (front : List Token) (at : ℕ) (rest : List ℕ) (total : Result (List Token) ℕ) → length rest ≡ 0 → with_front_tokens front (tokens_from 0 at rest) ≡ total → total ≡ Ok front
unfolding tokens_from
line_ends front at [] total e so_far = sym so_far ∙ ap Ok (append-nil front)
line_ends front at (b ∷ bs) total e so_far = absurd (omega (arith, e))
