-- The bytes of each token of a cut
use Rattle.std.proofs.Common.{◌≡◌, ℕ, ◌+◌, List, [], ◌∷◌, ◌++◌, length, sym, ap, ◌∙◌, subst, arith, append_assoc, length-append}
use Rattle.std.specs.List.{slice_range}
use Rattle.script_tokens.specs.declared.token.Token.{Token}
use Rattle.script_tokens.specs.Cuts.{HasTokens, HaveTexts, IsComment, IsCut, IsToken}
use Rattle.std.proofs.Common.{take, drop, ◌-◌, refl}

drop_front : (front bs : List ℕ) → drop (length front) (front ++ bs) ≡ bs
drop_front [] bs = refl
drop_front (b ∷ front) bs = drop_front front bs

take_front : (text bs : List ℕ) → take (length text) (text ++ bs) ≡ text
take_front [] bs = refl
take_front (b ∷ text) bs = ap (λ l. b ∷ l) (take_front text bs)

slice_between : (front text rest : List ℕ) (start end : ℕ) → start ≡ length front → end ≡ start + length text → slice_range (front ++ (text ++ rest)) start end ≡ text
slice_between front text rest start end s e =
    let n : end - start ≡ length text = omega (arith, s, e) in
    ap (λ k. take (end - start) (drop k (front ++ (text ++ rest)))) s ∙ ap (λ k. take k (drop (length front) (front ++ (text ++ rest)))) n ∙ ap (take (length text)) (drop_front front (text ++ rest)) ∙ take_front text rest

cut_texts : (Rest : ℕ → List ℕ → Type 0) (line front : List ℕ) (at : ℕ) (bytes : List ℕ) (ts : List Token) → line ≡ front ++ bytes → at ≡ length front → IsCut Rest at bytes ts → HaveTexts line ts
cut_texts Rest line front at bytes [] is place h = tt
cut_texts Rest line front at bytes (t ∷ ts) is place h =
    let n = h.1 in
    let before : List ℕ = front ++ n.blanks in
    let whole : line ≡ before ++ (n.text ++ h.0) = is ∙ ap (λ l. front ++ l) n.parts ∙ sym (append_assoc front n.blanks (n.text ++ h.0)) in
    let starts : t.start ≡ length before = omega (arith, n.begins, place, length-append front n.blanks) in
    let text : slice_range line t.start t.end ≡ n.text = ap (λ l. slice_range l t.start t.end) whole ∙ slice_between before n.text h.0 t.start t.end starts n.ends in
    let next : line ≡ (before ++ n.text) ++ h.0 = whole ∙ sym (append_assoc before n.text h.0) in
    let stops : t.end ≡ length (before ++ n.text) = omega (arith, n.ends, starts, length-append before n.text) in
    (subst (IsToken t.kind) (sym text) n.token, cut_texts Rest line (before ++ n.text) t.end h.0 ts next stops h.2)

pub have_texts : (line : List ℕ) (ts : List Token) → HasTokens line ts → HaveTexts line ts
have_texts line ts h = cut_texts (λ place rest. IsComment rest) line [] 0 line ts refl refl h
