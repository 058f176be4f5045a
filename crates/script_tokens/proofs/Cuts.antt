-- The answer of tokens_of is the one cut of the line.
use Rattle.std.proofs.Common.{◌≡◌, ◌↔◌, ℕ, zero, suc, ◌+◌, ◌≤◌, eqb, cond, Bool, true, false, Option, Some, None, List, [], ◌∷◌, ◌++◌, length, take, drop, Result, Ok, Err, IfSome, Vec, Global, ◌⊎◌, inl, inr, refl, sym, ap, ◌∙◌, subst, arith, ne_eqb}
use Rattle.std.proofs.lemmas.Bool.{eqb-true}
use Rattle.std.proofs.lemmas.List.{append-nil}
use Rattle.script_tokens.specs.declared.token.Token.{Token}
use Rattle.script_tokens.specs.declared.token.TokenKind.{TokenKind}
use Rattle.script_tokens.specs.declared.token.TokenStop.{TokenStop}
use Rattle.script_tokens.specs.declared.token.TokenStop.TheVariants.{At, Memory}
use Rattle.script_tokens.specs.Scans.{GivesOrStops, token_at, tokens_from, tokens_of, with_front_tokens, begun}
use Rattle.script_tokens.specs.Tokens.{is_blank}
use Rattle.script_tokens.specs.Cuts.{Passes, IsToken, IsLongest, IsNextToken, IsCut, IsComment, BeginsNothing, HasTokens, HasStrayByte, IsCutInto}
use Rattle.script_tokens.proofs.Longest.{found_is_longest, none_begins, token_apart, longest_is_found}
use Rattle.script_tokens.proofs.Cutting.{inside_is_dropped}
use Rattle.script_tokens.proofs.Order.{token_within}

-- the cut that an answer tells
abbrev Tells : ℕ → List ℕ → Result (List Token) ℕ → Type 0
Tells at bytes (Ok ts) = IsCut (λ place rest. IsComment rest) at bytes ts
Tells at bytes (Err i) = (ts : List Token) × IsCut (λ place rest. (place ≡ i) × BeginsNothing rest) at bytes ts

moved : (a b : ℕ) (bytes : List ℕ) (answer : Result (List Token) ℕ) → a ≡ b → Tells a bytes answer → Tells b bytes answer
moved a b bytes answer e h = subst (λ k. Tells k bytes answer) e h

-- a blank before the first piece
cut_blank : (Rest : ℕ → List ℕ → Type 0) (at b : ℕ) (bs : List ℕ) (ts : List Token) → is_blank b ≡ true → IsCut Rest (at + 1) bs ts → IsCut Rest at (b ∷ bs) ts
cut_blank Rest at b bs [] e h = (b ∷ h.0, h.1, ap (λ l. b ∷ l) h.2, (e, h.3), subst (λ k. Rest k h.1) (omega arith) h.4)
cut_blank Rest at b bs (t ∷ ts) e h =
    (h.0, record { blanks = b ∷ h.1.blanks; text = h.1.text; parts = ap (λ l. b ∷ l) h.1.parts; blank = (e, h.1.blank); begins = omega (arith, h.1.begins); ends = h.1.ends; token = h.1.token; longest = h.1.longest }, h.2)

tells_blank : (at b : ℕ) (bs : List ℕ) (answer : Result (List Token) ℕ) → is_blank b ≡ true → Tells (at + 1) bs answer → Tells at (b ∷ bs) answer
tells_blank at b bs (Ok ts) e h = cut_blank (λ place rest. IsComment rest) at b bs ts e h
tells_blank at b bs (Err i) e h = (h.0, cut_blank (λ place rest. (place ≡ i) × BeginsNothing rest) at b bs h.0 e h.1)

take_and_drop : (n : ℕ) (bs : List ℕ) → bs ≡ take n bs ++ drop n bs
take_and_drop zero bs = refl
take_and_drop (suc n) [] = refl
take_and_drop (suc n) (b ∷ bs) = ap (λ l. b ∷ l) (take_and_drop n bs)

length_taken : (n : ℕ) (bs : List ℕ) → n ≤ length bs → length (take n bs) ≡ n
length_taken zero bs h = refl
length_taken (suc n) [] h = absurd (omega (arith, h))
length_taken (suc n) (b ∷ bs) h = ap suc (length_taken n bs (omega (arith, h)))

-- a token before the others
next_token : (at b : ℕ) (bs : List ℕ) (t : TokenKind × ℕ) → token_at b bs ≡ Some t → t.1 ≤ length bs → IsNextToken at (b ∷ bs) (record { kind = t.0; start = at; end = at + 1 + t.1 }) (drop t.1 bs)
next_token at b bs t e within =
    let h = found_is_longest b bs t e in
    let n = length_taken t.1 bs within in
    record { blanks = []; text = b ∷ take t.1 bs; parts = ap (λ l. b ∷ l) (take_and_drop t.1 bs); blank = tt; begins = omega arith; ends = omega (arith, n); token = h.0; longest = h.1 }

tells_token : (at b : ℕ) (bs : List ℕ) (t : TokenKind × ℕ) (answer : Result (List Token) ℕ) → token_at b bs ≡ Some t → t.1 ≤ length bs → Tells (at + 1 + t.1) (drop t.1 bs) answer
    → Tells at (b ∷ bs) (with_front_tokens (record { kind = t.0; start = at; end = at + 1 + t.1 } ∷ []) answer)
tells_token at b bs t (Ok ts) e within h = (drop t.1 bs, next_token at b bs t e within, h)
tells_token at b bs t (Err i) e within h = (record { kind = t.0; start = at; end = at + 1 + t.1 } ∷ h.0, (drop t.1 bs, next_token at b bs t e within, h.1))

chosen : (at b : ℕ) (bs : List ℕ) (hash blank : Bool) (o : Option (TokenKind × ℕ)) (after : ℕ → Result (List Token) ℕ)
    → eqb b 35 ≡ hash → is_blank b ≡ blank → token_at b bs ≡ o → IfSome o (λ t. t.1 ≤ length bs)
    → ((more : ℕ) → more ≤ length bs → Tells (at + 1 + more) (drop more bs) (after more)) → Tells at (b ∷ bs) (cond hash (Ok []) (cond blank (after 0) (begun o at after)))
chosen at b bs true blank o after p q r within h = ([], b ∷ bs, refl, tt, eqb-true b 35 p)
chosen at b bs false true o after p q r within h = tells_blank at b bs (after 0) q (moved (at + 1 + 0) (at + 1) bs (after 0) (omega arith) (h 0 (omega arith)))
chosen at b bs false false None after p q r within h = ([], ([], b ∷ bs, refl, tt, (omega arith, ((λ e. let f : eqb b 35 ≡ true = rw e refl in absurd cc), q, none_begins b bs r))))
chosen at b bs false false (Some t) after p q r within h = tells_token at b bs t (after t.1) r within (h t.1 within)

tells : (inside at : ℕ) (bs : List ℕ) → inside ≤ length bs → Tells (at + inside) (drop inside bs) (tokens_from inside at bs)
unfolding tokens_from
tells zero at [] h = ([], [], refl, tt, tt)
tells (suc inside) at [] h = ([], [], refl, tt, tt)
tells (suc inside) at (b ∷ bs) h = moved (at + 1 + inside) (at + suc inside) (drop inside bs) (tokens_from inside (at + 1) bs) (omega arith) (tells inside (at + 1) bs (omega (arith, h)))
tells zero at (b ∷ bs) h =
    moved at (at + 0) (b ∷ bs) _ (omega arith)
    (chosen at b bs (eqb b 35) (is_blank b) (token_at b bs) (λ more. tokens_from more (at + 1) bs) refl refl refl (token_within b bs) (λ more le. tells more (at + 1) bs le))

-- blanks are passed over
blanks_pass : (at : ℕ) (blanks bs : List ℕ) → Passes is_blank blanks → tokens_from 0 at (blanks ++ bs) ≡ tokens_from 0 (at + length blanks) bs
unfolding tokens_from
blanks_pass at [] bs h = ap (λ k. tokens_from 0 k bs) (omega arith)
blanks_pass at (b ∷ blanks) bs h =
    let e : eqb b 35 ≡ false = not_hash b h.0 in
    let f : is_blank b ≡ true = h.0 in
    let one : tokens_from 0 at (b ∷ (blanks ++ bs)) ≡ tokens_from 0 (at + 1) (blanks ++ bs) = rw (e, f) refl in
    one ∙ blanks_pass (at + 1) blanks bs h.1 ∙ ap (λ k. tokens_from 0 k bs) (omega arith)
  where
    not_hash : (c : ℕ) → is_blank c ≡ true → eqb c 35 ≡ false
    not_hash c q = ne_eqb c 35 (λ e. let f : is_blank 35 ≡ true = subst (λ x. is_blank x ≡ true) e q in absurd cc)

drop_behind : (bs rest : List ℕ) → drop (length bs) (bs ++ rest) ≡ rest
drop_behind [] rest = refl
drop_behind (b ∷ bs) rest = drop_behind bs rest

-- a token joins the answer
token_joins : (kind : TokenKind) (at : ℕ) (text rest : List ℕ) → IsToken kind text → IsLongest text rest
    → tokens_from 0 at (text ++ rest) ≡ with_front_tokens (record { kind = kind; start = at; end = at + length text } ∷ []) (tokens_from 0 (at + length text) rest)
unfolding tokens_from
token_joins kind at [] rest h longest = absurd h
token_joins kind at (b ∷ bs) rest h longest =
    let apart = token_apart kind b bs h in
    let e : eqb b 35 ≡ false = ne_eqb b 35 apart.no_comment in
    let f : is_blank b ≡ false = apart.no_blank in
    let k = longest_is_found kind b bs rest h longest in
    let one : tokens_from 0 at (b ∷ (bs ++ rest)) ≡ begun (Some (kind, length bs)) at (λ more. tokens_from more (at + 1) (bs ++ rest)) = rw (e, f, k) refl in
    let place : at + 1 + length bs ≡ at + suc (length bs) = omega arith in
    one ∙ ap (with_front_tokens (record { kind = kind; start = at; end = at + 1 + length bs } ∷ [])) (inside_is_dropped (length bs) (at + 1) (bs ++ rest) ∙ ap (tokens_from 0 (at + 1 + length bs)) (drop_behind bs rest))
    ∙ ap (λ n. with_front_tokens (record { kind = kind; start = at; end = n } ∷ []) (tokens_from 0 n rest)) place

none_before : (answer : Result (List Token) ℕ) → with_front_tokens [] answer ≡ answer
none_before (Ok ts) = refl
none_before (Err i) = refl

joined : (t : Token) (ts : List Token) (answer : Result (List Token) ℕ) → with_front_tokens (t ∷ []) (with_front_tokens ts answer) ≡ with_front_tokens (t ∷ ts) answer
joined t ts (Ok found) = refl
joined t ts (Err i) = refl

-- a cut is the answer
is_answer : (Rest : ℕ → List ℕ → Type 0) (end : Result (List Token) ℕ) → ((place : ℕ) (rest : List ℕ) → Rest place rest → tokens_from 0 place rest ≡ end)
    → (at : ℕ) (bytes : List ℕ) (ts : List Token) → IsCut Rest at bytes ts → tokens_from 0 at bytes ≡ with_front_tokens ts end
is_answer Rest end ends at bytes [] h =
    ap (tokens_from 0 at) h.2 ∙ blanks_pass at h.0 h.1 h.3 ∙ ends (at + length h.0) h.1 h.4 ∙ sym (none_before end)
is_answer Rest end ends at bytes (t ∷ ts) h =
    let n = h.1 in
    ap (tokens_from 0 at) n.parts ∙ blanks_pass at n.blanks (n.text ++ h.0) n.blank ∙ token_joins t.kind (at + length n.blanks) n.text h.0 n.token n.longest
    ∙ ap (λ k. with_front_tokens (record { kind = t.kind; start = k; end = k + length n.text } ∷ []) (tokens_from 0 (k + length n.text) h.0)) (sym n.begins)
    ∙ ap (λ k. with_front_tokens (record { kind = t.kind; start = t.start; end = k } ∷ []) (tokens_from 0 k h.0)) (sym n.ends)
    ∙ ap (with_front_tokens (t ∷ [])) (is_answer Rest end ends t.end h.0 ts h.2) ∙ joined t ts end

comment_ends : (place : ℕ) (rest : List ℕ) → IsComment rest → tokens_from 0 place rest ≡ Ok []
unfolding tokens_from
comment_ends place [] h = refl
comment_ends place (b ∷ bs) h = rw h refl

stray_stops : (i place : ℕ) (rest : List ℕ) → (place ≡ i) × BeginsNothing rest → tokens_from 0 place rest ≡ Err i
unfolding tokens_from
stray_stops i place [] h = absurd h.1
stray_stops i place (b ∷ bs) h =
    let e : eqb b 35 ≡ false = ne_eqb b 35 h.1.0 in
    let f : is_blank b ≡ false = h.1.1 in
    let k = none_found (token_at b bs) refl in
    let one : tokens_from 0 place (b ∷ bs) ≡ Err place = rw (e, f, k) refl in
    one ∙ ap Err h.0
  where
    none_found : (o : Option (TokenKind × ℕ)) → token_at b bs ≡ o → token_at b bs ≡ None
    none_found None q = q
    none_found (Some t) q = absurd (h.1.2 t.0 (take t.1 bs) (found_is_longest b bs t q).0)

are_tokens : (line : List ℕ) (ts : List Token) → (tokens_of line ≡ Ok ts) ↔ HasTokens line ts
are_tokens line ts = (
  λ e. subst (Tells 0 line) e (tells 0 0 line (omega arith)),
  λ h. is_answer (λ place rest. IsComment rest) (Ok []) comment_ends 0 line ts h ∙ ap Ok (append-nil ts),
)

is_stray : (line : List ℕ) (i : ℕ) → (tokens_of line ≡ Err i) ↔ HasStrayByte line i
is_stray line i = (
  λ e. subst (Tells 0 line) e (tells 0 0 line (omega arith)),
  λ h. is_answer (λ place rest. (place ≡ i) × BeginsNothing rest) (Err i) (stray_stops i) 0 line h.0 h.1,
)

-- what the scan answers is the cut
pub cut_exact : (line : List ℕ) (r : Result (Vec Token Global) TokenStop) → GivesOrStops (λ found. found.items) r (tokens_of line) → IsCutInto line r
cut_exact line (Ok found) h = (are_tokens line found.items).0 h
cut_exact line (Err Memory) h = tt
cut_exact line (Err (At i)) h = (is_stray line i).0 h

same_ok : {A E : Type 0} (a b : A) (r : Result A E) → r ≡ Ok a → r ≡ Ok b → a ≡ b
same_ok a b r p q = cc

same_err : {A E : Type 0} (a b : E) (r : Result A E) → r ≡ Err a → r ≡ Err b → a ≡ b
same_err a b r p q = cc

not_both : {A E : Type 0} (a : A) (b : E) (r : Result A E) → r ≡ Ok a → r ≡ Err b → ⊥
not_both a b r p q = absurd cc

-- there is one cut of a line, and one place at most at which it stops
pub one_cut : (line : List ℕ) (ts us : List Token) → HasTokens line ts → HasTokens line us → ts ≡ us
one_cut line ts us h k = same_ok ts us (tokens_of line) ((are_tokens line ts).1 h) ((are_tokens line us).1 k)

pub one_stop : (line : List ℕ) (i j : ℕ) → HasStrayByte line i → HasStrayByte line j → i ≡ j
one_stop line i j h k = same_err i j (tokens_of line) ((is_stray line i).1 h) ((is_stray line j).1 k)

pub cut_or_stop : (line : List ℕ) (ts : List Token) (i : ℕ) → HasTokens line ts → HasStrayByte line i → ⊥
cut_or_stop line ts i h k = not_both ts i (tokens_of line) ((are_tokens line ts).1 h) ((is_stray line i).1 k)

pub some_cut : (line : List ℕ) → ((ts : List Token) × HasTokens line ts) ⊎ ((i : ℕ) × HasStrayByte line i)
some_cut line = go (tokens_of line) refl
  where
    go : (r : Result (List Token) ℕ) → tokens_of line ≡ r → ((ts : List Token) × HasTokens line ts) ⊎ ((i : ℕ) × HasStrayByte line i)
    go (Ok ts) e = inl (ts, (are_tokens line ts).0 e)
    go (Err i) e = inr (i, (is_stray line i).0 e)
