-- What the parsers of a ring line give is what is written, and a ring line is written in one way
use Rattle.std.proofs.Common.{◌≡◌, ℕ, Bool, true, false, List, [], ◌∷◌, ◌++◌, cond, Option, Some, None, IfSome, nat_eq, refl, sym, ap, subst, ◌∙◌}
use Rattle.std.proofs.lemmas.List.{append-nil}
use Rattle.std.proofs.lemmas.Option.{none-some, same_Some}
use Rattle.std.specs.Cmp.Lexicographic.{pointwise, same_text}
use Rattle.std.specs.Prelude.{codes}
use Rattle.script_tokens.specs.declared.token.Token.{Token}
use Rattle.script_tokens.specs.declared.token.TokenKind.TheVariants as kinds
use Rattle.poly_grammar.specs.Lexemes.{Lexeme, comma, name, number}
use Rattle.poly_grammar.specs.Numerals.{text_of}
use Rattle.script_forms.specs.Forms.{IsNoComma}
use Rattle.script_forms.specs.RingForms.{all_of, elim_first, list_behind, list_first, list_item, order_first, ring_of, token_of, top_first, weights_of, with_names, with_order_name, with_weights}
use Rattle.script_forms.specs.Written.{AreListedNames, IsOrder, IsRingLine, IsTopWord, IsWeighting, RingLine, comma_list}
use Rattle.script_forms.specs.declared.ring_words.OrderName.{OrderName}
use Rattle.script_forms.specs.declared.ring_words.OrderName.TheVariants.{Elim, Grevlex, Lex}

-- ---- lists

abbrev BeginsNoComma : List Lexeme → Type 0
BeginsNoComma [] = Unit {0}
BeginsNoComma (x ∷ xs) = IsNoComma x

module _ (shape : Token → Lexeme) (pick : Lexeme → Option Token) (picks : (t : Token) → pick (shape t) ≡ Some t) (picked : (x : Lexeme) (t : Token) → pick x ≡ Some t → x ≡ shape t) where
  not_listed : (xs : List Lexeme) → BeginsNoComma xs → list_behind pick xs ≡ Some ([], xs)
  not_listed [] h = refl
  not_listed (comma ∷ xs) h = absurd h
  not_listed (_ ∷ xs) h = refl

  list_again : (ts : List Token) (xs : List Lexeme) → BeginsNoComma xs → list_behind pick (comma_list shape ts ++ xs) ≡ Some (ts, xs)
  list_again [] xs h = not_listed xs h
  list_again (t ∷ ts) xs h = ap (λ o. list_item o (list_behind pick (comma_list shape ts ++ xs))) (picks t) ∙ ap (list_item (Some t)) (list_again ts xs h)

  first_again : (t : Token) (ts : List Token) (xs : List Lexeme) → BeginsNoComma xs → list_first pick (shape t ∷ (comma_list shape ts ++ xs)) ≡ Some (t ∷ ts, xs)
  first_again t ts xs h = ap (λ o. list_item o (list_behind pick (comma_list shape ts ++ xs))) (picks t) ∙ ap (list_item (Some t)) (list_again ts xs h)

  item_back : (x : Lexeme) (xs : List Lexeme) (o : Option Token) (p : Option (List Token × List Lexeme)) → pick x ≡ o → IfSome p (λ f. xs ≡ comma_list shape f.0 ++ f.1)
      → IfSome (list_item o p) (λ f. comma ∷ x ∷ xs ≡ comma_list shape f.0 ++ f.1)
  item_back x xs None p e h = tt
  item_back x xs (Some t) None e h = tt
  item_back x xs (Some t) (Some f) e h = let is : x ≡ shape t = picked x t e in rw (is, h) refl

  list_back : (xs : List Lexeme) → IfSome (list_behind pick xs) (λ f. xs ≡ comma_list shape f.0 ++ f.1)
  list_back [] = refl
  list_back (comma ∷ []) = tt
  list_back (comma ∷ x ∷ xs) = item_back x xs (pick x) (list_behind pick xs) refl (list_back xs)
  list_back (_ ∷ xs) = refl

  -- the list is X { , X }, and the rest is behind it
  abbrev IsFirst : List Lexeme → List Token × List Lexeme → Type 0
  IsFirst xs f = (t : Token) × (ts : List Token) × (f.0 ≡ t ∷ ts) × (xs ≡ shape t ∷ (comma_list shape ts ++ f.1))

  item_first : (x : Lexeme) (xs : List Lexeme) (o : Option Token) (p : Option (List Token × List Lexeme)) → pick x ≡ o → IfSome p (λ f. xs ≡ comma_list shape f.0 ++ f.1) → IfSome (list_item o p) (IsFirst (x ∷ xs))
  item_first x xs None p e h = tt
  item_first x xs (Some t) None e h = tt
  item_first x xs (Some t) (Some f) e h = (t, f.0, refl, (let is : x ≡ shape t = picked x t e in rw (is, h) refl))

  first_back : (xs : List Lexeme) → IfSome (list_first pick xs) (IsFirst xs)
  first_back [] = tt
  first_back (x ∷ xs) = item_first x xs (pick x) (list_behind pick xs) refl (list_back xs)

pick_name : (t : Token) → token_of kinds.Name (name t) ≡ Some t
pick_name t = refl

name_picked : (x : Lexeme) (t : Token) → token_of kinds.Name x ≡ Some t → x ≡ name t
name_picked (name s) t e = ap name (same_Some s t e)
name_picked _ t e = absurd (none-some t e)

pick_number : (t : Token) → token_of kinds.Number (number t) ≡ Some t
pick_number t = refl

number_picked : (x : Lexeme) (t : Token) → token_of kinds.Number x ≡ Some t → x ≡ number t
number_picked (number s) t e = ap number (same_Some s t e)
number_picked _ t e = absurd (none-some t e)

-- ---- words

-- the order that a text names
abbrev order_by : List ℕ → List Lexeme → Option (OrderName × List Lexeme)
order_by text xs =
    cond (pointwise nat_eq text (codes "lex")) (Some (Lex, xs))
    (cond (pointwise nat_eq text (codes "grevlex")) (Some (Grevlex, xs)) (cond (pointwise nat_eq text (codes "elim")) (elim_first xs) None))

order_again : (line : List ℕ) (o : OrderName) (xs ys : List Lexeme) → IsOrder line xs o → order_first line (xs ++ ys) ≡ Some (o, ys)
order_again line Lex xs ys h = ap (λ l. order_first line (l ++ ys)) h.2 ∙ ap (λ text. order_by text ys) h.1
order_again line Grevlex xs ys h = ap (λ l. order_first line (l ++ ys)) h.2 ∙ ap (λ text. order_by text ys) h.1
order_again line (Elim k) xs ys h = ap (λ l. order_first line (l ++ ys)) h.2 ∙ ap (λ text. order_by text (number k ∷ ys)) h.1

order_begins : (line : List ℕ) (o : OrderName) (xs ys : List Lexeme) → IsOrder line xs o → BeginsNoComma (xs ++ ys)
order_begins line Lex xs ys h = rw h.2 tt
order_begins line Grevlex xs ys h = rw h.2 tt
order_begins line (Elim k) xs ys h = rw h.2 tt

-- the order stands first, and the rest is behind it
abbrev IsOrderFirst : List ℕ → List Lexeme → OrderName × List Lexeme → Type 0
IsOrderFirst line xs f = (o : List Lexeme) × IsOrder line o f.0 × (xs ≡ o ++ f.1)

elim_back : (line : List ℕ) (t : Token) (xs : List Lexeme) → text_of line t ≡ codes "elim" → IfSome (elim_first xs) (IsOrderFirst line (name t ∷ xs))
elim_back line t (number k ∷ xs) e = (name t ∷ number k ∷ [], (t, e, refl), refl)
elim_back line t _ e = tt

order_back : (line : List ℕ) (xs : List Lexeme) → IfSome (order_first line xs) (IsOrderFirst line xs)
order_back line [] = tt
order_back line (name t ∷ xs) =
    by_tests (pointwise nat_eq (text_of line t) (codes "lex")) (pointwise nat_eq (text_of line t) (codes "grevlex")) (pointwise nat_eq (text_of line t) (codes "elim")) refl refl refl
  where
    by_tests : (a b c : Bool) → pointwise nat_eq (text_of line t) (codes "lex") ≡ a → pointwise nat_eq (text_of line t) (codes "grevlex") ≡ b → pointwise nat_eq (text_of line t) (codes "elim") ≡ c
        → IfSome (cond a (Some (Lex, xs)) (cond b (Some (Grevlex, xs)) (cond c (elim_first xs) None))) (IsOrderFirst line (name t ∷ xs))
    by_tests true b c p q r = (name t ∷ [], (t, same_text (text_of line t) (codes "lex") (sym p), refl), refl)
    by_tests false true c p q r = (name t ∷ [], (t, same_text (text_of line t) (codes "grevlex") (sym q), refl), refl)
    by_tests false false true p q r = elim_back line t xs (same_text (text_of line t) (codes "elim") (sym r))
    by_tests false false false p q r = tt
order_back line (_ ∷ xs) = tt

-- an order is found, with nothing behind it
pub order_whole : (line : List ℕ) (xs : List Lexeme) (o : OrderName) → IsOrder line xs o → order_first line xs ≡ Some (o, [])
order_whole line xs o h = ap (order_first line) (sym (append-nil xs)) ∙ order_again line o xs [] h

-- it is found in one way
pub one_order : (line : List ℕ) (xs : List Lexeme) (o q : OrderName) → IsOrder line xs o → IsOrder line xs q → o ≡ q
one_order line xs o q h k =
    ap (λ f. f.0) (same_Some (o, []) (q, []) (sym (order_whole line xs o h) ∙ order_whole line xs q k))

-- what is found with nothing behind it is an order
pub order_found : (line : List ℕ) (xs : List Lexeme) (o : OrderName) → order_first line xs ≡ Some (o, []) → IsOrder line xs o
order_found line xs o e =
    let back = subst (λ f. IfSome f (IsOrderFirst line xs)) e (order_back line xs) in
    subst (λ l. IsOrder line l o) (sym (back.2 ∙ append-nil back.0)) back.1

top_by : List ℕ → Token → List Lexeme → Bool × List Lexeme
top_by text t xs = cond (pointwise nat_eq text (codes "top")) (true, xs) (false, name t ∷ xs)

top_again : (line : List ℕ) (top : Bool) (xs ys : List Lexeme) (weights : List Token) → IsTopWord line xs top → IsWeighting line ys weights → top_first line (xs ++ ys) ≡ (top, ys)
unfolding top_by
top_again line true xs ys weights h k = ap (λ l. top_first line (l ++ ys)) h.2 ∙ ap (λ text. top_by text h.0 ys) h.1
top_again line false xs ys [] h k = ap (λ l. top_first line (l ++ ys)) h ∙ ap (top_first line) k ∙ ap (λ l. (false, l)) (sym k)
top_again line false xs ys (t ∷ ts) h k =
    ap (λ l. top_first line (l ++ ys)) h ∙ ap (top_first line) k.2 ∙ ap (λ text. top_by text k.0 (number t ∷ comma_list number ts)) k.1 ∙ ap (λ l. (false, l)) (sym k.2)

-- whether `top` stands first, and the rest is behind it
abbrev IsTopFirst : List ℕ → List Lexeme → Bool × List Lexeme → Type 0
IsTopFirst line xs f = (o : List Lexeme) × IsTopWord line o f.0 × (xs ≡ o ++ f.1)

top_back : (line : List ℕ) (xs : List Lexeme) → IsTopFirst line xs (top_first line xs)
top_back line [] = ([], refl, refl)
top_back line (name t ∷ xs) = by_test (pointwise nat_eq (text_of line t) (codes "top")) refl
  where
    by_test : (b : Bool) → pointwise nat_eq (text_of line t) (codes "top") ≡ b → IsTopFirst line (name t ∷ xs) (cond b (true, xs) (false, name t ∷ xs))
    by_test true e = (name t ∷ [], (t, same_text (text_of line t) (codes "top") (sym e), refl), refl)
    by_test false e = ([], refl, refl)
top_back line (_ ∷ xs) = ([], refl, refl)

weights_by : List ℕ → List Lexeme → Option (List Token)
weights_by text xs = cond (pointwise nat_eq text (codes "weights")) (all_of (list_first (token_of kinds.Number) xs)) None

weights_again : (line : List ℕ) (xs : List Lexeme) (weights : List Token) → IsWeighting line xs weights → weights_of line xs ≡ Some weights
unfolding weights_by
weights_again line xs [] h = ap (weights_of line) h
weights_again line xs (t ∷ ts) h =
    let numbers : list_first (token_of kinds.Number) (number t ∷ (comma_list number ts ++ [])) ≡ Some (t ∷ ts, []) =
    first_again number (token_of kinds.Number) pick_number number_picked t ts [] tt in
    ap (weights_of line) h.2 ∙ ap (λ text. weights_by text (number t ∷ comma_list number ts)) h.1
    ∙ ap (λ l. all_of (list_first (token_of kinds.Number) (number t ∷ l))) (sym (append-nil (comma_list number ts))) ∙ ap all_of numbers

all_back : (xs : List Lexeme) (o : Option (List Token × List Lexeme)) → IfSome o (IsFirst number (token_of kinds.Number) pick_number number_picked xs)
    → IfSome (all_of o) (λ ws. (t : Token) × (ts : List Token) × (ws ≡ t ∷ ts) × (xs ≡ number t ∷ comma_list number ts))
all_back xs None h = tt
all_back xs (Some (ws, [])) h = (h.0, h.1, h.2, h.3 ∙ ap (λ l. number h.0 ∷ l) (append-nil (comma_list number h.1)))
all_back xs (Some (ws, x ∷ rest)) h = tt

weights_back : (line : List ℕ) (xs : List Lexeme) → IfSome (weights_of line xs) (IsWeighting line xs)
weights_back line [] = refl
weights_back line (name t ∷ xs) =
    by_test (pointwise nat_eq (text_of line t) (codes "weights")) (all_of (list_first (token_of kinds.Number) xs)) refl
    (all_back xs (list_first (token_of kinds.Number) xs) (first_back number (token_of kinds.Number) pick_number number_picked xs))
  where
    by_test : (b : Bool) (o : Option (List Token)) → pointwise nat_eq (text_of line t) (codes "weights") ≡ b
        → IfSome o (λ ws. (u : Token) × (ts : List Token) × (ws ≡ u ∷ ts) × (xs ≡ number u ∷ comma_list number ts)) → IfSome (cond b o None) (IsWeighting line (name t ∷ xs))
    by_test true None e h = tt
    by_test true (Some ws) e h =
        subst (IsWeighting line (name t ∷ xs)) (sym h.2) (t, same_text (text_of line t) (codes "weights") (sym e), ap (λ l. name t ∷ l) h.3)
    by_test false o e h = tt
weights_back line (_ ∷ xs) = tt

-- ---- ring lines

spelled_names : (line : List ℕ) (m : Token) (names : List Token) (xs ys : List Lexeme) → AreListedNames xs names → BeginsNoComma ys → with_names line m (list_first (token_of kinds.Name) (xs ++ ys)) ≡ with_order_name line m names (order_first line ys)
spelled_names line m [] xs ys h k = absurd h
spelled_names line m (t ∷ ts) xs ys h k =
    ap (λ l. with_names line m (list_first (token_of kinds.Name) (l ++ ys))) h ∙ ap (with_names line m) (first_again name (token_of kinds.Name) pick_name name_picked t ts ys k)

-- a ring line is found
pub ring_again : (line : List ℕ) (xs : List Lexeme) (r : RingLine) → IsRingLine line xs r → ring_of line xs ≡ Some r
ring_again line xs r h =
    let names : with_names line r.modulus (list_first (token_of kinds.Name) (h.names ++ (h.order ++ (h.top ++ h.weights)))) ≡ with_order_name line r.modulus r.names (order_first line (h.order ++ (h.top ++ h.weights))) =
    spelled_names line r.modulus r.names h.names (h.order ++ (h.top ++ h.weights)) h.names_are (order_begins line r.order h.order (h.top ++ h.weights) h.order_is) in
    let order : order_first line (h.order ++ (h.top ++ h.weights)) ≡ Some (r.order, h.top ++ h.weights) = order_again line r.order h.order (h.top ++ h.weights) h.order_is in
    let top : top_first line (h.top ++ h.weights) ≡ (r.top, h.weights) = top_again line r.top h.top h.weights r.weights h.top_is h.weights_are in
    ap (ring_of line) h.spelled ∙ names ∙ ap (with_order_name line r.modulus r.names) order
    ∙ ap (λ f. with_weights r.modulus r.names r.order f.0 (weights_of line f.1)) top ∙ ap (with_weights r.modulus r.names r.order r.top) (weights_again line h.weights r.weights h.weights_are)

-- what is found is a ring line
module _ (line : List ℕ) (m t : Token) (ts : List Token) (order_part : List Lexeme) (order : OrderName) (order_is : IsOrder line order_part order) (top_part : List Lexeme) (top : Bool) (top_is : IsTopWord line top_part top) where
  with_weights_back : (xs : List Lexeme) (o : Option (List Token)) → IfSome o (IsWeighting line xs)
      → IfSome (with_weights m (t ∷ ts) order top o) (IsRingLine line (number m ∷ name t ∷ (comma_list name ts ++ (order_part ++ (top_part ++ xs)))))
  with_weights_back xs None h = tt
  with_weights_back xs (Some ws) h = record {
    names = name t ∷ comma_list name ts;
    order = order_part;
    top = top_part;
    weights = xs;
    names_are = refl;
    order_is = order_is;
    top_is = top_is;
    weights_are = h;
    spelled = refl;
  }

with_order_back : (line : List ℕ) (m t : Token) (ts : List Token) (xs : List Lexeme) (o : Option (OrderName × List Lexeme)) → IfSome o (IsOrderFirst line xs)
    → IfSome (with_order_name line m (t ∷ ts) o) (IsRingLine line (number m ∷ name t ∷ (comma_list name ts ++ xs)))
with_order_back line m t ts xs None h = tt
with_order_back line m t ts xs (Some (order, ys)) h =
    let top = top_back line ys in
    let whole : h.0 ++ (top.0 ++ (top_first line ys).1) ≡ xs = ap (λ l. h.0 ++ l) (sym top.2) ∙ sym h.2 in
    subst (λ l. IfSome (with_weights m (t ∷ ts) order (top_first line ys).0 (weights_of line (top_first line ys).1)) (IsRingLine line (number m ∷ name t ∷ (comma_list name ts ++ l)))) whole
    (with_weights_back line m t ts h.0 order h.1 top.0 (top_first line ys).0 top.1 (top_first line ys).1 (weights_of line (top_first line ys).1) (weights_back line (top_first line ys).1))

with_names_back : (line : List ℕ) (m : Token) (xs : List Lexeme) (o : Option (List Token × List Lexeme)) → IfSome o (IsFirst name (token_of kinds.Name) pick_name name_picked xs)
    → IfSome (with_names line m o) (IsRingLine line (number m ∷ xs))
with_names_back line m xs None h = tt
with_names_back line m xs (Some (names, ys)) h =
    subst (λ l. IfSome (with_order_name line m l (order_first line ys)) (IsRingLine line (number m ∷ xs))) (sym h.2)
    (subst (λ l. IfSome (with_order_name line m (h.0 ∷ h.1) (order_first line ys)) (IsRingLine line (number m ∷ l))) (sym h.3)
    (with_order_back line m h.0 h.1 ys (order_first line ys) (order_back line ys)))

pub ring_back : (line : List ℕ) (xs : List Lexeme) → IfSome (ring_of line xs) (IsRingLine line xs)
ring_back line (number m ∷ xs) = with_names_back line m xs (list_first (token_of kinds.Name) xs) (first_back name (token_of kinds.Name) pick_name name_picked xs)
ring_back line _ = tt

-- a ring line is written in one way
pub one_ring : (line : List ℕ) (xs : List Lexeme) (r s : RingLine) → IsRingLine line xs r → IsRingLine line xs s → r ≡ s
one_ring line xs r s h k = same_Some r s (sym (ring_again line xs r h) ∙ ring_again line xs s k)
