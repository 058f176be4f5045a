-- Bytes without a newline, and bytes up to one.
use Rattle.std.proofs.Common.{◌≡◌, ℕ, ◌+◌, ◌-◌, ◌<◌, ◌≤◌, min, List, [], ◌∷◌, ◌++◌, length, take, drop, get_or, sym, ap, ◌∙◌, subst, arith, append_assoc}
use Rattle.std.proofs.Math.Seq.{take-append-add}
use Rattle.std.proofs.lemmas.List.{take_more, drop_more, take-append-drop, drop-take, drop-drop, take_all, length-take, length-take-le, length-append}
use Rattle.byte_ports.specs.Lines.{HasNoNewline}

pub none_join : (xs ys : List ℕ) → HasNoNewline xs → HasNoNewline ys → HasNoNewline (xs ++ ys)
none_join [] ys h k = k
none_join (x ∷ xs) ys h k = (h.0, none_join xs ys h.1 k)

pub none_more : (xs : List ℕ) (i : ℕ) → i < length xs → HasNoNewline (take i xs) → (get_or xs i 0 ≡ 10 → ⊥) → HasNoNewline (take (i + 1) xs)
none_more xs i l h d = subst HasNoNewline (sym (take_more xs i 0 l)) (none_join (take i xs) (get_or xs i 0 ∷ []) h (d, tt))

pub split_at : (xs : List ℕ) (i : ℕ) → i < length xs → get_or xs i 0 ≡ 10 → xs ≡ take i xs ++ 10 ∷ drop (i + 1) xs
split_at xs i l e = sym (take-append-drop i xs) ∙ ap (λ l. take i xs ++ l) (drop_more xs i 0 l ∙ ap (λ b. b ∷ drop (i + 1) xs) e)

-- what a slice holds behind an index
rest_of : (xs : List ℕ) (start end at : ℕ) → at < end - start → drop (at + 1) (take (end - start) (drop start xs)) ≡ take (end - (start + (at + 1))) (drop (start + (at + 1)) xs)
rest_of xs start end at below =
    let sum : end - start ≡ (at + 1) + (end - (start + (at + 1))) = omega (arith, below) in
    ap (λ n. drop (at + 1) (take n (drop start xs))) sum ∙ drop-take (at + 1) (end - (start + (at + 1))) (drop start xs)
    ∙ ap (take (end - (start + (at + 1)))) (drop-drop (at + 1) start xs)

-- a line goes on in a slice and ends there
pub moved_line : (xs line new held told : List ℕ) (start end at room left : ℕ) → take (end - start) (drop start xs) ≡ held → told ≡ held
    → at < length held → at < room - length line → length line ≤ room → HasNoNewline line → HasNoNewline (take at held) → held ≡ take at held ++ 10 ∷ drop (at + 1) held
    → new ≡ line ++ take at held → left ≡ room - length line - at - 1
    → (line ++ told ≡ new ++ 10 ∷ take (end - (start + (at + 1))) (drop (start + (at + 1)) xs)) × HasNoNewline new × (room ≡ length new + 1 + left)
moved_line xs line new held told start end at room left same told_is within counts some none more split is left_is =
    let rest = take (end - (start + (at + 1))) (drop (start + (at + 1)) xs) in
    let slice : length (take (end - start) (drop start xs)) ≡ min (end - start) (length (drop start xs)) = length-take (end - start) (drop start xs) in
    let same_length : length (take (end - start) (drop start xs)) ≡ length held = ap length same in
    let below : at < end - start = omega (arith, slice, same_length, within) in
    let behind : drop (at + 1) held ≡ rest = ap (drop (at + 1)) (sym same) ∙ rest_of xs start end at below in
    let front : length (take at held) ≡ at = length-take-le at held (omega (arith, within)) in
    let all : length new ≡ length line + length (take at held) = ap length is ∙ length-append line (take at held) in (
      ap (λ l. line ++ l) (told_is ∙ split ∙ ap (λ l. take at held ++ 10 ∷ l) behind) ∙ sym (append_assoc line (take at held) (10 ∷ rest)) ∙ ap (λ l. l ++ 10 ∷ rest) (sym is),
      subst HasNoNewline (sym is) (none_join line (take at held) none more),
      omega (arith, front, all, left_is, counts, some),
    )

-- no newline stands among the bytes that count
none_counted : (line held : List ℕ) (room : ℕ) → length line ≤ room → HasNoNewline line → HasNoNewline (take (room - length line) held) → HasNoNewline (take room (line ++ held))
none_counted line held room within h k =
    let sum : length line + (room - length line) ≡ room = omega (arith, within) in
    subst HasNoNewline (ap (λ n. take n (line ++ held)) sum) (subst HasNoNewline (sym (take-append-add line held (room - length line))) (none_join line (take (room - length line) held) h k))

-- more bytes are held than count, and none of those that do is a newline
pub moved_long : (line held told : List ℕ) (room : ℕ) → told ≡ held → room - length line < length held → length line ≤ room → HasNoNewline line
    → HasNoNewline (take (room - length line) held) → (room < length (line ++ told)) × HasNoNewline (take room (line ++ told))
moved_long line held told room told_is long some none more =
    let all : length (line ++ told) ≡ length line + length told = length-append line told in
    let same : length told ≡ length held = ap length told_is in (
      omega (arith, all, same, long, some),
      none_counted line told room some none (subst (λ l. HasNoNewline (take (room - length line) l)) (sym told_is) more),
    )

-- all bytes that are held count, and none of them is a newline
pub moved_all : (xs line new held told : List ℕ) (end room left : ℕ) → told ≡ held → length held ≤ room - length line → length line ≤ room → HasNoNewline line
    → HasNoNewline (take (room - length line) held) → new ≡ line ++ held → left ≡ room
    → (new ≡ line ++ told) × (take (end - end) (drop end xs) ≡ []) × HasNoNewline new × (length new ≤ room) × (left ≡ room)
moved_all xs line new held told end room left told_is within some none more is left_is =
    let all : length new ≡ length line + length held = ap length is ∙ length-append line held in
    let nothing : end - end ≡ 0 = omega arith in (
      is ∙ ap (λ l. line ++ l) (sym told_is),
      ap (λ n. take n (drop end xs)) nothing,
      subst HasNoNewline (sym is) (none_join line held none (subst HasNoNewline (take_all (room - length line) held within) more)),
      omega (arith, all, within, some),
      left_is,
    )
