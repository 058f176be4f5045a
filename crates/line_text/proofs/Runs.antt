-- Runs of entries 0 in a text
use Rattle.std.proofs.Common.{Err, List, Ok, Result, [], ap, append_assoc, arith, drop, get_or, length, refl, suc, sym, take, zero, ℕ, ◌*◌, ◌+◌, ◌-◌, ◌++◌, ◌<◌, ◌∙◌, ◌∷◌, ◌≡◌, ◌≤◌}
use Rattle.std.proofs.lemmas.List.{append-nil, drop_all, drop_more, drop-append-le, length-append, length-drop, length-take-le, take-append-le, take_all}
use Rattle.std.specs.Prelude.{OnOk, if◌then◌else◌, is_ok}
use Rattle.line_text.specs.declared.text.Run.{Run}
use Rattle.line_text.specs.Texts.{AreInOrder, bytes_of_runs, spread, zero_bytes, zero_entries}

-- the front of a run
pub front_bytes : (k n : ℕ) → k ≤ n → take k (zero_bytes n) ≡ zero_bytes k
front_bytes zero n within = refl
front_bytes (suc k) zero within = absurd (omega arith)
front_bytes (suc zero) (suc zero) within = refl
front_bytes (suc zero) (suc (suc n)) within = refl
front_bytes (suc (suc k)) (suc zero) within = absurd (omega arith)
front_bytes (suc (suc k)) (suc (suc n)) within = ap (λ r. 44 ∷ 48 ∷ r) (front_bytes k n (omega arith))

-- how many bytes a run has
pub length_zeros : (n : ℕ) → length (zero_bytes n) ≡ n
length_zeros zero = refl
length_zeros (suc zero) = refl
length_zeros (suc (suc n)) = ap (λ k. suc (suc k)) (length_zeros n)

-- a shorter run and what is behind it
pub longer_run : (k n : ℕ) → k ≤ n → (more : List ℕ) × (zero_bytes n ≡ zero_bytes k ++ more) × (length more ≡ n - k)
longer_run zero n within = let len = length_zeros n in (zero_bytes n, refl, omega (arith, len))
longer_run (suc k) zero within = absurd (omega arith)
longer_run (suc zero) (suc zero) within = ([], refl, refl)
longer_run (suc zero) (suc (suc n)) within = let len = length_zeros n in (48 ∷ zero_bytes n, refl, omega (arith, len))
longer_run (suc (suc k)) (suc zero) within = absurd (omega arith)
longer_run (suc (suc k)) (suc (suc n)) within =
    let more = longer_run k n (omega arith) in (more.0, ap (λ r. 44 ∷ 48 ∷ r) more.1, omega (arith, more.2))

-- entries by their bytes
pub bytes_of_entries : (n k : ℕ) → k ≡ 2 * n → zero_bytes k ≡ zero_entries n
bytes_of_entries zero k twice = let none : k ≡ 0 = omega arith in rw none refl
bytes_of_entries (suc n) zero twice = absurd (omega arith)
bytes_of_entries (suc n) (suc zero) twice = absurd (omega arith)
bytes_of_entries (suc n) (suc (suc k)) twice = ap (λ r. 44 ∷ 48 ∷ r) (bytes_of_entries n k (omega arith))

-- the same with a comma behind them
pub bytes_of_gap : (n k : ℕ) → k ≡ 2 * n + 1 → zero_bytes k ≡ zero_entries n ++ 44 ∷ []
bytes_of_gap zero k twice = let one : k ≡ 1 = omega arith in rw one refl
bytes_of_gap (suc n) zero twice = absurd (omega arith)
bytes_of_gap (suc n) (suc zero) twice = absurd (omega arith)
bytes_of_gap (suc n) (suc (suc k)) twice = ap (λ r. 44 ∷ 48 ∷ r) (bytes_of_gap n k (omega arith))

-- whole entries and more bytes
pub zeros_sum : (j k n m : ℕ) → k ≡ 2 * j → m ≡ k + n → zero_bytes m ≡ zero_bytes k ++ zero_bytes n
zeros_sum zero k n m twice sum = let none : k ≡ 0 = omega arith in let same : m ≡ n = omega arith in rw (none, same) refl
zeros_sum (suc j) zero n m twice sum = absurd (omega arith)
zeros_sum (suc j) (suc zero) n m twice sum = absurd (omega arith)
zeros_sum (suc j) (suc (suc k)) n zero twice sum = absurd (omega arith)
zeros_sum (suc j) (suc (suc k)) n (suc zero) twice sum = absurd (omega arith)
zeros_sum (suc j) (suc (suc k)) n (suc (suc m)) twice sum = ap (λ r. 44 ∷ 48 ∷ r) (zeros_sum j k n m (omega arith) (omega arith))

-- the end of the last run
abbrev pub last_end : ℕ → List Run → ℕ
last_end start [] = start
last_end start (r ∷ runs) = last_end r.end runs

pub last_within : (start : ℕ) (runs : List Run) (size : ℕ) → AreInOrder start runs size → (start ≤ last_end start runs) × (last_end start runs ≤ size)
last_within start [] size order = (omega arith, order)
last_within start (r ∷ runs) size order =
    let rest = last_within r.end runs size order.2 in (omega (arith, order.0, rest.0), rest.1)

-- runs within other bytes, where the last ends within them
pub order_within : (start : ℕ) (runs : List Run) (size other : ℕ) → AreInOrder start runs size → last_end start runs ≤ other → AreInOrder start runs other
order_within start [] size other order end = end
order_within start (r ∷ runs) size other order end = (order.0, order.1, order_within r.end runs size other order.2 end)

pub order_more : (start : ℕ) (runs : List Run) (size other : ℕ) → AreInOrder start runs size → size ≤ other → AreInOrder start runs other
order_more start runs size other order more =
    let last = last_within start runs size order in order_within start runs size other order (omega (arith, last.1))

-- one more run, at the end of the bytes
pub order_run : (start : ℕ) (runs : List Run) (size : ℕ) (r : Run) → AreInOrder start runs size → 0 < r.length → r.end ≡ size → AreInOrder start (runs ++ r ∷ []) size
order_run start [] size r order some end = (omega (arith, order, end), some, omega (arith, end))
order_run start (q ∷ runs) size r order some end = (order.0, order.1, order_run q.end runs size r order.2 some end)

pub bytes_of_more : (runs : List Run) (r : Run) → bytes_of_runs (runs ++ r ∷ []) ≡ bytes_of_runs runs + r.length
bytes_of_more [] r = omega arith
bytes_of_more (q ∷ runs) r = let rest = bytes_of_more runs r in omega (arith, rest)

-- more bytes at the end
pub spread_more : (bytes : List ℕ) (start : ℕ) (runs : List Run) (more : List ℕ) → AreInOrder start runs (length bytes)
    → spread (bytes ++ more) start runs ≡ spread bytes start runs ++ more
spread_more bytes start [] more order = drop-append-le start bytes more order
spread_more bytes start (r ∷ runs) more order =
    let last = last_within r.end runs (length bytes) order.2 in
    let from : start ≤ length bytes = omega (arith, order.0, last.0, last.1) in
    let room : r.end - start ≤ length (drop start bytes) = let l = length-drop start bytes in omega (arith, l, last.0, last.1) in
    ap (λ l. take (r.end - start) l ++ (zero_bytes r.length ++ spread (bytes ++ more) r.end runs)) (drop-append-le start bytes more from)
    ∙ ap (λ l. l ++ (zero_bytes r.length ++ spread (bytes ++ more) r.end runs)) (take-append-le (r.end - start) (drop start bytes) more room)
    ∙ ap (λ l. take (r.end - start) (drop start bytes) ++ (zero_bytes r.length ++ l)) (spread_more bytes r.end runs more order.2)
    ∙ simp append_assoc

-- one more run at the end
pub spread_run : (bytes : List ℕ) (start : ℕ) (runs : List Run) (r : Run) → AreInOrder start runs (length bytes) → r.end ≡ length bytes
    → spread bytes start (runs ++ r ∷ []) ≡ spread bytes start runs ++ zero_bytes r.length
spread_run bytes start [] r order end =
    let room : length (drop start bytes) ≤ r.end - start = let l = length-drop start bytes in omega (arith, l, end) in
    let none : drop r.end bytes ≡ [] = drop_all r.end bytes (omega (arith, end)) in
    ap (λ l. l ++ (zero_bytes r.length ++ drop r.end bytes)) (take_all (r.end - start) (drop start bytes) room)
    ∙ ap (λ l. drop start bytes ++ (zero_bytes r.length ++ l)) none
    ∙ ap (λ l. drop start bytes ++ l) (append-nil (zero_bytes r.length))
spread_run bytes start (q ∷ runs) r order end =
    ap (λ l. take (q.end - start) (drop start bytes) ++ (zero_bytes q.length ++ l)) (spread_run bytes q.end runs r order.2 end)
    ∙ simp append_assoc

-- how long the text is
pub length_spread : (bytes : List ℕ) (start : ℕ) (runs : List Run) → AreInOrder start runs (length bytes)
    → length (spread bytes start runs) ≡ (length bytes - start) + bytes_of_runs runs
length_spread bytes start [] order = let l = length-drop start bytes in omega (arith, l)
length_spread bytes start (r ∷ runs) order =
    let last = last_within r.end runs (length bytes) order.2 in
    let front = take (r.end - start) (drop start bytes) in
    let rest = spread bytes r.end runs in
    let cut : length front ≡ r.end - start = length-take-le (r.end - start) (drop start bytes) (let l = length-drop start bytes in omega (arith, l, last.0, last.1)) in
    let sum = length-append front (zero_bytes r.length ++ rest) in
    let behind = length-append (zero_bytes r.length) rest in
    let zeros = length_zeros r.length in
    let more = length_spread bytes r.end runs order.2 in
    let from = order.0 in
    omega (arith, cut, sum, behind, zeros, more, last.0, last.1, from)

-- runs within bytes that got more
pub order_behind : (runs : List Run) (bytes more : List ℕ) → AreInOrder 0 runs (length bytes) → AreInOrder 0 runs (length (bytes ++ more))
order_behind runs bytes more order =
    let len = length-append bytes more in order_more 0 runs (length bytes) (length (bytes ++ more)) order (omega (arith, len))

-- the next run
pub next_run : (runs : List Run) (i start size : ℕ) (d : Run) → i < length runs → AreInOrder start (drop i runs) size
    → (start ≤ (get_or runs i d).end) × ((get_or runs i d).end ≤ size) × AreInOrder (get_or runs i d).end (drop (i + 1) runs) size
next_run runs i start size d below order =
    let here = rw (drop_more runs i d below) at order in
    let last = last_within (get_or runs i d).end (drop (i + 1) runs) size here.2 in
    (here.0, omega (arith, last.0, last.1), here.2)

-- and the text with it
pub next_spread : (bytes : List ℕ) (runs : List Run) (i start : ℕ) (d : Run) → i < length runs
    → spread bytes start (drop i runs)
    ≡ (take ((get_or runs i d).end - start) (drop start bytes) ++ zero_bytes (get_or runs i d).length) ++ spread bytes (get_or runs i d).end (drop (i + 1) runs)
next_spread bytes runs i start d below =
    let r = get_or runs i d in
    ap (spread bytes start) (drop_more runs i d below)
    ∙ sym (append_assoc (take (r.end - start) (drop start bytes)) (zero_bytes r.length) (spread bytes r.end (drop (i + 1) runs)))

-- behind the last run
pub last_spread : (bytes : List ℕ) (runs : List Run) (i start : ℕ) → length runs ≤ i → spread bytes start (drop i runs) ≡ drop start bytes
last_spread bytes runs i start past = ap (spread bytes start) (drop_all i runs past)

-- what was pushed, where the result is not an error
pub pushed : {T E : Type 0} (r : Result T E) (old new bytes text : List ℕ) → bytes ≡ text → new ≡ (if is_ok r then old ++ bytes else old)
    → OnOk r (new ≡ old ++ text)
pushed (Ok t) old new bytes text same e = e ∙ ap (λ l. old ++ l) same
pushed (Err f) old new bytes text same e = tt
