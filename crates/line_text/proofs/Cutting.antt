-- A text that is cut off
use Rattle.std.proofs.Common.{List, [], ap, append_assoc, arith, drop, get_or, length, refl, set, suc, sym, take, ℕ, ◌+◌, ◌++◌, ◌<◌, ◌∙◌, ◌∷◌, ◌≡◌, ◌≤◌}
use Rattle.std.proofs.lemmas.List.{drop_all, length-append, length-drop, length-take-le, set_split, take-append-drop, take-append-le, take_all, take_more}
use Rattle.line_text.specs.declared.text.Run.{Run}
use Rattle.line_text.specs.Texts.{AreInOrder, IsCutOff, bytes_of_runs, spread, zero_bytes}
use Rattle.line_text.proofs.Runs.{bytes_of_more, last_end, length_zeros, longer_run, order_run, order_within, spread_more, spread_run}

-- the end of the last run
pub last_of : (start : ℕ) (runs : List Run) (r : Run) → last_end start (runs ++ r ∷ []) ≡ r.end
last_of start [] r = refl
last_of start (q ∷ runs) r = last_of q.end runs r

-- the runs before the last
pub order_before : (start : ℕ) (runs : List Run) (r : Run) (size : ℕ) → AreInOrder start (runs ++ r ∷ []) size → AreInOrder start runs size × (0 < r.length)
order_before start [] r size order = (omega (arith, order.0, order.2), order.1)
order_before start (q ∷ runs) r size order =
    let rest = order_before q.end runs r size order.2 in ((order.0, order.1, rest.0), rest.1)

-- the last run and those before it
pub runs_split : (runs : List Run) (last : ℕ) (r : Run) → length runs ≡ last + 1 → r ≡ get_or runs last r → runs ≡ take last runs ++ r ∷ []
runs_split runs last r len at =
    sym (take_all (last + 1) runs (omega (arith, len))) ∙ take_more runs last r (omega (arith, len)) ∙ ap (λ q. take last runs ++ q ∷ []) (sym at)

-- and another in its place
pub runs_set : (runs : List Run) (last : ℕ) (q : Run) → length runs ≡ last + 1 → set runs last q ≡ take last runs ++ q ∷ []
runs_set runs last q len =
    set_split runs last q (omega (arith, len)) ∙ ap (λ l. take last runs ++ q ∷ l) (drop_all (suc last) runs (omega (arith, len)))

-- bytes behind the last run go
pub cut_bytes : (bytes : List ℕ) (runs : List Run) (n most : ℕ) → AreInOrder 0 runs (length bytes) → last_end 0 runs ≤ n → n < length bytes
    → length bytes ≤ n + most → AreInOrder 0 runs (length (take n bytes)) × IsCutOff (spread bytes 0 runs) (spread (take n bytes) 0 runs) most
cut_bytes bytes runs n most order end some within =
    let len : length (take n bytes) ≡ n = length-take-le n bytes (omega (arith, some)) in
    let front : AreInOrder 0 runs (length (take n bytes)) = order_within 0 runs (length bytes) (length (take n bytes)) order (omega (arith, len, end)) in
    let behind = length-drop n bytes in (
      front,
      record {
        cut = drop n bytes;
        parts = ap (λ l. spread l 0 runs) (sym (take-append-drop n bytes)) ∙ spread_more (take n bytes) 0 runs (drop n bytes) front;
        some = omega (arith, behind, some);
        within = omega (arith, behind, within);
      },
    )

-- the last run goes
pub cut_run : (bytes : List ℕ) (runs before : List Run) (r : Run) (most : ℕ) → runs ≡ before ++ r ∷ [] → AreInOrder 0 runs (length bytes)
    → r.end ≡ length bytes → r.length ≤ most
    → AreInOrder 0 before (length bytes) × (bytes_of_runs runs ≡ bytes_of_runs before + r.length) × IsCutOff (spread bytes 0 runs) (spread bytes 0 before) most
cut_run bytes runs before r most split order end within =
    let first = order_before 0 before r (length bytes) (rw split at order) in
    let zeros = length_zeros r.length in (
      first.0,
      ap bytes_of_runs split ∙ bytes_of_more before r,
      record {
        cut = zero_bytes r.length;
        parts = ap (λ l. spread bytes 0 l) split ∙ spread_run bytes 0 before r first.0 end;
        some = omega (arith, zeros, first.1);
        within = omega (arith, zeros, within);
      },
    )

-- the last run gets shorter
pub cut_part : (bytes : List ℕ) (runs before : List Run) (r q : Run) (most : ℕ) → runs ≡ before ++ r ∷ [] → AreInOrder 0 runs (length bytes)
    → r.end ≡ length bytes → q.end ≡ r.end → r.length ≡ q.length + most → 0 < most → 0 < q.length
    → AreInOrder 0 (before ++ q ∷ []) (length bytes) × (bytes_of_runs runs ≡ bytes_of_runs (before ++ q ∷ []) + most)
    × IsCutOff (spread bytes 0 runs) (spread bytes 0 (before ++ q ∷ [])) most
cut_part bytes runs before r q most split order end same sum some left =
    let first = order_before 0 before r (length bytes) (rw split at order) in
    let at_end : q.end ≡ length bytes = same ∙ end in
    let longer = longer_run q.length r.length (omega (arith, sum)) in
    let old = bytes_of_more before r in
    let new = bytes_of_more before q in
    let all : bytes_of_runs runs ≡ bytes_of_runs (before ++ r ∷ []) = ap bytes_of_runs split in (
      order_run 0 before (length bytes) q first.0 left at_end,
      omega (arith, all, old, new, sum),
      record {
        cut = longer.0;
        parts =
            ap (λ l. spread bytes 0 l) split ∙ spread_run bytes 0 before r first.0 end ∙ ap (λ l. spread bytes 0 before ++ l) longer.1
            ∙ sym (append_assoc (spread bytes 0 before) (zero_bytes q.length) longer.0)
            ∙ ap (λ l. l ++ longer.0) (sym (spread_run bytes 0 before q first.0 at_end));
        some = omega (arith, longer.2, sum, some);
        within = omega (arith, longer.2, sum);
      },
    )

-- the first bytes, so many, of a text that was cut off stay
pub take_cut : (old new : List ℕ) (most n : ℕ) → IsCutOff old new most → n + most ≤ length old → (n ≤ length new) × (take n old ≡ take n new)
take_cut old new most n cut within =
    let len = length-append new cut.cut in
    let same : length old ≡ length (new ++ cut.cut) = ap length cut.parts in
    let room : n ≤ length new = omega (arith, len, same, cut.within, within) in
    (room, ap (take n) cut.parts ∙ take-append-le n new cut.cut room)

-- where there is no run
pub none_end : (runs : List Run) → length runs < 1 → (last_end 0 runs ≡ 0) × (bytes_of_runs runs ≡ 0)
none_end [] none = (refl, refl)
none_end (r ∷ runs) none = absurd (omega (arith, none))

-- the end of the run that is the last
pub end_is : (runs : List Run) (last : ℕ) (r : Run) → length runs ≡ last + 1 → r ≡ get_or runs last r → last_end 0 runs ≡ r.end
end_is runs last r len at = ap (last_end 0) (runs_split runs last r len at) ∙ last_of 0 (take last runs) r

-- the last run has no more bytes than all
pub last_length : (runs : List Run) (last : ℕ) (r : Run) → length runs ≡ last + 1 → r ≡ get_or runs last r
    → bytes_of_runs runs ≡ bytes_of_runs (take last runs) + r.length
last_length runs last r len at = ap bytes_of_runs (runs_split runs last r len at) ∙ bytes_of_more (take last runs) r
