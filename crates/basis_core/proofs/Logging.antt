-- The notes of a run's events: one for each, the same as members and events are added; and the members that they tell
use Rattle.std.proofs.Common.{List, Option, [], inl, inr, ap, append-nil, arith, drop, length, length-append, refl, subst, suc, sym, take, zero, ℕ}
use Rattle.std.proofs.Common.{◌++◌, ◌+◌, ◌-◌, ◌∙◌, ◌∷◌, ◌≡◌, ◌≤◌}
use Rattle.std.proofs.lemmas.List.{length-map}
use Rattle.formal_sums.specs.FormalSums.{Each}
use Rattle.basis_steps.specs.States as plain
use Rattle.basis_steps.specs.States.{Run, State}
use Rattle.basis_steps.specs.Steps.{Reaches, Replays}
use Rattle.std.specs.Global.{Vec}
use Rattle.basis_steps.specs.Pairs.{Pair}
use Rattle.basis_core.specs.declared.ending.Ending.{Ending}
use Rattle.basis_core.specs.declared.event.Event.{Event}
use Rattle.basis_core.specs.declared.event.Event.TheVariants as events
use Rattle.basis_core.specs.declared.stop.StopReason.{StopReason}
use Rattle.basis_core.specs.Inside.{IsEventRead}
use Rattle.basis_core.specs.Members.{MemberShown, member_of, members_of}
use Rattle.basis_core.specs.Shown.{Shown}
use Rattle.basis_core.specs.Views.{IsSameRun, ending_of, history_of, run_of, state_of, variables_of}
use Rattle.basis_core.proofs.Growing.{part_front}
use Rattle.basis_core.specs.Logs.{Adds, End, Noted, Put, Stop, Take, base, count_made, log, made_in, members_after, notes_from, number_at_beginning}

pub length_notes : (k : ℕ) (ms : List MemberShown) (es : List Event) → length (notes_from k ms es) ≡ length es
length_notes k ms [] = refl
length_notes k ms (events.Take w skipped job ∷ es) = ap suc (length_notes k ms es)
length_notes k ms (events.Put w first count ∷ es) = ap suc (length_notes (k + count) ms es)
length_notes k ms (events.End w ending ∷ es) = ap suc (length_notes k ms es)
length_notes k ms (events.Stop w reason ∷ es) = ap suc (length_notes k ms es)

module _ {A : Type 0} where
  pub front_rest : (k : ℕ) (xs : List A) → take k xs ++ drop k xs ≡ xs
  front_rest zero xs = refl
  front_rest (suc k) [] = refl
  front_rest (suc k) (x ∷ xs) = ap (λ l. x ∷ l) (front_rest k xs)

  take_none : (k : ℕ) → ◌≡◌ {A = List A} (take k []) []
  take_none zero = refl
  take_none (suc k) = refl

  take_add : (a b : ℕ) (xs : List A) → take (a + b) xs ≡ take a xs ++ take b (drop a xs)
  take_add zero b xs = let e : zero + b ≡ b = omega arith in ap (λ k. take k xs) e
  take_add (suc a) b [] = take_none (suc a + b) ∙ sym (take_none b)
  take_add (suc a) b (x ∷ xs) = (let e : suc a + b ≡ suc (a + b) = omega arith in ap (λ k. take k (x ∷ xs)) e) ∙ ap (λ l. x ∷ l) (take_add a b xs)

  drop_none : (k : ℕ) → ◌≡◌ {A = List A} (drop k []) []
  drop_none zero = refl
  drop_none (suc k) = refl

  drop_add : (a b : ℕ) (xs : List A) → drop (a + b) xs ≡ drop b (drop a xs)
  drop_add zero b xs = let e : zero + b ≡ b = omega arith in ap (λ k. drop k xs) e
  drop_add (suc a) b [] = drop_none (suc a + b) ∙ sym (drop_none b)
  drop_add (suc a) b (x ∷ xs) = (let e : suc a + b ≡ suc (a + b) = omega arith in ap (λ k. drop k (x ∷ xs)) e) ∙ drop_add a b xs

  length_drop : (k : ℕ) (xs : List A) → length (drop k xs) ≡ length xs - k
  length_drop zero xs = omega arith
  length_drop (suc k) [] = omega arith
  length_drop (suc k) (x ∷ xs) = let h = length_drop k xs in omega (arith, h)

  pub take_whole : (k : ℕ) (xs : List A) → length xs ≤ k → take k xs ≡ xs
  take_whole k [] h = take_none k
  take_whole zero (x ∷ xs) h = absurd (omega arith)
  take_whole (suc k) (x ∷ xs) h = ap (λ l. x ∷ l) (take_whole k xs (omega arith))

  part_length : (first count : ℕ) (xs : List A) → first + count ≤ length xs → length (take count (drop first xs)) ≡ count
  part_length zero zero xs h = refl
  part_length zero (suc count) [] h = absurd (omega arith)
  part_length zero (suc count) (x ∷ xs) h = ap suc (part_length zero count xs (omega arith))
  part_length (suc first) count [] h = absurd (omega arith)
  part_length (suc first) count (x ∷ xs) h = part_length first count xs (omega arith)

  drop_length : (xs ys : List A) → drop (length xs) (xs ++ ys) ≡ ys
  drop_length [] ys = refl
  drop_length (x ∷ xs) ys = drop_length xs ys

-- the members that these notes tell
made_part : (k : ℕ) (ms : List MemberShown) (es : List Event) → made_in (notes_from k ms es) ≡ take (count_made es) (drop k ms)
made_part k ms [] = refl
made_part k ms (events.Take w skipped job ∷ es) = made_part k ms es
made_part k ms (events.Put w first count ∷ es) =
    ap (λ l. take count (drop k ms) ++ l) (made_part (k + count) ms es ∙ ap (λ l. take (count_made es) l) (drop_add k count ms))
    ∙ sym (take_add count (count_made es) (drop k ms))
made_part k ms (events.End w ending ∷ es) = made_part k ms es
made_part k ms (events.Stop w reason ∷ es) = made_part k ms es

-- the members of a state are those of its beginning and those that its history made
pub members_told : (s : Shown) → members_after (base s) (log s) ≡ s.members
members_told s =
    let k : ℕ = number_at_beginning s in
    ap (λ l. take k s.members ++ l)
    (made_part k s.members s.history ∙ take_whole (count_made s.history) (drop k s.members) (omega (arith, length_drop k s.members)))
    ∙ front_rest k s.members

count_append : (es : List Event) (e : Event) → count_made (es ++ (e ∷ [])) ≡ count_made es + count_made (e ∷ [])
count_append [] e = omega arith
count_append (events.Take w skipped job ∷ es) e = count_append es e
count_append (events.Put w first count ∷ es) e = let h = count_append es e in omega (arith, h)
count_append (events.End w ending ∷ es) e = count_append es e
count_append (events.Stop w reason ∷ es) e = count_append es e

notes_append : (k : ℕ) (ms : List MemberShown) (es : List Event) (e : Event)
    → notes_from k ms (es ++ (e ∷ [])) ≡ notes_from k ms es ++ notes_from (k + count_made es) ms (e ∷ [])
notes_append k ms [] e = let at : k ≡ k + 0 = omega arith in ap (λ j. notes_from j ms (e ∷ [])) at
notes_append k ms (events.Take w skipped job ∷ es) e = ap (λ l. Take w skipped.items job.items ∷ l) (notes_append k ms es e)
notes_append k ms (events.Put w first count ∷ es) e =
    ap (λ l. Put w (take count (drop k ms)) ∷ l)
    (notes_append (k + count) ms es e ∙
    (let at : (k + count) + count_made es ≡ k + (count + count_made es) = omega arith in ap
    (λ j. notes_from (k + count) ms es ++ notes_from j ms (e ∷ [])) at))
notes_append k ms (events.End w ending ∷ es) e = ap (λ l. End w (ending_of ending) ∷ l) (notes_append k ms es e)
notes_append k ms (events.Stop w reason ∷ es) e = ap (λ l. Stop w ∷ l) (notes_append k ms es e)

-- the notes stay as members are added
notes_front : (k : ℕ) (ms more : List MemberShown) (es : List Event) → k + count_made es ≤ length ms → notes_from k (ms ++ more) es ≡ notes_from k ms es
notes_front k ms more [] h = refl
notes_front k ms more (events.Take w skipped job ∷ es) h = ap (λ l. Take w skipped.items job.items ∷ l) (notes_front k ms more es h)
notes_front k ms more (events.Put w first count ∷ es) h = λ i. Put w (part_front ms more k count (omega arith) i) ∷ notes_front (k + count) ms more
    es (omega arith) i
notes_front k ms more (events.End w ending ∷ es) h = ap (λ l. End w (ending_of ending) ∷ l) (notes_front k ms more es h)
notes_front k ms more (events.Stop w reason ∷ es) h = ap (λ l. Stop w ∷ l) (notes_front k ms more es h)

-- no more members were made than there are
abbrev pub IsCounted : Shown → Type 0
IsCounted s = count_made s.history ≤ length s.members

-- how many members the Puts made
abbrev count_plain : {n : ℕ} → List (plain.Event n) → ℕ
count_plain [] = 0
count_plain (plain.Take w skipped job ∷ es) = count_plain es
count_plain (plain.Put w made ∷ es) = length made + count_plain es
count_plain (plain.End w ending ∷ es) = count_plain es
count_plain (plain.Stop w reason ∷ es) = count_plain es

module _ {n : ℕ} (r : Run n) where
  runs_members : (s t : State n) (es : List (plain.Event n)) → Reaches r s es t → length t.members ≡ length s.members + count_plain es
  runs_members s t [] q = let e = ap (λ u. length u.members) q in omega (arith, e)
  runs_members s t (plain.Take w skipped job ∷ es) (mid, (most, may, inl f), rest) = let h = runs_members mid t es rest in let e =
      ap (λ u. length u.members) f.after in omega (arith, h, e)
  runs_members s t (plain.Take w skipped job ∷ es) (mid, (most, may, inr (left, q)), rest) = let h = runs_members mid t es rest in let e =
      ap (λ u. length u.members) q.after in omega (arith, h, e)
  runs_members s t (plain.Put w made ∷ es) (mid, (base, rows, products, q), rest) = let h = runs_members mid t es rest in let e =
      ap (λ u. length u.members) q.after in omega (arith, h, e, length-append s.members made)
  runs_members s t (plain.End w ending ∷ es) (mid, q, rest) = let h = runs_members mid t es rest in let e =
      ap (λ u. length u.members) q.after in omega (arith, h, e)
  runs_members s t (plain.Stop w reason ∷ es) (mid, q, rest) = let h = runs_members mid t es rest in let e =
      ap (λ u. length u.members) q.after in omega (arith, h, e)

plain_counts : (n : ℕ) (ms : List MemberShown) (kept : Option StopReason) (es : List Event) → Each (IsEventRead (length ms) kept) es
    → count_plain (history_of n ms kept es) ≡ count_made es
plain_counts n ms kept [] h = refl
plain_counts n ms kept (events.Take w skipped job ∷ es) h = plain_counts n ms kept es h.1
plain_counts n ms kept (events.Put w first count ∷ es) h =
    let here : length (members_of n (take count (drop first ms))) ≡ count = length-map (take count (drop first ms)) (λ m. member_of n m)
    ∙ part_length first count ms h.0 in
    let later = plain_counts n ms kept es h.1 in
    omega (arith, here, later)
plain_counts n ms kept (events.End w ending ∷ es) h = plain_counts n ms kept es h.1
plain_counts n ms kept (events.Stop w reason ∷ es) h = plain_counts n ms kept es h.1

-- a state that replays its history has the members that this made
pub state_counted : (n : ℕ) (s : Shown) → Replays (run_of n s) (state_of n s) → Each (IsEventRead (length s.members) s.stop) s.history → IsCounted s
state_counted n s (first, begins, runs) read =
    let all : length (members_of n s.members) ≡ length first.members + count_plain (history_of n s.members s.stop s.history) =
    runs_members (run_of n s) first (state_of n s) (state_of n s).history runs in
    omega (arith, all, plain_counts n s.members s.stop s.history read, length-map s.members (λ m. member_of n m))

-- the note of one more event, with the members that it made
abbrev pub note_of : Event → List MemberShown → Noted
note_of (events.Take w skipped job) made = Take w skipped.items job.items
note_of (events.Put w first count) made = Put w made
note_of (events.End w ending) made = End w (ending_of ending)
note_of (events.Stop w reason) made = Stop w

one_note : (ms made : List MemberShown) (k : ℕ) (e : Event) → k ≡ length ms → count_made (e ∷ []) ≡ length made
    → notes_from k (ms ++ made) (e ∷ []) ≡ note_of e made ∷ []
one_note ms made k (events.Take w skipped job) at many = refl
one_note ms made k (events.Put w first count) at many =
    ap (λ l. Put w l ∷ []) (ap (λ j. take count (drop j (ms ++ made))) at ∙ ap (λ l. take count l) (drop_length ms made)
    ∙ take_whole count made (omega (arith, many)))
one_note ms made k (events.End w ending) at many = refl
one_note ms made k (events.Stop w reason) at many = refl

module _ (s t : Shown) (made : List MemberShown) (e : Event) (counted : IsCounted s) (same : IsSameRun s t) (members : t.members ≡ s.members ++ made)
    (history : t.history ≡ s.history ++ (e ∷ [])) (many : count_made (e ∷ []) ≡ length made) where
  number_same : number_at_beginning t ≡ number_at_beginning s
  number_same = omega (arith, counted, ap length members, length-append s.members made, ap count_made history, count_append s.history e, many)

  -- the log is longer by the note of the event
  pub log_more : log t ≡ log s ++ (note_of e made ∷ [])
  log_more =
      let k : ℕ = number_at_beginning s in
      (λ i. notes_from (number_same i) (members i) (history i))
      ∙ notes_append k (s.members ++ made) s.history e
      ∙ (λ i. notes_front k s.members made s.history (omega (arith, counted)) i ++ one_note s.members made (k + count_made s.history) e
      (omega (arith, counted)) many i)

  front : (k : ℕ) (xs ys : List MemberShown) → k ≤ length xs → take k (xs ++ ys) ≡ take k xs
  front zero xs ys h = refl
  front (suc k) [] ys h = absurd (omega arith)
  front (suc k) (x ∷ xs) ys h = ap (λ l. x ∷ l) (front k xs ys (omega arith))

  -- what never changes is the same
  pub base_same : base t ≡ base s
  base_same = λ i. record {
    shared = same.shared i;
    budget = same.budget i;
    workers = same.workers i;
    update = same.update i;
    first = (first_same i);
  }
    where
      first_same : take (number_at_beginning t) t.members ≡ take (number_at_beginning s) s.members
      first_same = (λ i. take (number_same i) (members i)) ∙ front (number_at_beginning s) s.members made (omega arith)

-- the event that a call adds to the history is added to the log
module _ (s t : Shown) (replays : Replays (run_of (variables_of s) s) (state_of (variables_of s) s))
    (read : Each (IsEventRead (length s.members) s.stop) s.history) (same : IsSameRun s t) where
  counted : IsCounted s
  counted = state_counted (variables_of s) s replays read

  one_more : (made : List MemberShown) (e : Event) → t.members ≡ s.members ++ made → t.history ≡ s.history ++ (e ∷ [])
      → count_made (e ∷ []) ≡ length made → Adds (note_of e made) s t
  one_more made e members history many = (log_more s t made e counted same members history many, base_same s t made e counted same members history many)

  pub puts_more :
      (w : ℕ) (made : List MemberShown) → t.members ≡ s.members ++ made
      → t.history ≡ s.history ++ (events.Put w (length s.members) (length t.members - length s.members) ∷ [])
      → Adds (Put w made) s t
  puts_more w made members history =
      let many : (length t.members - length s.members) + 0 ≡ length made = omega (arith, ap length members, length-append s.members made) in
      one_more made (events.Put w (length s.members) (length t.members - length s.members)) members history many

  module _ (members : t.members ≡ s.members) where
    all : t.members ≡ s.members ++ []
    all = members ∙ sym (append-nil s.members)

    pub takes_more :
        (w : ℕ) (skipped job : Vec Pair) (xs ys : List Pair) → skipped.items ≡ xs → job.items ≡ ys
        → t.history ≡ s.history ++ (events.Take w skipped job ∷ [])
        → Adds (Take w xs ys) s t
    takes_more w skipped job xs ys left given history =
        subst (λ (z : List Pair × List Pair). Adds (Take w z.0 z.1) s t) (λ i. (left i, given i)) (one_more [] (events.Take w skipped job) all history refl)

    pub ends_more : (w : ℕ) (ending : Ending) → t.history ≡ s.history ++ (events.End w ending ∷ []) → Adds (End w (ending_of ending)) s t
    ends_more w ending history = one_more [] (events.End w ending) all history refl

    pub stops_more : (w : ℕ) (given : Option StopReason) → t.history ≡ s.history ++ (events.Stop w given ∷ []) → Adds (Stop w) s t
    stops_more w given history = one_more [] (events.Stop w given) all history refl
