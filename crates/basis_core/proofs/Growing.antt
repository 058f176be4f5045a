-- What the events stand for stays as members are added and as the first stop comes to be kept
use Rattle.std.proofs.Common.{List, append-nil, suc, zero, None, Option, Some, [], ap, ap₂, arith, drop, length, refl, subst, sym, take, ℕ, ◌++◌, ◌+◌}
use Rattle.std.proofs.Common.{◌∙◌, ◌∷◌, ◌≡◌, ◌≤◌}
use Rattle.formal_sums.specs.FormalSums.{Each}
use Rattle.basis_steps.specs.States as plain
use Rattle.basis_core.specs.declared.event.Event.{Event}
use Rattle.basis_core.specs.declared.event.Event.TheVariants.{End, Put, Stop, Take}
use Rattle.basis_core.specs.declared.stop.StopReason.{StopReason}
use Rattle.basis_core.specs.Inside.{HasReason, IsEventRead}
use Rattle.basis_core.specs.Members.{MemberShown, members_of}
use Rattle.basis_core.specs.Views.{event_of, history_of, reason_given}

-- what is kept stays; where nothing is, a stop may come
abbrev pub StaysKept : Option StopReason → Option StopReason → Type 0
StaysKept kept after = (reason : StopReason) → kept ≡ Some reason → after ≡ Some reason

-- the same stop
pub stays : (kept after : Option StopReason) → after ≡ kept → StaysKept kept after
stays kept after e reason k = e ∙ k

-- none was kept
pub first_kept : (after : Option StopReason) → StaysKept None after
first_kept after reason k = absurd cc

pub part_front : {A : Type 0} (xs ys : List A) (first count : ℕ) → first + count ≤ length xs → take count (drop first (xs ++ ys)) ≡ take count (drop first xs)
part_front xs ys zero zero h = refl
part_front [] ys zero (suc count) h = absurd (omega arith)
part_front (x ∷ xs) ys zero (suc count) h = ap (λ r. x ∷ r) (part_front xs ys zero count (omega arith))
part_front [] ys (suc first) count h = absurd (omega arith)
part_front (x ∷ xs) ys (suc first) count h = part_front xs ys first count (omega arith)

same_reason : (n : ℕ) (kept after reason : Option StopReason) → StaysKept kept after → HasReason kept reason
    → reason_given n after reason ≡ reason_given n kept reason
same_reason n None None (Some reason) s h = refl
same_reason n None (Some one) (Some reason) s h = refl
same_reason n (Some one) None (Some reason) s h = refl
same_reason n (Some one) (Some two) (Some reason) s h = refl
same_reason n None after None s h = absurd h
same_reason n (Some one) after None s h = ap (λ k. reason_given n k None) (s one refl)

same_event :
    (n : ℕ) (ms made : List MemberShown) (kept after : Option StopReason) (e : Event)
    → StaysKept kept after → IsEventRead (length ms) kept e → event_of n (ms ++ made) after e ≡ event_of n ms kept e
same_event n ms made kept after (Take w skipped job) s h = refl
same_event n ms made kept after (Put w first count) s h = ap (λ l. plain.Put w (members_of n l)) (part_front ms made first count h)
same_event n ms made kept after (End w ending) s h = refl
same_event n ms made kept after (Stop w reason) s h = ap (λ r. plain.Stop w r) (same_reason n kept after reason s h)

-- the events that there are stand for the same
pub same_history :
    (n : ℕ) (ms made : List MemberShown) (kept after : Option StopReason) (es : List Event)
    → StaysKept kept after → Each (IsEventRead (length ms) kept) es → history_of n (ms ++ made) after es ≡ history_of n ms kept es
same_history n ms made kept after [] s h = refl
same_history n ms made kept after (e ∷ es) s h = ap₂ ◌∷◌ (same_event n ms made kept after e s h.0) (same_history n ms made kept after es s h.1)

has_reason : (kept after reason : Option StopReason) → StaysKept kept after → HasReason kept reason → HasReason after reason
has_reason kept after (Some reason) s h = tt
has_reason None after None s h = absurd h
has_reason (Some one) after None s h = subst (λ k. HasReason k None) (sym (s one refl)) tt

read_event :
    (count more : ℕ) (kept after : Option StopReason) (e : Event)
    → count ≤ more → StaysKept kept after → IsEventRead count kept e → IsEventRead more after e
read_event count more kept after (Take w skipped job) l s h = tt
read_event count more kept after (Put w first made) l s h = omega arith
read_event count more kept after (End w ending) l s h = tt
read_event count more kept after (Stop w reason) l s h = has_reason kept after reason s h

read_append : (count : ℕ) (kept : Option StopReason) (es : List Event) (e : Event) → Each (IsEventRead count kept) es → IsEventRead count kept e
    → Each (IsEventRead count kept) (es ++ (e ∷ []))
read_append count kept [] e h r = (r, tt)
read_append count kept (f ∷ es) e h r = (h.0, read_append count kept es e h.1 r)

-- what they stand for stays there
pub read_grown :
    (count more : ℕ) (kept after : Option StopReason) (es : List Event)
    → count ≤ more → StaysKept kept after → Each (IsEventRead count kept) es → Each (IsEventRead more after) es
read_grown count more kept after [] l s h = tt
read_grown count more kept after (e ∷ es) l s h = (read_event count more kept after e l s h.0, read_grown count more kept after es l s h.1)

-- and so with one more event
pub read_more :
    (count more : ℕ) (kept after : Option StopReason) (es : List Event) (e : Event)
    → count ≤ more → StaysKept kept after → Each (IsEventRead count kept) es → IsEventRead more after e → Each (IsEventRead more after) (es ++ (e ∷ []))
read_more count more kept after es e l s h r = read_append more after es e (read_grown count more kept after es l s h) r

pub history_append : (n : ℕ) (ms : List MemberShown) (kept : Option StopReason) (es : List Event) (e : Event)
    → history_of n ms kept (es ++ (e ∷ [])) ≡ history_of n ms kept es ++ (event_of n ms kept e ∷ [])
history_append n ms kept [] e = refl
history_append n ms kept (f ∷ es) e = ap (λ l. event_of n ms kept f ∷ l) (history_append n ms kept es e)

-- the history after one more event, with the members that it made and the stop that it kept
pub history_more :
    (n : ℕ) (ms made : List MemberShown) (kept after : Option StopReason) (es : List Event) (e : Event)
    → StaysKept kept after → Each (IsEventRead (length ms) kept) es
    → history_of n (ms ++ made) after (es ++ (e ∷ [])) ≡ history_of n ms kept es ++ (event_of n (ms ++ made) after e ∷ [])
history_more n ms made kept after es e s h =
    history_append n (ms ++ made) after es e ∙ ap (λ l. l ++ (event_of n (ms ++ made) after e ∷ [])) (same_history n ms made kept after es s h)

-- the same where no member was made
pub history_same_members :
    (n : ℕ) (ms : List MemberShown) (kept after : Option StopReason) (es : List Event) (e : Event)
    → StaysKept kept after → Each (IsEventRead (length ms) kept) es
    → history_of n ms after (es ++ (e ∷ [])) ≡ history_of n ms kept es ++ (event_of n ms after e ∷ [])
history_same_members n ms kept after es e s h =
    subst (λ l. history_of n l after (es ++ (e ∷ [])) ≡ history_of n ms kept es ++ (event_of n l after e ∷ [])) (append-nil ms)
    (history_more n ms [] kept after es e s h)

-- a Put stands for the members behind those that there were
pub put_made : (n : ℕ) (ms made : List MemberShown) (kept : Option StopReason) (w : ℕ)
    → event_of n (ms ++ made) kept (Put w (length ms) (length made)) ≡ plain.Put w (members_of n made)
put_made n ms made kept w = ap (λ l. plain.Put w (members_of n l)) (tail ms)
  where
    all : (ys : List MemberShown) → take (length ys) ys ≡ ys
    all [] = refl
    all (y ∷ ys) = ap (λ r. y ∷ r) (all ys)

    tail : (xs : List MemberShown) → take (length made) (drop (length xs) (xs ++ made)) ≡ made
    tail [] = all made
    tail (x ∷ xs) = tail xs
