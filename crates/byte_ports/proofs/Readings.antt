-- What was taken from a source, a piece more, and what is said of it.
use Rattle.std.proofs.Common.{◌≡◌, ℕ, ◌+◌, ◌-◌, ◌<◌, ◌≤◌, List, [], ◌∷◌, ◌++◌, length, take, sym, ap, ◌∙◌, subst, arith, append_assoc, append-nil, refl, Result, Ok, Err}
use Rattle.std.proofs.lemmas.Bool.Decides.{nat_tests}
use Rattle.std.proofs.lemmas.List.{length-append}
use Rattle.std.proofs.KnownBytes.{Consumes-kept, Consumes-nil, Consumes-trans}
use Rattle.std.specs.declared.option.Option.{Option}
use Rattle.std.specs.Io.KnownBytes.{Consumes, IsAtEnd, Keeps}
use Rattle.byte_ports.specs.Causes.{HasCause, empty_after}
use Rattle.byte_ports.specs.Lines.{Reading, HasNoNewline, NeedsMore, AreTaken, IsNextLine, IsLastBytes, IsTooLong, IsCutOff, Answers, CountsEnd, CountsFaults, HasFaultCause}
use Rattle.byte_ports.specs.declared.line_reader.Next.{Next}
use Rattle.byte_ports.specs.declared.line_reader.Next.TheVariants as next
use Rattle.byte_ports.specs.declared.line_reader.LinesStop.{LinesStop}
use Rattle.byte_ports.specs.declared.line_reader.LinesStop.TheVariants as stop

-- nothing more
taken_none : (r : Reading) (a : Option (List ℕ)) (bytes : List ℕ) → bytes ≡ r.held → AreTaken r a a bytes
taken_none r a bytes same = record { more = []; read = Consumes-nil a; parts = same ∙ sym (append-nil r.held) }

pub taken_more : (r : Reading) (a b c : Option (List ℕ)) (bytes piece : List ℕ) → AreTaken r a b bytes → Consumes b c piece → AreTaken r a c (bytes ++ piece)
taken_more r a b c bytes piece taken read = record {
  more = taken.more ++ piece;
  read = Consumes-trans a b c taken.more piece taken.read read;
  parts = ap (λ l. l ++ piece) taken.parts ∙ append_assoc r.held taken.more piece;
}

-- what was taken when the second reading began, and what was taken since
taken_since : (r s : Reading) (a b c : Option (List ℕ)) (bytes : List ℕ) → AreTaken r a b s.held → AreTaken s b c bytes → AreTaken r a c bytes
taken_since r s a b c bytes first then = record {
  more = first.more ++ then.more;
  read = Consumes-trans a b c first.more then.more first.read then.read;
  parts = then.parts ∙ ap (λ l. l ++ then.more) first.parts ∙ append_assoc r.held first.more then.more;
}

-- a line ends in what is held
pub line_moved : (r q : Reading) (a : Option (List ℕ)) (old line : List ℕ) → (old ++ r.held ≡ line ++ 10 ∷ q.held) × HasNoNewline line × (r.room ≡ length line + 1 + q.room)
    → IsNextLine (record r { held = old ++ r.held }) q a a line
line_moved r q a old line (split, none, counts) = record {
  taken = taken_none (record r { held = old ++ r.held }) a (line ++ 10 ∷ q.held) (sym split);
  whole = none;
  counts = counts;
}

-- a line and what is held behind it are more than counts
pub long_moved : (r : Reading) (a : Option (List ℕ)) (old : List ℕ) → (r.room < length (old ++ r.held)) × HasNoNewline (take r.room (old ++ r.held))
    → IsTooLong (record r { held = old ++ r.held }) a a
long_moved r a old (long, none) = record {
  bytes = old ++ r.held;
  taken = taken_none (record r { held = old ++ r.held }) a (old ++ r.held) refl;
  long = long;
  line = none;
}

pub needs_more : (r : Reading) (old line : List ℕ) → old ≡ [] → line ≡ old ++ r.held → HasNoNewline line → length line ≤ r.room → NeedsMore r
needs_more r old line empty same none counts =
    let is : line ≡ r.held = same ∙ ap (λ l. l ++ r.held) empty in
    let len : length line ≡ length r.held = ap length is in
    record { counts = omega (arith, len, counts); line = subst HasNoNewline is none }

-- the answer of a reading that holds what the first one held and has taken since
pub answers_since : (r s after : Reading) (a b c : Option (List ℕ)) (line : List ℕ) (result : Result Next LinesStop) → AreTaken r a b s.held → s.room ≡ r.room
    → Answers s after b c line result → Answers r after a c line result
answers_since r s after a b c line (Ok next.Line) taken room says = record {
  taken = taken_since r s a b c (line ++ 10 ∷ after.held) taken says.taken;
  whole = says.whole;
  counts = sym room ∙ says.counts;
}
answers_since r s after a b c line (Ok next.Last) taken room (says, some) =
    (record { taken = taken_since r s a b c line taken says.taken; line = says.line; counts = omega (arith, room, says.counts); end = says.end }, some)
answers_since r s after a b c line (Ok next.End) taken room says =
    record { taken = taken_since r s a b c [] taken says.taken; line = says.line; counts = omega (arith, room, says.counts); end = says.end }
answers_since r s after a b c line (Ok next.Long) taken room says = record {
  bytes = says.bytes;
  taken = taken_since r s a b c says.bytes taken says.taken;
  long = omega (arith, room, says.long);
  line = subst (λ n. HasNoNewline (take n says.bytes)) room says.line;
}
answers_since r s after a b c line (Err stop.Fault) taken room says = record {
  bytes = says.bytes;
  taken = taken_since r s a b c says.bytes taken says.taken;
  counts = omega (arith, room, says.counts);
  line = says.line;
}
answers_since r s after a b c line (Err stop.Memory) taken room says = tt

-- the same answer from a reading that held as much
pub answers_as : (r s after : Reading) (a c : Option (List ℕ)) (line : List ℕ) (result : Result Next LinesStop) → s.held ≡ r.held → s.room ≡ r.room
    → Answers s after a c line result → Answers r after a c line result
answers_as r s after a c line result held = answers_since r s after a a c line result (taken_none r a s.held held)

-- the answer where a line went on by a piece that was read
pub answers_piece : (r s after : Reading) (a b c : Option (List ℕ)) (start line : List ℕ) (result : Result Next LinesStop) → AreTaken r a b start → Consumes b c s.held
    → s.room ≡ r.room → Answers (record s { held = start ++ s.held }) after c c line result → Answers r after a c line result
answers_piece r s after a b c start line result taken read =
    answers_since r (record s { held = start ++ s.held }) after a c c line result (taken_more r a b c start s.held taken read)

-- the same answer, of a reading that holds as much then
pub answers_at : (r after now : Reading) (a c : Option (List ℕ)) (line : List ℕ) (result : Result Next LinesStop) → now.held ≡ after.held → now.room ≡ after.room
    → Answers r after a c line result → Answers r now a c line result
answers_at r after now a c line (Ok next.Line) held room says = record {
  taken = subst (λ l. AreTaken r a c (line ++ 10 ∷ l)) (sym held) says.taken;
  whole = says.whole;
  counts = says.counts ∙ ap (λ n. length line + 1 + n) (sym room);
}
answers_at r after now a c line (Ok next.Last) held room says = says
answers_at r after now a c line (Ok next.End) held room says = says
answers_at r after now a c line (Ok next.Long) held room says = says
answers_at r after now a c line (Err stop.Fault) held room says = says
answers_at r after now a c line (Err stop.Memory) held room says = tt

-- what is said where the read behind a line failed
pub cut_off : (r : Reading) (a b c : Option (List ℕ)) (line : List ℕ) → AreTaken r a b line → Keeps b c → HasNoNewline line → length line ≤ r.room → IsCutOff r a c
cut_off r a b c line taken kept none counts = record {
  bytes = line;
  taken = record { more = taken.more; read = Consumes-kept a b c taken.more taken.read kept; parts = taken.parts };
  counts = counts;
  line = none;
}

pub fault_cause : {E : Type 0} (error : E) (before between now : ℕ) → between ≡ before → HasCause {T = ℕ} between now (Err error) → HasFaultCause before now (Err stop.Fault)
fault_cause error before between now same cause =
    subst (λ n. HasFaultCause n now (Err stop.Fault)) same (record { later = cause.later; failed = λ _. cause.failed })

none_read : (piece : List ℕ) → length piece ≡ 0 → piece ≡ []
none_read [] is = refl
none_read (b ∷ bs) is = absurd (omega (arith, is))

-- what is said where the read behind a line moved nothing
pub last_bytes : (r : Reading) (a b c : Option (List ℕ)) (line piece : List ℕ) → AreTaken r a b line → Consumes b c piece → length piece ≡ 0 → IsAtEnd c → HasNoNewline line
    → length line ≤ r.room → IsLastBytes r a c line
last_bytes r a b c line piece taken read none end whole counts = record {
  taken = subst (AreTaken r a c) (ap (λ l. line ++ l) (none_read piece none) ∙ append-nil line) (taken_more r a b c line piece taken read);
  line = whole;
  counts = counts;
  end = end;
}

-- the same of a line that has no bytes
pub no_bytes : (r : Reading) (a b c : Option (List ℕ)) (line piece : List ℕ) → length line ≡ 0 → AreTaken r a b line → Consumes b c piece → length piece ≡ 0 → IsAtEnd c
    → HasNoNewline line → length line ≤ r.room → IsLastBytes r a c []
no_bytes r a b c line piece nothing taken read none end whole counts =
    subst (IsLastBytes r a c) (none_read line nothing) (last_bytes r a b c line piece taken read none end whole counts)

-- counts of a piece that was read and of the answer behind it
pub cause_since : (before now : ℕ) (result : Result Next LinesStop) → now ≡ before → HasFaultCause now now result → HasFaultCause before now result
cause_since before now result same = subst (λ n. HasFaultCause n now result) same

pub faults_since : (before now : ℕ) (result : Result Next LinesStop) → now ≡ before → CountsFaults now now result → CountsFaults before now result
faults_since before now result same = subst (λ n. CountsFaults n now result) same

pub end_since : (before now : ℕ) (result : Result Next LinesStop) → now ≡ before → CountsEnd now now result → CountsEnd before now result
end_since before now result same = subst (λ n. CountsEnd n now result) same

-- a read that moved bytes is no empty read
pub not_empty : (before now count : ℕ) → (count ≡ 0 → ⊥) → now ≡ empty_after before count → now ≡ before
not_empty before now count some is = grind (arith, nat_tests)

-- a line grows by each piece, to the room at most
pub grows : (line piece new : List ℕ) (count room : ℕ) → new ≡ line ++ piece → length piece ≡ count → (count ≡ 0 → ⊥) → length new ≤ room
    → room + 1 - length new < room + 1 - length line
grows line piece new count room is moved some within =
    let all : length new ≡ length line + length piece = ap length is ∙ length-append line piece in
    omega (arith, all, moved, some, within)
