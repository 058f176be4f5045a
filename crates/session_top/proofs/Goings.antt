-- What a run has done, one line on.
use Rattle.std.proofs.Common.{◌≡◌, ℕ, suc, ◌+◌, ◌<◌, ◌≤◌, inl, inr, true, false, List, [], ◌∷◌, ◌++◌, length, take, refl, sym, ap, ◌∙◌, subst, arith}
use Rattle.std.proofs.lemmas.List.{append_assoc, append-nil, length-append, take_all}
use Rattle.std.proofs.Math.Seq.{take-append-add}
use Rattle.std.proofs.KnownBytes.{Appends-trans, Appends-nil, Consumes-nil, Consumes-trans}
use Rattle.std.specs.declared.option.Option.{Option}
use Rattle.std.specs.Io.KnownBytes.{Appends, Consumes}
use Rattle.byte_ports.specs.Lines.{Reading, AreTaken, IsNextLine, IsLastBytes, IsTooLong, IsCutOff}
use Rattle.session_lang.specs.Lines.{Line}
use Rattle.session_values.specs.Names.{ScriptState, no_names}
use Rattle.session_top.specs.declared.TheConstants.{SCRIPT_LIMIT}
use Rattle.session_top.specs.Lines.{lines_in, lines_of, whole_lines}
use Rattle.session_top.specs.Meaning.{AllDone, is_long, script_lines}
use Rattle.session_top.specs.Run.{ReadCut}
use Rattle.session_top.proofs.Going.{Going, Due}
use Rattle.session_top.proofs.Steps.{done_more}
use Rattle.session_top.proofs.Texts.{lines_at, no_whole_line, last_line}
use Rattle.session_top.proofs.Whole.{long_script, short_script}

pub going_starts : (a t : Option (List ℕ)) (r : Reading) → r.held ≡ [] → r.room ≡ SCRIPT_LIMIT → Going a a t t r 0 no_names
going_starts a t r none room = record {
  used = [];
  lines = [];
  text = [];
  read = subst (Consumes a a) (sym none) (Consumes-nil a);
  room = omega (arith, room);
  cut = λ w more. refl;
  count = refl;
  few = omega arith;
  steps = (refl, refl);
  written = Appends-nil t;
}

-- the bytes of the lines that were done, and what was held and then taken
pub so_far : (a b c t u : Option (List ℕ)) (r : Reading) (n : ℕ) (s : ScriptState) (bytes : List ℕ) → (so : Going a b t u r n s) → AreTaken r b c bytes → Consumes a c (so.used ++ bytes)
so_far a b c t u r n s bytes so taken =
    subst (Consumes a c) (append_assoc so.used r.held taken.more ∙ ap (λ l. so.used ++ l) (sym taken.parts))
    (Consumes-trans a b c (so.used ++ r.held) taken.more so.read taken.read)

behind : (used line more : List ℕ) → (used ++ (line ++ 10 ∷ [])) ++ more ≡ used ++ (line ++ 10 ∷ more)
behind used line more = append_assoc used (line ++ 10 ∷ []) more ∙ ap (λ l. used ++ l) (append_assoc line (10 ∷ []) more)

-- the next line was done
pub going_more : (a b c t u v : Option (List ℕ)) (r q : Reading) (n : ℕ) (s z : ScriptState) (line text : List ℕ)
    → Going a b t u r n s → IsNextLine r q b c line → Line s line z text → Appends u v text → Going a c t v q (n + 1) z
going_more a b c t u v r q n s z line text so next step wrote =
    let one : length (line ++ 10 ∷ []) ≡ length line + 1 = length-append line (10 ∷ []) in
    let len : length (so.used ++ (line ++ 10 ∷ [])) ≡ length so.used + length (line ++ 10 ∷ []) = length-append so.used (line ++ 10 ∷ []) in
    let lines : length (so.lines ++ line ∷ []) ≡ length so.lines + 1 = length-append so.lines (line ∷ []) in
    record {
      used = so.used ++ (line ++ 10 ∷ []);
      lines = so.lines ++ line ∷ [];
      text = so.text ++ text;
      read = subst (Consumes a c) (sym (behind so.used line q.held)) (so_far a b c t u r n s (line ++ 10 ∷ q.held) so next.taken);
      room = omega (arith, one, len, so.room, next.counts);
      cut = λ w more. ap (lines_in w) (behind so.used line more) ∙ so.cut w (line ++ 10 ∷ more) ∙ ap (λ l. so.lines ++ l) (lines_at w line more next.whole)
          ∙ sym (append_assoc so.lines (line ∷ []) (lines_in w more));
      count = omega (arith, lines, so.count);
      few = omega (arith, one, len, so.few);
      steps = done_more no_names s z so.lines line so.text text so.steps step;
      written = Appends-trans t u v so.text text so.written wrote;
    }

-- the bytes that count
take_used : (used bytes : List ℕ) (room : ℕ) → length used + room ≡ SCRIPT_LIMIT → take SCRIPT_LIMIT (used ++ bytes) ≡ used ++ take room bytes
take_used used bytes room sum = ap (λ n. take n (used ++ bytes)) (sym sum) ∙ take-append-add used bytes room

take_line : (line held : List ℕ) (room left : ℕ) → room ≡ length line + 1 + left → take room (line ++ 10 ∷ held) ≡ line ++ 10 ∷ take left held
take_line line held room left sum =
    let sums : room ≡ length line + suc left = omega (arith, sum) in
    ap (λ n. take n (line ++ 10 ∷ held)) sums ∙ take-append-add line (10 ∷ held) (suc left)

-- the next line may be done
pub line_due : (a b c t u : Option (List ℕ)) (r q : Reading) (n : ℕ) (s : ScriptState) (line : List ℕ)
    → Going a b t u r n s → IsNextLine r q b c line → Due a c t u line n s
line_due a b c t u r q n s line so next = record {
  script = so.used ++ (line ++ 10 ∷ q.held);
  lines = so.lines;
  rest = whole_lines (take q.room q.held);
  text = so.text;
  read = so_far a b c t u r n s (line ++ 10 ∷ q.held) so next.taken;
  ready =
      let front : take SCRIPT_LIMIT (so.used ++ (line ++ 10 ∷ q.held)) ≡ so.used ++ (line ++ 10 ∷ take q.room q.held) =
      take_used so.used (line ++ 10 ∷ q.held) r.room so.room ∙ ap (λ l. so.used ++ l) (take_line line q.held r.room q.room next.counts) in
      inl (sym (ap whole_lines front ∙ so.cut true (line ++ 10 ∷ take q.room q.held) ∙ ap (λ l. so.lines ++ l) (lines_at true line (take q.room q.held) next.whole)));
  count = so.count;
  steps = so.steps;
  written = so.written;
}

-- at the end of the input all bytes count
pub rest_short : (a b c t u : Option (List ℕ)) (r : Reading) (n : ℕ) (s : ScriptState) (bytes : List ℕ) → (so : Going a b t u r n s) → IsLastBytes r b c bytes
    → length (so.used ++ bytes) ≤ SCRIPT_LIMIT
rest_short a b c t u r n s bytes so rest =
    let len : length (so.used ++ bytes) ≡ length so.used + length bytes = length-append so.used bytes in
    omega (arith, len, so.room, rest.counts)

pub rest_lines : (a b c t u : Option (List ℕ)) (r : Reading) (n : ℕ) (s : ScriptState) (bytes : List ℕ) → (so : Going a b t u r n s) → IsLastBytes r b c bytes
    → script_lines (so.used ++ bytes) ≡ so.lines ++ lines_of bytes
rest_lines a b c t u r n s bytes so rest =
    let short = rest_short a b c t u r n s bytes so rest in
    ap (λ w. lines_in w (take SCRIPT_LIMIT (so.used ++ bytes))) (short_script (so.used ++ bytes) short) ∙ ap lines_of (take_all SCRIPT_LIMIT (so.used ++ bytes) short)
    ∙ so.cut false bytes

pub one_last : (line : List ℕ) (b c : Option (List ℕ)) (r : Reading) → IsLastBytes r b c line → 0 < length line → lines_of line ≡ line ∷ []
one_last line b c r rest some = last_line false line rest.line refl some

-- the last line may be done
pub last_due : (a b c t u : Option (List ℕ)) (r : Reading) (n : ℕ) (s : ScriptState) (line : List ℕ)
    → Going a b t u r n s → IsLastBytes r b c line → 0 < length line → Due a c t u line n s
last_due a b c t u r n s line so rest some = record {
  script = so.used ++ line;
  lines = so.lines;
  rest = [];
  text = so.text;
  read = so_far a b c t u r n s line so rest.taken;
  ready = inr (rest.end, sym (rest_lines a b c t u r n s line so rest ∙ ap (λ l. so.lines ++ l) (one_last line b c r rest some)));
  count = so.count;
  steps = so.steps;
  written = so.written;
}

-- more bytes were taken than count, and no line is left among those that do
pub long_is : (a b c t u : Option (List ℕ)) (r : Reading) (n : ℕ) (s : ScriptState) → (so : Going a b t u r n s) → (long : IsTooLong r b c) → is_long (so.used ++ long.bytes) ≡ true
long_is a b c t u r n s so long =
    let len : length (so.used ++ long.bytes) ≡ length so.used + length long.bytes = length-append so.used long.bytes in
    long_script (so.used ++ long.bytes) (omega (arith, len, so.room, long.long))

pub long_lines : (a b c t u : Option (List ℕ)) (r : Reading) (n : ℕ) (s : ScriptState) → (so : Going a b t u r n s) → (long : IsTooLong r b c)
    → whole_lines (take SCRIPT_LIMIT (so.used ++ long.bytes)) ≡ so.lines
long_lines a b c t u r n s so long =
    ap whole_lines (take_used so.used long.bytes r.room so.room) ∙ so.cut true (take r.room long.bytes)
    ∙ ap (λ l. so.lines ++ l) (no_whole_line (take r.room long.bytes) long.line) ∙ append-nil so.lines

-- a read failed, and each whole line was done
pub going_cut : (a b c t u : Option (List ℕ)) (r : Reading) (n : ℕ) (s : ScriptState) → Going a b t u r n s → IsCutOff r b c → ReadCut a c t u
going_cut a b c t u r n s so cut =
    let front : take SCRIPT_LIMIT (so.used ++ cut.bytes) ≡ so.used ++ cut.bytes =
    take_used so.used cut.bytes r.room so.room ∙ ap (λ l. so.used ++ l) (take_all r.room cut.bytes cut.counts) in
    let lines : whole_lines (take SCRIPT_LIMIT (so.used ++ cut.bytes)) ≡ so.lines =
    ap whole_lines front ∙ so.cut true cut.bytes ∙ ap (λ l. so.lines ++ l) (no_whole_line cut.bytes cut.line) ∙ append-nil so.lines in
    record {
      script = so.used ++ cut.bytes;
      state = s;
      text = so.text;
      read = so_far a b c t u r n s cut.bytes so cut.taken;
      steps = subst (λ l. AllDone no_names l s so.text) (sym lines) so.steps;
      written = so.written;
    }
