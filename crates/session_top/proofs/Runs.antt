-- From what was done with the lines of a script to what a run says.
use Rattle.std.proofs.Common.{◌≡◌, ℕ, suc, ◌+◌, ◌<◌, ◌≤◌, inl, inr, true, List, [], ◌∷◌, ◌++◌, length, take, refl, sym, ap, ◌∙◌, subst, arith, Result, Ok, Err, OnOk, IfErr}
use Rattle.std.proofs.lemmas.List.{append_assoc, append-nil, length-append}
use Rattle.std.proofs.KnownBytes.{Appends-trans, Appends-kept}
use Rattle.std.specs.declared.option.Option.{Option}
use Rattle.std.specs.Io.KnownBytes.{Appends, Consumes, IsAtEnd}
use Rattle.byte_ports.specs.Lines.{Reading, IsNextLine, IsLastBytes, IsTooLong}
use Rattle.script_parse.specs.declared.kind.Kind.{Kind}
use Rattle.session_lang.specs.Lines.{Line, RefusesLine}
use Rattle.session_values.specs.Names.{ScriptState, no_names}
use Rattle.session_top.specs.declared.TheConstants.{SCRIPT_LIMIT}
use Rattle.session_top.specs.declared.early.Early.{Early}
use Rattle.session_top.specs.declared.early.Early.TheVariants as early
use Rattle.session_top.specs.declared.early.Refusal.TheVariants.{OfLine, Length}
use Rattle.session_top.specs.Limits.{Limits}
use Rattle.session_top.specs.Lines.{lines_in, whole_lines}
use Rattle.session_top.specs.Meaning.{ScriptEnding, Done, Refused, Folds, AllDone, ending_text, is_long, last_of, script_lines}
use Rattle.session_top.specs.Parts.{ErrorEnds, LineStops}
use Rattle.session_top.specs.Run.{AreReady, IsSettled, Meant, ScriptStops}
use Rattle.session_top.specs.Stops.{stop_line}
use Rattle.session_top.proofs.Complete.{whole_first}
use Rattle.byte_ports.proofs.Endings.{front_after}
use Rattle.session_top.proofs.Going.{Going, Due}
use Rattle.session_top.proofs.Goings.{line_due, last_due, long_is, long_lines, one_last, rest_lines, rest_short, so_far}
use Rattle.session_top.proofs.Steps.{done_more, folds_after, folds_all}
use Rattle.session_top.proofs.Whole.{short_script, whole_front}

-- lines that may be done are the first of the script
pub ready_lines : (script : List ℕ) (b : Option (List ℕ)) (ls : List (List ℕ)) → AreReady script b ls → (more : List (List ℕ)) × (script_lines script ≡ ls ++ more)
ready_lines script b ls (inl e) =
    let first = whole_first (is_long script) (take SCRIPT_LIMIT script) [] in
    (first.0, ap (lines_in (is_long script)) (sym (append-nil (take SCRIPT_LIMIT script))) ∙ first.1 ∙ ap (λ l. l ++ first.0) (sym e))
ready_lines script b ls (inr (end, e)) = ([], sym e ∙ sym (append-nil ls))

settled_at : (script : List ℕ) (b : Option (List ℕ)) (lines rest : List (List ℕ)) (line : List ℕ) (n : ℕ) (kind : Kind) → n ≡ length lines → AreReady script b (lines ++ (line ∷ rest))
    → IsSettled script b (Refused (n + 1) (OfLine kind))
settled_at script b lines rest line n kind count (inl e) =
    let len : length (lines ++ (line ∷ rest)) ≡ length lines + suc (length rest) = length-append lines (line ∷ rest) in
    let same : length (lines ++ (line ∷ rest)) ≡ length (whole_lines (take SCRIPT_LIMIT script)) = ap length e in
    let front : length (whole_lines (take SCRIPT_LIMIT script)) ≤ length (whole_lines script) = whole_front SCRIPT_LIMIT script in
    inl (omega (arith, len, same, front, count))
settled_at script b lines rest line n kind count (inr (end, e)) = inr end

-- these lines were done, and the next is refused
refused_next : (s : ScriptState) (n : ℕ) (lines more : List (List ℕ)) (line text : List ℕ) (kind : Kind) (last : ScriptEnding)
    → n ≡ length lines → AllDone no_names lines s text → RefusesLine s line kind
    → Folds last 1 no_names (lines ++ line ∷ more) (text ++ ending_text (Refused (n + 1) (OfLine kind))) (Refused (n + 1) (OfLine kind))
refused_next s n lines more line text kind last count steps refuses =
    let number : n + 1 ≡ 1 + length lines = omega (arith, count) in
    folds_after last (Refused (n + 1) (OfLine kind)) 1 no_names s lines (line ∷ more) text (ending_text (Refused (n + 1) (OfLine kind))) steps
    (inr (kind, refuses, ap (λ k. Refused k (OfLine kind)) number, ap (λ k. ending_text (Refused k (OfLine kind))) number))

refused_meant : (a c t u v : Option (List ℕ)) (line : List ℕ) (n : ℕ) (s : ScriptState) (kind : Kind) → Due a c t u line n s → RefusesLine s line kind
    → Appends u v (ending_text (Refused (n + 1) (OfLine kind))) → Meant a c t v (Refused (n + 1) (OfLine kind))
refused_meant a c t u v line n s kind due refuses wrote =
    let all = ready_lines due.script c (due.lines ++ (line ∷ due.rest)) due.ready in
    record {
      script = due.script;
      text = due.text ++ ending_text (Refused (n + 1) (OfLine kind));
      read = due.read;
      settled = settled_at due.script c due.lines due.rest line n kind due.count due.ready;
      means = subst (λ l. Folds (last_of (is_long due.script)) 1 no_names l (due.text ++ ending_text (Refused (n + 1) (OfLine kind))) (Refused (n + 1) (OfLine kind)))
          (sym (all.1 ∙ append_assoc due.lines (line ∷ due.rest) all.0))
          (refused_next s n due.lines (due.rest ++ all.0) line due.text kind (last_of (is_long due.script)) due.count due.steps refuses);
      written = Appends-trans t u v due.text (ending_text (Refused (n + 1) (OfLine kind))) due.written wrote;
    }

-- a line was not done to its end
pub due_stops : (a c t u v : Option (List ℕ)) (line : List ℕ) (n : ℕ) (s : ScriptState) (limits : Limits) (stop : Early)
    → Due a c t u line n s → LineStops u v limits s line (n + 1) stop → ScriptStops a c t v limits stop
due_stops a c t u v line n s limits (early.Refused m) due (same, (kind, refuses, wrote)) = record {
  refusal = OfLine kind;
  meant = subst (λ k. Meant a c t v (Refused k (OfLine kind))) (sym same) (refused_meant a c t u v line n s kind due refuses wrote);
}
due_stops a c t u v line n s limits early.WriteFault due (text, inl (z, step), wrote) = record {
  script = due.script;
  lines = due.lines ++ line ∷ [];
  rest = due.rest;
  text = due.text ++ text;
  read = due.read;
  ready = subst (AreReady due.script c) (sym (append_assoc due.lines (line ∷ []) due.rest)) due.ready;
  due = inl (
    Done,
    Done,
    inl refl,
    subst (λ l. Folds Done 1 no_names (due.lines ++ line ∷ []) l Done) (append-nil (due.text ++ text))
        (folds_all Done no_names z (due.lines ++ line ∷ []) (due.text ++ text) (done_more no_names s z due.lines line due.text text due.steps step)),
  );
  written = front_after t u v due.text text due.written wrote;
}
due_stops a c t u v line n s limits early.WriteFault due (text, inr (inl (kind, refuses, is)), wrote) = record {
  script = due.script;
  lines = due.lines ++ line ∷ [];
  rest = due.rest;
  text = due.text ++ text;
  read = due.read;
  ready = subst (AreReady due.script c) (sym (append_assoc due.lines (line ∷ []) due.rest)) due.ready;
  due = inl (
    Done,
    Refused (n + 1) (OfLine kind),
    inl refl,
    subst (λ l. Folds Done 1 no_names (due.lines ++ line ∷ []) (due.text ++ l) (Refused (n + 1) (OfLine kind))) (sym is)
        (refused_next s n due.lines [] line due.text kind Done due.count due.steps refuses),
  );
  written = front_after t u v due.text text due.written wrote;
}
due_stops a c t u v line n s limits early.WriteFault due (text, inr (inr (kept, trail, cause, is)), wrote) = record {
  script = due.script;
  lines = due.lines;
  rest = line ∷ due.rest;
  text = due.text ++ text;
  read = due.read;
  ready = due.ready;
  due = inr (record {
    state = s;
    done = due.text;
    line = line;
    more = due.rest;
    kept = kept;
    trail = trail;
    steps = due.steps;
    next = refl;
    cause = cause;
    parts = ap (λ l. due.text ++ l) is;
  });
  written = front_after t u v due.text text due.written wrote;
}
due_stops a c t u v line n s limits (early.NoMemory m) due (same, keeps) = record {
  script = due.script;
  lines = due.lines;
  rest = line ∷ due.rest;
  state = s;
  text = due.text;
  read = due.read;
  ready = due.ready;
  place = inl (omega (arith, same, due.count), omega arith);
  steps = due.steps;
  written = Appends-kept t u v due.text due.written keeps;
}
due_stops a c t u v line n s limits early.ReadFault due stops = absurd stops
due_stops a c t u v line n s limits (early.Stopped m kept) due (same, cause, wrote) = record {
  script = due.script;
  lines = due.lines;
  stopped = line;
  rest = due.rest;
  state = s;
  text = due.text;
  read = due.read;
  ready = due.ready;
  place = omega (arith, same, due.count);
  steps = due.steps;
  cause = cause;
  written = Appends-trans t u v due.text (stop_line kept.state kept.trail) due.written wrote;
}

-- all lines of a script that is not too long were done
ends_here : (a c t v : Option (List ℕ)) (script text : List ℕ) (lines : List (List ℕ)) (s : ScriptState) → Consumes a c script → IsAtEnd c → length script ≤ SCRIPT_LIMIT
    → script_lines script ≡ lines → AllDone no_names lines s text → Appends t v text → Meant a c t v Done
ends_here a c t v script text lines s read end short same steps wrote = record {
  script = script;
  text = text;
  read = read;
  settled = end;
  means = subst (λ w. Folds (last_of w) 1 no_names (script_lines script) text Done) (sym (short_script script short))
      (subst (λ l. Folds Done 1 no_names l text Done) (sym same)
      (subst (λ l. Folds Done 1 no_names lines l Done) (append-nil text) (folds_all Done no_names s lines text steps)));
  written = wrote;
}

-- no line is left at the end of the input
pub end_done : (a b c t u : Option (List ℕ)) (r : Reading) (n : ℕ) (s : ScriptState) → Going a b t u r n s → IsLastBytes r b c [] → Meant a c t u Done
end_done a b c t u r n s so rest =
    ends_here a c t u (so.used ++ []) so.text so.lines s (so_far a b c t u r n s [] so rest.taken) rest.end (rest_short a b c t u r n s [] so rest)
    (rest_lines a b c t u r n s [] so rest ∙ append-nil so.lines) so.steps so.written

-- the last line was done
last_done : (a b c t u v : Option (List ℕ)) (r : Reading) (n : ℕ) (s z : ScriptState) (line text : List ℕ) → Going a b t u r n s → IsLastBytes r b c line → 0 < length line
    → Line s line z text → Appends u v text → Meant a c t v Done
last_done a b c t u v r n s z line text so rest some step wrote =
    ends_here a c t v (so.used ++ line) (so.text ++ text) (so.lines ++ line ∷ []) z (so_far a b c t u r n s line so rest.taken) rest.end (rest_short a b c t u r n s line so rest)
    (rest_lines a b c t u r n s line so rest ∙ ap (λ l. so.lines ++ l) (one_last line b c r rest some))
    (done_more no_names s z so.lines line so.text text so.steps step) (Appends-trans t u v so.text text so.written wrote)

-- what was done with the last line
pub last_result_done : (a b c t u v : Option (List ℕ)) (r : Reading) (n : ℕ) (s z : ScriptState) (line : List ℕ) (result : Result Unit Early)
    → Going a b t u r n s → IsLastBytes r b c line → 0 < length line
    → OnOk result ((text : List ℕ) × Line s line z text × Appends u v text) → OnOk result (Meant a c t v Done)
last_result_done a b c t u v r n s z line (Ok x) so rest some (text, step, wrote) = last_done a b c t u v r n s z line text so rest some step wrote
last_result_done a b c t u v r n s z line (Err e) so rest some done = tt

pub last_result_stops : (a b c t u v : Option (List ℕ)) (r : Reading) (n : ℕ) (s : ScriptState) (line : List ℕ) (limits : Limits) (result : Result Unit Early)
    → Going a b t u r n s → IsLastBytes r b c line → 0 < length line
    → IfErr result (LineStops u v limits s line (n + 1)) → IfErr result (ScriptStops a c t v limits)
last_result_stops a b c t u v r n s line limits (Ok x) so rest some stops = tt
last_result_stops a b c t u v r n s line limits (Err e) so rest some stops = due_stops a c t u v line n s limits e (last_due a b c t u r n s line so rest some) stops

-- another line was not done to its end
pub line_stops : (a b c t u v : Option (List ℕ)) (r q : Reading) (n : ℕ) (s : ScriptState) (line : List ℕ) (limits : Limits) (stop : Early)
    → Going a b t u r n s → IsNextLine r q b c line → LineStops u v limits s line (n + 1) stop → ScriptStops a c t v limits stop
line_stops a b c t u v r q n s line limits stop so next stops = due_stops a c t u v line n s limits stop (line_due a b c t u r q n s line so next) stops

long_means : (script text : List ℕ) (lines : List (List ℕ)) (s : ScriptState) → is_long script ≡ true → whole_lines (take SCRIPT_LIMIT script) ≡ lines → AllDone no_names lines s text
    → Folds (last_of (is_long script)) 1 no_names (script_lines script) (text ++ ending_text (Refused 0 Length)) (Refused 0 Length)
long_means script text lines s long same steps =
    subst (λ w. Folds (last_of w) 1 no_names (lines_in w (take SCRIPT_LIMIT script)) (text ++ ending_text (Refused 0 Length)) (Refused 0 Length)) (sym long)
    (subst (λ l. Folds (Refused 0 Length) 1 no_names l (text ++ ending_text (Refused 0 Length)) (Refused 0 Length)) (sym same)
    (folds_all (Refused 0 Length) no_names s lines text steps))

-- the script is too long, and no line is left among the bytes that count
pub long_stops : (a b c t u v : Option (List ℕ)) (r : Reading) (n : ℕ) (s : ScriptState) (limits : Limits) (stop : Early)
    → Going a b t u r n s → IsTooLong r b c → ErrorEnds u v 0 Length stop → ScriptStops a c t v limits stop
long_stops a b c t u v r n s limits (early.Refused m) so long (same, wrote) = record {
  refusal = Length;
  meant = subst (λ k. Meant a c t v (Refused k Length)) (sym same) (record {
    script = so.used ++ long.bytes;
    text = so.text ++ ending_text (Refused 0 Length);
    read = so_far a b c t u r n s long.bytes so long.taken;
    settled = inl (omega arith);
    means = long_means (so.used ++ long.bytes) so.text so.lines s (long_is a b c t u r n s so long) (long_lines a b c t u r n s so long) so.steps;
    written = Appends-trans t u v so.text (ending_text (Refused 0 Length)) so.written wrote;
  });
}
long_stops a b c t u v r n s limits early.WriteFault so long wrote = record {
  script = so.used ++ long.bytes;
  lines = so.lines;
  rest = [];
  text = so.text ++ ending_text (Refused 0 Length);
  read = so_far a b c t u r n s long.bytes so long.taken;
  ready = inl (append-nil so.lines ∙ sym (long_lines a b c t u r n s so long));
  due = inl (
    Refused 0 Length,
    Refused 0 Length,
    inr (refl, sym (ap last_of (long_is a b c t u r n s so long))),
    folds_all (Refused 0 Length) no_names s so.lines so.text so.steps,
  );
  written = front_after t u v so.text (ending_text (Refused 0 Length)) so.written wrote;
}
long_stops a b c t u v r n s limits (early.NoMemory m) so long stops = absurd stops
long_stops a b c t u v r n s limits early.ReadFault so long stops = absurd stops
long_stops a b c t u v r n s limits (early.Stopped m kept) so long stops = absurd stops

-- no line ends a run by a failed read
pub no_fault_of_line : (u v : Option (List ℕ)) (limits : Limits) (s : ScriptState) (line : List ℕ) (n : ℕ) (stop : Early) → LineStops u v limits s line n stop
    → stop ≡ early.ReadFault → ⊥
no_fault_of_line u v limits s line n stop stops same = subst (LineStops u v limits s line n) same stops

-- what a call answers that ends early
abbrev pub ended : Early → Result Unit Early
ended stop = Err stop

same_error : (x y : Early) → ended x ≡ ended y → x ≡ y
same_error x y same = cc

pub no_fault_of_result : (u v : Option (List ℕ)) (limits : Limits) (s : ScriptState) (line : List ℕ) (n : ℕ) (result : Result Unit Early)
    → IfErr result (LineStops u v limits s line n) → result ≡ Err early.ReadFault → ⊥
no_fault_of_result u v limits s line n (Ok x) stops same = cc
no_fault_of_result u v limits s line n (Err e) stops same = no_fault_of_line u v limits s line n e stops (same_error e early.ReadFault same)

pub no_fault_of_refusal : (u v : Option (List ℕ)) (n : ℕ) (stop : Early) → ErrorEnds u v n Length stop → ended stop ≡ ended early.ReadFault → ⊥
no_fault_of_refusal u v n stop says same = subst (ErrorEnds u v n Length) (same_error stop early.ReadFault same) says

-- a line that has begun is told by its number, which is not 0
no_zero_of_line : (u v : Option (List ℕ)) (limits : Limits) (s : ScriptState) (line : List ℕ) (n : ℕ) (stop : Early) → LineStops u v limits s line (n + 1) stop
    → stop ≡ early.NoMemory 0 → ⊥
no_zero_of_line u v limits s line n stop stops same =
    let number : 0 ≡ n + 1 = (subst (LineStops u v limits s line (n + 1)) same stops).0 in
    omega (arith, number)

pub no_zero_of_result : (u v : Option (List ℕ)) (limits : Limits) (s : ScriptState) (line : List ℕ) (n : ℕ) (result : Result Unit Early)
    → IfErr result (LineStops u v limits s line (n + 1)) → result ≡ Err (early.NoMemory 0) → ⊥
no_zero_of_result u v limits s line n (Ok x) stops same = cc
no_zero_of_result u v limits s line n (Err e) stops same = no_zero_of_line u v limits s line n e stops (same_error e (early.NoMemory 0) same)

pub no_zero_of_refusal : (u v : Option (List ℕ)) (n : ℕ) (stop : Early) → ErrorEnds u v n Length stop → ended stop ≡ ended (early.NoMemory 0) → ⊥
no_zero_of_refusal u v n stop says same = subst (ErrorEnds u v n Length) (same_error stop (early.NoMemory 0) same) says
