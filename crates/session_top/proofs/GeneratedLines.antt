-- A script in memory, of which a part was read: what was done with it is said of the whole.
use Rattle.std.proofs.Common.{◌≡◌, ℕ, ◌+◌, ◌-◌, ◌<◌, ◌≤◌, ◌⊎◌, inl, inr, true, false, List, [], ◌∷◌, ◌++◌, length, take, refl, sym, ap, ◌∙◌, subst, arith, Some, Result, Ok, Err, OnOk, IfErr}
use Rattle.std.proofs.lemmas.List.{append_assoc, append-nil, length-append, take-append-le, take_all}
use Rattle.std.proofs.lemmas.Bool.{cases_lt}
use Rattle.std.proofs.Math.Seq.{take-append-add}
use Rattle.std.specs.declared.option.Option.{Option}
use Rattle.risen_counts.specs.Counts.{Rose}
use Rattle.session_top.proofs.Runs.{ended}
use Rattle.session_top.specs.declared.TheConstants.{SCRIPT_LIMIT}
use Rattle.session_top.specs.declared.early.Early.{Early}
use Rattle.session_top.specs.declared.early.Early.TheVariants as early
use Rattle.session_top.specs.Limits.{Limits}
use Rattle.session_top.specs.Lines.{lines_in, whole_lines}
use Rattle.session_top.specs.Meaning.{ScriptEnding, Done, Refused, is_long, last_of, script_lines}
use Rattle.session_top.specs.Run.{AreReady, IsSettled, IsBeingDone, IsTextDue, Meant, ScriptStops}
use Rattle.session_top.proofs.Complete.{meaning_of_all, whole_first}
use Rattle.session_top.proofs.Whole.{consumed_whole, long_script, short_script}

-- These lines are the first of the whole script. More lines come behind them only where the part that was read is not too long.
record Extends (all script : List ℕ) (lines : List (List ℕ)) : Type 0 where
  more : List (List ℕ)
  ready : script_lines all ≡ lines ++ more
  last : (is_long script ≡ false) ⊎ ((more ≡ []) × (is_long all ≡ is_long script))

long_extends : (all script rest : List ℕ) (ls : List (List ℕ)) → all ≡ script ++ rest → SCRIPT_LIMIT < length script → ls ≡ whole_lines (take SCRIPT_LIMIT script) → Extends all script ls
long_extends all script rest ls same long e =
    let len : length all ≡ length script + length rest = ap length same ∙ length-append script rest in
    let here : is_long script ≡ true = long_script script long in
    let longer : SCRIPT_LIMIT < length all = omega (arith, len, long) in
    let there : is_long all ≡ true = long_script all longer in
    let within : SCRIPT_LIMIT ≤ length script = omega (arith, long) in
    let front : take SCRIPT_LIMIT all ≡ take SCRIPT_LIMIT script = ap (take SCRIPT_LIMIT) same ∙ take-append-le SCRIPT_LIMIT script rest within in
    record {
      more = [];
      ready = ap (λ w. lines_in w (take SCRIPT_LIMIT all)) there ∙ ap whole_lines front ∙ sym e ∙ sym (append-nil ls);
      last = inr (refl, there ∙ sym here);
    }

short_extends : (all script rest : List ℕ) (ls : List (List ℕ)) → all ≡ script ++ rest → length script ≤ SCRIPT_LIMIT → ls ≡ whole_lines (take SCRIPT_LIMIT script) → Extends all script ls
short_extends all script rest ls same short e =
    let sum : SCRIPT_LIMIT ≡ length script + (SCRIPT_LIMIT - length script) = omega (arith, short) in
    let front : take SCRIPT_LIMIT all ≡ script ++ take (SCRIPT_LIMIT - length script) rest =
    ap (take SCRIPT_LIMIT) same ∙ ap (λ n. take n (script ++ rest)) sum ∙ take-append-add script rest (SCRIPT_LIMIT - length script) in
    let own : take SCRIPT_LIMIT script ≡ script = take_all SCRIPT_LIMIT script short in
    let first = whole_first (is_long all) script (take (SCRIPT_LIMIT - length script) rest) in
    record {
      more = first.0;
      ready = ap (lines_in (is_long all)) front ∙ first.1 ∙ ap (λ l. l ++ first.0) (sym (e ∙ ap whole_lines own));
      last = inl (short_script script short);
    }

extends_lines : (all script rest : List ℕ) (ls : List (List ℕ)) → all ≡ script ++ rest → AreReady script (Some rest) ls → Extends all script ls
extends_lines all script rest ls same (inl e) = elim (cases_lt SCRIPT_LIMIT (length script)) [
  | inl long ↦ long_extends all script rest ls same long e
  | inr short ↦ short_extends all script rest ls same short e
]
extends_lines all script rest ls same (inr (end, e)) =
    let whole : all ≡ script = same ∙ ap (λ l. script ++ l) end ∙ append-nil script in
    record { more = []; ready = ap script_lines whole ∙ sym e ∙ sym (append-nil ls); last = inr (refl, ap is_long whole) }

-- the lines may be done once the whole is read
ready_all : (all : List ℕ) (lines rest more : List (List ℕ)) → script_lines all ≡ (lines ++ rest) ++ more → AreReady all (Some []) (lines ++ (rest ++ more))
ready_all all lines rest more same = inr (refl, sym (same ∙ append_assoc lines rest more))

due_of_all : (limits : Limits) (all script : List ℕ) (lines rest : List (List ℕ)) (text : List ℕ) → (x : Extends all script (lines ++ rest))
    → IsTextDue limits (last_of (is_long script)) lines rest text → IsTextDue limits (last_of (is_long all)) lines (rest ++ x.more) text
due_of_all limits all script lines rest text x (inl (final, ending, inl done, folds)) = inl (final, ending, inl done, folds)
due_of_all limits all script lines rest text x (inl (final, ending, inr (none, last), folds)) = elim x.last [
  | inl short ↦ inl (final, ending, inl (last ∙ ap last_of short), folds)
  | inr (nil, alike) ↦ inl (final, ending, inr (ap (λ l. l ++ x.more) none ∙ nil, last ∙ ap last_of (sym alike)), folds)
]
due_of_all limits all script lines rest text x (inr stop) = inr (record {
  state = stop.state;
  done = stop.done;
  line = stop.line;
  more = stop.more ++ x.more;
  kept = stop.kept;
  trail = stop.trail;
  steps = stop.steps;
  next = ap (λ l. l ++ x.more) stop.next;
  cause = stop.cause;
  parts = stop.parts;
})

settled_whole : (all : List ℕ) (e : ScriptEnding) → IsSettled all (Some []) e
settled_whole all Done = refl
settled_whole all (Refused n k) = inr refl

meant_of_all : (all rest : List ℕ) (t u : Option (List ℕ)) (e : ScriptEnding) → Meant (Some all) (Some rest) t u e → Meant (Some all) (Some []) t u e
meant_of_all all rest t u e meant = record {
  script = all;
  text = meant.text;
  read = consumed_whole all;
  settled = settled_whole all e;
  means = meaning_of_all all meant.script rest meant.text e meant.read meant.settled meant.means;
  written = meant.written;
}

place_of_all : (line : ℕ) (lines rest more : List (List ℕ)) → IsBeingDone line lines rest → IsBeingDone line lines (rest ++ more)
place_of_all line lines rest more (inl (number, some)) =
    let len : length (rest ++ more) ≡ length rest + length more = length-append rest more in inl (number, omega (arith, len, some))
place_of_all line lines rest more (inr none) = inr none

stops_of_all : (all rest : List ℕ) (t u : Option (List ℕ)) (limits : Limits) (stop : Early) → ScriptStops (Some all) (Some rest) t u limits stop → (stop ≡ early.ReadFault → ⊥)
    → ScriptStops (Some all) (Some []) t u limits stop
stops_of_all all rest t u limits (early.Refused n) stops sure = record { refusal = stops.refusal; meant = meant_of_all all rest t u (Refused n stops.refusal) stops.meant }
stops_of_all all rest t u limits early.ReadFault stops sure = absurd (sure refl)
stops_of_all all rest t u limits early.WriteFault cut sure =
    let x = extends_lines all cut.script rest (cut.lines ++ cut.rest) cut.read cut.ready in
    record {
      script = all;
      lines = cut.lines;
      rest = cut.rest ++ x.more;
      text = cut.text;
      read = consumed_whole all;
      ready = ready_all all cut.lines cut.rest x.more x.ready;
      due = due_of_all limits all cut.script cut.lines cut.rest cut.text x cut.due;
      written = cut.written;
    }
stops_of_all all rest t u limits (early.NoMemory n) cut sure =
    let x = extends_lines all cut.script rest (cut.lines ++ cut.rest) cut.read cut.ready in
    record {
      script = all;
      lines = cut.lines;
      rest = cut.rest ++ x.more;
      state = cut.state;
      text = cut.text;
      read = consumed_whole all;
      ready = ready_all all cut.lines cut.rest x.more x.ready;
      place = place_of_all n cut.lines cut.rest x.more cut.place;
      steps = cut.steps;
      written = cut.written;
    }
stops_of_all all rest t u limits (early.Stopped n kept) stopped sure =
    let x = extends_lines all stopped.script rest (stopped.lines ++ (stopped.stopped ∷ stopped.rest)) stopped.read stopped.ready in
    record {
      script = all;
      lines = stopped.lines;
      stopped = stopped.stopped;
      rest = stopped.rest ++ x.more;
      state = stopped.state;
      text = stopped.text;
      read = consumed_whole all;
      ready = ready_all all stopped.lines (stopped.stopped ∷ stopped.rest) x.more x.ready;
      place = stopped.place;
      steps = stopped.steps;
      cause = stopped.cause;
      written = stopped.written;
    }

-- a count that stays at 0 did not rise
pub not_risen : Rose 0 0 → ⊥
not_risen rose = omega (arith, rose)

-- the same of a result
pub result_done : (all rest : List ℕ) (a t u : Option (List ℕ)) (result : Result Unit Early) → a ≡ Some all → OnOk result (Meant a (Some rest) t u Done)
    → OnOk result (Meant (Some all) (Some []) t u Done)
result_done all rest a t u (Ok x) told done = meant_of_all all rest t u Done (subst (λ o. Meant o (Some rest) t u Done) told done)
result_done all rest a t u (Err e) told done = tt

not_faulted : (stop : Early) → (ended stop ≡ ended early.ReadFault → ⊥) → stop ≡ early.ReadFault → ⊥
not_faulted stop sure same = sure (ap Err same)

pub result_stops : (all rest : List ℕ) (a t u : Option (List ℕ)) (limits : Limits) (result : Result Unit Early) → a ≡ Some all
    → IfErr result (ScriptStops a (Some rest) t u limits) → (result ≡ Err early.ReadFault → ⊥) → IfErr result (ScriptStops (Some all) (Some []) t u limits)
result_stops all rest a t u limits (Ok x) told stops sure = tt
result_stops all rest a t u limits (Err e) told stops sure =
    stops_of_all all rest t u limits e (subst (λ o. ScriptStops o (Some rest) t u limits e) told stops) (not_faulted e sure)
