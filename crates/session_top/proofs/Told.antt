-- Each ending of a run is told by what its status says, and so is the end of a run of the program.
use Rattle.std.proofs.Common.{◌≡◌, Some, None, Ok, Err, ℕ, List, OnOk, IfErr, codes, inl, inr, refl, sym, ap, ◌∙◌, subst, arith}
use Rattle.std.proofs.KnownBytes.{Keeps-refl}
use Rattle.std.specs.Prelude.{Option, Result}
use Rattle.std.specs.Io.KnownBytes.{Appends}
use Rattle.byte_ports.specs.Causes.{AppendsFront}
use Rattle.risen_counts.specs.Counts.{Rose}
use Rattle.command_words.specs.Command.{IsForm, request_of}
use Rattle.command_words.specs.declared.words.Command.TheVariants.{Run}
use Rattle.command_words.specs.declared.words.Request.{Request}
use Rattle.basis_core.specs.Shown.{Shown}
use Rattle.module_vectors.specs.declared.trail.KeptTrail.{KeptTrail}
use Rattle.session_top.specs.declared.early.Early.{Early}
use Rattle.session_top.specs.declared.early.Early.TheVariants as early
use Rattle.session_top.specs.declared.top.Ended.{Ended}
use Rattle.session_top.specs.Limits.{Limits, limits_of}
use Rattle.session_top.specs.Meaning.{Done}
use Rattle.session_top.specs.Parts.{ended_as}
use Rattle.session_top.specs.Run.{Meant, MemoryCut, ScriptStops, Stopped}
use Rattle.session_top.specs.Scripts.{script_before, script_behind}
use Rattle.session_top.specs.Stops.{stop_status}
use Rattle.session_top.specs.Told.{Ports, RunTold, ScriptTold, plain}
use Rattle.session_top.proofs.Complete.{LineLaws, done_complete, refused_complete}
use Rattle.session_top.proofs.Whole.{nothing_begun, stopped_by_degree, stopped_by_pairs}

-- a stop is told by its status, which is that of its trail
stop_told : (a b t u : Option (List ℕ)) (limits : Limits) (line : ℕ) (kept : Option Shown) (trail : Option KeptTrail)
    → Stopped a b t u limits line kept trail → ScriptTold a b t u limits (record { status = stop_status trail; line = line; kept = kept; trail = trail })
stop_told a b t u limits line kept None stopped = record {
  range = omega arith;
  line = λ _ _ six _. absurd (six refl);
  kept = λ six _. absurd (six refl);
  trail = λ _. refl;
  done = λ e. absurd (omega arith);
  refused = λ e. absurd (omega arith);
  words = λ e. omega arith;
  read_cut = λ e. absurd (omega arith);
  write_cut = λ e. absurd (omega arith);
  memory = λ e. absurd (omega arith);
  pairs = λ e. stopped_by_pairs a b t u limits line kept None stopped refl;
  degree = λ e. absurd (omega arith);
  complete = λ _ _ script text ending is means. inr (inl refl);
}
stop_told a b t u limits line kept (Some way) stopped = record {
  range = omega arith;
  line = λ _ _ _ seven. absurd (seven refl);
  kept = λ _ seven. absurd (seven refl);
  trail = λ seven. absurd (seven refl);
  done = λ e. absurd (omega arith);
  refused = λ e. absurd (omega arith);
  words = λ e. omega arith;
  read_cut = λ e. absurd (omega arith);
  write_cut = λ e. absurd (omega arith);
  memory = λ e. absurd (omega arith);
  pairs = λ e. absurd (omega arith);
  degree = λ e. stopped_by_degree a b t u limits line kept (Some way) stopped refl;
  complete = λ _ _ script text ending is means. inr (inr (inl refl));
}

-- so is want of memory
memory_told : (a b t u : Option (List ℕ)) (limits : Limits) (line : ℕ) → MemoryCut a b t u line → ScriptTold a b t u limits (plain 5 line)
memory_told a b t u limits line cut = record {
  range = omega arith;
  line = λ _ five _ _. absurd (five refl);
  kept = λ _ _. refl;
  trail = λ _. refl;
  done = λ e. absurd (omega arith);
  refused = λ e. absurd (omega arith);
  words = λ e. omega arith;
  read_cut = λ e. absurd (omega arith);
  write_cut = λ e. absurd (omega arith);
  memory = λ _. cut;
  pairs = λ e. absurd (omega arith);
  degree = λ e. absurd (omega arith);
  complete = λ _ _ script text ending is means. inl refl;
}

-- each end of a run of lines is told so
pub script_told : (laws : LineLaws) (a b t u : Option (List ℕ)) (limits : Limits) (run : Result Unit Early)
    → OnOk run (Meant a b t u Done) → IfErr run (ScriptStops a b t u limits) → ScriptTold a b t u limits (ended_as run)
script_told laws a b t u limits (Ok one) done stops = record {
  range = omega arith;
  line = λ _ _ _ _. refl;
  kept = λ _ _. refl;
  trail = λ _. refl;
  done = λ _. done;
  refused = λ e. absurd (omega arith);
  words = λ e. omega arith;
  read_cut = λ e. absurd (omega arith);
  write_cut = λ e. absurd (omega arith);
  memory = λ e. absurd (omega arith);
  pairs = λ e. absurd (omega arith);
  degree = λ e. absurd (omega arith);
  complete = λ _ _. done_complete laws a b t u done;
}
script_told laws a b t u limits (Err (early.Refused line)) done stops = record {
  range = omega arith;
  line = λ one _ _ _. absurd (one refl);
  kept = λ _ _. refl;
  trail = λ _. refl;
  done = λ e. absurd (omega arith);
  refused = λ _. stops;
  words = λ e. omega arith;
  read_cut = λ e. absurd (omega arith);
  write_cut = λ e. absurd (omega arith);
  memory = λ e. absurd (omega arith);
  pairs = λ e. absurd (omega arith);
  degree = λ e. absurd (omega arith);
  complete = λ _ _. refused_complete laws a b t u line stops;
}
script_told laws a b t u limits (Err early.ReadFault) done stops = record {
  range = omega arith;
  line = λ _ _ _ _. refl;
  kept = λ _ _. refl;
  trail = λ _. refl;
  done = λ e. absurd (omega arith);
  refused = λ e. absurd (omega arith);
  words = λ e. omega arith;
  read_cut = λ _. stops;
  write_cut = λ e. absurd (omega arith);
  memory = λ e. absurd (omega arith);
  pairs = λ e. absurd (omega arith);
  degree = λ e. absurd (omega arith);
  complete = λ three _. absurd (three refl);
}
script_told laws a b t u limits (Err early.WriteFault) done stops = record {
  range = omega arith;
  line = λ _ _ _ _. refl;
  kept = λ _ _. refl;
  trail = λ _. refl;
  done = λ e. absurd (omega arith);
  refused = λ e. absurd (omega arith);
  words = λ e. omega arith;
  read_cut = λ e. absurd (omega arith);
  write_cut = λ _. stops;
  memory = λ e. absurd (omega arith);
  pairs = λ e. absurd (omega arith);
  degree = λ e. absurd (omega arith);
  complete = λ _ four. absurd (four refl);
}
script_told laws a b t u limits (Err (early.NoMemory line)) done stops = memory_told a b t u limits line stops
script_told laws a b t u limits (Err (early.Stopped line kept)) done stops = stop_told a b t u limits line kept.state kept.trail stops

not_memory : (trail : Option KeptTrail) → stop_status trail ≡ 5 → ⊥
not_memory None five = omega arith
not_memory (Some way) five = omega arith

-- want of memory at line 0 is told of no other end
pub unbegun : (run : Result Unit Early) → (ended_as run).status ≡ 5 → (ended_as run).line ≡ 0 → run ≡ Err (early.NoMemory 0)
unbegun (Ok one) five zero = absurd (omega arith)
unbegun (Err (early.Refused line)) five zero = absurd (omega arith)
unbegun (Err early.ReadFault) five zero = absurd (omega arith)
unbegun (Err early.WriteFault) five zero = absurd (omega arith)
unbegun (Err (early.NoMemory line)) five zero = ap (λ n. Err (early.NoMemory n)) zero
unbegun (Err (early.Stopped line kept)) five zero = absurd (not_memory kept.trail five)

-- memory ran out before the words were read
pub no_words_told : {S : Type 0} (words : List (List ℕ)) (ports : Ports S) → RunTold words ports ports (plain 5 0)
no_words_told words ports = record {
  script = λ form. memory_told _ _ _ _ _ 0 (nothing_begun (request_of words).command ports.left ports.taken ports.taken (Keeps-refl _));
  wrong = λ wrong. (refl, inr (inr (refl, Keeps-refl _)));
  generated = λ other. refl;
  begun = λ five zero. refl;
  read_fault = λ e. absurd (omega arith);
  write_fault = λ e. absurd (omega arith);
}

-- the words are not of the form
pub wrong_words_told : {S : Type 0} (words : List (List ℕ)) (before after : Ports S) → (IsForm words → ⊥) → after.source ≡ before.source
    → Appends before.taken after.taken (codes "error words\n") → RunTold words before after (plain 2 0)
wrong_words_told words before after wrong same wrote = record {
  script = λ form. absurd (wrong form);
  wrong = λ _. (same, inl (refl, wrote));
  generated = λ other. same;
  begun = λ e zero. absurd (omega arith);
  read_fault = λ e. absurd (omega arith);
  write_fault = λ e. absurd (omega arith);
}

-- and a write failed
pub cut_words_told : {S : Type 0} (words : List (List ℕ)) (before after : Ports S) → (IsForm words → ⊥) → after.source ≡ before.source
    → AppendsFront before.taken after.taken (codes "error words\n") → Rose before.write_faults after.write_faults
    → RunTold words before after (plain 4 0)
cut_words_told words before after wrong same front rose = record {
  script = λ form. absurd (wrong form);
  wrong = λ _. (same, inr (inl (refl, front)));
  generated = λ other. same;
  begun = λ e zero. absurd (omega arith);
  read_fault = λ e. absurd (omega arith);
  write_fault = λ _. rose;
}

-- the request of the words was done
pub request_told : {S : Type 0} (words : List (List ℕ)) (request : Request) (before after : Ports S) (e : Ended)
    → request ≡ request_of words → IsForm words
    → ScriptTold (script_before request.command before.left) (script_behind request.command after.left) before.taken after.taken (limits_of request) e
    → ((request.command ≡ Run → ⊥) → after.source ≡ before.source) → (e.status ≡ 5 → e.line ≡ 0 → after ≡ before)
    → (e.status ≡ 3 → Rose before.read_faults after.read_faults) → (e.status ≡ 4 → Rose before.write_faults after.write_faults)
    → RunTold words before after e
request_told words request before after e same form told unread begun read write = record {
  script = λ _.
      subst (λ r. ScriptTold (script_before r.command before.left) (script_behind r.command after.left) before.taken after.taken (limits_of r) e)
      same told;
  wrong = λ wrong. absurd (wrong form);
  generated = λ other. unread (λ run. other (ap (λ (r : Request). r.command) (sym same) ∙ run));
  begun = begun;
  read_fault = read;
  write_fault = write;
}
