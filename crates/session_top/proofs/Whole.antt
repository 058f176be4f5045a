-- Which scripts are too long, and what is said of a run that did not come to its end.
use Rattle.std.proofs.Common.{Some, None, nat_lt, ◌≡◌, ℕ, zero, suc, ◌<◌, ◌≤◌, ◌⊎◌, inl, inr, Bool, true, false, if◌then◌else◌, ◌==◌, List, [], ◌∷◌, length, take, refl, sym, subst, arith, rules}
use Rattle.std.proofs.KnownBytes.{Appends-nil, Appends-kept, Consumes-nil}
use Rattle.std.proofs.lemmas.List.{append-nil}
use Rattle.std.proofs.lemmas.Bool.{lt-ltb}
use Rattle.std.specs.declared.option.Option.{Option}
use Rattle.std.specs.Io.KnownBytes.{Consumes, Keeps}
use Rattle.session_top.specs.declared.TheConstants.{SCRIPT_LIMIT}
use Rattle.session_values.specs.Names.{ScriptState, no_names}
use Rattle.session_top.specs.Lines.{whole_lines, onto_whole}
use Rattle.session_top.specs.Meaning.{is_long}
use Rattle.module_vectors.specs.declared.trail.KeptTrail.{KeptTrail}
use Rattle.basis_core.specs.Shown.{Shown}
use Rattle.session_top.specs.Run.{MemoryCut, Stopped, StoppedByPairs, StoppedByDegree}
use Rattle.session_top.specs.Stops.{StopsScript, stop_status}
use Rattle.session_top.specs.Limits.{Limits}
use Rattle.session_top.specs.Scripts.{script_before, script_behind}
use Rattle.command_words.specs.declared.words.Command.{Command}
use Rattle.command_words.specs.declared.words.Command.TheVariants.{Large, Run}
use Rattle.large_script.specs.Script.{script_of}

not_lt : (m n : ℕ) → n ≤ m → nat_lt m n ≡ false
not_lt m n le = search rules

length-onto_whole : (b : ℕ) (ls : List (List ℕ)) → length (onto_whole b ls) ≡ length ls
length-onto_whole b [] = refl
length-onto_whole b (l ∷ ls) = refl

whole_front_at : (t : Bool) (b n : ℕ) (bs : List ℕ) → length (whole_lines (take n bs)) ≤ length (whole_lines bs)
    → length (if t then [] ∷ whole_lines (take n bs) else onto_whole b (whole_lines (take n bs))) ≤ length (if t then [] ∷ whole_lines bs else onto_whole b (whole_lines bs))
whole_front_at true b n bs h = omega arith
whole_front_at false b n bs h = rw (length-onto_whole b (whole_lines (take n bs)), length-onto_whole b (whole_lines bs)) h

-- a front has no more whole lines
pub whole_front : (n : ℕ) (xs : List ℕ) → length (whole_lines (take n xs)) ≤ length (whole_lines xs)
whole_front zero xs = omega arith
whole_front (suc n) [] = omega arith
whole_front (suc n) (b ∷ bs) = whole_front_at (b == 10) b n bs (whole_front n bs)

pub long_script : (script : List ℕ) → SCRIPT_LIMIT < length script → is_long script ≡ true
long_script script long = lt-ltb SCRIPT_LIMIT (length script) long

pub short_script : (script : List ℕ) → length script ≤ SCRIPT_LIMIT → is_long script ≡ false
short_script script short = not_lt SCRIPT_LIMIT (length script) short

-- known bytes are consumed whole
pub consumed_whole : (xs : List ℕ) → Consumes (Some xs) (Some []) xs
consumed_whole xs = sym (append-nil xs)

pub nothing_done : (a b t u : Option (List ℕ)) (script : List ℕ) → Consumes a b script → Keeps t u → MemoryCut a b t u 0
nothing_done a b t u script read keeps = record {
  script = script;
  lines = [];
  rest = whole_lines (take SCRIPT_LIMIT script);
  state = no_names;
  text = [];
  read = read;
  ready = inl refl;
  place = inr (refl, refl);
  steps = (refl, refl);
  written = Appends-kept t t u [] (Appends-nil t) keeps;
}

-- nothing was begun, whatever the command
pub nothing_begun : (command : Command) (left t u : Option (List ℕ)) → Keeps t u → MemoryCut (script_before command left) (script_behind command left) t u 0
nothing_begun Run left t u keeps = nothing_done left left t u [] (Consumes-nil left) keeps
nothing_begun (Large seed) left t u keeps = nothing_done (Some (script_of seed)) (Some []) t u (script_of seed) (consumed_whole (script_of seed)) keeps

no_trail : (trail : Option KeptTrail) → stop_status trail ≡ 6 → trail ≡ None
no_trail None six = refl
no_trail (Some t) six = absurd (omega arith)

a_trail : (trail : Option KeptTrail) → stop_status trail ≡ 7 → (t : KeptTrail) × (trail ≡ Some t)
a_trail None seven = absurd (omega arith)
a_trail (Some t) seven = (t, refl)

none_or_some : (kept : Option Shown) → (kept ≡ None) ⊎ ((s : Shown) × (kept ≡ Some s))
none_or_some None = inl refl
none_or_some (Some s) = inr (s, refl)

something_kept : (limits : Limits) (before : ScriptState) (line : List ℕ) (kept : Option Shown) → StopsScript limits before line kept None → kept ≡ None → ⊥
something_kept limits before line kept cause none = subst (λ k. StopsScript limits before line k None) none cause

-- a stop that is no stop by a degree keeps a state
pub stopped_by_pairs : (a b t u : Option (List ℕ)) (limits : Limits) (line : ℕ) (kept : Option Shown) (trail : Option KeptTrail) → Stopped a b t u limits line kept trail
    → stop_status trail ≡ 6 → StoppedByPairs a b t u limits line kept trail
stopped_by_pairs a b t u limits line kept trail stopped six =
    let none : trail ≡ None = no_trail trail six in
    let here : Stopped a b t u limits line kept None = subst (λ o. Stopped a b t u limits line kept o) none stopped in
    elim (none_or_some kept) [
      | inl e ↦ absurd (something_kept limits here.state here.stopped kept here.cause e)
      | inr (s, e) ↦ (s, e, none, subst (λ k. Stopped a b t u limits line k None) e here)
    ]

-- a stop by a degree keeps a trail
pub stopped_by_degree : (a b t u : Option (List ℕ)) (limits : Limits) (line : ℕ) (kept : Option Shown) (trail : Option KeptTrail) → Stopped a b t u limits line kept trail
    → stop_status trail ≡ 7 → StoppedByDegree a b t u limits line kept trail
stopped_by_degree a b t u limits line kept trail stopped seven =
    let some : (t : KeptTrail) × (trail ≡ Some t) = a_trail trail seven in
    (some.0, some.1, subst (λ o. Stopped a b t u limits line kept o) some.1 stopped)

-- the same of equal values
pub as_told : (a b t u : Option (List ℕ)) (limits asked : Limits) (line told : ℕ) (kept state : Option Shown) (trail path : Option KeptTrail)
    → asked ≡ limits → told ≡ line → state ≡ kept → path ≡ trail → Stopped a b t u limits line kept trail → Stopped a b t u asked told state path
as_told a b t u limits asked line told kept state trail path same_limits same_line same_state same_trail stopped =
    subst (λ n. Stopped a b t u n told state path) (sym same_limits)
    (subst (λ n. Stopped a b t u limits n state path) (sym same_line)
    (subst (λ s. Stopped a b t u limits line s path) (sym same_state) (subst (λ p. Stopped a b t u limits line kept p) (sym same_trail) stopped)))
