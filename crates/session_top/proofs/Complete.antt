-- A script has one meaning, which its beginning decides where a line of the beginning is refused.
use Rattle.std.proofs.Common.{◌≡◌, ℕ, ◌+◌, ◌-◌, ◌<◌, ◌≤◌, inl, inr, Bool, true, false, if◌then◌else◌, ◌==◌, List, [], ◌∷◌, ◌++◌, length, take, Some, None, refl, sym, ap, ◌∙◌, subst, arith}
use Rattle.std.proofs.lemmas.List.{append-nil, length-append, take-append-le, take_all}
use Rattle.std.proofs.Math.Seq.{take-append-add}
use Rattle.std.proofs.lemmas.Bool.{cases_lt}
use Rattle.std.specs.declared.option.Option.{Option}
use Rattle.std.specs.Io.KnownBytes.{Appends, IsAtEnd}
use Rattle.session_top.specs.declared.early.Refusal.{Refusal}
use Rattle.session_top.specs.declared.early.Refusal.TheVariants.{OfLine}
use Rattle.session_values.specs.Names.{ScriptState, no_names}
use Rattle.session_lang.specs.Lines.{Line, RefusesLine}
use Rattle.script_parse.specs.declared.kind.Kind.{Kind}
use Rattle.session_top.specs.declared.TheConstants.{SCRIPT_LIMIT}
use Rattle.session_top.specs.Lines.{lines_in, lines_of, whole_lines, onto_first, onto_whole}
use Rattle.session_top.specs.Meaning.{ScriptEnding, Done, Refused, Folds, Meaning, is_long, last_of, script_lines, ending_text}
use Rattle.session_top.specs.Run.{Meant, MeantRefused, IsSettled, IsComplete, IsToldAs}
use Rattle.session_top.proofs.Whole.{long_script, short_script}

-- a line that is done has one outcome, a refused one has one kind, and no line is both
pub record LineLaws : Type 0 where
  pub done : (before : ScriptState) (line : List ℕ) (p q : ScriptState) (x y : List ℕ) → Line before line p x → Line before line q y → (p ≡ q) × (x ≡ y)
  pub kind : (before : ScriptState) (line : List ℕ) (j k : Kind) → RefusesLine before line j → RefusesLine before line k → j ≡ k
  pub apart : (before : ScriptState) (line : List ℕ) (p : ScriptState) (x : List ℕ) (k : Kind) → Line before line p x → RefusesLine before line k → ⊥

-- the fold has one outcome
pub folds_unique : (laws : LineLaws) (last : ScriptEnding) (n : ℕ) (c : ScriptState) (lines : List (List ℕ)) (t u : List ℕ) (e f : ScriptEnding)
    → Folds last n c lines t e → Folds last n c lines u f → (t ≡ u) × (e ≡ f)
folds_unique laws last n c [] t u e f (same, text) (same', text') = (text ∙ sym text', same ∙ sym same')
folds_unique laws last n c (l ∷ lines) t u e f (inl (mid, first, rest, one, others, parts)) (inl (mid', first', rest', one', others', parts')) =
    let line = laws.done c l mid mid' first first' one one' in
    let others_here = subst (λ k. Folds last (n + 1) k lines rest e) line.0 others in
    let tail = folds_unique laws last (n + 1) mid' lines rest rest' e f others_here others' in
    (parts ∙ ap (λ x. x ++ rest) line.1 ∙ ap (λ x. first' ++ x) tail.0 ∙ sym parts', tail.1)
folds_unique laws last n c (l ∷ lines) t u e f (inl (mid, first, rest, one, others, parts)) (inr (kind, refuses, same, text)) = absurd (laws.apart c l mid first kind one refuses)
folds_unique laws last n c (l ∷ lines) t u e f (inr (kind, refuses, same, text)) (inl (mid, first, rest, one, others, parts)) = absurd (laws.apart c l mid first kind one refuses)
folds_unique laws last n c (l ∷ lines) t u e f (inr (kind, refuses, same, text)) (inr (kind', refuses', same', text')) =
    let k = laws.kind c l kind kind' refuses refuses' in
    (text ∙ ap (λ x. ending_text (Refused n (OfLine x))) k ∙ sym text', same ∙ ap (λ x. Refused n (OfLine x)) k ∙ sym same')

line_at : ScriptEnding → ℕ
line_at Done = 0
line_at (Refused m k) = m

line_of_refused : (m n : ℕ) (k l : Refusal) → Refused m k ≡ Refused n l → m ≡ n
unfolding line_at
line_of_refused m n k l e = ap line_at e

-- a refusal stands at or behind the first of the lines
refused_from : (n : ℕ) (c : ScriptState) (lines : List (List ℕ)) (t : List ℕ) (m : ℕ) (k : Refusal) → Folds Done n c lines t (Refused m k) → n ≤ m
refused_from n c [] t m k (same, text) = cc
refused_from n c (l ∷ lines) t m k (inl (mid, first, rest, one, others, parts)) = let more = refused_from (n + 1) mid lines rest m k others in omega (arith, more)
refused_from n c (l ∷ lines) t m k (inr (kind, refuses, same, text)) = let e : m ≡ n = line_of_refused m n k (OfLine kind) same in omega (arith, e)

-- a refusal among the first lines does not hang on what comes behind them
refused_within : (last : ScriptEnding) (n : ℕ) (c : ScriptState) (xs ys zs : List (List ℕ)) (t : List ℕ) (m : ℕ) (k : Refusal) → Folds Done n c (xs ++ ys) t (Refused m k) → m < n + length xs
    → Folds last n c (xs ++ zs) t (Refused m k)
refused_within last n c [] ys zs t m k folds below = let from = refused_from n c ys t m k folds in absurd (omega (arith, from, below))
refused_within last n c (x ∷ xs) ys zs t m k (inl (mid, first, rest, one, others, parts)) below =
    inl (mid, first, rest, one, refused_within last (n + 1) mid xs ys zs rest m k others (omega arith), parts)
refused_within last n c (x ∷ xs) ys zs t m k (inr refused) below = inr refused

-- the whole lines of a beginning come first
onto_both : (w : Bool) (b : ℕ) (firsts more : List (List ℕ)) → (rest : List (List ℕ)) × (onto_first b (firsts ++ more) ≡ onto_whole b firsts ++ rest)
onto_both w b [] more = (onto_first b more, refl)
onto_both w b (l ∷ ls) more = (more, refl)

onto_cut : (b : ℕ) (firsts more : List (List ℕ)) → (rest : List (List ℕ)) × (onto_whole b (firsts ++ more) ≡ onto_whole b firsts ++ rest)
onto_cut b [] more = (onto_whole b more, refl)
onto_cut b (l ∷ ls) more = (more, refl)

first_of : (t : Bool) (b : ℕ) (xs firsts : List (List ℕ)) (more : List (List ℕ)) → xs ≡ firsts ++ more
    → (rest : List (List ℕ)) × ((if t then [] ∷ xs else onto_first b xs) ≡ (if t then [] ∷ firsts else onto_whole b firsts) ++ rest)
first_of true b xs firsts more e = (more, ap (λ l. [] ∷ l) e)
first_of false b xs firsts more e = let both = onto_both true b firsts more in (both.0, ap (onto_first b) e ∙ both.1)

cut_of : (t : Bool) (b : ℕ) (xs firsts : List (List ℕ)) (more : List (List ℕ)) → xs ≡ firsts ++ more
    → (rest : List (List ℕ)) × ((if t then [] ∷ xs else onto_whole b xs) ≡ (if t then [] ∷ firsts else onto_whole b firsts) ++ rest)
cut_of true b xs firsts more e = (more, ap (λ l. [] ∷ l) e)
cut_of false b xs firsts more e = let both = onto_cut b firsts more in (both.0, ap (onto_whole b) e ∙ both.1)

pub whole_first : (w : Bool) (xs ys : List ℕ) → (rest : List (List ℕ)) × (lines_in w (xs ++ ys) ≡ whole_lines xs ++ rest)
whole_first w [] ys = (lines_in w ys, refl)
whole_first false (b ∷ bs) ys = let more = whole_first false bs ys in first_of (b == 10) b (lines_of (bs ++ ys)) (whole_lines bs) more.0 more.1
whole_first true (b ∷ bs) ys = let more = whole_first true bs ys in cut_of (b == 10) b (whole_lines (bs ++ ys)) (whole_lines bs) more.0 more.1

-- a refusal in lines that are whole in a short beginning is that of the script
short_meaning : (w : Bool) (xs ys : List ℕ) (t : List ℕ) (m : ℕ) (k : Refusal) → Folds Done 1 no_names (lines_of xs) t (Refused m k) → m ≤ length (whole_lines xs)
    → Folds (last_of w) 1 no_names (lines_in w (xs ++ ys)) t (Refused m k)
short_meaning w xs ys t m k folds below =
    let here = whole_first false xs [] in
    let there = whole_first w xs ys in
    let here_is : lines_of xs ≡ whole_lines xs ++ here.0 = ap lines_of (sym (append-nil xs)) ∙ here.1 in
    subst (λ l. Folds (last_of w) 1 no_names l t (Refused m k)) (sym there.1)
    (refused_within (last_of w) 1 no_names (whole_lines xs) here.0 there.0 t m k (subst (λ l. Folds Done 1 no_names l t (Refused m k)) here_is folds) (omega arith))

-- a script that goes on behind a refused line has that meaning
pub extends : (xs ys t : List ℕ) (m : ℕ) (k : Refusal) → Meaning xs t (Refused m k) → m ≤ length (whole_lines xs) → Meaning (xs ++ ys) t (Refused m k)
extends xs ys t m k means below =
    let F : Bool → List ℕ → Type 0 = λ w front. Folds (last_of w) 1 no_names (lines_in w front) t (Refused m k) in
    let len : length (xs ++ ys) ≡ length xs + length ys = length-append xs ys in
    elim (cases_lt SCRIPT_LIMIT (length xs)) [
      | inl long ↦
          let here : is_long xs ≡ true = long_script xs long in
          let longer : SCRIPT_LIMIT < length (xs ++ ys) = omega (arith, len, long) in
          let there : is_long (xs ++ ys) ≡ true = long_script (xs ++ ys) longer in
          let within : SCRIPT_LIMIT ≤ length xs = omega (arith, long) in
          let front : take SCRIPT_LIMIT (xs ++ ys) ≡ take SCRIPT_LIMIT xs = take-append-le SCRIPT_LIMIT xs ys within in
          subst (F (is_long (xs ++ ys))) (sym front) (subst (λ w. F w (take SCRIPT_LIMIT xs)) (here ∙ sym there) means)
      | inr short ↦
          let here : is_long xs ≡ false = short_script xs short in
          let sum : SCRIPT_LIMIT ≡ length xs + (SCRIPT_LIMIT - length xs) = omega (arith, short) in
          let front : take SCRIPT_LIMIT (xs ++ ys) ≡ xs ++ take (SCRIPT_LIMIT - length xs) ys = ap (λ n. take n (xs ++ ys)) sum ∙ take-append-add xs ys (SCRIPT_LIMIT - length xs) in
          let own : take SCRIPT_LIMIT xs ≡ xs = take_all SCRIPT_LIMIT xs short in
          let folds : F false xs = subst (F false) own (subst (λ w. F w (take SCRIPT_LIMIT xs)) here means) in
          subst (F (is_long (xs ++ ys))) (sym front) (short_meaning (is_long (xs ++ ys)) xs (take (SCRIPT_LIMIT - length xs) ys) t m k folds below)
    ]

-- what was read has the meaning of the whole
pub meaning_of_all : (script xs ys t : List ℕ) (e : ScriptEnding) → script ≡ xs ++ ys → IsSettled xs (Some ys) e → Meaning xs t e → Meaning script t e
meaning_of_all script xs ys t Done same end means = subst (λ s. Meaning s t Done) (sym (same ∙ ap (λ l. xs ++ l) end ∙ append-nil xs)) means
meaning_of_all script xs ys t (Refused m k) same (inl below) means = subst (λ s. Meaning s t (Refused m k)) (sym same) (extends xs ys t m k means below)
meaning_of_all script xs ys t (Refused m k) same (inr end) means = subst (λ s. Meaning s t (Refused m k)) (sym (same ∙ ap (λ l. xs ++ l) end ∙ append-nil xs)) means

at_end_of : (script : List ℕ) (b : Option (List ℕ)) (e f : ScriptEnding) → f ≡ e → IsSettled script b e → f ≡ Done → IsAtEnd b
at_end_of script b Done f same settled done = settled
at_end_of script b (Refused m k) f same settled done = cc

script_of : Option (List ℕ) → List ℕ
script_of None = []
script_of (Some xs) = xs

same_script : (xs ys : List ℕ) → Some xs ≡ Some ys → xs ≡ ys
unfolding script_of
same_script xs ys e = ap script_of e

-- where the source tells its script, the ending is the script's and the bytes are its text
pub complete : LineLaws → (a b t u : Option (List ℕ)) (e : ScriptEnding) → Meant a b t u e → (script text : List ℕ) (ending : ScriptEnding) → a ≡ Some script → Meaning script text ending
    → Appends t u text × (ending ≡ e) × (ending ≡ Done → IsAtEnd b)
complete laws None b t u e meant script text ending told means = cc
complete laws (Some x) None t u e meant script text ending told means = absurd meant.read
complete laws (Some x) (Some y) t u e meant script text ending told means =
    let whole : script ≡ meant.script ++ y = sym (same_script x script told) ∙ meant.read in
    let all : Meaning script meant.text e = meaning_of_all script meant.script y meant.text e whole meant.settled meant.means in
    let same = folds_unique laws (last_of (is_long script)) 1 no_names (script_lines script) text meant.text ending e means all in
    (subst (Appends t u) (sym same.0) meant.written, same.1, at_end_of meant.script (Some y) e ending same.1 meant.settled)

-- a script whose lines all are done is answered by status 0
pub done_complete : LineLaws → (a b t u : Option (List ℕ)) → Meant a b t u Done → IsComplete a b t u 0 0
done_complete laws a b t u meant script text ending told means =
    let all = complete laws a b t u Done meant script text ending told means in
    inr (inr (inr (subst (IsToldAs 0 0) (sym all.1) (refl, refl), all.0, all.2)))

-- a script of which a line is refused is answered by status 1 and this line
pub refused_complete : LineLaws → (a b t u : Option (List ℕ)) (line : ℕ) → MeantRefused a b t u line → IsComplete a b t u 1 line
refused_complete laws a b t u line refused script text ending told means =
    let all = complete laws a b t u (Refused line refused.refusal) refused.meant script text ending told means in
    inr (inr (inr (subst (IsToldAs 1 line) (sym all.1) (refl, refl), all.0, all.2)))
