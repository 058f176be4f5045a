-- Lines that are done one after another.
use Rattle.std.proofs.Common.{◌≡◌, ℕ, suc, ◌+◌, inl, List, [], ◌∷◌, ◌++◌, length, refl, sym, ap, ◌∙◌, subst, arith}
use Rattle.std.proofs.lemmas.List.{append_assoc, append-nil}
use Rattle.session_lang.specs.Lines.{Line}
use Rattle.session_values.specs.Names.{ScriptState}
use Rattle.session_top.specs.Meaning.{ScriptEnding, AllDone, Folds, ending_text}

-- one more line
pub done_more : (c d e : ScriptState) (lines : List (List ℕ)) (line text more : List ℕ) → AllDone c lines d text → Line d line e more → AllDone c (lines ++ line ∷ []) e (text ++ more)
done_more c d e [] line text more (same, none) step =
    (e, more, [], subst (λ k. Line k line e more) same step, (refl, refl), ap (λ l. l ++ more) none ∙ sym (append-nil more))
done_more c d e (l ∷ lines) line text more (mid, first, rest, one, others, parts) step =
    (mid, first, rest ++ more, one, done_more mid d e lines line rest more others step, ap (λ t. t ++ more) parts ∙ append_assoc first rest more)

-- the lines that follow go on from there
pub folds_after : (last ending : ScriptEnding) (n : ℕ) (c d : ScriptState) (lines more : List (List ℕ)) (text rest : List ℕ) → AllDone c lines d text
    → Folds last (n + length lines) d more rest ending → Folds last n c (lines ++ more) (text ++ rest) ending
folds_after last ending n c d [] more text rest (same, none) follow =
    subst (λ t. Folds last n c more t ending) (sym (ap (λ l. l ++ rest) none))
    (subst (λ k. Folds last n k more rest ending) same (subst (λ k. Folds last k d more rest ending) (let e : n + 0 ≡ n = omega arith in e) follow))
folds_after last ending n c d (l ∷ lines) more text rest (mid, first, others, one, steps, parts) follow =
    let number : n + suc (length lines) ≡ (n + 1) + length lines = omega arith in
    inl (
      mid,
      first,
      others ++ rest,
      one,
      folds_after last ending (n + 1) mid d lines more others rest steps (subst (λ k. Folds last k d more rest ending) number follow),
      ap (λ t. t ++ rest) parts ∙ append_assoc first others rest,
    )

-- all lines are done, and the last ending comes
pub folds_all : (last : ScriptEnding) (c d : ScriptState) (lines : List (List ℕ)) (text : List ℕ) → AllDone c lines d text → Folds last 1 c lines (text ++ ending_text last) last
folds_all last c d lines text steps =
    subst (λ l. Folds last 1 c l (text ++ ending_text last) last) (append-nil lines)
    (folds_after last last 1 c d lines [] text (ending_text last) steps (refl, refl))
