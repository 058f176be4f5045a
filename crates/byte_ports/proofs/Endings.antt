-- Known bytes that grew by fronts of texts.
use Rattle.std.proofs.Common.{◌≡◌, ℕ, ◌+◌, List, ◌++◌, length, take, sym, subst, arith, Result, Ok, Err, OnOk, OnErr}
use Rattle.std.proofs.lemmas.List.{length-append, take-append-le}
use Rattle.std.proofs.Math.Seq.{take-append-add}
use Rattle.std.proofs.KnownBytes.{Appends-trans}
use Rattle.std.specs.Result.{IsErrAnd}
use Rattle.std.specs.declared.option.Option.{Option}
use Rattle.std.specs.Io.KnownBytes.{Appends}
use Rattle.byte_ports.specs.Causes.{AppendsFront}

-- bytes that were written whole, and a front of more
pub front_after : (a b c : Option (List ℕ)) (text more : List ℕ) → Appends a b text → AppendsFront b c more → AppendsFront a c (text ++ more)
front_after a b c text more first then =
    let len : length (text ++ more) ≡ length text + length more = length-append text more in
    record {
      count = length text + then.count;
      within = omega (arith, len, then.within);
      front = subst (Appends a c) (sym (take-append-add text more then.count)) (Appends-trans a b c text (take then.count more) first then.front);
    }

-- a front of the bytes is a front of them and more
pub front_before : (a b : Option (List ℕ)) (text more : List ℕ) → AppendsFront a b text → AppendsFront a b (text ++ more)
front_before a b text more first =
    let len : length (text ++ more) ≡ length text + length more = length-append text more in
    record {
      count = first.count;
      within = omega (arith, len, first.within);
      front = subst (Appends a b) (sym (take-append-le first.count text more first.within)) first.front;
    }

pub on_err : {T E : Type 0} (r : Result T E) (P : Type 0) → P → OnErr r P
on_err (Ok x) P p = tt
on_err (Err e) P p = p

-- two texts were written whole, and of a third, where the result is an error, a front
pub after_both : {T E : Type 0} (a b c d : Option (List ℕ)) (one two three written : List ℕ) (r : Result T E) → Appends a b one → Appends b c two → written ≡ three
    → OnErr r (AppendsFront c d written) → OnErr r (AppendsFront a d (one ++ (two ++ three)))
after_both a b c d one two three written (Ok x) first second same front = tt
after_both a b c d one two three written (Err e) first second same front =
    front_after a b d one (two ++ three) first (front_after b c d two three second (subst (AppendsFront c d) same front))

-- two texts, the second where the result is not an error
pub all_two : {T E : Type 0} (a b c : Option (List ℕ)) (one two : List ℕ) (r : Result T E) → Appends a b one → OnOk r (Appends b c two) → OnOk r (Appends a c (one ++ two))
all_two a b c one two (Ok x) first then = Appends-trans a b c one two first then
all_two a b c one two (Err e) first then = tt

-- a text, and of the second, where the result is an error, a front
pub front_two : {T E : Type 0} (a b c : Option (List ℕ)) (one two : List ℕ) (r : Result T E) → Appends a b one → OnErr r (AppendsFront b c two)
    → OnErr r (AppendsFront a c (one ++ two))
front_two a b c one two (Ok x) first front = tt
front_two a b c one two (Err e) first front = front_after a b c one two first front

-- two texts, and the third where the result is not an error
pub all_three : {T E : Type 0} (a b c d : Option (List ℕ)) (one two three : List ℕ) (r : Result T E) → Appends a b one → Appends b c two → OnOk r (Appends c d three)
    → OnOk r (Appends a d (one ++ (two ++ three)))
all_three a b c d one two three r first second then = all_two a b d one (two ++ three) r first (all_two b c d two three r second then)

-- the same where what was written third is that text
pub all_both : {T E : Type 0} (a b c d : Option (List ℕ)) (one two three written : List ℕ) (r : Result T E) → Appends a b one → Appends b c two
    → written ≡ three → OnOk r (Appends c d written) → OnOk r (Appends a d (one ++ (two ++ three)))
all_both a b c d one two three written r first second same then =
    all_three a b c d one two three r first second (subst (λ w. OnOk r (Appends c d w)) same then)

-- where the result is an error no text was written whole
pub no_text : {T E : Type 0} (r : Result T E) (Q : E → Type 0) (P : Type 0) → IsErrAnd r Q → OnOk r P
no_text (Ok x) Q P h = absurd h
no_text (Err e) Q P h = tt
