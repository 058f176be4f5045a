-- Bytes that are gathered before they are written
use Rattle.std.proofs.Common.{Err, List, Ok, Result, [], ap, append_assoc, arith, refl, subst, sym, ℕ, ◌*◌, ◌+◌, ◌++◌, ◌∙◌, ◌≡◌, ◌≤◌}
use Rattle.std.proofs.KnownBytes.{Appends-nil, Appends-trans}
use Rattle.std.proofs.lemmas.List.{append-nil}
use Rattle.std.specs.Prelude.{OnErr, OnOk}
use Rattle.std.specs.declared.option.Option.{Option}
use Rattle.std.specs.Io.KnownBytes.{Appends}
use Rattle.byte_ports.specs.Causes.{AppendsFront}
use Rattle.byte_ports.proofs.Endings.{front_after, front_before}
use Rattle.line_text.specs.Sending.{AreSent}
use Rattle.line_text.specs.Texts.{zero_bytes}
use Rattle.line_text.proofs.Runs.{longer_run, zeros_sum}

-- nothing
pub sent_none : (a : Option (List ℕ)) (held : List ℕ) → AreSent a a held held []
sent_none a held = record { written = []; took = Appends-nil a; parts = append-nil held }

-- bytes that are held behind what is held
pub sent_held : (a : Option (List ℕ)) (held held' bytes : List ℕ) → held' ≡ held ++ bytes → AreSent a a held held' bytes
sent_held a held held' bytes e = record { written = []; took = Appends-nil a; parts = sym e }

-- some bytes, and others behind them
pub sent_both : (a b c : Option (List ℕ)) (held held' held'' one two : List ℕ) → AreSent a b held held' one → AreSent b c held' held'' two
    → AreSent a c held held'' (one ++ two)
sent_both a b c held held' held'' one two first then = record {
  written = first.written ++ then.written;
  took = Appends-trans a b c first.written then.written first.took then.took;
  parts =
      sym (append_assoc held one two) ∙ ap (λ l. l ++ two) first.parts ∙ append_assoc first.written held' two ∙ ap (λ l. first.written ++ l) then.parts
      ∙ sym (append_assoc first.written then.written held'');
}

-- some bytes, and a front of others behind them
pub sent_front : (a b c : Option (List ℕ)) (held held' one two : List ℕ) → AreSent a b held held' one → AppendsFront b c (held' ++ two)
    → AppendsFront a c (held ++ (one ++ two))
sent_front a b c held held' one two first then =
    let same : first.written ++ (held' ++ two) ≡ held ++ (one ++ two)
    = sym (append_assoc first.written held' two) ∙ ap (λ l. l ++ two) (sym first.parts) ∙ append_assoc held one two in
    subst (AppendsFront a c) same (front_after a b c first.written (held' ++ two) first.took then)

-- a front of what is held is written
pub sent_some : (a b c : Option (List ℕ)) (held held' bytes : List ℕ) → AreSent a b held held' bytes → AppendsFront b c held' → AppendsFront a c (held ++ bytes)
sent_some a b c held held' bytes first then =
    subst (AppendsFront a c) (sym first.parts) (front_after a b c first.written held' first.took then)

-- what is held is written, and bytes behind it, where the result is not an error
pub sent_through : {T E : Type 0} (r : Result T E) (a b c : Option (List ℕ)) (held held' bytes : List ℕ) → Appends a b held → held' ≡ []
    → OnOk r (Appends b c bytes) → OnOk r (AreSent a c held held' bytes)
sent_through (Ok t) a b c held held' bytes first none then = record {
  written = held ++ bytes;
  took = Appends-trans a b c held bytes first then;
  parts = sym (append-nil (held ++ bytes)) ∙ ap (λ l. (held ++ bytes) ++ l) (sym none);
}
sent_through (Err e) a b c held held' bytes first none then = tt

-- some bytes, and others behind them where the result is not an error
pub sent_end : {T E : Type 0} (r : Result T E) (a b c : Option (List ℕ)) (held held' held'' one two : List ℕ) → AreSent a b held held' one
    → OnOk r (AreSent b c held' held'' two) → OnOk r (AreSent a c held held'' (one ++ two))
sent_end (Ok t) a b c held held' held'' one two first then = sent_both a b c held held' held'' one two first then
sent_end (Err e) a b c held held' held'' one two first then = tt

pub sent_front_end : {T E : Type 0} (r : Result T E) (a b c : Option (List ℕ)) (held held' one two : List ℕ) → AreSent a b held held' one
    → OnErr r (AppendsFront b c (held' ++ two)) → OnErr r (AppendsFront a c (held ++ (one ++ two)))
sent_front_end (Ok t) a b c held held' one two first then = tt
sent_front_end (Err e) a b c held held' one two first then = sent_front a b c held held' one two first then

module _ (a b c : Option (List ℕ)) (held held' : List ℕ) where
  -- a block of zeros more
  pub zeros_more : (held'' : List ℕ) (i : ℕ) → AreSent a b held held' (zero_bytes (128 * i)) → AreSent b c held' held'' (zero_bytes 128)
      → AreSent a c held held'' (zero_bytes (128 * (i + 1)))
  zeros_more held'' i first then =
      subst (AreSent a c held held'') (sym (zeros_sum (64 * i) (128 * i) 128 (128 * (i + 1)) (omega arith) (omega arith)))
      (sent_both a b c held held' held'' (zero_bytes (128 * i)) (zero_bytes 128) first then)

  -- a front of a block more
  pub zeros_cut : (i count : ℕ) → AreSent a b held held' (zero_bytes (128 * i)) → 128 * (i + 1) ≤ count → AppendsFront b c (held' ++ zero_bytes 128)
      → AppendsFront a c (held ++ zero_bytes count)
  zeros_cut i count first within then =
      let longer = longer_run (128 * (i + 1)) count within in
      let sum = zeros_sum (64 * i) (128 * i) 128 (128 * (i + 1)) (omega arith) (omega arith) in
      let front = sent_front a b c held held' (zero_bytes (128 * i)) (zero_bytes 128) first then in
      let same : (held ++ (zero_bytes (128 * i) ++ zero_bytes 128)) ++ longer.0 ≡ held ++ zero_bytes count
      = append_assoc held (zero_bytes (128 * i) ++ zero_bytes 128) longer.0
      ∙ ap (λ l. held ++ (l ++ longer.0)) (sym sum) ∙ ap (λ l. held ++ l) (sym longer.1) in
      subst (AppendsFront a c) same (front_before a c (held ++ (zero_bytes (128 * i) ++ zero_bytes 128)) longer.0 front)

  -- the last of them
  pub zeros_end : {T E : Type 0} (r : Result T E) (held'' : List ℕ) (i n count : ℕ) → count ≡ 128 * i + n → AreSent a b held held' (zero_bytes (128 * i))
      → OnOk r (AreSent b c held' held'' (zero_bytes n)) → OnOk r (AreSent a c held held'' (zero_bytes count))
  zeros_end (Ok t) held'' i n count sum first then =
      subst (AreSent a c held held'') (sym (zeros_sum (64 * i) (128 * i) n count (omega arith) sum))
      (sent_both a b c held held' held'' (zero_bytes (128 * i)) (zero_bytes n) first then)
  zeros_end (Err e) held'' i n count sum first then = tt

  pub zeros_end_front : {T E : Type 0} (r : Result T E) (i n count : ℕ) → count ≡ 128 * i + n → AreSent a b held held' (zero_bytes (128 * i))
      → OnErr r (AppendsFront b c (held' ++ zero_bytes n)) → OnErr r (AppendsFront a c (held ++ zero_bytes count))
  zeros_end_front (Ok t) i n count sum first then = tt
  zeros_end_front (Err e) i n count sum first then =
      subst (λ l. AppendsFront a c (held ++ l)) (sym (zeros_sum (64 * i) (128 * i) n count (omega arith) sum))
      (sent_front a b c held held' (zero_bytes (128 * i)) (zero_bytes n) first then)

-- a front of the whole was sent, and these bytes are left of it
pub record IsUnderway (old new : Option (List ℕ)) (held held' rest whole : List ℕ) : Type 0 where
  pub front : List ℕ
  pub sent : AreSent old new held held' front
  pub parts : front ++ rest ≡ whole

-- nothing was sent yet
pub not_begun : (a : Option (List ℕ)) (held whole : List ℕ) → IsUnderway a a held held whole whole
not_begun a held whole = record { front = []; sent = sent_none a held; parts = refl }

-- a part more
pub underway_more : (a b c : Option (List ℕ)) (held held' held'' part rest rest' whole : List ℕ) → IsUnderway a b held held' rest whole
    → rest ≡ part ++ rest' → AreSent b c held' held'' part → IsUnderway a c held held'' rest' whole
underway_more a b c held held' held'' part rest rest' whole before split then = record {
  front = before.front ++ part;
  sent = sent_both a b c held held' held'' before.front part before.sent then;
  parts = append_assoc before.front part rest' ∙ ap (λ l. before.front ++ l) (sym split) ∙ before.parts;
}

-- a front of a part
pub underway_cut : (a b c : Option (List ℕ)) (held held' part rest rest' whole : List ℕ) → IsUnderway a b held held' rest whole
    → rest ≡ part ++ rest' → AppendsFront b c (held' ++ part) → AppendsFront a c (held ++ whole)
underway_cut a b c held held' part rest rest' whole before split then =
    let front = sent_front a b c held held' before.front part before.sent then in
    let same : (held ++ (before.front ++ part)) ++ rest' ≡ held ++ whole
    = append_assoc held (before.front ++ part) rest' ∙ ap (λ l. held ++ l) (append_assoc before.front part rest')
    ∙ ap (λ l. held ++ (before.front ++ l)) (sym split) ∙ ap (λ l. held ++ l) before.parts in
    subst (AppendsFront a c) same (front_before a c (held ++ (before.front ++ part)) rest' front)

-- the last part
pub underway_end : {T E : Type 0} (r : Result T E) (a b c : Option (List ℕ)) (held held' held'' rest whole : List ℕ) → IsUnderway a b held held' rest whole
    → OnOk r (AreSent b c held' held'' rest) → OnOk r (AreSent a c held held'' whole)
underway_end (Ok t) a b c held held' held'' rest whole before then =
    subst (AreSent a c held held'') before.parts (sent_both a b c held held' held'' before.front rest before.sent then)
underway_end (Err e) a b c held held' held'' rest whole before then = tt

pub underway_end_front : {T E : Type 0} (r : Result T E) (a b c : Option (List ℕ)) (held held' rest whole : List ℕ) → IsUnderway a b held held' rest whole
    → OnErr r (AppendsFront b c (held' ++ rest)) → OnErr r (AppendsFront a c (held ++ whole))
underway_end_front (Ok t) a b c held held' rest whole before then = tt
underway_end_front (Err e) a b c held held' rest whole before then =
    subst (λ l. AppendsFront a c (held ++ l)) before.parts (sent_front a b c held held' before.front rest before.sent then)

-- all was sent, and of what is held a front was written
pub some_written : {T E : Type 0} (r : Result T E) (a b c : Option (List ℕ)) (held held' bytes text : List ℕ) → held ≡ [] → bytes ≡ text
    → AreSent a b held held' bytes → OnErr r (AppendsFront b c held') → OnErr r (AppendsFront a c text)
some_written (Ok t) a b c held held' bytes text none same first then = tt
some_written (Err e) a b c held held' bytes text none same first then =
    subst (AppendsFront a c) (ap (λ l. l ++ bytes) none ∙ same) (sent_some a b c held held' bytes first then)
