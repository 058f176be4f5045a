-- Facts of results, joined
use Rattle.std.proofs.Common.{Err, IfErr, IfOk, OnErr, Ok, Result, ap, subst, sym, ◌≡◌}

pub both_ok :
    {A E : Type 0} (P Q R : A → Type 0) (r : Result A E) → ((v : A) → P v → Q v → R v) → IfOk r P → IfOk r Q
    → IfOk r R
both_ok P Q R (Ok v) f p q = f v p q
both_ok P Q R (Err e) f p q = tt

pub each_ok : {A E : Type 0} (P Q : A → Type 0) (r : Result A E) → ((v : A) → P v → Q v) → IfOk r P → IfOk r Q
each_ok P Q (Ok v) f p = f v p
each_ok P Q (Err e) f p = tt

pub each_err : {A E : Type 0} (P Q : E → Type 0) (r : Result A E) → ((e : E) → P e → Q e) → IfErr r P → IfErr r Q
each_err P Q (Ok v) f p = tt
each_err P Q (Err e) f p = f e p

pub one_err :
    {A E : Type 0} (P : E → Type 0) (r : Result A E) (s : E) → ((e : E) → P e → e ≡ s) → IfErr r P
    → OnErr r (r ≡ Err s)
one_err P (Ok v) s f p = tt
one_err {A} {E} P (Err e) s f p =
    let wrap : E → Result A E = λ x. Err x in
    ap wrap (f e p)

pub only_err :
    {A E : Type 0} (P : E → Type 0) (r : Result A E) (s : E) → P s → OnErr r (r ≡ Err s) → IfErr r P
only_err P (Ok v) s p h = tt
only_err {A} {E} P (Err e) s p h =
    let same : e ≡ s = cc in
    subst P (sym same) p
