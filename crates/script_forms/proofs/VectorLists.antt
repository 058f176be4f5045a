-- Lists of VECs: a comma outside square brackets stands in none
use Rattle.std.proofs.Common.{◌≡◌, Bool, true, false, ℕ, ◌+◌, inl, inr, List, [], ◌∷◌, ◌++◌, map, take, drop, Some, None, option_and_then, Ok, Err, Vec, Global, length, refl, sym, ap, ap₂, subst, ◌∙◌, append_assoc}
use Rattle.std.proofs.lemmas.List.{append-nil, map-append}
use Rattle.std.specs.List.{AllByRecursion}
use Rattle.std.specs.Prelude.{flat_map}
use Rattle.script_tokens.specs.declared.token.Token.{Token}
use Rattle.poly_grammar.specs.Lexemes.{Lexeme, close_bracket, comma, lexeme, open_bracket}
use Rattle.poly_grammar.specs.Steps.{steps}
use Rattle.poly_grammar.specs.Trees.{Poly}
use Rattle.poly_grammar.specs.declared.step.PolyStep.{PolyStep}
use Rattle.poly_grammar.specs.declared.stop.ReadStop.{ReadStop}
use Rattle.poly_grammar.specs.declared.stop.ReadStop.TheVariants.{Memory, Syntax}
use Rattle.script_forms.specs.Forms.{AreVectorsRead, IsAtOuterComma, IsVectorPushed, bracketed, bracketed_behind, further, shape_behind}
use Rattle.script_forms.specs.Written.{AreVectorEntries, ArePolys, AreVectors}
use Rattle.script_forms.specs.declared.vectors.Shape.{Shape}
use Rattle.script_forms.specs.declared.vectors.Shape.TheVariants.{Empty}
use Rattle.script_forms.proofs.Pieces.{all_append, one_vector, reads_pass}
use Rattle.script_forms.proofs.States.{same_stop, state_joins, state_stops}

-- the lexemes of a POLY, and those of several
abbrev IsPlain : Lexeme → Type 0
IsPlain open_bracket = ⊥
IsPlain close_bracket = ⊥
IsPlain comma = ⊥
IsPlain _ = Unit {0}

abbrev IsInner : Lexeme → Type 0
IsInner open_bracket = ⊥
IsInner close_bracket = ⊥
IsInner _ = Unit {0}

plain_one : (b : Bool) (x : Lexeme) → IsPlain x → bracketed b x ≡ Some b
plain_one b open_bracket h = absurd h
plain_one b close_bracket h = absurd h
plain_one b comma h = absurd h
plain_one true _ h = refl
plain_one false _ h = refl

inner_one : (x : Lexeme) → IsInner x → bracketed true x ≡ Some true
inner_one open_bracket h = absurd h
inner_one close_bracket h = absurd h
inner_one _ h = refl

plain_passes : (b : Bool) (xs : List Lexeme) → AllByRecursion IsPlain xs → bracketed_behind b xs ≡ Some b
plain_passes b [] h = refl
plain_passes b (x ∷ xs) h = ap (λ o. option_and_then (λ c. bracketed_behind c xs) o) (plain_one b x h.0) ∙ plain_passes b xs h.1

inner_passes : (xs : List Lexeme) → AllByRecursion IsInner xs → bracketed_behind true xs ≡ Some true
inner_passes [] h = refl
inner_passes (x ∷ xs) h = ap (λ o. option_and_then (λ c. bracketed_behind c xs) o) (inner_one x h.0) ∙ inner_passes xs h.1

polys_inner : (xs : List Lexeme) (ps : List Poly) → ArePolys xs ps → AllByRecursion IsInner xs
polys_inner xs [] h = absurd h
polys_inner xs (p ∷ []) h = reads_pass IsInner (λ t. tt) (λ t. tt) tt tt tt tt tt tt xs p h
polys_inner xs (p ∷ q ∷ ps) h =
    subst (λ l. AllByRecursion IsInner l) (sym h.2)
    (all_append IsInner h.0 (comma ∷ h.1) (reads_pass IsInner (λ t. tt) (λ t. tt) tt tt tt tt tt tt h.0 p h.3) (tt, polys_inner h.1 (q ∷ ps) h.4))

-- a VEC has no comma outside brackets, and closes those that it opens
entries_pass : (xs : List Lexeme) (ps : List Poly) → AreVectorEntries xs ps → bracketed_behind false xs ≡ Some false
entries_pass xs ps (inl h) = plain_passes false xs (reads_pass IsPlain (λ t. tt) (λ t. tt) tt tt tt tt tt tt xs h.0 h.2)
entries_pass xs ps (inr h) =
    let inner = inner_passes h.0 (polys_inner h.0 ps h.2) in
    ap (bracketed_behind false) h.1 ∙ state_joins bracketed true true false h.0 (close_bracket ∷ []) inner refl

outer_none : (front behind : List Lexeme) → bracketed_behind false front ≡ Some false → bracketed_behind false (front ++ comma ∷ behind) ≡ None
outer_none front behind h = state_stops bracketed false false comma front behind h refl

-- before a first comma outside brackets stands the first VEC, and behind it the others
record OuterCut (front behind : List Lexeme) (vectors : List (List Poly)) : Type 0 where
  pub first : List Poly
  pub others : List (List Poly)
  pub are : vectors ≡ first ∷ others
  pub reads : AreVectorEntries front first
  pub rest : AreVectors behind others

outer_cut : (xs front behind : List Lexeme) (vectors : List (List Poly)) → xs ≡ front ++ comma ∷ behind → bracketed_behind false front ≡ Some false → AreVectors xs vectors → OuterCut front behind vectors
outer_cut xs front behind [] e h k = absurd k
outer_cut xs front behind (es ∷ []) e h k =
    let no : None ≡ Some false = sym (outer_none front behind h) ∙ ap (bracketed_behind false) (sym e) ∙ entries_pass xs es k in absurd cc
outer_cut xs front behind (es ∷ fs ∷ more) e h k =
    let s = same_stop bracketed false false false k.0 front k.1 behind comma comma (entries_pass k.0 es k.3) refl h refl (sym k.2 ∙ e) in
    let tail : k.1 ≡ behind = cc (s.1) in
    record { first = es; others = fs ∷ more; are = refl; reads = subst (λ l. AreVectorEntries l es) s.0 k.3; rest = subst (λ l. AreVectors l (fs ∷ more)) tail k.4 }

-- lexemes without such a comma are one VEC or none
outer_uncut : (xs : List Lexeme) (vectors : List (List Poly)) → ((b : Bool) × (bracketed_behind false xs ≡ Some b)) → AreVectors xs vectors → (es : List Poly) × (vectors ≡ es ∷ []) × AreVectorEntries xs es
outer_uncut xs [] h k = absurd k
outer_uncut xs (es ∷ []) h k = (es, refl, k)
outer_uncut xs (es ∷ fs ∷ more) h k =
    let no : None ≡ Some h.0 = sym (outer_none k.0 k.1 (entries_pass k.0 es k.3)) ∙ ap (bracketed_behind false) (sym k.2) ∙ h.1 in absurd cc

put_first : (xs front behind : List Lexeme) (es : List Poly) (more : List (List Poly)) → xs ≡ front ++ comma ∷ behind → AreVectorEntries front es → AreVectors behind more → AreVectors xs (es ∷ more)
put_first xs front behind es [] e r k = absurd k
put_first xs front behind es (fs ∷ more) e r k = (front, behind, e, r, k)

-- lexemes are VECs in one way
pub one_list_of_vectors : (xs : List Lexeme) (vs ws : List (List Poly)) → AreVectors xs vs → AreVectors xs ws → vs ≡ ws
one_list_of_vectors xs [] ws h k = absurd h
one_list_of_vectors xs (es ∷ []) ws h k =
    let o = outer_uncut xs ws (false, entries_pass xs es h) k in
    ap (λ x. x ∷ []) (one_vector xs es o.0 h o.2) ∙ sym o.1
one_list_of_vectors xs (es ∷ fs ∷ more) ws h k =
    let c = outer_cut xs h.0 h.1 ws h.2 (entries_pass h.0 es h.3) k in
    ap₂ (λ x l. x ∷ l) (one_vector h.0 es c.first h.3 c.reads) (one_list_of_vectors h.1 (fs ∷ more) c.others h.4 c.rest) ∙ sym c.are

-- of the tokens, these VECs are read, and the rest is to be read
pub record IsReadingVectors (tokens rest : List Token) (found : List (Vec PolyStep Global)) (shape : Shape) : Type 0 where
  pub done : List (List Poly)
  pub steps_are : map (λ v. v.items) found ≡ map steps (flat_map (λ es. es) done)
  pub shape_is : shape ≡ shape_behind Empty done
  pub joins : (more : List (List Poly)) → AreVectors (map lexeme rest) more → AreVectors (map lexeme tokens) (done ++ more)
  pub splits : (all : List (List Poly)) → AreVectors (map lexeme tokens) all → (more : List (List Poly)) × (all ≡ done ++ more) × AreVectors (map lexeme rest) more

shape_push : (s : Shape) (done : List (List Poly)) (es : List Poly) → shape_behind s (done ++ es ∷ []) ≡ further (shape_behind s done) (length es)
shape_push s [] es = refl
shape_push s (x ∷ done) es = shape_push (further s (length x)) done es

flat_push : (done : List (List Poly)) (es : List Poly) → flat_map (λ es. es) (done ++ es ∷ []) ≡ flat_map (λ es. es) done ++ es
flat_push [] es = append-nil es
flat_push (x ∷ done) es = ap (λ l. x ++ l) (flat_push done es) ∙ sym (append_assoc x (flat_map (λ es. es) done) es)

pushed_entries : (old new : List (Vec PolyStep Global)) (done : List (List Poly)) (es : List Poly) → map (λ v. v.items) old ≡ map steps (flat_map (λ es. es) done) → map (λ v. v.items) new ≡ map (λ v. v.items) old ++ map steps es
    → map (λ v. v.items) new ≡ map steps (flat_map (λ es. es) (done ++ es ∷ []))
pushed_entries old new done es e is = is ∙ ap (λ l. l ++ map steps es) e ∙ sym (map-append steps (flat_map (λ es. es) done) es) ∙ ap (map steps) (sym (flat_push done es))

pushed_shape : (old new : Shape) (count : ℕ) (done : List (List Poly)) (es : List Poly) → old ≡ shape_behind Empty done → new ≡ further old count → count ≡ length es → new ≡ shape_behind Empty (done ++ es ∷ [])
pushed_shape old new count done es e f n = f ∙ ap₂ further e n ∙ sym (shape_push Empty done es)

pub reading_begins : (tokens rest : List Token) (found : List (Vec PolyStep Global)) (shape : Shape) → rest ≡ tokens → found ≡ [] → shape ≡ Empty → IsReadingVectors tokens rest found shape
reading_begins tokens rest found shape e none s = record {
  done = [];
  steps_are = ap (map (λ v. v.items)) none;
  shape_is = s;
  joins = λ more k. subst (λ l. AreVectors (map lexeme l) more) e k;
  splits = λ all k. (all, refl, subst (λ l. AreVectors (map lexeme l) all) (sym e) k);
}

-- the tokens before and behind the first comma outside brackets
pub outer_cut_here :
    (rest piece behind after : List Token) (f : Token) (at : ℕ) → IsAtOuterComma rest at → piece ≡ take at rest → behind ≡ drop at rest → rest ≡ piece ++ behind → behind ≡ f ∷ after
    → (map lexeme rest ≡ map lexeme piece ++ comma ∷ map lexeme after) × (bracketed_behind false (map lexeme piece) ≡ Some false)
outer_cut_here rest piece behind after f at is front back whole split =
    let both : lexeme f ∷ map lexeme after ≡ comma ∷ map lexeme (drop (at + 1) rest) = ap (λ l. map lexeme l) (sym split ∙ back) ∙ is.cut in
    let sign : lexeme f ≡ comma = cc in
    let tail : map lexeme behind ≡ comma ∷ map lexeme after = ap (λ l. map lexeme l) split ∙ ap (λ x. x ∷ map lexeme after) sign in
    (ap (λ l. map lexeme l) whole ∙ map-append lexeme piece behind ∙ ap (λ l. map lexeme piece ++ l) tail, ap (λ l. bracketed_behind false (map lexeme l)) front ∙ is.before)

-- the tokens before the first comma outside brackets are a VEC
pub vectors_go :
    (tokens rest piece after : List Token) (old new : List (Vec PolyStep Global)) (shape next : Shape) (count : ℕ)
    → map lexeme rest ≡ map lexeme piece ++ comma ∷ map lexeme after → bracketed_behind false (map lexeme piece) ≡ Some false
    → IsReadingVectors tokens rest old shape → IsVectorPushed (map lexeme piece) old new (Ok count) → next ≡ further shape count → IsReadingVectors tokens after new next
vectors_go tokens rest piece after old new shape next count e outside h p f = record {
  done = h.done ++ p.0 ∷ [];
  steps_are = pushed_entries old new h.done p.0 h.steps_are p.2;
  shape_is = pushed_shape shape next count h.done p.0 h.shape_is f p.3;
  joins = λ more k. subst (λ l. AreVectors (map lexeme tokens) l) (sym (append_assoc h.done (p.0 ∷ []) more)) (h.joins (p.0 ∷ more) (put_first (map lexeme rest) (map lexeme piece) (map lexeme after) p.0 more e p.1 k));
  splits = λ all k.
      let s = h.splits all k in
      let c = outer_cut (map lexeme rest) (map lexeme piece) (map lexeme after) s.0 e outside s.2 in
      let same : c.first ≡ p.0 = one_vector (map lexeme piece) c.first p.0 c.reads p.1 in
      (c.others, s.1 ∙ ap (λ l. h.done ++ l) (c.are ∙ ap (λ x. x ∷ c.others) same) ∙ sym (append_assoc h.done (p.0 ∷ []) c.others), c.rest);
}

-- or the tokens are none, where it is none
pub vectors_fail :
    (tokens rest piece after : List Token) (old new : List (Vec PolyStep Global)) (shape : Shape) (stop : ReadStop)
    → map lexeme rest ≡ map lexeme piece ++ comma ∷ map lexeme after → bracketed_behind false (map lexeme piece) ≡ Some false
    → IsReadingVectors tokens rest old shape → IsVectorPushed (map lexeme piece) old new (Err stop) → AreVectorsRead (map lexeme tokens) (Err stop)
vectors_fail tokens rest piece after old new shape Memory e outside h p = tt
vectors_fail tokens rest piece after old new shape Syntax e outside h p = λ all k.
    let s = h.splits all k in
    let c = outer_cut (map lexeme rest) (map lexeme piece) (map lexeme after) s.0 e outside s.2 in
    p c.first c.reads

-- the same with the last VEC
pub vectors_end :
    (tokens rest : List Token) (old : List (Vec PolyStep Global)) (new : Vec (Vec PolyStep Global) Global) (shape next : Shape) (count : ℕ)
    → IsReadingVectors tokens rest old shape → IsVectorPushed (map lexeme rest) old new.items (Ok count) → next ≡ further shape count → AreVectorsRead (map lexeme tokens) (Ok (new, next))
vectors_end tokens rest old new shape next count h p f = (
  h.done ++ p.0 ∷ [],
  h.joins (p.0 ∷ []) p.1,
  pushed_entries old new.items h.done p.0 h.steps_are p.2,
  pushed_shape shape next count h.done p.0 h.shape_is f p.3,
)

pub vectors_end_not :
    (tokens rest : List Token) (old new : List (Vec PolyStep Global)) (shape : Shape) (stop : ReadStop) → ((b : Bool) × (bracketed_behind false (map lexeme rest) ≡ Some b))
    → IsReadingVectors tokens rest old shape → IsVectorPushed (map lexeme rest) old new (Err stop) → AreVectorsRead (map lexeme tokens) (Err stop)
vectors_end_not tokens rest old new shape Memory none h p = tt
vectors_end_not tokens rest old new shape Syntax none h p = λ all k.
    let s = h.splits all k in
    let o = outer_uncut (map lexeme rest) s.0 none s.2 in
    p o.0 o.2
