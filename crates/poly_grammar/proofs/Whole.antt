-- Reading and the grammar
use Rattle.std.proofs.Common.{◌≡◌, true, false, List, Vec, Global, Result, Ok, Err, ap, sym, ◌∙◌}
use Rattle.poly_grammar.specs.declared.step.PolyStep.{PolyStep}
use Rattle.poly_grammar.specs.declared.stop.ReadStop.{ReadStop}
use Rattle.poly_grammar.specs.declared.stop.ReadStop.TheVariants.{Memory, Syntax}
use Rattle.poly_grammar.specs.Lexemes.{Lexeme}
use Rattle.poly_grammar.specs.Answers.{IsPolyOf}
use Rattle.poly_grammar.specs.Machine.{Gives}
use Rattle.poly_grammar.specs.Reading.{nests, outcome, start_state}
use Rattle.poly_grammar.specs.Trees.{Poly, Reads}
use Rattle.poly_grammar.proofs.Complete.{spelling_is_read}
use Rattle.poly_grammar.proofs.Nesting.{nests_is_depth}
use Rattle.poly_grammar.proofs.Sound.{read_is_spelled}

pub is_poly : (xs : List Lexeme) (r : Result (Vec PolyStep Global) ReadStop) → nests 0 xs ≡ true → Gives (λ found. found.items) r (outcome xs start_state) → IsPolyOf xs r
is_poly xs (Ok found) nested h =
    let r = read_is_spelled xs found.items h in
    let again = spelling_is_read r.0 in
    let same = ap (λ l. outcome l start_state) r.1 in
    let is_read = h in
    (r.0, record { spelled = r.1; shallow = (nests_is_depth r.0).0 (ap (nests 0) (sym r.1) ∙ nested) }, cc)
is_poly xs (Err Memory) nested h = tt
is_poly xs (Err Syntax) nested h = λ p reads. let again = spelling_is_read p in let same = ap (λ l. outcome l start_state) reads.spelled in absurd cc

pub too_deep : (xs : List Lexeme) → nests 0 xs ≡ false → (p : Poly) → Reads xs p → ⊥
too_deep xs e p reads = let n = (nests_is_depth p).1 reads.shallow in let same = ap (nests 0) reads.spelled in absurd cc
