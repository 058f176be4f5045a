use Rattle.std.proofs.Common.{arith, length, refl, subst, sym, take, ◌+◌, ◌-◌, ◌≡◌, ◌≤◌}
use Rattle.line_text.specs.declared.text.Run.{Run}
use Rattle.line_text.specs.Texts.{spread}
use Rattle.line_text.proofs.Cutting.{cut_bytes, cut_part, cut_run, end_is, last_length, none_end, runs_set, runs_split}
use Rattle.line_text.proofs.Runs.{last_within, length_spread}
use Rattle.line_text.proofs.text.LineText.shorten.Goals as goal

pub returns-in_default : goal.returns-in_default
returns-in_default c =
    let bytes = c.self.inside.bytes.items in
    let runs = c.self.inside.runs.items in
    let size : c.len-size.result ≡ length bytes = omega (arith, c.len-size.ensures, c.self.inside.bytes.ok.0) in
    let none = none_end runs (omega (arith, c.in_default.ensures, c.len.ensures, c.self.inside.runs.ok.0)) in
    let most : c.args.most ≤ length (spread bytes 0 runs) = subst (λ l. c.args.most ≤ length l) (sym c.self.view_is) c.requires.within in
    let long = length_spread bytes 0 runs c.self.invariant.0 in
    let cut =
    cut_bytes bytes runs (c.len-size.result - c.args.most) c.args.most c.self.invariant.0 (omega (arith, none.0)) (omega (arith, size, most, long, none.1, c.requires.some))
    (omega (arith, size, most, long, none.1)) in
    rw (c.truncate.ensures.items, ← c.self.view_is) cut.1

pub invariant_of-self-then-run-size : goal.invariant_of-self-then-run-size
invariant_of-self-then-run-size c =
    let bytes = c.self.inside.bytes.items in
    let runs = c.self.inside.runs.items in
    let size : c.len-size.result ≡ length bytes = omega (arith, c.len-size.ensures, c.self.inside.bytes.ok.0) in
    let last : length runs ≡ c.in-Some.last + 1 = omega (arith, c.in-Some.ensures, c.len.ensures, c.self.inside.runs.ok.0) in
    let end = end_is runs c.in-Some.last c.index-run.result.now last c.index-run.ensures in
    let cut =
    cut_bytes bytes runs (c.len-size.result - c.min.result) c.args.most c.self.invariant.0 (omega (arith, end, c.min.ensures, c.if-run-size.true))
    (omega (arith, size, c.min.ensures, c.if-run-size.true, c.requires.some)) (omega (arith, size, c.min.ensures, c.if-run-size.true)) in
    rw c.truncate-then-run-size.ensures.items (cut.0, c.self.invariant.1)

pub returns-then-run-size : goal.returns-then-run-size
returns-then-run-size c =
    let bytes = c.self.inside.bytes.items in
    let runs = c.self.inside.runs.items in
    let size : c.len-size.result ≡ length bytes = omega (arith, c.len-size.ensures, c.self.inside.bytes.ok.0) in
    let last : length runs ≡ c.in-Some.last + 1 = omega (arith, c.in-Some.ensures, c.len.ensures, c.self.inside.runs.ok.0) in
    let end = end_is runs c.in-Some.last c.index-run.result.now last c.index-run.ensures in
    let cut =
    cut_bytes bytes runs (c.len-size.result - c.min.result) c.args.most c.self.invariant.0 (omega (arith, end, c.min.ensures, c.if-run-size.true))
    (omega (arith, size, c.min.ensures, c.if-run-size.true, c.requires.some)) (omega (arith, size, c.min.ensures, c.if-run-size.true)) in
    rw (c.truncate-then-run-size.ensures.items, ← c.self.view_is) cut.1

pub overflow_sub-self : goal.overflow_sub-self
overflow_sub-self c =
    let runs = c.self.inside.runs.items in
    let last : length runs ≡ c.in-Some.last + 1 = omega (arith, c.in-Some.ensures, c.len.ensures, c.self.inside.runs.ok.0) in
    let all = last_length runs c.in-Some.last c.index-run.result.now last c.index-run.ensures in
    omega (arith, all, c.self.invariant.1)

pub invariant_of-self-then-from-most : goal.invariant_of-self-then-from-most
invariant_of-self-then-from-most c =
    let bytes = c.self.inside.bytes.items in
    let runs = c.self.inside.runs.items in
    let r = c.index-run.result.now in
    let size : c.len-size.result ≡ length bytes = omega (arith, c.len-size.ensures, c.self.inside.bytes.ok.0) in
    let last : length runs ≡ c.in-Some.last + 1 = omega (arith, c.in-Some.ensures, c.len.ensures, c.self.inside.runs.ok.0) in
    let split = runs_split runs c.in-Some.last r last c.index-run.ensures in
    let within = last_within 0 runs (length bytes) c.self.invariant.0 in
    let at = end_is runs c.in-Some.last r last c.index-run.ensures in
    let end : r.end ≡ length bytes = omega (arith, at, within.1, size, c.if-run-size.false) in
    let cut =
    cut_run bytes runs (take c.in-Some.last runs) r c.args.most split c.self.invariant.0 end (omega (arith, c.from.ensures, c.if-from-most.true)) in
    rw c.truncate-then-from-most.ensures.items (cut.0, omega (arith, cut.1, c.self.invariant.1))

pub overflow_sub-self-else-from-most : goal.overflow_sub-self-else-from-most
overflow_sub-self-else-from-most c =
    let runs = c.self.inside.runs.items in
    let last : length runs ≡ c.in-Some.last + 1 = omega (arith, c.in-Some.ensures, c.len.ensures, c.self.inside.runs.ok.0) in
    let all = last_length runs c.in-Some.last c.index-run.result.now last c.index-run.ensures in
    omega (arith, all, c.self.invariant.1, c.if-from-most.false, c.from.ensures)

pub invariant_of-self-else-from-most : goal.invariant_of-self-else-from-most
invariant_of-self-else-from-most c =
    let bytes = c.self.inside.bytes.items in
    let runs = c.self.inside.runs.items in
    let r = c.index-run.result.now in
    let size : c.len-size.result ≡ length bytes = omega (arith, c.len-size.ensures, c.self.inside.bytes.ok.0) in
    let last : length runs ≡ c.in-Some.last + 1 = omega (arith, c.in-Some.ensures, c.len.ensures, c.self.inside.runs.ok.0) in
    let split = runs_split runs c.in-Some.last r last c.index-run.ensures in
    let within = last_within 0 runs (length bytes) c.self.invariant.0 in
    let at = end_is runs c.in-Some.last r last c.index-run.ensures in
    let end : r.end ≡ length bytes = omega (arith, at, within.1, size, c.if-run-size.false) in
    let q : Run = record { end = r.end; length = r.length - c.args.most } in
    let cut =
    cut_part bytes runs (take c.in-Some.last runs) r q c.args.most split c.self.invariant.0 end refl (omega (arith, c.from.ensures, c.if-from-most.false))
    c.requires.some (omega (arith, c.from.ensures, c.if-from-most.false)) in
    rw (runs_set runs c.in-Some.last q last) (cut.0, omega (arith, cut.1, c.self.invariant.1))

pub returns-then-from-most : goal.returns-then-from-most
returns-then-from-most c =
    let bytes = c.self.inside.bytes.items in
    let runs = c.self.inside.runs.items in
    let r = c.index-run.result.now in
    let size : c.len-size.result ≡ length bytes = omega (arith, c.len-size.ensures, c.self.inside.bytes.ok.0) in
    let last : length runs ≡ c.in-Some.last + 1 = omega (arith, c.in-Some.ensures, c.len.ensures, c.self.inside.runs.ok.0) in
    let split = runs_split runs c.in-Some.last r last c.index-run.ensures in
    let within = last_within 0 runs (length bytes) c.self.invariant.0 in
    let at = end_is runs c.in-Some.last r last c.index-run.ensures in
    let end : r.end ≡ length bytes = omega (arith, at, within.1, size, c.if-run-size.false) in
    let cut =
    cut_run bytes runs (take c.in-Some.last runs) r c.args.most split c.self.invariant.0 end (omega (arith, c.from.ensures, c.if-from-most.true)) in
    rw (c.truncate-then-from-most.ensures.items, ← c.self.view_is) cut.2

pub returns-else-from-most : goal.returns-else-from-most
returns-else-from-most c =
    let bytes = c.self.inside.bytes.items in
    let runs = c.self.inside.runs.items in
    let r = c.index-run.result.now in
    let size : c.len-size.result ≡ length bytes = omega (arith, c.len-size.ensures, c.self.inside.bytes.ok.0) in
    let last : length runs ≡ c.in-Some.last + 1 = omega (arith, c.in-Some.ensures, c.len.ensures, c.self.inside.runs.ok.0) in
    let split = runs_split runs c.in-Some.last r last c.index-run.ensures in
    let within = last_within 0 runs (length bytes) c.self.invariant.0 in
    let at = end_is runs c.in-Some.last r last c.index-run.ensures in
    let end : r.end ≡ length bytes = omega (arith, at, within.1, size, c.if-run-size.false) in
    let q : Run = record { end = r.end; length = r.length - c.args.most } in
    let cut =
    cut_part bytes runs (take c.in-Some.last runs) r q c.args.most split c.self.invariant.0 end refl (omega (arith, c.from.ensures, c.if-from-most.false))
    c.requires.some (omega (arith, c.from.ensures, c.if-from-most.false)) in
    rw (runs_set runs c.in-Some.last q last, ← c.self.view_is) cut.2
