use Rattle.std.proofs.Common.{List, ap, codes, sym, ℕ, ◌++◌, ◌∙◌, ◌≡◌}
use Rattle.script_parse.specs.declared.kind.Kind.{Kind}
use Rattle.script_parse.specs.declared.kind.Kind.TheVariants as kind
use Rattle.session_top.specs.declared.early.Refusal.{Refusal}
use Rattle.session_top.specs.declared.early.Refusal.TheVariants.{OfLine}
use Rattle.session_top.specs.Meaning.{refusal_word}
use Rattle.session_top.proofs.lines.error_end.Goals as goal

-- the end of the line for a refusal
abbrev end_of : Refusal → List ℕ
end_of refusal = codes " " ++ refusal_word refusal ++ codes "\n"

-- it is that of a line's kind
of_line : (refusal : Refusal) (some kind : Kind) → refusal ≡ OfLine some → some ≡ kind → end_of (OfLine kind) ≡ end_of refusal
of_line refusal some kind is same = ap end_of (sym (is ∙ ap OfLine same))

pub returns-in-OfLine-Syntax : goal.returns-in-OfLine-Syntax
returns-in-OfLine-Syntax c = of_line _ _ kind.Syntax c.in-OfLine-Syntax.is (rw c.in-OfLine-Syntax.is at c.in-OfLine-Syntax.field-0-is)

pub returns-in-OfLine-Numeral : goal.returns-in-OfLine-Numeral
returns-in-OfLine-Numeral c = of_line _ _ kind.Numeral c.in-OfLine-Numeral.is (rw c.in-OfLine-Numeral.is at c.in-OfLine-Numeral.field-0-is)

pub returns-in-OfLine-Ring : goal.returns-in-OfLine-Ring
returns-in-OfLine-Ring c = of_line _ _ kind.Ring c.in-OfLine-Ring.is (rw c.in-OfLine-Ring.is at c.in-OfLine-Ring.field-0-is)

pub returns-in-OfLine-Modulus : goal.returns-in-OfLine-Modulus
returns-in-OfLine-Modulus c = of_line _ _ kind.Modulus c.in-OfLine-Modulus.is (rw c.in-OfLine-Modulus.is at c.in-OfLine-Modulus.field-0-is)

pub returns-in-OfLine-Name : goal.returns-in-OfLine-Name
returns-in-OfLine-Name c = of_line _ _ kind.Name c.in-OfLine-Name.is (rw c.in-OfLine-Name.is at c.in-OfLine-Name.field-0-is)

pub returns-in-OfLine-OfKind : goal.returns-in-OfLine-OfKind
returns-in-OfLine-OfKind c = of_line _ _ kind.OfKind c.in-OfLine-OfKind.is (rw c.in-OfLine-OfKind.is at c.in-OfLine-OfKind.field-0-is)

pub returns-in-OfLine-Rank : goal.returns-in-OfLine-Rank
returns-in-OfLine-Rank c = of_line _ _ kind.Rank c.in-OfLine-Rank.is (rw c.in-OfLine-Rank.is at c.in-OfLine-Rank.field-0-is)

pub returns-in-OfLine-Degree : goal.returns-in-OfLine-Degree
returns-in-OfLine-Degree c = of_line _ _ kind.Degree c.in-OfLine-Degree.is (rw c.in-OfLine-Degree.is at c.in-OfLine-Degree.field-0-is)

pub returns-in-OfLine-Leads : goal.returns-in-OfLine-Leads
returns-in-OfLine-Leads c = of_line _ _ kind.Leads c.in-OfLine-Leads.is (rw c.in-OfLine-Leads.is at c.in-OfLine-Leads.field-0-is)

pub returns-in-OfLine-Large : goal.returns-in-OfLine-Large
returns-in-OfLine-Large c = of_line _ _ kind.Large c.in-OfLine-Large.is (rw c.in-OfLine-Large.is at c.in-OfLine-Large.field-0-is)

pub returns-in-OfLine-Infinite : goal.returns-in-OfLine-Infinite
returns-in-OfLine-Infinite c = of_line _ _ kind.Infinite c.in-OfLine-Infinite.is (rw c.in-OfLine-Infinite.is at c.in-OfLine-Infinite.field-0-is)

pub returns-in-OfLine-Homogeneous : goal.returns-in-OfLine-Homogeneous
returns-in-OfLine-Homogeneous c = of_line _ _ kind.Homogeneous c.in-OfLine-Homogeneous.is (rw c.in-OfLine-Homogeneous.is at c.in-OfLine-Homogeneous.field-0-is)

pub returns-in-OfLine-Many : goal.returns-in-OfLine-Many
returns-in-OfLine-Many c = of_line _ _ kind.Many c.in-OfLine-Many.is (rw c.in-OfLine-Many.is at c.in-OfLine-Many.field-0-is)

pub returns-in-Length : goal.returns-in-Length
returns-in-Length c = ap end_of (sym c.in-Length.is)
