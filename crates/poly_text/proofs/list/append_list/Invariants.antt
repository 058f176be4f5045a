use Rattle.std.proofs.Common.{◌≡◌, ◌++◌, take}
use Rattle.poly_text.specs.Texts.{list_text, names_of}
use Rattle.poly_text.proofs.list.append_list.Given as goal

abbrev pub invariant-loop-v : goal.invariant-loop-v
invariant-loop-v l = l.out ≡ l.initial.out ++ list_text (names_of l.ring) l.rank (take l.v-index l.vectors)
