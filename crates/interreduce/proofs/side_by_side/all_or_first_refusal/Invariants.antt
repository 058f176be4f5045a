use Rattle.std.proofs.Common.{Ok, length, map, ◌++◌, ◌+◌, ◌≡◌, ◌≤◌}
use Rattle.std.specs.Vec.{vec_capacity, vec_len}
use Rattle.interreduce.proofs.side_by_side.all_or_first_refusal.Given as goal

-- the answers are the members so far and those that are left
abbrev pub invariant-loop-answer : goal.invariant-loop-answer
invariant-loop-answer l = record {
  answers : l.fn.answers.items ≡ map Ok l.members.items ++ l.answer-iterator.rest.items;
  room : vec_len l.members + length l.answer-iterator.rest.items ≤ vec_capacity l.members;
}
