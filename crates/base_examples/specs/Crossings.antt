-- Two jobs out at once on (x^2 + y, xy, y^3 + x): the later one comes back first
use Rattle.std.specs.Prelude.{List, [], None, Some, false, take, true, ◌++◌, ◌∷◌}
use Rattle.formal_sums.specs.FormalSums.{FormalSum}
use Rattle.base_examples.specs.Examples.{at, membership_cofactors, plane_setting, square_plus, xy, y_squared}
use Rattle.base_examples.specs.Histories.{events, member_0, member_1, three_members}
use Rattle.queue_updates.specs.declared.Update.TheVariants.{Plain}
use Rattle.basis_steps.specs.States.{Event, Member, Pairs, Put, Run, State, Take}

-- y^3 + x
abbrev pub cubic : FormalSum 2
cubic = (at 0 0 3, 1) ∷ ((at 0 1 0, 1) ∷ [])

-- y
abbrev pub only_y : FormalSum 2
only_y = (at 0 0 1, 1) ∷ []

-- two workers, at most ten pairs
abbrev pub crossing : Run 2
crossing = record { setting = plane_setting; generators = square_plus ∷ (xy ∷ (cubic ∷ [])); budget = 10; workers = 2; degree_limit = 65535; update = Plain }

-- y^3 + x, the third generator
abbrev pub cubic_member : Member 2
cubic_member = record { vector = cubic; multiple = (at 2 0 0, 1) ∷ []; products = [] }

-- y = (x^2 + y) + y^2 (xy) - x (y^3 + x)
abbrev pub y_member : Member 2
y_member = record { vector = only_y; multiple = []; products = (at 0 0 0, 1) ∷ ((at 1 0 2, 1) ∷ ((at 2 1 0, 100) ∷ [])) }

-- y^2 = y (x^2 + y) - x (xy)
abbrev pub square_row : Member 2
square_row = record { vector = y_squared; multiple = []; products = membership_cofactors }

-- the members of the generators
abbrev pub old_members : List (Member 2)
old_members = member_0 ∷ (member_1 ∷ (cubic_member ∷ []))

-- with y behind them
abbrev pub new_members : List (Member 2)
new_members = member_0 ∷ (member_1 ∷ (cubic_member ∷ (y_member ∷ [])))

-- the four events: both workers take a job, while (0, 2) is skipped; worker 1 hands in y; worker 0 hands in y^2, which y divides
abbrev pub crossing_events : List (Event 2)
crossing_events =
    Take 0 ((0, 2) ∷ []) ((0, 1) ∷ [])
    ∷ (Take 1 [] ((1, 2) ∷ [])
    ∷ (Put 1 (y_member ∷ [])
    ∷ (Put 0 []
    ∷ [])))

-- the state at the beginning: three members, and their pairs by the degrees of the lcms
abbrev pub crossing_first : State 2
crossing_first = record {
  members = old_members;
  queue = (0, 1) ∷ ((1, 2) ∷ ((0, 2) ∷ []));
  dropped = [];
  out = [];
  taken = 0;
  ended = false ∷ (false ∷ []);
  stop = None;
  history = [];
}

-- one job is out
abbrev pub crossing_1 : State 2
crossing_1 = record {
  members = old_members;
  queue = (1, 2) ∷ [];
  dropped = [];
  out = ((0, 1), 0) ∷ [];
  taken = 1;
  ended = false ∷ (false ∷ []);
  stop = None;
  history = take 1 crossing_events;
}

-- both jobs are out
abbrev pub crossing_2 : State 2
crossing_2 = record {
  members = old_members;
  queue = [];
  dropped = [];
  out = ((0, 1), 0) ∷ (((1, 2), 1) ∷ []);
  taken = 2;
  ended = false ∷ (false ∷ []);
  stop = None;
  history = take 2 crossing_events;
}

-- y is a member, and its pairs are queued
abbrev pub crossing_3 : State 2
crossing_3 = record {
  members = new_members;
  queue = (1, 3) ∷ ((2, 3) ∷ ((0, 3) ∷ []));
  dropped = [];
  out = ((0, 1), 0) ∷ [];
  taken = 2;
  ended = false ∷ (false ∷ []);
  stop = None;
  history = take 3 crossing_events;
}

-- y^2 made no member, and nothing is out
abbrev pub crossing_last : State 2
crossing_last = record {
  members = new_members;
  queue = (1, 3) ∷ ((2, 3) ∷ ((0, 3) ∷ []));
  dropped = [];
  out = [];
  taken = 2;
  ended = false ∷ (false ∷ []);
  stop = None;
  history = crossing_events;
}

-- the run on (x^2 + y, xy) with a budget of one pair
abbrev pub one_pair : Run 2
one_pair = record { setting = plane_setting; generators = square_plus ∷ (xy ∷ []); budget = 1; workers = 2; degree_limit = 65535; update = Plain }

-- the budget is met while the pair (1, 2) is queued
abbrev pub budget_met : State 2
budget_met = record {
  members = three_members;
  queue = (1, 2) ∷ [];
  dropped = [];
  out = [];
  taken = 1;
  ended = false ∷ (true ∷ []);
  stop = Some Pairs;
  history = take 4 events ++ (Take 0 ((0, 2) ∷ []) [] ∷ []);
}
