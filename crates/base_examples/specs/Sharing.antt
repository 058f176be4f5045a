-- Three workers on (x^2, xy, y^2), where two pairs have one degree
use Rattle.std.specs.Prelude.{Bool, List, [], None, false, take, true, ℕ, ◌∷◌}
use Rattle.formal_sums.specs.FormalSums.{FormalSum}
use Rattle.base_examples.specs.Examples.{at, plane_setting, xy, y_squared}
use Rattle.base_examples.specs.Histories.{member_1}
use Rattle.queue_updates.specs.declared.Update.TheVariants.{Plain}
use Rattle.basis_steps.specs.States.{End, Ended, Event, Member, Put, Run, State, Take}

-- x^2
abbrev pub x_squared : FormalSum 2
x_squared = (at 0 2 0, 1) ∷ []

-- three workers, at most ten pairs
abbrev pub sharing : Run 2
sharing = record { setting = plane_setting; generators = x_squared ∷ (xy ∷ (y_squared ∷ [])); budget = 10; workers = 3; degree_limit = 65535; update = Plain }

-- x^2, the first generator
abbrev pub x_member : Member 2
x_member = record { vector = x_squared; multiple = (at 0 0 0, 1) ∷ []; products = [] }

-- y^2, the third generator
abbrev pub y_member : Member 2
y_member = record { vector = y_squared; multiple = (at 2 0 0, 1) ∷ []; products = [] }

-- the members, which stay
abbrev pub monomial_members : List (Member 2)
monomial_members = x_member ∷ (member_1 ∷ (y_member ∷ []))

-- the ten events: workers 0 and 1 share the two pairs of the least degree, and worker 2 finds nothing; both come back without rows
abbrev pub sharing_events : List (Event 2)
sharing_events =
    Take 0 ((0, 2) ∷ []) ((1, 2) ∷ [])
    ∷ (Take 1 [] ((0, 1) ∷ [])
    ∷ (Take 2 [] []
    ∷ (End 2 Ended
    ∷ (Put 1 []
    ∷ (Take 1 [] []
    ∷ (End 1 Ended
    ∷ (Put 0 []
    ∷ (Take 0 [] []
    ∷ (End 0 Ended
    ∷ [])))))))))

-- the state after the first k events, with these pairs queued and out, so many taken, and who has ended
abbrev pub sharing_state : ℕ → List (ℕ × ℕ) → List ((ℕ × ℕ) × ℕ) → ℕ → List Bool → State 2
sharing_state k queue out taken ended = record {
  members = monomial_members;
  queue = queue;
  dropped = [];
  out = out;
  taken = taken;
  ended = ended;
  stop = None;
  history = take k sharing_events;
}

-- nobody has ended
abbrev pub none : List Bool
none = false ∷ (false ∷ (false ∷ []))

-- all three have ended
abbrev pub all : List Bool
all = true ∷ (true ∷ (true ∷ []))
