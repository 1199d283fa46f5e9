-- How many agents and objects a made problem may have.
use Rattle.std.specs.Prelude.{◌≡◌, ◌<◌, ◌⊎◌, ℕ}

-- not 1 to 1,000 agents, or not 1 to 200 objects
abbrev pub IsOutside : ℕ → ℕ → Type 0
IsOutside agents objects =
    (agents ≡ 0) ⊎ ((1000 < agents) ⊎ ((objects ≡ 0) ⊎ (200 < objects)))
