-- The limits of boards.
use Rattle.std.specs.Prelude.{ℕ}

-- the most seats, and runs, that a board has
abbrev pub seat_limit : ℕ
seat_limit = 256

-- how many sites a site board has
abbrev pub site_count : ℕ
site_count = 8

-- the most tellings that a delay layer holds back
abbrev pub held_limit : ℕ
held_limit = 64
