-- How many tokens a reading takes at most.
use Rattle.std.specs.Prelude.{ℕ}

abbrev pub max_tokens : ℕ
max_tokens = 4096
