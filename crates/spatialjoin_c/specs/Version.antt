-- The archive's version as a host gets it: one number.
use Rattle.std.specs.Prelude.{ℕ, ◌+◌, ◌*◌}

-- Major · 65,536 + minor · 256 + patch, of 0.15.1. (Ours.)
abbrev pub version : ℕ
version = 0 * 65536 + 15 * 256 + 1
