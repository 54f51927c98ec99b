-- The version of the library.
use Rattle.std.specs.Prelude.{ℕ, ◌+◌, ◌*◌}

-- A version by its three numbers, the last two below 256.
abbrev pub version_of : ℕ → ℕ → ℕ → ℕ
version_of major minor patch = major * 65536 + minor * 256 + patch

-- This is 0.6.0.
unfoldable pub version : ℕ
version = version_of 0 6 0
