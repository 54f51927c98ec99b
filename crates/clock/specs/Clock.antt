-- Moments on the clock and spans of seconds. Document 01 keeps them apart in every record; their types do here.
use Rattle.std.specs.Prelude.{ℕ, ◌+◌, ◌-◌, min, Bool, cond, ◌||◌, ltb, leb, eqb}
use Rattle.clock.specs.declared.Moment.{Moment}
use Rattle.clock.specs.declared.Span.{Span}

abbrev pub moment : ℕ → Moment
moment n = record { 0 = n }

abbrev pub span : ℕ → Span
span n = record { 0 = n }

-- Document 01, "Sources and what the box does": moments run from 0 to 2^48 - 1.
abbrev pub latest : ℕ
latest = 281474976710655

-- The number that says never where a moment is an expiry, 2^64 - 1: it is no moment of the clock.
abbrev pub never : ℕ
never = 18446744073709551615

-- Document 01, "Server list" and "Lease table and queries": the span that says never, 2^32 - 1.
abbrev pub endless : ℕ
endless = 4294967295

abbrev pub is_never : Moment → Bool
is_never m = eqb m.0 never

abbrev pub is_moment : Moment → Bool
is_moment m = leb m.0 latest

-- An expiry is a moment or never.
unfoldable pub is_expiry : Moment → Bool
is_expiry m = is_never m || is_moment m

-- Document 01, "Server list": what ends at a moment is past when that moment is less than now.
abbrev pub is_past : Moment → Moment → Bool
is_past end clock = ltb end.0 clock.0

-- Document 01, "Lease table and queries": a lease runs while its expiry is never or later than now.
unfoldable pub is_ahead : Moment → Moment → Bool
is_ahead expiry clock = is_never expiry || ltb clock.0 expiry.0

-- Document 01, "Server list", and document 02, b): now and a span, at most the latest moment.
unfoldable pub moment_after : Moment → Span → Moment
moment_after clock after = moment (min (clock.0 + after.0) latest)

-- Document 01, "Server list": now and the Lifetime, at most the latest moment; never for the Lifetime of all ones.
unfoldable pub expiry_after : Moment → Span → Moment
expiry_after clock lifetime = cond (eqb lifetime.0 endless) (moment never) (moment_after clock lifetime)

-- Document 01, "Lease table and queries", option 51: seconds to expiry, one less than all ones at most; all ones for never.
unfoldable pub seconds_left : Moment → Moment → Span
seconds_left expiry clock = cond (is_never expiry) (span endless) (span (min (expiry.0 - clock.0) 4294967294))

-- Document 01, "Lease table and queries", option 91: seconds since the last transaction, 0 if that is later than now, all ones at most.
unfoldable pub seconds_since : Moment → Moment → Span
seconds_since last clock = span (min (clock.0 - last.0) 4294967295)
