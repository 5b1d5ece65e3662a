-- A site at each time of its clock: before each past call, and now.
use Rattle.std.specs.Prelude.{◌≡◌, ℕ, ◌+◌, ◌<◌, List, ◌++◌, slice_get, unwrap_or}
use Rattle.std.specs.Option.{option_map}
use Rattle.site_core.specs.State.{State, Moment, Seen, clock}

-- The state at a time, and the number of faults by then.
pub record Instant : Type 0 where
  pub state : State
  pub faults : ℕ

-- the site just before a past call
abbrev pub instant_of : Moment → Instant
instant_of moment = record { state = moment.before; faults = moment.faults }

-- the site now
abbrev pub now_of : Seen → Instant
now_of seen = record { state = seen.state; faults = seen.faults }

-- The site just before the call at this time, or as it is now if there was no such call.
abbrev pub instant_at : Seen → ℕ → Instant
instant_at seen time = unwrap_or (option_map instant_of (slice_get seen.past time)) (now_of seen)

-- The call at this time failed with `Disk` or `Lost`: the number of faults rose.
abbrev pub FailsAt : Seen → ℕ → Type 0
FailsAt seen time = (instant_at seen time).faults < (instant_at seen (time + 1)).faults

-- Zero or more calls in a row led from `old` to `new`.
pub record Follows (old new : Seen) : Type 0 where
  pub calls : List Moment
  pub past : new.past ≡ old.past ++ calls
  pub goes_on : instant_at new (clock old) ≡ now_of old
