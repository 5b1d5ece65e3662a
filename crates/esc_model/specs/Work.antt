-- How the activity of a half is represented in memory.
use Rattle.std.specs.Prelude.{ℕ, ◌<◌, List, length}
use Rattle.esc_model.specs.SlaveHalf.{Activity, Idle, Reading, Writing}
use Rattle.esc_model.specs.declared.work.Work.{Work}
use Rattle.esc_model.specs.declared.work.Work.TheVariants as work

-- The number of datagrams that are left is no part of the activity.
abbrev pub activity_of : Work → Activity
activity_of work.Idle = Idle
activity_of (work.Reading left) = Reading
activity_of (work.Writing write left) = Writing write.word write.value

-- A word in flight is one of these words.
abbrev pub IsInside : Work → List ℕ → Type 0
IsInside work.Idle words = Unit {0}
IsInside (work.Reading left) words = Unit {0}
IsInside (work.Writing write left) words = write.word < length words
