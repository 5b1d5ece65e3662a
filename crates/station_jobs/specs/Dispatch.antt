-- The log of a dispatch, as jobs are handed out and their outcomes reported.
use Rattle.std.specs.Prelude.{List, [], ◌∷◌, Some}
use Rattle.station_jobs.specs.declared.dispatch.Turn.{Turn}
use Rattle.station_jobs.specs.declared.dispatch.Turn.TheVariants.{Work, Again, Stop}
use Rattle.station_jobs.specs.declared.log.Assignment.{Assignment}

-- the log after this answer: a job that is handed out is added, and nothing else
abbrev pub log_after : {L J : Type 0} → (L → J → L) → L → Turn J → L
log_after handed log (Work job) = handed log job
log_after handed log Again = log
log_after handed log Stop = log

-- If a job is handed out, this holds of it.
abbrev pub IfWork : {J : Type 0} → Turn J → (J → Type 0) → Type 0
IfWork (Work job) P = P job
IfWork Again P = Unit {0}
IfWork Stop P = Unit {0}

-- If there is no job, now or later, this holds.
abbrev pub IfStop : {J : Type 0} → Turn J → Type 0 → Type 0
IfStop (Work job) P = Unit {0}
IfStop Again P = Unit {0}
IfStop Stop P = P

-- the log with this outcome of its last job
abbrev pub with_outcome : {J O : Type 0} → List (Assignment J O) → O → List (Assignment J O)
with_outcome [] outcome = []
with_outcome (last ∷ []) outcome = record last { outcome = Some outcome } ∷ []
with_outcome (first ∷ next ∷ jobs) outcome = first ∷ with_outcome (next ∷ jobs) outcome
