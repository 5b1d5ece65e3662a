-- What a dispatch's answer means for the reports of outcomes.
use Rattle.station_jobs.specs.declared.dispatch.Turn.{Turn}
use Rattle.station_jobs.specs.declared.dispatch.Turn.TheVariants.{Work, Again, Stop}

-- If no job is handed out, this holds.
abbrev pub IfNoWork : {J : Type 0} → Turn J → Type 0 → Type 0
IfNoWork (Work job) P = Unit {0}
IfNoWork Again P = P
IfNoWork Stop P = P
