-- Threads that were started, and their ends.
use Rattle.std.specs.Prelude.{◌≡◌, ℕ, List, Option, Some, None, Result, MatchResult}
use Rattle.std.specs.List.{AllZip}
use Rattle.std.specs.declared.thread.PromisedHandle.{PromisedHandle}
use Rattle.station_jobs.specs.declared.log.SlaveLog.{SlaveLog}
use Rattle.station_jobs.specs.Ends.{Stay}
use Rattle.station_threads.specs.declared.starting.Since.{Since}
use Rattle.station_threads.specs.declared.starting.SinceOf.{SinceOf}
use Rattle.station_threads.specs.Parts.{IsEndOfSlave}
use Rattle.station_threads.specs.Places.{AllPlaced}

-- ---- the disk, and the process data

-- A thread with what it promised of its end. If no thread could be created, the end of the work itself.
abbrev pub Started : Type 0 → Type 0 → Type 0
Started S L = Result (PromisedHandle (Stay S L) (Since S)) (Stay S L)

-- The work was started with this site.
abbrev pub IsStarted : {S L : Type 0} → S → Started S L → Type 0
IsStarted site started = MatchResult started (λ handle. handle.promise.site.value ≡ site) (λ end. end.start ≡ site)

-- This is the end of what was started.
abbrev pub ComesTo : {S L : Type 0} → Started S L → Stay S L → Type 0
ComesTo started end = MatchResult started (λ handle. end.start ≡ handle.promise.site.value) (λ ended. end ≡ ended)

-- The process data was started exactly where there is a site for it,
abbrev pub IsTurning : {S L : Type 0} → Option S → Option (Started S L) → Type 0
IsTurning None None = Unit {0}
IsTurning (Some site) (Some started) = IsStarted site started
IsTurning site started = ⊥

-- and has an end exactly where it was started.
abbrev pub TurnsInto : {S L : Type 0} → Option (Started S L) → Option (Stay S L) → Type 0
TurnsInto None None = Unit {0}
TurnsInto (Some started) (Some end) = ComesTo started end
TurnsInto started end = ⊥

-- ---- the slaves

-- a slave's thread, or the end of its work
abbrev pub Worker : Type 0 → Type 0
Worker S = Result (PromisedHandle (Stay S SlaveLog) (SinceOf S)) (Stay S SlaveLog)

-- The worker is this slave's, and was started with this site.
abbrev pub IsWorkerOf : {S : Type 0} → ℕ → S → Worker S → Type 0
IsWorkerOf slave site worker =
    MatchResult worker (λ handle. (handle.promise.slave ≡ slave) × (handle.promise.site.value ≡ site)) (λ end. IsEndOfSlave slave site end)

-- one worker for each slave's site, in order
abbrev pub AreWorkersOf : {S : Type 0} → List S → List (Worker S) → Type 0
AreWorkersOf {S} sites workers = AllPlaced (λ slave (site : S) (worker : Worker S). IsWorkerOf slave site worker) 0 sites workers

-- This is the worker's end.
abbrev pub EndsAs : {S : Type 0} → Worker S → Stay S SlaveLog → Type 0
EndsAs worker end = MatchResult worker (λ handle. IsEndOfSlave handle.promise.slave handle.promise.site.value end) (λ ended. end ≡ ended)

-- one end for each worker, in order
abbrev pub EndAs : {S : Type 0} → List (Worker S) → List (Stay S SlaveLog) → Type 0
EndAs {S} workers ends = AllZip (λ (worker : Worker S) (end : Stay S SlaveLog). EndsAs worker end) workers ends
