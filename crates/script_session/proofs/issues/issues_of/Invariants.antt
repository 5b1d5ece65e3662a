use Rattle.std.proofs.Common.{take}
use Rattle.script_session.specs.Parts.{IsCount, issues_of}
use Rattle.script_session.proofs.issues.issues_of.Given as goal

abbrev pub invariant-loop-place : goal.invariant-loop-place
invariant-loop-place g l = IsCount (issues_of (take l.place l.workers)) l.words
