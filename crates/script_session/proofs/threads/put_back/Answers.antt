use Rattle.std.proofs.Common.{List, refl, subst}
use Rattle.site_shadow.specs.Site.{SiteValue}
use Rattle.station_jobs.specs.declared.log.SlaveLog.{SlaveLog}
use Rattle.station_jobs.specs.Ends.{Stay}
use Rattle.script_session.specs.Parts.{IsCount, issues_of}
use Rattle.script_session.proofs.threads.put_back.Goals as goal

pub returns-in-Err-clause-failed : goal.returns-in-Err-clause-failed
returns-in-Err-clause-failed g c =
    record { devices = c.put_together-put.result.1; desk = refl; tells_them = c.put_together-put.ensures.reported }

pub returns-in-Ok-clause-words : goal.returns-in-Ok-clause-words
returns-in-Ok-clause-words g c =
    let words = c.issues_of-words in
    subst (λ (l : List (Stay SiteValue SlaveLog)). IsCount (issues_of l) words.result) c.as_slice.ensures.value words.ensures
