-- `plan` on a wire: what a run of the commands would do to the slaves as they were found.
use Rattle.std.specs.Prelude.{ℕ, List}
use Rattle.sii_edit.specs.declared.command.Command.{Command}
use Rattle.site_shadow.specs.Site.{SiteValue}
use Rattle.station_text.specs.declared.line_file.LineFile.{LineFile}
use Rattle.station_files.specs.Files.{Known}
use Rattle.station_files.specs.Locations.{Leads}
use Rattle.station_line.specs.declared.answered.Answered.{Answered}
use Rattle.station_line.specs.Validating.{IsRunSeparate}
use Rattle.station_line.specs.Site.{IsSiteOf}
use Rattle.station_plan.specs.Plan.{PlansSite}
use Rattle.wire_scan.specs.Keeping.{AreOfImages}
use Rattle.wire_scan.specs.Opening.{IsFound}
use Rattle.wire_scan.specs.declared.asked.Mend.{Mend}
use Rattle.wire_session.specs.Running.{BeginsWithMends}

-- The commands were planned on a site of slaves with these words and a journal with these bytes.
pub record PlansFound (plant : List (List ℕ)) (bytes : List ℕ) (commands : List Command) (answered : Answered) : Type 0 where
  pub site : SiteValue
  pub made : IsSiteOf plant bytes site
  pub plans : PlansSite site commands answered

-- The line was found, each slave has the words of its image file, but for what was said, the script was read, their files stand apart, and the commands were planned on the words that were found.
pub record PlansOnWire (said : List Mend) (leads : Leads) (files : Known) (name script : List ℕ) (answered : Answered) : Type 0 where
  pub line : LineFile
  pub plant : List (List ℕ)
  pub bytes : List ℕ
  pub found : IsFound files name line plant bytes
  pub kept : AreOfImages files line said bytes plant
  pub commands : List Command
  pub spelt : BeginsWithMends files line said bytes plant script commands
  pub separate : IsRunSeparate leads line name script
  pub plans : PlansFound plant bytes commands answered
