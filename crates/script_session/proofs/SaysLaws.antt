-- What is said of a run by one says another, too.
use Rattle.std.proofs.Common.{◌≡◌, Bool, true, false, List, [], Result, Ok, Err}
use Rattle.sii_edit.specs.declared.command.Command.{Command}
use Rattle.site_core.specs.State.{Seen}
use Rattle.site_shadow.specs.Site.{SiteValue}
use Rattle.site_shadow.specs.Unsynced.{of_bytes}
use Rattle.station_alone.specs.Station.{Station}
use Rattle.station_files.specs.declared.faults.Fault.{Fault}
use Rattle.script_session.specs.declared.closing.Ending.{Ending}
use Rattle.script_session.specs.AtDesk.{DeskServes, PartsEnd, ServesParts}
use Rattle.script_session.specs.Running.{DeskGoes, GoesAfter, GoesAlone, RunGoes, Says}
use Rattle.script_session.specs.Running.{unbegun, idle, separate, served, unopened, opened, unrecovered, recovered}

-- the parts of a line that a desk has served
abbrev pub parts_of : (station : Station) (commands : List Command) (ending : Ending) → DeskServes station commands ending → PartsEnd station
parts_of station commands ending desk = record { sites = desk.sites; separate = desk.separate; ends = desk.ends; of_sites = desk.of_sites }

-- What is said of a run from this site on by the one is said by the other. If one failure is told, the other is.
module _ (says other : Says) (Failed Told : Type 0) (tells_it : Failed → Told) (none_begun : says.unbegun → other.unbegun) (before : Seen)
    (began : before.past ≡ []) (opening : (now : Seen) → says.opening before now → other.opening before now)
    (after : (left now : Seen) → left.past ≡ [] → says.after left now → other.after left now)
    (serving : (commands : List Command) (left now : Seen) → left.past ≡ [] → says.serving commands left now → other.serving commands left now)
    (parts : (station : Station) → says.opening before station.seen → station.seen.state.disk ≡ of_bytes station.seen.state.disk.bytes
    → (ended : PartsEnd station) → says.parts station ended.ends → other.parts station ended.ends)
    (desk : (station : Station) → says.opening before station.seen → station.seen.state.disk ≡ of_bytes station.seen.state.disk.bytes
    → (commands : List Command) (ending : Ending) (site : SiteValue) (sound : Result (Unit {0}) Fault) (ended : ServesParts station commands ending site)
    → says.desk station sound ended.desk.ends site → other.desk station sound ended.desk.ends site) where
  alone_as : (commands : List Command) (left : Seen) → left.past ≡ [] → GoesAlone says commands left Failed → GoesAlone other commands left Told
  alone_as commands left new (unrecovered last stage failed) = unrecovered last (after left last new stage) (tells_it failed)
  alone_as commands left new (recovered accepted last among serves) = recovered accepted last among (serving accepted left last new serves)

  after_as : (is_driven : Bool) (sound : Result (Unit {0}) Fault) (commands : List Command) (left : Seen) → left.past ≡ []
      → GoesAfter says is_driven sound commands left Failed → GoesAfter other is_driven sound commands left Told
  after_as true (Ok done) commands left new goes = (goes.0, after left goes.0 new goes.1)
  after_as false (Ok done) commands left new goes = alone_as commands left new goes
  after_as true (Err fault) commands left new failed = tells_it failed
  after_as false (Err fault) commands left new failed = tells_it failed

  desk_as : (station : Station) → says.opening before station.seen → station.seen.state.disk ≡ of_bytes station.seen.state.disk.bytes
      → (commands : List Command) → DeskGoes says station commands Failed → DeskGoes other station commands Told
  desk_as station stage synced commands (unbegun none failed) = unbegun (none_begun none) (tells_it failed)
  desk_as station stage synced commands (idle ended none tell failed) = idle ended none (parts station stage synced ended tell) (tells_it failed)
  desk_as station stage synced commands (separate ending ended tell failed) =
      separate ending ended (parts station stage synced (parts_of station commands ending ended) tell) (tells_it failed)
  desk_as station stage synced commands (served ending site sound ended tell closes) =
      served ending site sound ended (desk station stage synced commands ending site sound ended tell)
      (λ closed. after_as ending.is_driven sound commands site.seen ended.together.new (closes closed))

  pub run_as : (commands : List Command) → RunGoes says before commands Failed → RunGoes other before commands Told
  run_as commands (unopened last stage none failed) = unopened last (opening last stage) (none_begun none) (tells_it failed)
  run_as commands (opened station stage synced goes) = opened station (opening station.seen stage) synced (desk_as station stage synced commands goes)

-- the same is said, and another failure is told
pub fails_as : (says : Says) (Failed Told : Type 0) → (Failed → Told) → (before : Seen) (commands : List Command) → before.past ≡ []
    → RunGoes says before commands Failed → RunGoes says before commands Told
fails_as says Failed Told tells_it before commands began goes =
    run_as says says Failed Told tells_it (λ none. none) before began (λ now stage. stage) (λ left now new stage. stage) (λ accepted left now new serves. serves)
    (λ station stage synced ended tell. tell) (λ station stage synced accepted ending site sound ended tell. tell) commands goes
