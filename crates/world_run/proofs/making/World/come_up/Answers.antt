use Rattle.std.proofs.Common.{◌≡◌, ◌∙◌, sym, ap, subst}
use Rattle.std.specs.List.{AllByRecursion}
use Rattle.jrn_format.specs.Journal.{IsJournal}
use Rattle.esc_model.specs.WordAccess.{IsIdle}
use Rattle.book_model.specs.Entries.{sizes_of}
use Rattle.book_model.specs.Opening.{words_in, book_on}
use Rattle.world_law.specs.World.{World}
use Rattle.world_law.specs.Happenings.{CanOpen}
use Rattle.world_run.specs.Torn.{disk_of}
use Rattle.world_run.proofs.EventLaws.{seen}
use Rattle.world_run.proofs.OpenLaws.{opens}
use Rattle.world_run.proofs.making.World.come_up.Goals as goal

pub returns : goal.returns
returns c =
    let now : World = record { book = c.self.inside.station; state = record { disk = disk_of c.self.inside.disk; halves = c.self.inside.line.halves }; took = c.self.inside.line.took } in
    let journal = c.args.journal in
    let same = sym c.self.view_is in
    let can : CanOpen now.book = subst (λ (w : World). CanOpen w.book) same c.requires.can in
    let idle : AllByRecursion IsIdle now.state.halves = subst (λ (w : World). AllByRecursion IsIdle w.state.halves) same c.requires.idle in
    let found : IsJournal now.state.disk.bytes (sizes_of (words_in now.state.halves)) journal = subst (λ (w : World). IsJournal w.state.disk.bytes (sizes_of (words_in w.state.halves)) journal) same c.requires.journal in
    let station : c.in_ok-station.station ≡ book_on now.state journal = c.in_ok-station.ensures ∙ ap (λ (w : World). book_on w.state journal) same in
    rw c.set_station.ensures (seen _ now _ _ c.self.view_is (opens now journal c.in_ok-station.station (disk_of c.sync.new.self) can idle found station c.sync.ensures))
