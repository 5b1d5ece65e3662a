use Rattle.std.proofs.Common.{◌≡◌, ◌∙◌, true, false, Option, Some, None, sym, ap}
use Rattle.book_model.specs.Book.{Book}
use Rattle.world_law.specs.World.{World}
use Rattle.world_run.specs.Torn.{disk_of}
use Rattle.site_core.specs.Disk.{Disk}
use Rattle.book_model.specs.Events.{begun_on}
use Rattle.book_model.specs.declared.next.DiskNext.{DiskNext}
use Rattle.std.specs.Option.{option_copied}
use Rattle.world_run.specs.Progress.{handed_out}
use Rattle.world_run.proofs.EventLaws.{seen, waits, begins-action}
use Rattle.world_run.proofs.making.World.begin_action.Goals as goal

pub returns-then-is_some : goal.returns-then-is_some
returns-then-is_some c =
    let now : World = record { book = c.self.inside.station; state = record { disk = disk_of c.self.inside.disk; halves = c.self.inside.line.halves }; took = c.self.inside.line.took } in
    let out : c.in-Some.station.is_handed_out ≡ true = sym c.action.ensures.out ∙ sym c.is_some.ensures ∙ c.if-is_some.true in
    seen _ now _ _ c.self.view_is (waits now _ c.in-Some.station c.in-Some.is out
    (ap (λ (b : Option Book). record { book = b; state = record now.state { disk = disk_of c.reserve.new.self }; took = now.took }) (sym c.in-Some.is) ∙ ap (λ (d : Disk). record now { state = record now.state { disk = d } }) c.reserve.ensures.same))

pub returns-in-Some-action : goal.returns-in-Some-action
returns-in-Some-action c =
    let now : World = record { book = c.self.inside.station; state = record { disk = disk_of c.self.inside.disk; halves = c.self.inside.line.halves }; took = c.self.inside.line.took } in
    let out : c.in-Some.station.is_handed_out ≡ false = sym c.action.ensures.out ∙ sym c.is_some.ensures ∙ c.if-is_some.false in
    let action = c.in-Some-action.action.now in
    let given : Some action ≡ handed_out c.begin_action.new.self = sym (ap option_copied c.in-Some-action.is) ∙ c.action-2.ensures.action in
    let disk : disk_of c.begin.new.self ≡ begun_on (handed_out c.begin_action.new.self) now.state.disk =
    c.begin.ensures ∙ ap (begun_on (Some action)) c.reserve.ensures.same ∙ ap (λ (a : Option DiskNext). begun_on a now.state.disk) given in
    seen _ now _ _ c.self.view_is (begins-action now c.in-Some.station c.begin_action.new.self (disk_of c.begin.new.self) c.in-Some.is out c.in_ok-begin_action.ensures.ok disk)

pub returns-in-None : goal.returns-in-None
returns-in-None c =
    let now : World = record { book = c.self.inside.station; state = record { disk = disk_of c.self.inside.disk; halves = c.self.inside.line.halves }; took = c.self.inside.line.took } in
    let out : c.in-Some.station.is_handed_out ≡ false = sym c.action.ensures.out ∙ sym c.is_some.ensures ∙ c.if-is_some.false in
    let given : None ≡ handed_out c.begin_action.new.self = sym (ap option_copied c.in-None.is) ∙ c.action-2.ensures.action in
    let disk : disk_of c.reserve.new.self ≡ begun_on (handed_out c.begin_action.new.self) now.state.disk =
    c.reserve.ensures.same ∙ ap (λ (a : Option DiskNext). begun_on a now.state.disk) given in
    seen _ now _ _ c.self.view_is (begins-action now c.in-Some.station c.begin_action.new.self (disk_of c.reserve.new.self) c.in-Some.is out c.in_ok-begin_action.ensures.ok disk)
