use Rattle.std.proofs.Common.{◌∙◌, ◌<◌, length, sym, arith}
use Rattle.world_law.specs.World.{World}
use Rattle.world_run.specs.Torn.{disk_of}
use Rattle.world_run.proofs.EventLaws.{seen}
use Rattle.world_run.proofs.SlaveEventLaws.{issues-word, issues-nothing}
use Rattle.world_run.proofs.making.World.issue.Goals as goal

pub returns-in-Issue : goal.returns-in-Issue
returns-in-Issue c =
    let now : World = record { book = c.self.inside.station; state = record { disk = disk_of c.self.inside.disk; halves = c.self.inside.line.halves }; took = c.self.inside.line.took } in
    seen _ now _ _ c.self.view_is (issues-word now c.in-Some.station c.rom_next.new.self c.args.slave c.args.takes c.in-Issue.word c.in-Issue.value c.issue.new.self c.in-Some.is (sym c.rom_next.ensures.answer ∙ c.in-Issue.is) c.rom_next.ensures.book c.issue.ensures)

pub returns-in-Settle : goal.returns-in-Settle
returns-in-Settle c =
    let now : World = record { book = c.self.inside.station; state = record { disk = disk_of c.self.inside.disk; halves = c.self.inside.line.halves }; took = c.self.inside.line.took } in
    let inside : c.args.slave < length now.state.halves = omega (arith, c.from.ensures, c.len.ensures.len, c.if-from-len.false) in
    seen _ now _ _ c.self.view_is (issues-nothing now c.in-Some.station c.rom_next.new.self c.args.slave c.args.takes _ c.in-Some.is inside (sym c.in-Settle.is ∙ c.rom_next.ensures.answer) tt c.rom_next.ensures.book)

pub returns-in-Idle : goal.returns-in-Idle
returns-in-Idle c =
    let now : World = record { book = c.self.inside.station; state = record { disk = disk_of c.self.inside.disk; halves = c.self.inside.line.halves }; took = c.self.inside.line.took } in
    let inside : c.args.slave < length now.state.halves = omega (arith, c.from.ensures, c.len.ensures.len, c.if-from-len.false) in
    seen _ now _ _ c.self.view_is (issues-nothing now c.in-Some.station c.rom_next.new.self c.args.slave c.args.takes _ c.in-Some.is inside (sym c.in-Idle.is ∙ c.rom_next.ensures.answer) tt c.rom_next.ensures.book)

pub returns-in-Stop : goal.returns-in-Stop
returns-in-Stop c =
    let now : World = record { book = c.self.inside.station; state = record { disk = disk_of c.self.inside.disk; halves = c.self.inside.line.halves }; took = c.self.inside.line.took } in
    let inside : c.args.slave < length now.state.halves = omega (arith, c.from.ensures, c.len.ensures.len, c.if-from-len.false) in
    seen _ now _ _ c.self.view_is (issues-nothing now c.in-Some.station c.rom_next.new.self c.args.slave c.args.takes _ c.in-Some.is inside (sym c.in-Stop.is ∙ c.rom_next.ensures.answer) tt c.rom_next.ensures.book)
