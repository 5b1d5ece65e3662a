use Rattle.std.proofs.Common.{rules}
use denote.Param.Send.{sendable}
use Rattle.station_threads.proofs.serving.serve_line.Goals as goal

pub scoped-requires : goal.scoped-requires
scoped-requires g c =
    let t = c.type_bounds in
    record { at = λ a. (c.requires.owned, (c.requires.long, first_of (assumption (t.send-T, t.send-R, t.send-S, t.sync-T, t.sync-R, t.sync-G, t.sync-W), search (sendable) depth 40, search (rules, sendable) depth 40))) }
