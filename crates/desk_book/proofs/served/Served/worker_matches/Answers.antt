use Rattle.std.proofs.Common.{◌≡◌, ◌∙◌, ◌↔◌, ◌<◌, List, length, IsTrue, ap, subst, arith}
use Rattle.desk_book.specs.Calls.{replayed}
use Rattle.desk_book.specs.Logs.{RomEntry, rom_log}
use Rattle.desk_book.specs.Serving.{Serving}
use Rattle.desk_book.proofs.CountLaws.{each-slave}
use Rattle.desk_book.proofs.served.Served.worker_matches.Goals as goal

pub is_work_of-requires : goal.is_work_of-requires
is_work_of-requires g c = omega (arith, c.requires, c.self.invariant.4, each-slave g.T.Tickets.opened (replayed g.T.Tickets.opened c.args.self.now.calls).accepted)

pub returns : goal.returns
returns g c =
    let s = c.self.inside in
    let i = c.self.invariant in
    let inside : c.args.at < length s.slaves.items = omega (arith, c.requires, i.4, each-slave g.T.Tickets.opened (replayed g.T.Tickets.opened c.args.self.now.calls).accepted) in
    subst (λ (l : List RomEntry). IsTrue c.is_work_of.result ↔ ((c.args.log.now.slave ≡ c.args.at) × (c.args.log.now.jobs ≡ l))) (i.3.of_slaves c.args.at inside ∙ ap (λ (v : Serving). rom_log c.args.at v.calls) c.self.view_is)
    c.is_work_of.ensures
