use Rattle.script_session.proofs.DeskLaws.{ends-so, one-share, reported-closed}
use Rattle.script_session.proofs.closing.hand_in.Goals as goal

pub returns-clause-ending : goal.returns-clause-ending
returns-clause-ending g c =
    let got = c.received-receipts.ensures in
    let reported = c.reported_of.ensures in
    let one = one-share c.push_reserved.new.self.items c.args.room.items c.submitter.inside.share c.push_reserved.ensures.items c.requires.0 in
    record {
      reported =
          reported-closed g.T.Tickets.opened g.C.NamesCommands.commands c.submitter.inside.answered c.submitter.inside.share c.push_reserved.new.self.items c.received-receipts.result.0.items c.args.ends one
          c.received-receipts.result.1 c.close_desk-ends.result.2 c.reported_of.result c.close_desk-ends.result.1 c.close_desk-ends.ensures.reported reported.good;
      ended =
          ends-so g.T.Tickets.opened g.C.NamesCommands.commands c.submitter.inside.answered c.submitter.inside.share c.push_reserved.new.self.items c.received-receipts.result.0.items c.args.ends one
          c.submitter.inside.came c.received-receipts.result.1 c.close_desk-ends.result.2 c.reported_of.result c.close_desk-ends.result.1 c.is_some-is_driven.result got.receipts got.fault c.is_some-is_driven.ensures c.submitter.invariant.1
          c.close_desk-ends.ensures.closes c.close_desk-ends.ensures.reported c.close_desk-ends.ensures.printed reported.good reported.fault;
    }
