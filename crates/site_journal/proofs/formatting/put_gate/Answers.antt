use Rattle.std.proofs.Common.{[], ◌∷◌, arith}
use Rattle.site_journal.proofs.CallRuns.{same_fault}
use Rattle.site_journal.proofs.Laying.{one_write, laid_one, put_down, put_cut}
use Rattle.site_journal.proofs.PieceLaws.{piece-written, pieces-synced, pieces-then}
use Rattle.site_journal.proofs.formatting.put_gate.Goals as goal

pub returns-in_err-disk_write-clause-puts : goal.returns-in_err-disk_write-clause-puts
returns-in_err-disk_write-clause-puts g c =
    put_cut (g.S.Site.seen c.args.site.now) (g.S.Site.seen c.disk_write.new.self) 0 (c.args.gate ∷ []) 1 2 c.in_err-disk_write.field-0.0 c.from_residual.result
    (same_fault c.from_residual.result _ c.from_residual.ensures.1) (omega arith)
    (one_write (g.S.Site.seen c.args.site.now) (g.S.Site.seen c.disk_write.new.self) 0 (c.args.gate ∷ []) _ (omega arith) c.in_err-disk_write.ensures.writes)

pub returns-clause-puts : goal.returns-clause-puts
returns-clause-puts g c =
    put_down (g.S.Site.seen c.args.site.now) (g.S.Site.seen c.disk_write.new.self) (g.S.Site.seen c.disk_sync.new.self) 0 (c.args.gate ∷ []) 1 c.disk_sync.result
    (laid_one (g.S.Site.seen c.args.site.now) (g.S.Site.seen c.disk_write.new.self) 0 (c.args.gate ∷ []) (omega arith) c.in_ok-disk_write.ensures.writes) c.disk_sync.ensures.syncs

pub returns-in_err-disk_write-clause-pieces : goal.returns-in_err-disk_write-clause-pieces
returns-in_err-disk_write-clause-pieces g c =
    piece-written (g.S.Site.seen c.args.site.now) (g.S.Site.seen c.disk_write.new.self) 0 (c.args.gate ∷ []) _ (omega arith) c.in_err-disk_write.ensures.writes

pub returns-clause-pieces : goal.returns-clause-pieces
returns-clause-pieces g c =
    pieces-then (g.S.Site.seen c.args.site.now) (g.S.Site.seen c.disk_write.new.self) (g.S.Site.seen c.disk_sync.new.self)
    (piece-written (g.S.Site.seen c.args.site.now) (g.S.Site.seen c.disk_write.new.self) 0 (c.args.gate ∷ []) _ (omega arith) c.in_ok-disk_write.ensures.writes)
    (pieces-synced (g.S.Site.seen c.disk_write.new.self) (g.S.Site.seen c.disk_sync.new.self) c.disk_sync.result c.disk_sync.ensures.syncs)
