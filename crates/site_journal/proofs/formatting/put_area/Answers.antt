use Rattle.std.proofs.Common.{ℕ, List, drop, replicate, arith}
use Rattle.jrn_format.specs.Header.{header_bytes}
use Rattle.site_journal.proofs.CallRuns.{same_fault}
use Rattle.site_journal.proofs.Laying.{put_down, put_cut}
use Rattle.site_journal.proofs.ZeroLaws.{area_first, area_runs, area_laid, put_weaker}
use Rattle.site_journal.proofs.PieceLaws.{header-short, piece-written, pieces-synced, pieces-then}
use Rattle.site_journal.proofs.formatting.put_area.Goals as goal

pub returns-in_err-disk_write-clause-puts : goal.returns-in_err-disk_write-clause-puts
returns-in_err-disk_write-clause-puts g c =
    let zeros : List ℕ = replicate c.args.capacity 0 in
    let front : List ℕ = drop 1 (header_bytes 2 c.args.slaves c.args.capacity) in
    put_cut (g.S.Site.seen c.args.site.now) (g.S.Site.seen c.disk_write.new.self) 1 _ 1 _ c.in_err-disk_write.field-0.0 c.from_residual.result
    (same_fault c.from_residual.result _ c.from_residual.ensures.1) (omega arith)
    (area_first (g.S.Site.seen c.args.site.now) (g.S.Site.seen c.disk_write.new.self) front zeros _ c.requires.some (rw c.header.ensures at c.in_err-disk_write.ensures.writes))

pub returns-in_err-lay_zeros-clause-puts : goal.returns-in_err-lay_zeros-clause-puts
returns-in_err-lay_zeros-clause-puts g c =
    let zeros : List ℕ = replicate c.args.capacity 0 in
    let front : List ℕ = drop 1 (header_bytes 2 c.args.slaves c.args.capacity) in
    put_cut (g.S.Site.seen c.args.site.now) (g.S.Site.seen c.lay_zeros.new.site) 1 _ _ _ c.in_err-lay_zeros.field-0.0 c.from_residual-in_err-lay_zeros.result
    (same_fault c.from_residual-in_err-lay_zeros.result _ c.from_residual-in_err-lay_zeros.ensures.1) (omega arith)
    (area_runs (g.S.Site.seen c.args.site.now) (g.S.Site.seen c.disk_write.new.self) (g.S.Site.seen c.lay_zeros.new.site) front zeros _ _ c.requires.some
    (rw c.header.ensures at c.in_ok-disk_write.ensures.writes) c.in_err-lay_zeros.ensures.lays)

pub returns-clause-puts : goal.returns-clause-puts
returns-clause-puts g c =
    let zeros : List ℕ = replicate c.args.capacity 0 in
    let front : List ℕ = drop 1 (header_bytes 2 c.args.slaves c.args.capacity) in
    put_weaker (g.S.Site.seen c.args.site.now) (g.S.Site.seen c.disk_sync.new.self) 1 _ _ _ c.disk_sync.result (omega arith)
    (put_down (g.S.Site.seen c.args.site.now) (g.S.Site.seen c.lay_zeros.new.site) (g.S.Site.seen c.disk_sync.new.self) 1 _ _ c.disk_sync.result
    (area_laid (g.S.Site.seen c.args.site.now) (g.S.Site.seen c.disk_write.new.self) (g.S.Site.seen c.lay_zeros.new.site) front zeros _ c.requires.some
    (rw c.header.ensures at c.in_ok-disk_write.ensures.writes) c.in_ok-lay_zeros.ensures.lays) c.disk_sync.ensures.syncs)

pub returns-in_err-disk_write-clause-pieces : goal.returns-in_err-disk_write-clause-pieces
returns-in_err-disk_write-clause-pieces g c =
    let front : List ℕ = drop 1 (header_bytes 2 c.args.slaves c.args.capacity) in
    let short = header-short c.args.slaves c.args.capacity in
    piece-written (g.S.Site.seen c.args.site.now) (g.S.Site.seen c.disk_write.new.self) 1 front _ short (rw c.header.ensures at c.in_err-disk_write.ensures.writes)

pub returns-in_err-lay_zeros-clause-pieces : goal.returns-in_err-lay_zeros-clause-pieces
returns-in_err-lay_zeros-clause-pieces g c =
    let front : List ℕ = drop 1 (header_bytes 2 c.args.slaves c.args.capacity) in
    let short = header-short c.args.slaves c.args.capacity in
    pieces-then (g.S.Site.seen c.args.site.now) (g.S.Site.seen c.disk_write.new.self) (g.S.Site.seen c.lay_zeros.new.site)
    (piece-written (g.S.Site.seen c.args.site.now) (g.S.Site.seen c.disk_write.new.self) 1 front _ short (rw c.header.ensures at c.in_ok-disk_write.ensures.writes)) c.in_err-lay_zeros.ensures.pieces

pub returns-clause-pieces : goal.returns-clause-pieces
returns-clause-pieces g c =
    let front : List ℕ = drop 1 (header_bytes 2 c.args.slaves c.args.capacity) in
    let short = header-short c.args.slaves c.args.capacity in
    pieces-then (g.S.Site.seen c.args.site.now) (g.S.Site.seen c.lay_zeros.new.site) (g.S.Site.seen c.disk_sync.new.self)
    (pieces-then (g.S.Site.seen c.args.site.now) (g.S.Site.seen c.disk_write.new.self) (g.S.Site.seen c.lay_zeros.new.site)
    (piece-written (g.S.Site.seen c.args.site.now) (g.S.Site.seen c.disk_write.new.self) 1 front _ short (rw c.header.ensures at c.in_ok-disk_write.ensures.writes)) c.in_ok-lay_zeros.ensures.pieces)
    (pieces-synced (g.S.Site.seen c.lay_zeros.new.site) (g.S.Site.seen c.disk_sync.new.self) c.disk_sync.result c.disk_sync.ensures.syncs)
