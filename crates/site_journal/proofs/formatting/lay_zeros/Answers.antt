use Rattle.std.proofs.Common.{◌≡◌, ℕ, ◌+◌, ◌*◌, ◌-◌, ◌<◌, ◌≤◌, min, refl, sym, ◌∙◌, arith}
use Rattle.std.proofs.lemmas.List.{take-replicate, length-replicate}
use Rattle.site_journal.proofs.CallRuns.{same_fault}
use Rattle.site_journal.proofs.Laying.{laid_cut}
use Rattle.site_journal.proofs.ZeroLaws.{zeros_none, zeros_runs, zeros_more, zeros_all}
use Rattle.site_journal.proofs.PieceLaws.{pieces-none, zeros-more}
use Rattle.site_journal.proofs.formatting.lay_zeros.Goals as goal

pub loop-piece-init : goal.loop-piece-init
loop-piece-init g c = record { laid = zeros_none (g.S.Site.seen c.args.site.now) c.args.at c.args.count c.requires.inside c.requires.going; pieces = pieces-none (g.S.Site.seen c.args.site.now); line = refl }

pub returns-in_err-disk_write-clause-lays : goal.returns-in_err-disk_write-clause-lays
returns-in_err-disk_write-clause-lays g c =
    let below : 4096 * c.loop-piece.piece < c.args.count = omega (arith, c.loop-piece-test.true, c.div_ceil-piece-end.ensures) in
    let size_is : c.min-size.result ≡ min 4096 (c.args.count - 4096 * c.loop-piece.piece) = first_of (omega (arith, c.min-size.ensures), grind (arith, c.min-size.ensures)) in
    let few : c.min-size.result ≤ 4096 = omega (arith, size_is) in
    laid_cut (g.S.Site.seen c.args.site.now) (g.S.Site.seen c.disk_write.new.self) c.args.at _ c.args.count (c.loop-piece.piece + 1) _ c.in_err-disk_write.field-0.0 c.from_residual.result
    (same_fault c.from_residual.result _ c.from_residual.ensures.1) (sym (length-replicate {A = ℕ} c.args.count 0)) (omega (arith, c.loop-piece-test.true, c.div_ceil-piece-end.ensures))
    (zeros_runs (g.S.Site.seen c.args.site.now) (g.S.Site.seen c.loop-piece.site) (g.S.Site.seen c.disk_write.new.self) c.args.at c.args.count c.loop-piece.piece _ c.min-size.result _ _
    c.requires.inside (omega arith) (take-replicate {X = ℕ} c.min-size.result 4096 0 few) size_is below c.loop-piece.invariant.laid c.in_err-disk_write.ensures.writes)

pub loop-piece-preserved : goal.loop-piece-preserved
loop-piece-preserved g c =
    let below : 4096 * c.loop-piece.piece < c.args.count = omega (arith, c.loop-piece-test.true, c.div_ceil-piece-end.ensures) in
    let size_is : c.min-size.result ≡ min 4096 (c.args.count - 4096 * c.loop-piece.piece) = first_of (omega (arith, c.min-size.ensures), grind (arith, c.min-size.ensures)) in
    let few : c.min-size.result ≤ 4096 = omega (arith, size_is) in
    record {
      laid = zeros_more (g.S.Site.seen c.args.site.now) (g.S.Site.seen c.loop-piece.site) (g.S.Site.seen c.disk_write.new.self) c.args.at c.args.count c.loop-piece.piece _ c.min-size.result _
          c.requires.inside (omega arith) (take-replicate {X = ℕ} c.min-size.result 4096 0 few) size_is below c.loop-piece.invariant.laid c.in_ok-disk_write.ensures.writes;
      pieces = zeros-more (g.S.Site.seen c.args.site.now) (g.S.Site.seen c.loop-piece.site) (g.S.Site.seen c.disk_write.new.self) _ c.min-size.result _ _
          (take-replicate {X = ℕ} c.min-size.result 4096 0 few) few c.loop-piece.invariant.pieces c.in_ok-disk_write.ensures.writes;
      line = c.in_ok-disk_write.ensures.line ∙ c.loop-piece.invariant.line;
    }

pub returns-clause-lays : goal.returns-clause-lays
returns-clause-lays g c =
    zeros_all (g.S.Site.seen c.args.site.now) (g.S.Site.seen c.loop-piece.site) c.args.at c.args.count c.loop-piece.piece _ (omega (arith, c.loop-piece-test.false, c.div_ceil-piece-end.ensures))
    (omega (arith, c.loop-piece.auto.piece-end, c.div_ceil-piece-end.ensures)) c.loop-piece.invariant.laid

pub returns-in_err-disk_write-clause-pieces : goal.returns-in_err-disk_write-clause-pieces
returns-in_err-disk_write-clause-pieces g c =
    let size_is : c.min-size.result ≡ min 4096 (c.args.count - 4096 * c.loop-piece.piece) = first_of (omega (arith, c.min-size.ensures), grind (arith, c.min-size.ensures)) in
    let few : c.min-size.result ≤ 4096 = omega (arith, size_is) in
    zeros-more (g.S.Site.seen c.args.site.now) (g.S.Site.seen c.loop-piece.site) (g.S.Site.seen c.disk_write.new.self) _ c.min-size.result _ _
    (take-replicate {X = ℕ} c.min-size.result 4096 0 few) few c.loop-piece.invariant.pieces c.in_err-disk_write.ensures.writes

pub returns-clause-pieces : goal.returns-clause-pieces
returns-clause-pieces g c = c.loop-piece.invariant.pieces
