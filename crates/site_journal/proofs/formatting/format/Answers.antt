use Rattle.std.proofs.Common.{ℕ, ◌+◌, length, Result, Ok, Err, subst, arith}
use Rattle.site_core.specs.declared.fault.DeviceFault.{DeviceFault}
use Rattle.site_journal.specs.Formatting.{after_gate, pieces, PutsDown}
use Rattle.site_journal.proofs.CallRuns.{same_fault}
use Rattle.site_journal.proofs.FormatLaws.{first_runs, second_runs, formats_cut, formats}
use Rattle.site_journal.proofs.PieceLaws.{pieces-then}
use Rattle.site_journal.proofs.formatting.format.Goals as goal

pub returns-in_err-put_gate-clause-formats : goal.returns-in_err-put_gate-clause-formats
returns-in_err-put_gate-clause-formats g c =
    let slaves : ℕ = length (g.S.Site.line c.args.site.now).sizes in
    formats_cut slaves c.args.capacity (g.S.Site.seen c.args.site.now) (g.S.Site.seen c.put_gate.new.site) c.in_err-put_gate.field-0.0 c.from_residual.result
    (same_fault c.from_residual.result _ c.from_residual.ensures.1)
    (first_runs slaves c.args.capacity _ (g.S.Site.seen c.args.site.now) (g.S.Site.seen c.put_gate.new.site) _ (omega arith) c.in_err-put_gate.ensures.puts)

pub returns-in_err-put_area-clause-formats : goal.returns-in_err-put_area-clause-formats
returns-in_err-put_area-clause-formats g c =
    let slaves : ℕ = length (g.S.Site.line c.args.site.now).sizes in
    let fault : Result (Unit {0}) DeviceFault = Err c.in_err-put_area.field-0.0 in
    let b = g.S.Site.seen c.put_gate.new.site in
    let new = g.S.Site.seen c.put_area.new.site in
    formats_cut slaves c.args.capacity (g.S.Site.seen c.args.site.now) new c.in_err-put_area.field-0.0 c.from_residual-in_err-put_area.result
    (same_fault c.from_residual-in_err-put_area.result _ c.from_residual-in_err-put_area.ensures.1)
    (second_runs slaves c.args.capacity _ (g.S.Site.seen c.args.site.now) b new fault (omega arith) c.in_ok-put_gate.ensures.puts
    (subst (λ (n : ℕ). PutsDown b 1 (after_gate n c.args.capacity) (2 + pieces c.args.capacity) fault new) c.slaves-slaves.ensures.slaves c.in_err-put_area.ensures.puts))

pub returns-clause-formats : goal.returns-clause-formats
returns-clause-formats g c =
    let slaves : ℕ = length (g.S.Site.line c.args.site.now).sizes in
    let b = g.S.Site.seen c.put_gate.new.site in
    let new = g.S.Site.seen c.put_area.new.site in
    formats slaves c.args.capacity (g.S.Site.seen c.args.site.now) b new (g.S.Site.seen c.put_gate-2.new.site) c.put_gate-2.result c.in_ok-put_gate.ensures.puts
    (subst (λ (n : ℕ). PutsDown b 1 (after_gate n c.args.capacity) (2 + pieces c.args.capacity) (Ok tt) new) c.slaves-slaves.ensures.slaves c.in_ok-put_area.ensures.puts)
    c.put_gate-2.ensures.puts

pub returns-in_err-put_gate-clause-pieces : goal.returns-in_err-put_gate-clause-pieces
returns-in_err-put_gate-clause-pieces g c = c.in_err-put_gate.ensures.pieces

pub returns-in_err-put_area-clause-pieces : goal.returns-in_err-put_area-clause-pieces
returns-in_err-put_area-clause-pieces g c =
    pieces-then (g.S.Site.seen c.args.site.now) (g.S.Site.seen c.put_gate.new.site) (g.S.Site.seen c.put_area.new.site) c.in_ok-put_gate.ensures.pieces c.in_err-put_area.ensures.pieces

pub returns-clause-pieces : goal.returns-clause-pieces
returns-clause-pieces g c =
    pieces-then (g.S.Site.seen c.args.site.now) (g.S.Site.seen c.put_area.new.site) (g.S.Site.seen c.put_gate-2.new.site)
    (pieces-then (g.S.Site.seen c.args.site.now) (g.S.Site.seen c.put_gate.new.site) (g.S.Site.seen c.put_area.new.site) c.in_ok-put_gate.ensures.pieces c.in_ok-put_area.ensures.pieces)
    c.put_gate-2.ensures.pieces
