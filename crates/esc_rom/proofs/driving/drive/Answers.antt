use Rattle.std.proofs.Common.{refl, sym, subst, ◌∙◌, arith}
use Rattle.site_core.specs.Line.{Line, Owns}
use Rattle.rom_steps.specs.Remaining.{pdu_to}
use Rattle.esc_rom.proofs.Driven.{went-none, went-more, went-all, drives-over, drives-cut}
use Rattle.esc_rom.proofs.driving.drive.Goals as goal

pub loop-turn-init : goal.loop-turn-init
loop-turn-init g c = record { so = went-none c.args.slave c.args.first (g.S.Site.seen c.args.site.now); line = refl }

pub ask-requires : goal.ask-requires
ask-requires g c = subst (λ (line : Line). Owns line c.args.slave) (sym c.loop-turn.invariant.line) c.requires.owned

pub returns-in_default-clause-drives : goal.returns-in_default-clause-drives
returns-in_default-clause-drives g c = drives-over c.loop-turn.invariant.so c.in_default.ensures.next c.end_of.result c.end_of.ensures

pub returns-in_err-back-clause-drives : goal.returns-in_err-back-clause-drives
returns-in_err-back-clause-drives g c =
    let asks = c.in_err-back.ensures.asks in
    drives-cut c.loop-turn.invariant.so (pdu_to c.args.slave c.in-Some.datagram) asks.came
    (g.S.Site.seen c.ask.new.site) c.from_residual.result c.from_residual.ensures.0 (c.in-Some.ensures.next c.args.slave) asks.sent asks.is

pub loop-turn-preserved : goal.loop-turn-preserved
loop-turn-preserved g c =
    let asks = c.in_ok-back.ensures.asks in
    record {
      so = went-more c.args.slave c.args.first c.loop-turn._turn (g.S.Site.seen c.args.site.now) c.loop-turn.step
          (g.S.Site.seen c.loop-turn.site) c.loop-turn.invariant.so (pdu_to c.args.slave c.in-Some.datagram)
          asks.came c.take-step.result (g.S.Site.seen c.ask.new.site) (c.in-Some.ensures.next c.args.slave) asks.sent
          (c.take-step.ensures c.args.slave asks.came asks.is);
      line = c.in_ok-back.ensures.line ∙ c.loop-turn.invariant.line;
    }

pub returns-clause-drives : goal.returns-clause-drives
returns-clause-drives g c =
    let few = c.requires.short in
    drives-over c.loop-turn.invariant.so
    (went-all c.args.slave c.args.first c.loop-turn._turn (g.S.Site.seen c.args.site.now) c.loop-turn.step
    (g.S.Site.seen c.loop-turn.site) c.loop-turn.invariant.so (omega arith))
    c.end_of-2.result c.end_of-2.ensures
