use Rattle.std.proofs.Common.{ℕ, length, replicate, refl, ap, subst, Ok, Result, ◌∙◌}
use Rattle.cyclic.specs.declared.fault.CycleFault.{CycleFault}
use Rattle.station_jobs.specs.Setting.{SetsLine}
use Rattle.station_jobs.proofs.TakingLaws.{ok-of, turn-in, no-bytes}
use Rattle.station_jobs.proofs.cycling.take_turn.Goals as goal

pub returns-clause-takes : goal.returns-clause-takes
returns-clause-takes g c =
    let old = g.S.Site.seen c.args.site.now in
    let mid = g.S.Site.seen c.set_line.new.site in
    let job = c.args.job in
    let buffer = c.zero_bytes-inputs.result.items in
    record {
      set = Ok tt;
      mid = mid;
      sets =
          subst (λ (r : Result (Unit {0}) CycleFault). SetsLine (length (g.S.Site.line c.args.site.now).sizes) c.args.last.now job.plan old r mid)
          (ok-of c.set_line.result c.in_default.not-Err) c.set_line.ensures.sends;
      goes_on = (
        refl,
        record {
          nothing = c.turn-result.ensures.nothing;
          no_inputs = no-bytes buffer c.turn-result.new.inputs job.plan.image.outputs job.plan.image.inputs (c.zero_bytes-inputs.ensures ∙ ap (λ (n : ℕ). replicate n 0) c.inputs.ensures.inputs);
          turn = λ some.
              turn-in job.plan.image c.deref.result.now job.outputs.items c.deref_mut.result.now (replicate job.plan.image.inputs 0) buffer c.turn-result.new.inputs mid (g.S.Site.seen c.turn-result.new.site)
              c.turn-result.result c.deref.ensures.0 c.deref_mut.ensures.value (c.zero_bytes-inputs.ensures ∙ ap (λ (n : ℕ). replicate n 0) c.inputs.ensures.inputs) c.turn-result.auto.inputs
              (c.turn-result.ensures.turn some);
        },
      );
    }
