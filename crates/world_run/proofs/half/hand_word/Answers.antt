use Rattle.std.proofs.Common.{◌≡◌, ◌∙◌, ◌+◌, ◌*◌, ◌^◌, ◌<◌, ℕ, List, sym, subst, ap, arith}
use Rattle.ecat_frame.specs.declared.command.Command.TheVariants.{Fpwr}
use Rattle.esc_model.specs.SlaveHalf.{SlaveHalf, Outcome, served}
use Rattle.esc_model.specs.Orders.{station}
use Rattle.esc_model.specs.WordAccess.{TakesWord}
use Rattle.world_run.proofs.HalfLaws.{takes-word}
use Rattle.world_run.proofs.half.hand_word.Goals as goal

pub returns : goal.returns
returns c =
    let half = c.args.half.now in
    let word_fits : c.args.word < 2 ^ 16 = omega arith in
    let value_fits : c.args.value < 2 ^ 16 = omega arith in
    let address : c.fp-address.result ≡ station c.args.slave + 2 ^ 16 * 0x0502 = c.fp-address.ensures.value ∙ ap (λ (n : ℕ). n + 2 ^ 16 * 0x0502) c.station_address.ensures in
    let served_is = sym (ap (λ (o : Outcome). o.half) (c.take-counted.ensures.idle c.requires.idle))
    ∙ ap (λ (a : ℕ). (served half Fpwr a c.write_content-content.result).half) address
    ∙ ap (λ (l : List ℕ). (served half Fpwr (station c.args.slave + 2 ^ 16 * 0x0502) l).half) c.write_content-content.ensures in
    subst (λ (h : SlaveHalf). TakesWord c.args.slave c.args.word c.args.value half h) (sym served_is)
    (takes-word c.args.slave c.args.word c.args.value half c.requires.near word_fits value_fits c.requires.here c.requires.idle)
