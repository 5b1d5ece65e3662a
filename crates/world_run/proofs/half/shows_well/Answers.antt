use Rattle.std.proofs.Common.{◌≡◌, ◌∙◌, ◌+◌, ◌*◌, ◌^◌, ℕ, [], ◌∷◌, slice_index, sym, ap}
use Rattle.ecat_frame.specs.declared.command.Command.TheVariants.{Fprd}
use Rattle.esc_model.specs.SlaveHalf.{Outcome, served}
use Rattle.esc_model.specs.Orders.{station}
use Rattle.world_run.proofs.HalfLaws.{polls, shows-well}
use Rattle.world_run.proofs.half.shows_well.Goals as goal

address_is : (c : goal.After-content-2-1) → c.fp-address.result ≡ station c.args.slave + 2 ^ 16 * 0x0502
address_is c = c.fp-address.ensures.value ∙ ap (λ (n : ℕ). n + 2 ^ 16 * 0x0502) c.station_address.ensures

pub returns-clause-well : goal.returns-clause-well
returns-clause-well c =
    let half = c.args.half.now in
    let shown = sym (ap (λ (o : Outcome). slice_index o.content 1) (c.take-counted.ensures.idle c.requires.idle))
    ∙ ap (λ (a : ℕ). slice_index (served half Fprd a (0 ∷ 0 ∷ [])).content 1) (address_is c)
    ∙ (polls c.args.slave half c.requires.near c.requires.here).1 in
    shows-well half (slice_index c.take-counted.new.content 1) c.requires.idle shown

pub returns-clause-same : goal.returns-clause-same
returns-clause-same c =
    let half = c.args.half.now in
    sym (ap (λ (o : Outcome). o.half) (c.take-counted.ensures.idle c.requires.idle))
    ∙ ap (λ (a : ℕ). (served half Fprd a (0 ∷ 0 ∷ [])).half) (address_is c)
    ∙ (polls c.args.slave half c.requires.near c.requires.here).0
