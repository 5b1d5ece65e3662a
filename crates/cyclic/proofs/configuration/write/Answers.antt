use Rattle.std.proofs.Common.{◌≡◌, ℕ, ◌+◌, ◌*◌, ◌^◌, List, [], ◌∷◌, ◌++◌, ap, ◌∙◌}
use Rattle.ecat_frame.specs.Frame.{Pdu, sent}
use Rattle.ecat_frame.specs.declared.command.Command.TheVariants.{Fpwr}
use Rattle.cyclic.specs.Configuration.{write_to}
use Rattle.cyclic.proofs.Sending.{sends_one}
use Rattle.cyclic.proofs.configuration.write.Goals as goal

pub returns-clause-sends : goal.returns-clause-sends
returns-clause-sends g c =
    let order = write_to c.args.slave c.args.register c.args.bytes.now in
    let is : c.push.new.self ≡ order ∷ [] =
    c.in-Ok.ensures.ok
    ∙ ap (λ (l : List Pdu). l ++ sent Fpwr 0 c.fp.result c.args.bytes.now ∷ []) c.new-frame.ensures
    ∙ ap (λ a. sent Fpwr 0 a c.args.bytes.now ∷ []) (c.fp.ensures.value ∙ ap (λ (s : ℕ). s + 2 ^ 16 * c.args.register) c.station_address.ensures) in
    sends_one order c.push.new.self is (g.S.Site.seen c.args.site.now) c.exchange.result c.exchange.new.frame (g.S.Site.seen c.exchange.new.site) c.exchange.ensures.exchanges
