use Rattle.station_line.proofs.RoundServing.{closes-on}
use Rattle.station_line.proofs.commands.serve_in_rounds.Goals as goal

pub returns : goal.returns
returns g c =
    closes-on c.args.commands.items c.serve_all.result c.args.answered.now c.submit_all.new.answered c.args.alone.now c.submit_all.new.alone c.serve_all.new.alone c.in_ok-submit_all.ensures c.serve_all.ensures.goes c.serve_all.ensures.served
