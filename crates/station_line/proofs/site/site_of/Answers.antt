use Rattle.site_core.specs.State.{word_counts}
use Rattle.site_shadow.specs.Line.{halves_of}
use Rattle.station_line.proofs.SwitchedOn.{counted, is_complete, makes_site}
use Rattle.station_line.proofs.site.site_of.Goals as goal

pub of_parts-requires : goal.of_parts-requires
of_parts-requires g c = record {
  line =
      is_complete c.in_ok-sizes.sizes.items (word_counts (halves_of c.in_ok-halves.halves.items)) c.args.slaves.now c.in_ok-sizes.ensures.counts c.requires.some c.requires.most c.in_ok-sizes.ensures.devices
      (counted (halves_of c.in_ok-halves.halves.items) c.args.slaves.now c.in_ok-sizes.sizes.items c.in_ok-halves.ensures c.in_ok-sizes.ensures.counts);
}

pub returns : goal.returns
returns g c =
    makes_site c.of_parts.result c.args.slaves.now c.args.disk.items c.in_ok-sizes.sizes.items (halves_of c.in_ok-halves.halves.items)
    c.in_ok-sizes.ensures.counts c.in_ok-sizes.ensures.devices c.requires.most c.in_ok-halves.ensures c.of_parts.ensures
