use Rattle.station_line.proofs.site.save_site.Goals as goal

pub returns-clause-followed : goal.returns-clause-followed
returns-clause-followed g c = (c.into_parts-parts.result.1, c.into_parts-parts.ensures.device)
