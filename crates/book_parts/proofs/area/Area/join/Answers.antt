use Rattle.book_parts.specs.Spot.{as_place}
use Rattle.book_parts.proofs.SizeLaws.{joined-fits}
use Rattle.book_parts.proofs.area.Area.join.Goals as goal

pub put-requires-clause-fits : goal.put-requires-clause-fits
put-requires-clause-fits c = joined-fits c.args.self.now (as_place c.args.spot) c.args.batch.now c.requires.form c.requires.room
