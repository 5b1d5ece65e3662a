use Rattle.std.proofs.Common.{◌∙◌, ap, length}
use Rattle.book_model.specs.Book.{Book, contents_of}
use Rattle.station_alone.proofs.RowLaws.{count-of}
use Rattle.station_alone.proofs.rounds.slave_count.Goals as goal

pub returns : goal.returns
returns g c = c.len.ensures.len ∙ ap length c.contents.ensures ∙ ap (λ (b : Book). length (contents_of b)) c.core.ensures.book ∙ count-of c.args.station.now c.requires
