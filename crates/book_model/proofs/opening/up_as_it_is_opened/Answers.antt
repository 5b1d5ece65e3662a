use Rattle.book_model.proofs.OpeningLaws.{up-opens}
use Rattle.book_model.proofs.opening.up_as_it_is_opened.Goals as goal

pub returns : goal.returns
returns c = λ journal state took machine found long kept. let o = up-opens journal state took machine found long kept in (o.k, o.may_keep, (o.frame, o.up))
