use Rattle.std.proofs.Common.{[], refl}
use Rattle.book_model.specs.Book.{base_of}
use Rattle.desk_book.specs.Calls.{replayed}
use Rattle.desk_laws.proofs.TurnLaws.{turns-are}
use Rattle.desk_laws.proofs.laws.turns_have_their_images.Goals as goal

pub returns : goal.returns
returns c = λ opened calls all. turns-are (base_of opened) (replayed opened calls).accepted opened calls [] all refl refl tt
