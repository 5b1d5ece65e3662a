use Rattle.book_model.proofs.WornBooks.{worn-command, worn-migrate}
use Rattle.book_model.proofs.wear.worn_as_callers_ask.Goals as goal

pub returns : goal.returns
returns c = record { command = λ frame book state took machine command up worn. worn-command book command up.fits.durable_few worn; finish = λ book worn. worn; migrate = worn-migrate }
