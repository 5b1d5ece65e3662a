use Rattle.book_model.proofs.WornBooks.{worn-few}
use Rattle.book_model.proofs.wear.issues_of_a_slave_are_few.Goals as goal

pub returns : goal.returns
returns c = λ book i worn within. worn-few book i worn within
