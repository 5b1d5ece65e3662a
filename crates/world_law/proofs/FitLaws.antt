-- All words of a machine have 16 bits, also with a command more, and once it is reopened.
use Rattle.std.proofs.Common.{ℕ, ◌∷◌, [], ◌++◌, take, subst, All}
use Rattle.std.proofs.lemmas.List.Elements.{All-nil, All-append, All-push, All-take}
use Rattle.sii_edit.specs.declared.command.Command.{Command}
use Rattle.sii_edit.specs.Fitting.{PlantFits, CommandFits}
use Rattle.sii_edit.proofs.PlantLaws.{fit-contents}
use Rattle.book_model.specs.Book.{Book, base_of, contents_of}
use Rattle.book_model.specs.Submit.{with_command}
use Rattle.book_model.specs.Machine.{Machine, accepts, reopened}
use Rattle.book_model.specs.Keeping.{IsOfBook}
use Rattle.world_law.specs.Law.{MachineFits}

pub fits-accepts : (m : Machine) (command : Command) → MachineFits m → CommandFits command → MachineFits (accepts m command)
fits-accepts m command fits small = record { origin = fits.origin; kept = fits.kept; accepted = All-push CommandFits m.accepted command fits.accepted small }

pub fits-reopened : (m : Machine) (k : ℕ) → MachineFits m → MachineFits (reopened m k)
fits-reopened m k fits = record {
  origin = fits.origin;
  kept = All-append CommandFits m.kept (take k m.accepted) fits.kept (All-take CommandFits k m.accepted fits.accepted);
  accepted = All-nil CommandFits;
}

-- the contents after a command more
pub contents-fit : (book : Book) (m : Machine) (command : Command) → IsOfBook book m → MachineFits m → CommandFits command → PlantFits (contents_of (with_command book command))
contents-fit book m command of fits small =
    let base : PlantFits (base_of book) = subst PlantFits of.base (fit-contents m.origin m.kept fits.kept fits.origin) in
    let commands : All CommandFits book.accepted = subst (All CommandFits) of.accepted fits.accepted in
    fit-contents (base_of book) (book.accepted ++ command ∷ []) (All-push CommandFits book.accepted command commands small) base
