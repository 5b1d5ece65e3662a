-- Slaves with no pending writes hold the contents.
use Rattle.std.proofs.Common.{List, [], ◌++◌, sym, ◌∙◌, ap, subst, arith}
use Rattle.std.proofs.lemmas.List.{append-nil, take_all}
use Rattle.sii_edit.specs.declared.command.Command.{Command}
use Rattle.sii_edit.specs.Fold.{contents}
use Rattle.sii_words.specs.declared.run.Run.{Run}
use Rattle.sii_words.specs.Redo.{redone}
use Rattle.sii_words.proofs.RedoLaws.{redone-nil}
use Rattle.jrn_format.specs.Halves.{live}
use Rattle.book_model.specs.Entries.{live_runs}
use Rattle.book_model.specs.Book.{all_cells, base_of}
use Rattle.book_model.specs.Plants.{AllFit}
use Rattle.book_model.proofs.CommandLaws.{entries-contents}
use Rattle.book_model.proofs.PlantLaws.{plant-leads-retired}
use Rattle.book_model.proofs.SettlingLaws.{retire-settled}
use Rattle.book_model.proofs.LineLaws.{holds-all}
use Rattle.world_law.proofs.StandsLaws.{pair_read, leaves-read}
use Rattle.site_journal.specs.Ready.{IsUp}
use Rattle.station_alone.specs.Station.{Station}
use Rattle.station_alone.specs.Settled.{HasSettled, HoldsContents, ReadAsContents}

pub settled-holds : (s : Station) → IsUp s.book s.seen → HasSettled s.book → HoldsContents s
settled-holds s u settled pair leaves =
    let book = s.book in
    let up = u.3 in
    let cells = all_cells book.slaves in
    let lives = live_runs (live book.halves) in
    let may = holds-all book.words s.seen.state.halves book.slaves u.1 pair.words up.same up.slaves leaves.words in
    let fit : AllFit book.words up.gone (lives ++ []) cells = subst (λ (r : List Run). AllFit book.words up.gone r cells) (sym (append-nil lives)) up.fits.fit in
    let all = retire-settled book.words up.gone lives [] cells up.same fit settled.live in
    let leads = plant-leads-retired book.words up.gone lives [] cells pair.words fit all may in
    sym (redone-nil pair.words) ∙ leads ∙ ap (λ (r : List Run). redone book.words (up.gone ++ r)) (append-nil lives) ∙ sym up.fits.contents ∙ entries-contents 0 (base_of book) book.accepted book.durable
    ∙ ap (λ (l : List Command). contents (base_of book) l) (take_all book.durable book.accepted (omega (arith, settled.durable)))

-- the words that the slaves hold are among those that a stop may leave
pub settled-reads : (s : Station) → HoldsContents s → ReadAsContents s
settled-reads s holds = holds (pair_read s.seen.state) (leaves-read s.seen.state)
