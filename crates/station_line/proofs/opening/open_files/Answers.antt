use Rattle.std.proofs.Common.{◌≡◌, ◌∙◌, ap, map, string_bytes, subst}
use Rattle.sii_words.specs.Words.{bytes_of}
use Rattle.esc_model.specs.SlaveHalf.{SlaveHalf}
use Rattle.station_files.specs.LineFiles.{names_of}
use Rattle.station_line.specs.OpenFiles.{AreOpenedAs}
use Rattle.station_line.proofs.Saved.{changes_line}
use Rattle.station_line.proofs.opening.open_files.Goals as goal

pub returns-clause-others : goal.returns-clause-others
returns-clause-others g c =
    changes_line (g.S.Store.files c.args.store.now) (g.S.Store.files c.open.new.self) (g.S.Store.files c.open_images.new.store) (string_bytes c.args.line.now.journal) (names_of c.args.line.now)
    (rw c.as_str.ensures.value at c.open.ensures.others) (rw c.deref.ensures.value at c.open_images.ensures.others)

pub returns-in_err-images-clause-others : goal.returns-in_err-images-clause-others
returns-in_err-images-clause-others g c =
    changes_line (g.S.Store.files c.args.store.now) (g.S.Store.files c.open.new.self) (g.S.Store.files c.open_images.new.store) (string_bytes c.args.line.now.journal) (names_of c.args.line.now)
    (rw c.as_str.ensures.value at c.open.ensures.others) (rw c.deref.ensures.value at c.open_images.ensures.others)

pub returns-clause-opened : goal.returns-clause-opened
returns-clause-opened g c = record {
  journal = rw (c.as_str.ensures.value, c.disk_bytes.ensures) at c.in_ok-journal.ensures.opened;
  images =
      let contents : map (λ bytes. bytes.items) c.in_ok-contents.contents.items ≡ map (λ (half : SlaveHalf). bytes_of half.words) c.args.site.now.seen.state.halves =
      c.in_ok-contents.ensures ∙ ap (λ halves. map (λ (half : SlaveHalf). bytes_of half.words) halves) c.halves.ensures in
      subst (λ bytes. AreOpenedAs g.S.Store.opened (names_of c.args.line.now) bytes c.in_ok-images.images.items) contents (rw (c.deref.ensures.value, c.deref-2.ensures.value) at c.in_ok-images.ensures.opened);
}
